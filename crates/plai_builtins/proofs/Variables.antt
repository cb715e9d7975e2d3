-- The variables of a term, by its subterms in preorder.
use Rattle.std.proofs.Common.{◌≡◌, inl, inr, ℕ, suc, ◌+◌, ◌<◌, ◌≤◌, Bool, true, false, ◌||◌, not, cond, nat_eq, Some, List, [], ◌∷◌, ◌++◌, map, filter}
use Rattle.std.proofs.Common.{flat_map, length, take, get_or, refl, sym, ap, subst, ◌∙◌, rules, arith, Bor}
use Rattle.std.specs.List.{list_any, AllByRecursion, IsDistinct}
use Rattle.std.proofs.lemmas.Grind.{flat_map-append}
use Rattle.std.proofs.lemmas.List.{append-nil, map-append, take_more, length-take-le}
use Rattle.std.proofs.lemmas.Map.Steps.{length-le_from_distinct_below}
use Rattle.std.proofs.lemmas.List.Elements.{filter-append}
use Rattle.plai_theory.proofs.Options.{by_test}
use Rattle.plai_terms.specs.Term.{occurs}
use Rattle.plai_terms.specs.Preorder.{preorder, referred}
use Rattle.plai_terms.specs.Subst.{restricted_to}
use Rattle.plai_terms.specs.Substitution.{IsBelow}
use Rattle.plai_terms.specs.declared.outcome.Outcome.{Outcome}
use Rattle.plai_terms.specs.declared.outcome.Outcome.TheVariants.{Unified}
use Rattle.plai_terms.specs.Unification.{Bindings, UnifiesTo}
use Rattle.plai_terms.specs.declared.term.Term.{Term, Var, Compound, out-Term, the_lemmas}
use Rattle.plai_terms.specs.declared.term.Term.TheOpen.{Term-F}
use Rattle.plai_terms.proofs.Terms.{induction}
use Rattle.plai_terms.proofs.Preorder.{preorder_is, arguments_of-Compound}
use Rattle.plai_terms.proofs.Under.{or_cases, or_first, or_second}
use Rattle.plai_builtins.specs.Copies.{occurrences, each_once, variables_of, renaming}
use Rattle.plai_builtins.specs.Walks.{with_new, noted_in, noted}
use Rattle.plai_builtins.specs.Meaning.{kept_to, SolveWithin, Meets}
use Rattle.plai_builtins.proofs.Occurring.{has, turned, has_filter-pass, other_than, variables_there}

-- the variable that a term is, if it is one
abbrev pub own_in : Term-F Term → List ℕ
own_in (Term-F.Var v) = v ∷ []
own_in _ = []

abbrev pub own : Term → List ℕ
own t = own_in (out-Term t)

abbrev IsOwned : Term → Type 0
IsOwned t = occurrences t ≡ flat_map own (preorder t)

all_owned : (args : List Term) → AllByRecursion IsOwned args → flat_map (λ part. part) (map occurrences args) ≡ flat_map own (flat_map preorder args)
all_owned [] h = refl
all_owned (a ∷ args) h =
    let p = h.0 in
    let q = all_owned args h.1 in
    let r : flat_map own (preorder a ++ flat_map preorder args) ≡ flat_map own (preorder a) ++ flat_map own (flat_map preorder args) =
    flat_map-append own (preorder a) (flat_map preorder args) in
    ap (λ vs. vs ++ flat_map (λ part. part) (map occurrences args)) p ∙ ap (λ vs. flat_map own (preorder a) ++ vs) q ∙ sym r

-- the variables as they stand are those of the subterms in preorder
pub occurrences_owned : (t : Term) → occurrences t ≡ flat_map own (preorder t)
occurrences_owned = induction IsOwned
    (λ v. search (rules, the_lemmas))
    (λ n. search (rules, the_lemmas))
    (λ a. search (rules, the_lemmas))
    (λ name args h.
    let is : occurrences (Compound name args) ≡ flat_map (λ part. part) (map occurrences args) = search (rules, the_lemmas) in
    let none : own (Compound name args) ≡ [] = search (rules, the_lemmas) in
    is ∙ all_owned args h
    ∙ sym (ap (flat_map own) (preorder_is (Compound name args) ∙ ap (λ us. Compound name args ∷ flat_map preorder us) (arguments_of-Compound name args))
    ∙ ap (λ vs. vs ++ flat_map own (flat_map preorder args)) none))

-- one more at the end
dropped : (u v : ℕ) (us : List ℕ) → nat_eq u v ≡ true → filter (other_than u) (with_new us v) ≡ filter (other_than u) us
dropped u v us k =
    let no : other_than u v ≡ false = ap not (turned v u ∙ k) in
    by_test (has v us)
    (λ e. rw e refl)
    (λ e. rw e (filter-append (other_than u) us (v ∷ []) ∙ ap (λ b. filter (other_than u) us ++ cond b (v ∷ []) []) no ∙ append-nil (filter (other_than u) us)))

put_behind : (u v : ℕ) (us : List ℕ) → nat_eq u v ≡ false → u ∷ filter (other_than u) (with_new us v) ≡ with_new (u ∷ filter (other_than u) us) v
put_behind u v us k =
    let pass : other_than u v ≡ true = ap not (turned v u ∙ k) in
    let same : has v (u ∷ filter (other_than u) us) ≡ has v us = ap (λ b. b || has v (filter (other_than u) us)) k ∙ has_filter-pass v (other_than u) us pass in
    by_test (has v us)
    (λ e. rw e (ap (λ b. cond b (u ∷ filter (other_than u) us) ((u ∷ filter (other_than u) us) ++ v ∷ [])) (sym (same ∙ e))))
    (λ e.
    rw e
    (ap (λ ws. u ∷ ws) (filter-append (other_than u) us (v ∷ []) ∙ ap (λ b. filter (other_than u) us ++ cond b (v ∷ []) []) pass)
    ∙ ap (λ b. cond b (u ∷ filter (other_than u) us) ((u ∷ filter (other_than u) us) ++ v ∷ [])) (sym (same ∙ e))))

already : (u v : ℕ) (us : List ℕ) → nat_eq u v ≡ true → with_new (u ∷ us) v ≡ u ∷ us
already u v us k = rw k refl

once_push : (us : List ℕ) (v : ℕ) → each_once (us ++ v ∷ []) ≡ with_new (each_once us) v
once_push [] v = refl
once_push (u ∷ us) v =
    ap (λ ws. u ∷ filter (other_than u) ws) (once_push us v)
    ∙ by_test (nat_eq u v)
    (λ k. ap (λ ws. u ∷ ws) (dropped u v (each_once us) k) ∙ sym (already u v (filter (other_than u) (each_once us)) k))
    (λ k. put_behind u v (each_once us) k)

-- the variables of some terms, one after the other
noted_level : (us : List ℕ) (x : Term-F Term) → noted_in (each_once us) x ≡ each_once (us ++ own_in x)
noted_level us (Term-F.Var v) = sym (once_push us v)
noted_level us (Term-F.Int n) = ap each_once (sym (append-nil us))
noted_level us (Term-F.Atom a) = ap each_once (sym (append-nil us))
noted_level us (Term-F.Compound name args) = ap each_once (sym (append-nil us))

pub noted_more : (us : List ℕ) (t : Term) → noted (each_once us) t ≡ each_once (us ++ own t)
noted_more us t = noted_level us (out-Term t)

-- a step of the walk over the subterms
pub walk_notes : (nodes : List (Bor Term)) (i : ℕ) (node : Bor Term) (found after : List ℕ) → i < length nodes → node ≡ get_or nodes i node
    → found ≡ each_once (flat_map own (referred (take i nodes))) → after ≡ noted found node.now
    → after ≡ each_once (flat_map own (referred (take (i + 1) nodes)))
walk_notes nodes i node found after lt is e n =
    let cut : take (i + 1) nodes ≡ take i nodes ++ node ∷ [] = take_more nodes i node lt ∙ ap (λ x. take i nodes ++ x ∷ []) (sym is) in
    n ∙ ap (λ vs. noted vs node.now) e ∙ noted_more (flat_map own (referred (take i nodes))) node.now
    ∙ ap each_once
    (ap (λ vs. flat_map own (referred (take i nodes)) ++ vs) (sym (append-nil (own node.now)))
    ∙ sym (flat_map-append own (referred (take i nodes)) (node.now ∷ []))
    ∙ ap (flat_map own) (sym (ap referred cut ∙ map-append (λ (x : Bor Term). x.now) (take i nodes) (node ∷ []))))

-- they are distinct, and the term's
all_apart : (u : ℕ) (us : List ℕ) → AllByRecursion (λ w. nat_eq u w ≡ false) (filter (other_than u) us)
all_apart u [] = tt
all_apart u (w ∷ us) =
    by_test (nat_eq w u)
    (λ k. rw k (all_apart u us))
    (λ k. rw k (turned u w ∙ k, all_apart u us))

filter_apart : (u : ℕ) (p : ℕ → Bool) (us : List ℕ) → AllByRecursion (λ w. nat_eq u w ≡ false) us → AllByRecursion (λ w. nat_eq u w ≡ false) (filter p us)
filter_apart u p [] h = tt
filter_apart u p (w ∷ us) h = by_test (p w) (λ k. rw k (h.0, filter_apart u p us h.1)) (λ k. rw k (filter_apart u p us h.1))

filter_distinct : (p : ℕ → Bool) (us : List ℕ) → IsDistinct nat_eq us → IsDistinct nat_eq (filter p us)
unfolding IsDistinct
filter_distinct p [] h = h
filter_distinct p (u ∷ us) h =
    by_test (p u)
    (λ k. rw k (filter_apart u p us h.0, filter_distinct p us h.1))
    (λ k. rw k (filter_distinct p us h.1))

pub once_distinct : (us : List ℕ) → IsDistinct nat_eq (each_once us)
unfolding IsDistinct
once_distinct [] = tt
once_distinct (u ∷ us) = (all_apart u (each_once us), filter_distinct (other_than u) (each_once us) (once_distinct us))

-- variables below a number are at most so many
pub few_variables : (t : Term) (n : ℕ) → IsBelow n t → length (variables_of t) ≤ n
few_variables t n below =
    length-le_from_distinct_below (variables_of t) n (once_distinct (occurrences t))
    (λ v e. below v (sym (variables_there v t) ∙ any_turned v (variables_of t) e))
  where
    any_turned : (v : ℕ) (us : List ℕ) → list_any (nat_eq v) us ≡ true → has v us ≡ true
    any_turned v [] e = e
    any_turned v (u ∷ us) e =
        elim (or_cases (nat_eq v u) (list_any (nat_eq v) us) e) [
          | inl k ↦ or_first (nat_eq u v) (has v us) (turned u v ∙ k)
          | inr k ↦ or_second (nat_eq u v) (has v us) (any_turned v us k)
        ]

-- a substitution kept to a term's variables
pub restricted_is_kept : (t : Term) (s : Bindings) → restricted_to (variables_of t) s ≡ kept_to t s
restricted_is_kept t [] = refl
restricted_is_kept t (p ∷ ps) =
    ap (λ b. cond b (p ∷ restricted_to (variables_of t) ps) (restricted_to (variables_of t) ps)) (variables_there p.0 t)
    ∙ ap (λ qs. cond (occurs p.0 t) (p ∷ qs) qs) (restricted_is_kept t ps)

-- a renaming binds the variables, in turn
pub renaming_keys : (first : ℕ) (us : List ℕ) → map (λ p. p.0) (renaming first us) ≡ us
renaming_keys first [] = refl
renaming_keys first (u ∷ us) = ap (λ ws. u ∷ ws) (renaming_keys (suc first) us)

pub renaming_push : (first u : ℕ) (us : List ℕ) → renaming first (us ++ u ∷ []) ≡ renaming first us ++ (u, Var (first + length us)) ∷ []
renaming_push first u [] = ap (λ n. (u, Var n) ∷ []) (omega arith)
renaming_push first u (w ∷ us) =
    let same : suc first + length us ≡ first + length (w ∷ us) = omega arith in
    ap (λ ps. (w, Var first) ∷ ps) (renaming_push (suc first) u us ∙ ap (λ n. renaming (suc first) us ++ (u, Var n) ∷ []) same)

-- a step of the loop that renames
pub renames_one : (first i x w : ℕ) (us : List ℕ) (pairs after : Bindings) → i < length us → x ≡ get_or us i 0 → w ≡ first + i
    → pairs ≡ renaming first (take i us) → after ≡ pairs ++ (x, Var w) ∷ [] → after ≡ renaming first (take (i + 1) us)
renames_one first i x w us pairs after lt at number e a =
    let cut : take (i + 1) us ≡ take i us ++ x ∷ [] = take_more us i 0 lt ∙ ap (λ u. take i us ++ u ∷ []) (sym at) in
    let long : length (take i us) ≡ i = length-take-le i us (omega arith) in
    a ∙ ap (λ ps. ps ++ (x, Var w) ∷ []) e ∙ ap (λ n. renaming first (take i us) ++ (x, Var n) ∷ []) (number ∙ ap (λ k. first + k) (sym long))
    ∙ sym (renaming_push first x (take i us)) ∙ ap (renaming first) (sym cut)

-- what the restriction of a unifier meets
pub kept_found : (left right : Term) (ls rs : List Term) (vs : List ℕ) (o : Outcome) (s found : Bindings) → ls ≡ left ∷ [] → rs ≡ right ∷ []
    → UnifiesTo ls rs o → o ≡ Unified s → vs ≡ variables_of left → found ≡ restricted_to vs s → Meets (SolveWithin left right) (Some found)
kept_found left right ls rs vs o s found p q out e v r = (
  Unified s,
  subst (λ x. UnifiesTo x (right ∷ []) (Unified s)) p (subst (λ y. UnifiesTo ls y (Unified s)) q (subst (UnifiesTo ls rs) e out)),
  ap Some (r ∙ ap (λ us. restricted_to us s) v ∙ restricted_is_kept left s),
)
