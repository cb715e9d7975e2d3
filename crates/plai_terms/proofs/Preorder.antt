-- The subterms in preorder, and what is computed from the last of them to the first.
use Rattle.std.proofs.Common.{◌≡◌, ◌≢◌, ◌<◌, ℕ, ℤ, List, [], ◌∷◌, ◌++◌, map, flat_map, length, reverse, refl, sym, ap, ◌∙◌, append_assoc, arith, rules, subst}
use Rattle.std.proofs.Common.{Bor}
use Rattle.std.specs.List.{AllByRecursion}
use Rattle.std.proofs.lemmas.List.{append-nil, map-append, reverse-append, reverse-reverse}
use Rattle.std.proofs.lemmas.Grind.{flat_map-append}
use Rattle.plai_terms.specs.Preorder.{arguments_of, with_preorder, preorder, referred}
use Rattle.plai_terms.specs.declared.term.Term.{Term, out-Term, roll-Term, roll-out-Term, Var, Int, Atom, Compound, the_lemmas}
use Rattle.plai_terms.specs.declared.term.Term.TheOpen.{Term-F}
use Rattle.plai_terms.specs.declared.term.Term.TheVariants.{rolls-Var, rolls-Int, rolls-Atom, rolls-Compound}
use Rattle.plai_terms.proofs.Terms.{induction}

-- ---- the arguments

pub arguments_of-Var : (v : ℕ) → arguments_of (Var v) ≡ []
unfolding arguments_of
arguments_of-Var v = search (rules, the_lemmas)

pub arguments_of-Int : (n : ℤ) → arguments_of (Int n) ≡ []
unfolding arguments_of
arguments_of-Int n = search (rules, the_lemmas)

pub arguments_of-Atom : (a : List ℕ) → arguments_of (Atom a) ≡ []
unfolding arguments_of
arguments_of-Atom a = search (rules, the_lemmas)

pub arguments_of-Compound : (name : List ℕ) (args : List Term) → arguments_of (Compound name args) ≡ args
unfolding arguments_of
arguments_of-Compound name args = search (rules, the_lemmas)

-- ---- the equation of preorder

with-Compound : (name : List ℕ) (args : List Term)
    → with_preorder (Compound name args) ≡ (
      Compound name (map (λ p. p.0) (map with_preorder args)),
      Compound name (map (λ p. p.0) (map with_preorder args)) ∷ flat_map (λ p. p.1) (map with_preorder args),
    )
with-Compound name args = search (rules, the_lemmas)

abbrev IsFirst : Term → Type 0
IsFirst t = (with_preorder t).0 ≡ t

all_first : (args : List Term) → AllByRecursion IsFirst args → map (λ p. p.0) (map with_preorder args) ≡ args
all_first [] h = refl
all_first (a ∷ args) h = let p = h.0 in let q = all_first args h.1 in cc

is_first : (t : Term) → IsFirst t
is_first = induction IsFirst
    (λ v. search (rules, the_lemmas))
    (λ n. search (rules, the_lemmas))
    (λ a. search (rules, the_lemmas))
    (λ name args h. ap (λ p. p.0) (with-Compound name args) ∙ ap (Compound name) (all_first args h))

all_second : (args : List Term) → flat_map (λ p. p.1) (map with_preorder args) ≡ flat_map preorder args
all_second [] = refl
all_second (a ∷ args) = ap (λ r. preorder a ++ r) (all_second args)

all_themselves : (args : List Term) → map (λ p. p.0) (map with_preorder args) ≡ args
all_themselves [] = refl
all_themselves (a ∷ args) = let p = is_first a in let q = all_themselves args in cc

preorder-Compound : (name : List ℕ) (args : List Term) → preorder (Compound name args) ≡ Compound name args ∷ flat_map preorder args
preorder-Compound name args =
    ap (λ p. p.1) (with-Compound name args)
    ∙ ap (λ us. Compound name us ∷ flat_map (λ p. p.1) (map with_preorder args)) (all_themselves args)
    ∙ ap (λ ss. Compound name args ∷ ss) (all_second args)

abbrev IsUnfolded : Term → Type 0
IsUnfolded t = preorder t ≡ t ∷ flat_map preorder (arguments_of t)

-- the term, and then the subterms of its arguments
pub preorder_is : (t : Term) → preorder t ≡ t ∷ flat_map preorder (arguments_of t)
preorder_is = induction IsUnfolded
    (λ v. search (rules, the_lemmas) ∙ ap (λ us. Var v ∷ flat_map preorder us) (sym (arguments_of-Var v)))
    (λ n. search (rules, the_lemmas) ∙ ap (λ us. Int n ∷ flat_map preorder us) (sym (arguments_of-Int n)))
    (λ a. search (rules, the_lemmas) ∙ ap (λ us. Atom a ∷ flat_map preorder us) (sym (arguments_of-Atom a)))
    (λ name args h. preorder-Compound name args ∙ ap (λ us. Compound name args ∷ flat_map preorder us) (sym (arguments_of-Compound name args)))

-- ---- the walk: a stack of terms, the next last

-- the first of the terms that wait gives way to its arguments
pub forest-first : (t : Term) (ts : List Term) → flat_map preorder (t ∷ ts) ≡ t ∷ flat_map preorder (arguments_of t ++ ts)
forest-first t ts =
    ap (λ s. s ++ flat_map preorder ts) (preorder_is t)
    ∙ ap (λ s. t ∷ s) (sym (flat_map-append preorder (arguments_of t) ts))

-- ---- the terms that a list of subterms is of

-- two lists of terms with the same subterms are the same
cancel : {A : Type 0} (xs ys zs : List A) → xs ++ ys ≡ xs ++ zs → ys ≡ zs
cancel [] ys zs e = e
cancel (x ∷ xs) ys zs e = cancel xs ys zs cc

pub forest_apart : (us vs : List Term) → flat_map preorder us ≡ flat_map preorder vs → us ≡ vs
forest_apart [] [] e = refl
forest_apart [] (v ∷ vs) e = let f = sym (forest-first v vs) in cc
forest_apart (u ∷ us) [] e = let f = sym (forest-first u us) in cc
forest_apart (u ∷ us) (v ∷ vs) e =
    let f : u ∷ flat_map preorder (arguments_of u ++ us) ≡ v ∷ flat_map preorder (arguments_of v ++ vs) = sym (forest-first u us) ∙ e ∙ forest-first v vs in
    let same : u ≡ v = cc in
    let g : preorder u ++ flat_map preorder us ≡ preorder u ++ flat_map preorder vs = e ∙ ap (λ w. preorder w ++ flat_map preorder vs) (sym same) in
    let h = forest_apart us vs (cancel (preorder u) _ _ g) in
    cc

-- ---- the loop that walks

none_in : (t : Term) (x : Term-F Term) → roll-Term x ≡ t → ((name : List ℕ) (args : List Term) → t ≢ Compound name args) → arguments_of t ≡ []
none_in t (Term-F.Var v) e h = ap arguments_of (sym e ∙ rolls-Var v) ∙ arguments_of-Var v
none_in t (Term-F.Int n) e h = ap arguments_of (sym e ∙ rolls-Int n) ∙ arguments_of-Int n
none_in t (Term-F.Atom a) e h = ap arguments_of (sym e ∙ rolls-Atom a) ∙ arguments_of-Atom a
none_in t (Term-F.Compound name args) e h = absurd (h name args (sym e ∙ rolls-Compound name args))

-- what is no compound has no arguments
pub no_arguments : (t : Term) → ((name : List ℕ) (args : List Term) → t ≢ Compound name args) → arguments_of t ≡ []
no_arguments t = none_in t (out-Term t) (roll-out-Term t)

referred-push : (ts : List (Bor Term)) (t : Bor Term) → referred (ts ++ t ∷ []) ≡ referred ts ++ t.now ∷ []
referred-push ts t = map-append (λ x. x.now) ts (t ∷ [])

-- what waits, the next first, before and behind the step
before : (waiting rest : List (Bor Term)) (t : Bor Term) → waiting ≡ rest ++ t ∷ [] → reverse (referred waiting) ≡ t.now ∷ reverse (referred rest)
before waiting rest t e = ap (λ w. reverse (referred w)) e ∙ ap reverse (referred-push rest t) ∙ reverse-append (referred rest) (t.now ∷ [])

behind : (rest after : List (Bor Term)) (args : List Term) (t : Term) → args ≡ arguments_of t → referred after ≡ referred rest ++ reverse args
    → reverse (referred after) ≡ arguments_of t ++ reverse (referred rest)
behind rest after args t is e =
    ap reverse e ∙ reverse-append (referred rest) (reverse args) ∙ ap (λ z. z ++ reverse (referred rest)) (reverse-reverse args ∙ is)

pub walk_on : (nodes : List (Bor Term)) (t : Bor Term) (noted : List (Bor Term)) (waiting rest after : List (Bor Term)) (args whole : List Term)
    → waiting ≡ rest ++ t ∷ [] → noted ≡ nodes ++ t ∷ [] → args ≡ arguments_of t.now → referred after ≡ referred rest ++ reverse args
    → referred nodes ++ flat_map preorder (reverse (referred waiting)) ≡ whole → referred noted ++ flat_map preorder (reverse (referred after)) ≡ whole
walk_on nodes t noted waiting rest after args whole w n is a e =
    ap (λ z. referred z ++ flat_map preorder (reverse (referred after))) n
    ∙ ap (λ z. z ++ flat_map preorder (reverse (referred after))) (referred-push nodes t)
    ∙ ap (λ z. (referred nodes ++ t.now ∷ []) ++ flat_map preorder z) (behind rest after args t.now is a)
    ∙ append_assoc (referred nodes) (t.now ∷ []) (flat_map preorder (arguments_of t.now ++ reverse (referred rest)))
    ∙ ap (λ z. referred nodes ++ z) (sym (forest-first t.now (reverse (referred rest))))
    ∙ ap (λ z. referred nodes ++ flat_map preorder z) (sym (before waiting rest t w))
    ∙ e

pub walk_shorter : (waiting : List (Bor Term)) (t : Bor Term) (rest after : List (Bor Term)) (args : List Term)
    → waiting ≡ rest ++ t ∷ [] → args ≡ arguments_of t.now → referred after ≡ referred rest ++ reverse args
    → length (flat_map preorder (reverse (referred after))) < length (flat_map preorder (reverse (referred waiting)))
walk_shorter waiting t rest after args w is a =
    let p = ap (λ z. length (flat_map preorder z)) (before waiting rest t w) in
    let q = ap (λ z. length (flat_map preorder z)) (behind rest after args t.now is a) in
    let r = ap length (forest-first t.now (reverse (referred rest))) in
    omega (arith, p, q, r)

-- ---- back from the last subterm to the first

-- what stands behind some subterms are the subterms of some terms
suffix : (before_it after : List Term) (ts : List Term) → flat_map preorder ts ≡ before_it ++ after → (us : List Term) × (after ≡ flat_map preorder us)
suffix [] after ts e = (ts, sym e)
suffix (x ∷ xs) after [] e = cc
suffix (x ∷ xs) after (t ∷ ts) e =
    let f : t ∷ flat_map preorder (arguments_of t ++ ts) ≡ x ∷ (xs ++ after) = sym (forest-first t ts) ∙ e in
    suffix xs after (arguments_of t ++ ts) cc

-- at a subterm, the terms behind it begin with its arguments
cut_at : (n : Term) (us ws : List Term) → n ∷ flat_map preorder us ≡ flat_map preorder ws → (vs : List Term) × (us ≡ arguments_of n ++ vs)
cut_at n us [] e = cc
cut_at n us (w ∷ ws) e =
    let f : n ∷ flat_map preorder us ≡ w ∷ flat_map preorder (arguments_of w ++ ws) = e ∙ forest-first w ws in
    let same : n ≡ w = cc in
    let g : flat_map preorder us ≡ flat_map preorder (arguments_of w ++ ws) = cc in
    (ws, forest_apart us (arguments_of w ++ ws) g ∙ ap (λ t. arguments_of t ++ ws) (sym same))

-- Of the subterms of `whole`, `left` are still to come, and `done` is what f makes of the terms that the others are of.
pub record IsBack {R : Type 0} (f : Term → R) (whole : Term) (left : List Term) (done : List R) : Type 0 where
  pub terms : List Term
  pub subterms : left ++ flat_map preorder terms ≡ preorder whole
  pub results : done ≡ map f terms

-- at a subterm, the results begin with those of its arguments, and its own takes their place
pub record IsNext {R : Type 0} (f : Term → R) (whole : Term) (left : List Term) (node : Term) (done : List R) : Type 0 where
  pub others : List R
  pub split : done ≡ map f (arguments_of node) ++ others
  pub next : IsBack f whole left (f node ∷ others)

module _ {R : Type 0} (f : Term → R) (whole : Term) where
  pub back_starts : IsBack f whole (preorder whole) []
  back_starts = record { terms = []; subterms = append-nil (preorder whole); results = refl }

  pub back_next : (left : List Term) (node : Term) (done : List R) → IsBack f whole (left ++ node ∷ []) done → IsNext f whole left node done
  back_next left node done b =
      let e : left ++ node ∷ flat_map preorder b.terms ≡ preorder whole = sym (append_assoc left (node ∷ []) (flat_map preorder b.terms)) ∙ b.subterms in
      let s = suffix left (node ∷ flat_map preorder b.terms) (whole ∷ []) (append-nil (preorder whole) ∙ sym e) in
      let c = cut_at node b.terms s.0 s.1 in
      record {
        others = map f c.0;
        split = b.results ∙ ap (map f) c.1 ∙ map-append f (arguments_of node) c.0;
        next = record {
          terms = node ∷ c.0;
          subterms = ap (λ z. left ++ z) (forest-first node c.0 ∙ ap (λ us. node ∷ flat_map preorder us) (sym c.1)) ∙ e;
          results = refl;
        };
      }

  pub back_ends : (done : List R) → IsBack f whole [] done → done ≡ f whole ∷ []
  back_ends done b =
      b.results ∙ ap (map f) (forest_apart b.terms (whole ∷ []) (b.subterms ∙ sym (append-nil (preorder whole))))

  -- the same of references to subterms, of which the last is taken
  pub back_pop : (nodes rest : List (Bor Term)) (node : Bor Term) (done : List R) → nodes ≡ rest ++ node ∷ []
      → IsBack f whole (referred nodes) done → IsNext f whole (referred rest) node.now done
  back_pop nodes rest node done e b =
      back_next (referred rest) node.now done (subst (λ z. IsBack f whole z done) (ap referred e ∙ referred-push rest node) b)
