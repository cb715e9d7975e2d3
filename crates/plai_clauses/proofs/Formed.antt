-- A clause that a term says is well formed: its terms are parts of the term, and its bounds were tested.
use Rattle.std.proofs.Common.{◌≡◌, ◌∙◌, ℕ, ◌+◌, ◌≤◌, Bool, true, false, ◌&&◌, ◌||◌, max, fold, map, Option, Some, None, Result, Ok, Err, List, [], ◌∷◌, ◌++◌}
use Rattle.std.proofs.Common.{length, refl, sym, ap, subst, inl, inr, arith, rules, if◌then◌else◌, codes}
use Rattle.std.proofs.lemmas.Bool.{ltb-false, and_parts, and_from}
use Rattle.std.specs.Prelude.{flat_map, nat_lt, nat_eq, IfOk}
use Rattle.std.specs.List.{list_all, AllByRecursion}
use Rattle.std.specs.Cmp.Lexicographic.{pointwise}
use Rattle.plai_theory.specs.Words.{IsIn}
use Rattle.plai_theory.proofs.Options.{by_test}
use Rattle.plai_terms.proofs.Terms.{induction}
use Rattle.plai_terms.specs.Term.{has_variables_below}
use Rattle.plai_terms.specs.declared.read_term.ReadTerm.{ReadTerm}
use Rattle.plai_terms.specs.declared.term.Term.{Term, Var, Int, Atom, Compound, the_lemmas}
use Rattle.plai_domain.specs.Instances.{all_below}
use Rattle.plai_clauses.specs.declared.clause.Clause.{Clause}
use Rattle.plai_clauses.specs.declared.clause.Literal.{Literal}
use Rattle.plai_clauses.specs.declared.clause.Target.TheVariants.{Pred, Builtin}
use Rattle.plai_clauses.specs.declared.cause.ClauseCause.{ClauseCause}
use Rattle.plai_clauses.specs.declared.cause.ClauseCause.TheVariants.{NotAClause, Unsupported, TooManySlots}
use Rattle.plai_clauses.specs.declared.cause.ClauseFail.{ClauseFail}
use Rattle.plai_terms.specs.Readable.{IsReadable}
use Rattle.plai_clauses.specs.Builtins.{is_builtin_key, is_refused_key}
use Rattle.plai_clauses.specs.ClauseOf.{is_conjunction, goals_of, spoken_of, target_of, head_at, head_of, literal_at, literal_of, body_of, two, two_arguments}
use Rattle.plai_clauses.specs.ClauseOf.{widest, within_slots, clause_with, clause_from, clause_in, clause_of, Answers}
use Rattle.plai_clauses.specs.WellFormed.{IsTargetOf, IsWellFormedClause}
use Rattle.plai_clauses.proofs.Bodies.{two_arguments-Compound, named_pair, goals_of-Var, goals_of-Int, goals_of-Atom, goals_of-joined, goals_of-single}
use Rattle.plai_clauses.proofs.PutLiterals.{unless_ok, in_front_all}

-- variables of parts of a term

below-Compound : (limit : ℕ) (name : List ℕ) (args : List Term)
    → has_variables_below limit (Compound name args) ≡ list_all (λ b. b) (map (has_variables_below limit) args)
below-Compound limit name args = search (rules, the_lemmas)

all_below-map : (limit : ℕ) (args : List Term) → list_all (λ b. b) (map (has_variables_below limit) args) ≡ all_below limit args
all_below-map limit [] = refl
all_below-map limit (a ∷ args) = ap (λ b. has_variables_below limit a && b) (all_below-map limit args)

arguments_below : (limit : ℕ) (name : List ℕ) (args : List Term) → has_variables_below limit (Compound name args) ≡ true → all_below limit args ≡ true
arguments_below limit name args e = sym (all_below-map limit args) ∙ sym (below-Compound limit name args) ∙ e

all_below-append : (limit : ℕ) (xs ys : List Term) → all_below limit xs ≡ true → all_below limit ys ≡ true → all_below limit (xs ++ ys) ≡ true
all_below-append limit [] ys e f = f
all_below-append limit (x ∷ xs) ys e f =
    let p = and_parts (has_variables_below limit x) (all_below limit xs) e in
    and_from (has_variables_below limit x) (all_below limit (xs ++ ys)) p.0 (all_below-append limit xs ys p.1 f)

pair_below : (limit : ℕ) (args : List Term) (h b : Term) → all_below limit args ≡ true → two args ≡ Some (h, b)
    → (has_variables_below limit h ≡ true) × (has_variables_below limit b ≡ true)
pair_below limit [] h b e f = cc
pair_below limit (x ∷ []) h b e f = cc
pair_below limit (x ∷ y ∷ []) h b e f =
    let p = and_parts (has_variables_below limit x) (has_variables_below limit y && true) e in
    let q = and_parts (has_variables_below limit y) true p.1 in
    let r : (x, y) ≡ (h, b) = cc in
    (sym (ap (λ (z : Term × Term). has_variables_below limit z.0) r) ∙ p.0, sym (ap (λ (z : Term × Term). has_variables_below limit z.1) r) ∙ q.0)
pair_below limit (x ∷ y ∷ z ∷ args) h b e f = cc

abbrev HasPartsBelow : ℕ → List ℕ → Term → Type 0
HasPartsBelow limit wanted t = (h b : Term) → has_variables_below limit t ≡ true → two_arguments wanted t ≡ Some (h, b)
    → (has_variables_below limit h ≡ true) × (has_variables_below limit b ≡ true)

parts_below : (limit : ℕ) (wanted : List ℕ) (t : Term) → HasPartsBelow limit wanted t
parts_below limit wanted = induction (HasPartsBelow limit wanted)
    (λ v h b e f. let no : two_arguments wanted (Var v) ≡ None = search (rules, the_lemmas) in cc)
    (λ n h b e f. let no : two_arguments wanted (Int n) ≡ None = search (rules, the_lemmas) in cc)
    (λ a h b e f. let no : two_arguments wanted (Atom a) ≡ None = search (rules, the_lemmas) in cc)
    (λ name args all h b e f. pair_below limit args h b (arguments_below limit name args e)
    (named_pair (pointwise nat_eq name wanted) args h b (sym (two_arguments-Compound wanted name args) ∙ f)))

-- variables of the goals of a term

abbrev HasGoalsBelow : ℕ → Term → Type 0
HasGoalsBelow limit t = has_variables_below limit t ≡ true → all_below limit (goals_of t) ≡ true

alone_below : (limit : ℕ) (t : Term) → goals_of t ≡ t ∷ [] → HasGoalsBelow limit t
alone_below limit t g e = ap (all_below limit) g ∙ and_from (has_variables_below limit t) true e refl

joined_below : (limit : ℕ) (args : List Term) → AllByRecursion (HasGoalsBelow limit) args → all_below limit args ≡ true
    → all_below limit (flat_map goals_of args) ≡ true
joined_below limit [] all e = refl
joined_below limit (a ∷ args) all e =
    let p = and_parts (has_variables_below limit a) (all_below limit args) e in
    all_below-append limit (goals_of a) (flat_map goals_of args) (all.0 p.0) (joined_below limit args all.1 p.1)

goals_below : (limit : ℕ) (t : Term) → HasGoalsBelow limit t
goals_below limit = induction (HasGoalsBelow limit)
    (λ v. alone_below limit (Var v) (goals_of-Var v))
    (λ n. alone_below limit (Int n) (goals_of-Int n))
    (λ a. alone_below limit (Atom a) (goals_of-Atom a))
    (λ name args all e. by_test (is_conjunction name (length args))
    (λ t. ap (all_below limit) (goals_of-joined name args t) ∙ joined_below limit args all (arguments_below limit name args e))
    (λ t. alone_below limit (Compound name args) (goals_of-single name args t) e))

-- the head

abbrev IsHeadWithin : ℕ → List ℕ × List Term → Type 0
IsHeadWithin limit head = (length head.1 ≤ 16) × (all_below limit head.1 ≡ true)

head_at_within : (limit : ℕ) (name : List ℕ) (args : List Term) (head : List ℕ × List Term) → all_below limit args ≡ true → head_at name args ≡ Ok head
    → IsHeadWithin limit head
head_at_within limit name args head b e =
    let p = unless_ok (is_builtin_key name (length args) || is_refused_key name (length args)) name (length args) (name, args) head e in
    subst (λ (h : List ℕ × List Term). IsHeadWithin limit h) p.1 (p.0, b)

abbrev HasHeadWithin : ℕ → Term → Type 0
HasHeadWithin limit t = (head : List ℕ × List Term) → has_variables_below limit t ≡ true → head_of t ≡ Ok head → IsHeadWithin limit head

head_within : (limit : ℕ) (t : Term) → HasHeadWithin limit t
head_within limit = induction (HasHeadWithin limit)
    (λ v head b e. let no : head_of (Var v) ≡ Err NotAClause = search (rules, the_lemmas) in cc)
    (λ n head b e. let no : head_of (Int n) ≡ Err NotAClause = search (rules, the_lemmas) in cc)
    (λ a head b e. let is : head_of (Atom a) ≡ head_at a [] = search (rules, the_lemmas) in head_at_within limit a [] head refl (sym is ∙ e))
    (λ name args all head b e.
    let is : head_of (Compound name args) ≡ head_at name args = search (rules, the_lemmas) in
    head_at_within limit name args head (arguments_below limit name args b) (sym is ∙ e))

-- Slots of the literals of a body: none has more arguments than the widest.

max_up : (ns : List ℕ) (a : ℕ) → a ≤ fold max a ns
max_up [] a = omega arith
max_up (n ∷ ns) a = let h = max_up ns (max a n) in omega arith

below_widest : (ls : List Literal) (a : ℕ) (l : Literal) → IsIn l ls → length l.args ≤ fold max a (map (λ k. length k.args) ls)
below_widest [] a l i = absurd i
below_widest (k ∷ ls) a l (inl e) =
    let h = max_up (map (λ k. length k.args) ls) (max a (length k.args)) in
    subst (λ (x : Literal). length x.args ≤ fold max (max a (length k.args)) (map (λ k. length k.args) ls)) e (omega arith)
below_widest (k ∷ ls) a l (inr i) = below_widest ls (max a (length k.args)) l i

in_all : (P : Literal → Type 0) (ls : List Literal) → AllByRecursion P ls → (l : Literal) → IsIn l ls → P l
in_all P [] all l i = absurd i
in_all P (k ∷ ls) all l (inl e) = subst P e all.0
in_all P (k ∷ ls) all l (inr i) = in_all P ls all.1 l i

abbrev slots_of : ℕ → List ℕ × List Term → List Literal → ℕ
slots_of v head body = length head.1 + v + widest body

few_slots : (v : ℕ) (head : List ℕ × List Term) (body : List Literal) (clause : Clause) → within_slots v head body ≡ Ok clause
    → (slots_of v head body ≤ 64) × (record { name = head.0; head = head.1; variables = v; body = body } ≡ clause)
few_slots v head body clause e = by_test (nat_lt 64 (slots_of v head body)) (λ t. absurd (many t)) (λ t. (ltb-false 64 (slots_of v head body) t, few t))
  where
    many : nat_lt 64 (slots_of v head body) ≡ true → ⊥
    many t = let f : within_slots v head body ≡ Err (TooManySlots (slots_of v head body)) = rw t refl in cc

    few : nat_lt 64 (slots_of v head body) ≡ false → record { name = head.0; head = head.1; variables = v; body = body } ≡ clause
    few t = let f : within_slots v head body ≡ Ok (record { name = head.0; head = head.1; variables = v; body = body }) = rw t refl in cc

module _ (m : List ℕ) (is : List (List ℕ × ℕ × List ℕ)) where
  -- the literals

  target_at : (name : List ℕ) (arity : ℕ) (b : Bool) → is_builtin_key name arity ≡ b
      → IsTargetOf name arity (if b then Builtin else Pred (record { «module» = spoken_of m is name arity; name = name; arity = arity }))
  target_at name arity true e = e
  target_at name arity false e = (e, refl, refl)

  target_is : (name : List ℕ) (arity : ℕ) → IsTargetOf name arity (target_of m is name arity)
  target_is name arity = target_at name arity (is_builtin_key name arity) refl

  abbrev IsLiteralWithin : ℕ → Literal → Type 0
  IsLiteralWithin limit l = (length l.args ≤ 16) × (all_below limit l.args ≡ true) × IsTargetOf l.name (length l.args) l.target

  literal_at_within : (limit : ℕ) (name : List ℕ) (args : List Term) (l : Literal) → all_below limit args ≡ true → literal_at m is name args ≡ Ok l
      → IsLiteralWithin limit l
  literal_at_within limit name args l b e =
      let p = unless_ok (is_refused_key name (length args)) name (length args)
      (record { name = name; args = args; target = target_of m is name (length args) }) l e in
      subst (λ (k : Literal). IsLiteralWithin limit k) p.1 (p.0, b, target_is name (length args))

  abbrev HasLiteralWithin : ℕ → Term → Type 0
  HasLiteralWithin limit t = (l : Literal) → has_variables_below limit t ≡ true → literal_of m is t ≡ Ok l → IsLiteralWithin limit l

  literal_within : (limit : ℕ) (t : Term) → HasLiteralWithin limit t
  literal_within limit = induction (HasLiteralWithin limit)
      (λ v l b e. let no : literal_of m is (Var v) ≡ Err (Unsupported (codes "call") 1) = search (rules, the_lemmas) in cc)
      (λ n l b e. let no : literal_of m is (Int n) ≡ Err NotAClause = search (rules, the_lemmas) in cc)
      (λ a l b e. let so : literal_of m is (Atom a) ≡ literal_at m is a [] = search (rules, the_lemmas) in literal_at_within limit a [] l refl (sym so ∙ e))
      (λ name args all l b e.
      let so : literal_of m is (Compound name args) ≡ literal_at m is name args = search (rules, the_lemmas) in
      literal_at_within limit name args l (arguments_below limit name args b) (sym so ∙ e))

  body_within : (limit : ℕ) (goals : List Term) (body : List Literal) → all_below limit goals ≡ true → body_of m is goals ≡ Ok body
      → AllByRecursion (IsLiteralWithin limit) body
  body_within limit [] body b e = let f : [] ≡ body = cc in subst (λ (ks : List Literal). AllByRecursion (IsLiteralWithin limit) ks) f tt
  body_within limit (goal ∷ goals) body b e =
      let p = and_parts (has_variables_below limit goal) (all_below limit goals) b in
      in_front_all (IsLiteralWithin limit) (literal_of m is goal) (body_of m is goals) body
      (λ l f. literal_within limit goal l p.0 f) (λ ls f. body_within limit goals ls p.1 f) e

  -- the clause

  formed : (v : ℕ) (head : List ℕ × List Term) (body : List Literal) (clause : Clause) → IsHeadWithin v head → AllByRecursion (IsLiteralWithin v) body
      → within_slots v head body ≡ Ok clause → IsWellFormedClause clause
  formed v head body clause h all e =
      let p = few_slots v head body clause e in
      let slots : slots_of v head body ≤ 64 = p.0 in
      let one = λ (l : Literal) (i : IsIn l body). in_all (IsLiteralWithin v) body all l i in
      subst IsWellFormedClause p.1
      (record {
        head = record { arity = refl; few = h.0; slots = omega arith; below = h.1 };
        body = λ l i.
            let w = below_widest body 0 l i in
            record { args = record { few = (one l i).0; slots = omega arith; below = (one l i).1 }; target = (one l i).2 };
      })

  formed_with : (v : ℕ) (head : Result (List ℕ × List Term) ClauseCause) (body : Result (List Literal) ClauseCause) (clause : Clause)
      → ((h : List ℕ × List Term) → head ≡ Ok h → IsHeadWithin v h) → ((ls : List Literal) → body ≡ Ok ls → AllByRecursion (IsLiteralWithin v) ls)
      → clause_with v head body ≡ Ok clause → IsWellFormedClause clause
  formed_with v (Err c) body clause f g e = cc
  formed_with v (Ok h) (Err c) clause f g e = cc
  formed_with v (Ok h) (Ok ls) clause f g e = formed v h ls clause (f h refl) (g ls refl) e

  formed_from : (v : ℕ) (head : Term) (goals : List Term) (clause : Clause) → has_variables_below v head ≡ true → all_below v goals ≡ true
      → clause_from m is v head goals ≡ Ok clause → IsWellFormedClause clause
  formed_from v head goals clause b c e =
      formed_with v (head_of head) (body_of m is goals) clause (λ h f. head_within v head h b f) (λ ls f. body_within v goals ls c f) e

  formed_in : (read : ReadTerm) (rule grammar : Option (Term × Term)) (clause : Clause) → IsReadable read → two_arguments (codes ":-") read.term ≡ rule
      → clause_in m is read rule grammar ≡ Ok clause → IsWellFormedClause clause
  formed_in read (Some parts) grammar clause r f e =
      let p = parts_below read.variables (codes ":-") read.term parts.0 parts.1 r.numbered f in
      formed_from read.variables parts.0 (goals_of parts.1) clause p.0 (goals_below read.variables parts.1 p.1) e
  formed_in read None (Some parts) clause r f e = cc
  formed_in read None None clause r f e = formed_from read.variables read.term [] clause r.numbered refl e

  -- Theorem: the clause that a term says is well formed.
  pub clause_of_formed : (read : ReadTerm) (clause : Clause) → IsReadable read → clause_of m is read ≡ Ok clause → IsWellFormedClause clause
  clause_of_formed read clause r e = formed_in read (two_arguments (codes ":-") read.term) (two_arguments (codes "-->") read.term) clause r refl e

  -- and so is the clause of a call that answers by the definition
  pub answer_formed : (read : ReadTerm) (result : Result Clause ClauseFail) → IsReadable read → Answers (clause_of m is read) result
      → IfOk result IsWellFormedClause
  answer_formed read (Ok clause) r a = clause_of_formed read clause r a
  answer_formed read (Err fail) r a = tt
