-- Imports decide what the literals of a clause call, and nothing else.
use Rattle.std.proofs.Common.{◌≡◌, ℕ, ◌+◌, Bool, true, false, List, [], ◌∷◌, map, length, max, nat_lt, refl, ap}
use Rattle.std.specs.Prelude.{Option, Some, None, Result, Ok, Err, IsOk, fold, codes, if◌then◌else◌}
use Rattle.plai_terms.specs.declared.term.Term.{Term, out-Term}
use Rattle.plai_terms.specs.declared.term.Term.TheOpen.{Term-F}
use Rattle.plai_terms.specs.declared.read_term.ReadTerm.{ReadTerm}
use Rattle.plai_clauses.specs.declared.clause.Clause.{Clause}
use Rattle.plai_clauses.specs.declared.clause.Literal.{Literal}
use Rattle.plai_clauses.specs.declared.cause.ClauseCause.{ClauseCause}
use Rattle.plai_clauses.specs.declared.cause.ClauseCause.TheVariants.{TooManySlots}
use Rattle.plai_clauses.specs.Builtins.{is_refused_key}
use Rattle.plai_clauses.specs.ClauseOf.{unless, cause_of_key, target_of, head_of, literal_in, literal_of, in_front, body_of, goals_of, widest, within_slots}
use Rattle.plai_clauses.specs.ClauseOf.{clause_with, clause_from, clause_in, clause_of, two_arguments}

-- literals with as many arguments each, or the same cause
SameWidth : Result Literal ClauseCause → Result Literal ClauseCause → Type 0
SameWidth (Ok a) (Ok b) = length a.args ≡ length b.args
SameWidth (Err c) (Err d) = Unit {0}
SameWidth _ _ = ⊥

widths : List Literal → List ℕ
widths = map (λ literal. length literal.args)

SameWidths : Result (List Literal) ClauseCause → Result (List Literal) ClauseCause → Type 0
SameWidths (Ok a) (Ok b) = widths a ≡ widths b
SameWidths (Err c) (Err d) = Unit {0}
SameWidths _ _ = ⊥

unless_same : (cause : Option ClauseCause) (a b : Literal) → length a.args ≡ length b.args → SameWidth (unless cause a) (unless cause b)
unfolding SameWidth
unless_same (Some c) a b e = tt
unless_same None a b e = e

in_front_same : (a b : Result Literal ClauseCause) (xs ys : Result (List Literal) ClauseCause) → SameWidth a b → SameWidths xs ys
    → SameWidths (in_front a xs) (in_front b ys)
unfolding SameWidth SameWidths widths
in_front_same (Ok a) (Ok b) (Ok xs) (Ok ys) p q = cc
in_front_same (Ok a) (Ok b) (Err c) (Err d) p q = tt
in_front_same (Err c) (Err d) xs ys p q = tt
in_front_same (Ok a) (Err d) xs ys p q = absurd p
in_front_same (Err c) (Ok b) xs ys p q = absurd p
in_front_same (Ok a) (Ok b) (Ok xs) (Err d) p q = absurd q
in_front_same (Ok a) (Ok b) (Err c) (Ok ys) p q = absurd q

IsFound : Result Clause ClauseCause → Result Clause ClauseCause → Type 0
IsFound a b = IsOk a → IsOk b

tested : (p q : Bool) (c d : ClauseCause) (x y : Clause) → p ≡ q → IsOk (if p then Err c else Ok x) → IsOk (if q then Err d else Ok y)
tested true true c d x y e h = h
tested false false c d x y e h = h
tested true false c d x y e h = cc
tested false true c d x y e h = cc

within_same : (variables : ℕ) (head : List ℕ × List Term) (xs ys : List Literal) → widths xs ≡ widths ys
    → IsFound (within_slots variables head xs) (within_slots variables head ys)
unfolding IsFound widths
within_same variables head xs ys e =
    let slots = λ (n : ℕ). length head.1 + variables + n in
    let same : widest xs ≡ widest ys = ap (fold max 0) e in
    tested (nat_lt 64 (slots (widest xs))) (nat_lt 64 (slots (widest ys))) (TooManySlots (slots (widest xs))) (TooManySlots (slots (widest ys)))
    (record { name = head.0; head = head.1; variables = variables; body = xs }) (record { name = head.0; head = head.1; variables = variables; body = ys })
    (ap (λ n. nat_lt 64 (slots n)) same)

clause_same : (variables : ℕ) (head : Result (List ℕ × List Term) ClauseCause) (xs ys : Result (List Literal) ClauseCause) → SameWidths xs ys
    → IsFound (clause_with variables head xs) (clause_with variables head ys)
unfolding IsFound SameWidths
clause_same variables (Err c) xs ys p = λ h. h
clause_same variables (Ok head) (Ok xs) (Ok ys) p = within_same variables head xs ys p
clause_same variables (Ok head) (Err c) (Err d) p = λ h. h
clause_same variables (Ok head) (Ok xs) (Err d) p = absurd p
clause_same variables (Ok head) (Err c) (Ok ys) p = absurd p

module _ (m : List ℕ) (imports : List (List ℕ × ℕ × List ℕ)) where
  literal_same : (y : Term-F Term) → SameWidth (literal_in m [] y) (literal_in m imports y)
  unfolding SameWidth
  literal_same (Term-F.Var v) = tt
  literal_same (Term-F.Int n) = tt
  literal_same (Term-F.Atom name) =
      unless_same (cause_of_key (is_refused_key name 0) name 0) (record { name = name; args = []; target = target_of m [] name 0 })
      (record { name = name; args = []; target = target_of m imports name 0 }) refl
  literal_same (Term-F.Compound name args) =
      unless_same (cause_of_key (is_refused_key name (length args)) name (length args))
      (record { name = name; args = args; target = target_of m [] name (length args) })
      (record { name = name; args = args; target = target_of m imports name (length args) }) refl

  body_same : (goals : List Term) → SameWidths (body_of m [] goals) (body_of m imports goals)
  unfolding SameWidths
  body_same [] = refl
  body_same (goal ∷ goals) = in_front_same (literal_of m [] goal) (literal_of m imports goal) (body_of m [] goals) (body_of m imports goals)
      (literal_same (out-Term goal)) (body_same goals)

  from_same : (variables : ℕ) (head : Term) (goals : List Term) → IsFound (clause_from m [] variables head goals) (clause_from m imports variables head goals)
  from_same variables head goals = clause_same variables (head_of head) (body_of m [] goals) (body_of m imports goals) (body_same goals)

  in_same : (read : ReadTerm) (rule grammar : Option (Term × Term)) → IsFound (clause_in m [] read rule grammar) (clause_in m imports read rule grammar)
  unfolding IsFound
  in_same read (Some rule) grammar = from_same read.variables rule.0 (goals_of rule.1)
  in_same read None (Some g) = λ h. h
  in_same read None None = from_same read.variables read.term []

  -- Theorem: whether a term says a clause doesn't depend on what its module imports.
  pub kept : (read : ReadTerm) → IsOk (clause_of m [] read) → IsOk (clause_of m imports read)
  unfolding IsFound
  kept read = in_same read (two_arguments (codes ":-") read.term) (two_arguments (codes "-->") read.term)
