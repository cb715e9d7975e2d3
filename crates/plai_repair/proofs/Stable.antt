-- Whether a list of clauses begins another one is decided.
use Rattle.std.proofs.Common.{◌≡◌, ◌↔◌, Bool, true, false, ◌&&◌, nat_eq, List, length, take, drop, refl, ap}
use Rattle.std.specs.Cmp.Lexicographic.{pointwise, pointwise_decides}
use Rattle.std.proofs.lemmas.Slice.Eq.{starts_is}
use Rattle.plai_theory.proofs.Options.{by_test}
use Rattle.plai_terms.specs.contracts.pred_key.PredKeyPartialEq.TheImpl as key_eq
use Rattle.plai_terms.proofs.SameNames.{name-Decides, key-Decides}
use Rattle.plai_terms.proofs.SameTerms.{same_term, term-Decides}
use Rattle.plai_clauses.specs.declared.clause.Clause.{Clause}
use Rattle.plai_clauses.specs.declared.clause.Literal.{Literal}
use Rattle.plai_clauses.specs.declared.clause.Target.{Target}
use Rattle.plai_clauses.specs.declared.clause.Target.TheVariants.{Pred, Builtin}
use Rattle.plai_repair.specs.Lost.{IsPrefix}
use Rattle.plai_repair.proofs.Compared.{both, literal_is, literal_parts, clause_is, clause_parts, number_is}

abbrev target_test : Target → Target → Bool
target_test (Pred a) (Pred b) = (key_eq.ghosts).eq a b
target_test Builtin Builtin = true
target_test _ _ = false

target_decides : (a b : Target) → (target_test a b ≡ true) ↔ (a ≡ b)
target_decides (Pred a) (Pred b) = (
  λ e. ap Pred ((key-Decides a b).0 e),
  λ e. (key-Decides a b).1 (let same : a ≡ b = cc in same),
)
target_decides (Pred a) Builtin = (λ e. cc, λ e. cc)
target_decides Builtin (Pred b) = (λ e. cc, λ e. cc)
target_decides Builtin Builtin = (λ e. refl, λ e. refl)

abbrev literal_test : Literal → Literal → Bool
literal_test a b = (pointwise nat_eq a.name b.name && pointwise same_term a.args b.args) && target_test a.target b.target

literal_decides : (a b : Literal) → (literal_test a b ≡ true) ↔ (a ≡ b)
literal_decides a b =
    let all =
    both _ _ (both _ _ (name-Decides a.name b.name) (pointwise_decides term-Decides a.args b.args)) (target_decides a.target b.target) in
    (λ t. literal_is a b (all.0 t), λ e. all.1 (literal_parts a b e))

abbrev clause_test : Clause → Clause → Bool
clause_test a b =
    ((pointwise nat_eq a.name b.name && pointwise same_term a.head b.head) && nat_eq a.variables b.variables) && pointwise literal_test a.body b.body

clause_decides : (a b : Clause) → (clause_test a b ≡ true) ↔ (a ≡ b)
clause_decides a b =
    let all =
    both _ _
    (both _ _ (both _ _ (name-Decides a.name b.name) (pointwise_decides term-Decides a.head b.head)) (number_is a.variables b.variables))
    (pointwise_decides literal_decides a.body b.body) in
    (λ t. clause_is a b (all.0 t), λ e. all.1 (clause_parts a b e))

pub prefix_is : (old new : List Clause) → ((IsPrefix old new → ⊥) → ⊥) → IsPrefix old new
prefix_is old new h =
    let (begins, begun) = starts_is clause_decides new old (pointwise clause_test old (take (length old) new)) refl in
    by_test (pointwise clause_test old (take (length old) new)) (λ t. (drop (length old) new, begins t))
    (λ t. absurd (h (λ p. let (more, e) = p in let u = begun more e in cc)))
