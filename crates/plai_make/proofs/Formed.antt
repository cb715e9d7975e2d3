-- The clauses and the entry are well formed.
use Rattle.std.proofs.Common.{◌≡◌, ◌⊎◌, ℕ, true, false, ◌∷◌, [], List, length, refl, subst, sym, inl, inr, arith}
use Rattle.plai_theory.specs.Words.{IsIn}
use Rattle.plai_domain.specs.Conditions.{IsHead, AreArguments}
use Rattle.plai_clauses.specs.Builtins.{builtins, is_builtin_key}
use Rattle.plai_clauses.specs.WellFormed.{IsLiteral, IsWellFormedClause, IsWellFormedEntry}
use Rattle.plai_clauses.specs.declared.clause.Literal.{Literal}
use Rattle.plai_make.proofs.Terms.{fact_below, head_below, first_below, second_below}
use Rattle.plai_make.specs.Clauses.{pred_name, fact, goal, rule, entry}

no_builtin : (number : ℕ) → is_builtin_key (pred_name number) 2 ≡ false
unfolding builtins
no_builtin number = refl

pub fact_formed : (number : ℕ) → IsWellFormedClause (fact number)
fact_formed number = record {
  head = record { arity = refl; few = omega arith; slots = omega arith; below = fact_below };
  body = λ literal none. absurd none;
}

goal_formed : (number first second : ℕ) → AreArguments 2 3 (goal number first second).args → IsLiteral 2 3 (goal number first second)
goal_formed number first second are = record { args = are; target = (no_builtin number, refl, refl) }

pub rule_formed : (number first second : ℕ) → IsWellFormedClause (rule number first second)
rule_formed number first second = record {
  head = record { arity = refl; few = omega arith; slots = omega arith; below = head_below };
  body = λ literal among. elim among [
    | inl same ↦ subst (IsLiteral 2 3) same (goal_formed first 0 2 (record { few = omega arith; slots = omega arith; below = first_below }))
    | inr (inl same) ↦ subst (IsLiteral 2 3) same (goal_formed second 2 1 (record { few = omega arith; slots = omega arith; below = second_below }))
    | inr (inr none) ↦ absurd none
  ];
}
