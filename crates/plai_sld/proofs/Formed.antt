-- What a well-formed program keeps, in the words of variables below a number.
use Rattle.std.proofs.Common.{◌≡◌, inl, inr, ℕ, zero, suc, true, Some, List, [], ◌∷◌, length, subst}
use Rattle.std.proofs.lemmas.Bool.{and_parts}
use Rattle.plai_theory.specs.Words.{IsIn}
use Rattle.plai_theory.proofs.Rows.{item_in}
use Rattle.plai_terms.specs.Term.{occurs, has_variables_below}
use Rattle.plai_terms.specs.declared.term.Term.{Term}
use Rattle.plai_terms.specs.declared.pred_key.PredKey.{PredKey}
use Rattle.plai_terms.specs.Substitution.{occurs_in, AreBelow}
use Rattle.plai_terms.proofs.Under.{or_cases}
use Rattle.plai_terms.proofs.Within.{below_is}
use Rattle.plai_domain.specs.Instances.{all_below}
use Rattle.plai_domain.specs.Conditions.{IsHead, AreArguments}
use Rattle.plai_clauses.specs.declared.clause.Clause.{Clause}
use Rattle.plai_clauses.specs.declared.clause.Literal.{Literal}
use Rattle.plai_clauses.specs.declared.clause.Target.TheVariants as target
use Rattle.plai_clauses.specs.Program.{ProgramView, clauses_of}
use Rattle.plai_clauses.specs.WellFormed.{IsTargetOf, IsWellFormedClause, IsWellFormed}
use Rattle.plai_sld.specs.Runs.{numbered_clause}

pub are_below : (limit : ℕ) (ts : List Term) → all_below limit ts ≡ true → AreBelow limit ts
are_below limit [] e v o = cc
are_below limit (t ∷ ts) e v o =
    let p = and_parts (has_variables_below limit t) (all_below limit ts) e in
    elim (or_cases (occurs v t) (occurs_in v ts) o) [
      | inl q ↦ below_is limit t p.0 v q
      | inr q ↦ are_below limit ts p.1 v q
    ]

-- a numbered clause is one of the clauses
pub numbered_in : (clauses : List Clause) (choice : ℕ) (c : Clause) → numbered_clause clauses choice ≡ Some c → IsIn c clauses
numbered_in clauses zero c e = absurd cc
numbered_in clauses (suc i) c e = item_in clauses i c e

module _ (g : ProgramView) (formed : IsWellFormed g) (p : PredKey) (c : Clause) (inside : IsIn c (clauses_of g p)) where
  pub head_is : IsHead (length c.head) c.variables c.head
  head_is = (formed.clauses p c inside).head

  pub head_below : AreBelow c.variables c.head
  head_below = are_below c.variables c.head head_is.below

  module _ (x : Literal) (part : IsIn x c.body) where
    pub args_are : AreArguments (length c.head) c.variables x.args
    args_are = ((formed.clauses p c inside).body x part).args

    pub body_below : AreBelow c.variables x.args
    body_below = are_below c.variables x.args args_are.below

    pub callee_arity : (q : PredKey) → x.target ≡ target.Pred q → q.arity ≡ length x.args
    callee_arity q e = (subst (IsTargetOf x.name (length x.args)) e ((formed.clauses p c inside).body x part).target).2

-- what holds of a numbered clause of a predicate
module _ (g : ProgramView) (formed : IsWellFormed g) (p : PredKey) (clauses : List Clause) (are : clauses ≡ clauses_of g p) (choice : ℕ) (c : Clause)
    (is : numbered_clause clauses choice ≡ Some c) where
  inside : IsIn c (clauses_of g p)
  inside = subst (λ cs. IsIn c cs) are (numbered_in clauses choice c is)

  pub numbered_formed : IsWellFormedClause c
  numbered_formed = formed.clauses p c inside

  pub numbered_arity : length c.head ≡ p.arity
  numbered_arity = formed.arities p c inside
