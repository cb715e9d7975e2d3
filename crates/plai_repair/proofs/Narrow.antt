-- Predicates that are called, and those of entries, have few arguments.
use Rattle.std.proofs.Common.{ℕ, ◌≤◌, List, [], ◌∷◌, length, refl, subst, inl, inr}
use Rattle.plai_theory.specs.Words.{IsIn}
use Rattle.plai_theory.specs.Domain.{Step, Goal, Do, Name}
use Rattle.plai_theory.specs.Evaluation.{calls_along, calls_of}
use Rattle.plai_theory.specs.Evaluation as theory
use Rattle.plai_theory.specs.Stages.{Reaches, AtEntry, ByCall}
use Rattle.plai_theory.proofs.Options.{given_in}
use Rattle.plai_theory.proofs.Rounds.{map_in}
use Rattle.plai_terms.specs.declared.abs.Abs.{Abs}
use Rattle.plai_terms.specs.declared.pred_key.PredKey.{PredKey}
use Rattle.plai_domain.specs.Plain.{StateView, PlainDomain}
use Rattle.plai_domain.specs.Conditions.{most_arguments}
use Rattle.plai_clauses.specs.declared.clause.Clause.{Clause}
use Rattle.plai_clauses.specs.Program.{ProgramView, clauses_of, entries_of}
use Rattle.plai_clauses.specs.WellFormed.{IsWellFormed}
use Rattle.plai_eval.specs.Meaning.{Calling, Acting, as_domain, as_program}
use Rattle.plai_eval.proofs.Lawful.{call_in}

module _ (p : PlainDomain) (s : theory.Source (as_domain p)) where
  along_narrow : (steps : List (Step Calling Acting)) → ((l : Calling) → IsIn (Goal l) steps → l.pred.arity ≤ most_arguments)
      → (st : StateView) (x : Name PredKey Abs)
      → IsIn x (calls_along (as_domain p) s steps st) → x.pred.arity ≤ most_arguments
  unfolding calls_along
  along_narrow [] h st x i = absurd i
  along_narrow (Do a ∷ rest) h st x i =
      given_in (x.pred.arity ≤ most_arguments) x ((as_domain p).refine a st) (λ next. calls_along (as_domain p) s rest next) i
      (λ next e j. along_narrow rest (λ l k. h l (inr k)) next x j)
  along_narrow (Goal l ∷ rest) h st x (inl e) = subst (λ (n : Name PredKey Abs). n.pred.arity ≤ most_arguments) e (h l (inl refl))
  along_narrow (Goal l ∷ rest) h st x (inr i) =
      given_in (x.pred.arity ≤ most_arguments) x (s l.pred ((as_domain p).call l st)) _ i
      (λ answer e j. given_in (x.pred.arity ≤ most_arguments) x ((as_domain p).back l st answer) (λ next. calls_along (as_domain p) s rest next) j
      (λ next f k. along_narrow rest (λ m n. h m (inr n)) next x k))

  called_narrow : (program : ProgramView) → IsWellFormed program → (q : PredKey) (clause : Clause) → IsIn clause (clauses_of program q)
      → (v : Abs) (x : Name PredKey Abs)
      → IsIn x (calls_of (as_domain p) s clause v) → x.pred.arity ≤ most_arguments
  unfolding calls_of
  called_narrow program good q clause inside v x i =
      given_in (x.pred.arity ≤ most_arguments) x ((as_domain p).enter clause v) (λ st. calls_along (as_domain p) s ((as_domain p).body clause) st) i
      (λ st e j. along_narrow ((as_domain p).body clause) (λ l k.
      let is = call_in (length clause.head) clause.variables clause.body (good.clauses q clause inside).body l k in
      subst (λ n. n ≤ most_arguments) is.arity is.args.few) st x j)

  -- Theorem: so do those that are reached.
  pub reached_narrow : (program : ProgramView) → IsWellFormed program → {k : ℕ} {x : Name PredKey Abs} → Reaches (as_domain p) (as_program p program) s k x
      → x.pred.arity ≤ most_arguments
  reached_narrow program good (AtEntry {x = x} i) =
      map_in (λ (n : Name PredKey Abs). n.pred.arity ≤ most_arguments) (λ entry. record { pred = entry.pred; call = p.describe entry.pred.arity entry.pre })
      (entries_of program) x i
      (λ entry j. (good.entries entry j).few)
  reached_narrow program good (ByCall {x = x} m c r i j) = called_narrow program good m.pred c i m.call x j
