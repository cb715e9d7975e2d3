-- What verdicts on assertions claim of all runs, and the calls and answers that they speak of (Hermenegildo, Puebla, Bueno and
-- Lopez-Garcia, "Integrated Program Debugging, Verification, and Optimization Using Abstract Interpretation", 2005).
use Rattle.std.specs.Prelude.{◌≡◌, ℕ, List, ◌∷◌}
use Rattle.plai_terms.specs.declared.term.Term.{Term}
use Rattle.plai_terms.specs.declared.pred_key.PredKey.{PredKey}
use Rattle.plai_domain.specs.Plain.{PlainDomain}
use Rattle.plai_domain.specs.Instances.{has_properties}
use Rattle.plai_clauses.specs.declared.check.Check.{Check}
use Rattle.plai_clauses.specs.declared.check.CheckKind.{CheckKind}
use Rattle.plai_clauses.specs.declared.check.CheckKind.TheVariants.{Calls, Success}
use Rattle.plai_assert.specs.declared.verdict.Verdict.{Verdict}
use Rattle.plai_assert.specs.declared.verdict.Verdict.TheVariants.{Checked, False, Check as Unknown}
use Rattle.plai_clauses.specs.Program.{ProgramView}
use Rattle.plai_sld.specs.declared.item.Item.{Item}
use Rattle.plai_sld.specs.declared.item.Item.TheVariants.{Call, Mark}
use Rattle.plai_sld.specs.Runs.{RunState, start_of, IsRun}
use Rattle.plai_sld.specs.Described.{IsDescribedGoal}

-- a state of a run from a described goal
abbrev pub IsReached : PlainDomain → ProgramView → RunState → Type 0
IsReached p program state =
    (pred : PredKey) × (args : List Term) × IsDescribedGoal p program pred args
    × (choices : List ℕ) × IsRun program (start_of pred args) choices state

-- in some run from a described goal the predicate is called with these arguments
abbrev pub IsCalled : PlainDomain → ProgramView → PredKey → List Term → Type 0
IsCalled p program pred args =
    (state : RunState) × IsReached p program state × (rest : List Item) × (state.items ≡ Call pred args ∷ rest)

-- in some run from a described goal the predicate answers: with the arguments of its call as they were, and as they are
abbrev pub IsAnswered : PlainDomain → ProgramView → PredKey → List Term → List Term → Type 0
IsAnswered p program pred was now =
    (state : RunState) × IsReached p program state × (rest : List Item) × (state.items ≡ Mark pred was now ∷ rest)

-- What the verdict on an assertion of that kind promises. Of calls: that all have what is demanded of calls, or that none has all
-- of it. Of answers to calls that had what is demanded of calls: that all have what is demanded of answers, or that none has
-- all of it. The third promises nothing.
abbrev pub Promises : CheckKind → Verdict → PlainDomain → ProgramView → Check → Type 0
Promises kind Unknown p program check = Unit {0}
Promises Calls Checked p program check = (args : List Term) → IsCalled p program check.pred args → has_properties args check.pre
Promises Calls False p program check = (args : List Term) → IsCalled p program check.pred args → ¬ (has_properties args check.pre)
Promises Success Checked p program check =
    (was now : List Term) → IsAnswered p program check.pred was now → has_properties was check.pre → has_properties now check.post
Promises Success False p program check =
    (was now : List Term) → IsAnswered p program check.pred was now → has_properties was check.pre → ¬ (has_properties now check.post)

-- the verdict on the assertion keeps its promise in all runs
abbrev pub IsKeptByRuns : PlainDomain → ProgramView → Check → Verdict → Type 0
IsKeptByRuns p program check verdict = Promises check.kind verdict p program check
