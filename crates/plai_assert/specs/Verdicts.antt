-- What a table says of assertions on the calls and the answers of predicates (Hermenegildo, Puebla, Bueno and Lopez-Garcia,
-- "Integrated Program Debugging, Verification, and Optimization Using Abstract Interpretation", 2005).
use Rattle.std.specs.Prelude.{Bool, true, not, cond, List, filter, map}
use Rattle.std.specs.List.{list_all, list_any}
use Rattle.plai_terms.specs.declared.prop.Prop.{Prop}
use Rattle.plai_terms.specs.declared.abs.Abs.{Abs}
use Rattle.plai_terms.specs.declared.abs.Abs.TheVariants.{Nothing}
use Rattle.plai_terms.specs.declared.pred_key.PredKey.{PredKey}
use Rattle.plai_terms.specs.declared.plain_row.PlainRow.{PlainRow}
use Rattle.plai_domain.specs.Plain.{PlainDomain}
use Rattle.plai_clauses.specs.declared.check.Check.{Check}
use Rattle.plai_clauses.specs.declared.check.CheckKind.{CheckKind}
use Rattle.plai_clauses.specs.declared.check.CheckKind.TheVariants.{Calls, Success}
use Rattle.plai_clauses.specs.Program.{same_pred}
use Rattle.plai_assert.specs.declared.verdict.Verdict.{Verdict}
use Rattle.plai_assert.specs.declared.verdict.Verdict.TheVariants.{Checked, False, Check as Unknown}

-- the pattern says that all of the properties hold
abbrev pub entails_all : PlainDomain → List Prop → Abs → Bool
entails_all p props a = list_all (p.entails a) props

-- the pattern says that one of them doesn't
abbrev pub excludes_one : PlainDomain → List Prop → Abs → Bool
excludes_one p props a = list_any (p.excludes a) props

-- a test of an answer; where there is none, it holds
abbrev pub of_answer : (Abs → Bool) → Abs → Bool
of_answer test Nothing = true
of_answer test a = test a

-- what holds of each row, else fails of each, else neither
abbrev pub verdict_by : (PlainRow → Bool) → (PlainRow → Bool) → List PlainRow → Verdict
verdict_by holds fails rows = cond (list_all holds rows) Checked (cond (list_all fails rows) False Unknown)

-- the rows of a predicate
abbrev pub rows_of : PredKey → List PlainRow → List PlainRow
rows_of pred rows = filter (λ row. same_pred pred row.name.pred) rows

-- the rows whose call may have the properties
abbrev pub called_with : PlainDomain → List Prop → List PlainRow → List PlainRow
called_with p props rows = filter (λ row. not (excludes_one p props row.name.call)) rows

-- of calls, at the rows of the predicate
abbrev pub calls_verdict : PlainDomain → Check → List PlainRow → Verdict
calls_verdict p check rows = verdict_by (λ row. entails_all p check.pre row.name.call) (λ row. excludes_one p check.pre row.name.call) rows

-- of answers, at those of these rows whose call may have what is demanded of calls
abbrev pub answers_verdict : PlainDomain → Check → List PlainRow → Verdict
answers_verdict p check rows =
    verdict_by (λ row. of_answer (entails_all p check.post) row.answer) (λ row. of_answer (excludes_one p check.post) row.answer)
    (called_with p check.pre rows)

abbrev pub verdict_of_kind : CheckKind → PlainDomain → Check → List PlainRow → Verdict
verdict_of_kind Calls = calls_verdict
verdict_of_kind Success = answers_verdict

-- what the rows say of an assertion
abbrev pub verdict_of : PlainDomain → List PlainRow → Check → Verdict
verdict_of p rows check = verdict_of_kind check.kind p check (rows_of check.pred rows)

-- of each of these
abbrev pub verdicts_of : PlainDomain → List PlainRow → List Check → List Verdict
verdicts_of p rows checks = map (verdict_of p rows) checks
