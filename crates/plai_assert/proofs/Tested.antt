-- Verdicts by tests of rows.
use Rattle.std.proofs.Common.{◌≡◌, ◌≢◌, ◌∙◌, ℕ, Bool, true, false, cond, not, ◌||◌, List, [], ◌∷◌, map, All, refl, sym, ap}
use Rattle.std.specs.List.{list_all}
use Rattle.std.specs.List.Sorted.{IsPermutation}
use Rattle.plai_terms.specs.declared.abs.Abs.{Abs}
use Rattle.plai_terms.specs.declared.abs.Abs.TheVariants.{Nothing, Pos, Groups, Terms}
use Rattle.plai_terms.specs.declared.prop.Prop.{Prop}
use Rattle.plai_terms.specs.declared.pred_key.PredKey.{PredKey}
use Rattle.plai_terms.specs.declared.plain_row.PlainRow.{PlainRow}
use Rattle.plai_domain.specs.Plain.{PlainDomain}
use Rattle.plai_clauses.specs.declared.check.Check.{Check}
use Rattle.plai_clauses.specs.declared.check.CheckKind.{CheckKind}
use Rattle.plai_clauses.specs.declared.check.CheckKind.TheVariants.{Calls, Success}
use Rattle.plai_assert.specs.declared.row.Row.{Row}
use Rattle.plai_assert.specs.declared.sides.Side.TheVariants.{Holds, Fails}
use Rattle.plai_assert.specs.declared.verdict.Verdict.{Verdict}
use Rattle.plai_assert.specs.declared.verdict.Verdict.TheVariants.{Checked, False, Check as Unknown}
use Rattle.plai_assert.specs.Groups.{AreGroupsOf, verdict_among}
use Rattle.plai_assert.specs.Rows.{plain}
use Rattle.plai_assert.specs.Sides.{all_tell}
use Rattle.plai_assert.specs.Verdicts.{entails_all, excludes_one, of_answer, rows_of, verdict_by, verdict_of_kind, verdict_of, verdicts_of}
use Rattle.plai_assert.proofs.Grouping.{group_plain}
use Rattle.plai_assert.proofs.Lists.{all_kept, filter_moved, filters_moved}

-- an answer that is there
pub of_some : (test : Abs → Bool) (a : Abs) → a ≢ Nothing → of_answer test a ≡ test a
of_some test Nothing h = absurd (h refl)
of_some test (Pos n masks) h = refl
of_some test (Groups n groups free) h = refl
of_some test (Terms skeletons) h = refl

told : (a b c d : Bool) → a ≡ b → c ≡ d → cond a Checked (cond c False Unknown) ≡ cond b Checked (cond d False Unknown)
told a b c d e f = λ i. cond (e i) Checked (cond (f i) False Unknown)

-- the verdict by the two tests
pub verdict_told : (kind : CheckKind) (p : PlainDomain) (check : Check) (rows : List PlainRow)
    → verdict_of_kind kind p check rows ≡ cond (all_tell kind Holds p check rows) Checked (cond (all_tell kind Fails p check rows) False Unknown)
verdict_told Calls p check rows = refl
verdict_told Success p check rows =
    let out : PlainRow → Bool = λ row. excludes_one p check.pre row.name.call in
    told _ _ _ _ (all_kept out (λ row. of_answer (entails_all p check.post) row.answer) rows)
    (all_kept out (λ row. of_answer (excludes_one p check.post) row.answer) rows)

-- without rows
pub verdict_none : (kind : CheckKind) (p : PlainDomain) (check : Check) → verdict_of_kind kind p check [] ≡ Checked
verdict_none Calls p check = refl
verdict_none Success p check = refl

-- by the rows that are found
pub verdicts_found : {V : Type 0} (value_of : V → Abs) (p : PlainDomain) (es : List (PredKey × List (Row V))) (rows : List (Row V)) → AreGroupsOf es rows
    → (checks : List Check) → map (verdict_among value_of p es) checks ≡ verdicts_of p (map (plain value_of) rows) checks
verdicts_found value_of p es rows are [] = refl
verdicts_found value_of p es rows are (check ∷ checks) =
    let same = ap (map (plain value_of)) (are check.pred) ∙ group_plain value_of rows check.pred in
    let rest = verdicts_found value_of p es rows are checks in
    λ i. verdict_of_kind check.kind p check (same i) ∷ rest i

-- in another order of the rows
kind_moved : (kind : CheckKind) (p : PlainDomain) (check : Check) (rows others : List PlainRow) → IsPermutation rows others
    → verdict_of_kind kind p check (rows_of check.pred rows) ≡ verdict_of_kind kind p check (rows_of check.pred others)
kind_moved Calls p check rows others moved =
    told _ _ _ _ (filter_moved _ (λ row. entails_all p check.pre row.name.call) rows others moved)
    (filter_moved _ (λ row. excludes_one p check.pre row.name.call) rows others moved)
kind_moved Success p check rows others moved =
    told _ _ _ _ (filters_moved _ _ (λ row. of_answer (entails_all p check.post) row.answer) rows others moved)
    (filters_moved _ _ (λ row. of_answer (excludes_one p check.post) row.answer) rows others moved)

pub verdicts_moved : (p : PlainDomain) (rows others : List PlainRow) (checks : List Check) → IsPermutation rows others
    → verdicts_of p rows checks ≡ verdicts_of p others checks
verdicts_moved p rows others [] moved = refl
verdicts_moved p rows others (check ∷ checks) moved =
    let first = kind_moved check.kind p check rows others moved in
    let rest = verdicts_moved p rows others checks moved in
    λ i. first i ∷ rest i
