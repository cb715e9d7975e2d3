-- What verdicts say of the rows of a table.
use Rattle.std.proofs.Common.{◌≡◌, ◌⊎◌, Bool, true, not, Some, List, sym, ap, subst, inl, inr}
use Rattle.std.specs.List.{list_all}
use Rattle.plai_theory.specs.Words.{IsIn}
use Rattle.plai_theory.proofs.Options.{by_test}
use Rattle.plai_terms.specs.declared.prop.Prop.{Prop}
use Rattle.plai_terms.specs.declared.abs.Abs.{Abs}
use Rattle.plai_terms.specs.declared.abs.Abs.TheVariants.{Nothing, Pos, Groups, Terms}
use Rattle.plai_terms.specs.declared.pred_key.PredKey.{PredKey}
use Rattle.plai_terms.specs.declared.plain_row.PlainRow.{PlainRow}
use Rattle.plai_domain.specs.Plain.{PlainDomain}
use Rattle.plai_clauses.specs.declared.check.Check.{Check}
use Rattle.plai_clauses.specs.declared.check.CheckKind.{CheckKind}
use Rattle.plai_clauses.specs.declared.check.CheckKind.TheVariants.{Calls, Success}
use Rattle.plai_clauses.specs.Program.{same_pred}
use Rattle.plai_assert.specs.declared.verdict.Verdict.{Verdict}
use Rattle.plai_assert.specs.declared.verdict.Verdict.TheVariants.{Checked, False}
use Rattle.plai_assert.specs.Verdicts.{entails_all, excludes_one, of_answer, rows_of, called_with, verdict_of_kind, verdict_of}
use Rattle.plai_assert.proofs.Keys.{same_pred-same}
use Rattle.plai_assert.proofs.Lists.{all_in_list, any_in_list, in_filter}
use Rattle.plai_assert.proofs.Said.{all_hold, all_fail}
use Rattle.plai_eval.specs.LeastTable.{answer_in}

-- each of the properties is entailed
abbrev pub Entails : PlainDomain → Abs → List Prop → Type 0
Entails p a props = (property : Prop) → IsIn property props → p.entails a property ≡ true

-- one of them is excluded
abbrev pub Excludes : PlainDomain → Abs → List Prop → Type 0
Excludes p a props = (property : Prop) × IsIn property props × (p.excludes a property ≡ true)

-- of each row of the predicate
abbrev pub OfRows : List PlainRow → PredKey → (PlainRow → Type 0) → Type 0
OfRows rows pred P = (row : PlainRow) → IsIn row rows → row.name.pred ≡ pred → P row

-- of a row's answer, where it has one
abbrev pub OfAnswer : PlainRow → (Abs → Type 0) → Type 0
OfAnswer row P = (a : Abs) → answer_in row.answer ≡ Some a → P a

-- each call of the predicate entails what is demanded of calls, or each excludes it
abbrev pub AreCallsChecked : PlainDomain → List PlainRow → Check → Type 0
AreCallsChecked p rows check = OfRows rows check.pred (λ row. Entails p row.name.call check.pre)

abbrev pub AreCallsFalse : PlainDomain → List PlainRow → Check → Type 0
AreCallsFalse p rows check = OfRows rows check.pred (λ row. Excludes p row.name.call check.pre)

-- of the rows whose call doesn't exclude what is demanded of calls, each answer entails what is demanded of answers, or each
-- excludes it
abbrev pub AreAnswersChecked : PlainDomain → List PlainRow → Check → Type 0
AreAnswersChecked p rows check =
    OfRows rows check.pred (λ row. Excludes p row.name.call check.pre ⊎ OfAnswer row (λ a. Entails p a check.post))

abbrev pub AreAnswersFalse : PlainDomain → List PlainRow → Check → Type 0
AreAnswersFalse p rows check =
    OfRows rows check.pred (λ row. Excludes p row.name.call check.pre ⊎ OfAnswer row (λ a. Excludes p a check.post))

-- a test of an answer that is there
of_answer_said : (test : Abs → Bool) (answer a : Abs) → answer_in answer ≡ Some a → of_answer test answer ≡ true → test a ≡ true
of_answer_said test Nothing a e h = cc
of_answer_said test (Pos n masks) a e h = let same : Pos n masks ≡ a = cc in subst (λ x. test x ≡ true) same h
of_answer_said test (Groups n groups free) a e h = let same : Groups n groups free ≡ a = cc in subst (λ x. test x ≡ true) same h
of_answer_said test (Terms skeletons) a e h = let same : Terms skeletons ≡ a = cc in subst (λ x. test x ≡ true) same h

module _ (p : PlainDomain) (rows : List PlainRow) (check : Check) where
  abbrev own : List PlainRow
  own = rows_of check.pred rows

  entailed : (a : Abs) (props : List Prop) → entails_all p props a ≡ true → Entails p a props
  entailed a props h q i = all_in_list (p.entails a) props h q i

  excluded : (a : Abs) (props : List Prop) → excludes_one p props a ≡ true → Excludes p a props
  excluded a props h = any_in_list (p.excludes a) props h

  by_kind : (kind : CheckKind) (verdict : Verdict) → check.kind ≡ kind → verdict_of p rows check ≡ verdict → verdict_of_kind kind p check own ≡ verdict
  by_kind kind verdict k v = subst (λ (x : CheckKind). verdict_of_kind x p check own ≡ verdict) k v

  own_row : (row : PlainRow) → IsIn row rows → row.name.pred ≡ check.pred → IsIn row own
  own_row row i is = in_filter (λ r. same_pred check.pred r.name.pred) rows row i (same_pred-same check.pred row.name.pred (sym is))

  pub calls_hold : check.kind ≡ Calls → verdict_of p rows check ≡ Checked → AreCallsChecked p rows check
  calls_hold k v row i is =
      let h = all_hold (λ r. entails_all p check.pre r.name.call) (λ r. excludes_one p check.pre r.name.call) own (by_kind Calls Checked k v) in
      entailed row.name.call check.pre (all_in_list (λ (r : PlainRow). entails_all p check.pre r.name.call) own h row (own_row row i is))

  pub calls_fail : check.kind ≡ Calls → verdict_of p rows check ≡ False → AreCallsFalse p rows check
  calls_fail k v row i is =
      let h = all_fail (λ r. entails_all p check.pre r.name.call) (λ r. excludes_one p check.pre r.name.call) own (by_kind Calls False k v) in
      excluded row.name.call check.pre (all_in_list (λ (r : PlainRow). excludes_one p check.pre r.name.call) own h row (own_row row i is))

  abbrev holds : PlainRow → Bool
  holds r = of_answer (entails_all p check.post) r.answer

  abbrev fails : PlainRow → Bool
  fails r = of_answer (excludes_one p check.post) r.answer

  -- the row is left out, or passes a test that all pass that are left in
  left_in : (test : PlainRow → Bool) → list_all test (called_with p check.pre own) ≡ true → (row : PlainRow) → IsIn row rows → row.name.pred ≡ check.pred
      → Excludes p row.name.call check.pre ⊎ (test row ≡ true)
  left_in test h row i is =
      by_test (excludes_one p check.pre row.name.call)
      (λ t. inl (excluded row.name.call check.pre t))
      (λ t. inr (all_in_list test (called_with p check.pre own) h row
      (in_filter (λ (r : PlainRow). not (excludes_one p check.pre r.name.call)) own row (own_row row i is) (ap not t))))

  pub answers_hold : check.kind ≡ Success → verdict_of p rows check ≡ Checked → AreAnswersChecked p rows check
  answers_hold k v row i is =
      elim (left_in holds (all_hold holds fails (called_with p check.pre own) (by_kind Success Checked k v)) row i is) [
        | inl out ↦ inl out
        | inr t ↦ inr (λ a e. entailed a check.post (of_answer_said (entails_all p check.post) row.answer a e t))
      ]

  pub answers_fail : check.kind ≡ Success → verdict_of p rows check ≡ False → AreAnswersFalse p rows check
  answers_fail k v row i is =
      elim (left_in fails (all_fail holds fails (called_with p check.pre own) (by_kind Success False k v)) row i is) [
        | inl out ↦ inl out
        | inr t ↦ inr (λ a e. excluded a check.post (of_answer_said (excludes_one p check.post) row.answer a e t))
      ]
