-- What verdicts over a list of rows say of every run, where the list describes every call and every answer.
use Rattle.std.proofs.Common.{◌≡◌, inl, inr, ℕ, true, All, List, [], ◌∷◌, length, refl, sym, subst}
use Rattle.std.specs.List.{AllByRecursion}
use Rattle.std.proofs.lemmas.List.Elements.{recursion_from_All}
use Rattle.plai_theory.specs.Words.{IsIn}
use Rattle.plai_terms.specs.declared.term.Term.{Term}
use Rattle.plai_terms.specs.declared.prop.Prop.{Prop}
use Rattle.plai_terms.specs.declared.abs.Abs.{Abs}
use Rattle.plai_terms.specs.declared.plain_row.PlainRow.{PlainRow}
use Rattle.plai_domain.specs.Plain.{PlainDomain}
use Rattle.plai_domain.specs.Instances.{has_property, has_properties, speaks_within}
use Rattle.plai_domain.specs.Soundness.{IsSound}
use Rattle.plai_clauses.specs.declared.check.Check.{Check}
use Rattle.plai_clauses.specs.declared.check.CheckKind.{CheckKind}
use Rattle.plai_clauses.specs.declared.check.CheckKind.TheVariants.{Calls, Success}
use Rattle.plai_clauses.specs.declared.entry.Entry.{Entry}
use Rattle.plai_clauses.specs.Program.{ProgramView, entries_of}
use Rattle.plai_clauses.specs.WellFormed.{IsWellFormedCheck, IsWellFormed}
use Rattle.plai_assert.specs.declared.verdict.Verdict.{Verdict}
use Rattle.plai_assert.specs.declared.verdict.Verdict.TheVariants.{Checked, False, Check as Unknown}
use Rattle.plai_assert.specs.Verdicts.{verdict_of}
use Rattle.plai_eval.proofs.Closed.{all_in}
use Rattle.plai_sld.specs.declared.item.Item.{Item}
use Rattle.plai_sld.specs.declared.item.Item.TheVariants.{Call, Mark}
use Rattle.plai_sld.specs.Runs.{RunState}
use Rattle.plai_sld.specs.States.{AreItems}
use Rattle.plai_sld.specs.Described.{IsDescribedGoal, IsFrontDescribed, AreRunsDescribed}
use Rattle.plai_sld.specs.Verdicts.{IsReached, IsCalled, IsAnswered, Promises, IsKeptByRuns}
use Rattle.plai_sld.proofs.Readings.{Excludes, AreCallsChecked, AreCallsFalse, AreAnswersChecked, AreAnswersFalse, calls_hold, calls_fail, answers_hold}
use Rattle.plai_sld.proofs.Readings.{answers_fail}
use Rattle.plai_sld.proofs.Kept.{run_state, start_is_state}

of_recursion : {A : Type 0} (P : A → Type 0) (xs : List A) → AllByRecursion P xs → (x : A) → IsIn x xs → P x
of_recursion P [] h x i = absurd i
of_recursion P (y ∷ ys) h x (inl e) = subst P e h.0
of_recursion P (y ∷ ys) h x (inr i) = of_recursion P ys h.1 x i

of_all : {A : Type 0} (P : A → Type 0) (xs : List A) → All P xs → (x : A) → IsIn x xs → P x
of_all P xs h = of_recursion P xs (recursion_from_All P xs h)

-- a goal of an entry's predicate whose arguments have the entry's properties is described
pub has_entry : (p : PlainDomain) (g : ProgramView) → IsWellFormed g → IsSound p → (entry : Entry) → IsIn entry (entries_of g) → (args : List Term)
    → length args ≡ entry.pred.arity → has_properties args entry.pre
    → IsDescribedGoal p g entry.pred args
has_entry p g formed sound entry inside args many has =
    let all : All (speaks_within (length args)) entry.pre = subst (λ n. All (speaks_within n) entry.pre) (sym many) (formed.entries entry inside).pre in
    (entry, inside, refl, subst (λ n. p.describes (p.describe n entry.pre) args) many (sound.tells_truly.describe entry.pre args all has), many)

module _ (p : PlainDomain) (g : ProgramView) (formed : IsWellFormed g) (sound : IsSound p) (rows : List PlainRow) (described : AreRunsDescribed p g rows) where
  -- a state that is reached, by its items
  reached_items : (state : RunState) → IsReached p g state → (items : List Item) → state.items ≡ items → AreItems state.next items
  reached_items state (pred, args, goal, choices, run) items e =
      subst (AreItems state.next) e (run_state g formed _ choices state (start_is_state g formed pred args goal.4) run)

  reached_front : (state : RunState) → IsReached p g state → (items : List Item) → state.items ≡ items → IsFrontDescribed p rows items
  reached_front state (pred, args, goal, choices, run) items e = subst (IsFrontDescribed p rows) e (described pred args goal choices state run)

  not_excluded : (a : Abs) (props : List Prop) (ts : List Term) (n : ℕ) → length ts ≡ n → All (speaks_within n) props → p.describes a ts
      → has_properties ts props → Excludes p a props → ⊥
  not_excluded a props ts n many within told has (q, i, e) =
      sound.tells_truly.excludes a q ts (subst (λ k. speaks_within k q) (sym many) (of_all (speaks_within n) props within q i)) told e
      (of_all (has_property ts) props has q i)

  all_entailed : (a : Abs) (props : List Prop) (ts : List Term) (n : ℕ) → length ts ≡ n → All (speaks_within n) props → p.describes a ts
      → ((q : Prop) → IsIn q props → p.entails a q ≡ true) → has_properties ts props
  all_entailed a props ts n many within told h =
      all_in (has_property ts) props (λ q i. sound.tells_truly.entails a q ts
      (subst (λ k. speaks_within k q) (sym many) (of_all (speaks_within n) props within q i)) told (h q i))

  module _ (check : Check) (good : IsWellFormedCheck check) where
    calls_checked : AreCallsChecked p rows check → (args : List Term) → IsCalled p g check.pred args → has_properties args check.pre
    calls_checked h args (state, reached, rest, e) =
        let items = reached_items state reached (Call check.pred args ∷ rest) e in
        let (row, i, is, told) = reached_front state reached (Call check.pred args ∷ rest) e in
        all_entailed row.name.call check.pre args check.pred.arity items.0.0 good.pre told (h row i is)

    calls_false : AreCallsFalse p rows check → (args : List Term) → IsCalled p g check.pred args → has_properties args check.pre → ⊥
    calls_false h args (state, reached, rest, e) has =
        let items = reached_items state reached (Call check.pred args ∷ rest) e in
        let (row, i, is, told) = reached_front state reached (Call check.pred args ∷ rest) e in
        not_excluded row.name.call check.pre args check.pred.arity items.0.0 good.pre told has (h row i is)

    answers_checked : AreAnswersChecked p rows check → (was now : List Term) → IsAnswered p g check.pred was now → has_properties was check.pre
        → has_properties now check.post
    answers_checked h was now (state, reached, rest, e) has =
        let items = reached_items state reached (Mark check.pred was now ∷ rest) e in
        let (row, i, is, called, a, answer, told) = reached_front state reached (Mark check.pred was now ∷ rest) e in
        elim (h row i is) [
          | inl out ↦ absurd (not_excluded row.name.call check.pre was check.pred.arity items.0.0 good.pre called has out)
          | inr all ↦ all_entailed a check.post now check.pred.arity items.0.1 good.post told (all a answer)
        ]

    answers_false : AreAnswersFalse p rows check → (was now : List Term) → IsAnswered p g check.pred was now → has_properties was check.pre
        → has_properties now check.post → ⊥
    answers_false h was now (state, reached, rest, e) has those =
        let items = reached_items state reached (Mark check.pred was now ∷ rest) e in
        let (row, i, is, called, a, answer, told) = reached_front state reached (Mark check.pred was now ∷ rest) e in
        elim (h row i is) [
          | inl out ↦ not_excluded row.name.call check.pre was check.pred.arity items.0.0 good.pre called has out
          | inr all ↦ not_excluded a check.post now check.pred.arity items.0.1 good.post told those (all a answer)
        ]

    kept_by : (kind : CheckKind) (verdict : Verdict) → check.kind ≡ kind → verdict_of p rows check ≡ verdict → Promises kind verdict p g check
    kept_by Calls Checked k v = calls_checked (calls_hold p rows check k v)
    kept_by Calls False k v = calls_false (calls_fail p rows check k v)
    kept_by Calls Unknown k v = tt
    kept_by Success Checked k v = answers_checked (answers_hold p rows check k v)
    kept_by Success False k v = answers_false (answers_fail p rows check k v)
    kept_by Success Unknown k v = tt

    -- Theorem: what a verdict promises holds in all runs.
    pub verdict_kept : IsKeptByRuns p g check (verdict_of p rows check)
    verdict_kept = kept_by check.kind (verdict_of p rows check) refl refl
