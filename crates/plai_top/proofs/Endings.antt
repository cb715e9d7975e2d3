-- How a call ends, from what it is to do and what was written.
use Rattle.std.proofs.Common.{arith, ◌≡◌, ◌≢◌, ◌⊎◌, ℕ, List, [], ◌∷◌, None, Some, IfSome, Result, Ok, Err, take, refl, sym, ap, ◌∙◌, subst, inl, inr}
use Rattle.std.proofs.lemmas.List.{append-nil}
use Rattle.std.specs.Io.KnownBytes.{Appends, Keeps}
use Rattle.std.specs.declared.option.Option.{Option}
use Rattle.plai_base.specs.Texts.{TextMap}
use Rattle.plai_domain.specs.Plain.{PlainDomain}
use Rattle.plai_clauses.specs.Program.{ProgramView}
use Rattle.plai_clauses.specs.declared.edit_cause.EditCause.{EditCause}
use Rattle.plai_script.specs.declared.edit.Edit.{Edit}
use Rattle.plai_session.specs.Programs.{behind}
use Rattle.plai_top.specs.Blocks.{Block, texts_from, AreBlocksOf, one_more}
use Rattle.plai_top.specs.Ending.{Comes, EndsBy, EndsByEach, EndsEarly, IsFaultOrComes}
use Rattle.plai_top.specs.Outcome.{Outcome, silent, line, done, IsByWords, no_command, too_many, IsEarly, by_words, too_long, AreBlocks, IsMadeOutcome}
use Rattle.plai_top.specs.Outcome.{IsOutcome, OutcomeIsOne}
use Rattle.plai_top.specs.Outcome as outcomes
use Rattle.plai_top.specs.Plans.{IsPlan, IsFitPlan, IsLineOf, KeepsEarly, CarriesOut, IsPlanStop}
use Rattle.plai_top.specs.Stops.{status_of, IsReadEnd}
use Rattle.plai_top.specs.Tasks.{domain_of, form_of, task_of}
use Rattle.plai_top.specs.Told.{IfBothTold}
use Rattle.plai_top.specs.Writing.{WritesBlocks}
use Rattle.plai_top.specs.declared.form.Form.{Form}
use Rattle.plai_top.specs.declared.plan.Plan.{Plan}
use Rattle.plai_top.specs.declared.plan.Plan.TheVariants.{Line, Blocks}
use Rattle.plai_top.specs.declared.stop.Stop.{Stop}
use Rattle.plai_top.specs.declared.task.Task.{Task}
use Rattle.plai_top.proofs.Outcomes.{outcome_blocks}
use Rattle.plai_top.proofs.Written.{blocks_not_empty, first_extend, prefix_extends, all_extends}

-- nothing was written
pub nothing_appended : (taken : Option (List ℕ)) → Appends taken taken []
nothing_appended None = tt
nothing_appended (Some bytes) = sym (append-nil bytes)

all_kept : (taken : Option (List ℕ)) → Keeps taken taken
all_kept None = tt
all_kept (Some bytes) = refl

-- ---- blocks that were written

module _ (form : Form) (p : PlainDomain) (limit : ℕ) (given : Result ProgramView EditCause) (left : List (Result ProgramView EditCause))
    (before after : Option (List ℕ)) where
  some_blocks : (blocks : List Block) → AreBlocksOf p limit (given ∷ left) blocks → blocks ≢ []
  some_blocks blocks (one_more _ block _ rest is are) e = let wrong : (block ∷ rest) ≡ [] = e in cc

  -- not all of them
  pub cut_blocks : (stop : Stop) → WritesBlocks form p limit (given ∷ left) before after (Err stop) → (them : List Block)
      → AreBlocksOf p limit (given ∷ left) them
      → (others : List Block) × AreBlocksOf p limit (given ∷ left) others × EndsBy (status_of stop) before after (done form others)
  cut_blocks stop (text, is, wrote) them are =
      let (others, also, (rest, parts)) = first_extend p limit form (given ∷ left) before text is them are in
      let whole : List ℕ = texts_from form 0 others in (
        others,
        also,
        elim wrote [
          | inl memory ↦ inr (inr (inr (ap status_of memory.0, all_extends before after text rest whole parts memory.1)))
          | inr fault ↦ inr (inr (inl (
            ap status_of fault.0,
            blocks_not_empty form others (some_blocks others also),
            prefix_extends before after text rest whole parts fault.2,
          )))
        ],
      )

-- what carrying out a task writes
abbrev pub Carries : Option (List ℕ) → Option (List ℕ) → Result ℕ Stop → Task → ProgramView → List (Result Edit EditCause) → Type 0
Carries before after result task program items = WritesBlocks task.form (domain_of task) task.rows (Ok program ∷ behind program items) before after result

module _ (words : List (List ℕ)) (files : TextMap) (script : List ℕ) where
  -- ---- a plan that is carried out

  module _ (before after : Option (List ℕ)) where
    carried_comes : (plan : Plan) (status : ℕ) → IsPlan words files script plan → CarriesOut before after plan (Ok status)
        → (outcome : Outcome) × IsOutcome words files script outcome × Comes status before after outcome
    carried_comes (Line bytes) status is (three, took) = (line bytes.items, is, (three, took))
    carried_comes (Blocks task program items) status (settings, same, asked) written =
        let own : Carries before after (Ok status) (task_of settings) program items.items =
        subst (λ t. Carries before after (Ok status) t program items.items) (sym same) written in
        (done (form_of settings) own.blocks, outcomes.blocks settings program items.items own.blocks asked own.are, (own.is_status, own.bytes))

    module _ (one : OutcomeIsOne) where
      carried_each : (plan : Plan) (status : ℕ) → IsPlan words files script plan → CarriesOut before after plan (Ok status)
          → EndsByEach words (IsOutcome words files script) status before after
      carried_each plan status is carried outcome has =
          let (other, also, comes) = carried_comes plan status is carried in
          (other, also, one words files script outcome other has also, inl comes)

      cut_each : (plan : Plan) (stop : Stop) → IsPlan words files script plan → IsFitPlan plan → CarriesOut before after plan (Err stop)
          → EndsByEach words (IsOutcome words files script) (status_of stop) before after
      cut_each (Line bytes) stop is some (fault, first) outcome has =
          (line bytes.items, is, one words files script outcome (line bytes.items) has is, inr (inr (inl (ap status_of fault, some, first))))
      cut_each (Blocks task program items) stop (settings, same, asked) fit cut outcome is =
          let own : Carries before after (Err stop) (task_of settings) program items.items =
          subst (λ t. Carries before after (Err stop) t program items.items) (sym same) cut in
          let (them, are, own_is) = outcome_blocks words files script settings program items.items asked outcome is in
          let (others, also, ends) = cut_blocks (form_of settings) (domain_of (task_of settings)) settings.rows (Ok program) (behind program items.items)
          before after stop own them are in
          let other : IsOutcome words files script (done (form_of settings) others) = outcomes.blocks settings program items.items others asked also in
          (done (form_of settings) others, other, one words files script outcome (done (form_of settings) others) is other, ends)

  -- ---- a stop before there is a plan

  stop_each : (one : OutcomeIsOne) (taken : Option (List ℕ)) (stop : Stop) → IsReadEnd stop ⊎ IsOutcome words files script (silent (status_of stop))
      → EndsByEach words (IsOutcome words files script) (status_of stop) taken taken
  stop_each one taken stop (inl (inl fault)) outcome has = (outcome, has, inl refl, inr (inl (ap status_of fault, all_kept taken)))
  stop_each one taken stop (inl (inr memory)) outcome has = (outcome, has, inl refl, inr (inr (inr (ap status_of memory, (0, nothing_appended taken)))))
  stop_each one taken stop (inr is) outcome has =
      (silent (status_of stop), is, one words files script outcome (silent (status_of stop)) has is, inl (refl, nothing_appended taken))

  stop_whole : (taken : Option (List ℕ)) (stop : Stop) → IsReadEnd stop ⊎ IsOutcome words files script (silent (status_of stop))
      → IsFaultOrComes (IsOutcome words files script) (status_of stop) taken taken
  stop_whole taken stop (inl (inl fault)) = inl (inl (ap status_of fault))
  stop_whole taken stop (inl (inr memory)) = inl (inr (inr (ap status_of memory)))
  stop_whole taken stop (inr is) = inr (silent (status_of stop), is, (refl, nothing_appended taken))

-- ---- where library and script tell

module _ (words : List (List ℕ)) (before after : Option (List ℕ)) (plan : Plan) where
  pub plan_whole : (told : Option TextMap) (left : Option (List ℕ)) (status : ℕ) → IfBothTold told left (λ files text. IsPlan words files text plan)
      → CarriesOut before after plan (Ok status) → IfBothTold told left (λ files text. IsFaultOrComes (IsOutcome words files text) status before after)
  plan_whole None left status is carried = tt
  plan_whole (Some files) None status is carried = tt
  plan_whole (Some files) (Some text) status is carried = inr (carried_comes words files text before after plan status is carried)

  pub plan_every : (one : OutcomeIsOne) (told : Option TextMap) (left : Option (List ℕ)) (status : ℕ)
      → IfBothTold told left (λ files text. IsPlan words files text plan)
      → CarriesOut before after plan (Ok status) → IfBothTold told left (λ files text. EndsByEach words (IsOutcome words files text) status before after)
  plan_every one None left status is carried = tt
  plan_every one (Some files) None status is carried = tt
  plan_every one (Some files) (Some text) status is carried = carried_each words files text before after one plan status is carried

  pub cut_whole : (told : Option TextMap) (left : Option (List ℕ)) (stop : Stop) → IsPlanStop stop
      → IfBothTold told left (λ files text. IsFaultOrComes (IsOutcome words files text) (status_of stop) before after)
  cut_whole None left stop is = tt
  cut_whole (Some files) None stop is = tt
  cut_whole (Some files) (Some text) stop (inl fault) = inl (inr (inl (ap status_of fault)))
  cut_whole (Some files) (Some text) stop (inr memory) = inl (inr (inr (ap status_of memory)))

  pub cut_every : (one : OutcomeIsOne) (told : Option TextMap) (left : Option (List ℕ)) (stop : Stop)
      → IfBothTold told left (λ files text. IsPlan words files text plan)
      → IsFitPlan plan → CarriesOut before after plan (Err stop)
      → IfBothTold told left (λ files text. EndsByEach words (IsOutcome words files text) (status_of stop) before after)
  cut_every one None left stop is fit carried = tt
  cut_every one (Some files) None stop is fit carried = tt
  cut_every one (Some files) (Some text) stop is fit carried = cut_each words files text before after one plan stop is fit carried

module _ (words : List (List ℕ)) (taken : Option (List ℕ)) (stop : Stop) where
  pub stopped_whole : (told : Option TextMap) (left : Option (List ℕ))
      → IfBothTold told left (λ files text. IsReadEnd stop ⊎ IsOutcome words files text (silent (status_of stop)))
      → IfBothTold told left (λ files text. IsFaultOrComes (IsOutcome words files text) (status_of stop) taken taken)
  stopped_whole None left ends = tt
  stopped_whole (Some files) None ends = tt
  stopped_whole (Some files) (Some text) ends = stop_whole words files text taken stop ends

  pub stopped_every : (one : OutcomeIsOne) (told : Option TextMap) (left : Option (List ℕ))
      → IfBothTold told left (λ files text. IsReadEnd stop ⊎ IsOutcome words files text (silent (status_of stop)))
      → IfBothTold told left (λ files text. EndsByEach words (IsOutcome words files text) (status_of stop) taken taken)
  stopped_every one None left ends = tt
  stopped_every one (Some files) None ends = tt
  stopped_every one (Some files) (Some text) ends = stop_each words files text one taken stop ends

-- ---- what is decided early

-- words and files decide no fault
pub no_word_fault : (words : List (List ℕ)) (outcome : Outcome) → IsByWords words outcome → outcome.status ≡ 5 → ⊥
no_word_fault words outcome (no_command none) five = omega arith
no_word_fault words outcome (too_many settings some holds many) five = omega arith

no_early_fault : (words : List (List ℕ)) (files : TextMap) (outcome : Outcome) → IsEarly words files outcome → outcome.status ≡ 5 → ⊥
no_early_fault words files outcome (by_words _ is) five = no_word_fault words outcome is five
no_early_fault words files outcome (too_long settings command long) five = omega arith
no_early_fault words files outcome (outcomes.refused settings refusal has) five = omega arith

module _ (words : List (List ℕ)) (P : Type 0) where
  -- the call stopped before there was a plan
  pub stopped_early : (told : Option TextMap) (stop : Stop) (taken : Option (List ℕ)) → IfSome told (λ files. KeepsEarly words files (Err stop) P)
      → IfSome told (λ files. EndsEarly words files (status_of stop) taken taken P)
  stopped_early None stop taken keeps = tt
  stopped_early (Some files) stop taken keeps = λ outcome is. elim (keeps outcome is) [
    | inl one ↦ (
      inl (ap (λ o. o.status) one, subst (Appends taken taken) (ap (λ o. o.bytes) one) (nothing_appended taken)),
      λ five. absurd (no_early_fault words files outcome is (sym (ap (λ o. o.status) one) ∙ five)),
    )
    | inr (inl fault) ↦ (inr (inl (ap status_of fault.0, all_kept taken)), λ five. fault.1)
    | inr (inr memory) ↦ (
      inr (inr (inr (ap status_of memory, (0, nothing_appended taken)))),
      λ five. absurd (let e : 7 ≡ 5 = sym (ap status_of memory) ∙ five in omega arith),
    )
  ]

  module _ (before after : Option (List ℕ)) where
    carried_line : (plan : Plan) (status : ℕ) (outcome : Outcome) → IsLineOf outcome plan → CarriesOut before after plan (Ok status)
        → EndsBy status before after outcome × (status ≡ 5 → P)
    carried_line (Line bytes) status outcome is (three, took) =
        (inl (three ∙ ap (λ o. o.status) is, subst (Appends before after) (ap (λ o. o.bytes) is) took), λ five. absurd (omega arith))
    carried_line (Blocks task program items) status outcome is carried = absurd is

    cut_line : (plan : Plan) (stop : Stop) (outcome : Outcome) → IsLineOf outcome plan → IsFitPlan plan → CarriesOut before after plan (Err stop)
        → EndsBy (status_of stop) before after outcome × (status_of stop ≡ 5 → P)
    cut_line (Line bytes) stop outcome is some (fault, (n, took)) = (
      inr (inr (inl (
        ap status_of fault,
        subst (λ l. l ≢ []) (ap (λ o. o.bytes) is) some,
        (n, subst (λ l. Appends before after (take n l)) (ap (λ o. o.bytes) is) took),
      ))),
      λ five. absurd (let e : 6 ≡ 5 = sym (ap status_of fault) ∙ five in omega arith),
    )
    cut_line (Blocks task program items) stop outcome is some carried = absurd is

    pub plan_early : (told : Option TextMap) (plan : Plan) (status : ℕ) → IfSome told (λ files. KeepsEarly words files (Ok plan) P)
        → CarriesOut before after plan (Ok status)
        → IfSome told (λ files. EndsEarly words files status before after P)
    plan_early None plan status keeps carried = tt
    plan_early (Some files) plan status keeps carried = λ outcome is. carried_line plan status outcome (keeps outcome is) carried

    pub cut_early : (told : Option TextMap) (plan : Plan) (stop : Stop) → IfSome told (λ files. KeepsEarly words files (Ok plan) P) → IsFitPlan plan
        → CarriesOut before after plan (Err stop) → IfSome told (λ files. EndsEarly words files (status_of stop) before after P)
    cut_early None plan stop keeps fit carried = tt
    cut_early (Some files) plan stop keeps fit carried = λ outcome is. cut_line plan stop outcome (keeps outcome is) fit carried
