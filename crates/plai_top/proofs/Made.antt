-- How a call for a made program ends.
use Rattle.std.proofs.Common.{◌≡◌, ◌⊎◌, ℕ, List, [], None, Result, Ok, Err, refl, sym, ap, subst, inl, inr}
use Rattle.std.specs.declared.option.Option.{Option}
use Rattle.plai_base.specs.Texts.{TextMap}
use Rattle.plai_make.specs.Programs.{made_program, made_edits}
use Rattle.plai_session.specs.Programs.{behind}
use Rattle.plai_words.specs.declared.types.Settings.{Settings}
use Rattle.plai_top.specs.Commands.{AskForMade, IsCommand, IsMake}
use Rattle.plai_top.specs.Ending.{IsFaultOrComes, EndsByEach, EndsMade, IsMadeStatus}
use Rattle.plai_top.specs.Outcome.{Outcome, silent, done, IsByWords, by_make, blocks, IsMadeOutcome, IsOutcome, OutcomeIsOne, AreOne}
use Rattle.plai_top.specs.Plans.{IsMadePlan, KeepsMade, CarriesOut, IsPlanStatus, IsPlanStop}
use Rattle.plai_top.specs.Stops.{status_of}
use Rattle.plai_top.specs.Tasks.{domain_of, form_of, task_of}
use Rattle.plai_top.specs.declared.plan.Plan.{Plan}
use Rattle.plai_top.specs.declared.plan.Plan.TheVariants.{Line, Blocks}
use Rattle.plai_top.specs.declared.stop.Stop.{Stop}
use Rattle.plai_top.specs.declared.stop.Stop.TheVariants.{Memory}
use Rattle.plai_top.proofs.Endings.{Carries, cut_blocks, nothing_appended}
use Rattle.plai_top.proofs.Outcomes.{not_made, made_not_by_words}

no_files : TextMap
no_files name = None

module _ (words : List (List ℕ)) (settings : Settings) (count : ℕ) (make : IsMake words settings count) (one : OutcomeIsOne) where
  is_outcome : (outcome : Outcome) → IsMadeOutcome settings count outcome → IsOutcome words no_files [] outcome
  is_outcome outcome (them, are, is) =
      subst (IsOutcome words no_files []) (sym is) (blocks settings (made_program count) (made_edits count) them (by_make count make) are)

  made_is_one : (first second : Outcome) → IsMadeOutcome settings count first → IsMadeOutcome settings count second → AreOne words first second
  made_is_one first second a b = one words no_files [] first second (is_outcome first a) (is_outcome second b)

  -- the plan is carried out as one of settings
  module _ (before after : Option (List ℕ)) where
    own_work : (plan : Plan) (result : Result ℕ Stop) → IsMadePlan settings count plan → CarriesOut before after plan result
        → Carries before after result (task_of settings) (made_program count) (made_edits count)
    own_work (Line bytes) result is carried = absurd is
    own_work (Blocks task program items) result (is_task, is_program, are_items) carried =
        subst (λ l. Carries before after result (task_of settings) (made_program count) l) are_items
        (subst (λ g. Carries before after result (task_of settings) g items.items) is_program
        (subst (λ t. Carries before after result t program items.items) is_task carried))

    made_ends : (plan : Plan) (status : ℕ) → IsMadePlan settings count plan → CarriesOut before after plan (Ok status)
        → IsFaultOrComes (IsMadeOutcome settings count) status before after × EndsByEach words (IsMadeOutcome settings count) status before after
    made_ends plan status is carried =
        let own = own_work plan (Ok status) is carried in
        let outcome : Outcome = done (form_of settings) own.blocks in
        let has : IsMadeOutcome settings count outcome = (own.blocks, own.are, refl) in
        (inr (outcome, has, (own.is_status, own.bytes)), λ other too. (outcome, has, made_is_one other outcome too has, inl (own.is_status, own.bytes)))

    made_cut : (plan : Plan) (stop : Stop) → IsMadePlan settings count plan → IsPlanStop stop → CarriesOut before after plan (Err stop)
        → IsFaultOrComes (IsMadeOutcome settings count) (status_of stop) before after
        × EndsByEach words (IsMadeOutcome settings count) (status_of stop) before after
    made_cut plan stop is which carried = (
      inl (elim which [
        | inl fault ↦ inr (inl (ap status_of fault))
        | inr memory ↦ inr (inr (ap status_of memory))
      ]),
      λ other too.
          let (them, are, own_is) = too in
          let (others, also, ends) = cut_blocks (form_of settings) (domain_of (task_of settings)) settings.rows (Ok (made_program count))
          (behind (made_program count) (made_edits count)) before after stop (own_work plan (Err stop) is carried) them are in
          let has : IsMadeOutcome settings count (done (form_of settings) others) = (others, also, refl) in
          (done (form_of settings) others, has, made_is_one other (done (form_of settings) others) too has, ends),
    )

  made_stopped : (taken : Option (List ℕ)) (stop : Stop) → stop ≡ Memory
      → IsFaultOrComes (IsMadeOutcome settings count) (status_of stop) taken taken
      × EndsByEach words (IsMadeOutcome settings count) (status_of stop) taken taken
  made_stopped taken stop memory = (
    inl (inr (inr (ap status_of memory))),
    λ other too. (other, too, inl refl, inr (inr (inr (ap status_of memory, (0, nothing_appended taken))))),
  )

-- ---- a call

module _ (words : List (List ℕ)) (one : OutcomeIsOne) where
  pub plan_made : (before after : Option (List ℕ)) (plan : Plan) (status : ℕ) → KeepsMade words (Ok plan) → CarriesOut before after plan (Ok status)
      → EndsMade words status before after
  plan_made before after plan status keeps carried settings count make =
      made_ends words settings count make one before after plan status (keeps settings count make) carried

  pub cut_made : (before after : Option (List ℕ)) (plan : Plan) (stop : Stop) → KeepsMade words (Ok plan) → IsPlanStop stop
      → CarriesOut before after plan (Err stop)
      → EndsMade words (status_of stop) before after
  cut_made before after plan stop keeps which carried settings count make =
      made_cut words settings count make one before after plan stop (keeps settings count make) which carried

  pub stopped_made : (taken : Option (List ℕ)) (stop : Stop) → KeepsMade words (Err stop) → EndsMade words (status_of stop) taken taken
  stopped_made taken stop keeps settings count make = made_stopped words settings count make one taken stop (keeps settings count make)

-- ---- the status

pub plan_made_status : (words : List (List ℕ)) (plan : Plan) (status : ℕ) → KeepsMade words (Ok plan) → IsPlanStatus plan status → AskForMade words
    → IsMadeStatus status
plan_made_status words (Line bytes) status keeps is (settings, count, make) = absurd (keeps settings count make)
plan_made_status words (Blocks task program items) status keeps (inl none) asked = inl none
plan_made_status words (Blocks task program items) status keeps (inr one) asked = inr (inl one)

pub cut_made_status : (stop : Stop) → IsPlanStop stop → IsMadeStatus (status_of stop)
cut_made_status stop (inl fault) = inr (inr (inl (ap status_of fault)))
cut_made_status stop (inr memory) = inr (inr (inr (ap status_of memory)))

pub stopped_made_status : (words : List (List ℕ)) (stop : Stop) → KeepsMade words (Err stop) → AskForMade words → IsMadeStatus (status_of stop)
stopped_made_status words stop keeps (settings, count, make) = inr (inr (inr (ap status_of (keeps settings count make))))

-- ---- a plan

-- a command over files asks for no made program
pub files_keep_made : (words : List (List ℕ)) (settings : Settings) (result : Result Plan Stop) → IsCommand words settings → KeepsMade words result
files_keep_made words settings result command other count make = absurd (not_made words settings other count command make)

-- nor do words that decide the outcome
pub words_keep_made : (words : List (List ℕ)) (stop : Stop) → (stop ≡ Memory) ⊎ IsByWords words (silent (status_of stop)) → KeepsMade words (Err stop)
words_keep_made words stop (inl memory) settings count make = memory
words_keep_made words stop (inr by) settings count make = absurd (made_not_by_words words settings count make _ by)
