-- What was written where a write failed or memory ran out.
use Rattle.std.proofs.Common.{arith, ◌≡◌, ℕ, List, [], None, Some, Ok, Err, refl, sym, ap, ◌∙◌, subst, inl, inr}
use Rattle.std.specs.declared.option.Option.{Option}
use Rattle.plai_base.specs.Texts.{TextMap}
use Rattle.plai_top.specs.Commands.{AskForMade}
use Rattle.plai_top.specs.Ending.{EndsWithin}
use Rattle.plai_top.specs.Outcome.{AreFirstBlocks, none_yet, first_ones}
use Rattle.plai_top.specs.Plans.{IsPlan, IsFitPlan, KeepsMade, CarriesOut, IsPlanStatus}
use Rattle.plai_top.specs.Stops.{status_of}
use Rattle.plai_top.specs.Tasks.{task_of}
use Rattle.plai_top.specs.Told.{IfBothTold}
use Rattle.plai_top.specs.Writing.{WritesPart}
use Rattle.plai_top.specs.declared.plan.Plan.{Plan}
use Rattle.plai_top.specs.declared.plan.Plan.TheVariants.{Line, Blocks}
use Rattle.plai_top.specs.declared.stop.Stop.{Stop}
use Rattle.plai_top.specs.declared.stop.Stop.TheVariants.{NoCommand, TooLarge, ReadFault, WriteFault, Memory}
use Rattle.plai_top.proofs.Deciding.{made_outcome}
use Rattle.plai_top.proofs.Endings.{Carries, nothing_appended}

module _ (words : List (List ℕ)) (files : TextMap) (script : List ℕ) where
  module _ (before after : Option (List ℕ)) where
    no_fault : (status : ℕ) → (status ≡ 6 → ⊥) → (status ≡ 7 → ⊥) → EndsWithin words files script status before after
    no_fault status not_six not_seven = record { cut = λ six. absurd (not_six six); short = λ seven. absurd (not_seven seven) }

    -- the plan was carried out
    pub plan_within : (plan : Plan) (status : ℕ) → IsPlanStatus plan status → EndsWithin words files script status before after
    plan_within (Line bytes) status three = no_fault status (λ six. omega arith) (λ seven. omega arith)
    plan_within (Blocks task program items) status (inl none) = no_fault status (λ six. omega arith) (λ seven. omega arith)
    plan_within (Blocks task program items) status (inr one) = no_fault status (λ six. omega arith) (λ seven. omega arith)

    -- some blocks were written
    stop_within : (stop : Stop) (text : List ℕ) → AreFirstBlocks words files script text → WritesPart before after text stop
        → EndsWithin words files script (status_of stop) before after
    stop_within stop text is (inl (memory, took)) = record {
      cut = λ six. absurd (let e : 7 ≡ 6 = sym (ap status_of memory) ∙ six in omega arith);
      short = λ seven. (text, is, took);
    }
    stop_within stop text is (inr (fault, some, first)) = record {
      cut = λ six. (text, inr is, some, first);
      short = λ seven. absurd (let e : 6 ≡ 7 = sym (ap status_of fault) ∙ seven in omega arith);
    }

    -- not all of the plan was carried out
    pub cut_within : (plan : Plan) (stop : Stop) → IsPlan words files script plan → IsFitPlan plan → CarriesOut before after plan (Err stop)
        → EndsWithin words files script (status_of stop) before after
    cut_within (Line bytes) stop is some (fault, first) = record {
      cut = λ six. (bytes.items, inl is, some, first);
      short = λ seven. absurd (let e : 6 ≡ 7 = sym (ap status_of fault) ∙ seven in omega arith);
    }
    cut_within (Blocks task program items) stop (settings, same, asked) fit cut =
        let own : Carries before after (Err stop) (task_of settings) program items.items =
        subst (λ t. Carries before after (Err stop) t program items.items) (sym same) cut in
        let (text, is, wrote) = own in
        stop_within stop text (first_ones settings program items.items text asked is) wrote

  -- there is no plan
  pub stopped_within : (taken : Option (List ℕ)) (stop : Stop) → (stop ≡ WriteFault → ⊥) → EndsWithin words files script (status_of stop) taken taken
  stopped_within taken NoCommand no_write = no_fault taken taken 2 (λ six. omega arith) (λ seven. omega arith)
  stopped_within taken TooLarge no_write = no_fault taken taken 4 (λ six. omega arith) (λ seven. omega arith)
  stopped_within taken ReadFault no_write = no_fault taken taken 5 (λ six. omega arith) (λ seven. omega arith)
  stopped_within taken WriteFault no_write = absurd (no_write refl)
  stopped_within taken Memory no_write = record { cut = λ six. absurd (omega arith); short = λ seven. ([], none_yet, nothing_appended taken) }

-- ---- where library and script tell

-- what holds of all texts
all_told : (told : Option TextMap) (left : Option (List ℕ)) (P : TextMap → List ℕ → Type 0) → ((files : TextMap) (text : List ℕ) → P files text)
    → IfBothTold told left P
all_told None left P holds = tt
all_told (Some files) None P holds = tt
all_told (Some files) (Some text) P holds = holds files text

module _ (words : List (List ℕ)) (told : Option TextMap) (left : Option (List ℕ)) where
  module _ (before after : Option (List ℕ)) (plan : Plan) where
    pub plan_part : (status : ℕ) → IsPlanStatus plan status → IfBothTold told left (λ files text. EndsWithin words files text status before after)
    plan_part status is = all_told told left (λ files text. EndsWithin words files text status before after)
        (λ files text. plan_within words files text before after plan status is)

  pub stopped_part : (taken : Option (List ℕ)) (stop : Stop) → (stop ≡ WriteFault → ⊥)
      → IfBothTold told left (λ files text. EndsWithin words files text (status_of stop) taken taken)
  stopped_part taken stop no_write =
      all_told told left (λ files text. EndsWithin words files text (status_of stop) taken taken)
      (λ files text. stopped_within words files text taken stop no_write)

module _ (words : List (List ℕ)) (before after : Option (List ℕ)) (plan : Plan) (stop : Stop) (fit : IsFitPlan plan)
    (cut : CarriesOut before after plan (Err stop)) where
  pub cut_part : (told : Option TextMap) (left : Option (List ℕ)) → IfBothTold told left (λ files text. IsPlan words files text plan)
      → IfBothTold told left (λ files text. EndsWithin words files text (status_of stop) before after)
  cut_part None left is = tt
  cut_part (Some files) None is = tt
  cut_part (Some files) (Some text) is = cut_within words files text before after plan stop is fit cut

  -- a made program's plan is one for all files and scripts
  pub cut_made_part : KeepsMade words (Ok plan) → AskForMade words → (files : TextMap) (text : List ℕ)
      → EndsWithin words files text (status_of stop) before after
  cut_made_part keeps (settings, count, make) files text =
      let is : IsPlan words files text plan = made_outcome words settings count make (Some files) (Some text) (Ok plan) (keeps settings count make) in
      cut_within words files text before after plan stop is fit cut
