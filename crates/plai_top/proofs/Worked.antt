-- The work of a call, from what it was to do.
use Rattle.std.proofs.Common.{arith, ◌≡◌, ◌⊎◌, ℕ, List, ◌∷◌, None, Some, Result, Ok, Err, IfOk, sym, ◌∙◌, subst, inl, inr}
use Rattle.std.specs.declared.option.Option.{Option}
use Rattle.plai_base.specs.Texts.{TextMap}
use Rattle.plai_clauses.specs.Program.{ProgramView}
use Rattle.plai_clauses.specs.declared.edit_cause.EditCause.{EditCause}
use Rattle.plai_make.specs.Programs.{made_program, made_edits}
use Rattle.plai_script.specs.declared.edit.Edit.{Edit}
use Rattle.plai_session.specs.Programs.{behind}
use Rattle.plai_words.specs.Command.{settings_of}
use Rattle.plai_words.specs.declared.types.Settings.{Settings}
use Rattle.plai_top.specs.Commands.{IsMake}
use Rattle.plai_top.specs.Outcome.{IsAsked, by_files, by_make}
use Rattle.plai_top.specs.Plans.{IsPlan, KeepsMade, IsPlanStatus, IsPlanFor, HasTaskBy, WorksPlan}
use Rattle.plai_top.specs.Stops.{status_of}
use Rattle.plai_top.specs.Tasks.{domain_of, task_of}
use Rattle.plai_top.specs.Told.{IfBothTold}
use Rattle.plai_top.specs.Worked.{Analysis, HasWorked}
use Rattle.plai_top.specs.Working.{Span, IsIdle, AllWorked, FirstWorked}
use Rattle.plai_top.specs.declared.plan.Plan.{Plan}
use Rattle.plai_top.specs.declared.plan.Plan.TheVariants.{Line, Blocks}
use Rattle.plai_top.specs.declared.stop.Stop.{Stop}
use Rattle.plai_top.specs.declared.task.Task.{Task}
use Rattle.plai_top.proofs.Headline.{never_done}

-- the task is that of the words' settings
pub task_by : (words : List (List ℕ)) (settings : Settings) → settings_of words ≡ Some settings → (result : Result Plan Stop)
    → IfOk result (IsPlanFor (task_of settings)) → IfOk result (HasTaskBy words)
task_by words settings formed (Ok (Line bytes)) is = tt
task_by words settings formed (Ok (Blocks task program items)) is = (settings, formed, sym is)
task_by words settings formed (Err stop) is = tt

pub task_for : (task other : Task) → task ≡ other → (result : Result Plan Stop) → IfOk result (IsPlanFor task) → IfOk result (IsPlanFor other)
task_for task other same result = subst (λ t. IfOk result (IsPlanFor t)) same

module _ (words : List (List ℕ)) where
  asked_settings : (files : TextMap) (script : List ℕ) (settings : Settings) (program : ProgramView) (items : List (Result Edit EditCause))
      → IsAsked words files script settings program items → settings_of words ≡ Some settings
  asked_settings files script settings program items (by_files _ _ has edits) = has.given.command.formed
  asked_settings files script settings program items (by_make count make) = make.formed

  one_settings : (settings other : Settings) → settings_of words ≡ Some settings → settings_of words ≡ Some other → settings ≡ other
  one_settings settings other one two = let e : ◌≡◌ {A = Option Settings} (Some settings) (Some other) = sym one ∙ two in cc

  -- a plan that is the words' by some settings
  abbrev IsPlanOf : Task → ProgramView → List (Result Edit EditCause) → TextMap → List ℕ → Type 0
  IsPlanOf task program items files script = (settings : Settings) × (task_of settings ≡ task) × IsAsked words files script settings program items

  asked_both : (told : Option TextMap) (left : Option (List ℕ)) (task : Task) (program : ProgramView) (items : List (Result Edit EditCause))
      (settings : Settings) → settings_of words ≡ Some settings → IfBothTold told left (IsPlanOf task program items)
      → IfBothTold told left (λ files script. IsAsked words files script settings program items)
  asked_both None left task program items settings formed is = tt
  asked_both (Some files) None task program items settings formed is = tt
  asked_both (Some files) (Some script) task program items settings formed (own, same, asked) =
      subst (λ s. IsAsked words files script s program items) (one_settings own settings (asked_settings files script own program items asked) formed) asked

  module _ (told : Option TextMap) (left : Option (List ℕ)) (before after : Option (List ℕ)) (span : Span) where
    abbrev Has : ℕ → Type 0
    Has status = HasWorked words told left status before after span

    -- there was no plan
    pub stopped_worked : (stop : Stop) → IsIdle span → Has (status_of stop)
    stopped_worked stop idle = record { all = λ done. absurd (never_done stop done); first = λ cut. inl idle }

    -- what is analysed
    abbrev IsMadeSo : Task → ProgramView → List (Result Edit EditCause) → Type 0
    IsMadeSo task program items = (settings : Settings) (count : ℕ) → IsMake words settings count
        → (task ≡ task_of settings) × (program ≡ made_program count) × (items ≡ made_edits count)

    module _ (task : Task) (program : ProgramView) (items : List (Result Edit EditCause)) (settings : Settings) (formed : settings_of words ≡ Some settings)
        (same : task_of settings ≡ task) (is : IfBothTold told left (IsPlanOf task program items)) (made : IsMadeSo task program items) where
      own_made : (count : ℕ) → IsMake words settings count → (program ≡ made_program count) × (items ≡ made_edits count)
      own_made count make = let (is_task, is_program, are_items) = made settings count make in (is_program, are_items)

      abbrev analysis : Analysis words told left
      analysis = record {
        settings = settings;
        program = program;
        items = items;
        formed = formed;
        asked = asked_both told left task program items settings formed is;
        made = own_made;
      }

      pub blocks_worked : (status : ℕ) → (status ≡ 0) ⊎ (status ≡ 1)
          → AllWorked task.form (domain_of task) task.rows (Ok program ∷ behind program items) before after span status → Has status
      blocks_worked status small worked = record {
        all = λ done. (
          analysis,
          subst (λ t. AllWorked t.form (domain_of t) t.rows (Ok program ∷ behind program items) before after span status) (sym same) worked,
        );
        first = λ cut. absurd (not_cut status small cut);
      }
        where
          not_cut : (n : ℕ) → (n ≡ 0) ⊎ (n ≡ 1) → (n ≡ 6) ⊎ (n ≡ 7) → ⊥
          not_cut n (inl zero) (inl six) = omega arith
          not_cut n (inl zero) (inr seven) = omega arith
          not_cut n (inr one) (inl six) = omega arith
          not_cut n (inr one) (inr seven) = omega arith

      pub blocks_cut : (stop : Stop) → FirstWorked task.form (domain_of task) task.rows (Ok program ∷ behind program items) before after span
          → Has (status_of stop)
      blocks_cut stop worked = record {
        all = λ done. absurd (never_done stop done);
        first = λ cut. inr (
          analysis,
          subst (λ t. FirstWorked t.form (domain_of t) t.rows (Ok program ∷ behind program items) before after span) (sym same) worked,
        );
      }

    -- the plan was carried out
    pub plan_worked : (plan : Plan) (status : ℕ) → HasTaskBy words plan → IfBothTold told left (λ files script. IsPlan words files script plan)
        → KeepsMade words (Ok plan) → IsPlanStatus plan status → WorksPlan before after span plan (Ok status) → Has status
    plan_worked (Line bytes) status by is made three idle = record { all = λ done. absurd (not_done status three done); first = λ cut. inl idle }
      where
        not_done : (n : ℕ) → n ≡ 3 → (n ≡ 0) ⊎ (n ≡ 1) → ⊥
        not_done n three (inl zero) = omega arith
        not_done n three (inr one) = omega arith
    plan_worked (Blocks task program items) status (settings, formed, same) is made small worked =
        blocks_worked task program items.items settings formed same is made status small worked

    -- or not all of it
    pub plan_cut : (plan : Plan) (stop : Stop) → HasTaskBy words plan → IfBothTold told left (λ files script. IsPlan words files script plan)
        → KeepsMade words (Ok plan) → WorksPlan before after span plan (Err stop) → Has (status_of stop)
    plan_cut (Line bytes) stop by is made idle = stopped_worked stop idle
    plan_cut (Blocks task program items) stop (settings, formed, same) is made worked =
        blocks_cut task program items.items settings formed same is made stop worked
