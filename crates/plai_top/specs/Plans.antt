-- What a call is to do once its input is read, and what it does.
use Rattle.std.specs.Prelude.{◌≡◌, ◌≢◌, ◌⊎◌, ◌≤◌, ◌∷◌, ℕ, List, [], Some, Result, Ok, Err, MatchResult, take}
use Rattle.std.specs.Io.KnownBytes.{Appends}
use Rattle.std.specs.declared.option.Option.{Option}
use Rattle.plai_base.specs.Texts.{TextMap}
use Rattle.plai_clauses.specs.Program.{ProgramView}
use Rattle.plai_words.specs.Command.{settings_of}
use Rattle.plai_words.specs.declared.types.Settings.{Settings}
use Rattle.plai_session.specs.Programs.{behind}
use Rattle.plai_make.specs.Programs.{made_program, made_edits}
use Rattle.plai_top.specs.Commands.{IsMake}
use Rattle.plai_top.specs.Outcome.{Outcome, IsEarly, IsAsked, IsByScript, HasEdits, IsOutcome, silent, line}
use Rattle.plai_top.specs.Scripts.{AreReadable}
use Rattle.plai_top.specs.Stops.{status_of}
use Rattle.plai_top.specs.Tasks.{domain_of, task_of}
use Rattle.plai_top.specs.Working.{Span, IsIdle, WorksBlocks}
use Rattle.plai_top.specs.Writing.{WritesBlocks}
use Rattle.plai_top.specs.declared.plan.Plan.{Plan}
use Rattle.plai_top.specs.declared.plan.Plan.TheVariants.{Line, Blocks}
use Rattle.plai_top.specs.declared.task.Task.{Task}
use Rattle.plai_top.specs.declared.stop.Stop.{Stop}
use Rattle.plai_top.specs.declared.stop.Stop.TheVariants.{TooLarge, ReadFault, WriteFault, Memory}

-- the blocks of a made program of so many predicates
abbrev pub IsMadeBy : Task → ℕ → Plan → Type 0
IsMadeBy task count (Line bytes) = ⊥
IsMadeBy task count (Blocks own program items) = (own ≡ task) × (program ≡ made_program count) × (items.items ≡ made_edits count)

abbrev pub IsMadePlan : Settings → ℕ → Plan → Type 0
IsMadePlan settings count plan = IsMadeBy (task_of settings) count plan

-- the plan is that of a made program, if the words ask for one, unless memory runs out
abbrev pub KeepsMade : List (List ℕ) → Result Plan Stop → Type 0
KeepsMade words result = (settings : Settings) (count : ℕ) → IsMake words settings count
    → MatchResult result (IsMadePlan settings count) (λ stop. stop ≡ Memory)

-- the words, the files and the script ask for this: the line of a refusal, or the blocks of a program and of edits
abbrev pub IsPlan : List (List ℕ) → TextMap → List ℕ → Plan → Type 0
IsPlan words files script (Line bytes) = IsOutcome words files script (line bytes.items)
IsPlan words files script (Blocks task program items) =
    (settings : Settings) × (task_of settings ≡ task) × IsAsked words files script settings program items.items

-- the line has bytes; the depth is a depth, and the terms of the edits are as they were read
abbrev pub IsFitPlan : Plan → Type 0
IsFitPlan (Line bytes) = bytes.items ≢ []
IsFitPlan (Blocks task program items) = (1 ≤ task.depth) × (task.depth ≤ 8) × AreReadable items.items

-- the plan has an analysis
abbrev pub HasAnalysis : Plan → Type 0
HasAnalysis (Line bytes) = ⊥
HasAnalysis (Blocks task program items) = Unit {0}

-- the plan is the line of this outcome
abbrev pub IsLineOf : Outcome → Plan → Type 0
IsLineOf outcome (Line bytes) = line bytes.items ≡ outcome
IsLineOf outcome (Blocks task program items) = ⊥

-- what the words and the files decide comes, unless the library failed or memory runs out
abbrev pub KeepsEarly : List (List ℕ) → TextMap → Result Plan Stop → Type 0 → Type 0
KeepsEarly words files result LibraryFailed = (outcome : Outcome) → IsEarly words files outcome →
    MatchResult result (IsLineOf outcome)
    (λ stop. (silent (status_of stop) ≡ outcome) ⊎ ((stop ≡ ReadFault) × LibraryFailed) ⊎ (stop ≡ Memory))

-- the plan is carried out, or a write failed, or memory ran out
abbrev pub CarriesOut : Option (List ℕ) → Option (List ℕ) → Plan → Result ℕ Stop → Type 0
CarriesOut before after (Line bytes) (Ok status) = (status ≡ 3) × Appends before after bytes.items
CarriesOut before after (Line bytes) (Err stop) = (stop ≡ WriteFault) × ((n : ℕ) × Appends before after (take n bytes.items))
CarriesOut before after (Blocks task program items) result =
    WritesBlocks task.form (domain_of task) task.rows (Ok program ∷ behind program items.items) before after result

-- the work of a plan: a line has none
abbrev pub WorksPlan : Option (List ℕ) → Option (List ℕ) → Span → Plan → Result ℕ Stop → Type 0
WorksPlan before after span (Line bytes) result = IsIdle span
WorksPlan before after span (Blocks task program items) result =
    WorksBlocks task.form (domain_of task) task.rows (Ok program ∷ behind program items.items) before after span result

-- a plan's analysis, if it has one, is this task, or that of the words
abbrev pub IsPlanFor : Task → Plan → Type 0
IsPlanFor task (Line bytes) = Unit {0}
IsPlanFor task (Blocks own program items) = own ≡ task

abbrev pub HasTaskBy : List (List ℕ) → Plan → Type 0
HasTaskBy words (Line bytes) = Unit {0}
HasTaskBy words (Blocks task program items) = (settings : Settings) × (settings_of words ≡ Some settings) × (task_of settings ≡ task)

-- a plan behind a loaded program, by the script alone
abbrev pub IsScripted : Task → ProgramView → List ℕ → Plan → Type 0
IsScripted task program script (Line bytes) = IsByScript script (line bytes.items)
IsScripted task program script (Blocks own loaded items) = (own ≡ task) × (loaded ≡ program) × HasEdits script items.items

-- a stop that reading files or a script may come to
abbrev pub IsInputStop : Stop → Type 0
IsInputStop stop = (stop ≡ TooLarge) ⊎ (stop ≡ ReadFault) ⊎ (stop ≡ Memory)

-- the status of a plan that is carried out: 3 for a line, 0 or 1 for blocks
abbrev pub IsPlanStatus : Plan → ℕ → Type 0
IsPlanStatus (Line bytes) status = status ≡ 3
IsPlanStatus (Blocks task program items) status = (status ≡ 0) ⊎ (status ≡ 1)

-- a stop that carrying out a plan may come to
abbrev pub IsPlanStop : Stop → Type 0
IsPlanStop stop = (stop ≡ WriteFault) ⊎ (stop ≡ Memory)
