-- From the phases of a call to its outcomes.
use Rattle.std.proofs.Common.{◌≡◌, ◌⊎◌, ℕ, List, None, Some, Ok, Err, IfSome, MatchResult, map, Vec, refl, ap, ◌∙◌, sym, subst, inl, inr}
use Rattle.std.specs.declared.alloc.Global.{Global}
use Rattle.std.specs.declared.option.Option.{Option}
use Rattle.std.specs.declared.result.Result.{Result}
use Rattle.plai_base.specs.Texts.{TextMap}
use Rattle.plai_clauses.specs.Program.{ProgramView}
use Rattle.plai_modules.specs.Loading.{loaded}
use Rattle.plai_modules.specs.declared.named_text.NamedText.{NamedText}
use Rattle.plai_words.specs.declared.types.Settings.{Settings}
use Rattle.plai_make.specs.Programs.{made_edits}
use Rattle.plai_top.specs.Commands.{IsCommand, IsMake}
use Rattle.plai_top.specs.Files.{texts_of, AreShort, IsSomeLong, HasFiles}
use Rattle.plai_top.specs.Loadings.{IsLoading, IsPrepared}
use Rattle.plai_top.specs.Outcome.{Outcome, silent, line, refused_by, IsByWords, IsEarly, by_words, too_long, refused, IsAsked, by_files, by_make, IsByScript}
use Rattle.plai_top.specs.Outcome.{IsOutcome, early, by_script}
use Rattle.plai_top.specs.Outputs.{KeepsWords}
use Rattle.plai_top.specs.Plans.{IsPlan, IsMadePlan, IsScripted, KeepsEarly}
use Rattle.plai_top.specs.Stops.{status_of, IsReadEnd}
use Rattle.plai_top.specs.Tasks.{task_of}
use Rattle.plai_top.specs.declared.task.Task.{Task}
use Rattle.plai_top.specs.Told.{IfBothTold}
use Rattle.plai_top.specs.declared.loading.Loading.{Loading}
use Rattle.plai_top.specs.declared.loading.Loading.TheVariants.{Program, Refused}
use Rattle.plai_top.specs.declared.plan.Plan.{Plan}
use Rattle.plai_top.specs.declared.plan.Plan.TheVariants.{Line, Blocks}
use Rattle.plai_top.specs.declared.stop.Stop.{Stop}
use Rattle.plai_top.specs.declared.plan.Prepared.{Prepared}
use Rattle.plai_top.specs.declared.stop.Stop.TheVariants.{TooLarge, ReadFault, Memory}
use Rattle.plai_top.proofs.Endings.{no_word_fault}
use Rattle.plai_top.proofs.Outcomes.{words_are_one, not_by_words, made_not_by_words, made_not_early, early_is_one, program_not_early}

-- ---- the words

-- a stop by the words keeps what they decide
pub stop_keeps_words : (A : Type 0) (words : List (List ℕ)) (stop : Stop) → (stop ≡ Memory) ⊎ IsByWords words (silent (status_of stop))
    → KeepsWords {A = A} words (Err stop)
stop_keeps_words A words stop (inl memory) outcome is = inr memory
stop_keeps_words A words stop (inr by) outcome is = inl (words_are_one words _ outcome by is)

-- a command that is carried out keeps it too
pub command_keeps_words : (A : Type 0) (words : List (List ℕ)) (settings : Settings) (result : Result A Stop) → IsCommand words settings
    → KeepsWords {A = A} words result
command_keeps_words A words settings result command outcome is = absurd (not_by_words words settings command outcome is)

-- what the words decide is early
pub words_decide : (words : List (List ℕ)) (told : Option TextMap) (stop : Stop) → (stop ≡ Memory) ⊎ IsByWords words (silent (status_of stop))
    → IfSome told (λ files. IsReadEnd stop ⊎ IsEarly words files (silent (status_of stop)))
words_decide words None stop decides = tt
words_decide words (Some files) stop (inl memory) = inl (inr memory)
words_decide words (Some files) stop (inr by) = inr (by_words _ by)

-- ---- the files

module _ (words : List (List ℕ)) (settings : Settings) (command : IsCommand words settings) where
  -- a file that is too long
  long_decides : (told : Option TextMap) (stop : Stop) → IsReadEnd stop ⊎ ((stop ≡ TooLarge) × IfSome told (λ files. IsSomeLong files settings.files))
      → IfSome told (λ files. IsReadEnd stop ⊎ IsEarly words files (silent (status_of stop)))
  long_decides None stop decides = tt
  long_decides (Some files) stop (inl read) = inl read
  long_decides (Some files) stop (inr (is, long)) = inr (rw is (too_long settings command long))

  pub files_decide : (seen : List (List ℕ)) → seen ≡ settings.files → (told : Option TextMap) (stop : Stop)
      → IsReadEnd stop ⊎ ((stop ≡ TooLarge) × IfSome told (λ files. IsSomeLong files seen))
      → IfSome told (λ files. IsReadEnd stop ⊎ IsEarly words files (silent (status_of stop)))
  files_decide seen same told stop decides =
      long_decides told stop (subst (λ names. IsReadEnd stop ⊎ ((stop ≡ TooLarge) × IfSome told (λ files. IsSomeLong files names))) same decides)

  -- the files have the names and texts that loading is given
  module _ (names texts : List (List ℕ)) (are_names : names ≡ settings.files) where
    program_decides : (told : Option TextMap) (stop : Stop) → IfSome told (λ files. texts ≡ texts_of files settings.files)
        → IfSome told (λ files. AreShort files settings.files)
        → stop ≡ Memory
        → IfSome told (λ files. IsReadEnd stop ⊎ IsEarly words files (silent (status_of stop)))
    program_decides None stop are short decides = tt
    program_decides (Some files) stop are short memory = inl (inr memory)

    program_prepares : (told : Option TextMap) (loading : Loading) → IfSome told (λ files. texts ≡ texts_of files settings.files)
        → IfSome told (λ files. AreShort files settings.files) → IsLoading names texts loading
        → IfSome told (λ files. IsPrepared words files (task_of settings) loading)
    program_prepares None loading are short loads = tt
    program_prepares (Some files) (Program program) are short loads =
        (settings, refl, record { given = record { command = command; short = short }; loads = sym (ap loaded are) ∙ loads })
    program_prepares (Some files) (Refused line) are short (refusal, loads, is) =
        let has : HasFiles words files settings = record { command = command; short = short } in
        let same : refused_by settings.files refusal ≡ record { status = 3; bytes = line.items } = ap (λ ns. refused_by ns refusal) (sym are_names) ∙ is in
        subst (IsEarly words files) same (refused settings refusal (record { given = has; loads = sym (ap loaded are) ∙ loads }))

  -- the files were read by the names seen, and given to loading
  module _ (seen : List (List ℕ)) (same : seen ≡ settings.files) (read given : List NamedText) (are : given ≡ read) (named : map (λ f. f.name) read ≡ seen)
      (told : Option TextMap)
      (texts : IfSome told (λ files. map (λ f. f.text) read ≡ texts_of files seen)) (short : IfSome told (λ files. AreShort files seen)) where
    own_texts : IfSome told (λ files. map (λ f. f.text) given ≡ texts_of files settings.files)
    own_texts =
        let of_read : IfSome told (λ files. map (λ f. f.text) read ≡ texts_of files settings.files) =
        subst (λ ns. IfSome told (λ files. map (λ f. f.text) read ≡ texts_of files ns)) same texts in
        subst (λ fs. IfSome told (λ files. map (λ f. f.text) fs ≡ texts_of files settings.files)) (sym are) of_read

    own_names : map (λ f. f.name) given ≡ settings.files
    own_names = ap (λ fs. map (λ f. f.name) fs) are ∙ named ∙ same

    own_short : IfSome told (λ files. AreShort files settings.files)
    own_short = subst (λ ns. IfSome told (λ files. AreShort files ns)) same short

    -- loading stops the call
    pub loading_decides : (stop : Stop) → stop ≡ Memory
        → IfSome told (λ files. IsReadEnd stop ⊎ IsEarly words files (silent (status_of stop)))
    loading_decides stop decides = program_decides (map (λ f. f.name) given) (map (λ f. f.text) given) own_names told stop own_texts own_short decides

    -- loading made a program or a line
    pub loading_prepares : (loading : Loading) → IsLoading (map (λ f. f.name) given) (map (λ f. f.text) given) loading
        → IfSome told (λ files. IsPrepared words files (task_of settings) loading)
    loading_prepares loading loads = program_prepares (map (λ f. f.name) given) (map (λ f. f.text) given) own_names told loading own_texts own_short loads

-- ---- the outcomes

-- a stop before the script
pub stop_outcome : (words : List (List ℕ)) (told : Option TextMap) (left : Option (List ℕ)) (stop : Stop)
    → IfSome told (λ files. IsReadEnd stop ⊎ IsEarly words files (silent (status_of stop)))
    → IfBothTold told left (λ files text. IsReadEnd stop ⊎ IsOutcome words files text (silent (status_of stop)))
stop_outcome words None left stop ends = tt
stop_outcome words (Some files) None stop ends = tt
stop_outcome words (Some files) (Some text) stop (inl read) = inl read
stop_outcome words (Some files) (Some text) stop (inr is) = inr (early _ is)

module _ (words : List (List ℕ)) (told : Option TextMap) (prepared : Prepared)
    (has : IfSome told (λ files. IsPrepared words files prepared.task prepared.loading)) where
  pub as_program : (task : Task) (program : ProgramView) → prepared.task ≡ task → prepared.loading ≡ Program program
      → IfSome told (λ files. IsPrepared words files task (Program program))
  as_program task program same is =
      subst (λ t. IfSome told (λ files. IsPrepared words files t (Program program))) same
      (subst (λ l. IfSome told (λ files. IsPrepared words files prepared.task l)) is has)

  pub as_line : (line : Vec ℕ Global) → prepared.loading ≡ Refused line → IfSome told (λ files. IsEarly words files (record { status = 3; bytes = line.items }))
  as_line line is = subst (λ l. IfSome told (λ files. IsPrepared words files prepared.task l)) is has

-- a line of a refusal
pub line_outcome : (words : List (List ℕ)) (told : Option TextMap) (left : Option (List ℕ)) (outcome : Outcome)
    → IfSome told (λ files. IsEarly words files outcome) → IfBothTold told left (λ files text. IsOutcome words files text outcome)
line_outcome words None left outcome is = tt
line_outcome words (Some files) None outcome is = tt
line_outcome words (Some files) (Some text) outcome is = early _ is

module _ (words : List (List ℕ)) (task : Task) (program : ProgramView) where
  -- the script makes the plan, or stops the call
  pub script_plan : (told : Option TextMap) (left : Option (List ℕ)) (result : Result Plan Stop)
      → IfSome told (λ files. IsPrepared words files task (Program program))
      → IfSome left (λ text. MatchResult result (IsScripted task program text) (λ stop. IsReadEnd stop ⊎ IsByScript text (silent (status_of stop))))
      → IfBothTold told left (λ files text. MatchResult result (IsPlan words files text)
      (λ stop. IsReadEnd stop ⊎ IsOutcome words files text (silent (status_of stop))))
  script_plan None left result prepared made = tt
  script_plan (Some files) None result prepared made = tt
  script_plan (Some files) (Some text) (Ok (Line bytes)) (settings, same, has) made = by_script settings program _ has made
  script_plan (Some files) (Some text) (Ok (Blocks own loaded items)) (settings, same, has) (is_task, is_program, edits) =
      (settings, same ∙ sym is_task, subst (λ g. IsAsked words files text settings g items.items) (sym is_program) (by_files program items.items has edits))
  script_plan (Some files) (Some text) (Err stop) prepared (inl read) = inl read
  script_plan (Some files) (Some text) (Err stop) (settings, same, has) (inr is) = inr (by_script settings program _ has is)

  -- nothing is decided early
  pub program_keeps_early : (told : Option TextMap) (result : Result Plan Stop) (P : Type 0)
      → IfSome told (λ files. IsPrepared words files task (Program program)) → IfSome told (λ files. KeepsEarly words files result P)
  program_keeps_early None result P prepared = tt
  program_keeps_early (Some files) result P (settings, same, has) = λ outcome is. absurd (program_not_early words files settings program has outcome is)

  pub program_unread : (told : Option TextMap) (P : Type 0) → IfSome told (λ files. IsPrepared words files task (Program program))
      → IfSome told (λ files. (outcome : Outcome) → IsEarly words files outcome → P)
  program_unread None P prepared = tt
  program_unread (Some files) P (settings, same, has) = λ outcome is. absurd (program_not_early words files settings program has outcome is)

pub line_keeps_early : (words : List (List ℕ)) (told : Option TextMap) (bytes : Vec ℕ Global) (P : Type 0)
    → IfSome told (λ files. IsEarly words files (line bytes.items))
    → IfSome told (λ files. KeepsEarly words files (Ok (Line bytes)) P)
line_keeps_early words None bytes P is = tt
line_keeps_early words (Some files) bytes P is = λ outcome other. early_is_one words files _ outcome is other

pub stop_keeps_early : (words : List (List ℕ)) (told : Option TextMap) (stop : Stop) (P : Type 0)
    → IfSome told (λ files. IsReadEnd stop ⊎ IsEarly words files (silent (status_of stop))) → ((stop ≡ ReadFault) → P)
    → IfSome told (λ files. KeepsEarly words files (Err stop) P)
stop_keeps_early words None stop P ends failed = tt
stop_keeps_early words (Some files) stop P (inl (inl fault)) failed = λ outcome other. inr (inl (fault, failed fault))
stop_keeps_early words (Some files) stop P (inl (inr memory)) failed = λ outcome other. inr (inr memory)
stop_keeps_early words (Some files) stop P (inr is) failed = λ outcome other. inl (early_is_one words files _ outcome is other)

-- ---- a made program

module _ (words : List (List ℕ)) (settings : Settings) (count : ℕ) (make : IsMake words settings count) where
  pub made_outcome : (told : Option TextMap) (left : Option (List ℕ)) (result : Result Plan Stop)
      → MatchResult result (IsMadePlan settings count) (λ stop. stop ≡ Memory)
      → IfBothTold told left (λ files text. MatchResult result (IsPlan words files text)
      (λ stop. IsReadEnd stop ⊎ IsOutcome words files text (silent (status_of stop))))
  made_outcome None left result is = tt
  made_outcome (Some files) None result is = tt
  made_outcome (Some files) (Some text) (Ok (Line bytes)) is = absurd is
  made_outcome (Some files) (Some text) (Ok (Blocks task program items)) (is_task, is_program, are_items) = (
    settings,
    sym is_task,
    subst (IsAsked words files text settings program) (sym are_items)
        (subst (λ g. IsAsked words files text settings g (made_edits count)) (sym is_program) (by_make count make)),
  )
  made_outcome (Some files) (Some text) (Err stop) memory = inl (inr memory)

  pub made_keeps_early : (told : Option TextMap) (result : Result Plan Stop) (P : Type 0) → IfSome told (λ files. KeepsEarly words files result P)
  made_keeps_early None result P = tt
  made_keeps_early (Some files) result P = λ outcome is. absurd (made_not_early words files settings count make outcome is)

  pub made_keeps_words : (A : Type 0) (result : Result A Stop) → KeepsWords {A = A} words result
  made_keeps_words A result outcome is = absurd (made_not_by_words words settings count make outcome is)

-- ---- words that decide

-- they decide no fault
pub words_never_fail : (words : List (List ℕ)) (stop : Stop) → (stop ≡ Memory) ⊎ IsByWords words (silent (status_of stop)) → stop ≡ ReadFault → ⊥
words_never_fail words stop (inl memory) fault = let e : Memory ≡ ReadFault = sym memory ∙ fault in cc
words_never_fail words stop (inr by) fault = no_word_fault words (silent (status_of stop)) by (ap status_of fault)
