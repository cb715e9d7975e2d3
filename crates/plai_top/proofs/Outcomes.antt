-- A call has one outcome at most, but that a stop may come beside a table or the other stop.
use Rattle.std.proofs.Common.{◌≡◌, ◌≤◌, ℕ, List, ◌∷◌, Option, None, Some, is_none, Result, Ok, Err, true, length, refl, sym, ◌∙◌, ap, subst, arith, inl, inr}
use Rattle.plai_base.specs.Texts.{TextMap, text_of, longest_text}
use Rattle.plai_terms.specs.declared.plain_row.PlainRow.{PlainRow}
use Rattle.plai_domain.specs.Plain.{PlainDomain}
use Rattle.plai_clauses.specs.Program.{ProgramView}
use Rattle.plai_clauses.specs.declared.edit_cause.EditCause.{EditCause}
use Rattle.plai_assert.specs.Verdicts.{verdicts_of}
use Rattle.plai_eval.specs.LeastTable.{IsLeastTable}
use Rattle.plai_modules.specs.Loading.{Refusal, loaded}
use Rattle.plai_script.specs.Scripts.{ScriptRefusal, script_of}
use Rattle.plai_script.specs.declared.edit.Edit.{Edit}
use Rattle.plai_session.specs.Programs.{behind}
use Rattle.plai_words.specs.Command.{settings_of}
use Rattle.plai_words.specs.declared.types.Settings.{Settings}
use Rattle.plai_make.specs.Programs.{made_program, made_edits}
use Rattle.plai_top.specs.Commands.{most_files, is_over_files, IsCommand, IsMake}
use Rattle.plai_top.specs.Files.{texts_of, IsSomeLong, HasFiles, HasProgram, HasRefusal}
use Rattle.plai_top.specs.Blocks.{Block, table_of, stopped, AreBlocksOf, no_more, one_more, IsBlockOf, is_table_of, many_rows, large_sets, is_refused}
use Rattle.plai_top.specs.Blocks.{by_rows, by_groups, IsTableOrStop, is_within, is_stop, AreSameUpToStops, none_left, same_block, stop_before, stop_behind}
use Rattle.plai_top.specs.Outcome.{Outcome, line, done, refused_by, IsByWords, no_command, too_many, IsEarly, by_words, too_long, refused, longest_script}
use Rattle.plai_top.specs.Outcome.{IsByScript, script_too_long, script_refused, HasEdits, AreBlocks, IsAsked, by_files, by_make, IsOutcome, early, by_script}
use Rattle.plai_top.specs.Outcome.{blocks, OutcomeIsOne}
use Rattle.plai_top.specs.Refusal.{script_refusal_text}
use Rattle.plai_top.specs.Tasks.{domain_of, form_of, task_of}
use Rattle.plai_top.specs.declared.task.Task.{Task}

module _ (words : List (List ℕ)) where
  same_settings : (s t : Settings) → settings_of words ≡ Some s → settings_of words ≡ Some t → s ≡ t
  same_settings s t one two = let e : Some s ≡ Some t = sym one ∙ two in cc

  no_settings : (s : Settings) → settings_of words ≡ None → settings_of words ≡ Some s → ⊥
  no_settings s none some = let e : ◌≡◌ {A = Option Settings} None (Some s) = sym none ∙ some in cc

  -- a command over files makes no program
  made_over_files : (s t : Settings) (count : ℕ) → settings_of words ≡ Some s → is_over_files s ≡ true → IsMake words t count → ⊥
  made_over_files s t count some over make =
      let none : is_none t.make ≡ true = subst (λ x. is_over_files x ≡ true) (same_settings s t some make.formed) over in
      let e : is_none (Some count) ≡ true = subst (λ m. is_none m ≡ true) make.make none in cc

  pub not_made : (s t : Settings) (count : ℕ) → IsCommand words s → IsMake words t count → ⊥
  not_made s t count command make = made_over_files s t count command.formed command.over make

  -- the words decide nothing where they ask for a made program
  pub made_not_by_words : (s : Settings) (count : ℕ) → IsMake words s count → (outcome : Outcome) → IsByWords words outcome → ⊥
  made_not_by_words s count make outcome (no_command none) = no_settings s none make.formed
  made_not_by_words s count make outcome (too_many t some over many) = made_over_files t s count some over make

  same_count : (s t : Settings) (count other : ℕ) → IsMake words s count → IsMake words t other → count ≡ other
  same_count s t count other one two =
      let e : Some count ≡ Some other = sym one.make ∙ ap (λ x. x.make) (same_settings s t one.formed two.formed) ∙ two.make in cc

  -- what the words decide is decided once
  pub words_are_one : (first second : Outcome) → IsByWords words first → IsByWords words second → first ≡ second
  words_are_one first second (no_command one) (no_command two) = refl
  words_are_one first second (no_command one) (too_many t two holds many) = absurd (no_settings t one two)
  words_are_one first second (too_many s one holds many) (no_command two) = absurd (no_settings s two one)
  words_are_one first second (too_many s one holds many) (too_many t two also more) = refl

  -- the words decide nothing where they form a command that is carried out
  pub not_by_words : (s : Settings) → IsCommand words s → (outcome : Outcome) → IsByWords words outcome → ⊥
  not_by_words s command outcome (no_command none) = no_settings s none command.formed
  not_by_words s command outcome (too_many t some holds many) =
      let few : length t.files ≤ most_files = subst (λ x. length x.files ≤ most_files) (same_settings s t command.formed some) command.few in
      omega arith

  same_command : (s t : Settings) → IsCommand words s → IsCommand words t → s ≡ t
  same_command s t one two = same_settings s t one.formed two.formed

  module _ (files : TextMap) where
    -- fails file is too long and short
    short_and_long : (s t : Settings) → HasFiles words files s → IsCommand words t → IsSomeLong files t.files → ⊥
    short_and_long s t short command long =
        let other : IsSomeLong files s.files = subst (λ x. IsSomeLong files x.files) (same_command t s command short.command) long in
        let (i, name, below, is, over) = other in
        let under : length (text_of files name) ≤ longest_text = subst (λ n. length (text_of files n) ≤ longest_text) is (short.short i name below) in
        omega arith

    -- the files are loaded once
    loaded_once : (s t : Settings) (first second : Result ProgramView Refusal) → IsCommand words s → IsCommand words t
        → loaded (texts_of files s.files) ≡ first → loaded (texts_of files t.files) ≡ second → first ≡ second
    loaded_once s t first second one two is also = sym is ∙ ap (λ x. loaded (texts_of files x.files)) (same_command s t one two) ∙ also

    program_and_refusal : (s t : Settings) (program : ProgramView) (refusal : Refusal) → HasProgram words files s program → HasRefusal words files t refusal → ⊥
    program_and_refusal s t program refusal one two =
        let e : Ok program ≡ Err refusal = loaded_once s t (Ok program) (Err refusal) one.given.command two.given.command one.loads two.loads in cc

    pub same_program : (s t : Settings) (program other : ProgramView) → HasProgram words files s program → HasProgram words files t other → program ≡ other
    same_program s t program other one two =
        let e : ◌≡◌ {A = Result ProgramView Refusal} (Ok program) (Ok other) =
        loaded_once s t (Ok program) (Ok other) one.given.command two.given.command one.loads two.loads in cc

    same_refusal : (s t : Settings) (refusal other : Refusal) → HasRefusal words files s refusal → HasRefusal words files t other → refusal ≡ other
    same_refusal s t refusal other one two =
        let e : ◌≡◌ {A = Result ProgramView Refusal} (Err refusal) (Err other) =
        loaded_once s t (Err refusal) (Err other) one.given.command two.given.command one.loads two.loads in cc

    refused_once : (s t : Settings) (refusal other : Refusal) → HasRefusal words files s refusal → HasRefusal words files t other
        → refused_by s.files refusal ≡ refused_by t.files other
    refused_once s t refusal other one two =
        ap (λ x. refused_by x.files refusal) (same_command s t one.given.command two.given.command)
        ∙ ap (refused_by t.files) (same_refusal s t refusal other one two)

    -- what is decided early is decided once
    pub early_is_one : (first second : Outcome) → IsEarly words files first → IsEarly words files second → first ≡ second
    early_is_one first second (by_words _ one) (by_words _ two) = words_are_one first second one two
    early_is_one first second (by_words _ one) (too_long t command long) = absurd (not_by_words t command first one)
    early_is_one first second (by_words _ one) (refused t refusal two) = absurd (not_by_words t two.given.command first one)
    early_is_one first second (too_long s command long) (by_words _ two) = absurd (not_by_words s command second two)
    early_is_one first second (too_long s command long) (too_long t other also) = refl
    early_is_one first second (too_long s command long) (refused t refusal two) = absurd (short_and_long t s two.given command long)
    early_is_one first second (refused s refusal one) (by_words _ two) = absurd (not_by_words s one.given.command second two)
    early_is_one first second (refused s refusal one) (too_long t command long) = absurd (short_and_long s t one.given command long)
    early_is_one first second (refused s refusal one) (refused t other two) = refused_once s t refusal other one two

    -- nothing is decided early where the files are loaded to a program
    pub program_not_early : (s : Settings) (program : ProgramView) → HasProgram words files s program
        → (outcome : Outcome) → IsEarly words files outcome → ⊥
    program_not_early s program one outcome (by_words _ two) = not_by_words s one.given.command outcome two
    program_not_early s program one outcome (too_long t command long) = short_and_long s t one.given command long
    program_not_early s program one outcome (refused t refusal two) = program_and_refusal s t program refusal one two

    -- nothing is decided early where a program is made
    pub made_not_early : (s : Settings) (count : ℕ) → IsMake words s count → (outcome : Outcome) → IsEarly words files outcome → ⊥
    made_not_early s count make outcome (by_words _ two) = made_not_by_words s count make outcome two
    made_not_early s count make outcome (too_long t command long) = not_made t s count command make
    made_not_early s count make outcome (refused t refusal two) = not_made t s count two.given.command make

    pub same_loaded_settings : (s t : Settings) (program other : ProgramView) → HasProgram words files s program → HasProgram words files t other → s ≡ t
    same_loaded_settings s t program other one two = same_command s t one.given.command two.given.command

-- ---- the script

no_items : (script : List ℕ) (refusal : ScriptRefusal) (items : List (Result Edit EditCause)) → script_of script ≡ Err refusal → script_of script ≡ Ok items → ⊥
no_items script refusal items err ok = let e : ◌≡◌ {A = Result (List (Result Edit EditCause)) ScriptRefusal} (Err refusal) (Ok items) = sym err ∙ ok in cc

same_script_refusal : (script : List ℕ) (one two : ScriptRefusal) → script_of script ≡ Err one → script_of script ≡ Err two → one ≡ two
same_script_refusal script one two first second =
    let e : ◌≡◌ {A = Result (List (Result Edit EditCause)) ScriptRefusal} (Err one) (Err two) = sym first ∙ second in cc

same_items : (script : List ℕ) (items others : List (Result Edit EditCause)) → script_of script ≡ Ok items → script_of script ≡ Ok others → items ≡ others
same_items script items others first second =
    let e : ◌≡◌ {A = Result (List (Result Edit EditCause)) ScriptRefusal} (Ok items) (Ok others) = sym first ∙ second in cc

-- what the script decides is decided once
script_is_one : (script : List ℕ) (first second : Outcome) → IsByScript script first → IsByScript script second → first ≡ second
script_is_one script first second (script_too_long long) (script_too_long also) = refl
script_is_one script first second (script_too_long long) (script_refused refusal short is) = absurd (omega arith)
script_is_one script first second (script_refused refusal short is) (script_too_long long) = absurd (omega arith)
script_is_one script first second (script_refused refusal short is) (script_refused other also two) =
    ap (λ r. line (script_refusal_text r)) (same_script_refusal script refusal other is two)

-- the script decides nothing where its edits are carried out
not_by_script : (script : List ℕ) (items : List (Result Edit EditCause)) → HasEdits script items → (outcome : Outcome) → IsByScript script outcome → ⊥
not_by_script script items has outcome (script_too_long long) = let short : length script ≤ longest_script = has.short in omega arith
not_by_script script items has outcome (script_refused refusal short is) = no_items script refusal items is has.read

-- ---- the blocks

module _ (words : List (List ℕ)) (files : TextMap) (script : List ℕ) where
  -- what is asked for is asked once
  asked_once : (s t : Settings) (program other : ProgramView) (items others : List (Result Edit EditCause)) → IsAsked words files script s program items
      → IsAsked words files script t other others → (s ≡ t) × (program ≡ other) × (items ≡ others)
  asked_once s t program other items others (by_files _ _ loaded has) (by_files _ _ also too) = (
    same_loaded_settings words files s t program other loaded also,
    same_program words files s t program other loaded also,
    same_items script items others has.read too.read,
  )
  asked_once s t program other items others (by_files _ _ loaded has) (by_make count make) = absurd (not_made words s t count loaded.given.command make)
  asked_once s t program other items others (by_make count make) (by_files _ _ also too) = absurd (not_made words t s count also.given.command make)
  asked_once s t program other items others (by_make count make) (by_make other_count two) =
      let same : count ≡ other_count = same_count words s t count other_count make two in
      (same_settings words s t make.formed two.formed, ap made_program same, ap made_edits same)

  asked_not_early : (s : Settings) (program : ProgramView) (items : List (Result Edit EditCause)) → IsAsked words files script s program items
      → (outcome : Outcome) → IsEarly words files outcome → ⊥
  asked_not_early s program items (by_files _ _ loaded has) outcome is = program_not_early words files s program loaded outcome is
  asked_not_early s program items (by_make count make) outcome is = made_not_early words files s count make outcome is

  asked_not_by_script : (s t : Settings) (program other : ProgramView) (items : List (Result Edit EditCause)) → IsAsked words files script s program items
      → HasProgram words files t other → (outcome : Outcome) → IsByScript script outcome → ⊥
  asked_not_by_script s t program other items (by_files _ _ loaded has) also outcome is = not_by_script script items has outcome is
  asked_not_by_script s t program other items (by_make count make) also outcome is = not_made words t s count also.given.command make

  -- an outcome of what is asked for is blocks of it
  pub outcome_blocks : (settings : Settings) (program : ProgramView) (items : List (Result Edit EditCause)) → IsAsked words files script settings program items
      → (outcome : Outcome) → IsOutcome words files script outcome
      → (them : List Block) × AreBlocks settings program items them × (outcome ≡ done (form_of settings) them)
  outcome_blocks settings program items asked outcome (early _ is) = absurd (asked_not_early settings program items asked outcome is)
  outcome_blocks settings program items asked outcome (by_script other_settings other _ also is) =
      absurd (asked_not_by_script settings other_settings program other items asked also outcome is)
  outcome_blocks settings program items asked outcome (blocks other_settings other others them other_asked are) =
      let (s, p, i) = asked_once other_settings settings other program others items other_asked asked in
      let with_settings : AreBlocks settings other others them = subst (λ x. AreBlocks x other others them) s are in
      let with_program : AreBlocks settings program others them = subst (λ x. AreBlocks settings x others them) p with_settings in
      (them, subst (λ x. AreBlocks settings program x them) i with_program, ap (λ x. done (form_of x) them) s)

  -- it is asked for with the settings of the words
  asked_formed : (settings : Settings) (program : ProgramView) (items : List (Result Edit EditCause)) → IsAsked words files script settings program items
      → settings_of words ≡ Some settings
  asked_formed settings program items (by_files _ _ loaded has) = loaded.given.command.formed
  asked_formed settings program items (by_make count make) = make.formed

-- the block of an analysis shows a table or a stop
analysed_block : (p : PlainDomain) (limit : ℕ) (program : ProgramView) (block : Block) → IsBlockOf p limit (Ok program) block → IsTableOrStop limit block
analysed_block p limit program block (is_table_of _ rows least within not_over) = is_within rows program.checks (verdicts_of p rows program.checks) within
analysed_block p limit program block (many_rows _ more) = is_stop (stopped (Some limit)) by_rows
analysed_block p limit program block (large_sets _ over) = is_stop (stopped None) by_groups

module _ (table_one : (task : Task) (program : ProgramView) (rows others : List PlainRow) → IsLeastTable (domain_of task) program rows
    → IsLeastTable (domain_of task) program others → rows ≡ others) where
  same_table : (task : Task) (limit : ℕ) (program : ProgramView) (rows others : List PlainRow) (rest also : List Block)
      → IsLeastTable (domain_of task) program rows → IsLeastTable (domain_of task) program others → AreSameUpToStops limit rest also
      → AreSameUpToStops limit (table_of (domain_of task) program rows ∷ rest) (table_of (domain_of task) program others ∷ also)
  same_table task limit program rows others rest also least too are =
      let own : Block = table_of (domain_of task) program rows in
      subst (λ x. AreSameUpToStops limit (own ∷ rest) (table_of (domain_of task) program x ∷ also)) (table_one task program rows others least too)
      (same_block own rest also are)

  -- two blocks of the same are the same, or one is a stop
  one_block : (task : Task) (limit : ℕ) (given : Result ProgramView EditCause) (block other : Block) (rest also : List Block)
      → IsBlockOf (domain_of task) limit given block → IsBlockOf (domain_of task) limit given other → AreSameUpToStops limit rest also
      → AreSameUpToStops limit (block ∷ rest) (other ∷ also)
  one_block task limit given block other rest also (is_table_of program rows least within not_over) (is_table_of _ others too kept neither) are =
      same_table task limit program rows others rest also least too are
  one_block task limit given block other rest also (is_table_of program rows least within not_over) (many_rows _ more) are =
      stop_behind (stopped (Some limit)) block rest also by_rows (is_within rows program.checks (verdicts_of (domain_of task) rows program.checks) within) are
  one_block task limit given block other rest also (is_table_of program rows least within not_over) (large_sets _ over) are =
      stop_behind (stopped None) block rest also by_groups (is_within rows program.checks (verdicts_of (domain_of task) rows program.checks) within) are
  one_block task limit given block other rest also (many_rows program more) two are =
      stop_before (stopped (Some limit)) other rest also by_rows (analysed_block (domain_of task) limit program other two) are
  one_block task limit given block other rest also (large_sets program over) two are =
      stop_before (stopped None) other rest also by_groups (analysed_block (domain_of task) limit program other two) are
  one_block task limit given block other rest also (is_refused cause) (is_refused _) are = same_block block rest also are

  all_blocks : (task : Task) (limit : ℕ) (givens : List (Result ProgramView EditCause)) (them others : List Block)
      → AreBlocksOf (domain_of task) limit givens them → AreBlocksOf (domain_of task) limit givens others → AreSameUpToStops limit them others
  all_blocks task limit givens them others no_more no_more = none_left
  all_blocks task limit givens them others (one_more given block rest own is are) (one_more _ other _ theirs also too) =
      one_block task limit given block other own theirs is also (all_blocks task limit rest own theirs are too)

  -- what is decided before the analysis is decided once
  pub one_outcome : OutcomeIsOne
  one_outcome words files script first second (early _ one) (early _ two) = inl (early_is_one words files first second one two)
  one_outcome words files script first second (early _ one) (by_script t other _ loaded two) = absurd (program_not_early words files t other loaded first one)
  one_outcome words files script first second (early _ one) (blocks t other items them asked are) =
      absurd (asked_not_early words files script t other items asked first one)
  one_outcome words files script first second (by_script s program _ loaded one) (early _ two) =
      absurd (program_not_early words files s program loaded second two)
  one_outcome words files script first second (by_script s program _ loaded one) (by_script t other _ also two) =
      inl (script_is_one script first second one two)
  one_outcome words files script first second (by_script s program _ loaded one) (blocks t other items them asked are) =
      absurd (asked_not_by_script words files script t s other program items asked loaded first one)
  one_outcome words files script first second (blocks s program items them asked are) two =
      let (others, too, same) = outcome_blocks words files script s program items asked second two in
      inr (record {
        settings = s;
        formed = asked_formed words files script s program items asked;
        first_blocks = them;
        second_blocks = others;
        is_first = refl;
        is_second = same;
        same = all_blocks (task_of s) s.rows (Ok program ∷ behind program items) them others are too;
      })
