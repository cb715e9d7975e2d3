-- The blocks of answers.
use Rattle.std.proofs.Common.{◌≡◌, ◌⊎◌, ℕ, ◌++◌, Bool, true, false, cond, List, [], None, Some, Option, Result, Ok, Err, IfOk, OnOk, refl, sym, ◌∙◌, ap, subst, inl, inr}
use Rattle.std.specs.Io.KnownBytes.{Keeps}
use Rattle.std.specs.declared.alloc.AllocError.{AllocError}
use Rattle.plai_domain.specs.Plain.{PlainDomain}
use Rattle.plai_clauses.specs.Program.{ProgramView}
use Rattle.plai_clauses.specs.declared.edit_cause.EditCause.{EditCause}
use Rattle.plai_render.specs.declared.text_table.TextTable.{TextTable}
use Rattle.plai_session.specs.Programs.{kept}
use Rattle.plai_session.specs.Sessions.{SessionView, IsAnalysed, IsEdited, IsRefusal, program_of, kept_program}
use Rattle.plai_session.specs.Work.{IsWorkOf, IsCutOff}
use Rattle.plai_session.specs.declared.answer.EditAnswer.{EditAnswer}
use Rattle.plai_session.specs.declared.answer.EditAnswer.TheVariants as answer
use Rattle.plai_terms.specs.declared.row_name.RowName.{RowName}
use Rattle.plai_top.specs.Blocks.{table_of, refused, stopped, rows_text, cause_text, limit_text, text_of, is_table_of, many_rows, large_sets, is_refused}
use Rattle.plai_top.specs.Working.{Span, kept_by, IsIdle, IsWorkCutOff, is_cut_off, is_unwritten}
use Rattle.plai_top.specs.Writing.{IsAnswerFor, HasBlock, IsBlockText, WritesBlock, WritesRefused, shows_table}
use Rattle.plai_top.specs.declared.form.Form.{Form}
use Rattle.plai_top.specs.declared.stop.Stop.{Stop}
use Rattle.plai_top.specs.declared.stop.Stop.TheVariants.{Memory}

all_kept : (taken : Option (List ℕ)) → Keeps taken taken
all_kept None = tt
all_kept (Some bytes) = refl

-- ---- the block of an answer

module _ (p : PlainDomain) (limit : ℕ) (was : Option ProgramView) (number : ℕ) (own : ProgramView) (rows : Option TextTable) (span : Span) where
  abbrev Answers : EditAnswer → Result ProgramView EditCause → Type 0
  Answers = λ given_answer. IsAnswerFor p limit was number own rows given_answer span

  -- a block for the answer, with its work
  answer_block : (given_answer : EditAnswer) (given : Result ProgramView EditCause) → Answers given_answer given
      → HasBlock p limit was number given span (shows_table given_answer)
  answer_block answer.Table (Ok program) (same, (table, there, kept), work) =
      let least = kept.least in
      record {
        block = table_of p program least.rows;
        is_block = is_table_of program least.rows least.least least.within kept.not_over;
        worked = work;
        shows = refl;
      }
  answer_block (answer.Refused cause) (Ok program) (same, wrong, work) = absurd wrong
  answer_block (answer.StoppedRows most) (Ok program) (mine, (none, same, more), work) = record {
    block = stopped (Some limit);
    is_block = many_rows program more;
    worked = subst (λ n. IsWorkOf p limit was program number span.before span.after span.steps (answer.StoppedRows n)) same work;
    shows = refl;
  }
  answer_block (answer.StoppedGroups row clause literal place) (Ok program) (mine, (none, over, there), work) =
      record { block = stopped None; is_block = large_sets program over; worked = (row, clause, literal, place, work); shows = refl }
  answer_block given_answer (Err cause) (is, idle) =
      record { block = refused cause; is_block = is_refused cause; worked = idle; shows = sym (ap shows_table is) }

  -- memory was wanting before a byte of it was written
  pub answer_unwritten : (form : Form) (given_answer : EditAnswer) (given : Result ProgramView EditCause) (taken : Option (List ℕ))
      → Answers given_answer given → WritesBlock form p limit was number given span taken taken (Err Memory)
  answer_unwritten form given_answer given taken is =
      let has = answer_block given_answer given is in
      inl (refl, all_kept taken, is_unwritten has.block 0 has.is_block has.worked)

  -- ---- its text

  module _ (form : Form) (text : List ℕ) where
    table_text : ((table : TextTable) → rows ≡ Some table → text ≡ rows_text form number table.rows own.checks table.verdicts)
        → (given : Result ProgramView EditCause) → Answers answer.Table given → IsBlockText form p limit was number given span text true
    unfolding answer_block
    table_text is (Ok program) (same, (table, there, kept), work) =
        let least = kept.least in
        let checks = ap (λ (g : ProgramView). g.checks) same in
        let texts = sym least.are_texts in
        let verdicts = least.are_verdicts in
        record {
          own = answer_block answer.Table (Ok program) (same, (table, there, kept), work);
          is_text = is table there ∙ (λ i. rows_text form number (texts i) (checks i) (verdicts i));
        }
    table_text is (Err cause) (wrong, idle) = let e : answer.Table ≡ answer.Refused cause = wrong in cc

    refused_block : (cause : EditCause) → text ≡ cause_text form number cause → (given : Result ProgramView EditCause) → Answers (answer.Refused cause) given
        → IsBlockText form p limit was number given span text false
    unfolding answer_block
    refused_block cause is (Ok program) (same, wrong, work) = absurd wrong
    refused_block cause is (Err other) (same, idle) =
        let e : cause ≡ other = (let both : answer.Refused cause ≡ answer.Refused other = same in cc) in
        record { own = answer_block (answer.Refused cause) (Err other) (same, idle); is_text = is ∙ ap (cause_text form number) e }

    rows_block : (most : ℕ) → text ≡ limit_text form number (Some most) → (given : Result ProgramView EditCause) → Answers (answer.StoppedRows most) given
        → IsBlockText form p limit was number given span text false
    unfolding answer_block
    rows_block most is (Ok program) (mine, (none, same, more), work) = record {
      own = answer_block (answer.StoppedRows most) (Ok program) (mine, (none, same, more), work);
      is_text = is ∙ ap (λ n. limit_text form number (Some n)) same;
    }
    rows_block most is (Err cause) (wrong, idle) = let e : answer.StoppedRows most ≡ answer.Refused cause = wrong in cc

    groups_block : (row : RowName) (clause literal place : ℕ) → text ≡ limit_text form number None → (given : Result ProgramView EditCause)
        → Answers (answer.StoppedGroups row clause literal place) given → IsBlockText form p limit was number given span text false
    unfolding answer_block
    groups_block row clause literal place is (Ok program) (mine, (none, over, there), work) =
        record { own = answer_block (answer.StoppedGroups row clause literal place) (Ok program) (mine, (none, over, there), work); is_text = is }
    groups_block row clause literal place is (Err cause) (wrong, idle) =
        let e : answer.StoppedGroups row clause literal place ≡ answer.Refused cause = wrong in cc

-- a term that is no edit
pub refused_written : (form : Form) (p : PlainDomain) (limit : ℕ) (was : Option ProgramView) (number : ℕ) (span : Span) → IsIdle span → (before after : Option (List ℕ)) (cause : EditCause)
    (result : Result Bool Stop) → WritesRefused form number cause before after result
    → WritesBlock form p limit was number (Err cause) span before after result
refused_written form p limit was number span idle before after cause (Ok shows) (is, took) = (
  text_of form number (refused cause),
  record { own = record { block = refused cause; is_block = is_refused cause; worked = idle; shows = sym is }; is_text = refl },
  took,
)
refused_written form p limit was number span idle before after cause (Err stop) (inl (memory, same)) =
    inl (memory, same, is_unwritten (refused cause) 0 (is_refused cause) idle)
refused_written form p limit was number span idle before after cause (Err stop) (inr (fault, first)) =
    inr (
      fault,
      (
        text_of form number (refused cause),
        false,
        record { own = record { block = refused cause; is_block = is_refused cause; worked = idle; shows = refl }; is_text = refl },
        first,
      ),
    )

-- ---- the program whose table is kept

-- behind an analysis: its own where it has a table
pub analysed_keeps : (p : PlainDomain) (limit : ℕ) (program : ProgramView) (table : Option TextTable) (given_answer : EditAnswer)
    → IsAnalysed p limit program table given_answer → program_of program table ≡ cond (shows_table given_answer) (Some program) None
analysed_keeps p limit program table answer.Table (own, there, is) = ap (program_of program) there
analysed_keeps p limit program table (answer.Refused cause) wrong = absurd wrong
analysed_keeps p limit program table (answer.StoppedRows most) (none, same, more) = ap (program_of program) none
analysed_keeps p limit program table (answer.StoppedGroups row clause literal place) (none, over, there) = ap (program_of program) none

-- ---- an edit

-- what is told of the work of an edit that makes this of the program: all of it, or nothing where it is refused
pub record IsEditWork (p : PlainDomain) (limit : ℕ) (was : Option ProgramView) (number : ℕ) (given_answer : EditAnswer) (span : Span)
    (given : Result ProgramView EditCause) : Type 0 where
  pub done : (program : ProgramView) → given ≡ Ok program → IsWorkOf p limit was program number span.before span.after span.steps given_answer
  pub idle : IsRefusal given_answer → IsIdle span

module _ {D : Type 0} (p : PlainDomain) (old new : SessionView D) (given_answer : EditAnswer) where
  -- the answer is one for what the edit makes of the program, and the work is told so
  pub edit_answer : (number : ℕ) (span : Span) (given : Result ProgramView EditCause) → IsEdited p old new given_answer given
      → IsEditWork p old.limit (kept_program old) number given_answer span given
      → IsAnswerFor p old.limit (kept_program old) number new.program new.table given_answer span given
  edit_answer number span (Ok program) (own, same, limit, lost, is) work = (own, is, work.done program refl)
  edit_answer number span (Err cause) (is, same) work = (is, work.idle (cause, is))

  pub edit_program : (given : Result ProgramView EditCause) → IsEdited p old new given_answer given → new.program ≡ kept old.program given
  edit_program (Ok program) (own, same, limit, lost, is) = own
  edit_program (Err cause) (is, same) = ap (λ s. s.program) same

  edit_keeps : (given : Result ProgramView EditCause) → IsEdited p old new given_answer given
      → kept_program new ≡ kept_by (kept_program old) given (shows_table given_answer)
  edit_keeps (Ok program) (own, same, limit, lost, is) =
      ap (λ g. program_of g new.table) own ∙ analysed_keeps p old.limit program new.table given_answer is
  edit_keeps (Err cause) (is, same) = ap kept_program same

  -- as the block that was written shows
  pub edit_shown : (given : Result ProgramView EditCause) → IsEdited p old new given_answer given → (result : Result Bool Stop)
      → IfOk result (λ shows. shows ≡ shows_table given_answer)
      → IfOk result (λ shows. kept_program new ≡ kept_by (kept_program old) given shows)
  edit_shown given is (Ok shows) same = edit_keeps given is ∙ ap (kept_by (kept_program old) given) (sym same)
  edit_shown given is (Err stop) same = tt

  pub edit_domain : (given : Result ProgramView EditCause) → IsEdited p old new given_answer given → new.domain ≡ old.domain
  edit_domain (Ok program) (own, same, limit, lost, is) = same
  edit_domain (Err cause) (is, same) = ap (λ s. s.domain) same

  pub edit_limit : (given : Result ProgramView EditCause) → IsEdited p old new given_answer given → new.limit ≡ old.limit
  edit_limit (Ok program) (own, same, limit, lost, is) = limit
  edit_limit (Err cause) (is, same) = ap (λ s. s.limit) same

-- ---- a text that is appended to nothing

module _ (form : Form) (p : PlainDomain) (limit number : ℕ) (own : ProgramView) (rows : Option TextTable) (old new : List ℕ) (none : old ≡ []) where
  text_alone : (text : List ℕ) → new ≡ old ++ text → new ≡ text
  text_alone text is = is ∙ ap (λ l. l ++ text) none

  -- the text is that of a block for the answer
  abbrev Shows : EditAnswer → Bool → Type 0
  Shows given_answer shows = (was : Option ProgramView) (given : Result ProgramView EditCause) (span : Span) → IsAnswerFor p limit was number own rows given_answer span given
      → IsBlockText form p limit was number given span new shows

  pub on_table : (result : Result (Unit {0}) AllocError)
      → OnOk result ((table : TextTable) → rows ≡ Some table → new ≡ old ++ rows_text form number table.rows own.checks table.verdicts)
      → OnOk result (Shows answer.Table true)
  on_table (Ok _) is = λ was given span. table_text p limit was number own rows span form new
      (λ table there. text_alone (rows_text form number table.rows own.checks table.verdicts) (is table there)) given
  on_table (Err _) is = tt

  pub on_refused : (result : Result (Unit {0}) AllocError) (cause : EditCause) → OnOk result (new ≡ old ++ cause_text form number cause)
      → OnOk result (Shows (answer.Refused cause) false)
  on_refused (Ok _) cause is = λ was given span. refused_block p limit was number own rows span form new cause (text_alone (cause_text form number cause) is) given
  on_refused (Err _) cause is = tt

  pub on_rows : (result : Result (Unit {0}) AllocError) (most : ℕ) → OnOk result (new ≡ old ++ limit_text form number (Some most))
      → OnOk result (Shows (answer.StoppedRows most) false)
  on_rows (Ok _) most is = λ was given span. rows_block p limit was number own rows span form new most (text_alone (limit_text form number (Some most)) is) given
  on_rows (Err _) most is = tt

  pub on_groups : (result : Result (Unit {0}) AllocError) (row : RowName) (clause literal place : ℕ) → OnOk result (new ≡ old ++ limit_text form number None)
      → OnOk result (Shows (answer.StoppedGroups row clause literal place) false)
  on_groups (Ok _) row clause literal place is = λ was given span.
      groups_block p limit was number own rows span form new row clause literal place (text_alone (limit_text form number None) is) given
  on_groups (Err _) row clause literal place is = tt

-- ---- an edit's block

module _ {D : Type 0} (form : Form) (plain : D → PlainDomain) (old new : SessionView D) (number : ℕ) (given_answer : EditAnswer)
    (span : Span) (before after : Option (List ℕ)) (result : Result Bool Stop) where
  pub item_block : (given : Result ProgramView EditCause) → IsEdited (plain old.domain) old new given_answer given
      → IsEditWork (plain old.domain) old.limit (kept_program old) number given_answer span given
      → ((was : Option ProgramView) (other : Result ProgramView EditCause) (own : Span)
      → IsAnswerFor (plain new.domain) new.limit was number new.program new.table given_answer own other
      → WritesBlock form (plain new.domain) new.limit was number other own before after result)
      → WritesBlock form (plain old.domain) old.limit (kept_program old) number given span before after result
  item_block given edited work writes =
      let own : new.domain ≡ old.domain = edit_domain (plain old.domain) old new given_answer given edited in
      let most : new.limit ≡ old.limit = edit_limit (plain old.domain) old new given_answer given edited in
      let is : IsAnswerFor (plain old.domain) old.limit (kept_program old) number new.program new.table given_answer span given =
      edit_answer (plain old.domain) old new given_answer number span given edited work in
      let by_domain : IsAnswerFor (plain new.domain) old.limit (kept_program old) number new.program new.table given_answer span given =
      subst (λ d. IsAnswerFor (plain d) old.limit (kept_program old) number new.program new.table given_answer span given) (sym own) is in
      let by_limit : IsAnswerFor (plain new.domain) new.limit (kept_program old) number new.program new.table given_answer span given =
      subst (λ n. IsAnswerFor (plain new.domain) n (kept_program old) number new.program new.table given_answer span given) (sym most) by_domain in
      let there : WritesBlock form (plain new.domain) new.limit (kept_program old) number given span before after result =
      writes (kept_program old) given span by_limit in
      subst (λ n. WritesBlock form (plain old.domain) n (kept_program old) number given span before after result) most
      (subst (λ d. WritesBlock form (plain d) new.limit (kept_program old) number given span before after result) own there)

-- memory was wanting in the work of an edit
pub cut_block : (form : Form) (p : PlainDomain) (limit : ℕ) (was : Option ProgramView) (number : ℕ) (span : Span) (given : Result ProgramView EditCause) (taken : Option (List ℕ))
    → (span.after ≡ span.before) ⊎ ((program : ProgramView) × (given ≡ Ok program) × IsCutOff p limit was program number span.before span.after)
    → WritesBlock form p limit was number given span taken taken (Err Memory)
cut_block form p limit was number span given taken cut = inl (refl, all_kept taken, is_cut_off (by_given given cut))
  where
    same_program : (program other : ProgramView) → ◌≡◌ {A = Result ProgramView EditCause} (Ok program) (Ok other) → program ≡ other
    same_program program other is = let e : ◌≡◌ {A = Result ProgramView EditCause} (Ok program) (Ok other) = is in cc

    not_both : (cause : EditCause) (other : ProgramView) → ◌≡◌ {A = Result ProgramView EditCause} (Err cause) (Ok other) → ⊥
    not_both cause other is = let e : ◌≡◌ {A = Result ProgramView EditCause} (Err cause) (Ok other) = is in cc

    by_given : (given : Result ProgramView EditCause)
        → (span.after ≡ span.before) ⊎ ((program : ProgramView) × (given ≡ Ok program) × IsCutOff p limit was program number span.before span.after)
        → IsWorkCutOff p limit was number given span
    by_given (Ok program) (inl same) = inl same
    by_given (Ok program) (inr (other, is, off)) =
        subst (λ g. IsCutOff p limit was g number span.before span.after) (sym (same_program program other is)) off
    by_given (Err cause) (inl same) = same
    by_given (Err cause) (inr (other, is, off)) = absurd (not_both cause other is)
