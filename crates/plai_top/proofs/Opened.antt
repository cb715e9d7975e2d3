-- The first block, of a session that was opened.
use Rattle.std.proofs.Common.{◌≡◌, ℕ, ◌-◌, Bool, List, ◌∷◌, None, Result, Ok, Err, refl, sym, ◌∙◌, ap, subst, inr}
use Rattle.std.specs.declared.option.Option.{Option}
use Rattle.plai_domain.specs.Plain.{PlainDomain}
use Rattle.plai_domain.specs.declared.work.WorkEntry.{WorkEntry}
use Rattle.plai_clauses.specs.Program.{ProgramView}
use Rattle.plai_clauses.specs.WellFormed.{IsWellFormed}
use Rattle.plai_clauses.specs.declared.edit_cause.EditCause.{EditCause}
use Rattle.plai_script.specs.declared.edit.Edit.{Edit}
use Rattle.plai_session.specs.Programs.{behind}
use Rattle.plai_session.specs.Sessions.{SessionView, IsAnalysed, kept_program}
use Rattle.plai_session.specs.Work.{IsWorkOf, IsCutOff}
use Rattle.plai_session.specs.declared.answer.EditAnswer.{EditAnswer}
use Rattle.plai_top.specs.Working.{Span, between, kept_by}
use Rattle.plai_top.specs.Writing.{IsAnswerFor, WritesBlock, Wrote, shows_table}
use Rattle.plai_top.specs.declared.form.Form.{Form}
use Rattle.plai_top.specs.declared.stop.Stop.{Stop}
use Rattle.plai_top.specs.declared.stop.Stop.TheVariants.{Memory}
use Rattle.plai_top.proofs.Answering.{analysed_keeps, cut_block}
use Rattle.plai_top.proofs.Items.{Both, first_written, first_stops}

module _ {D : Type 0} (form : Form) (plain : D → PlainDomain) (session : SessionView D) (given_answer : EditAnswer) (items : List (Result Edit EditCause))
    (before now : Option (List ℕ)) (begun told : Option (List WorkEntry)) (counted steps : ℕ)
    (domain : D) (limit : ℕ) (program : ProgramView) (own : session.domain ≡ domain) (most : session.limit ≡ limit) (has : session.program ≡ program)
    (is : IsAnalysed (plain domain) limit program session.table given_answer)
    (work : IsWorkOf (plain domain) limit None program 0 begun told (steps - counted) given_answer) where
  abbrev first_span : Span
  first_span = between begun told counted steps

  abbrev Writes : Result Bool Stop → Type 0
  Writes result = (was : Option ProgramView) (given : Result ProgramView EditCause) (span : Span)
      → IsAnswerFor (plain session.domain) session.limit was 0 session.program session.table given_answer span given
      → WritesBlock form (plain session.domain) session.limit was 0 given span before now result

  abbrev OwnAnswer : D → ℕ → ProgramView → Type 0
  OwnAnswer d n g = IsAnalysed (plain d) n g session.table given_answer × IsWorkOf (plain d) n None g 0 begun told (steps - counted) given_answer

  own_answer : IsAnswerFor (plain session.domain) session.limit None 0 session.program session.table given_answer first_span (Ok session.program)
  own_answer =
      let by_program : OwnAnswer domain limit session.program = subst (OwnAnswer domain limit) (sym has) (is, work) in
      let by_limit : OwnAnswer domain session.limit session.program = subst (λ n. OwnAnswer domain n session.program) (sym most) by_program in
      let by_domain : OwnAnswer session.domain session.limit session.program =
      subst (λ d. OwnAnswer d session.limit session.program) (sym own) by_limit in
      (refl, by_domain.0, by_domain.1)

  own_keeps : (shows : Bool) → shows ≡ shows_table given_answer → kept_program session ≡ kept_by None (Ok session.program) shows
  own_keeps shows same =
      analysed_keeps (plain session.domain) session.limit session.program session.table given_answer own_answer.1
      ∙ ap (kept_by None (Ok session.program)) (sym same)

  abbrev Whole : D → ℕ → ProgramView → Option (List ℕ) → Span → Result ℕ Stop → Type 0
  Whole d n g = Both form (plain d) n (Ok g ∷ behind g items) before

  as_given : (after : Option (List ℕ)) (span : Span) (result : Result ℕ Stop) → Whole session.domain session.limit session.program after span result
      → Whole domain limit program after span result
  as_given after span result writes =
      let by_domain : Whole domain session.limit session.program after span result =
      subst (λ d. Whole d session.limit session.program after span result) own writes in
      let by_limit : Whole domain limit session.program after span result =
      subst (λ n. Whole domain n session.program after span result) most by_domain in
      subst (λ g. Whole domain limit g after span result) has by_limit

  -- the other blocks were written behind it, or not all
  pub opened_blocks : IsWellFormed program → (after : Option (List ℕ)) (ended : Option (List WorkEntry)) (total : ℕ) (shows : Bool) (result : Result ℕ Stop)
      → Writes (Ok shows) → shows ≡ shows_table given_answer
      → ((givens : List (Result ProgramView EditCause)) (from : Option (List ℕ)) (since : Option (List WorkEntry)) (old : ℕ)
      → Wrote form (plain session.domain) session.limit givens from now (between since told old steps) (behind session.program items)
      (kept_program session) 1 shows
      → Both form (plain session.domain) session.limit givens from after (between since ended old total) result)
      → Whole domain limit program after (between begun ended counted total) result
  opened_blocks well after ended total shows result writes same others =
      as_given after (between begun ended counted total) result (others (Ok session.program ∷ behind session.program items) before begun counted
      (first_written form (plain session.domain) session.limit (Ok session.program) (behind session.program items) before now first_span shows
      (subst IsWellFormed (sym has) well) (writes None (Ok session.program) first_span own_answer) (kept_program session) (own_keeps shows same)))

  -- the first block wasn't written
  pub opened_stops : (stop : Stop) → Writes (Err stop) → Whole domain limit program now first_span (Err stop)
  opened_stops stop writes =
      as_given now first_span (Err stop)
      (first_stops form (plain session.domain) session.limit (Ok session.program) (behind session.program items) before now first_span stop
      (writes None (Ok session.program) first_span own_answer))

-- there is no first block
pub none_opened : (form : Form) (p : PlainDomain) (limit : ℕ) (program : ProgramView) (left : List (Result ProgramView EditCause)) (taken : Option (List ℕ))
    (span : Span) → IsCutOff p limit None program 0 span.before span.after → Both form p limit (Ok program ∷ left) taken taken span (Err Memory)
none_opened form p limit program left taken span off =
    first_stops form p limit (Ok program) left taken taken span Memory (cut_block form p limit None 0 span (Ok program) taken (inr (program, refl, off)))
