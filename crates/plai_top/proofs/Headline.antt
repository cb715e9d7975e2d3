-- The blocks of least tables describe all runs.
use Rattle.std.proofs.Common.{◌≡◌, ◌≤◌, ◌⊎◌, ℕ, ◌+◌, List, ◌∷◌, None, Some, Result, Ok, IfOk, refl, sym, subst, inl, inr, arith}
use Rattle.std.proofs.lemmas.List.Elements.{All-head, All-tail}
use Rattle.std.specs.declared.option.Option.{Option}
use Rattle.plai_base.specs.Texts.{TextMap}
use Rattle.plai_theory.specs.Words.{IsIn}
use Rattle.plai_terms.specs.declared.term.Term.{Term}
use Rattle.plai_terms.specs.declared.pred_key.PredKey.{PredKey}
use Rattle.plai_terms.specs.declared.plain_row.PlainRow.{PlainRow}
use Rattle.plai_domain.specs.Plain.{PlainDomain}
use Rattle.plai_domain.specs.Laws.{IsLawful}
use Rattle.plai_domain.specs.Soundness.{IsSound}
use Rattle.plai_clauses.specs.Program.{ProgramView}
use Rattle.plai_clauses.specs.WellFormed.{IsWellFormed}
use Rattle.plai_clauses.specs.declared.check.Check.{Check}
use Rattle.plai_clauses.specs.declared.edit_cause.EditCause.{EditCause}
use Rattle.plai_session.specs.Programs.{behind}
use Rattle.plai_assert.specs.Verdicts.{verdict_of, verdicts_of}
use Rattle.plai_eval.specs.LeastTable.{IsLeastTable}
use Rattle.plai_sld.specs.declared.item.Item.{Item}
use Rattle.plai_sld.specs.declared.item.Item.TheVariants.{Call, Mark}
use Rattle.plai_sld.specs.Runs.{RunState}
use Rattle.plai_sld.specs.Described.{IsFrontDescribed, AreRunsDescribed}
use Rattle.plai_sld.specs.Verdicts.{IsReached, IsCalled, IsAnswered, IsKeptByRuns}
use Rattle.plai_pos_laws.specs.Groundness.{groundness}
use Rattle.plai_share_laws.specs.Sharing.{sharing}
use Rattle.plai_depth_laws.specs.DepthK.{depth_k}
use Rattle.plai_render.specs.Block.{block_text}
use Rattle.plai_words.specs.declared.types.DomainName.{DomainName}
use Rattle.plai_words.specs.declared.types.DomainName.TheVariants.{Ground, Share, Depth}
use Rattle.plai_top.specs.Headline.{IsCallPrinted, IsAnswerPrinted, IsPromised, IsPromisedBlock, ArePromised, TakesPromised}
use Rattle.plai_top.specs.Tasks.{domain_named, domain_of}
use Rattle.std.specs.Io.KnownBytes.{Appends}
use Rattle.plai_top.specs.Blocks.{Block, texts_from, IsBlockOf, is_table_of, many_rows, large_sets, is_refused, AreBlocksOf, no_more, one_more}
use Rattle.plai_top.specs.Plans.{IsPlan, IsFitPlan, CarriesOut}
use Rattle.plai_top.specs.Stops.{status_of}
use Rattle.plai_top.specs.Told.{IfBothTold}
use Rattle.plai_top.specs.Writing.{AreFormed}
use Rattle.plai_top.specs.declared.plan.Plan.{Plan}
use Rattle.plai_top.specs.declared.plan.Plan.TheVariants.{Line, Blocks}
use Rattle.plai_top.specs.declared.stop.Stop.{Stop}
use Rattle.plai_top.specs.declared.stop.Stop.TheVariants.{NoCommand, TooLarge, ReadFault, WriteFault, Memory}
use Rattle.plai_top.specs.declared.task.Task.{Task}
use Rattle.plai_top.proofs.Printed.{row_is_printed}

-- each verdict keeps its promise
abbrev pub VerdictsKept : PlainDomain → ProgramView → List PlainRow → Type 0
VerdictsKept p program rows = (check : Check) → IsIn check program.checks → IsKeptByRuns p program check (verdict_of p rows check)

-- rows that describe all runs, in a block
module _ (p : PlainDomain) (program : ProgramView) (rows : List PlainRow) (described : AreRunsDescribed p program rows) (number : ℕ) where
  abbrev own_text : List ℕ
  own_text = block_text number rows program.checks (verdicts_of p rows program.checks)

  front_described : (state : RunState) → IsReached p program state → (items : List Item) → state.items ≡ items → IsFrontDescribed p rows items
  front_described state (pred, args, goal, choices, run) items e = subst (IsFrontDescribed p rows) e (described pred args goal choices state run)

  call_printed : (pred : PredKey) (args : List Term) → IsCalled p program pred args → IsCallPrinted p rows own_text pred args
  call_printed pred args (state, reached, rest, e) =
      let (row, i, is, told) = front_described state reached (Call pred args ∷ rest) e in
      (row, row_is_printed rows row i number program.checks (verdicts_of p rows program.checks), is, told)

  answer_printed : (pred : PredKey) (was now : List Term) → IsAnswered p program pred was now → IsAnswerPrinted p rows own_text pred was now
  answer_printed pred was now (state, reached, rest, e) =
      let (row, i, is, called, answer, has, told) = front_described state reached (Mark pred was now ∷ rest) e in
      (row, row_is_printed rows row i number program.checks (verdicts_of p rows program.checks), is, called, answer, has, told)

  block_promised : IsLeastTable p program rows → VerdictsKept p program rows → IsPromised p program number own_text
  block_promised least kept = record {
    rows = rows;
    least = least;
    written = refl;
    described = record { calls = call_printed; answers = answer_printed };
    kept = kept;
  }

-- the laws of the domains of tasks
abbrev pub LawsHold : Type 0
LawsHold = (task : Task) → 1 ≤ task.depth → IsLawful (domain_of task) × IsSound (domain_of task)

-- at each task, the least table describes all runs
abbrev pub LeastDescribes : Type 0
LeastDescribes = (task : Task) → IsLawful (domain_of task) → IsSound (domain_of task) → (program : ProgramView) → IsWellFormed program
    → (rows : List PlainRow) → IsLeastTable (domain_of task) program rows → AreRunsDescribed (domain_of task) program rows

-- and its verdicts keep their promises
abbrev pub LeastKeeps : Type 0
LeastKeeps = (task : Task) → IsLawful (domain_of task) → IsSound (domain_of task) → (program : ProgramView) → IsWellFormed program
    → (rows : List PlainRow) → IsLeastTable (domain_of task) program rows → VerdictsKept (domain_of task) program rows

pub laws_hold : IsLawful groundness × IsSound groundness → IsLawful sharing × IsSound sharing
    → ((k : ℕ) → 1 ≤ k → IsLawful (depth_k k) × IsSound (depth_k k)) → LawsHold
laws_hold ground share depth task least = by_name task.domain
  where
    by_name : (name : DomainName) → IsLawful (domain_named name task.depth) × IsSound (domain_named name task.depth)
    by_name Ground = ground
    by_name Share = share
    by_name Depth = depth task.depth least

module _ (laws : LawsHold) (describes : LeastDescribes) (keeps : LeastKeeps) where
  pub table_promised : (task : Task) → 1 ≤ task.depth → (program : ProgramView) → IsWellFormed program → (rows : List PlainRow)
      → IsLeastTable (domain_of task) program rows → (number : ℕ)
      → IsPromised (domain_of task) program number (block_text number rows program.checks (verdicts_of (domain_of task) rows program.checks))
  table_promised task deep program formed rows least number =
      let both = laws task deep in
      block_promised (domain_of task) program rows (describes task both.0 both.1 program formed rows least) number least
      (keeps task both.0 both.1 program formed rows least)

-- ---- blocks that were written

-- what the law says of tables
abbrev pub TablesPromise : Type 0
TablesPromise = (task : Task) → 1 ≤ task.depth → (program : ProgramView) → IsWellFormed program → (rows : List PlainRow)
    → IsLeastTable (domain_of task) program rows → (number : ℕ)
    → IsPromised (domain_of task) program number (block_text number rows program.checks (verdicts_of (domain_of task) rows program.checks))

module _ (promise : TablesPromise) (task : Task) (deep : 1 ≤ task.depth) (limit : ℕ) where
  one_promised : (number : ℕ) (given : Result ProgramView EditCause) (block : Block) → IfOk given IsWellFormed → IsBlockOf (domain_of task) limit given block
      → IsPromisedBlock (domain_of task) number given block
  one_promised number given block form (is_table_of program rows least within not_over) = promise task deep program form rows least number
  one_promised number given block form (many_rows program more) = tt
  one_promised number given block form (large_sets program over) = tt
  one_promised number given block form (is_refused cause) = tt

  all_promised : (number : ℕ) (givens : List (Result ProgramView EditCause)) (blocks : List Block) → AreFormed givens
      → AreBlocksOf (domain_of task) limit givens blocks
      → ArePromised (domain_of task) number givens blocks
  all_promised number givens blocks forms no_more = tt
  all_promised number givens blocks forms (one_more given block others rest is are) = (
    one_promised number given block (All-head (λ g. IfOk g IsWellFormed) given others forms) is,
    all_promised (number + 1) others rest (All-tail (λ g. IfOk g IsWellFormed) given others forms) are,
  )

module _ (promise : TablesPromise) (words : List (List ℕ)) (before after : Option (List ℕ)) where
  carried_promised : (files : TextMap) (script : List ℕ) (plan : Plan) (status : ℕ) → IsPlan words files script plan → IsFitPlan plan
      → CarriesOut before after plan (Ok status)
      → (status ≡ 0) ⊎ (status ≡ 1) → TakesPromised words files script before after
  carried_promised files script (Line bytes) status is fit (three, took) done = absurd (not_three status three done)
    where
      not_three : (n : ℕ) → n ≡ 3 → (n ≡ 0) ⊎ (n ≡ 1) → ⊥
      not_three n three (inl none) = omega arith
      not_three n three (inr one) = omega arith
  carried_promised files script (Blocks task program items) status (settings, same, asked) (deep, shallow, readable) written done =
      let promised : ArePromised (domain_of task) 0 (Ok program ∷ behind program items.items) written.blocks =
      all_promised promise task deep task.rows 0 (Ok program ∷ behind program items.items) written.blocks written.formed written.are in
      record {
        settings = settings;
        program = program;
        items = items.items;
        blocks = written.blocks;
        asked = asked;
        are = subst (λ t. AreBlocksOf (domain_of t) t.rows (Ok program ∷ behind program items.items) written.blocks) (sym same) written.are;
        taken = subst (λ t. Appends before after (texts_from t.form 0 written.blocks)) (sym same) written.bytes;
        promised = subst (λ t. ArePromised (domain_of t) 0 (Ok program ∷ behind program items.items) written.blocks) (sym same) promised;
      }

  pub plan_promised : (told : Option TextMap) (left : Option (List ℕ)) (plan : Plan) (status : ℕ)
      → IfBothTold told left (λ files text. IsPlan words files text plan)
      → IsFitPlan plan → CarriesOut before after plan (Ok status)
      → IfBothTold told left (λ files text. (status ≡ 0) ⊎ (status ≡ 1) → TakesPromised words files text before after)
  plan_promised None left plan status is fit carried = tt
  plan_promised (Some files) None plan status is fit carried = tt
  plan_promised (Some files) (Some text) plan status is fit carried = carried_promised files text plan status is fit carried

-- a stop is no table
pub never_done : (stop : Stop) → (status_of stop ≡ 0) ⊎ (status_of stop ≡ 1) → ⊥
never_done NoCommand done = elim done [ inl e ↦ omega arith | inr e ↦ omega arith ]
never_done TooLarge done = elim done [ inl e ↦ omega arith | inr e ↦ omega arith ]
never_done ReadFault done = elim done [ inl e ↦ omega arith | inr e ↦ omega arith ]
never_done WriteFault done = elim done [ inl e ↦ omega arith | inr e ↦ omega arith ]
never_done Memory done = elim done [ inl e ↦ omega arith | inr e ↦ omega arith ]

pub stop_promises : (told : Option TextMap) (left : Option (List ℕ)) (stop : Stop) (P : TextMap → List ℕ → Type 0)
    → IfBothTold told left (λ files text. (status_of stop ≡ 0) ⊎ (status_of stop ≡ 1) → P files text)
stop_promises None left stop P = tt
stop_promises (Some files) None stop P = tt
stop_promises (Some files) (Some text) stop P = λ done. absurd (never_done stop done)
