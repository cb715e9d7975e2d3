use Rattle.std.proofs.Common.{◌∙◌, sym}
use Rattle.plai_analysis.proofs.QuietEdits.{still_kept, still_told}
use Rattle.plai_analysis.proofs.table.texts_again.Goals as goal

pub texts_of_table-requires : goal.texts_of_table-requires
texts_of_table-requires g c = (
  c.requires.kept.0,
  still_kept g.D.Domain.value_of (g.D.Domain.plain c.args.domain.now) c.args.was.now c.args.program.now (g.met.D.Domain.lawful c.args.domain.now)
      c.is_program.ensures.well_formed c.is_program-2.ensures.well_formed c.args.table.now.rows c.requires.kept.0 c.args.limit c.requires.kept.1
      c.requires.unchanged,
)

pub returns-then-same_checks : goal.returns-then-same_checks
returns-then-same_checks g c =
    still_told g.D.Domain.value_of (g.D.Domain.plain c.args.domain.now) c.args.was.now c.args.program.now (g.met.D.Domain.lawful c.args.domain.now)
    c.is_program.ensures.well_formed c.is_program-2.ensures.well_formed c.args.table.now.rows c.requires.kept.0 c.args.limit c.args.texts c.requires.own
    c.requires.kept.1 c.requires.unchanged (sym c.checks.ensures ∙ c.same_checks.ensures.0 c.if-same_checks.true ∙ c.checks-2.ensures)
