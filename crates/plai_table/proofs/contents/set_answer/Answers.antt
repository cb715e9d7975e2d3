use Rattle.std.proofs.Common.{refl}
use Rattle.plai_table.specs.Rows.{with_answer}
use Rattle.plai_table.proofs.RowLemmas.{set_in}
use Rattle.plai_table.proofs.contents.set_answer.Goals as goal

pub returns-clause-rows : goal.returns-clause-rows
returns-clause-rows g c = set_in (with_answer c.args.answer) c.args.rows.now.entries c.args.row _ c.pair_mut-contents.result.1.now _
    c.pair_mut-contents.ensures.value refl
