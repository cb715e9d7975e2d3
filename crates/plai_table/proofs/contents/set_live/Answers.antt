use Rattle.std.proofs.Common.{refl, sym}
use Rattle.plai_table.specs.Rows.{with_live}
use Rattle.plai_table.proofs.RowLemmas.{set_in, live_at, there_is}
use Rattle.plai_table.proofs.contents.set_live.Goals as goal

pub returns-clause-rows : goal.returns-clause-rows
returns-clause-rows g c = set_in (with_live c.args.live) c.args.rows.now.entries c.args.row _ c.pair_mut-contents.result.1.now _
    c.pair_mut-contents.ensures.value refl

pub returns-clause-was : goal.returns-clause-was
returns-clause-was g c = live_at c.args.rows.now.entries c.args.row _ c.pair_mut-contents.result.1.now c.pair_mut-contents.ensures.value

pub returns-clause-there : goal.returns-clause-there
returns-clause-there g c = there_is c.args.rows.now.entries c.args.row _ _ refl (sym c.pair_mut-contents.ensures.value)
