use Rattle.std.proofs.Common.{◌∙◌}
use Rattle.plai_table.specs.Contents.{rows_in}
use Rattle.plai_table.proofs.RowLemmas.{live_fits, woken}
use Rattle.plai_table.proofs.table.Table.wake.Goals as goal

pub with_one-self-inside-requires : goal.with_one-self-inside-requires
with_one-self-inside-requires g c =
    live_fits c.set_live-was_live.new.rows.entries _ _
    (woken (rows_in c.self.inside.rows.entries) (rows_in c.set_live-was_live.new.rows.entries) c.args.row c.self.inside.live
    c.set_live-was_live.result c.set_live-was_live.ensures.rows c.set_live-was_live.ensures.was c.set_live-was_live.ensures.there c.self.invariant)
    c.len.ensures.len

pub invariant_of-self : goal.invariant_of-self
invariant_of-self g c =
    c.with_one-self-inside.ensures ∙ woken (rows_in c.self.inside.rows.entries) (rows_in c.set_live-was_live.new.rows.entries) c.args.row c.self.inside.live
    c.set_live-was_live.result c.set_live-was_live.ensures.rows c.set_live-was_live.ensures.was c.set_live-was_live.ensures.there c.self.invariant
