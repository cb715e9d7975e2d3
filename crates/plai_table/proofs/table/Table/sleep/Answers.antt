use Rattle.plai_table.specs.Contents.{rows_in}
use Rattle.plai_table.proofs.RowLemmas.{no_more, what_is_left, slept}
use Rattle.plai_table.proofs.table.Table.sleep.Goals as goal

pub without_one-self-inside-requires : goal.without_one-self-inside-requires
without_one-self-inside-requires g c =
    no_more _ _ _ (slept (rows_in c.self.inside.rows.entries) (rows_in c.set_live-was_live.new.rows.entries) c.args.row c.self.inside.live
    c.set_live-was_live.result
    c.set_live-was_live.ensures.rows c.set_live-was_live.ensures.was c.set_live-was_live.ensures.there c.self.invariant)

pub invariant_of-self : goal.invariant_of-self
invariant_of-self g c =
    what_is_left _ _ _ _ (slept (rows_in c.self.inside.rows.entries) (rows_in c.set_live-was_live.new.rows.entries) c.args.row c.self.inside.live
    c.set_live-was_live.result
    c.set_live-was_live.ensures.rows c.set_live-was_live.ensures.was c.set_live-was_live.ensures.there c.self.invariant) c.without_one-self-inside.ensures
