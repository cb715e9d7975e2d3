use Rattle.plai_table.specs.Contents.{rows_in}
use Rattle.plai_table.proofs.RowLemmas.{no_more, what_is_left, taken}
use Rattle.plai_table.proofs.table.Table.remove.Goals as goal

pub without_one-self-inside-requires : goal.without_one-self-inside-requires
without_one-self-inside-requires g c =
    no_more _ _ _ (taken (rows_in c.self.inside.rows.entries) (rows_in c.take_away-was_live.new.rows.entries) c.args.row c.self.inside.live
    c.take_away-was_live.result
    c.take_away-was_live.ensures.rows c.take_away-was_live.ensures.was c.take_away-was_live.ensures.there c.self.invariant)

pub invariant_of-self : goal.invariant_of-self
invariant_of-self g c =
    what_is_left _ _ _ _ (taken (rows_in c.self.inside.rows.entries) (rows_in c.take_away-was_live.new.rows.entries) c.args.row c.self.inside.live
    c.take_away-was_live.result
    c.take_away-was_live.ensures.rows c.take_away-was_live.ensures.was c.take_away-was_live.ensures.there c.self.invariant) c.without_one-self-inside.ensures
