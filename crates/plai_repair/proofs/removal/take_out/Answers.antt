use Rattle.plai_repair.proofs.Removed.{taken}
use Rattle.plai_repair.proofs.removal.take_out.Goals as goal

pub returns : goal.returns
returns g c =
    taken c.args.row c.args.table.now.rows c.remove-moved.new.self.rows c.args.arcs.now c.drop_row.new.self c.remove-moved.result c.requires
    c.remove-moved.ensures.rows c.remove-moved.ensures.moved c.remove-moved.ensures.last c.drop_row.ensures.dirty c.drop_row.ensures.calls
