use Rattle.std.proofs.Common.{refl}
use Rattle.plai_repair.proofs.Lists.{gathers_at, gathers_not_at}
use Rattle.plai_repair.proofs.gathering.gather_where_lost.Goals as goal

pub returns-then-not-loses : goal.returns-then-not-loses
returns-then-not-loses g c =
    gathers_not_at c.args.before.now c.args.after.now c.args.table.now.rows c.args.row _ _ _ _ c.row.ensures refl refl
    (c.loses.ensures.0 c.if-not-loses.true) c.requires.marked

pub returns : goal.returns
returns g c =
    gathers_at c.args.before.now c.args.after.now c.args.table.now.rows c.args.row _ _ _ c.row.ensures refl refl
    (λ p. let t = c.loses.ensures.1 p in let u = c.if-not-loses.false in cc) c.in_ok-gather.ensures
