use Rattle.std.proofs.Common.{◌+◌}
use Rattle.plai_share.specs.Values.{shares}
use Rattle.plai_share.proofs.Literals.{extend_few}
use Rattle.plai_share.proofs.literal.extend.Goals as goal

pub returns-clause-few : goal.returns-clause-few
returns-clause-few c = extend_few c.args.sets.now c.unify_each.new.sets
    (c.args.state.now.arity + c.args.state.now.variables) c.args.state.now.arity c.args.args.now
    (shares c.in_ok-wide.wide) c.requires.count c.requires.args.few c.in_ok-next.ensures.count
