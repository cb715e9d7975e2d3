use Rattle.std.proofs.Common.{◌≡◌, length, arith}
use Rattle.std.proofs.lemmas.Grind.{common_steps}
use Rattle.std.specs.Option.{option_map}
use Rattle.plai_domain.specs.Conditions.{AreArguments}
use Rattle.plai_domain.specs.Instances.{acts_within}
use Rattle.plai_compare.proofs.Closed.{refined}
use Rattle.plai_compare.proofs.tried.refine.Goals as goal

pub reached-requires : goal.reached-requires
reached-requires g c =
    let p = g.D.Domain.plain c.args.domain.now in
    let at = c.args.at.now in
    let args : AreArguments at.arity at.variables c.args.args.now = grind (arith, common_steps) in
    let within : acts_within (length c.args.args.now) c.args.action.now = grind (arith, common_steps) in
    let same : option_map g.D.Domain.state_of c.in-Ok.state ≡ (p.refine (g.D.Domain.state_of at.state) c.args.args.now c.args.action.now).value =
    grind (arith, common_steps) in
    refined p (g.met.D.Domain.lawful c.args.domain.now) at.arity at.variables (g.D.Domain.state_of at.state) c.requires c.args.args.now args
    g.D.Domain.state_of c.in-Ok.state c.args.action.now within same
