use Rattle.std.proofs.Common.{◌≡◌, arith}
use Rattle.std.proofs.lemmas.Grind.{common_steps}
use Rattle.std.specs.Option.{option_map}
use Rattle.plai_domain.specs.Conditions.{IsHead}
use Rattle.plai_compare.proofs.Closed.{entered}
use Rattle.plai_compare.proofs.tried.enter.Goals as goal

pub reached-requires : goal.reached-requires
reached-requires g c =
    let p = g.D.Domain.plain c.args.domain.now in
    let call = c.args.call.now in
    let head : IsHead call.arity c.args.variables c.args.head.now = grind (arith, common_steps) in
    let same : option_map g.D.Domain.state_of c.in-Ok.state ≡ (p.enter (g.D.Domain.value_of call.value) c.args.head.now c.args.variables).value =
    grind (arith, common_steps) in
    entered p (g.met.D.Domain.lawful c.args.domain.now) call.arity c.args.variables g.D.Domain.state_of c.in-Ok.state c.args.head.now
    (g.D.Domain.value_of call.value) head c.requires same
