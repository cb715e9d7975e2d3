use Rattle.std.proofs.Common.{◌≡◌, length, arith}
use Rattle.std.proofs.lemmas.Grind.{common_steps}
use Rattle.std.specs.Option.{option_map}
use Rattle.plai_domain.specs.Conditions.{AreArguments, IsValue}
use Rattle.plai_compare.proofs.Closed.{backed}
use Rattle.plai_compare.proofs.tried.back.Goals as goal

pub reached-requires : goal.reached-requires
reached-requires g c =
    let p = g.D.Domain.plain c.args.domain.now in
    let at = c.args.at.now in
    let answer = c.args.answer.now in
    let args : AreArguments at.arity at.variables c.args.args.now = grind (arith, common_steps) in
    let value : IsValue p (length c.args.args.now) (g.D.Domain.value_of answer.value) = grind (arith, common_steps) in
    let same : option_map g.D.Domain.state_of c.in-Ok.state
    ≡ (p.back (g.D.Domain.state_of at.state) c.args.args.now (g.D.Domain.value_of answer.value)).value = grind (arith, common_steps) in
    backed p (g.met.D.Domain.lawful c.args.domain.now) at.arity at.variables (g.D.Domain.state_of at.state) c.requires.state c.args.args.now args
    g.D.Domain.state_of c.in-Ok.state (g.D.Domain.value_of answer.value) value same
