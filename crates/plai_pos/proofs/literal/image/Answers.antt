use Rattle.plai_factors.specs.Product.{together}
use Rattle.plai_bdd.proofs.Steps.{ok_then}
use Rattle.plai_pos.proofs.Literals.{projected_is, image_is}
use Rattle.plai_pos.proofs.literal.image.Goals as goal

pub returns : goal.returns
returns c =
    let given = together c.args.functions.items in
    ok_then _ _
    (λ b h. image_is c.args.end c.args.sets.now c.requires.below c.requires.slots given c.requires.functions c.in_ok-known.known b
    (projected_is c.args.end c.args.sets.now c.requires.below c.requires.slots given c.requires.functions c.slots_from.result
    (together c.in_ok-unified.unified.items) c.in_ok-known.known
    c.slots_from.ensures c.in_ok-known.ensures.meaning c.in_ok-unified.ensures)
    h)
    c.shift_down.result c.shift_down.ensures
