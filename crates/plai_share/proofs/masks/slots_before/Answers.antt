use Rattle.std.proofs.Common.{ap, bit_and, ◌∙◌}
use Rattle.plai_share.proofs.Bits.{and_all}
use Rattle.plai_share.proofs.masks.slots_before.Goals as goal

pub returns : goal.returns
returns c = c.project.ensures ∙ ap (bit_and c.args.mask) c.first_slots.ensures ∙ and_all c.args.mask c.args.end
