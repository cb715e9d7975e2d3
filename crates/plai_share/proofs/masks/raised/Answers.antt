use Rattle.std.proofs.Common.{ap, ◌*◌, ◌^◌, ◌%◌, ◌∙◌}
use Rattle.plai_share.proofs.Bits.{shifted}
use Rattle.plai_share.proofs.masks.raised.Goals as goal

pub returns-else-below-eq64 : goal.returns-else-below-eq64
returns-else-below-eq64 c = c.from_bits.ensures ∙ ap (λ m. (m * 2 ^ c.args.below) % 2 ^ 64) c.bits.ensures
    ∙ shifted c.args.mask c.args.below c.args.count c.requires.mask c.requires.room
