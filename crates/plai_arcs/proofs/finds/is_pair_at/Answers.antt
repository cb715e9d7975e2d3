use Rattle.std.proofs.Common.{false, sym, ◌∙◌}
use Rattle.plai_arcs.specs.Links.{is_pair}
use Rattle.plai_arcs.proofs.PlaceLemmas.{at_index, at_past}
use Rattle.plai_arcs.proofs.finds.is_pair_at.Goals as goal

pub returns-then-place-pairs : goal.returns-then-place-pairs
returns-then-place-pairs c = c.is_same_pair.ensures
    ∙ sym (at_index (is_pair c.args.pair.0 c.args.pair.1) false c.args.pairs.now c.args.place (0, 0) c.if-place-pairs.true)

pub returns-else-place-pairs : goal.returns-else-place-pairs
returns-else-place-pairs c = sym (at_past (is_pair c.args.pair.0 c.args.pair.1) false c.args.pairs.now c.args.place c.if-place-pairs.false)
