use Rattle.std.proofs.lemmas.Slice.Eq.{slice_eq-Decides}
use Rattle.plai_repair.proofs.Entries.{prop-Decides}
use Rattle.plai_repair.proofs.equal.same_properties.Goals as goal

pub returns : goal.returns
returns c = slice_eq-Decides prop-Decides c.args.one.now c.args.two.now c.eq.result c.eq.ensures
