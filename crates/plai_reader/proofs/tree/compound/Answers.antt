use Rattle.std.proofs.Common.{rules}
use Rattle.plai_reader.proofs.Gathering.{some-terms}
use Rattle.plai_reader.proofs.tree.compound.Goals as goal

pub new-requires : goal.new-requires
new-requires c =
    some-terms c.args.trees.items c.in_ok-terms.field-0.terms.items c.in_ok-terms.field-0.deepest c.in_ok-terms.field-0.wide
    c.in_ok-terms.ensures.terms c.in_ok-terms.ensures.deepest c.in_ok-terms.ensures.wide (search rules) (search rules) c.requires
