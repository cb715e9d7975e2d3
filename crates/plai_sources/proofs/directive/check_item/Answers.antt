use Rattle.std.specs.Prelude.{option_map}
use Rattle.plai_sources.specs.declared.items.Item.TheVariants.{Check}
use Rattle.plai_sources.specs.Properties.{check_of}
use Rattle.plai_sources.proofs.directive.check_item.Goals as goal

pub returns : goal.returns
returns c = c.or_refuse.ensures (option_map Check (check_of c.args.term.now)) c.make_check.ensures
