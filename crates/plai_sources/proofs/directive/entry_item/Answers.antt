use Rattle.std.specs.Prelude.{option_map}
use Rattle.plai_sources.specs.declared.items.Item.TheVariants.{Entry}
use Rattle.plai_sources.specs.Properties.{entry_of}
use Rattle.plai_sources.proofs.directive.entry_item.Goals as goal

pub returns : goal.returns
returns c = c.or_refuse.ensures (option_map Entry (entry_of c.args.term.now)) c.make_entry.ensures
