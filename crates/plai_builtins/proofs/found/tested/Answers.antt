use Rattle.plai_builtins.proofs.Distinct.{none_distinct}
use Rattle.plai_builtins.proofs.found.tested.Goals as goal

pub new-requires-then-holds : goal.new-requires-then-holds
new-requires-then-holds c = none_distinct c.new.result.items c.new.ensures.items
