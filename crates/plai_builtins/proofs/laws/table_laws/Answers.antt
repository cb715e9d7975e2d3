use Rattle.plai_builtins.proofs.Tables.{only_builtins, actions_within, actions_few}
use Rattle.plai_builtins.proofs.laws.table_laws.Goals as goal

pub returns : goal.returns
returns c = record { keys = only_builtins; within = actions_within; few = actions_few }
