use Rattle.plai_depth_symbols.proofs.Table.{table_over}
use Rattle.plai_depth_symbols.proofs.least_tables_are_over_the_program.Goals as goal

pub returns : goal.returns
returns c = table_over
