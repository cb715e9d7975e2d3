use Rattle.plai_depth_symbols.proofs.Program.{rows_over, asked_over}
use Rattle.plai_depth_symbols.proofs.asked_names_are_over_the_program.Goals as goal

pub returns : goal.returns
returns c = record {
  calls = λ k program rows made r i. (rows_over k program made r i).0;
  answers = λ k program rows made r i. (rows_over k program made r i).1;
  asked = asked_over;
}
