use Rattle.plai_depth_laws.proofs.Examples.{number_entered, number_called, number_back, number_left, numbers_joined, fact_cut, integers_joined}
use Rattle.plai_depth_laws.proofs.numbers_are_any.Goals as goal

pub returns : goal.returns
returns c = record {
  entered = number_entered;
  called = number_called;
  back = number_back;
  left = number_left;
  joined = numbers_joined;
  fact = fact_cut;
  facts = integers_joined;
}
