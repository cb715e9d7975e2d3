-- Each clause is a theorem of proofs/.
use Rattle.plai_fix_laws.proofs.Values.{name_is_value, answer_is_value, one_row, kept_answer_of, kept_calls_of}
use Rattle.plai_fix_laws.proofs.laws.value_laws.Goals as goal

pub returns : goal.returns
returns g c = record {
  names = λ p laws limit start log k open_pair logged n x named. name_is_value _ p laws _ limit start log k open_pair logged n x named;
  answers = λ p laws limit start log k open_pair logged q v a is e. answer_is_value _ p laws _ limit start log k open_pair logged q v a is e;
  one_row = λ p laws limit start log k open_pair logged i j y a b. one_row _ p laws _ limit start log k open_pair logged i j y a b;
  same_answer = λ p laws limit start log k open_pair logged c v. kept_answer_of _ p laws _ limit start log k open_pair logged c v;
  same_calls = λ p laws limit start log k open_pair logged c v. kept_calls_of _ p laws _ limit start log k open_pair logged c v;
}
