-- Each clause is a theorem of proofs/.
use Rattle.plai_theory.proofs.Walk.{state_behind-append, calls_along-append, after_push, legal_push}
use Rattle.plai_theory.proofs.walk_theorems.walk_laws.Goals as goal

pub returns : goal.returns
returns g c = record {
  state_in_parts = λ s. state_behind-append _ s;
  calls_in_parts = λ s. calls_along-append _ s;
  after_one_more = λ p. after_push _ p 0;
  legal_with_one_more = λ p limit. legal_push _ p limit;
}
