use Rattle.plai_sources.proofs.Terms.{add_said}
use Rattle.plai_sources.proofs.text.add_term.Goals as goal

pub returns-in_ok-item-in-Some : goal.returns-in_ok-item-in-Some
returns-in_ok-item-in-Some c = record {
  term = add_said c.args.reading c.args.number c.args.read c.in-Some.header c.say.new.ops c.in_ok-item-in-Some.item c.place_if.result
      c.in-Some.is c.in_ok-item-in-Some.ensures.says c.place_if.ensures;
}
