use Rattle.plai_script.proofs.Variables.{fits}
use Rattle.plai_script.proofs.own_term.own_term.Goals as goal

pub number-requires : goal.number-requires
number-requires c = fits c.args.limit c.args.term.now c.in_ok-seen.seen.keys c.requires.few c.requires.part c.in_ok-seen.ensures

pub count_of-requires : goal.count_of-requires
count_of-requires c = fits c.args.limit c.args.term.now c.in_ok-seen.seen.keys c.requires.few c.requires.part c.in_ok-seen.ensures
