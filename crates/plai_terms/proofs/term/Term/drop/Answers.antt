use Rattle.std.proofs.Common.{◌<◌, [], unwrap_or, sym, subst}
use Rattle.plai_terms.proofs.LetGo.{left_to_go, takes_waiting, takes_arguments, turns}
use Rattle.plai_terms.proofs.term.Term.drop.Goals as goal

pub loop-self-smaller-in-Some : goal.loop-self-smaller-in-Some
loop-self-smaller-in-Some c =
    let r = c.split_last.result in
    subst (λ w. left_to_go r.0 (unwrap_or r.1 []) < left_to_go c.loop-self.self (unwrap_or w [])) (sym c.in-Some.is)
    (takes_waiting c.loop-self.self r.0 c.in-Some.args (unwrap_or r.1 []) c.split_last.ensures)

pub loop-self-smaller-in-Compound : goal.loop-self-smaller-in-Compound
loop-self-smaller-in-Compound c =
    let r = c.split_last-in-None-waiting.result in
    subst (λ w. left_to_go r.0 (unwrap_or r.1 []) < left_to_go c.loop-self.self (unwrap_or w [])) (sym c.in-None-waiting.is)
    (takes_arguments c.loop-self.self r.0 c.in-Compound.name c.in-Compound.args (unwrap_or r.1 []) c.in-Compound.is c.split_last-in-None-waiting.ensures)

pub loop-self-smaller : goal.loop-self-smaller
loop-self-smaller c =
    let (first, rest, e, k) = c.turn-first.ensures in
    let r = c.turn-first.result in
    subst (λ w. left_to_go r.0 r.1 < left_to_go c.loop-self.self (unwrap_or w [])) (sym c.in-Some-waiting.is)
    (turns c.loop-self.self c.in-Compound.name c.in-Compound.args c.in-Some-waiting.others first rest r c.in-Compound.is e k)
