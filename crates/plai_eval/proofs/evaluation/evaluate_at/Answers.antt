use Rattle.std.proofs.Common.{◌≡◌, All, length, Some, sym, subst, arith}
use Rattle.std.proofs.lemmas.Grind.{common_steps}
use Rattle.plai_domain.specs.Conditions.{IsValue, IsHead}
use Rattle.plai_clauses.specs.WellFormed.{IsLiteral}
use Rattle.plai_eval.proofs.Closed.{entered_there, is_state, in_numbers, literals_of}
use Rattle.plai_eval.proofs.evaluation.evaluate_at.Goals as goal

pub walk_body-requires-clause-state : goal.walk_body-requires-clause-state
walk_body-requires-clause-state g c =
    let p = g.D.Domain.plain c.args.domain.now in
    let laws = g.met.D.Domain.lawful c.args.domain.now in
    let head = c.as_slice-head.result.now in
    let v = c.args.clause.now.variables in
    let state = g.D.Domain.state_of c.in-Some.state in
    let good : IsHead (length head) v head = subst (λ h. IsHead (length h) v h) (sym c.as_slice-head.ensures) c.requires.clause.head in
    let value : IsValue p (length head) (g.D.Domain.value_of c.args.call.now) =
    subst (λ h. IsValue p (length h) (g.D.Domain.value_of c.args.call.now)) (sym c.as_slice-head.ensures) c.requires.call in
    let entered : (p.enter (g.D.Domain.value_of c.args.call.now) head v).value ≡ Some state = grind (arith, common_steps) in
    let there = entered_there p laws (length head) v head (g.D.Domain.value_of c.args.call.now) state good value entered in
    is_state p laws (length head) v state there

pub walk_body-requires-clause-head : goal.walk_body-requires-clause-head
walk_body-requires-clause-head g c =
    let p = g.D.Domain.plain c.args.domain.now in
    let laws = g.met.D.Domain.lawful c.args.domain.now in
    let head = c.as_slice-head.result.now in
    let v = c.args.clause.now.variables in
    let state = g.D.Domain.state_of c.in-Some.state in
    let good : IsHead (length head) v head = subst (λ h. IsHead (length h) v h) (sym c.as_slice-head.ensures) c.requires.clause.head in
    let value : IsValue p (length head) (g.D.Domain.value_of c.args.call.now) =
    subst (λ h. IsValue p (length h) (g.D.Domain.value_of c.args.call.now)) (sym c.as_slice-head.ensures) c.requires.call in
    let entered : (p.enter (g.D.Domain.value_of c.args.call.now) head v).value ≡ Some state = grind (arith, common_steps) in
    let there = entered_there p laws (length head) v head (g.D.Domain.value_of c.args.call.now) state good value entered in
    in_numbers p laws (length head) v (λ n m. IsHead n m head) state there good

pub walk_body-requires-clause-body : goal.walk_body-requires-clause-body
walk_body-requires-clause-body g c =
    let p = g.D.Domain.plain c.args.domain.now in
    let laws = g.met.D.Domain.lawful c.args.domain.now in
    let head = c.as_slice-head.result.now in
    let v = c.args.clause.now.variables in
    let state = g.D.Domain.state_of c.in-Some.state in
    let good : IsHead (length head) v head = subst (λ h. IsHead (length h) v h) (sym c.as_slice-head.ensures) c.requires.clause.head in
    let value : IsValue p (length head) (g.D.Domain.value_of c.args.call.now) =
    subst (λ h. IsValue p (length h) (g.D.Domain.value_of c.args.call.now)) (sym c.as_slice-head.ensures) c.requires.call in
    let entered : (p.enter (g.D.Domain.value_of c.args.call.now) head v).value ≡ Some state = grind (arith, common_steps) in
    let there = entered_there p laws (length head) v head (g.D.Domain.value_of c.args.call.now) state good value entered in
    in_numbers p laws (length head) v (λ n m. All (IsLiteral n m) c.as_slice.result.now) state there
    (literals_of c.args.clause.now c.requires.clause head c.as_slice.result.now c.as_slice-head.ensures c.as_slice.ensures)
