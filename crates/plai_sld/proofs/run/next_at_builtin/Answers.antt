use Rattle.std.proofs.Common.{subst}
use Rattle.plai_builtins.specs.Meaning.{Means}
use Rattle.plai_sld.proofs.Reached.{builtin_is}
use Rattle.plai_sld.proofs.run.next_at_builtin.Goals as goal

pub returns-in_ok-next-in-Some : goal.returns-in_ok-next-in-Some
returns-in_ok-next-in-Some c =
    let (change, state) =
    builtin_is c.args.below.now.bindings c.in-Some.bindings c.in_ok-below-in-Some.below.bindings c.as_slice.result.now c.args.below.now.limit c.args.number
    c.in_ok-next-in-Some.next c.args.stack.now _ _ c.requires.below
    c.in_ok-below-in-Some.ensures.both c.in_ok-count-in-Some.ensures c.as_slice.ensures.pairs c.in_ok-next-in-Some.ensures in
    (change, c.in-Some.bindings, subst (λ o. Means c.args.name.now c.args.args.now c.args.number o) c.in-Some.is c.in_ok-meaning.ensures, state)
