use Rattle.std.proofs.Common.{Bor}
use Rattle.std.proofs.lemmas.Result.{err_from_is_err_and}
use Rattle.plai_terms.specs.declared.term.Term.{Term}
use Rattle.plai_sources.specs.Keys.{key_of}
use Rattle.plai_sources.proofs.Each.{pushed_each, failing_each}
use Rattle.plai_sources.proofs.keys.each_key.Goals as goal

pub returns-in_err-key_of : goal.returns-in_err-key_of
returns-in_err-key_of c =
    failing_each (λ (t : Bor Term). key_of t.now) c.args.items.now c.loop-item.item-index c.item-item.result c.from_residual.result
    c.in_err-key_of.field-0.0 c.loop-item-test.true c.item-item.is c.in_err-key_of.ensures
    (err_from_is_err_and c.from_residual.result c.from_residual.ensures.1)

pub loop-item-preserved : goal.loop-item-preserved
loop-item-preserved c =
    pushed_each (λ (t : Bor Term). key_of t.now) c.args.items.now c.loop-item.item-index c.item-item.result
    c.loop-item.keys.items c.push.new.self.items c.in_ok-key_of.field-0 c.loop-item-test.true c.item-item.is c.in_ok-key_of.ensures
    c.loop-item.invariant c.in_ok-push.ensures.items
