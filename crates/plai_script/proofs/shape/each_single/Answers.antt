use Rattle.std.proofs.Common.{Bor, subst, sym}
use Rattle.std.proofs.lemmas.Result.{err_from_is_err_and}
use Rattle.plai_terms.specs.declared.term.Term.{Term}
use Rattle.plai_sources.proofs.Each.{pushed_each, failing_each}
use Rattle.plai_script.specs.Shapes.{single_of}
use Rattle.plai_script.specs.Readable.{IsPart}
use Rattle.plai_script.proofs.shape.each_single.Goals as goal

pub single-requires-clause-part : goal.single-requires-clause-part
single-requires-clause-part c =
    subst (λ (x : Bor Term). IsPart c.args.limit x.now) (sym c.term-item.is) (c.requires.parts c.loop-term.term-index c.term-item.result c.loop-term-test.true)

pub returns-in_err-single : goal.returns-in_err-single
returns-in_err-single c =
    failing_each (λ (t : Bor Term). single_of t.now) c.args.terms.now c.loop-term.term-index c.term-item.result c.from_residual.result
    c.in_err-single.field-0.0 c.loop-term-test.true c.term-item.is c.in_err-single.ensures
    (err_from_is_err_and c.from_residual.result c.from_residual.ensures.1)

pub loop-term-preserved : goal.loop-term-preserved
loop-term-preserved c =
    pushed_each (λ (t : Bor Term). single_of t.now) c.args.terms.now c.loop-term.term-index c.term-item.result
    c.loop-term.edits.items c.push.new.self.items c.in_ok-single.field-0 c.loop-term-test.true c.term-item.is c.in_ok-single.ensures
    c.loop-term.invariant c.in_ok-push.ensures.items
