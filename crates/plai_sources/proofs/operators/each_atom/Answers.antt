use Rattle.std.proofs.Common.{Bor, Some, sym, ap, ◌∙◌}
use Rattle.std.specs.Option.{option_copied}
use Rattle.std.proofs.lemmas.Result.{err_from_is_err_and}
use Rattle.plai_terms.specs.declared.term.Term.{Term}
use Rattle.plai_sources.specs.Shapes.{atom_of}
use Rattle.plai_sources.proofs.Each.{pushed_each, missing_each}
use Rattle.plai_sources.proofs.operators.each_atom.Goals as goal

pub returns-in_err-ok_or : goal.returns-in_err-ok_or
returns-in_err-ok_or c =
    missing_each (λ (t : Bor Term). atom_of t.now) c.args.items.now c.loop-item.item-index c.item-item.result c.from_residual.result
    c.loop-item-test.true c.item-item.is (sym c.atom.ensures ∙ ap option_copied c.in_err-ok_or.ensures.ok_part)
    (err_from_is_err_and c.from_residual.result c.from_residual.ensures.1)

pub loop-item-preserved : goal.loop-item-preserved
loop-item-preserved c =
    pushed_each (λ (t : Bor Term). atom_of t.now) c.args.items.now c.loop-item.item-index c.item-item.result
    c.loop-item.names.items c.push.new.self.items c.in_ok-copy.field-0 c.loop-item-test.true c.item-item.is
    (sym c.atom.ensures ∙ ap option_copied c.in_ok-ok_or.ensures.ok_part ∙ ap (λ n. Some n) (sym c.in_ok-copy.ensures))
    c.loop-item.invariant c.in_ok-push.ensures.items
