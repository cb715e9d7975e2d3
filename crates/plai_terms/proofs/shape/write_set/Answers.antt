use Rattle.std.proofs.Common.{◌≡◌, ◌++◌, List, ℕ, OnOk, ap, subst}
use Rattle.plai_terms.specs.Shape.{shape_text}
use Rattle.plai_terms.proofs.Tables.{table_shape}
use Rattle.plai_terms.proofs.shape.write_set.Goals as goal

pub returns : goal.returns
returns c =
    subst (λ (w : List ℕ). OnOk c.write_shape.result (c.write_shape.new.out.items ≡ c.args.out.now.items ++ w))
    (ap shape_text (table_shape c.args.masks.now c.in_ok-flags.flags.items c.deref.result.now c.args.arity c.deref.ensures.value c.in_ok-flags.ensures.truths))
    c.write_shape.ensures
