use Rattle.std.proofs.Common.{◌∙◌}
use Rattle.plai_builtins.proofs.Variables.{kept_found}
use Rattle.plai_builtins.proofs.copies.solve_within.Goals as goal

pub returns-in_ok-restrict-in-Unified : goal.returns-in_ok-restrict-in-Unified
returns-in_ok-restrict-in-Unified c =
    kept_found c.args.left.now c.args.right.now c.from_ref.result.now c.from_ref-2.result.now c.deref.result.now _ _ _
    c.from_ref.ensures.value c.from_ref-2.ensures.value c.in_ok-bindings.ensures c.in-Unified.is (c.deref.ensures.value ∙ c.in_ok-found-in-Unified.ensures)
    c.in_ok-restrict-in-Unified.ensures
