use Rattle.std.proofs.Common.{◌≡◌, ◌++◌, List, ℕ, OnOk, subst}
use Rattle.plai_pos.proofs.Printed.{models_text}
use Rattle.plai_pos.proofs.domain.Ground.print.Goals as goal

pub returns-clause-ok : goal.returns-clause-ok
returns-clause-ok c =
    subst (λ (w : List ℕ). OnOk c.print.result (c.print.new.out.items ≡ c.args.out.now.items ++ w))
    (models_text c.args.value.now.arity c.args.value.now.diagram c.args.value.now.canonical c.args.value.now.over)
    c.print.ensures.ok
