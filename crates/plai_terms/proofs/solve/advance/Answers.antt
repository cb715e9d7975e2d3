use Rattle.std.proofs.Common.{sym, ap, ◌∙◌, ◌∷◌, []}
use Rattle.plai_terms.proofs.Loop.{bind_done}
use Rattle.plai_terms.proofs.solve.advance.Goals as goal

pub returns-in_ok-push-in-Bind : goal.returns-in_ok-push-in-Bind
returns-in_ok-push-in-Bind c =
    bind_done _ c.in-Bind.variable c.in-Bind.term _ _ _ _ _ _ (sym c.in_ok-next_move.ensures ∙ c.in-Bind.is)
    (c.in_ok-binding-in-Bind.ensures ∙ ap (λ t. (c.in-Bind.variable, t) ∷ []) c.in_ok-copy-in-Bind.ensures)
    (rw c.as_slice.ensures.value at c.in_ok-changed-in-Bind.ensures) (rw c.as_slice-in-Bind.ensures.value at c.in_ok-earlier-in-Bind.ensures)
    c.in_ok-push-in-Bind.ensures.items
