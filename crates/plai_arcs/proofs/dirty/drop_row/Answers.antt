use Rattle.std.proofs.Common.{◌≡◌, ℕ, Option, sym, ◌∙◌, subst}
use Rattle.plai_arcs.specs.Dirty.{dirty_at}
use Rattle.plai_arcs.specs.Moves.{was, of_row}
use Rattle.plai_arcs.proofs.ArcLemmas.{dropped_none, dropped_some, is_none, later_differs, less_last}
use Rattle.plai_arcs.proofs.dirty.drop_row.Goals as goal

pub returns-in-Some : goal.returns-in-Some
returns-in-Some c r k =
    subst (λ (m : Option ℕ). dirty_at c.swap.new.rows r k ≡ of_row (was c.args.row m r) (λ b. dirty_at c.args.rows.now b k)) (sym c.in-Some.is)
    (c.swap.ensures r k
    ∙ dropped_some c.args.row c.in-Some.last r (λ b. dirty_at c.args.rows.now b k) (λ j. dirty_at c.wipe.new.rows j k) (λ j. c.wipe.ensures j k)
    (later_differs c.args.row c.in-Some.last (less_last c.args.row c.args.moved c.in-Some.last c.in-Some.is c.requires)))

pub returns-in_default : goal.returns-in_default
returns-in_default c r k =
    subst (λ (m : Option ℕ). dirty_at c.wipe.new.rows r k ≡ of_row (was c.args.row m r) (λ b. dirty_at c.args.rows.now b k))
    (sym (is_none c.args.moved c.in_default.not-Some))
    (c.wipe.ensures r k ∙ dropped_none c.args.row r (λ b. dirty_at c.args.rows.now b k))
