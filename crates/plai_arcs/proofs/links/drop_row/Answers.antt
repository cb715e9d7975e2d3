use Rattle.std.proofs.Common.{◌≡◌, ℕ, cond, nat_eq, Option, refl, sym, ap, ◌∙◌, subst}
use Rattle.std.specs.List.{list_any}
use Rattle.std.proofs.lemmas.Bool.{eq-eqb}
use Rattle.plai_arcs.specs.Links.{calls_at, call_count}
use Rattle.plai_arcs.specs.Moves.{was, of_row}
use Rattle.plai_arcs.proofs.CutLemmas.{stays}
use Rattle.plai_arcs.proofs.ArcLemmas.{calls_dropped, calls_moved, is_none, later_differs, less_last}
use Rattle.plai_arcs.proofs.links.drop_row.Goals as goal

pub renumber-requires-clause-less : goal.renumber-requires-clause-less
renumber-requires-clause-less c = less_last c.args.row c.args.moved c.in-Some.last c.in-Some.is c.requires.less

pub renumber-requires-clause-by_none : goal.renumber-requires-clause-by_none
renumber-requires-clause-by_none c k q =
    c.cut_row.ensures.calls c.args.row k q ∙ ap (λ b. cond b 0 (cond (nat_eq q c.args.row) 0 (call_count c.args.calls.now c.args.row k q)))
    (eq-eqb c.args.row c.args.row refl)

pub renumber-requires-clause-of_none : goal.renumber-requires-clause-of_none
renumber-requires-clause-of_none c r k =
    c.cut_row.ensures.calls r k c.args.row ∙ ap (λ b. cond (nat_eq r c.args.row) 0 (cond b 0 (call_count c.args.calls.now r k c.args.row)))
    (eq-eqb c.args.row c.args.row refl) ∙ stays (nat_eq r c.args.row) 0

pub returns-in-Some-clause-calls : goal.returns-in-Some-clause-calls
returns-in-Some-clause-calls c r k q =
    subst (λ (m : Option ℕ). list_any (nat_eq q) (calls_at c.renumber.new.calls r k)
    ≡ of_row (was c.args.row m r) (λ b. of_row (was c.args.row m q) (λ d. list_any (nat_eq d) (calls_at c.args.calls.now b k)))) (sym c.in-Some.is)
    (calls_moved c.args.calls.now c.cut_row.new.calls c.args.row c.cut_row.ensures.calls c.renumber.new.calls c.in-Some.last
    (later_differs c.args.row c.in-Some.last (less_last c.args.row c.args.moved c.in-Some.last c.in-Some.is c.requires.less)) c.renumber.ensures.calls r k q)

pub returns-in_default-clause-calls : goal.returns-in_default-clause-calls
returns-in_default-clause-calls c r k q =
    subst (λ (m : Option ℕ). list_any (nat_eq q) (calls_at c.cut_row.new.calls r k)
    ≡ of_row (was c.args.row m r) (λ b. of_row (was c.args.row m q) (λ d. list_any (nat_eq d) (calls_at c.args.calls.now b k))))
    (sym (is_none c.args.moved c.in_default.not-Some))
    (calls_dropped c.args.calls.now c.cut_row.new.calls c.args.row c.cut_row.ensures.calls r k q)
