use Rattle.std.proofs.Common.{◌≡◌, sym, subst, [], map, is_lt, rules}
use Rattle.std.proofs.lemmas.Cmp.{on_total}
use Rattle.std.proofs.lemmas.Fn.{always_returns_same}
use Rattle.std.proofs.lemmas.List.Sorted.{All-permutation, ranks_by}
use Rattle.std.proofs.lemmas.Result.{on_ok_weaker}
use Rattle.plai_terms.proofs.Sorted.{IsUp, up_from_sorted, up_map}
use Rattle.plai_render.specs.Order.{AreWeaklyInOrder, IsNarrow}
use Rattle.plai_render.proofs.Moves.{same_back, sorted_back}
use Rattle.plai_render.specs.Texts.{text_row_order}
use Rattle.plai_render.proofs.Lifted.{text_row_total, keyed_texts, up_rows}
use Rattle.plai_render.proofs.Ordered.{row_order, weakly, in_order}
use Rattle.plai_render.proofs.order.sort_rows.Goals as goal

pub returns-clause-permutation : goal.returns-clause-permutation
returns-clause-permutation c =
    same_back (λ k. k.row) c.args.rows.now.items c.key_all-printed.new.rows.items c.give_back.new.rows.items c.reverse.new.self.items
    c.in_ok-keyed.keyed.items c.key_all-printed.new.keyed.items c.sort_unstable_by.new.self.items
    c.in_ok-keyed.ensures.items c.key_all-printed.ensures.rows c.sort_unstable_by.ensures.permutation c.give_back.ensures c.reverse.ensures.permutation

pub returns-clause-narrow : goal.returns-clause-narrow
returns-clause-narrow c = All-permutation IsNarrow c.args.rows.now.items c.reverse.new.self.items (returns-clause-permutation c) c.requires

-- where all rows were moved, they came back as they were sorted
came_back : (c : goal.After-drop-keyed) → c.key_all-printed.new.rows.items ≡ [] → c.reverse.new.self.items ≡ map (λ k. k.row) c.sort_unstable_by.new.self.items
came_back c e =
    sorted_back (λ k. k.row) c.key_all-printed.new.rows.items c.give_back.new.rows.items c.reverse.new.self.items c.sort_unstable_by.new.self.items
    e c.give_back.ensures c.reverse.ensures.items

up : (c : goal.After-drop-keyed) → IsUp row_order (map (λ k. k.row) c.sort_unstable_by.new.self.items)
up c =
    let keyed = c.sort_unstable_by.new.self.items in
    let sorted = c.sort_unstable_by.ensures.sorted (λ x y. is_lt (text_row_order x.text y.text)) (ranks_by text_row_total (λ k. k.text))
    (always_returns_same _ _ _ (λ a r f k. search rules)) in
    let texts : IsUp text_row_order (map (λ k. k.text) keyed) =
    up_map text_row_order (λ k. k.text) keyed (up_from_sorted (λ x y. text_row_order x.text y.text) (on_total (λ k. k.text) text_row_total) keyed sorted) in
    up_rows (map (λ k. k.row) keyed) (subst (IsUp text_row_order) (keyed_texts keyed) texts)

pub returns-clause-sorted : goal.returns-clause-sorted
returns-clause-sorted c =
    on_ok_weaker c.key_all-printed.result (λ e. subst (λ rows. AreWeaklyInOrder rows) (sym (came_back c e)) (weakly _ (up c))) c.key_all-printed.ensures.all

pub returns-clause-in_order : goal.returns-clause-in_order
returns-clause-in_order c =
    on_ok_weaker c.key_all-printed.result
    (λ e apart. in_order c.args.rows.now.items c.reverse.new.self.items (returns-clause-permutation c)
    (subst (λ rows. IsUp row_order rows) (sym (came_back c e)) (up c)) apart)
    c.key_all-printed.ensures.all
