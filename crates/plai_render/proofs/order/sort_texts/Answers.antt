use Rattle.std.proofs.Common.{is_lt, rules}
use Rattle.std.proofs.lemmas.Fn.{always_returns_same}
use Rattle.std.proofs.lemmas.List.Sorted.{ranks_by}
use Rattle.plai_terms.proofs.Sorted.{up_from_sorted}
use Rattle.plai_render.specs.Texts.{text_row_order}
use Rattle.plai_render.proofs.Lifted.{text_row_total, texts_in_order}
use Rattle.plai_render.proofs.order.sort_texts.Goals as goal

pub returns-clause-in_order : goal.returns-clause-in_order
returns-clause-in_order c =
    let texts = c.sort_unstable_by.new.self.items in
    let sorted = c.sort_unstable_by.ensures.sorted (λ x y. is_lt (text_row_order x y)) (ranks_by text_row_total (λ t. t))
    (always_returns_same _ _ _ (λ a r f k. search rules)) in
    texts_in_order c.args.rows.now.items texts c.sort_unstable_by.ensures.permutation (up_from_sorted text_row_order text_row_total texts sorted)
