-- What holds of the texts of rows holds of the rows.
use Rattle.std.proofs.Common.{◌≡◌, ℕ, ◌<◌, List, [], ◌∷◌, map, length, get_or, set, false, refl, sym, ap, ◌∙◌, subst, IsPermutation}
use Rattle.std.specs.List.{swap, AllByRecursion}
use Rattle.std.specs.Cmp.{IsTotalOrder}
use Rattle.std.specs.Cmp.Lexicographic.{nat_list_cmp_total}
use Rattle.std.specs.Ordering.{is_gt}
use Rattle.std.proofs.lemmas.Cmp.{on_total, then_total}
use Rattle.std.proofs.lemmas.List.{length-map, map-set, get_or-map}
use Rattle.std.proofs.lemmas.List.Sorted.{IsPermutation-refl, IsPermutation-trans, IsPermutation-swap, IsPermutation-keeps}
use Rattle.plai_terms.specs.declared.plain_row.PlainRow.{PlainRow}
use Rattle.plai_terms.proofs.RowOrders.{pred_total}
use Rattle.plai_terms.proofs.Sorted.{IsUp}
use Rattle.plai_render.specs.declared.keyed.Keyed.{Keyed}
use Rattle.plai_render.specs.declared.text_row.TextRow.{TextRow}
use Rattle.plai_render.specs.Texts.{text_of, text_row_order, AreTextsOf, AreTextsInOrder}
use Rattle.plai_render.proofs.Ordered.{row_order, weakly, in_order}

module _ {X Y : Type 0} (f : Y → X) where
  swap_map : (ys : List Y) (i j : ℕ) → i < length ys → j < length ys → map f (swap ys i j) ≡ swap (map f ys) i j
  swap_map [] i j h k = refl
  swap_map (d ∷ ys) i j h k =
      map-set f (set (d ∷ ys) i (get_or (d ∷ ys) j d)) j (get_or (d ∷ ys) i d)
      ∙ ap (λ l. set l j (f (get_or (d ∷ ys) i d))) (map-set f (d ∷ ys) i (get_or (d ∷ ys) j d))
      ∙ ap (λ x. set (set (map f (d ∷ ys)) i x) j (f (get_or (d ∷ ys) i d))) (sym (get_or-map f (d ∷ ys) j d (f d) k))
      ∙ ap (λ x. set (set (map f (d ∷ ys)) i (get_or (map f (d ∷ ys)) j (f d))) j x) (sym (get_or-map f (d ∷ ys) i d (f d) h))

  -- a list in another order is made of a list in another order
  pub record Lifted (ys : List Y) (xs : List X) : Type 0 where
    pub items : List Y
    pub permutation : IsPermutation ys items
    pub made : map f items ≡ xs

  pub lifted : (ys : List Y) (xs : List X) → IsPermutation (map f ys) xs → Lifted ys xs
  lifted ys = IsPermutation-keeps (map f ys) (Lifted ys)
      (record { items = ys; permutation = IsPermutation-refl ys; made = refl })
      (λ l i j h k p.
      let size : length l ≡ length p.items = ap length (sym p.made) ∙ length-map p.items f in
      let h' : i < length p.items = subst (λ n. i < n) size h in
      let k' : j < length p.items = subst (λ n. j < n) size k in
      record {
        items = swap p.items i j;
        permutation = IsPermutation-trans ys p.items (swap p.items i j) p.permutation (IsPermutation-swap p.items (swap p.items i j) i j h' k' refl);
        made = swap_map p.items i j h' k' ∙ ap (λ m. swap m i j) p.made;
      })

pub text_row_total : IsTotalOrder text_row_order
text_row_total = then_total (on_total (λ (t : TextRow). t.pred) pred_total) (on_total (λ (t : TextRow). t.call) nat_list_cmp_total)

pub keyed_texts : (keyed : List Keyed) → map (λ k. k.text) keyed ≡ map text_of (map (λ k. k.row) keyed)
keyed_texts [] = refl
keyed_texts (k ∷ ks) = let p = k.printed in let q = keyed_texts ks in cc

below_rows : (row : PlainRow) (rows : List PlainRow) → AllByRecursion (λ y. is_gt (text_row_order (text_of row) y) ≡ false) (map text_of rows)
    → AllByRecursion (λ later. is_gt (row_order row later) ≡ false) rows
below_rows row [] h = tt
below_rows row (q ∷ qs) h = (h.0, below_rows row qs h.1)

-- the texts are in order where the rows are
pub up_rows : (rows : List PlainRow) → IsUp text_row_order (map text_of rows) → IsUp row_order rows
up_rows [] u = tt
up_rows (row ∷ rows) u = (below_rows row rows u.0, up_rows rows u.1)

-- texts in another order that are up
pub texts_in_order : (old new : List TextRow) → IsPermutation old new → IsUp text_row_order new → (table : List PlainRow) → AreTextsOf table old
    → AreTextsInOrder table new
texts_in_order old new p u table are =
    let l = lifted text_of table new (subst (λ (o : List TextRow). IsPermutation o new) (sym are) p) in
    let up : IsUp row_order l.items = up_rows l.items (subst (IsUp text_row_order) (sym l.made) u) in
    record {
      rows = l.items;
      permutation = l.permutation;
      sorted = weakly l.items up;
      in_order = in_order table l.items l.permutation up;
      are_texts = l.made;
    }
