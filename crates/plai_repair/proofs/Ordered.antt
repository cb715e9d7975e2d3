-- Rows are put in order: of rows whose names tell each other apart there is a list in the order of a table.
use Rattle.std.proofs.Common.{◌≡◌, ◌⊎◌, ◌≤◌, List, [], ◌∷◌, sym, refl, ap, ◌∙◌, subst, inl, inr}
use Rattle.std.specs.Ordering.{ordering_reverse}
use Rattle.std.specs.declared.cmp.Ordering.{Ordering}
use Rattle.std.specs.declared.cmp.Ordering.TheVariants.{Less, Equal, Greater}
use Rattle.plai_theory.specs.Words.{IsIn}
use Rattle.plai_theory.specs.Domain.{Name}
use Rattle.plai_theory.specs.LeastTable.{Row, IsOrdered}
use Rattle.plai_theory.specs.Tables.{HasName}
use Rattle.plai_terms.specs.declared.abs.Abs.{Abs}
use Rattle.plai_terms.specs.declared.pred_key.PredKey.{PredKey}
use Rattle.plai_terms.specs.RowOrder.{name_order}
use Rattle.plai_terms.proofs.RowOrders.{name_total, names_tie}
use Rattle.plai_domain.specs.Plain.{PlainDomain}
use Rattle.plai_domain.specs.Conditions.{most_arguments, IsValue}
use Rattle.plai_domain.specs.Printed.{IsPrinted}
use Rattle.plai_eval.specs.Meaning.{row_name, as_domain}
use Rattle.plai_eval.specs.LeastTable.{before}
use Rattle.plai_eval.proofs.One.{strict}

-- a name whose text tells it: of few arguments, with a value as its call
pub record IsTold (p : PlainDomain) (x : Name PredKey Abs) : Type 0 where
  pub few : x.pred.arity ≤ most_arguments
  pub call : IsValue p x.pred.arity x.call

module _ (p : PlainDomain) where
  -- names whose texts are equal are one
  told_apart : IsPrinted p → (x y : Name PredKey Abs) → IsTold p x → IsTold p y → name_order (row_name x) (row_name y) ≡ Equal → x ≡ y
  told_apart printed x y a b e =
      let same = names_tie (row_name x) (row_name y) e in
      let v : IsValue p x.pred.arity y.call = subst (λ (q : PredKey). IsValue p q.arity y.call) (sym same.0) b.call in
      let c : x.call ≡ y.call = printed.apart x.pred.arity x.call y.call a.few a.call v same.1 in
      λ i. record { pred = same.0 i; call = c i }

  abbrev put_by : Ordering → Row (as_domain p) → Row (as_domain p) → List (Row (as_domain p)) → List (Row (as_domain p)) → List (Row (as_domain p))
  put_by Less q r rows rest = q ∷ r ∷ rows
  put_by Equal q r rows rest = r ∷ rows
  put_by Greater q r rows rest = r ∷ rest

  -- the rows with one more in its place, unless there is one of its name
  abbrev put_in : Row (as_domain p) → List (Row (as_domain p)) → List (Row (as_domain p))
  put_in q [] = q ∷ []
  put_in q (r ∷ rows) = put_by (name_order (row_name q.name) (row_name r.name)) q r rows (put_in q rows)

  abbrev pub in_order : List (Row (as_domain p)) → List (Row (as_domain p))
  in_order [] = []
  in_order (r ∷ rows) = put_in r (in_order rows)

  put_sound : (q : Row (as_domain p)) (rows : List (Row (as_domain p))) (r : Row (as_domain p)) → IsIn r (put_in q rows) → (q ≡ r) ⊎ IsIn r rows
  put_sound q [] r (inl e) = inl e
  put_sound q [] r (inr i) = absurd i
  put_sound q (s ∷ rows) r i = at (name_order (row_name q.name) (row_name s.name)) i (put_sound q rows r)
    where
      behind : (q ≡ r) ⊎ IsIn r rows → (q ≡ r) ⊎ IsIn r (s ∷ rows)
      behind (inl e) = inl e
      behind (inr j) = inr (inr j)

      at : (o : Ordering) → IsIn r (put_by o q s rows (put_in q rows)) → (IsIn r (put_in q rows) → (q ≡ r) ⊎ IsIn r rows) → (q ≡ r) ⊎ IsIn r (s ∷ rows)
      at Less (inl e) next = inl e
      at Less (inr j) next = inr j
      at Equal j next = inr j
      at Greater (inl e) next = inr (inl e)
      at Greater (inr j) next = behind (next j)

  put_ordered : (q : Row (as_domain p)) (rows : List (Row (as_domain p))) → IsOrdered (as_domain p) (before p) rows
      → IsOrdered (as_domain p) (before p) (put_in q rows)
  put_ordered q [] h = (λ s i. absurd i, tt)
  put_ordered q (r ∷ rows) h = at (name_order (row_name q.name) (row_name r.name)) refl (put_ordered q rows h.1)
    where
      first : name_order (row_name q.name) (row_name r.name) ≡ Less → (s : Row (as_domain p)) → IsIn s (r ∷ rows) → before p q.name s.name
      first e s (inl f) = subst (λ (z : Row (as_domain p)). before p q.name z.name) f e
      first e s (inr i) = (strict p).trans q.name r.name s.name e (h.0 s i)

      behind : name_order (row_name q.name) (row_name r.name) ≡ Greater → (s : Row (as_domain p)) → (q ≡ s) ⊎ IsIn s rows → before p r.name s.name
      behind e s (inl f) =
          subst (λ (z : Row (as_domain p)). before p r.name z.name) f
          (name_total.antisymm (row_name r.name) (row_name q.name) ∙ ap ordering_reverse e)
      behind e s (inr i) = h.0 s i

      at : (o : Ordering) → name_order (row_name q.name) (row_name r.name) ≡ o → IsOrdered (as_domain p) (before p) (put_in q rows)
          → IsOrdered (as_domain p) (before p) (put_by o q r rows (put_in q rows))
      at Less e next = (first e, h)
      at Equal e next = h
      at Greater e next = (λ s i. behind e s (put_sound q rows s i), next)

  put_first : IsPrinted p → (q : Row (as_domain p)) (rows : List (Row (as_domain p))) → IsTold p q.name
      → ((r : Row (as_domain p)) → IsIn r rows → IsTold p r.name) → HasName (as_domain p) (put_in q rows) q.name
  put_first printed q [] a told = (q, inl refl, refl)
  put_first printed q (r ∷ rows) a told = at (name_order (row_name q.name) (row_name r.name)) refl (put_first printed q rows a (λ s i. told s (inr i)))
    where
      at : (o : Ordering) → name_order (row_name q.name) (row_name r.name) ≡ o → HasName (as_domain p) (put_in q rows) q.name
          → HasName (as_domain p) (put_by o q r rows (put_in q rows)) q.name
      at Less e next = (q, inl refl, refl)
      at Equal e next = (r, inl refl, sym (told_apart printed q.name r.name a (told r (inl refl)) e))
      at Greater e next = let (s, i, same) = next in (s, inr i, same)

  put_stays : (q : Row (as_domain p)) (rows : List (Row (as_domain p))) (r : Row (as_domain p)) → IsIn r rows → IsIn r (put_in q rows)
  put_stays q [] r i = absurd i
  put_stays q (s ∷ rows) r i = at (name_order (row_name q.name) (row_name s.name)) i (put_stays q rows r)
    where
      at : (o : Ordering) → IsIn r (s ∷ rows) → (IsIn r rows → IsIn r (put_in q rows)) → IsIn r (put_by o q s rows (put_in q rows))
      at Less j next = inr j
      at Equal j next = j
      at Greater (inl e) next = inl e
      at Greater (inr j) next = inr (next j)

  -- Theorem: the list in order has these rows,
  pub order_sound : (rows : List (Row (as_domain p))) (r : Row (as_domain p)) → IsIn r (in_order rows) → IsIn r rows
  order_sound [] r i = absurd i
  order_sound (q ∷ rows) r i = either (put_sound q (in_order rows) r i) (order_sound rows r)
    where
      either : (q ≡ r) ⊎ IsIn r (in_order rows) → (IsIn r (in_order rows) → IsIn r rows) → IsIn r (q ∷ rows)
      either (inl e) next = inl e
      either (inr j) next = inr (next j)

  -- is in order,
  pub order_ordered : (rows : List (Row (as_domain p))) → IsOrdered (as_domain p) (before p) (in_order rows)
  order_ordered [] = tt
  order_ordered (r ∷ rows) = put_ordered r (in_order rows) (order_ordered rows)

  -- and has all their names.
  pub order_whole : IsPrinted p → (rows : List (Row (as_domain p))) → ((r : Row (as_domain p)) → IsIn r rows → IsTold p r.name)
      → (x : Name PredKey Abs) → HasName (as_domain p) rows x → HasName (as_domain p) (in_order rows) x
  order_whole printed [] told x (r, i, e) = absurd i
  order_whole printed (q ∷ rows) told x (r, inl f, e) =
      subst (λ (y : Name PredKey Abs). HasName (as_domain p) (put_in q (in_order rows)) y) (ap (λ (z : Row (as_domain p)). z.name) f ∙ e)
      (put_first printed q (in_order rows) (told q (inl refl)) (λ s i. told s (inr (order_sound rows s i))))
  order_whole printed (q ∷ rows) told x (r, inr i, e) =
      let (s, j, same) = order_whole printed rows (λ s i. told s (inr i)) x (r, i, e) in (s, put_stays q (in_order rows) s j, same)
