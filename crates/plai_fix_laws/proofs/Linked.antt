-- Rows of called names, as they are found and made one after another.
use Rattle.std.proofs.Common.{◌≡◌, ◌⊎◌, ℕ, zero, suc, ◌+◌, Bool, true, false, cond, nat_eq, eqb-true, ◌||◌, count_by, List, [], ◌∷◌, ◌++◌, length, Option}
use Rattle.std.proofs.Common.{Some, None, sym, refl, ap, ap₂, ◌∙◌, subst, inl, inr}
use Rattle.std.proofs.lemmas.Bool.{eq-eqb}
use Rattle.std.proofs.lemmas.List.Sums.{sum_by-cons}
use Rattle.plai_theory.specs.Words.{IsIn, item, given, HasSome}
use Rattle.plai_theory.specs.Domain.{Domain, Program, Name, IsLawful}
use Rattle.plai_theory.specs.Evaluation.{NameOf}
use Rattle.plai_theory.specs.LegalWork.{WorkRow, find, live_count}
use Rattle.plai_theory.proofs.Rows.{find_name}
use Rattle.plai_fix_laws.specs.WorkStates.{KeptRow, Keeping, IsNamed, KeepsRow, AtBoth, Keeps, is_live, kept_live}
use Rattle.plai_fix_laws.specs.Pairs.{Links}
use Rattle.plai_fix_laws.proofs.Places.{push_before, push_at, has_some, place_of, found_at}
use Rattle.plai_fix_laws.proofs.Steps.{row_at}

in_left : {A : Type 0} (xs ys : List A) (x : A) → IsIn x xs → IsIn x (xs ++ ys)
in_left [] ys x i = absurd i
in_left (y ∷ xs) ys x (inl e) = inl e
in_left (y ∷ xs) ys x (inr i) = inr (in_left xs ys x i)

pub in_last : {A : Type 0} (xs : List A) (x : A) → IsIn x (xs ++ x ∷ [])
in_last [] x = inl refl
in_last (y ∷ xs) x = inr (in_last xs x)

in_push : {A : Type 0} {P : Type 0} (xs : List A) (y x : A) → IsIn x (xs ++ y ∷ []) → (IsIn x xs → P) → (y ≡ x → P) → P
in_push [] y x (inl e) h k = k e
in_push [] y x (inr i) h k = absurd i
in_push (z ∷ xs) y x (inl e) h k = h (inl e)
in_push (z ∷ xs) y x (inr i) h k = in_push xs y x i (λ j. h (inr j)) k

or_left : (p q : Bool) → p ≡ true → (p || q) ≡ true
or_left true q e = refl
or_left false q e = cc

or_right : (p q : Bool) → q ≡ true → (p || q) ≡ true
or_right true q e = refl
or_right false q e = e

or_cases : {P : Type 0} (p q : Bool) → (p || q) ≡ true → (p ≡ true → P) → (q ≡ true → P) → P
or_cases true q e h k = h refl
or_cases false q e h k = k e

count_cons : {A : Type 0} (p : A → Bool) (x : A) (xs : List A) → count_by p (x ∷ xs) ≡ cond (p x) 1 0 + count_by p xs
count_cons p x xs = sum_by-cons (λ y. cond (p y) 1 0) x xs

module _ (d : Domain) where
  -- the last of the names that are left has this row
  pub links_found : (kept : List (KeptRow d)) (called left : List (NameOf d)) (rows new : ℕ → Bool) (full : Bool) (y : NameOf d) (j : ℕ)
      → Links d kept called rows (left ++ y ∷ []) full
      → ((m : ℕ) → new m ≡ (rows m || nat_eq m j)) → IsNamed d kept j y → Links d kept called new left full
  links_found kept called left rows new full y j links more named =
      record {
        sound = λ m t.
            or_cases (rows m) (nat_eq m j) (sym (more m) ∙ t) (links.sound m)
            (λ u. (y, links.inside y (in_last left y), subst (λ z. IsNamed d kept z y) (sym (eqb-true m j u)) named));
        whole = λ x i. at x (links.whole x i);
        inside = λ x i. links.inside x (in_left left (y ∷ []) x i);
        missing = links.missing;
      }
    where
      at : (x : NameOf d) → ((m : ℕ) × (rows m ≡ true) × IsNamed d kept m x) ⊎ (IsIn x (left ++ y ∷ []) ⊎ ((full ≡ true) × ((m : ℕ) → IsNamed d kept m x → ⊥)))
          → ((m : ℕ) × (new m ≡ true) × IsNamed d kept m x) ⊎ (IsIn x left ⊎ ((full ≡ true) × ((m : ℕ) → IsNamed d kept m x → ⊥)))
      at x (inl (m, t, n)) = inl (m, more m ∙ or_left (rows m) (nat_eq m j) t, n)
      at x (inr (inl i)) = in_push left y x i (λ k. inr (inl k))
          (λ e. inl (j, more j ∙ or_right (rows j) (nat_eq j j) (eq-eqb j j refl), subst (IsNamed d kept j) e named))
      at x (inr (inr h)) = inr (inr h)

  -- it has none, and the table is full
  pub links_full : (kept : List (KeptRow d)) (called left : List (NameOf d)) (rows : ℕ → Bool) (full : Bool) (y : NameOf d)
      → Links d kept called rows (left ++ y ∷ []) full
      → ((j : ℕ) → IsNamed d kept j y → ⊥) → Links d kept called rows left true
  links_full kept called left rows full y links absent =
      record {
        sound = links.sound;
        whole = λ x i. at x (links.whole x i);
        inside = λ x i. links.inside x (in_left left (y ∷ []) x i);
        missing = λ e. (y, links.inside y (in_last left y), absent);
      }
    where
      at : (x : NameOf d) → ((m : ℕ) × (rows m ≡ true) × IsNamed d kept m x) ⊎ (IsIn x (left ++ y ∷ []) ⊎ ((full ≡ true) × ((m : ℕ) → IsNamed d kept m x → ⊥)))
          → ((m : ℕ) × (rows m ≡ true) × IsNamed d kept m x) ⊎ (IsIn x left ⊎ ((true ≡ true) × ((m : ℕ) → IsNamed d kept m x → ⊥)))
      at x (inl h) = inl h
      at x (inr (inl i)) = in_push left y x i (λ k. inr (inl k)) (λ e. inr (inr (refl, λ j n. absent j (subst (IsNamed d kept j) (sym e) n))))
      at x (inr (inr h)) = inr (inr (refl, h.1))

  -- the same names in other rows
  pub links_as : (kept new : List (KeptRow d)) (called left : List (NameOf d)) (rows : ℕ → Bool)
      → ((j : ℕ) (y : NameOf d) → IsNamed d kept j y → IsNamed d new j y)
      → Links d kept called rows left false → Links d new called rows left false
  links_as kept new called left rows h links =
      record {
        sound = λ j t. let (y, i, n) = links.sound j t in (y, i, h j y n);
        whole = λ x i. at x (links.whole x i);
        inside = links.inside;
        missing = λ e. cc;
      }
    where
      at : (x : NameOf d) → ((m : ℕ) × (rows m ≡ true) × IsNamed d kept m x) ⊎ (IsIn x left ⊎ ((false ≡ true) × ((m : ℕ) → IsNamed d kept m x → ⊥)))
          → ((m : ℕ) × (rows m ≡ true) × IsNamed d new m x) ⊎ (IsIn x left ⊎ ((false ≡ true) × ((m : ℕ) → IsNamed d new m x → ⊥)))
      at x (inl (m, t, n)) = inl (m, t, h m x n)
      at x (inr (inl i)) = inr (inl i)
      at x (inr (inr k)) = let l : false ≡ true = k.0 in cc

  pub named_push : (kept : List (KeptRow d)) (r : KeptRow d) (j : ℕ) (y : NameOf d) → IsNamed d kept j y → IsNamed d (kept ++ r ∷ []) j y
  named_push kept r j y named = at (item kept j) refl named
    where
      at : (o : Option (KeptRow d)) → item kept j ≡ o → HasSome (λ (z : KeptRow d). z.name ≡ y) o → IsNamed d (kept ++ r ∷ []) j y
      at None e n = absurd n
      at (Some z) e n = has_some (λ (w : KeptRow d). w.name ≡ y) (item (kept ++ r ∷ []) j) z (push_before kept r z j e) n

  pub named_last : (kept : List (KeptRow d)) (r : KeptRow d) → IsNamed d (kept ++ r ∷ []) (length kept) r.name
  named_last kept r = has_some (λ (w : KeptRow d). w.name ≡ r.name) (item (kept ++ r ∷ []) (length kept)) r (push_at kept r) refl

  -- the last of the names that are left gets a row
  pub links_made : (kept new : List (KeptRow d)) (called left : List (NameOf d)) (rows more : ℕ → Bool) (r : KeptRow d)
      → Links d kept called rows (left ++ r.name ∷ []) false
      → new ≡ kept ++ r ∷ [] → ((m : ℕ) → more m ≡ (rows m || nat_eq m (length kept))) → Links d new called more left false
  links_made kept new called left rows more r links is one =
      links_found new called left rows more false r.name (length kept)
      (links_as kept new called (left ++ r.name ∷ []) rows (λ j y n. subst (λ ks. IsNamed d ks j y) (sym is) (named_push kept r j y n)) links) one
      (subst (λ ks. IsNamed d ks (length kept) r.name) (sym is) (named_last kept r))

module _ (d : Domain) (g : Program d) (laws : IsLawful d g) (k : Keeping d) (open_pair : Option (ℕ × ℕ)) (rows : List (WorkRow d))
    (keeps : Keeps d g k open_pair rows) where
  -- a name without a kept row has no row under work
  pub absent_find : (y : NameOf d) → ((j : ℕ) → IsNamed d k.rows j y → ⊥) → find d rows y ≡ None
  absent_find y absent = at (find d rows y) refl
    where
      at : (o : Option (WorkRow d)) → find d rows y ≡ o → o ≡ None
      at None e = refl
      at (Some r) e =
          let (n, place) = place_of d g laws rows y r e in
          let (kept, f, h) = row_at d g laws k open_pair rows keeps n r place in
          absurd (absent n (has_some (λ (z : KeptRow d). z.name ≡ y) (item k.rows n) kept f (h.name ∙ find_name d g laws rows y r e)))

  -- the row under work at the place of a kept row
  pub row_under : (n : ℕ) (kept : KeptRow d) → item k.rows n ≡ Some kept → (r : WorkRow d) × (item rows n ≡ Some r) × KeepsRow d g k open_pair n kept r
  row_under n kept e = at (item k.rows n) (item rows n) e (keeps.each n)
    where
      at : (o : Option (KeptRow d)) (u : Option (WorkRow d)) → o ≡ Some kept → AtBoth (KeepsRow d g k open_pair n) o u
          → (r : WorkRow d) × (u ≡ Some r) × KeepsRow d g k open_pair n kept r
      at None u e h = cc
      at (Some z) None e h = absurd h
      at (Some z) (Some r) e h = let same : z ≡ kept = cc in (r, refl, subst (λ w. KeepsRow d g k open_pair n w r) same h)

  -- it is live where the kept row is
  pub live_at : (n : ℕ) (r : WorkRow d) → item rows n ≡ Some r → is_live d k.rows n ≡ r.live
  live_at n r e = let (kept, f, h) = row_at d g laws k open_pair rows keeps n r e in ap (given false (λ (z : KeptRow d). z.live)) f ∙ h.live

  pub named_find : (n : ℕ) (y : NameOf d) → IsNamed d k.rows n y → (r : WorkRow d) × (find d rows y ≡ Some r) × (item rows n ≡ Some r)
  named_find n y named = at (item k.rows n) refl named
    where
      at : (o : Option (KeptRow d)) → item k.rows n ≡ o → HasSome (λ (z : KeptRow d). z.name ≡ y) o
          → (r : WorkRow d) × (find d rows y ≡ Some r) × (item rows n ≡ Some r)
      at None e h = absurd h
      at (Some kept) e h =
          let (r, f, keep) = row_under n kept e in
          let same : r.name ≡ y = sym keep.name ∙ h in
          (r, subst (λ z. find d rows z ≡ Some r) same (found_at d g laws rows keeps.own n r f), f)

  pub same_live : live_count d rows ≡ kept_live d k.rows
  same_live = at k.rows rows (KeepsRow d g k open_pair) keeps.each (λ a kept r h. h.live)
    where
      at : (kept : List (KeptRow d)) (ws : List (WorkRow d)) (R : ℕ → KeptRow d → WorkRow d → Type 0) → ((a : ℕ) → AtBoth (R a) (item kept a) (item ws a))
          → ((a : ℕ) (z : KeptRow d) (r : WorkRow d) → R a z r → z.live ≡ r.live) → live_count d ws ≡ kept_live d kept
      at [] [] R h same = refl
      at [] (r ∷ ws) R h same = absurd (h zero)
      at (z ∷ kept) [] R h same = absurd (h zero)
      at (z ∷ kept) (r ∷ ws) R h same =
          ap₂ (λ (p : Bool) (n : ℕ). cond p 1 0 + n) (sym (same zero z r (h zero))) (at kept ws (λ b. R (suc b)) (λ b. h (suc b)) (λ b. same (suc b)))
          ∙ sym (count_cons (λ (w : KeptRow d). w.live) z kept)

-- the row under work of a named row
pub named_row : (d : Domain) (g : Program d) (laws : IsLawful d g) (k : Keeping d) (open_pair : Option (ℕ × ℕ)) (rows : List (WorkRow d))
    → Keeps d g k open_pair rows
    → (n : ℕ) (x : Name d.Pred d.Value) → IsNamed d k.rows n x → (r : WorkRow d) × (item rows n ≡ Some r) × (r.name ≡ x) × ((i : ℕ) (c : d.Clause)
    → item (g.clauses r.name.pred) i ≡ Some c → k.dirty n (suc i) ≡ r.dirty i)
named_row d g laws k open_pair rows keeps n x named = at (item k.rows n) refl named
  where
    at : (o : Option (KeptRow d)) → item k.rows n ≡ o → HasSome (λ (z : KeptRow d). z.name ≡ x) o → (r : WorkRow d) × (item rows n ≡ Some r) × (r.name ≡ x)
        × ((i : ℕ) (c : d.Clause) → item (g.clauses r.name.pred) i ≡ Some c → k.dirty n (suc i) ≡ r.dirty i)
    at None e h = absurd h
    at (Some kept) e h = let (r, f, keep) = row_under d g laws k open_pair rows keeps n kept e in (r, f, sym keep.name ∙ h, keep.dirty)
