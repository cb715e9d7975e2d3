-- Lists of calls and callers.
use Rattle.std.proofs.Common.{◌≡◌, ℕ, zero, suc, ◌+◌, ◌<◌, Bool, true, false, ◌||◌, List, [], ◌∷◌, length, take, slice_index_or, refl, ap, ◌∙◌, add-one, arith}
use Rattle.std.specs.List.{list_any}

module _ {A : Type 0} (p : A → Bool) where
  -- one more item
  any_more : (xs : List A) (i : ℕ) (d : A) → i < length xs → list_any p (take (suc i) xs) ≡ (list_any p (take i xs) || p (slice_index_or xs i d))
  any_more [] i d h = absurd (omega arith)
  any_more (x ∷ xs) zero d h = by (p x)
    where
      by : (b : Bool) → (b || false) ≡ b
      by true = refl
      by false = refl
  any_more (x ∷ xs) (suc i) d h = ap (λ b. p x || b) (any_more xs i d (omega arith)) ∙ by (p x)
    where
      by : (b : Bool) → (b || (list_any p (take i xs) || p (slice_index_or xs i d))) ≡ ((b || list_any p (take i xs)) || p (slice_index_or xs i d))
      by true = refl
      by false = refl

  pub any_one_more : (xs : List A) (i : ℕ) (d : A) → i < length xs → list_any p (take (i + 1) xs) ≡ (list_any p (take i xs) || p (slice_index_or xs i d))
  any_one_more xs i d h = ap (λ n. list_any p (take n xs)) (add-one i) ∙ any_more xs i d h

  pub any_here : (xs : List A) (i : ℕ) (d : A) → i < length xs → p (slice_index_or xs i d) ≡ true → list_any p xs ≡ true
  any_here [] i d h t = absurd (omega arith)
  any_here (x ∷ xs) zero d h t = ap (λ b. b || list_any p xs) t
  any_here (x ∷ xs) (suc i) d h t = ap (λ b. p x || b) (any_here xs i d (omega arith) t) ∙ by (p x)
    where
      by : (b : Bool) → (b || true) ≡ true
      by true = refl
      by false = refl

-- what holds of those before and of this one holds of both
pub either : {Q : Type 0} (a b : Bool) → (a ≡ true → Q) → (b ≡ true → Q) → (a || b) ≡ true → Q
either true b h k t = h refl
either false b h k t = k t
