-- Rows that are moved to another list, sorted there and moved back.
use Rattle.std.proofs.Common.{◌≡◌, List, [], ◌∷◌, ◌++◌, map, reverse, sym, ap, ◌∙◌, subst, IsPermutation}
use Rattle.std.proofs.lemmas.List.{map-append, reverse-reverse}
use Rattle.std.proofs.lemmas.List.Sorted.{IsPermutation-trans, IsPermutation-to_front, IsPermutation-pop_more, IsPermutation-append_left}
use Rattle.std.proofs.lemmas.List.Sorted.{IsPermutation-append_right, IsPermutation-append_comm, IsPermutation-reverse, IsPermutation-map}

module _ {X Y : Type 0} (f : Y → X) where
  -- the last of what is left goes to the end of what is moved
  pub one_moved : (xs : List X) (ks next : List Y) (left rest : List X) (k : Y) → IsPermutation xs (map f ks ++ left) → left ≡ rest ++ f k ∷ []
      → next ≡ ks ++ k ∷ []
      → IsPermutation xs (map f next ++ rest)
  one_moved xs ks next left rest k p e n =
      let here : map f ks ++ f k ∷ [] ≡ map f next = sym (map-append f ks (k ∷ [])) ∙ ap (map f) (sym n) in
      let front : IsPermutation left (f k ∷ rest) = subst (λ (l : List X). IsPermutation l (f k ∷ rest)) (sym e) (IsPermutation-to_front rest (f k)) in
      subst (λ (l : List X). IsPermutation xs (l ++ rest)) here (IsPermutation-pop_more xs (map f ks) left rest (f k) p front)

  -- the same rows came back
  pub same_back : (old left all back : List X) (empty moved sorted : List Y) → empty ≡ [] → IsPermutation (map f empty ++ old) (map f moved ++ left)
      → IsPermutation moved sorted → all ≡ left ++ reverse (map f sorted) → IsPermutation all back → IsPermutation old back
  same_back old left all back empty moved sorted e p s a b =
      let first : IsPermutation old (map f moved ++ left) = subst (λ (l : List Y). IsPermutation (map f l ++ old) (map f moved ++ left)) e p in
      let second = IsPermutation-append_left left (map f moved) (map f sorted) (IsPermutation-map f moved sorted s) in
      let third = IsPermutation-append_comm (map f sorted) left in
      let fourth = IsPermutation-append_right left (map f sorted) (reverse (map f sorted)) (IsPermutation-reverse (map f sorted)) in
      let last : IsPermutation (left ++ reverse (map f sorted)) back = subst (λ (l : List X). IsPermutation l back) a b in
      IsPermutation-trans old (map f moved ++ left) back first
      (IsPermutation-trans (map f moved ++ left) (map f sorted ++ left) back second
      (IsPermutation-trans (map f sorted ++ left) (left ++ map f sorted) back third
      (IsPermutation-trans (left ++ map f sorted) (left ++ reverse (map f sorted)) back fourth last)))

  -- where none was left, they came back as they were sorted
  pub sorted_back : (left all back : List X) (sorted : List Y) → left ≡ [] → all ≡ left ++ reverse (map f sorted) → back ≡ reverse all → back ≡ map f sorted
  sorted_back left all back sorted e a b = b ∙ ap reverse (a ∙ ap (λ l. l ++ reverse (map f sorted)) e) ∙ reverse-reverse (map f sorted)
