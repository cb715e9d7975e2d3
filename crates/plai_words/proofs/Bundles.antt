-- Words of one dash with more behind it, place by place.
use Rattle.std.proofs.Common.{◌≡◌, ℕ, ◌<◌, ◌≤◌, ◌+◌, List, ◌∷◌, Bool, true, false, refl, ◌∙◌, drop, length, Bor, get_or}
use Rattle.std.proofs.lemmas.List.{at_drop_more, at_drop_all}
use Rattle.plai_words.specs.Command.{texts}
use Rattle.plai_words.specs.Options.{has_bundle, is_bundle, is_end}

abbrev left : List (Bor (List ℕ)) → Bool
left words = has_bundle (texts words)

module _ (words : List (Bor (List ℕ))) (i : ℕ) (d : Bor (List ℕ)) (lt : i < length words) where
  next : has_bundle (texts (drop i words)) ≡ has_bundle ((get_or words i d).now ∷ texts (drop (i + 1) words))
  next = at_drop_more left words i d lt

  pub at_end : is_end (get_or words i d).now ≡ true → has_bundle (texts (drop i words)) ≡ false
  unfolding has_bundle
  at_end e = next ∙ rw e refl

  pub at_bundle : is_end (get_or words i d).now ≡ false → is_bundle (get_or words i d).now ≡ true → has_bundle (texts (drop i words)) ≡ true
  unfolding has_bundle
  at_bundle e b = next ∙ rw (e, b) refl

  pub at_other : is_end (get_or words i d).now ≡ false → is_bundle (get_or words i d).now ≡ false
      → has_bundle (texts (drop i words)) ≡ has_bundle (texts (drop (i + 1) words))
  unfolding has_bundle
  at_other e b = next ∙ rw (e, b) refl

pub past : (words : List (Bor (List ℕ))) (i : ℕ) → length words ≤ i → has_bundle (texts (drop i words)) ≡ false
unfolding has_bundle
past words i le = at_drop_all left words i le
