-- A stack, the top last, whose uppermost items are taken off.
use Rattle.std.proofs.Common.{◌≡◌, ℕ, ◌+◌, ◌-◌, ◌<◌, get_or, Option, Some, List, [], ◌∷◌, ◌++◌, length, reverse, take, drop, arith, sym, ap, ◌∙◌}
use Rattle.std.proofs.lemmas.List.{length-append, length-drop, length-reverse, reverse-append, reverse-reverse}
use Rattle.std.proofs.Math.Seq.{take-length, drop-append_seam, take-append_seam}

module _ {A : Type 0} (stack taken others : List A) (kept : ℕ)
    (k : kept ≡ length stack - length taken) (e : reverse stack ≡ taken ++ others) where
  parted : stack ≡ reverse others ++ reverse taken
  parted = sym (reverse-reverse stack) ∙ ap reverse e ∙ reverse-append taken others

  lengths : length stack ≡ length others + length taken
  lengths = ap length parted ∙ length-append (reverse others) (reverse taken) ∙ ap (λ n. n + length (reverse taken)) (length-reverse others)
      ∙ ap (λ n. length others + n) (length-reverse taken)

  seam : kept ≡ length (reverse others)
  seam = k ∙ omega (arith, lengths) ∙ sym (length-reverse others)

  pub uppermost : reverse (drop kept stack) ≡ taken
  uppermost =
      ap (λ n. reverse (drop n stack)) seam ∙ ap (λ s. reverse (drop (length (reverse others)) s)) parted
      ∙ ap reverse (drop-append_seam (reverse others) (reverse taken)) ∙ reverse-reverse taken

  pub lowermost : reverse (take kept stack) ≡ others
  lowermost =
      ap (λ n. reverse (take n stack)) seam ∙ ap (λ s. reverse (take (length (reverse others)) s)) parted
      ∙ ap reverse (take-append_seam (reverse others) (reverse taken)) ∙ reverse-reverse others

pub rest_taken : {A : Type 0} (k : ℕ) (xs ys : List A) → ys ≡ xs → take (length ys - k) (drop k ys) ≡ drop k xs
rest_taken k xs ys e =
    ap (λ n. take n (drop k ys)) (sym (length-drop k ys)) ∙ take-length (drop k ys) ∙ ap (drop k) e

-- the only item of a stack is the one that is taken
pub on_top : {A : Type 0} (stack : List A) (n : ℕ) (x : Option A) (y : A) → n ≡ length stack → reverse stack ≡ y ∷ []
    → ((d : A) → 0 < n → x ≡ Some (get_or stack (n - 1) d)) → x ≡ Some y
on_top stack n x y k e h =
    let is : stack ≡ y ∷ [] = sym (reverse-reverse stack) ∙ ap reverse e in
    let one : n ≡ 1 = k ∙ ap length is in
    h y (omega arith) ∙ ap (λ m. Some (get_or stack (m - 1) y)) one ∙ ap (λ s. Some (get_or s 0 y)) is
