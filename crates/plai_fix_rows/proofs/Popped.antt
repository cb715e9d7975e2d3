-- A list whose last item is taken away, again and again.
use Rattle.std.proofs.Common.{◌≡◌, ℕ, ◌-◌, List, [], ◌∷◌, ◌++◌, map, length, take, Option, None, refl, ap, ◌∙◌, arith}
use Rattle.std.specs.Option.{option_to_list}
use Rattle.std.proofs.lemmas.List.{append-nil}
use Rattle.plai_fix_laws.proofs.LookedUp.{names_push}

take_none : {A : Type 0} (xs : List A) → take 0 xs ≡ []
take_none [] = refl
take_none (x ∷ xs) = refl

pub popped_last : {A B : Type 0} (f : A → B) (old new : List A) (x : A) → old ≡ new ++ x ∷ [] → map f old ≡ map f new ++ f x ∷ []
popped_last f old new x e = ap (map f) e ∙ names_push f new x

-- where none is taken away, there was none
pub popped_none : {A : Type 0} (old new : List A) (n : ℕ) (o : Option A) → o ≡ None → n ≡ 0 → old ≡ new ++ option_to_list o → new ≡ take (n - 1) old → old ≡ []
popped_none old new n o none zero_is items rest =
    let m : n - 1 ≡ 0 = omega arith in
    items ∙ ap (λ r. new ++ option_to_list r) none ∙ append-nil new ∙ rest ∙ ap (λ k. take k old) m ∙ take_none old

pub no_items : {A : Type 0} (xs : List A) (n : ℕ) → n ≡ 0 → n ≡ length xs → xs ≡ []
no_items [] n e f = refl
no_items (x ∷ xs) n e f = absurd (omega arith)
