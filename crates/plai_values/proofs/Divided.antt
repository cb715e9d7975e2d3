-- What is read of a division's answer in the code.
use Rattle.std.proofs.Common.{◌≡◌, ◌≢◌, ℤ, pos, ◌+ℤ◌, int_rem, int_lt, Bool, true, false, if◌then◌else◌, Option, Some, None, rules, refl, ap, sym, ◌∙◌, subst}
use Rattle.std.proofs.Common.{FitsSigned, to_z, of_z}
use Rattle.std.specs.Ordering.{int_eq}
use Rattle.std.specs.Int.{w128}
use Rattle.std.proofs.lemmas.Int.{to_z-of_z}
use mathlib.Core.Bool.{beq}
use Rattle.plai_values.specs.Values.{in_range, divided, modulo}
use Rattle.plai_values.proofs.Modulo as m
use Rattle.plai_values.proofs.Ranges.{read, in_range_fits, in_range_told}

chosen : {A : Type 0} (b : Bool) (o : Option A) (x : A) → Some x ≡ (if b then None else o) → (b ≡ false) × (Some x ≡ o)
chosen true o x e = cc
chosen false o x e = (refl, e)

module _ (x y r : ℤ) (f : FitsSigned w128 x) (g : FitsSigned w128 y) (e : Some r ≡ divided int_rem (read x) (read y)) where
  plain : Some r ≡ divided int_rem x y
  plain = e ∙ ap (λ a. divided int_rem a (read y)) (to_z-of_z w128 x f) ∙ ap (divided int_rem x) (to_z-of_z w128 y g)

  divisor : int_eq y (pos 0) ≡ false
  divisor = (chosen (int_eq y (pos 0)) (in_range (int_rem x y)) r plain).0

  left : FitsSigned w128 (int_rem x y) × (r ≡ int_rem x y)
  left = in_range_told (int_rem x y) r (chosen (int_eq y (pos 0)) (in_range (int_rem x y)) r plain).1

  fits : FitsSigned w128 r
  fits = subst (FitsSigned w128) (sym left.1) left.0

  answer : (v : ℤ) → FitsSigned w128 v → modulo x y ≡ v → Some v ≡ divided modulo x y
  answer v h k = sym (ap (λ b. if b then None else in_range (modulo x y)) divisor ∙ ap in_range k ∙ in_range_fits v h)

  zero_read : of_z w128 r ≡ 0 → r ≡ pos 0
  zero_read h = sym (to_z-of_z w128 r fits) ∙ ap (to_z w128) h

  other_read : (of_z w128 r ≡ 0 → ⊥) → int_rem x y ≢ pos 0
  other_read n h = n (ap (of_z w128) (left.1 ∙ h))

  signs : (b : Bool) → beq (int_lt (read r) (pos 0)) (int_lt (read y) (pos 0)) ≡ b → beq (int_lt (int_rem x y) (pos 0)) (int_lt y (pos 0)) ≡ b
  signs b h = sym (ap (λ a. beq (int_lt a (pos 0)) (int_lt (read y) (pos 0))) (to_z-of_z w128 r fits ∙ left.1)
      ∙ ap (λ a. beq (int_lt (int_rem x y) (pos 0)) (int_lt a (pos 0))) (to_z-of_z w128 y g)) ∙ h

  pub modulo_zero : of_z w128 r ≡ 0 → Some (pos 0) ≡ divided modulo x y
  modulo_zero h = answer (pos 0) (search rules) (m.modulo_zero x y divisor (sym left.1 ∙ zero_read h))

  pub modulo_same : (of_z w128 r ≡ 0 → ⊥) → beq (int_lt (read r) (pos 0)) (int_lt (read y) (pos 0)) ≡ true → Some (read r) ≡ divided modulo x y
  modulo_same n h = ap Some (to_z-of_z w128 r fits) ∙ answer r fits (m.modulo_same x y divisor (other_read n) (signs true h) ∙ sym left.1)

  pub modulo_other : (of_z w128 r ≡ 0 → ⊥) → beq (int_lt (read r) (pos 0)) (int_lt (read y) (pos 0)) ≡ false → FitsSigned w128 (read r +ℤ read y)
      → Some (read (read r +ℤ read y)) ≡ divided modulo x y
  modulo_other n h k =
      let same : read r +ℤ read y ≡ int_rem x y +ℤ y =
      ap (λ a. a +ℤ read y) (to_z-of_z w128 r fits ∙ left.1) ∙ ap (λ a. int_rem x y +ℤ a) (to_z-of_z w128 y g) in
      ap Some (to_z-of_z w128 (read r +ℤ read y) k) ∙ answer (read r +ℤ read y) k (m.modulo_other x y divisor (other_read n) (signs false h) ∙ sym same)
