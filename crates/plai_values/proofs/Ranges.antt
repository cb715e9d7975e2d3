-- Integers of 128 bits, as the code reads and tests them.
use Rattle.std.proofs.Common.{◌≡◌, ◌^◌, ◌<◌, ℤ, pos, negsuc, Bool, true, false, if◌then◌else◌, Option, Some, None, SomeIff, ◌≤◌, arith, ap, sym, ◌∙◌, refl}
use Rattle.std.proofs.Common.{FitsSigned, to_z, of_z}
use Rattle.std.specs.Int.{w128}
use Rattle.std.proofs.lemmas.Bool.{ltb-true}
use Rattle.std.proofs.lemmas.Bool.Decides.{nat_tests}
use lib.Signed.{mag}
use Rattle.plai_terms.specs.Term.{integer_fits}
use Rattle.plai_values.specs.Values.{in_range}

-- what is read of the bits of an integer
abbrev pub read : ℤ → ℤ
read z = to_z w128 (of_z w128 z)

pub fits_tested : (z : ℤ) → FitsSigned w128 z → integer_fits z ≡ true
fits_tested (pos n) f = let h : n < 2 ^ 127 = f.sfits in grind (arith, nat_tests)
fits_tested (negsuc n) f = let h : n < 2 ^ 127 = f.sfits in grind (arith, nat_tests)

pub tested_fits : (z : ℤ) → integer_fits z ≡ true → FitsSigned w128 z
tested_fits (pos n) e = record { sfits = ltb-true n (2 ^ 127) e }
tested_fits (negsuc n) e = record { sfits = ltb-true n (2 ^ 127) e }

pub in_range_fits : (z : ℤ) → FitsSigned w128 z → in_range z ≡ Some z
in_range_fits z f = ap (λ b. if b then Some z else None) (fits_tested z f)

told : (b : Bool) (z x : ℤ) → Some x ≡ (if b then Some z else None) → (b ≡ true) × (x ≡ z)
told true z x e = (refl, cc)
told false z x e = cc

pub in_range_told : (z x : ℤ) → Some x ≡ in_range z → FitsSigned w128 z × (x ≡ z)
in_range_told z x e = let t = told (integer_fits z) z x e in (tested_fits z t.0, t.1)

tested : (b : Bool) (z : ℤ) → (b ≡ true → FitsSigned w128 z) → (FitsSigned w128 z → ⊥) → None ≡ (if b then Some z else None)
tested true z f n = absurd (n (f refl))
tested false z f n = refl

pub in_range_not : (z : ℤ) → (FitsSigned w128 z → ⊥) → None ≡ in_range z
in_range_not z n = tested (integer_fits z) z (tested_fits z) n

-- an answer that is the integer exactly where that is in range
pub some_in_range : (z : ℤ) (r : Option ℤ) → SomeIff r (FitsSigned w128 z) z → r ≡ in_range z
some_in_range z None n = in_range_not z n
some_in_range z (Some x) e = ap Some e.1 ∙ sym (in_range_fits z e.0)

pub out_of_range : (z : ℤ) → 2 ^ 127 ≤ mag z → in_range z ≡ None
out_of_range z h = sym (in_range_not z (λ f. let l : mag z < 2 ^ 127 = f.sfits in absurd (omega arith)))
