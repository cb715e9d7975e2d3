-- The equations of a cut at a depth above zero, by the variants, for code that cuts.
use Rattle.std.proofs.Common.{◌≡◌, ℕ, ◌-◌, ◌^◌, ◌≤◌, ◌<◌, ℤ, pos, negsuc, true, cond, FitsSigned, List, map, ap, ◌∙◌, arith}
use Rattle.std.specs.Int.{w128}
use Rattle.std.proofs.lemmas.Bool.Decides.{nat_tests}
use Rattle.plai_terms.specs.Term.{integer_fits}
use Rattle.plai_terms.specs.declared.skeleton.Skeleton.{Skeleton, Any, Integer, Int, Atom, Compound}
use Rattle.plai_terms.specs.declared.skeleton.Skeleton.TheVariants.{outs-Any, outs-Integer, outs-Int, outs-Atom, outs-Compound}
use Rattle.plai_depth_laws.specs.Skeletons.{cut_layer, cut}
use Rattle.plai_depth_laws.proofs.Cuts.{cut-positive}

-- an integer of 128 bits is within them
fits_tested : (z : ℤ) → FitsSigned w128 z → integer_fits z ≡ true
fits_tested (pos n) f = let h : n < 2 ^ 127 = f.sfits in grind (arith, nat_tests)
fits_tested (negsuc n) f = let h : n < 2 ^ 127 = f.sfits in grind (arith, nat_tests)

module _ (k : ℕ) (some : 1 ≤ k) where
  pub cut-of_Any : cut k Any ≡ Any
  cut-of_Any = cut-positive k Any some ∙ ap (cut_layer (cut (k - 1))) outs-Any

  pub cut-of_Integer : cut k Integer ≡ Integer
  cut-of_Integer = cut-positive k Integer some ∙ ap (cut_layer (cut (k - 1))) outs-Integer

  pub cut-of_Int : (n : ℤ) → FitsSigned w128 n → cut k (Int n) ≡ Int n
  cut-of_Int n f = cut-positive k (Int n) some ∙ ap (cut_layer (cut (k - 1))) (outs-Int n) ∙ ap (λ b. cond b (Int n) Integer) (fits_tested n f)

  pub cut-of_Atom : (a : List ℕ) → cut k (Atom a) ≡ Atom a
  cut-of_Atom a = cut-positive k (Atom a) some ∙ ap (cut_layer (cut (k - 1))) (outs-Atom a)

  pub cut-of_Compound : (name : List ℕ) (ss : List Skeleton) → cut k (Compound name ss) ≡ Compound name (map (cut (k - 1)) ss)
  cut-of_Compound name ss = cut-positive k (Compound name ss) some ∙ ap (cut_layer (cut (k - 1))) (outs-Compound name ss)
