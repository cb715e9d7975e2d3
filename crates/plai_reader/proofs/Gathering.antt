-- What is kept of trees together.
use Rattle.std.proofs.Common.{◌≡◌, ℕ, ◌≤◌, ◌<◌, Bool, true, false, List, [], ◌∷◌, ◌++◌, map, length, max, fold, refl, ap, sym, ◌∙◌, arith}
use Rattle.std.specs.Prelude.{◌||◌, nat_lt}
use Rattle.std.specs.List.{list_any, flat_map}
use Rattle.plai_terms.specs.declared.term.Term.{Term}
use Rattle.plai_reader.specs.declared.tree.Tree.{Tree}
use Rattle.plai_reader.specs.declared.tree.Tree.TheVariants.{Whole, Wide, Deep}
use Rattle.plai_reader.specs.Limits.{depth_in, deepest, is_wide_tree, is_wide_over, terms_in}

-- what is gathered of all trees, by what is left
pub record Gathers (all rest : List Tree) (terms : List Term) (depth : ℕ) (wide : Bool) : Type 0 where
  pub terms_are : terms ++ flat_map terms_in rest ≡ flat_map terms_in all
  pub depth_is : fold max depth (map depth_in rest) ≡ deepest all
  pub width_is : (wide || list_any is_wide_tree rest) ≡ is_wide_over all

start-depth : (a : ℕ) (ts : List Tree) → a ≤ fold max a (map depth_in ts)
start-depth a [] = omega arith
start-depth a (t ∷ ts) = let p = start-depth (max a (depth_in t)) ts in omega arith

-- trees that are neither too deep nor too wide are whole
pub whole-terms : (a : ℕ) (ts : List Tree) → fold max a (map depth_in ts) ≤ 2000 → list_any is_wide_tree ts ≡ false → length (flat_map terms_in ts) ≡ length ts
whole-terms a [] p e = refl
whole-terms a (Whole t d ∷ ts) p e = let q = whole-terms (max a d) ts p e in omega arith
whole-terms a (Wide d ∷ ts) p e = absurd (cc)
whole-terms a (Deep ∷ ts) p e = let q = start-depth (max a 2001) ts in absurd (omega arith)

or-false : (x y : Bool) → (x || y) ≡ false → y ≡ false
or-false true y e = absurd (cc)
or-false false y e = e

pub some-terms : (ts : List Tree) (terms : List Term) (depth : ℕ) (wide : Bool)
    → terms ≡ flat_map terms_in ts → depth ≡ deepest ts → wide ≡ is_wide_over ts → depth < 2000 → wide ≡ false → 0 < length ts → 0 < length terms
some-terms ts terms depth wide t d w shallow narrow some =
    let n = or-false (nat_lt 255 (length ts)) (list_any is_wide_tree ts) (sym w ∙ narrow) in
    let e = whole-terms 0 ts (omega arith) n in
    let f = ap length t in
    omega arith
