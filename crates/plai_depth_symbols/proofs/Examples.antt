-- The signature of an example.
use Rattle.std.proofs.Common.{◌≡◌, [], ◌∷◌, pos, codes, refl, sym, subst, inl, inr, rules}
use Rattle.plai_theory.specs.Words.{IsIn}
use Rattle.plai_terms.specs.declared.term.Term.{the_lemmas}
use Rattle.plai_terms.specs.declared.skeleton.Skeleton.{Any, Atom}
use Rattle.plai_terms.specs.declared.skeleton.Skeleton.TheOpen.{Skeleton-F}
use Rattle.plai_terms.specs.declared.skeleton.Skeleton.TheVariants.{outs-Atom}
use Rattle.plai_depth_laws.specs.Examples.{skeleton_of_one, one}
use Rattle.plai_depth_symbols.specs.Symbols.{Number, Constant, Functor, signature_of}
use Rattle.plai_depth_symbols.specs.Patterns.{IsPatternOver}
use Rattle.plai_depth_symbols.specs.Examples.{numbers}
use Rattle.plai_depth_symbols.proofs.Symbols.{layer_over, over-Any, over-Compound}
use Rattle.plai_depth_symbols.proofs.Program.{pattern_over, skeletons_over}

pub numbers_signature : signature_of numbers ≡ Number (pos 0) ∷ Functor (codes "s") 1 ∷ []
numbers_signature = search (rules, the_lemmas)

successor_in : IsIn (Functor (codes "s") 1) (signature_of numbers)
successor_in = subst (IsIn (Functor (codes "s") 1)) (sym numbers_signature) (inr (inl refl))

pub successor_over : IsPatternOver (signature_of numbers) (one (skeleton_of_one (codes "s") Any))
successor_over =
    pattern_over (signature_of numbers) (skeleton_of_one (codes "s") Any ∷ [])
    (over-Compound (signature_of numbers) (codes "s") (Any ∷ []) successor_in (over-Any (signature_of numbers), tt), tt)

not_there : IsIn (Constant (codes "a")) (Number (pos 0) ∷ Functor (codes "s") 1 ∷ []) → ⊥
not_there (inl e) = cc
not_there (inr (inl e)) = cc
not_there (inr (inr i)) = i

pub atom_not_over : IsPatternOver (signature_of numbers) (one (Atom (codes "a"))) → ⊥
atom_not_over h =
    let over = (skeletons_over (signature_of numbers) (one (Atom (codes "a"))) h).0 in
    not_there (subst (IsIn (Constant (codes "a"))) numbers_signature
    (layer_over (signature_of numbers) (Atom (codes "a")) (Skeleton-F.Atom (codes "a")) (outs-Atom (codes "a")) over))
