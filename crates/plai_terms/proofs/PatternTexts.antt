-- Different patterns of groundness have different texts.
use Rattle.std.proofs.Common.{◌≡◌, ℕ, ◌^◌, ◌≤◌, List, refl, sym, ap, ◌∙◌, arith, codes}
use Rattle.plai_base.specs.Sets.{has, IsSet}
use Rattle.plai_terms.specs.Shape.{Shape, All, None, Node, shape, shape_text, set_text}
use Rattle.plai_terms.specs.Pattern.{pattern_text, IsGroundness}
use Rattle.plai_terms.specs.declared.abs.Abs.{Abs}
use Rattle.plai_terms.specs.declared.abs.Abs.TheVariants.{Nothing, Pos, Groups, Terms}
use Rattle.plai_terms.proofs.Shapes.{head_of, same_text}

not_none : (x : Shape) → shape_text x ≡ codes "none" → ⊥
not_none All e = let q : ◌≡◌ {A = ℕ} 116 110 = ap head_of e in absurd (omega (arith, q))
not_none None e = let q : ◌≡◌ {A = ℕ} 102 110 = ap head_of e in absurd (omega (arith, q))
not_none (Node i y n) e = let q : ◌≡◌ {A = ℕ} 40 110 = ap head_of e in absurd (omega (arith, q))

sets_differ : (n a b : ℕ) (xs ys : List ℕ) → n ≤ 64 → a ≡ n → b ≡ n → IsSet (2 ^ n) xs → IsSet (2 ^ n) ys → set_text a xs ≡ set_text b ys → Pos a xs ≡ Pos b ys
sets_differ n a b xs ys l p q s r e =
    let t : set_text n xs ≡ set_text n ys = ap (λ k. set_text k xs) (sym p) ∙ e ∙ ap (λ k. set_text k ys) q in
    let same : xs ≡ ys = same_text n xs ys l s r t in
    cc

pub patterns_differ : (n : ℕ) (a b : Abs) → n ≤ 64 → IsGroundness n a → IsGroundness n b → pattern_text a ≡ pattern_text b → a ≡ b
patterns_differ n Nothing Nothing l h k e = refl
patterns_differ n Nothing (Pos b ys) l h k e = absurd (not_none (shape b 1 (has ys)) (sym e))
patterns_differ n (Pos a xs) Nothing l h k e = absurd (not_none (shape a 1 (has xs)) e)
patterns_differ n (Pos a xs) (Pos b ys) l h k e = sets_differ n a b xs ys l h.0 k.0 h.1 k.1 e
patterns_differ n (Groups a gs free) b l h k e = absurd h
patterns_differ n (Terms ss) b l h k e = absurd h
patterns_differ n Nothing (Groups b gs free) l h k e = absurd k
patterns_differ n Nothing (Terms ss) l h k e = absurd k
patterns_differ n (Pos a xs) (Groups b gs free) l h k e = absurd k
patterns_differ n (Pos a xs) (Terms ss) l h k e = absurd k
