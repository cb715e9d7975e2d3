-- What the trait of domains asks of values, as the operations on skeletons ask it.
use Rattle.std.proofs.Common.{◌≡◌, ℕ, ◌≤◌, Bool, IsTrue, ◌↔◌, length, map, sym, ◌∙◌, subst}
use Rattle.plai_terms.specs.declared.abs.Abs.{Abs}
use Rattle.plai_terms.specs.declared.prop.Prop.{Prop}
use Rattle.plai_terms.specs.Pattern.{arity_of}
use Rattle.plai_domain.specs.Instances.{speaks_within}
use Rattle.plai_domain.specs.Conditions.{IsSmallValue, SpeaksOf}
use Rattle.plai_depth_laws.specs.OrderTest.{is_under, are_under}
use Rattle.plai_depth_laws.specs.DepthK.{skeletons_of, Leq, depth_k}
use Rattle.plai_depth_laws.proofs.Decided.{leq_decided}

pub speaks : (k : ℕ) (a : Abs) (property : Prop) → SpeaksOf (depth_k k) a property → speaks_within (length (skeletons_of a)) property
speaks k a property (n, h, w) = subst (λ m. speaks_within m property) (sym h.order.first.count) w

pub small : (k : ℕ) (a : Abs) → IsSmallValue (depth_k k) a → arity_of a ≤ 16
small k a (n, few, h) = subst (λ b. arity_of b ≤ 16) (sym h.first_is) (subst (λ m. m ≤ 16) (sym h.order.first.count) few)

pub ordered : (k n : ℕ) (a b : Abs) (result : Bool) → result ≡ are_under (map is_under (skeletons_of a)) (skeletons_of b)
    → Leq k n a a → Leq k n b b → IsTrue result ↔ Leq k n a b
ordered k n a b result e h g = let d = leq_decided k n a b h g in (λ yes. d.0 (sym e ∙ yes), λ below. e ∙ d.1 below)
