-- What the trait of domains asks of values, as the operations on groundness ask it.
use Rattle.std.proofs.Common.{◌≡◌, ℕ, Bool, IsTrue, ◌↔◌, sym, ap, ◌∙◌, subst}
use Rattle.plai_terms.specs.declared.abs.Abs.{Abs}
use Rattle.plai_terms.specs.declared.prop.Prop.{Prop}
use Rattle.plai_domain.specs.Instances.{speaks_within}
use Rattle.plai_domain.specs.Conditions.{AreAlike, SpeaksOf}
use Rattle.plai_pos_laws.specs.Groundness.{arity_of, Leq, groundness}

pub arity_is : (n : ℕ) (a b : Abs) → Leq n a b → arity_of a ≡ n
arity_is n a b h = ap arity_of h.first_is

pub alike : (a b : Abs) → AreAlike groundness a b → arity_of a ≡ arity_of b
alike a b (n, h, k) = arity_is n a a h ∙ sym (arity_is n b b k)

pub speaks : (a : Abs) (property : Prop) → SpeaksOf groundness a property → speaks_within (arity_of a) property
speaks a property (n, h, k) = subst (λ m. speaks_within m property) (sym (arity_is n a a h)) k

pub ordered_at : (a b : Abs) (result : Bool) → (IsTrue result ↔ Leq (arity_of a) a b) → (n : ℕ) → Leq n a a → Leq n b b → IsTrue result ↔ Leq n a b
ordered_at a b result e n h k = subst (λ m. IsTrue result ↔ Leq m a b) (arity_is n a a h) e
