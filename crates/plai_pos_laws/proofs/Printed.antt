-- What the text of a value of groundness tells.
use Rattle.std.proofs.Common.{◌≡◌, ℕ, refl, sym, ap, ◌∙◌, subst, arith}
use Rattle.plai_terms.specs.declared.abs.Abs.{Abs}
use Rattle.plai_terms.specs.declared.abs.Abs.TheVariants.{Nothing, Pos}
use Rattle.plai_terms.specs.Pattern as text
use Rattle.plai_terms.proofs.PatternTexts.{patterns_differ}
use Rattle.plai_domain.specs.Conditions.{IsValue}
use Rattle.plai_domain.specs.Printed.{IsPrinted}
use Rattle.plai_pos_laws.specs.Groundness.{masks_of, groundness}

not_nothing : (n : ℕ) (a : Abs) → IsValue groundness n a → a ≡ Nothing → ⊥
not_nothing n a h e = let same : Nothing ≡ Pos n (masks_of a) = sym e ∙ h.first_is in cc

is_groundness : (n : ℕ) (a : Abs) → IsValue groundness n a → text.IsGroundness n a
is_groundness n a h = subst (text.IsGroundness n) (sym h.first_is) (refl, h.order.first.is_set)

-- Theorem: no value has the text of no answer's pattern, and different ones have different texts.
pub groundness_printed : IsPrinted groundness
groundness_printed =
    record {
      some = not_nothing;
      arity = λ n a h. ap text.arity_of h.first_is;
      apart = λ n a b few h k e. patterns_differ n a b (omega arith) (is_groundness n a h) (is_groundness n b k) e;
    }
