-- Most general unifiers (ISO/IEC 13211-1:1995, 7.3.2; Robinson 1965).
use Rattle.std.specs.Prelude.{◌≡◌, ◌⊎◌, ℕ, true, false, List, map}
use Rattle.plai_terms.specs.Term.{occurs}
use Rattle.plai_terms.specs.Subst.{bound_to}
use Rattle.plai_terms.specs.Substitution.{under, occurs_in}
use Rattle.plai_terms.specs.Unification.{Bindings, UnifiesTo}
use Rattle.plai_terms.specs.declared.term.Term.{Term, Var}
use Rattle.plai_terms.specs.declared.outcome.Outcome.TheVariants.{Unified}

-- the outcome of two lists of equal length is these bindings
abbrev pub AreUnifiedBy : List Term → List Term → Bindings → Type 0
AreUnifiedBy left right s = UnifiesTo left right (Unified s)

-- The bindings make the terms equal, in turn; each other substitution that does is an instance of them, by itself;
-- they move only variables of the terms, and bring only these.
pub record IsMostGeneral (left right : List Term) (s : Bindings) : Type 0 where
  pub unifies : map (under (bound_to s)) left ≡ map (under (bound_to s)) right
  pub general : (f : ℕ → Term) → map (under f) left ≡ map (under f) right → (v : ℕ) → under f (bound_to s v) ≡ f v
  pub moves : (v : ℕ) → occurs_in v left ≡ false → occurs_in v right ≡ false → bound_to s v ≡ Var v
  pub brings : (v w : ℕ) → occurs w (bound_to s v) ≡ true → (w ≡ v) ⊎ ((occurs_in w left ≡ true) ⊎ (occurs_in w right ≡ true))
