-- The renaming of a clause's variables, as bindings (Lloyd, Foundations of Logic Programming, 1987, section 4).
use Rattle.std.specs.Prelude.{ℕ, map}
use Rattle.plai_terms.specs.Substitution.{raised}
use Rattle.plai_terms.specs.Unification.{Bindings}
use Rattle.plai_domain.specs.Soundness.{numbers}

-- binds each variable below a limit to the one that is n more
abbrev pub raising : ℕ → ℕ → Bindings
raising n limit = map (λ v. (v, raised n v)) (numbers 0 limit)
