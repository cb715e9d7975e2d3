use Rattle.std.proofs.Common.{ℕ, ◌<◌}
use Rattle.std.specs.Prelude.{slice_index_or}
use Rattle.plai_terms.specs.declared.prop.Prop.{Prop}
use Rattle.plai_domain.specs.Instances.{speaks_within}
use Rattle.plai_compare.proofs.fits.all_speak.Given as goal

abbrev pub invariant-loop-property : goal.invariant-loop-property
invariant-loop-property l = (k : ℕ) (d : Prop) → k < l.property-index → speaks_within l.arity (slice_index_or l.pre k d)
