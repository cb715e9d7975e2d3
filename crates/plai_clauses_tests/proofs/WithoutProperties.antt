-- Entries and checks without properties are well formed.
use Rattle.std.proofs.Common.{◌≡◌, ◌≤◌, ℕ, [], List, sym, subst}
use Rattle.std.specs.List.{All}
use Rattle.std.proofs.lemmas.List.Elements.{All-nil}
use Rattle.plai_terms.specs.declared.prop.Prop.{Prop}
use Rattle.plai_domain.specs.Instances.{speaks_within}
use Rattle.plai_domain.specs.Conditions.{most_arguments}
use Rattle.plai_clauses.specs.declared.entry.Entry.{Entry}
use Rattle.plai_clauses.specs.declared.check.Check.{Check}
use Rattle.plai_clauses.specs.WellFormed.{IsWellFormedEntry, IsWellFormedCheck}

none_speak : (arity : ℕ) (props : List Prop) → props ≡ [] → All (speaks_within arity) props
none_speak arity props e = subst (λ (ps : List Prop). All (speaks_within arity) ps) (sym e) (All-nil (speaks_within arity))

pub bare_entry : (entry : Entry) → entry.pred.arity ≤ most_arguments → entry.pre ≡ [] → IsWellFormedEntry entry
bare_entry entry few pre = record { few = few; pre = none_speak entry.pred.arity entry.pre pre }

pub bare_check : (check : Check) → check.pred.arity ≤ most_arguments → check.pre ≡ [] → check.post ≡ [] → IsWellFormedCheck check
bare_check check few pre post = record { few = few; pre = none_speak check.pred.arity check.pre pre; post = none_speak check.pred.arity check.post post }
