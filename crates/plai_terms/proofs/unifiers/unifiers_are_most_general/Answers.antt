use Rattle.std.proofs.Common.{◌≡◌, ℕ, List, map, subst}
use Rattle.plai_terms.specs.Substitution.{under}
use Rattle.plai_terms.specs.Unification.{Bindings, UnifiesTo}
use Rattle.plai_terms.specs.Unifiers.{AreUnifiedBy}
use Rattle.plai_terms.specs.declared.term.Term.{Term}
use Rattle.plai_terms.proofs.Outcomes.{unifier, idempotent, unifiable, outcome_is_one}
use Rattle.plai_terms.proofs.Total.{has_outcome}
use Rattle.plai_terms.proofs.unifiers.unifiers_are_most_general.Goals as goal

found : (left right : List Term) (f : ℕ → Term) → map (under f) left ≡ map (under f) right → (s : Bindings) × AreUnifiedBy left right s
found left right f e =
    let (o, out) = has_outcome left right in
    let (s, is) = unifiable left right o out f e in
    (s, subst (UnifiesTo left right) is out)

pub returns : goal.returns
returns c = record {
  total = has_outcome;
  one = outcome_is_one;
  most_general = unifier;
  idempotent = idempotent;
  found = found;
}
