-- Bindings of distinct variables.
use Rattle.std.proofs.Common.{◌≡◌, nat_eq, [], map, sym, subst, arith}
use Rattle.std.specs.List.{IsDistinct}
use Rattle.std.proofs.lemmas.Map.Keys.{IsDistinct-from_apart}
use Rattle.plai_terms.specs.Unification.{Bindings}

pub none_distinct : (bs : Bindings) → bs ≡ [] → IsDistinct nat_eq (map (λ p. p.0) bs)
none_distinct bs e = subst (λ cs. IsDistinct nat_eq (map (λ p. p.0) cs)) (sym e) (IsDistinct-from_apart nat_eq [] (λ i j d h k. absurd (omega arith)))
