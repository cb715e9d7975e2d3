-- What walks over terms find: variables, in the order in which they are met, and the items of a list.
use Rattle.std.specs.Prelude.{ℕ, Bool, false, nat_eq, ◌==◌, if◌then◌else◌, Option, Some, None, List, [], ◌∷◌, ◌++◌, map, codes}
use Rattle.std.specs.List.{list_any}
use Rattle.std.specs.Cmp.Lexicographic.{pointwise}
use Rattle.std.proofs.Common.{Vec, Global, Bor}
use Rattle.plai_terms.specs.declared.term.Term.{Term, out-Term}
use Rattle.plai_terms.specs.declared.term.Term.TheOpen.{Term-F}

-- the variables so far with those of a term that is itself a variable, at the end where it is new
abbrev pub with_new : List ℕ → ℕ → List ℕ
with_new vs v = if list_any (λ u. u == v) vs then vs else vs ++ v ∷ []

abbrev pub noted_in : List ℕ → Term-F Term → List ℕ
noted_in vs (Term-F.Var v) = with_new vs v
noted_in vs _ = vs

abbrev pub noted : List ℕ → Term → List ℕ
noted vs t = noted_in vs (out-Term t)

-- the atom `[]`
abbrev pub is_nil_in : Term-F Term → Bool
is_nil_in (Term-F.Atom a) = pointwise nat_eq a (codes "[]")
is_nil_in _ = false

abbrev pub is_nil : Term → Bool
is_nil t = is_nil_in (out-Term t)

-- the items that references point to, if there are any
abbrev pub items_found : Option (Vec (Bor Term) Global) → Option (List Term)
items_found None = None
items_found (Some v) = Some (map (λ x. x.now) v.items)
