-- Imports that are found by the names of the predicates.
use Rattle.std.proofs.Common.{◌≡◌, ◌∙◌, ℕ, Bool, true, false, ◌&&◌, nat_eq, List, [], ◌∷◌, ◌++◌, Option, Some, None, append-nil, refl, sym, ap, if◌then◌else◌}
use Rattle.std.specs.Prelude.{Result, Ok, Err, is_ok, OnOk}
use Rattle.std.specs.Cmp.Lexicographic.{pointwise}
use Rattle.plai_theory.proofs.Options.{by_test}
use Rattle.plai_clauses.specs.ClauseOf.{exporter}
use Rattle.plai_clauses.specs.Exporters.{exporter_by}

abbrev first_of : Option (List ℕ) → Option (List ℕ) → Option (List ℕ)
first_of None other = other
first_of (Some x) other = Some x

first_none : (o : Option (List ℕ)) → first_of o None ≡ o
first_none None = refl
first_none (Some x) = refl

exporter_behind : (list : List (List ℕ × ℕ × List ℕ)) (i : List ℕ × ℕ × List ℕ) (name : List ℕ) (arity : ℕ)
    → exporter (list ++ i ∷ []) name arity ≡ first_of (exporter list name arity) (if pointwise nat_eq i.0 name && nat_eq i.1 arity then Some i.2 else None)
exporter_behind [] i name arity = refl
exporter_behind (j ∷ list) i name arity =
    by_test (pointwise nat_eq j.0 name && nat_eq j.1 arity) (λ t. rw t refl) (λ t. rw t (exporter_behind list i name arity))

exporter_by_behind : (list : List (ℕ × List ℕ)) (e : ℕ × List ℕ) (arity : ℕ)
    → exporter_by (list ++ e ∷ []) arity ≡ first_of (exporter_by list arity) (if nat_eq e.0 arity then Some e.1 else None)
exporter_by_behind [] e arity = refl
exporter_by_behind (x ∷ list) e arity = by_test (nat_eq x.0 arity) (λ t. rw t refl) (λ t. rw t (exporter_by_behind list e arity))

-- an import more, on both sides
pub found_behind : (list : List (List ℕ × ℕ × List ℕ)) (old new : List (ℕ × List ℕ)) (i : List ℕ × ℕ × List ℕ) (name : List ℕ) (arity : ℕ)
    → exporter list name arity ≡ exporter_by old arity → new ≡ old ++ (if pointwise nat_eq i.0 name then (i.1, i.2) ∷ [] else [])
    → exporter (list ++ i ∷ []) name arity ≡ exporter_by new arity
found_behind list old new i name arity same is =
    exporter_behind list i name arity
    ∙ by_test (pointwise nat_eq i.0 name)
    (λ t.
    let now : new ≡ old ++ (i.1, i.2) ∷ [] = rw t at is in
    rw t (ap (λ (o : Option (List ℕ)). first_of o (if nat_eq i.1 arity then Some i.2 else None)) same ∙ sym (exporter_by_behind old (i.1, i.2) arity)
    ∙ ap (λ (xs : List (ℕ × List ℕ)). exporter_by xs arity) (sym now)))
    (λ t.
    let now : new ≡ old ++ [] = rw t at is in
    rw t (first_none (exporter list name arity) ∙ same ∙ ap (λ (xs : List (ℕ × List ℕ)). exporter_by xs arity) (sym (now ∙ append-nil old))))

-- what holds where a call succeeded
pub on_ok_at : {T E P : Type 0} (r : Result T E) → is_ok r ≡ true → OnOk r P → P
on_ok_at (Ok x) e h = h
on_ok_at (Err x) e h = cc
