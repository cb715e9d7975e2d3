-- Definitions that are found by their keys.
use Rattle.std.proofs.Common.{◌≡◌, ◌∙◌, ℕ, zero, suc, true, false, List, [], ◌∷◌, ◌++◌, map, take, Option, Some, None, unwrap_or, refl, sym, ap, subst}
use Rattle.std.specs.Prelude.{slice_get}
use Rattle.std.specs.Map.{lookup, set_value}
use Rattle.std.specs.List.{IsDistinct, AllByRecursion}
use Rattle.indexmap.specs.IndexMap.{insert_entry}
use Rattle.plai_theory.proofs.Options.{by_test}
use Rattle.plai_terms.specs.declared.pred_key.PredKey.{PredKey}
use Rattle.plai_clauses.specs.declared.clause.Clause.{Clause}
use Rattle.plai_clauses.specs.declared.definition.Definition.{Definition}
use Rattle.plai_clauses.specs.Program.{same_pred, clauses_in, with_clause, changed_in}
use Rattle.plai_clauses.specs.Keyed.{definitions_in}
use Rattle.plai_clauses.proofs.OneModule.{same_pred-true, same_pred-refl}

same_pred-sym : (a b : PredKey) → same_pred a b ≡ true → same_pred b a ≡ true
same_pred-sym a b t = subst (λ (x : PredKey). same_pred x a ≡ true) (same_pred-true a b t) (same_pred-refl a)

differ-sym : (a b : PredKey) → same_pred a b ≡ false → same_pred b a ≡ false
differ-sym a b t =
    by_test (same_pred b a)
    (λ u.
    let no' : true ≡ false = sym (same_pred-sym b a u) ∙ t in cc)
    (λ u. u)

pub some_is : {A : Type 0} (x y : A) → Some x ≡ Some y → x ≡ y
some_is x y e = ap (λ o. unwrap_or o x) e

pub found_clauses : (es : List (PredKey × List Clause)) (pred : PredKey) → clauses_in (definitions_in es) pred ≡ unwrap_or (lookup (same_pred pred) es) []
found_clauses [] pred = refl
found_clauses (e ∷ es) pred =
    by_test (same_pred pred e.0)
    (λ t. let u : same_pred e.0 pred ≡ true = same_pred-sym pred e.0 t in rw (t, u) refl)
    (λ t. let u : same_pred e.0 pred ≡ false = differ-sym pred e.0 t in rw (t, u) (found_clauses es pred))

pub set_changed : (change : List Clause → List Clause) (es : List (PredKey × List Clause)) (pred : PredKey) (had : List Clause)
    → lookup (same_pred pred) es ≡ Some had
    → definitions_in (set_value (same_pred pred) es (change had)) ≡ changed_in change (definitions_in es) pred
set_changed change [] pred had h = cc
set_changed change (e ∷ es) pred had h =
    by_test (same_pred pred e.0)
    (λ t.
    let u : same_pred e.0 pred ≡ true = same_pred-sym pred e.0 t in
    let is : e.1 ≡ had = some_is e.1 had (rw t at h) in
    rw (t, u) (ap (λ (cs : List Clause). record { pred = e.0; clauses = change cs } ∷ definitions_in es) (sym is)))
    (λ t.
    let u : same_pred e.0 pred ≡ false = differ-sym pred e.0 t in
    rw (t, u) (ap (λ (ds : List Definition). record { pred = e.0; clauses = e.1 } ∷ ds) (set_changed change es pred had (rw t at h))))

pub not_changed : (change : List Clause → List Clause) (es : List (PredKey × List Clause)) (pred : PredKey) → lookup (same_pred pred) es ≡ None
    → definitions_in es ≡ changed_in change (definitions_in es) pred
not_changed change [] pred h = refl
not_changed change (e ∷ es) pred h =
    by_test (same_pred pred e.0)
    (λ t.
    let no' : Some e.1 ≡ None = rw t at h in cc)
    (λ t.
    let u : same_pred e.0 pred ≡ false = differ-sym pred e.0 t in
    rw u (ap (λ (ds : List Definition). record { pred = e.0; clauses = e.1 } ∷ ds) (not_changed change es pred (rw t at h))))

pub with_found : (es : List (PredKey × List Clause)) (pred : PredKey) (c : Clause) (had : List Clause) → lookup (same_pred pred) es ≡ Some had
    → definitions_in (set_value (same_pred pred) es (had ++ c ∷ [])) ≡ with_clause (definitions_in es) pred c
with_found [] pred c had h = cc
with_found (e ∷ es) pred c had h =
    by_test (same_pred pred e.0)
    (λ t.
    let u : same_pred e.0 pred ≡ true = same_pred-sym pred e.0 t in
    let is : e.1 ≡ had = some_is e.1 had (rw t at h) in
    rw (t, u) (ap (λ (cs : List Clause). record { pred = e.0; clauses = cs ++ c ∷ [] } ∷ definitions_in es) (sym is)))
    (λ t.
    let u : same_pred e.0 pred ≡ false = differ-sym pred e.0 t in
    rw (t, u) (ap (λ (ds : List Definition). record { pred = e.0; clauses = e.1 } ∷ ds) (with_found es pred c had (rw t at h))))

pub with_absent : (es : List (PredKey × List Clause)) (pred : PredKey) (c : Clause) → lookup (same_pred pred) es ≡ None
    → definitions_in (insert_entry same_pred es pred (c ∷ [])) ≡ with_clause (definitions_in es) pred c
with_absent [] pred c h = refl
with_absent (e ∷ es) pred c h =
    by_test (same_pred pred e.0)
    (λ t.
    let no' : Some e.1 ≡ None = rw t at h in cc)
    (λ t.
    let u : same_pred e.0 pred ≡ false = differ-sym pred e.0 t in
    rw (t, u) (ap (λ (ds : List Definition). record { pred = e.0; clauses = e.1 } ∷ ds) (with_absent es pred c (rw t at h))))

all_at : (P : PredKey → Type 0) (es : List (PredKey × List Clause)) (i : ℕ) (k : PredKey) (cs : List Clause) → AllByRecursion P (map (λ e. e.0) es)
    → slice_get es i ≡ Some (k, cs) → P k
all_at P [] i k cs all h = cc
all_at P (e ∷ es) zero k cs all h = subst P (ap (λ (x : PredKey × List Clause). x.0) (some_is e (k, cs) h)) all.0
all_at P (e ∷ es) (suc i) k cs all h = all_at P es i k cs all.1 h

-- an entry behind those before it, of which none has its key
pub copied : (es : List (PredKey × List Clause)) (i : ℕ) (k : PredKey) (cs : List Clause) → IsDistinct same_pred (map (λ e. e.0) es)
    → slice_get es i ≡ Some (k, cs) → insert_entry same_pred (take i es) k cs ≡ take (suc i) es
unfolding IsDistinct
copied [] i k cs distinct h = cc
copied (e ∷ es) zero k cs distinct h = ap (λ (x : PredKey × List Clause). x ∷ []) (sym (some_is e (k, cs) h))
copied (e ∷ es) (suc i) k cs distinct h =
    let u : same_pred k e.0 ≡ false = differ-sym e.0 k (all_at (λ (y : PredKey). same_pred e.0 y ≡ false) es i k cs distinct.0 h) in
    rw u (ap (λ (xs : List (PredKey × List Clause)). e ∷ xs) (copied es i k cs distinct.1 h))
