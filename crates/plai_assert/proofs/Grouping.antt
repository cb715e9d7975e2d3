-- Rows that are put last in their predicates' groups.
use Rattle.std.proofs.Common.{◌≡◌, ◌∙◌, Bool, true, false, cond, List, [], ◌∷◌, ◌++◌, append-nil, Option, Some, None, unwrap_or, map, filter, All, refl, sym}
use Rattle.std.proofs.Common.{ap, subst}
use Rattle.std.specs.Map.{lookup, set_value}
use Rattle.indexmap.specs.IndexMap.{insert_entry}
use Rattle.plai_theory.proofs.Options.{by_test}
use Rattle.plai_terms.specs.declared.abs.Abs.{Abs}
use Rattle.plai_terms.specs.declared.pred_key.PredKey.{PredKey}
use Rattle.plai_domain.specs.Plain.{PlainDomain}
use Rattle.plai_clauses.specs.Program.{same_pred}
use Rattle.plai_assert.specs.declared.row.Row.{Row}
use Rattle.plai_assert.specs.Groups.{is_of, group_of, AreGroupsOf}
use Rattle.plai_assert.specs.Rows.{plain, IsRowOf, IsFit}
use Rattle.plai_assert.specs.Verdicts.{rows_of}
use Rattle.plai_assert.proofs.Keys.{same_pred-true, same_pred-same, same_pred-apart}
use Rattle.plai_assert.proofs.Lists.{all_filtered}

some_is : {A : Type 0} (x y : A) → Some x ≡ Some y → x ≡ y
some_is x y e = ap (λ o. unwrap_or o x) e

module _ {V : Type 0} where
  -- behind one more row of the predicate k, which is found
  pub found : (es : List (PredKey × List (Row V))) (k : PredKey) (row : Row V) (had : List (Row V)) → lookup (same_pred k) es ≡ Some had
      → (pred : PredKey) → group_of (set_value (same_pred k) es (had ++ row ∷ [])) pred ≡ group_of es pred ++ cond (same_pred pred k) (row ∷ []) []
  found [] k row had h pred = cc
  found (e ∷ es) k row had h pred =
      by_test (same_pred k e.0)
      (λ t.
      let is : e.1 ≡ had = some_is e.1 had (rw t at h) in
      rw t (by_test (same_pred pred e.0)
      (λ u.
      let v : same_pred pred k ≡ true = same_pred-same pred k (same_pred-true pred e.0 u ∙ sym (same_pred-true k e.0 t)) in
      rw (u, v) (ap (λ (rows : List (Row V)). rows ++ row ∷ []) (sym is)))
      (λ u.
      let v : same_pred pred k ≡ false = by_test (same_pred pred k)
      (λ w. let no' : true ≡ false = sym (same_pred-same pred e.0 (same_pred-true pred k w ∙ same_pred-true k e.0 t)) ∙ u in cc) (λ w. w) in
      rw (u, v) (sym (append-nil (group_of es pred))))))
      (λ t.
      rw t (by_test (same_pred pred e.0)
      (λ u.
      let v : same_pred pred k ≡ false = same_pred-apart e.0 k pred t u in
      rw (u, v) (sym (append-nil e.1)))
      (λ u. rw u (found es k row had (rw t at h) pred))))

  -- which is not found
  pub absent : (es : List (PredKey × List (Row V))) (k : PredKey) (row : Row V) → lookup (same_pred k) es ≡ None
      → (pred : PredKey) → group_of (insert_entry same_pred es k (row ∷ [])) pred ≡ group_of es pred ++ cond (same_pred pred k) (row ∷ []) []
  absent [] k row h pred = by_test (same_pred pred k) (λ u. rw u refl) (λ u. rw u refl)
  absent (e ∷ es) k row h pred =
      by_test (same_pred k e.0)
      (λ t.
      let no' : Some e.1 ≡ None = rw t at h in cc)
      (λ t.
      rw t (by_test (same_pred pred e.0)
      (λ u.
      let v : same_pred pred k ≡ false = same_pred-apart e.0 k pred t u in
      rw (u, v) (sym (append-nil e.1)))
      (λ u. rw u (absent es k row (rw t at h) pred))))

  -- as rows of patterns
  pub group_plain : (value_of : V → Abs) (rows : List (Row V)) (pred : PredKey)
      → map (plain value_of) (filter (is_of pred) rows) ≡ rows_of pred (map (plain value_of) rows)
  group_plain value_of [] pred = refl
  group_plain value_of (row ∷ rows) pred =
      by_test (same_pred pred row.name.now.pred)
      (λ u. rw u (ap (λ rest. plain value_of row ∷ rest) (group_plain value_of rows pred)))
      (λ u. rw u (group_plain value_of rows pred))

  pub group_fits : (value_of : V → Abs) (p : PlainDomain) (es : List (PredKey × List (Row V))) (rows : List (Row V)) → AreGroupsOf es rows
      → All (IsFit value_of p) rows
      → (pred : PredKey) → All (IsRowOf value_of p pred.arity) (group_of es pred)
  group_fits value_of p es rows are fit pred =
      subst (λ (some : List (Row V)). All (IsRowOf value_of p pred.arity) some) (sym (are pred))
      (all_filtered (IsFit value_of p) (IsRowOf value_of p pred.arity) (is_of pred) rows
      (λ row u h. subst (λ (k : PredKey). IsRowOf value_of p k.arity row) (sym (same_pred-true pred row.name.now.pred u)) h) fit)
