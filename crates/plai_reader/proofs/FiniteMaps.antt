-- A map of std, seen as a finite map.
use Rattle.std.proofs.Common.{◌≡◌, ℕ, cond, List, [], ◌∷◌, refl, ap, sym, ◌∙◌}
use Rattle.std.specs.Prelude.{Some, None}
use Rattle.std.specs.Ordering.{nat_cmp, eq_by_cmp}
use Rattle.std.specs.Cmp.{eq_by_cmp_equiv}
use Rattle.std.specs.Cmp.Lexicographic.{slice_cmp, nat_list_cmp_total}
use Rattle.std.specs.FinMap.{FinMap, from_entries, find, get-from_entries, get-insert, get-remove, same_map, nat_cmp-IsAntisymmetric, slice_cmp-IsAntisymmetric}
use Rattle.std.specs.FinMap as finite
use Rattle.std.specs.Map.{lookup}
use Rattle.std.specs.BTreeMap.{BTreeMap, is_at, get, Updates}

module _ {V : Type 0} where
  find-lookup : (name : List ℕ) (es : List (List ℕ × V)) → find (slice_cmp nat_cmp) name es ≡ lookup (is_at (slice_cmp nat_cmp name)) es
  find-lookup name [] = refl
  find-lookup name (e ∷ es) = ap (cond (eq_by_cmp (slice_cmp nat_cmp) name e.0) (Some e.1)) (find-lookup name es)

  pub get-view : (m : BTreeMap (List ℕ) V) (name : List ℕ) → finite.get (from_entries {R = slice_cmp nat_cmp} m.entries) name ≡ get (slice_cmp nat_cmp) m name
  get-view m name = get-from_entries nat_list_cmp_total m.entries name ∙ find-lookup name m.entries

  same : (m n : FinMap (slice_cmp nat_cmp) V) → ((name : List ℕ) → finite.get m name ≡ finite.get n name) → m ≡ n
  same m n h = same_map nat_list_cmp_total (slice_cmp-IsAntisymmetric nat_cmp-IsAntisymmetric) m n h

  pub insert-view : (m n : BTreeMap (List ℕ) V) (name : List ℕ) (v : V) → Updates (slice_cmp nat_cmp) m n name (Some v)
      → from_entries {R = slice_cmp nat_cmp} n.entries ≡ finite.insert (from_entries m.entries) name v
  insert-view m n name v h =
      same (from_entries n.entries) (finite.insert (from_entries m.entries) name v) (λ q.
      get-view n q ∙ h.0 q
      ∙ ap (λ b. cond b (Some v) (get (slice_cmp nat_cmp) m q)) ((eq_by_cmp_equiv nat_list_cmp_total).symm name q)
      ∙ ap (cond (eq_by_cmp (slice_cmp nat_cmp) q name) (Some v)) (sym (get-view m q))
      ∙ sym (get-insert nat_list_cmp_total (from_entries m.entries) name v q))

  pub remove-view : (m n : BTreeMap (List ℕ) V) (name : List ℕ) → Updates (slice_cmp nat_cmp) m n name None
      → from_entries {R = slice_cmp nat_cmp} n.entries ≡ finite.remove (from_entries m.entries) name
  remove-view m n name h =
      same (from_entries n.entries) (finite.remove (from_entries m.entries) name) (λ q.
      get-view n q ∙ h.0 q
      ∙ ap (λ b. cond b None (get (slice_cmp nat_cmp) m q)) ((eq_by_cmp_equiv nat_list_cmp_total).symm name q)
      ∙ ap (cond (eq_by_cmp (slice_cmp nat_cmp) q name) None) (sym (get-view m q))
      ∙ sym (get-remove nat_list_cmp_total (from_entries m.entries) name q))
