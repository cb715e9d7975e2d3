-- Where a pair waits no more for rows of the names that it called.
use Rattle.std.proofs.Common.{◌≡◌, ℕ, suc, ◌≤◌, Bool, true, false, ◌&&◌, ◌||◌, nat_eq, eqb-true, List, Some, None, IsSome, sym, refl, ap, ap₂, ◌∙◌, subst}
use Rattle.std.proofs.Common.{arith}
use Rattle.plai_theory.specs.Words.{IsIn, item}
use Rattle.plai_theory.specs.Domain.{Domain, Program, IsLawful}
use Rattle.plai_theory.specs.Evaluation.{NameOf}
use Rattle.plai_theory.specs.LegalWork.{WorkRow, find, live_count}
use Rattle.plai_theory.proofs.Options.{by_test}
use Rattle.plai_fix_laws.specs.WorkStates.{clause_at, IsMet, IsMetBut, IsFull, no_pair, with_pair}
use Rattle.std.proofs.lemmas.Bool.{eq-eqb}
use Rattle.plai_fix_laws.proofs.Steps.{or_cases}
use Rattle.plai_fix_laws.proofs.Working.{some_pair}

module _ (d : Domain) (g : Program d) (laws : IsLawful d g) where
  -- A pair that waited has its rows, which may be dormant.
  pub waits_no_more : (rows : List (WorkRow d)) (n i : ℕ) (unmet : ℕ → ℕ → Bool) → IsMet d g (Some (n, i)) unmet rows → (r : WorkRow d) → item rows n ≡ Some r
      → ((y : NameOf d) → IsIn y (r.calls i) → (q : WorkRow d) × (find d rows y ≡ Some q)) → IsMetBut d g (with_pair n (suc i) no_pair) unmet rows
  waits_no_more rows n i unmet met r at all =
      record {
        met = λ a q e j c s clean free y inside.
            by_test (nat_eq a n && nat_eq j i)
            (λ t.
            let (u, v) = both (nat_eq a n) (nat_eq j i) t in
            let there : Some q ≡ Some r = sym e ∙ ap (item rows) (eqb-true a n u) ∙ at in
            let same : q ≡ r = cc in
            let (z, f) = all y (subst (IsIn y) (ap₂ (λ (w : WorkRow d) (m : ℕ). w.calls m) same (eqb-true j i v)) inside) in
            let w : (nat_eq a n && nat_eq (suc j) (suc i)) ≡ true = rw (u, eq-eqb (suc j) (suc i) (ap suc (eqb-true j i v))) refl in
            let listed : with_pair n (suc i) no_pair a (suc j) ≡ true = rw w refl in
            (z, f, λ o. let l : true ≡ false = sym listed ∙ o in cc))
            (λ t. let (z, f, l) = met.met a q e j c s clean (λ p. let (x, z) = some_pair p in let u : (nat_eq a n && nat_eq j i) ≡ true =
            rw (eq-eqb a n (sym x), eq-eqb j i (sym z)) refl in let l : true ≡ false = sym u ∙ t in cc) free y inside in (z, f, λ o. l));
      }
    where
      both : (p q : Bool) → (p && q) ≡ true → (p ≡ true) × (q ≡ true)
      both true q e = (refl, e)
      both false q e = cc

  -- Where the limit is met and a name that it called is no live row, the pair that waited is marked as unmet.
  pub waits_for_ever : (limit : ℕ) (rows : List (WorkRow d)) (n i : ℕ) (unmet marked : ℕ → ℕ → Bool) → IsMet d g (Some (n, i)) unmet rows
      → IsFull d g limit unmet rows → ((a m : ℕ) → marked a m ≡ ((nat_eq a n && nat_eq m (suc i)) || unmet a m))
      → (r : WorkRow d) → item rows n ≡ Some r → r.live ≡ true → IsSome (clause_at d g r.name.pred (suc i)) → limit ≤ live_count d rows → (y : NameOf d)
      → IsIn y (r.calls i)
      → ((q : WorkRow d) → find d rows y ≡ Some q → q.live ≡ false)
      → IsMet d g None marked rows × IsFull d g limit marked rows
  waits_for_ever limit rows n i unmet marked met full marks r at live real no_room y inside dead = (
    record {
      met = λ a q e j c s clean shut free.
          let (x, z) = neither (nat_eq a n && nat_eq (suc j) (suc i)) (unmet a (suc j)) (sym (marks a (suc j)) ∙ free) in
          met.met a q e j c s clean (λ p. let (v, w) = some_pair p in
          let u : (nat_eq a n && nat_eq (suc j) (suc i)) ≡ true = rw (eq-eqb a n (sym v), eq-eqb (suc j) (suc i) (ap suc (sym w))) refl in
          let l : true ≡ false = sym u ∙ x in cc) z;
    },
    record {
      full = λ a m e. no_room;
      pairs = λ a m e.
          or_cases (nat_eq a n && nat_eq m (suc i)) (unmet a m) (sym (marks a m) ∙ e)
          (λ t. let (u, v) = both (nat_eq a n) (nat_eq m (suc i)) t in
          (r, ap (item rows) (eqb-true a n u) ∙ at, live, subst (λ z. IsSome (clause_at d g r.name.pred z)) (sym (eqb-true m (suc i) v)) real))
          (full.pairs a m);
      missing = λ a q e j clean mark.
          or_cases (nat_eq a n && nat_eq (suc j) (suc i)) (unmet a (suc j)) (sym (marks a (suc j)) ∙ mark)
          (λ t.
          let (u, v) = both (nat_eq a n) (nat_eq (suc j) (suc i)) t in
          let there : Some q ≡ Some r = sym e ∙ ap (item rows) (eqb-true a n u) ∙ at in
          let same : q ≡ r = cc in
          let w : suc j ≡ suc i = eqb-true (suc j) (suc i) v in
          let x : j ≡ i = omega arith in
          (y, subst (IsIn y) (sym (ap₂ (λ (w : WorkRow d) (m : ℕ). w.calls m) same x)) inside, dead))
          (full.missing a q e j clean);
    },
  )
    where
      both : (p q : Bool) → (p && q) ≡ true → (p ≡ true) × (q ≡ true)
      both true q e = (refl, e)
      both false q e = cc

      neither : (p q : Bool) → (p || q) ≡ false → (p ≡ false) × (q ≡ false)
      neither true q e = cc
      neither false q e = (refl, e)
