-- The three numbers that show that work ends are those of the rows under work.
use Rattle.std.proofs.Common.{◌≡◌, ℕ, zero, suc, ◌+◌, ◌*◌, ◌-◌, ◌<◌, Bool, cond, List, [], ◌∷◌, length, Option, Some, sym, refl, ap, ap₂, ◌∙◌, arith}
use Rattle.plai_theory.specs.Words.{item}
use Rattle.plai_theory.specs.Domain.{Domain, Program, IsLawful}
use Rattle.plai_theory.specs.LegalWork.{WorkRow}
use Rattle.plai_theory.specs.Measure.{sum_rows, one_at_none, rank_of, dirty_below, nones, room, ranks, dirties}
use Rattle.plai_fix_laws.specs.WorkStates.{KeptRow, Keeping, KeepsRow, AtBoth, Keeps}
use Rattle.plai_fix_laws.specs.Measures.{kept_sum, kept_nones, kept_room, kept_ranks, kept_dirties}
use Rattle.plai_fix_laws.proofs.Linked.{same_live}

same_sum : (d : Domain) (kept : List (KeptRow d)) (ws : List (WorkRow d)) (R : ℕ → KeptRow d → WorkRow d → Type 0) (f : ℕ → KeptRow d → ℕ) (h : WorkRow d → ℕ)
    → ((a : ℕ) → AtBoth (R a) (item kept a) (item ws a)) → ((a : ℕ) (z : KeptRow d) (r : WorkRow d) → R a z r → h r ≡ f a z)
    → sum_rows d h ws ≡ kept_sum d f kept
same_sum d [] [] R f h both same = refl
same_sum d [] (r ∷ ws) R f h both same = absurd (both zero)
same_sum d (z ∷ kept) [] R f h both same = absurd (both zero)
same_sum d (z ∷ kept) (r ∷ ws) R f h both same =
    ap₂ (λ m n. m + n) (same zero z r (both zero)) (same_sum d kept ws (λ a. R (suc a)) (λ a. f (suc a)) h (λ a. both (suc a)) (λ a. same (suc a)))

same_below : (f h : ℕ → Bool) (n : ℕ) → ((i : ℕ) → i < n → f i ≡ h i) → dirty_below f n ≡ dirty_below h n
same_below f h zero same = refl
same_below f h (suc n) same = ap₂ (λ (b : Bool) m. cond b 1 0 + m) (same n (omega arith)) (same_below f h n (λ i l. same i (omega arith)))

there : {A : Type 0} (xs : List A) (i : ℕ) → i < length xs → (x : A) × (item xs i ≡ Some x)
there [] i l = absurd (omega arith)
there (x ∷ xs) zero l = (x, refl)
there (x ∷ xs) (suc i) l = there xs i (omega arith)

module _ (d : Domain) (g : Program d) (laws : IsLawful d g) (k : Keeping d) (open_pair : Option (ℕ × ℕ)) (rows : List (WorkRow d))
    (keeps : Keeps d g k open_pair rows) where
  same_nones : nones d rows ≡ kept_nones d k.rows
  same_nones =
      same_sum d k.rows rows (KeepsRow d g k open_pair) (λ j r. cond r.live (one_at_none r.answer) 0) (λ r. cond r.live (one_at_none r.answer) 0) keeps.each
      (λ a z r h. ap₂ (λ (b : Bool) (o : Option d.Value). cond b (one_at_none o) 0) (sym h.live) (sym h.answer))

  pub same_room : (limit : ℕ) → room d limit rows ≡ kept_room d limit k.rows
  same_room limit = ap₂ (λ m n. 2 * (limit - m) + n) (same_live d g laws k open_pair rows keeps) same_nones

  pub same_ranks : (rank : d.Pred → d.Value → ℕ) → ranks d rank rows ≡ kept_ranks d rank k.rows
  same_ranks rank =
      same_sum d k.rows rows (KeepsRow d g k open_pair) (λ j r. cond r.live (rank_of (rank r.name.pred) r.answer) 0)
      (λ r. cond r.live (rank_of (rank r.name.pred) r.answer) 0) keeps.each
      (λ a z r h. λ i. cond (sym h.live i) (rank_of (rank (sym h.name i).pred) (sym h.answer i)) 0)

  pub same_dirties : dirties d g rows ≡ kept_dirties d g k
  same_dirties =
      same_sum d k.rows rows (KeepsRow d g k open_pair) (λ j r. cond r.live (dirty_below (λ i. k.dirty j (suc i)) (length (g.clauses r.name.pred))) 0)
      (λ r. cond r.live (dirty_below r.dirty (length (g.clauses r.name.pred))) 0) keeps.each
      (λ a z r h.
      ap (λ n. cond r.live n 0) (same_below r.dirty (λ i. k.dirty a (suc i)) (length (g.clauses r.name.pred))
      (λ i l. let (c, e) = there (g.clauses r.name.pred) i l in sym (h.dirty i c e)))
      ∙ (λ i. cond (sym h.live i) (dirty_below (λ j. k.dirty a (suc j)) (length (g.clauses (sym h.name i).pred))) 0))
