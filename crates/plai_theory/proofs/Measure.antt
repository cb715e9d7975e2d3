-- Work ends: each step lowers one of three numbers and leaves those before it.
use Rattle.std.proofs.Common.{◌≡◌, ◌≢◌, ℕ, zero, suc, ◌+◌, ◌≤◌, ◌<◌, Bool, true, false, cond, nat_eq, eqb-true, List, [], ◌∷◌, ◌++◌, map, length, Option}
use Rattle.std.proofs.Common.{Some, None, sym, refl, subst, arith}
use Rattle.std.proofs.lemmas.Bool.Decides.{nat_tests}
use Rattle.plai_theory.specs.Domain.{Domain, Program, IsLawful}
use Rattle.plai_theory.specs.Evaluation.{NameOf}
use Rattle.plai_theory.specs.LegalWork.{WorkRow, find, put, new_row, after_waking, after_evaluating, after_growing, live_count}
use Rattle.plai_theory.specs.Count.{HaveOwnNames}
use Rattle.plai_theory.specs.Measure.{sum_rows, IsRank, one_at_none, rank_of, dirty_below, nones, ranks, dirties, room}
use Rattle.plai_theory.proofs.Options.{by_test}
use Rattle.plai_theory.proofs.Rows.{find_name}

module _ (d : Domain) (g : Program d) (laws : IsLawful d g) (f : WorkRow d → ℕ) (h : WorkRow d → WorkRow d) (x : NameOf d)
    (other : (q : WorkRow d) → d.same_name q.name x ≡ false → f (h q) ≡ f q) where
  sum_same : (rows : List (WorkRow d)) → find d rows x ≡ None → sum_rows d f (map h rows) ≡ sum_rows d f rows
  sum_same [] e = refl
  sum_same (q ∷ rows) e =
      by_test (d.same_name q.name x) (λ t. let c : Some q ≡ None = rw t at e in cc)
      (λ t. let k : sum_rows d f (map h rows) ≡ sum_rows d f rows = sum_same rows (rw t at e) in let n : f (h q) ≡ f q = other q t in omega arith)

  -- one row changes
  pub sum_changed : (rows : List (WorkRow d)) → HaveOwnNames d rows → (r : WorkRow d) → find d rows x ≡ Some r
      → sum_rows d f (map h rows) + f r ≡ sum_rows d f rows + f (h r)
  sum_changed [] own r e = cc
  sum_changed (q ∷ rows) own r e =
      by_test (d.same_name q.name x)
      (λ t.
      let s : Some q ≡ Some r = rw t at e in
      let u : q ≡ r = cc in
      let k : sum_rows d f (map h rows) ≡ sum_rows d f rows =
      sum_same rows (subst (λ (a : NameOf d). find d rows a ≡ None) (laws.same_true q.name x t) own.0) in
      subst (λ (z : WorkRow d). (f (h q) + sum_rows d f (map h rows)) + f z ≡ (f q + sum_rows d f rows) + f (h z)) u (omega arith))
      (λ t.
      let k : sum_rows d f (map h rows) + f r ≡ sum_rows d f rows + f (h r) = sum_changed rows own.1 r (rw t at e) in
      let n : f (h q) ≡ f q = other q t in
      omega arith)

sum_push : (d : Domain) (f : WorkRow d → ℕ) (rows : List (WorkRow d)) (r : WorkRow d) → sum_rows d f (rows ++ r ∷ []) ≡ sum_rows d f rows + f r
sum_push d f [] r = omega arith
sum_push d f (q ∷ rows) r = let k : sum_rows d f (rows ++ r ∷ []) ≡ sum_rows d f rows + f r = sum_push d f rows r in omega arith

live_is : (d : Domain) (rows : List (WorkRow d)) → live_count d rows ≡ sum_rows d (λ r. cond r.live 1 0) rows
live_is d [] = refl
live_is d (q ∷ rows) = let k : live_count d rows ≡ sum_rows d (λ r. cond r.live 1 0) rows = live_is d rows in omega arith

at_most_one : {A : Type 0} (o : Option A) → one_at_none o ≤ 1
at_most_one None = omega arith
at_most_one (Some a) = omega arith

-- one flag is cleared
dirty_other : (f : ℕ → Bool) (i n : ℕ) → n ≤ i → dirty_below (put f i false) n ≡ dirty_below f n
dirty_other f i zero h = refl
dirty_other f i (suc n) h =
    by_test (nat_eq i n) (λ t. let e : i ≡ n = eqb-true i n t in absurd (omega arith))
    (λ t. let k : dirty_below (put f i false) n ≡ dirty_below f n = dirty_other f i n (omega arith) in rw t (omega arith))

dirty_cleared : (f : ℕ → Bool) (i n : ℕ) → i < n → f i ≡ true → suc (dirty_below (put f i false) n) ≡ dirty_below f n
dirty_cleared f i zero h e = absurd (omega arith)
dirty_cleared f i (suc n) h e =
    by_test (nat_eq i n)
    (λ t.
    let u : i ≡ n = eqb-true i n t in
    let k : dirty_below (put f i false) n ≡ dirty_below f n = dirty_other f i n (omega arith) in
    let v : f n ≡ true = subst (λ (j : ℕ). f j ≡ true) u e in
    rw (t, v) (omega arith))
    (λ t.
    let ne : i ≢ n = (λ u. (let c : nat_eq n n ≡ false = subst (λ (j : ℕ). nat_eq j n ≡ false) u t in grind (arith, nat_tests))) in
    let k : suc (dirty_below (put f i false) n) ≡ dirty_below f n = dirty_cleared f i n (omega arith) e in
    rw t (omega arith))

-- what Made lowers
pub made_lowers : (d : Domain) (rows : List (WorkRow d)) (x : NameOf d) (limit : ℕ) → live_count d rows < limit
    → room d limit (rows ++ new_row d x ∷ []) < room d limit rows
made_lowers d rows x limit h =
    let a : live_count d rows ≡ sum_rows d (λ r. cond r.live 1 0) rows = live_is d rows in
    let b : live_count d (rows ++ new_row d x ∷ []) ≡ sum_rows d (λ r. cond r.live 1 0) (rows ++ new_row d x ∷ []) = live_is d (rows ++ new_row d x ∷ []) in
    let m : sum_rows d (λ r. cond r.live 1 0) (rows ++ new_row d x ∷ []) ≡ sum_rows d (λ r. cond r.live 1 0) rows + 1 =
    sum_push d (λ r. cond r.live 1 0) rows (new_row d x) in
    let n : nones d (rows ++ new_row d x ∷ []) ≡ nones d rows + 1 = sum_push d (λ r. cond r.live (one_at_none r.answer) 0) rows (new_row d x) in
    omega arith

module _ (d : Domain) (g : Program d) (laws : IsLawful d g) (rows : List (WorkRow d)) (own : HaveOwnNames d rows) (x : NameOf d) where
  other_woken : (f : Bool → Option d.Value → ℕ) (q : WorkRow d) → d.same_name q.name x ≡ false → f (after_waking d x q).live q.answer ≡ f q.live q.answer
  other_woken f q t = rw t refl

  is_named : (r : WorkRow d) → find d rows x ≡ Some r → d.same_name r.name x ≡ true
  is_named r e = rw (find_name d g laws rows x r e) (laws.same_refl x)

  pub woke_lowers : (limit : ℕ) → live_count d rows < limit → (r : WorkRow d) → find d rows x ≡ Some r → r.live ≡ false
      → room d limit (map (after_waking d x) rows) < room d limit rows
  woke_lowers limit h r e asleep =
      let a : live_count d rows ≡ sum_rows d (λ r. cond r.live 1 0) rows = live_is d rows in
      let b : live_count d (map (after_waking d x) rows) ≡ sum_rows d (λ r. cond r.live 1 0) (map (after_waking d x) rows) =
      live_is d (map (after_waking d x) rows) in
      let t : d.same_name r.name x ≡ true = is_named r e in
      let m : sum_rows d (λ r. cond r.live 1 0) (map (after_waking d x) rows) + cond r.live 1 0
      ≡ sum_rows d (λ r. cond r.live 1 0) rows + cond (after_waking d x r).live 1 0 =
      sum_changed d g laws (λ r. cond r.live 1 0) (after_waking d x) x (other_woken (λ live answer. cond live 1 0)) rows own r e in
      let n : nones d (map (after_waking d x) rows) + cond r.live (one_at_none r.answer) 0
      ≡ nones d rows + cond (after_waking d x r).live (one_at_none r.answer) 0 =
      sum_changed d g laws (λ r. cond r.live (one_at_none r.answer) 0) (after_waking d x) x (other_woken (λ live answer. cond live (one_at_none answer) 0))
      rows own r e in
      let m' : sum_rows d (λ r. cond r.live 1 0) (map (after_waking d x) rows) + 0 ≡ sum_rows d (λ r. cond r.live 1 0) rows + 1 = rw (asleep, t) at m in
      let n' : nones d (map (after_waking d x) rows) + 0 ≡ nones d rows + one_at_none r.answer = rw (asleep, t) at n in
      let o : one_at_none r.answer ≤ 1 = at_most_one r.answer in
      omega arith

  -- what Evaluated lowers, and what it leaves
  pub evaluated_lowers : (i : ℕ) (names : List (NameOf d)) (r : WorkRow d) → find d rows x ≡ Some r → r.live ≡ true → r.dirty i ≡ true
      → i < length (g.clauses x.pred) → dirties d g (map (after_evaluating d x i names) rows) < dirties d g rows
  evaluated_lowers i names r e live dirty inside =
      let t : d.same_name r.name x ≡ true = is_named r e in
      let m : dirties d g (map (after_evaluating d x i names) rows) + cond r.live (dirty_below r.dirty (length (g.clauses r.name.pred))) 0
      ≡ dirties d g rows + cond r.live (dirty_below (after_evaluating d x i names r).dirty (length (g.clauses r.name.pred))) 0 =
      sum_changed d g laws (λ r. cond r.live (dirty_below r.dirty (length (g.clauses r.name.pred))) 0) (after_evaluating d x i names) x (λ q u. rw u refl)
      rows own r e in
      let m' : dirties d g (map (after_evaluating d x i names) rows) + dirty_below r.dirty (length (g.clauses r.name.pred))
      ≡ dirties d g rows + dirty_below (put r.dirty i false) (length (g.clauses r.name.pred)) = rw (live, t) at m in
      let k : suc (dirty_below (put r.dirty i false) (length (g.clauses r.name.pred))) ≡ dirty_below r.dirty (length (g.clauses r.name.pred)) =
      dirty_cleared r.dirty i (length (g.clauses r.name.pred))
      (subst (λ (a : NameOf d). i < length (g.clauses a.pred)) (sym (find_name d g laws rows x r e)) inside) dirty in
      omega arith

  -- a first answer lowers the number of live rows without one
  pub first_lowers : (v : d.Value) (r : WorkRow d) → find d rows x ≡ Some r → r.live ≡ true → r.answer ≡ None
      → nones d (map (after_growing d x (Some v)) rows) < nones d rows
  first_lowers v r e live none =
      let t : d.same_name r.name x ≡ true = is_named r e in
      let m : nones d (map (after_growing d x (Some v)) rows) + cond r.live (one_at_none r.answer) 0
      ≡ nones d rows + cond r.live (one_at_none (cond (d.same_name r.name x) (Some v) r.answer)) 0 =
      sum_changed d g laws (λ r. cond r.live (one_at_none r.answer) 0) (after_growing d x (Some v)) x (λ q u. rw u refl) rows own r e in
      let m' : nones d (map (after_growing d x (Some v)) rows) + 1 ≡ nones d rows + 0 = rw (live, t, none) at m in
      omega arith

  -- a later growth lowers the ranks
  pub growth_lowers : (rank : d.Pred → d.Value → ℕ) → IsRank d rank → (u v : d.Value) (r : WorkRow d) → find d rows x ≡ Some r → r.live ≡ true
      → r.answer ≡ Some u → d.leq x.pred u v → u ≢ v → ranks d rank (map (after_growing d x (Some v)) rows) < ranks d rank rows
  growth_lowers rank falls u v r e live some le ne =
      let t : d.same_name r.name x ≡ true = is_named r e in
      let p : rank r.name.pred v < rank r.name.pred u =
      subst (λ (a : NameOf d). rank a.pred v < rank a.pred u) (sym (find_name d g laws rows x r e)) (falls x.pred u v le ne) in
      let m : ranks d rank (map (after_growing d x (Some v)) rows) + cond r.live (rank_of (rank r.name.pred) r.answer) 0
      ≡ ranks d rank rows + cond r.live (rank_of (rank r.name.pred) (cond (d.same_name r.name x) (Some v) r.answer)) 0 =
      sum_changed d g laws (λ r. cond r.live (rank_of (rank r.name.pred) r.answer) 0) (after_growing d x (Some v)) x (λ q s. rw s refl) rows own r e in
      let m' : ranks d rank (map (after_growing d x (Some v)) rows) + rank r.name.pred u ≡ ranks d rank rows + rank r.name.pred v = rw (live, t, some) at m in
      omega arith

-- a change that leaves a row's number leaves the sum: so Evaluated leaves the room and the ranks, and a later growth the room
pub sum_kept : (d : Domain) (f : WorkRow d → ℕ) (h : WorkRow d → WorkRow d) → ((q : WorkRow d) → f (h q) ≡ f q) → (rows : List (WorkRow d))
    → sum_rows d f (map h rows) ≡ sum_rows d f rows
sum_kept d f h keeps [] = refl
sum_kept d f h keeps (q ∷ rows) =
    let k : sum_rows d f (map h rows) ≡ sum_rows d f rows = sum_kept d f h keeps rows in let n : f (h q) ≡ f q = keeps q in omega arith

module _ (d : Domain) (g : Program d) (laws : IsLawful d g) (limit : ℕ) (rows : List (WorkRow d)) (x : NameOf d) where
  -- Evaluated leaves the room and the ranks
  pub evaluated_room : (i : ℕ) (names : List (NameOf d)) → room d limit (map (after_evaluating d x i names) rows) ≡ room d limit rows
  evaluated_room i names =
      let a : live_count d rows ≡ sum_rows d (λ r. cond r.live 1 0) rows = live_is d rows in
      let b : live_count d (map (after_evaluating d x i names) rows) ≡ sum_rows d (λ r. cond r.live 1 0) (map (after_evaluating d x i names) rows) =
      live_is d (map (after_evaluating d x i names) rows) in
      let m : sum_rows d (λ r. cond r.live 1 0) (map (after_evaluating d x i names) rows) ≡ sum_rows d (λ r. cond r.live 1 0) rows =
      sum_kept d (λ r. cond r.live 1 0) (after_evaluating d x i names) (λ q. refl) rows in
      let n : nones d (map (after_evaluating d x i names) rows) ≡ nones d rows =
      sum_kept d (λ r. cond r.live (one_at_none r.answer) 0) (after_evaluating d x i names) (λ q. refl) rows in
      omega arith

  pub evaluated_ranks : (rank : d.Pred → d.Value → ℕ) (i : ℕ) (names : List (NameOf d))
      → ranks d rank (map (after_evaluating d x i names) rows) ≡ ranks d rank rows
  evaluated_ranks rank i names = sum_kept d (λ r. cond r.live (rank_of (rank r.name.pred) r.answer) 0) (after_evaluating d x i names) (λ q. refl) rows

  -- Grew leaves the number of live rows
  pub grown_live : (o : Option d.Value) → live_count d (map (after_growing d x o) rows) ≡ live_count d rows
  grown_live o =
      let a : live_count d rows ≡ sum_rows d (λ r. cond r.live 1 0) rows = live_is d rows in
      let b : live_count d (map (after_growing d x o) rows) ≡ sum_rows d (λ r. cond r.live 1 0) (map (after_growing d x o) rows) =
      live_is d (map (after_growing d x o) rows) in
      let m : sum_rows d (λ r. cond r.live 1 0) (map (after_growing d x o) rows) ≡ sum_rows d (λ r. cond r.live 1 0) rows =
      sum_kept d (λ r. cond r.live 1 0) (after_growing d x o) (λ q. refl) rows in
      omega arith

  -- a later growth leaves the room
  pub growth_room : HaveOwnNames d rows → (u v : d.Value) (r : WorkRow d) → find d rows x ≡ Some r → r.answer ≡ Some u
      → room d limit (map (after_growing d x (Some v)) rows) ≡ room d limit rows
  growth_room own u v r e some =
      let t : d.same_name r.name x ≡ true = rw (find_name d g laws rows x r e) (laws.same_refl x) in
      let k : live_count d (map (after_growing d x (Some v)) rows) ≡ live_count d rows = grown_live (Some v) in
      let m : nones d (map (after_growing d x (Some v)) rows) + cond r.live (one_at_none r.answer) 0
      ≡ nones d rows + cond r.live (one_at_none (cond (d.same_name r.name x) (Some v) r.answer)) 0 =
      sum_changed d g laws (λ r. cond r.live (one_at_none r.answer) 0) (after_growing d x (Some v)) x (λ q s. rw s refl) rows own r e in
      let n : nones d (map (after_growing d x (Some v)) rows) + cond r.live 0 0 ≡ nones d rows + cond r.live 0 0 = rw (t, some) at m in
      omega arith

-- a first answer lowers the room
pub first_room : (d : Domain) (g : Program d) → IsLawful d g → (rows : List (WorkRow d)) → HaveOwnNames d rows
    → (x : NameOf d) (limit : ℕ) (v : d.Value) (r : WorkRow d) → find d rows x ≡ Some r → r.live ≡ true → r.answer ≡ None
    → room d limit (map (after_growing d x (Some v)) rows) < room d limit rows
first_room d g laws rows own x limit v r e live none =
    let k : live_count d (map (after_growing d x (Some v)) rows) ≡ live_count d rows = grown_live d g laws limit rows x (Some v) in
    let m : nones d (map (after_growing d x (Some v)) rows) < nones d rows = first_lowers d g laws rows own x v r e live none in
    omega arith
