-- The least table is closed, and there is at most one.
use Rattle.std.proofs.Common.{◌≡◌, ℕ, suc, ◌+◌, ◌≤◌, List, [], ◌∷◌, sym, refl, ap, ap₂, ◌∙◌, subst, inl, inr, arith}
use Rattle.plai_theory.specs.Words.{IsIn}
use Rattle.plai_theory.specs.Domain.{Domain, Program, IsLawful}
use Rattle.plai_theory.specs.Evaluation.{NameOf, name_of, calls_of}
use Rattle.plai_theory.specs.Stages.{stage, Reaches, AtEntry, ByCall}
use Rattle.plai_theory.specs.LeastTable.{Row, Order, IsOrdered, IsSnapshot, IsLeastTable, IsStrictOrder}
use Rattle.plai_theory.specs.Tables.{source_of, HasName, IsDistinct, IsClosed}
use Rattle.plai_theory.proofs.Eval.{same_answer, same_called, Agree}
use Rattle.plai_theory.proofs.Stages.{stage_le, below_next, reach_more}
use Rattle.plai_theory.proofs.Least.{reached_value}
use Rattle.plai_theory.proofs.Tables.{lookup_name}

module _ (d : Domain) (before : Order d) (order : IsStrictOrder d before) where
  pub distinct_from_ordered : (rows : List (Row d)) → IsOrdered d before rows → IsDistinct d rows
  distinct_from_ordered [] o = tt
  distinct_from_ordered (r ∷ rows) o =
      (λ q i e. order.irrefl q.name (subst (λ (x : NameOf d). before x q.name) e (o.0 q i)), distinct_from_ordered rows o.1)

  -- the first rows of two ordered lists with the same members are equal
  same_first : (x y : Row d) (xs ys : List (Row d)) → IsOrdered d before (x ∷ xs) → IsOrdered d before (y ∷ ys) → IsIn x (y ∷ ys) → IsIn y (x ∷ xs) → x ≡ y
  same_first x y xs ys ox oy (inl e) j = sym e
  same_first x y xs ys ox oy (inr i) (inl e) = e
  same_first x y xs ys ox oy (inr i) (inr j) = absurd (order.irrefl x.name (order.trans x.name y.name x.name (ox.0 y j) (oy.0 x i)))

  rest_in : (x y r : Row d) (xs ys : List (Row d)) → IsOrdered d before (x ∷ xs) → x ≡ y → IsIn r xs → IsIn r (y ∷ ys) → IsIn r ys
  rest_in x y r xs ys ox e i (inl f) =
      absurd (order.irrefl r.name (subst (λ (z : Row d). before z.name r.name) (e ∙ f) (ox.0 r i)))
  rest_in x y r xs ys ox e i (inr j) = j

  pub same_ordered : (xs ys : List (Row d)) → IsOrdered d before xs → IsOrdered d before ys → ((r : Row d) → IsIn r xs → IsIn r ys)
      → ((r : Row d) → IsIn r ys → IsIn r xs) → xs ≡ ys
  same_ordered [] [] ox oy up down = refl
  same_ordered [] (y ∷ ys) ox oy up down = absurd (down y (inl refl))
  same_ordered (x ∷ xs) [] ox oy up down = absurd (up x (inl refl))
  same_ordered (x ∷ xs) (y ∷ ys) ox oy up down =
      let e : x ≡ y = same_first x y xs ys ox oy (up x (inl refl)) (down y (inl refl)) in
      ap₂ (λ a rest. a ∷ rest) e
      (same_ordered xs ys ox.1 oy.1
      (λ r i. rest_in x y r xs ys ox e i (up r (inr i)))
      (λ r i. rest_in y x r ys xs oy (sym e) i (down r (inr i))))

row_path : (d : Domain) (r q : Row d) → r.name ≡ q.name → r.answer ≡ q.answer → r ≡ q
row_path d r q e f = λ i. record { name = e i; answer = f i }

-- a row of one list is in the other
row_of_other : (d : Domain) (g : Program d) (before : Order d) (n : ℕ) (rows others : List (Row d)) → IsSnapshot d g before n rows
    → IsSnapshot d g before n others → (r : Row d) → IsIn r rows → IsIn r others
row_of_other d g before n rows others a b r i =
    let (reach, is) = a.sound r i in
    let (q, j, e) = b.whole r.name reach in
    let f : q.answer ≡ r.answer = (b.sound q j).1 ∙ (ap (λ (x : NameOf d). stage d g n x.pred x.call) e ∙ sym is) in
    subst (λ (z : Row d). IsIn z others) (row_path d q r e f) j

-- there is at most one snapshot
pub snap_unique : (d : Domain) (g : Program d) (before : Order d) → IsStrictOrder d before → (n : ℕ) (rows others : List (Row d))
    → IsSnapshot d g before n rows → IsSnapshot d g before n others → rows ≡ others
snap_unique d g before order n rows others here there =
    same_ordered d before order rows others here.ordered there.ordered
    (row_of_other d g before n rows others here there) (row_of_other d g before n others rows there here)

-- Theorem: there is at most one least table.
pub least_unique : (d : Domain) (g : Program d) (before : Order d) → IsStrictOrder d before → (rows others : List (Row d)) → IsLeastTable d g before rows
    → IsLeastTable d g before others → rows ≡ others
least_unique d g before order rows others (N, a) (M, b) =
    snap_unique d g before order (N + M) rows others (a (N + M) (omega arith)) (b (N + M) (omega arith))

module _ (d : Domain) (g : Program d) (laws : IsLawful d g) (before : Order d) (order : IsStrictOrder d before) (rows : List (Row d)) (N : ℕ)
    (least : (n : ℕ) → N ≤ n → IsSnapshot d g before n rows) where
  pub distinct : IsDistinct d rows
  distinct = distinct_from_ordered d before order rows (least N (omega arith)).ordered

  -- the answers at the names of the table
  pub stage_at : (n : ℕ) → N ≤ n → (x : NameOf d) → HasName d rows x → stage d g n x.pred x.call ≡ source_of d rows x.pred x.call
  stage_at n h x (r, i, e) =
      sym (lookup_name d g laws rows distinct x r i e ∙ ((least n h).sound r i).1 ∙ ap (λ (y : NameOf d). stage d g n y.pred y.call) e)

  -- what stage N reaches within N steps, each later stage does
  reach_later : (n : ℕ) → N ≤ n → {k : ℕ} {x : NameOf d} → k ≤ N → Reaches d g (stage d g N) k x → Reaches d g (stage d g n) k x
  reach_later n h le (AtEntry i) = AtEntry i
  reach_later n h le (ByCall {n = k} {x = x} m c r i j) =
      ByCall m c (reach_later n h (omega arith) r) i
      (subst (λ (ns : List (NameOf d)). IsIn x ns)
      (sym (same_called d (stage d g n) (stage d g N) c m.call (λ q u t.
      let there : HasName d rows (name_of d q u) = (least N (omega arith)).whole (name_of d q u) (reach_more d g (stage d g N) N le (ByCall m c r i t)) in
      stage_at n h (name_of d q u) there ∙ sym (stage_at N (omega arith) (name_of d q u) there))))
      j)

  -- what a row's clauses call at the next stage are rows
  calls_rows : (r : Row d) → IsIn r rows → (c : d.Clause) → IsIn c (g.clauses r.name.pred) → (x : NameOf d)
      → IsIn x (calls_of d (stage d g (suc N)) c r.name.call) → HasName d rows x
  calls_rows r i c j x k =
      (least (suc N) (omega arith)).whole x
      (ByCall r.name c (reach_later (suc N) (omega arith) (omega arith) ((least N (omega arith)).sound r i).0) j k)

  agree : (r : Row d) → IsIn r rows → (c : d.Clause) → IsIn c (g.clauses r.name.pred)
      → Agree d (source_of d rows) (stage d g (suc N)) (calls_of d (stage d g (suc N)) c r.name.call)
  agree r i c j p v k = sym (stage_at (suc N) (omega arith) (name_of d p v) (calls_rows r i c j (name_of d p v) k))

  -- Theorem: the least table is closed.
  pub least_closed : IsClosed d g rows
  least_closed = record {
    distinct = distinct;
    entries = λ x i. (least N (omega arith)).whole x (AtEntry i);
    calls = λ r i c j x k. calls_rows r i c j x
        (subst (λ (ns : List (NameOf d)). IsIn x ns) (same_called d (source_of d rows) (stage d g (suc N)) c r.name.call (agree r i c j)) k);
    answers = λ r i c j.
        let value : d.leq r.name.pred r.name.call r.name.call =
        reached_value d g laws (stage d g N) (N, λ p v is. stage_le d g laws N N (omega arith) p v v is) N r.name ((least N (omega arith)).sound r i).0 in
        rw (same_answer d (source_of d rows) (stage d g (suc N)) c r.name.call (agree r i c j), ((least (suc (suc N)) (omega arith)).sound r i).1)
        (below_next d g laws (stage d g (suc N)) (suc N) (λ p v is. stage_le d g laws (suc N) (suc N) (omega arith) p v v is) r.name.pred
        r.name.call value c j);
  }

  -- each name of the table is a value
  pub table_value : (x : NameOf d) → HasName d rows x → d.leq x.pred x.call x.call
  table_value x (r, i, e) =
      subst (λ (y : NameOf d). d.leq y.pred y.call y.call) e
      (reached_value d g laws (stage d g N) (N, λ p v is. stage_le d g laws N N (omega arith) p v v is) N r.name ((least N (omega arith)).sound r i).0)
