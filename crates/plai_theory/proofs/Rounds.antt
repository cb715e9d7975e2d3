-- Rounds: what they make lies below the stages, and where it is closed its reached rows are the least table.
use Rattle.std.proofs.Common.{◌≡◌, ℕ, zero, suc, ◌+◌, ◌≤◌, List, [], ◌∷◌, ◌++◌, map, Option, None, sym, refl, subst, inl, inr, arith}
use Rattle.plai_theory.specs.Words.{IsIn, UpTo}
use Rattle.plai_theory.specs.Domain.{Domain, Program, IsLawful}
use Rattle.plai_theory.specs.Evaluation.{NameOf, name_of, answer_of, join_of}
use Rattle.plai_theory.specs.Stages.{stage, IsFromBelow}
use Rattle.plai_theory.specs.LeastTable.{Row, Order, IsLeastTable, IsTableOf}
use Rattle.plai_theory.specs.Tables.{source_of, IsClosed}
use Rattle.plai_theory.specs.Rounds.{IsAsked, after_raising, IsMade, Begin, Add, Raise}
use Rattle.plai_theory.proofs.Options.{by_test}
use Rattle.plai_theory.proofs.Stages.{trans_at, left_at, joined_second, joined_least, stage_le}
use Rattle.plai_theory.proofs.Least.{least_table}
use Rattle.plai_theory.proofs.Tables.{closed_at, reach_rows}
use Rattle.plai_theory.proofs.Near.{IsNear, near_value, near_entry, near_call, answer_low}

-- members of a mapped and of a pushed list
pub map_in : {A B : Type 0} (P : B → Type 0) (f : A → B) (xs : List A) (y : B) → IsIn y (map f xs) → ((x : A) → IsIn x xs → P (f x)) → P y
map_in P f [] y i h = absurd i
map_in P f (x ∷ xs) y (inl e) h = subst P e (h x (inl refl))
map_in P f (x ∷ xs) y (inr i) h = map_in P f xs y i (λ z j. h z (inr j))

pub push_in : {A : Type 0} (P : A → Type 0) (xs : List A) (x y : A) → IsIn y (xs ++ x ∷ []) → ((z : A) → IsIn z xs → P z) → P x → P y
push_in P [] x y (inl e) h k = subst P e k
push_in P [] x y (inr i) h k = absurd i
push_in P (z ∷ xs) x y (inl e) h k = subst P e (h z (inl refl))
push_in P (z ∷ xs) x y (inr i) h k = push_in P xs x y i (λ a j. h a (inr j)) k

-- a row whose name is near and whose answer lies at or below the stage
pub record IsLow (d : Domain) (g : Program d) (N : ℕ) (r : Row d) : Type 0 where
  pub near : IsNear d g r.name
  pub low : UpTo (d.leq r.name.pred) r.answer (stage d g N r.name.pred r.name.call)

-- each row's answer lies at or below the settled stage of its name
pub record AllLow (d : Domain) (g : Program d) (rows : List (Row d)) : Type 0 where
  pub number : ℕ
  pub each : (r : Row d) → IsIn r rows → IsLow d g number r

module _ (d : Domain) (g : Program d) (laws : IsLawful d g) where
  pub below_at : (rows : List (Row d)) (N : ℕ) → ((r : Row d) → IsIn r rows → UpTo (d.leq r.name.pred) r.answer (stage d g N r.name.pred r.name.call))
      → (p : d.Pred) (v : d.Value) → UpTo (d.leq p) (source_of d rows p v) (stage d g N p v)
  below_at [] N h p v = tt
  below_at (r ∷ rows) N h p v =
      by_test (d.same_name r.name (name_of d p v))
      (λ t. rw t (subst (λ (x : NameOf d). UpTo (d.leq x.pred) r.answer (stage d g N x.pred x.call)) (laws.same_true r.name (name_of d p v) t)
      (h r (inl refl))))
      (λ t. rw t (below_at rows N (λ q i. h q (inr i)) p v))

  abbrev pub from_below : (rows : List (Row d)) → AllLow d g rows → IsFromBelow d g (source_of d rows)
  from_below rows low = (low.number, λ p v is. below_at rows low.number (λ r i. (low.each r i).low) p v)

  low_later : (n m : ℕ) → n ≤ m → (r : Row d) → IsLow d g n r → IsLow d g m r
  low_later n m h r low =
      record {
        near = low.near;
        low = trans_at d g laws r.name.pred r.answer (stage d g n r.name.pred r.name.call) (stage d g m r.name.pred r.name.call) low.low
            (stage_le d g laws n m h r.name.pred r.name.call r.name.call (near_value d g laws r.name low.near));
      }

  near_asked : (rows : List (Row d)) → AllLow d g rows → (x : NameOf d) → IsAsked d g rows x → IsNear d g x
  near_asked rows low x (inl i) = near_entry d g laws x i
  near_asked rows low x (inr (r, i, (c, j, k))) = near_call d g laws (source_of d rows) (from_below rows low) r.name (low.each r i).near c j x k

  pub made_low : {rows : List (Row d)} → IsMade d g rows → AllLow d g rows
  made_low Begin = record { number = zero; each = λ r i. absurd i }
  made_low (Add {rows = rows} {seen = seen} x m s ask) =
      let a : AllLow d g rows = made_low m in
      record {
        number = a.number;
        each = λ r i. push_in (IsLow d g a.number) rows (record { name = x; answer = None }) r i a.each
            (record { near = near_asked seen (made_low s) x ask; low = tt });
      }
  made_low (Raise {rows = rows} {seen = seen} x c m s j) =
      let a : AllLow d g rows = made_low m in
      let b : AllLow d g seen = made_low s in
      let N : ℕ = a.number + suc b.number in
      record {
        number = N;
        each = λ r i. map_in (IsLow d g N) (after_raising d x (answer_of d (source_of d seen) c x.call)) rows r i
            (λ q k. raise_low seen b x c j a.number q (a.each q k));
      }
    where
      raise_low : (seen : List (Row d)) (b : AllLow d g seen) (x : NameOf d) (c : d.Clause) → IsIn c (g.clauses x.pred) → (n : ℕ) (q : Row d) → IsLow d g n q
          → IsLow d g (n + suc b.number) (after_raising d x (answer_of d (source_of d seen) c x.call) q)
      raise_low seen b x c j n q low =
          let later : IsLow d g (n + suc b.number) q = low_later n (n + suc b.number) (omega arith) q low in
          record {
            near = low.near;
            low = by_test (d.same_name q.name x)
                (λ t. rw t (joined_least d g laws q.name.pred q.answer (answer_of d (source_of d seen) c x.call)
                (stage d g (n + suc b.number) q.name.pred q.name.call) later.low
                (let e : x ≡ q.name = sym (laws.same_true q.name x t) in
                let value : d.leq q.name.pred q.name.call q.name.call = near_value d g laws q.name low.near in
                let up : UpTo (d.leq q.name.pred) (answer_of d (source_of d seen) c q.name.call) (stage d g (n + suc b.number) q.name.pred q.name.call) =
                trans_at d g laws q.name.pred (answer_of d (source_of d seen) c q.name.call) (stage d g (suc b.number) q.name.pred q.name.call)
                (stage d g (n + suc b.number) q.name.pred q.name.call)
                (answer_low d g laws (source_of d seen) (from_below seen b) q.name value c (subst (λ (z : NameOf d). IsIn c (g.clauses z.pred)) e j))
                (stage_le d g laws (suc b.number) (n + suc b.number) (omega arith) q.name.pred q.name.call q.name.call value) in
                subst (λ (z : NameOf d). UpTo (d.leq q.name.pred) (answer_of d (source_of d seen) c z.call)
                (stage d g (n + suc b.number) q.name.pred q.name.call)) (sym e) up)))
                (λ t. rw t later.low);
          }

  -- Theorem: where the rows lie below the stages and are closed, those that calls reach are the least table.
  pub closed_result : (before : Order d) (rows : List (Row d)) → IsFromBelow d g (source_of d rows) → IsClosed d g rows → (result : List (Row d))
      → IsTableOf d g before (source_of d rows) result → IsLeastTable d g before result
  closed_result before rows low closed result =
      least_table d g laws before (source_of d rows) result low
      (λ k x r c i. (closed_at d g laws rows closed).answers x.pred x.call (reach_rows d g laws rows closed r) c i)

  -- Theorem: where rounds make a closed table, its rows that calls reach are the least table.
  pub rounds_least : (before : Order d) (rows : List (Row d)) → IsMade d g rows → IsClosed d g rows → (result : List (Row d))
      → IsTableOf d g before (source_of d rows) result → IsLeastTable d g before result
  rounds_least before rows made = closed_result before rows (from_below rows (made_low made))

  -- where a join changes nothing, the evaluation's answer lies at or below the row's
  pub unchanged_covers : (rows : List (Row d)) → IsMade d g rows → (r : Row d) → IsIn r rows → (c : d.Clause) → IsIn c (g.clauses r.name.pred)
      → join_of d r.answer (answer_of d (source_of d rows) c r.name.call) ≡ r.answer
      → UpTo (d.leq r.name.pred) (answer_of d (source_of d rows) c r.name.call) r.answer
  unchanged_covers rows made r i c j e =
      let low : AllLow d g rows = made_low made in
      let a : UpTo (d.leq r.name.pred) r.answer r.answer = left_at d g laws r.name.pred r.answer _ (low.each r i).low in
      let b : UpTo (d.leq r.name.pred) (answer_of d (source_of d rows) c r.name.call) (answer_of d (source_of d rows) c r.name.call) =
      left_at d g laws r.name.pred (answer_of d (source_of d rows) c r.name.call) _
      (answer_low d g laws (source_of d rows) (from_below rows low) r.name (near_value d g laws r.name (low.each r i).near) c j) in
      subst (λ (o : Option d.Value). UpTo (d.leq r.name.pred) (answer_of d (source_of d rows) c r.name.call) o) e
      (joined_second d g laws r.name.pred r.answer (answer_of d (source_of d rows) c r.name.call) a b)
