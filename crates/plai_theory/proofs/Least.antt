-- A source that is reached from below and settled gives the least table.
use Rattle.std.proofs.Common.{◌≡◌, ℕ, zero, suc, ◌+◌, ◌≤◌, List, [], ◌∷◌, sym, refl, ◌∙◌, subst, inl, inr, arith}
use Rattle.plai_theory.specs.Words.{IsIn}
use Rattle.plai_theory.specs.Domain.{Domain, Program, IsLawful}
use Rattle.plai_theory.specs.Evaluation.{Source, NameOf, name_of, calls_of}
use Rattle.plai_theory.specs.Stages.{stage, Reaches, AtEntry, ByCall, IsFromBelow, IsSettled}
use Rattle.plai_theory.specs.LeastTable.{Row, Order, IsLeastTable, IsTableOf}
use Rattle.plai_theory.proofs.Stages.{trans_at, antisym_at, stage_le, stage_below, reach_below, reach_to, reach_from, reach_more, IsClosedAt}

abbrev pub IsReached : (d : Domain) → Program d → Source d → d.Pred → d.Value → Type 0
IsReached d g s p v = (k : ℕ) × Reaches d g s k (name_of d p v)

pub reached_calls : (d : Domain) (g : Program d) (s : Source d) (p : d.Pred) (v : d.Value) → IsReached d g s p v → (c : d.Clause) → IsIn c (g.clauses p)
    → (q : d.Pred) (x : d.Value) → IsIn (name_of d q x) (calls_of d s c v) → IsReached d g s q x
reached_calls d g s p v r c i q x j = (suc r.0, ByCall (name_of d p v) c r.1 i j)

module _ (d : Domain) (g : Program d) (laws : IsLawful d g) (s : Source d) (low : IsFromBelow d g s) where
  -- what is reached is a value
  pub reached_value : (k : ℕ) (x : NameOf d) → Reaches d g s k x → d.leq x.pred x.call x.call
  reached_value k x r =
      let (w, i, le) = reach_below d g laws s (stage d g low.0) (IsReached d g (stage d g low.0)) (reached_calls d g (stage d g low.0))
      (λ p v i. (zero, AtEntry i))
      (λ p v w i le. trans_at d g laws p (s p v) (stage d g low.0 p v) (stage d g low.0 p w) (low.1 p v (laws.left le))
      (stage_le d g laws low.0 low.0 (omega arith) p v w le)) r in
      laws.left le

  module _ (done : IsSettled d g s) where
    pub closed_reach : IsClosedAt d g s (IsReached d g s)
    closed_reach = record { calls_in = reached_calls d g s; answers = λ p v r c i. done r.0 (name_of d p v) r.1 c i }

    -- from the stage on that lies above the source, stages equal the source at what is reached
    pub settled : (n : ℕ) → low.0 ≤ n → (k : ℕ) (x : NameOf d) → Reaches d g s k x → stage d g n x.pred x.call ≡ s x.pred x.call
    settled n h k x r =
        let le : d.leq x.pred x.call x.call = reached_value k x r in
        antisym_at d g laws x.pred (stage d g n x.pred x.call) (s x.pred x.call)
        (stage_below d g laws s (IsReached d g s) closed_reach n x.pred x.call x.call (k, r) le)
        (trans_at d g laws x.pred (s x.pred x.call) (stage d g low.0 x.pred x.call) (stage d g n x.pred x.call)
        (low.1 x.pred x.call le) (stage_le d g laws low.0 n h x.pred x.call x.call le))

-- one number of steps reaches all rows
pub steps_for_all : (d : Domain) (g : Program d) (s : Source d) (rows : List (Row d)) → ((r : Row d) → IsIn r rows → (k : ℕ) × Reaches d g s k r.name)
    → (K : ℕ) × ((r : Row d) → IsIn r rows → Reaches d g s K r.name)
steps_for_all d g s [] h = (zero, λ r i. absurd i)
steps_for_all d g s (q ∷ rows) h =
    let (k, now) = h q (inl refl) in
    let (K, rest) = steps_for_all d g s rows (λ r i. h r (inr i)) in
    (k + K, λ r i. steps_more d g s q r rows k K now rest i)
  where
    steps_more : (d : Domain) (g : Program d) (s : Source d) (q r : Row d) (rows : List (Row d)) (k K : ℕ) → Reaches d g s k q.name
        → ((r : Row d) → IsIn r rows → Reaches d g s K r.name) → IsIn r (q ∷ rows) → Reaches d g s (k + K) r.name
    steps_more d g s q r rows k K now rest (inl e) = reach_more d g s (k + K) (omega arith) (subst (λ (x : Row d). Reaches d g s k x.name) e now)
    steps_more d g s q r rows k K now rest (inr i) = reach_more d g s (k + K) (omega arith) (rest r i)

pub least_table : (d : Domain) (g : Program d) (laws : IsLawful d g) (before : Order d) (s : Source d) (rows : List (Row d)) → IsFromBelow d g s
    → IsSettled d g s → IsTableOf d g before s rows → IsLeastTable d g before rows
least_table d g laws before s rows low done result =
    let (K, reach) = steps_for_all d g s rows (λ r i. (result.sound r i).0) in (
      low.0 + K,
      λ n h.
          let same : (k : ℕ) (x : NameOf d) → Reaches d g s k x → stage d g n x.pred x.call ≡ s x.pred x.call = settled d g laws s low done n (omega arith) in
          record {
            ordered = result.ordered;
            sound = λ r i. (
              reach_more d g (stage d g n) n (omega arith) (reach_to d g (stage d g n) s same (reach r i)),
              (result.sound r i).1 ∙ sym (same K r.name (reach r i)),
            );
            whole = λ x r. result.whole n x (reach_from d g (stage d g n) s same r);
          },
    )
