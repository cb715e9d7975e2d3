-- Names that lie at or below what some stage reaches.
use Rattle.std.proofs.Common.{ℕ, zero, suc, ◌+◌, ◌≤◌, arith}
use Rattle.plai_theory.specs.Words.{IsIn, UpTo}
use Rattle.plai_theory.specs.Domain.{Domain, Program, IsLawful}
use Rattle.plai_theory.specs.Evaluation.{Source, NameOf, name_of, answer_of, calls_of}
use Rattle.plai_theory.specs.Stages.{stage, Reaches, AtEntry, ByCall, IsFromBelow}
use Rattle.plai_theory.proofs.Eval.{called_le}
use Rattle.plai_theory.proofs.Stages.{trans_at, stage_le, below_next, reach_below}
use Rattle.plai_theory.proofs.Least.{IsReached, reached_calls}

-- The name lies at or below one that some stage reaches.
pub record IsNear (d : Domain) (g : Program d) (x : NameOf d) : Type 0 where
  pub number : ℕ
  pub steps : ℕ
  pub above : d.Value
  pub reached : Reaches d g (stage d g number) steps (name_of d x.pred above)
  pub le : d.leq x.pred x.call above

module _ (d : Domain) (g : Program d) (laws : IsLawful d g) where
  pub near_value : (x : NameOf d) → IsNear d g x → d.leq x.pred x.call x.call
  near_value x near = laws.left near.le

  pub near_entry : (x : NameOf d) → IsIn x g.entries → IsNear d g x
  near_entry x i = record { number = zero; steps = zero; above = x.call; reached = AtEntry i; le = laws.entries x.pred x.call i }

  -- a source from below meets each later stage
  pub below_stage : (s : Source d) (low : IsFromBelow d g s) (n : ℕ) → low.0 ≤ n → (p : d.Pred) (v w : d.Value) → d.leq p v w
      → UpTo (d.leq p) (s p v) (stage d g n p w)
  below_stage s low n h p v w le =
      trans_at d g laws p (s p v) (stage d g low.0 p v) (stage d g n p w) (low.1 p v (laws.left le)) (stage_le d g laws low.0 n h p v w le)

  pub near_call : (s : Source d) → IsFromBelow d g s → (m : NameOf d) → IsNear d g m → (c : d.Clause) → IsIn c (g.clauses m.pred) → (y : NameOf d)
      → IsIn y (calls_of d s c m.call) → IsNear d g y
  near_call s low m near c i y j =
      let n : ℕ = near.number + low.0 in
      let (w, (k, r), le) = reach_below d g laws (stage d g near.number) (stage d g n) (IsReached d g (stage d g n)) (reached_calls d g (stage d g n))
      (λ p v i. (zero, AtEntry i))
      (λ p v w i le. stage_le d g laws near.number n (omega arith) p v w le) near.reached in
      let (z, there, zle) = called_le d g laws s (stage d g n) m.pred c i m.call w (laws.trans near.le le)
      (λ q u z l k le. below_stage s low n (omega arith) q u z le) y.pred y.call j in
      record { number = n; steps = suc k; above = z; reached = ByCall (name_of d m.pred w) c r i there; le = zle }

  -- an evaluation under a source from below lies at or below the next stage
  pub answer_low : (s : Source d) (low : IsFromBelow d g s) (x : NameOf d) → d.leq x.pred x.call x.call → (c : d.Clause) → IsIn c (g.clauses x.pred)
      → UpTo (d.leq x.pred) (answer_of d s c x.call) (stage d g (suc low.0) x.pred x.call)
  answer_low s low x value c i = below_next d g laws s low.0 low.1 x.pred x.call value c i

  -- what an earlier stage reaches lies at or below what a later one reaches in as many steps
  pub reach_stage : (n m : ℕ) → n ≤ m → {k : ℕ} {x : NameOf d} → Reaches d g (stage d g n) k x
      → (w : d.Value) × Reaches d g (stage d g m) k (name_of d x.pred w) × d.leq x.pred x.call w
  reach_stage n m h (AtEntry {x = x} i) = (x.call, AtEntry i, laws.entries x.pred x.call i)
  reach_stage n m h (ByCall {x = x} y c r i j) =
      let (w, there, le) = reach_stage n m h r in
      let (z, k, zle) = called_le d g laws (stage d g n) (stage d g m) y.pred c i y.call w le (λ q a b l t able. stage_le d g laws n m h q a b able)
      x.pred x.call j in
      (z, ByCall (name_of d y.pred w) c there i k, zle)
