-- Stages: the answers of a program, iterated from nothing; and the calls that are reached from its entries.
use Rattle.std.specs.Prelude.{ℕ, zero, suc, None}
use Rattle.plai_theory.specs.Words.{IsIn, UpTo}
use Rattle.plai_theory.specs.Domain.{Domain, Program}
use Rattle.plai_theory.specs.Evaluation.{Source, NameOf, answer_of, calls_of, best_of}

-- each stage joins the evaluations of a predicate's clauses under the stage before
unfoldable pub stage : (d : Domain) → Program d → ℕ → Source d
stage d g zero p v = None
stage d g (suc n) p v = best_of d (stage d g n) (g.clauses p) v

-- the names that at most n call steps reach from the entries, under a source
pub data Reaches (d : Domain) (g : Program d) (s : Source d) : ℕ → NameOf d → Type 0 where
  AtEntry : {n : ℕ} {x : NameOf d} → IsIn x g.entries → Reaches d g s n x
  ByCall : {n : ℕ} {x : NameOf d} (m : NameOf d) (c : d.Clause) → Reaches d g s n m → IsIn c (g.clauses m.pred)
      → IsIn x (calls_of d s c m.call) → Reaches d g s (suc n) x

-- some stage lies at or above the source, at each value
abbrev pub IsFromBelow : (d : Domain) → Program d → Source d → Type 0
IsFromBelow d g s = (N : ℕ) × ((p : d.Pred) (v : d.Value) → d.leq p v v → UpTo (d.leq p) (s p v) (stage d g N p v))

-- at the names that are reached under the source, no evaluation gives more than the source has
abbrev pub IsSettled : (d : Domain) → Program d → Source d → Type 0
IsSettled d g s =
    (k : ℕ) (x : NameOf d) → Reaches d g s k x → (c : d.Clause) → IsIn c (g.clauses x.pred)
    → UpTo (d.leq x.pred) (answer_of d s c x.call) (s x.pred x.call)
