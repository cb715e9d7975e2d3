use Rattle.std.proofs.Common.{inl, inr, refl, rules}
use Rattle.plai_base.proofs.memory_streams.MemorySinkSink.write.Goals as goal
use Rattle.plai_base.proofs.memory_streams.MemorySinkSink.write.Goals.{then-count-self-via-then-count-self, then-count-self-via-else-count-self+then-contains}

pub returns-then-count-self-clause-fails : goal.returns-then-count-self-clause-fails
returns-then-count-self-clause-fails c = (
  λ _. elim c.then-count-self.branch [
    | then-count-self-via-then-count-self w ↦ inl (search rules)
    | then-count-self-via-else-count-self+then-contains w ↦ inr (search rules)
  ],
  λ _. refl,
)
