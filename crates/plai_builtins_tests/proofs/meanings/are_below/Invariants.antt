use Rattle.std.proofs.Common.{drop}
use Rattle.plai_terms.specs.Substitution.{AreBelow}
use Rattle.plai_builtins_tests.proofs.meanings.are_below.Given as goal

-- where the terms that are left are below, all are
abbrev pub invariant-loop-term : goal.invariant-loop-term
invariant-loop-term l = AreBelow l.limit (drop l.term-index l.terms) → AreBelow l.limit l.terms
