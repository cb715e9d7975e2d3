use Rattle.std.proofs.Common.{subst, sym, rules}
use Rattle.plai_reader.specs.States.{state_of}
use Rattle.plai_reader.proofs.Passing.{Passes, passes_start, passes_next}
use Rattle.plai_reader.proofs.read.read.Goals as goal

pub loop-token-init : goal.loop-token-init
loop-token-init c =
    subst (Passes c.args.ops.now c.args.tokens.now c.args.tokens.now) (sym c.begin_reader-reader.ensures)
    (passes_start c.args.ops.now c.args.tokens.now c.requires.written)

pub loop-token-preserved : goal.loop-token-preserved
loop-token-preserved c =
    passes_next c.args.ops.now c.args.tokens.now (state_of c.loop-token.reader) (state_of c.in_ok-reader.reader) c.in-Some.token.now c.in-Some.after.now
    (subst (λ rest. Passes c.args.ops.now c.args.tokens.now rest (state_of c.loop-token.reader)) c.in-Some.ensures.cases.0 c.loop-token.invariant)
    (search rules) c.in_ok-reader.ensures
