use Rattle.std.proofs.Common.{◌≡◌, [], arith}
use Rattle.std.proofs.lemmas.Grind.{common_steps}
use Rattle.plai_terms.proofs.Pieces.{writes_on, fewer_left, writing_starts, writing_ends}
use Rattle.plai_terms.proofs.print.write_term.Goals as goal

pub loop-piece-init : goal.loop-piece-init
loop-piece-init c = writing_starts _ _ _ c.in_ok-waiting.ensures.items

pub loop-piece-smaller : goal.loop-piece-smaller
loop-piece-smaller c = fewer_left _ _ _ _ c.in-Some.ensures.items c.in_ok-write_piece.ensures.waiting

pub loop-piece-preserved : goal.loop-piece-preserved
loop-piece-preserved c =
    writes_on _ _ _ _ c.write_piece.new.waiting.items _ _ c.in-Some.ensures.items c.in_ok-write_piece.ensures.written c.in_ok-write_piece.ensures.waiting
    c.loop-piece.invariant

pub returns : goal.returns
returns c =
    let cases = c.in_default.ensures.cases in
    let empty : c.loop-piece.waiting.items ≡ [] = grind (arith, common_steps, cases, c.in_default.ensures.items) in
    writing_ends _ _ _ empty c.loop-piece.invariant
