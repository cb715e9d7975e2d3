use Rattle.std.proofs.Common.{sym, subst, ap, ◌∙◌, refl, arith, add-zero}
use Rattle.std.proofs.lemmas.Result.{err_from_is_err_and}
use Rattle.plai_sources.specs.Items.{begun, items_of_tokens, items_of}
use Rattle.plai_sources.specs.WellFormed.{IsGood}
use Rattle.plai_sources.proofs.Terms.{taken, sizes, goes_on, stops, finishes-formed, finishes-counted, good_next}
use Rattle.plai_sources.proofs.text.read_items.Goals as goal

pub loop-reading-init : goal.loop-reading-init
unfolding items_of
loop-reading-init c =
    let few = c.new-lexer.ensures.few in
    record {
      same = ap (λ r. items_of_tokens r 1 c.new-lexer.result) c.in_ok-reading.ensures ∙ ap (items_of_tokens (begun c.args.there) 1) c.new-lexer.ensures.tokens;
      good = subst (IsGood c.args.there) (sym c.in_ok-reading.ensures) (record { items = refl; count = sym (add-zero c.args.there); few = λ h. h });
      from = omega arith;
      room = omega arith;
    }

pub add_tokens-next-requires-clause-few : goal.add_tokens-next-requires-clause-few
add_tokens-next-requires-clause-few c =
    let (whole, left) = taken c.loop-reading.lexer c.next_term.new.lexer c.next_term.result c.in_ok-tokens.field-0 c.in-Some.tokens c.as_slice.result.now
    c.next_term.ensures.takes c.in_ok-tokens.ensures c.in-Some.is c.as_slice.ensures.value in
    let (some, sum) = sizes c.loop-reading.lexer c.next_term.new.lexer c.as_slice.result.now whole left in
    let from = c.loop-reading.invariant.from in
    let room = c.loop-reading.invariant.room in
    omega arith

pub returns-in_err-reading-2-clause-answer : goal.returns-in_err-reading-2-clause-answer
returns-in_err-reading-2-clause-answer c =
    let (whole, left) = taken c.loop-reading.lexer c.next_term.new.lexer c.next_term.result c.in_ok-tokens.field-0 c.in-Some.tokens c.as_slice.result.now
    c.next_term.ensures.takes c.in_ok-tokens.ensures c.in-Some.is c.as_slice.ensures.value in
    stops c.loop-reading.reading c.loop-reading.number c.as_slice.result.now c.loop-reading.lexer c.next_term.new.lexer (items_of c.args.text.now c.args.there)
    c.add_tokens-next.result c.in_err-reading-2.field-0.0 c.from_residual-in_err-reading-2.result c.loop-reading.invariant.same whole left
    c.add_tokens-next.ensures.tokens c.in_err-reading-2.ensures
    (err_from_is_err_and c.from_residual-in_err-reading-2.result c.from_residual-in_err-reading-2.ensures.1)

pub loop-reading-preserved : goal.loop-reading-preserved
loop-reading-preserved c =
    let (whole, left) = taken c.loop-reading.lexer c.next_term.new.lexer c.next_term.result c.in_ok-tokens.field-0 c.in-Some.tokens c.as_slice.result.now
    c.next_term.ensures.takes c.in_ok-tokens.ensures c.in-Some.is c.as_slice.ensures.value in
    let (some, sum) = sizes c.loop-reading.lexer c.next_term.new.lexer c.as_slice.result.now whole left in
    let from = c.loop-reading.invariant.from in
    let room = c.loop-reading.invariant.room in
    record {
      same = goes_on c.loop-reading.reading c.loop-reading.number c.as_slice.result.now c.loop-reading.lexer c.next_term.new.lexer
          (items_of c.args.text.now c.args.there)
          c.add_tokens-next.result c.in_ok-reading-2.reading c.loop-reading.invariant.same whole left c.add_tokens-next.ensures.tokens
          c.in_ok-reading-2.ensures;
      good = good_next c.args.there c.add_tokens-next.result c.in_ok-reading-2.reading
          (c.add_tokens-next.ensures.good c.args.there c.loop-reading.invariant.good) c.in_ok-reading-2.ensures;
      from = omega arith;
      room = omega arith;
    }

pub returns-clause-well_formed : goal.returns-clause-well_formed
returns-clause-well_formed c = finishes-formed c.args.there c.loop-reading.reading c.finish.result c.loop-reading.invariant.good c.finish.ensures

pub returns-clause-counted : goal.returns-clause-counted
returns-clause-counted c = finishes-counted c.args.there c.loop-reading.reading c.finish.result c.loop-reading.invariant.good c.finish.ensures
