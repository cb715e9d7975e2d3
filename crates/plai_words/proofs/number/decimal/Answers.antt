use Rattle.std.proofs.Common.{arith, get_or, sym, ◌∙◌}
use Rattle.plai_words.proofs.Digits.{digit_at, digit_range, short_parts, room, decimal_more, decimal_all}
use Rattle.plai_words.proofs.number.decimal.Goals as goal

pub overflow_mul-value : goal.overflow_mul-value
overflow_mul-value c =
    let parts = short_parts c.args.text.now c.requires in
    let space = room c.loop-byte.value c.loop-byte.byte-index _ c.loop-byte.invariant.bound c.loop-byte-test.true parts.0 in
    omega (arith, space.1)

pub overflow_sub-byte : goal.overflow_sub-byte
overflow_sub-byte c =
    let parts = short_parts c.args.text.now c.requires in
    (digit_range (get_or c.args.text.now c.loop-byte.byte-index 0) (digit_at c.args.text.now c.loop-byte.byte-index parts.1 c.loop-byte-test.true)).0

pub overflow_add-value : goal.overflow_add-value
overflow_add-value c =
    let parts = short_parts c.args.text.now c.requires in
    let space = room c.loop-byte.value c.loop-byte.byte-index _ c.loop-byte.invariant.bound c.loop-byte-test.true parts.0 in
    let range = digit_range (get_or c.args.text.now c.loop-byte.byte-index 0) (digit_at c.args.text.now c.loop-byte.byte-index parts.1 c.loop-byte-test.true) in
    omega (arith, space.1, range.0, range.1, c.from.ensures)

pub loop-byte-preserved : goal.loop-byte-preserved
loop-byte-preserved c =
    let parts = short_parts c.args.text.now c.requires in
    let space = room c.loop-byte.value c.loop-byte.byte-index _ c.loop-byte.invariant.bound c.loop-byte-test.true parts.0 in
    let range = digit_range (get_or c.args.text.now c.loop-byte.byte-index 0) (digit_at c.args.text.now c.loop-byte.byte-index parts.1 c.loop-byte-test.true) in
    record {
      same = rw c.from.ensures (sym (decimal_more c.loop-byte.value c.args.text.now c.loop-byte.byte-index c.loop-byte-test.true) ∙ c.loop-byte.invariant.same);
      bound = omega (arith, space.0, range.0, range.1, c.from.ensures);
    }

pub returns : goal.returns
returns c =
    sym (decimal_all c.loop-byte.value c.args.text.now c.loop-byte.byte-index c.loop-byte-test.false) ∙ c.loop-byte.invariant.same
