use Rattle.std.proofs.Common.{refl}
use Rattle.plai_words.proofs.Ends.{chosen_is, nothing_chosen, agree, differ, three_or_given}
use Rattle.plai_words.proofs.read.complete.Goals as goal

pub returns-then-is_some-is_empty : goal.returns-then-is_some-is_empty
returns-then-is_some-is_empty c = record {
  settings = (
    refl,
    nothing_chosen c.args.domain c.args.depth c.args.rows c.args.make c.args.files.items
        (differ c.args.make c.args.files.items c.is_some.result c.is_empty.result c.is_some.ensures
        (rw c.as_slice.ensures.value at c.is_empty.ensures) c.if-is_some-is_empty.true),
  );
  depth = tt;
  make = tt;
}

pub returns : goal.returns
returns c = record {
  settings =
      rw (c.unwrap_or.ensures, c.unwrap_or-2.ensures, c.from.ensures, c.unwrap_or-3.ensures, c.new.ensures)
      (chosen_is c.args.domain c.args.depth c.args.rows c.args.make c.args.files.items
      (agree c.args.make c.args.files.items c.is_some.result c.is_empty.result c.is_some.ensures
      (rw c.as_slice.ensures.value at c.is_empty.ensures) c.if-is_some-is_empty.false));
  depth = rw c.unwrap_or-2.ensures (three_or_given c.args.depth c.requires.depth);
  make = c.requires.make;
}
