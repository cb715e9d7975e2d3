use Rattle.std.proofs.Common.{◌≡◌, ◌+◌, length, drop}
use Rattle.plai_modules.specs.Loading.{linked_from, program_of}
use Rattle.plai_modules.proofs.link.program_of.Given as goal

-- the files so far are linked
abbrev pub invariant-loop-file : goal.invariant-loop-file
invariant-loop-file l = record {
  can : (goal.iterator-loop-file).can_next l.file-iterator;
  finite : (goal.iterator-loop-file).is_finite l.file-iterator;
  number : l.number ≡ length l.yielded;
  program : program_of l.fn.files.items ≡ linked_from l.fn.files.items (length l.yielded + 1) l.program (drop (length l.yielded) l.fn.files.items);
}
