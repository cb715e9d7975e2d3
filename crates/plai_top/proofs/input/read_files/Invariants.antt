use Rattle.std.proofs.Common.{◌≡◌, ◌≤◌, take}
use Rattle.plai_top.proofs.Reading.{AreRead}
use Rattle.plai_top.proofs.input.read_files.Given as goal

-- the files so far are read, and the library tells what it told
abbrev pub invariant-loop-name : goal.invariant-loop-name
invariant-loop-name g l = record {
  read : AreRead (take l.name-index l.names) (g.B.Library.files l.initial.library) l.files.items;
  same : g.B.Library.files l.library ≡ g.B.Library.files l.initial.library;
  later : g.B.Library.faults l.initial.library ≤ g.B.Library.faults l.library;
}
