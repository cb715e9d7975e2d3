use Rattle.std.proofs.Common.{◌≡◌, take}
use Rattle.plai_script.proofs.edit.Edit.+copy.Given as goal

abbrev pub invariant-copy_all-loop-edit : goal.invariant-copy_all-loop-edit
invariant-copy_all-loop-edit l = l.copies.items ≡ take l.edit-index l.edits
