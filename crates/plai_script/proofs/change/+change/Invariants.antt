use Rattle.std.proofs.Common.{◌≡◌, drop}
use Rattle.plai_script.specs.Edits.{edited_by}
use Rattle.plai_script.specs.Touching.{Touches}
use Rattle.plai_script.proofs.change.+change.Given as goal

abbrev pub invariant-change_all-loop-edit : goal.invariant-change_all-loop-edit
invariant-change_all-loop-edit l =
    (edited_by l.program (drop l.edit-index l.edits) ≡ edited_by l.initial.program l.edits)
    × Touches l.initial.touched.keys l.touched.keys l.initial.program l.program
