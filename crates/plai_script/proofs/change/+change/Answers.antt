use Rattle.std.proofs.Common.{rules}
use Rattle.plai_script.specs.declared.edit.Edit.{the_lemmas}
use Rattle.plai_script.proofs.Changed.{leaves-Add, leaves-Entry, leaves-Check, leaves-All, readable-Add, readable-All}
use Rattle.plai_script.proofs.change.+change.Goals as goal

pub change-add_clause-requires : goal.change-add_clause-requires
change-add_clause-requires t c = record { readable = readable-Add c.args.edit.now c.in-Add.module c.in-Add.clause c.in-Add.is c.requires.readable }

pub change-returns-in-Add-clause-leaves : goal.change-returns-in-Add-clause-leaves
change-returns-in-Add-clause-leaves t c =
    leaves-Add c.args.program.now c.add_clause.new.program c.args.edit.now c.add_clause.result c.in-Add.module c.in-Add.clause c.in-Add.is
    c.add_clause.ensures.leaves

pub change-returns-in-Entry-clause-leaves : goal.change-returns-in-Entry-clause-leaves
change-returns-in-Entry-clause-leaves t c =
    leaves-Entry c.args.program.now c.add_entry.new.program c.args.edit.now c.add_entry.result c.in-Entry.module c.in-Entry.entry c.in-Entry.is
    c.add_entry.ensures.leaves

pub change-returns-in-Check-clause-leaves : goal.change-returns-in-Check-clause-leaves
change-returns-in-Check-clause-leaves t c =
    leaves-Check c.args.program.now c.add_check.new.program c.args.edit.now c.add_check.result c.in-Check.module c.in-Check.check c.in-Check.is
    c.add_check.ensures.leaves

pub change-change_all-requires : goal.change-change_all-requires
change-change_all-requires t c = (
  search (rules, the_lemmas),
  readable-All c.args.edit.now c.in-All.edits c.as_slice.result.now c.in-All.is c.as_slice.ensures c.requires.readable,
)

pub change-returns-in-All-clause-leaves : goal.change-returns-in-All-clause-leaves
change-returns-in-All-clause-leaves t c =
    leaves-All c.args.program.now c.change_all.new.program c.args.edit.now c.change_all.result c.in-All.edits c.as_slice.result.now c.in-All.is
    c.as_slice.ensures c.change_all.ensures.leaves
