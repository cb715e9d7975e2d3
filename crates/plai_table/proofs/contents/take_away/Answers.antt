use Rattle.std.proofs.Common.{◌≡◌, Some}
use Rattle.plai_table.proofs.RowLemmas.{taken_away, there_is}
use Rattle.plai_table.proofs.contents.take_away.Goals as goal

pub returns-clause-rows : goal.returns-clause-rows
returns-clause-rows g c r h =
    let is : c.swap_remove_index.result ≡ Some c.unwrap-contents.result = cc in
    (taken_away c.args.rows.now.entries _ c.args.row _ _ is c.swap_remove_index.ensures.entry c.swap_remove_index.ensures.entries r h).0

pub returns-clause-was : goal.returns-clause-was
returns-clause-was g c r h =
    let is : c.swap_remove_index.result ≡ Some c.unwrap-contents.result = cc in
    (taken_away c.args.rows.now.entries _ c.args.row _ _ is c.swap_remove_index.ensures.entry c.swap_remove_index.ensures.entries r h).1

pub returns-clause-there : goal.returns-clause-there
returns-clause-there g c =
    let is : c.swap_remove_index.result ≡ Some c.unwrap-contents.result = cc in
    there_is c.args.rows.now.entries c.args.row _ _ is c.swap_remove_index.ensures.entry
