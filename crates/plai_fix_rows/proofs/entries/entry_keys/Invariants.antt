use Rattle.std.proofs.Common.{◌≡◌, map, take}
use Rattle.plai_fix_rows.specs.Tables.{key_name}
use Rattle.plai_fix_rows.proofs.EntryKeys.{entry_pair}
use Rattle.plai_fix_rows.proofs.entries.entry_keys.Given as goal

-- the names of the entries so far
abbrev pub invariant-loop-entry : goal.invariant-loop-entry
invariant-loop-entry g l =
    map (key_name g.D.Domain.value_of) l.keys.items ≡ map (entry_pair (g.D.Domain.plain l.task.domain.now)) (take l.entry-index l.entry-items)
