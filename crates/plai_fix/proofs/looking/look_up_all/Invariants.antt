use Rattle.std.proofs.Common.{map}
use Rattle.plai_eval.specs.Meaning.{as_domain}
use Rattle.plai_fix_rows.specs.Tables.{key_name, kept_rows}
use Rattle.plai_fix_laws.specs.LookUps.{Looks}
use Rattle.plai_fix.proofs.looking.look_up_all.Given as goal

-- the names so far are looked up
abbrev pub invariant-loop-name : goal.invariant-loop-name
invariant-loop-name g l =
    let value_of = g.D.Domain.value_of in
    let p = g.D.Domain.plain l.domain in
    record {
      can : (goal.iterator-loop-name g).can_next l.name-iterator;
      finite : (goal.iterator-loop-name g).is_finite l.name-iterator;
      looks : Looks (as_domain p) (kept_rows value_of p l.table.rows) (map (key_name value_of) l.yielded) l.rows.items
          (map (key_name value_of) l.missing.items);
    }
