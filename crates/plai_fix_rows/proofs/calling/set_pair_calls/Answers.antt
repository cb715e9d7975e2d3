use Rattle.std.proofs.Common.{nat_eq}
use Rattle.std.specs.List.{list_any}
use Rattle.plai_arcs.specs.Arcs.{is_dirty, is_call}
use Rattle.plai_eval.specs.Meaning.{as_domain}
use Rattle.plai_fix_rows.specs.Tables.{kept_rows}
use Rattle.plai_fix_rows.proofs.Parts.{ok_more, sets_from}
use Rattle.plai_fix_rows.proofs.calling.set_pair_calls.Goals as goal

pub returns : goal.returns
returns g c =
    let p = g.D.Domain.plain c.args._domain.now in
    ok_more _ _ c.set_calls.result c.set_calls.ensures.ok
    (λ set. sets_from (as_domain p) (kept_rows g.D.Domain.value_of p c.args._table.now.rows) (is_dirty c.args.arcs.now) (is_dirty c.set_calls.new.self)
    (is_call c.args.arcs.now) (is_call c.set_calls.new.self)
    c.args.row c.args.number (λ j. list_any (nat_eq j) c.args.rows.now) c.requires set c.set_calls.ensures.dirty)
