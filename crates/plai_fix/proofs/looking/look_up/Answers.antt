use Rattle.std.proofs.Common.{◌≡◌, Some, None, position, sym}
use Rattle.plai_table.specs.Rows.{names_of}
use Rattle.plai_eval.specs.Meaning.{as_domain}
use Rattle.plai_fix_rows.specs.Tables.{key_name, kept_rows}
use Rattle.plai_fix_rows.proofs.Keys.{same_key, found_named, absent_named}
use Rattle.plai_fix_laws.proofs.LookedUp.{found_one, missed_one}
use Rattle.plai_fix.proofs.looking.look_up.Goals as goal

pub returns-in_ok-push-in-Some : goal.returns-in_ok-push-in-Some
returns-in_ok-push-in-Some g c =
    let value_of = g.D.Domain.value_of in
    let p = g.D.Domain.plain c.args._domain.now in
    let rows = c.args.table.now.rows in
    let at : position (same_key _ value_of g.D.Value.PartialEq.eq g.met.D.Domain.equal c.args.name) (names_of rows) ≡ Some c.in-Some.row =
    sym c.in-Some.ensures in
    λ names looks.
    found_one (as_domain p) (kept_rows value_of p rows) (key_name value_of c.args.name) c.in-Some.row names _ _ _ c.in_ok-push-in-Some.ensures.items
    (found_named _ value_of g.D.Value.PartialEq.eq g.met.D.Domain.equal p c.args.name rows c.in-Some.row at) looks

pub returns-in_ok-push-in-None : goal.returns-in_ok-push-in-None
returns-in_ok-push-in-None g c =
    let value_of = g.D.Domain.value_of in
    let p = g.D.Domain.plain c.args._domain.now in
    let rows = c.args.table.now.rows in
    let none : position (same_key _ value_of g.D.Value.PartialEq.eq g.met.D.Domain.equal c.args.name) (names_of rows) ≡ None = sym c.in-None.ensures in
    λ names looks.
    missed_one (as_domain p) (kept_rows value_of p rows) (key_name value_of) c.args.name names _ _ _ c.in_ok-push-in-None.ensures.items
    (absent_named _ value_of g.D.Value.PartialEq.eq g.met.D.Domain.equal p c.args.name rows none) looks
