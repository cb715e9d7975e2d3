use Rattle.std.proofs.Common.{◌≡◌, ◌++◌, ◌∷◌, [], true, false, Some, None, position, sym, ap, ◌∙◌, subst}
use Rattle.plai_table.specs.Rows.{names_of}
use Rattle.plai_eval.specs.Meaning.{as_domain}
use Rattle.plai_fix_laws.specs.WorkStates.{is_live}
use Rattle.plai_fix_rows.specs.Tables.{key_name, kept_rows}
use Rattle.plai_fix_rows.specs.Marks.{AreMarkedAs}
use Rattle.plai_fix_rows.proofs.Keys.{same_key, found_named, absent_named}
use Rattle.plai_fix_rows.proofs.EntryMarks.{entry_kept, marked_more, marked_none}
use Rattle.plai_fix_rows.proofs.TableRows.{live_of}
use Rattle.plai_fix_rows.proofs.entries.mark_entry.Goals as goal

pub returns-in-Some-clause-same : goal.returns-in-Some-clause-same
returns-in-Some-clause-same g c =
    let p = g.D.Domain.plain c.args._domain.now in
    let value_of = g.D.Domain.value_of in
    ap (kept_rows value_of p) c.set_entry.ensures.rows ∙ entry_kept _ value_of p c.args.table.now.rows c.in-Some.row true

pub returns-in-Some-clause-marked : goal.returns-in-Some-clause-marked
returns-in-Some-clause-marked g c =
    let p = g.D.Domain.plain c.args._domain.now in
    let value_of = g.D.Domain.value_of in
    let rows = c.args.table.now.rows in
    let at : position (same_key _ value_of g.D.Value.PartialEq.eq g.met.D.Domain.equal c.args.key.now)
    (names_of rows) ≡ Some c.in-Some.row = sym c.in-Some.ensures in
    λ names marked.
    subst (AreMarkedAs value_of (names ++ key_name value_of c.args.key.now ∷ [])) (sym c.set_entry.ensures.rows)
    (marked_more _ value_of p rows names (key_name value_of c.args.key.now) marked c.in-Some.row
    (found_named _ value_of g.D.Value.PartialEq.eq g.met.D.Domain.equal p c.args.key.now rows c.in-Some.row at) c.requires)

pub returns-in-Some-clause-found : goal.returns-in-Some-clause-found
returns-in-Some-clause-found g c =
    let p = g.D.Domain.plain c.args._domain.now in
    let value_of = g.D.Domain.value_of in
    let rows = c.args.table.now.rows in
    let at : position (same_key _ value_of g.D.Value.PartialEq.eq g.met.D.Domain.equal c.args.key.now)
    (names_of rows) ≡ Some c.in-Some.row = sym c.in-Some.ensures in
    λ e. (
      c.in-Some.row,
      found_named _ value_of g.D.Value.PartialEq.eq g.met.D.Domain.equal p c.args.key.now rows c.in-Some.row at,
      live_of _ value_of p rows c.in-Some.row _ c.row-live.ensures ∙ e,
    )

pub returns-in-Some-clause-absent : goal.returns-in-Some-clause-absent
returns-in-Some-clause-absent g c =
    let p = g.D.Domain.plain c.args._domain.now in
    let value_of = g.D.Domain.value_of in
    let rows = c.args.table.now.rows in
    let at : position (same_key _ value_of g.D.Value.PartialEq.eq g.met.D.Domain.equal c.args.key.now)
    (names_of rows) ≡ Some c.in-Some.row = sym c.in-Some.ensures in
    λ e has.
    let (j, named, live) = has in
    let same : j ≡ c.in-Some.row = c.requires j c.in-Some.row (key_name value_of c.args.key.now) named
    (found_named _ value_of g.D.Value.PartialEq.eq g.met.D.Domain.equal p c.args.key.now rows c.in-Some.row at) in
    let l : true ≡ false = sym live ∙ ap (is_live (as_domain p) (kept_rows value_of p rows)) same
    ∙ live_of _ value_of p rows c.in-Some.row _ c.row-live.ensures ∙ e in
    cc

pub returns-in-None-clause-marked : goal.returns-in-None-clause-marked
returns-in-None-clause-marked g c =
    let p = g.D.Domain.plain c.args._domain.now in
    let value_of = g.D.Domain.value_of in
    let rows = c.args.table.now.rows in
    let none : position (same_key _ value_of g.D.Value.PartialEq.eq g.met.D.Domain.equal c.args.key.now) (names_of rows) ≡ None = sym c.in-None.ensures in
    λ names marked.
    marked_none _ value_of p rows names (key_name value_of c.args.key.now) marked (absent_named _ value_of g.D.Value.PartialEq.eq g.met.D.Domain.equal p
    c.args.key.now rows none)

pub returns-in-None-clause-absent : goal.returns-in-None-clause-absent
returns-in-None-clause-absent g c =
    let p = g.D.Domain.plain c.args._domain.now in
    let value_of = g.D.Domain.value_of in
    let rows = c.args.table.now.rows in
    let none : position (same_key _ value_of g.D.Value.PartialEq.eq g.met.D.Domain.equal c.args.key.now) (names_of rows) ≡ None = sym c.in-None.ensures in
    λ e has. absent_named _ value_of g.D.Value.PartialEq.eq g.met.D.Domain.equal p c.args.key.now rows none has.0 has.1
