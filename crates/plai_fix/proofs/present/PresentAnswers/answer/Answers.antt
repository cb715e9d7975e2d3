use Rattle.std.proofs.Common.{◌≡◌, None, Some, position, sym, ap, ◌∙◌, rules}
use Rattle.std.specs.Option.{option_map}
use Rattle.plai_table.specs.Rows.{names_of}
use Rattle.plai_fix.proofs.Evaluated.{copied_map}
use Rattle.plai_fix_rows.proofs.Keys.{same_key, found, absent}
use Rattle.plai_fix.proofs.present.PresentAnswers.answer.Goals as goal

pub returns : goal.returns
returns g c =
    let value_of = g.D.Domain.value_of in
    let rows = c.args.self.now.table.now.rows in
    let at : position (same_key _ value_of g.D.Value.PartialEq.eq g.met.D.Domain.equal c.args.name.now) (names_of rows) ≡ Some c.in_ok-row.row =
    sym c.in_ok-row.ensures in
    copied_map value_of c.row.result.answer ∙ found _ value_of g.D.Value.PartialEq.eq g.met.D.Domain.equal (g.D.Domain.plain c.args.self.now.domain.now)
    c.args.name.now rows c.in_ok-row.row _ at c.row.ensures

pub returns-in_err-row : goal.returns-in_err-row
returns-in_err-row g c =
    let value_of = g.D.Domain.value_of in
    let rows = c.args.self.now.table.now.rows in
    let none : position (same_key _ value_of g.D.Value.PartialEq.eq g.met.D.Domain.equal c.args.name.now) (names_of rows) ≡ None = sym c.in_err-row.ensures in
    let e : c.from_residual.result ≡ None = search rules in
    ap (option_map (λ b. value_of b.now)) e ∙ sym
    (absent _ value_of g.D.Value.PartialEq.eq g.met.D.Domain.equal (g.D.Domain.plain c.args.self.now.domain.now) c.args.name.now rows none)
