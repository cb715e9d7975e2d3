use Rattle.std.proofs.Common.{◌≤◌, Ok, sym, ap, ◌∙◌, arith}
use Rattle.std.proofs.lemmas.Result.{err_from_is_err_and, IfOk-weaker}
use Rattle.std.proofs.lemmas.List.Elements.{All-same}
use Rattle.plai_clauses.specs.Program.{ProgramView, items_of}
use Rattle.plai_sources.specs.WellFormed.{AreWellFormedItems}
use Rattle.plai_modules.specs.Loading.{counted_in}
use Rattle.plai_modules.proofs.Passes.{texts_of, load_fails, load_links}
use Rattle.plai_modules.proofs.loading.load.Goals as goal

pub returns-in_err-read-clause-answer : goal.returns-in_err-read-clause-answer
returns-in_err-read-clause-answer c =
    let p = err_from_is_err_and c.from_residual.result c.from_residual.ensures.1 in
    rw (p.1, p.2) (load_fails (texts_of c.args.files.now) c.in_err-read.field-0.0 c.in_err-read.ensures.answer)

pub program_of-requires-clause-items : goal.program_of-requires-clause-items
program_of-requires-clause-items c = All-same AreWellFormedItems c.into_vec.result.items c.in_ok-read.read c.into_vec.ensures c.in_ok-read.ensures.well_formed

pub returns-clause-answer : goal.returns-clause-answer
returns-clause-answer c =
    load_links (texts_of c.args.files.now) c.into_vec.result.items c.program_of.result (c.in_ok-read.ensures.answer ∙ ap Ok (sym c.into_vec.ensures))
    c.program_of.ensures.answer

pub returns-clause-few : goal.returns-clause-few
returns-clause-few c =
    let read = c.in_ok-read.ensures.few in
    let same = ap counted_in c.into_vec.ensures in
    IfOk-weaker c.program_of.result (λ (p : ProgramView). items_of p ≤ counted_in c.into_vec.result.items) (λ (p : ProgramView). items_of p ≤ 65536)
    (λ p h. omega (arith, h, same, read)) c.program_of.ensures.few
