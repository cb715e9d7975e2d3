use Rattle.std.proofs.Common.{◌∙◌, sym}
use Rattle.plai_clauses.specs.Exporters.{exporters_in}
use Rattle.plai_clauses.proofs.Exporters.{found_behind, on_ok_at}
use Rattle.plai_clauses.proofs.imports.Imports.push.Goals as goal

pub invariant_of-self-then-is_ok-2 : goal.invariant_of-self-then-is_ok-2
invariant_of-self-then-is_ok-2 c = λ name arity.
    let is = sym c.take-index.ensures.value ∙ c.in-Some.is in
    let had = rw is at c.self.invariant in
    let said = on_ok_at c.note.result (sym c.is_ok.ensures.value ∙ c.if-is_ok.true) c.note.ensures name in
    rw c.in_ok-push.ensures.items
    (found_behind c.self.inside.list.items (exporters_in c.in-Some.index.entries name) (exporters_in c.note.new.index.entries name)
    (c.args.name, c.args.arity, c.args.module) name arity
    (had name arity) (rw (c.in_ok-key.ensures, c.in_ok-from.ensures) at said))
