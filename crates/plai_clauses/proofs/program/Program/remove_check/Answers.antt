use Rattle.std.proofs.Common.{◌≡◌, ◌<◌, ◌≤◌, ◌∙◌, ap, length, arith, rules}
use Rattle.std.proofs.lemmas.List.{length-map}
use Rattle.plai_clauses.specs.Program.{ProgramView, place_of, many_of, homes_of_checks}
use Rattle.plai_clauses.proofs.Invariant.{fewer_checks}
use Rattle.plai_clauses.proofs.Changes.{place_within}
use Rattle.plai_clauses.specs.Keyed.{definitions_in}
use Rattle.plai_clauses.proofs.program.Program.remove_check.Goals as goal

pub remove-requires : goal.remove-requires
remove-requires c =
    let there : c.args.number ≤ many_of c.args.module.now (homes_of_checks c.self.inside.checks.items) =
    rw (ap (λ (p : ProgramView). p.checks) c.self.view_is) c.requires.there in
    let r : place_of c.args.module.now c.args.number (homes_of_checks c.self.inside.checks.items) < length (homes_of_checks c.self.inside.checks.items) =
    place_within c.args.module.now (homes_of_checks c.self.inside.checks.items) c.args.number c.requires.some there in
    let p : c.place_of-place.result ≡ place_of c.args.module.now c.args.number (homes_of_checks c.self.inside.checks.items) =
    c.place_of-place.ensures.place ∙ ap (λ es. place_of c.args.module.now c.args.number (homes_of_checks es)) c.deref.ensures.value in
    let l : length (homes_of_checks c.self.inside.checks.items) ≡ length c.self.inside.checks.items = length-map c.self.inside.checks.items (λ e. e.module) in
    omega (arith, c.self.inside.checks.ok.0)

pub invariant_of-self : goal.invariant_of-self
invariant_of-self c = fewer_checks c.self.inside.modules.items (definitions_in c.self.inside.definitions.entries) c.self.inside.entries.items
    c.self.inside.checks.items c.self.invariant _ c.args.module.now c.args.number (search rules)
