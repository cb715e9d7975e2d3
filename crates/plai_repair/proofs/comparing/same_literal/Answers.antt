use Rattle.std.proofs.lemmas.Slice.Eq.{slice_eq-Decides}
use Rattle.plai_terms.proofs.SameNames.{name-Decides}
use Rattle.plai_terms.proofs.SameTerms.{term-Decides}
use Rattle.plai_repair.proofs.Compared.{both, told, literal_is, literal_parts}
use Rattle.plai_repair.proofs.comparing.same_literal.Goals as goal

pub returns : goal.returns
returns c =
    let names = told c.eq-names.result c.eq-names.ensures (name-Decides c.args.one.now.name c.args.two.now.name) in
    let args = slice_eq-Decides term-Decides c.args.one.now.args c.args.two.now.args c.eq-args.result c.eq-args.ensures in
    let all = both _ _ (both _ _ names args) c.same_target-targets.ensures in
    (λ t. literal_is c.args.one.now c.args.two.now (all.0 t), λ e. all.1 (literal_parts c.args.one.now c.args.two.now e))
