use Rattle.std.proofs.Common.{◌≡◌, ◌∙◌, ◌↔◌, true, sym}
use Rattle.std.proofs.lemmas.Slice.Eq.{slice_eq-Decides}
use Rattle.plai_terms.proofs.SameNames.{name-Decides}
use Rattle.plai_terms.proofs.SameTerms.{term-Decides}
use Rattle.plai_repair.proofs.Compared.{both, told, clause_is, clause_parts, number_is}
use Rattle.plai_repair.proofs.comparing.same_clause.Goals as goal

pub returns : goal.returns
returns c =
    let names = told c.eq-names.result c.eq-names.ensures (name-Decides c.args.one.now.name c.args.two.now.name) in
    let heads = slice_eq-Decides term-Decides c.args.one.now.head c.args.two.now.head c.eq-heads.result c.eq-heads.ensures in
    let bodies : (c.same_literals-bodies.result ≡ true) ↔ (c.args.one.now.body ≡ c.args.two.now.body) = (
      λ t. sym c.as_slice.ensures ∙ c.same_literals-bodies.ensures.0 t ∙ c.as_slice-2.ensures,
      λ e. c.same_literals-bodies.ensures.1 (c.as_slice.ensures ∙ e ∙ sym c.as_slice-2.ensures),
    ) in
    let all = both _ _ (both _ _ (both _ _ names heads) (number_is c.args.one.now.variables c.args.two.now.variables)) bodies in
    (λ t. clause_is c.args.one.now c.args.two.now (all.0 t), λ e. all.1 (clause_parts c.args.one.now c.args.two.now e))
