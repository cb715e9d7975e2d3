use Rattle.std.proofs.Common.{◌≡◌, ◌∙◌, ◌↔◌, true, sym}
use Rattle.plai_terms.proofs.SameNames.{name-Decides, key-Decides}
use Rattle.plai_repair.proofs.Compared.{both, told}
use Rattle.plai_repair.proofs.Entries.{check_is, check_parts}
use Rattle.plai_repair.proofs.equal.same_check.Goals as goal

pub returns : goal.returns
returns c =
    let modules = told c.eq-modules.result c.eq-modules.ensures (name-Decides c.args.one.now.module c.args.two.now.module) in
    let preds = told c.eq-preds.result c.eq-preds.ensures (key-Decides c.args.one.now.pred c.args.two.now.pred) in
    let before : (c.same_properties-before.result ≡ true) ↔ (c.args.one.now.pre ≡ c.args.two.now.pre) = (
      λ t. sym c.as_slice.ensures ∙ c.same_properties-before.ensures.0 t ∙ c.as_slice-2.ensures,
      λ e. c.same_properties-before.ensures.1 (c.as_slice.ensures ∙ e ∙ sym c.as_slice-2.ensures),
    ) in
    let after : (c.same_properties-after.result ≡ true) ↔ (c.args.one.now.post ≡ c.args.two.now.post) = (
      λ t. sym c.as_slice-3.ensures ∙ c.same_properties-after.ensures.0 t ∙ c.as_slice-4.ensures,
      λ e. c.same_properties-after.ensures.1 (c.as_slice-3.ensures ∙ e ∙ sym c.as_slice-4.ensures),
    ) in
    let all = both _ _ (both _ _ (both _ _ (both _ _ modules c.same_kind-kinds.ensures) preds) before) after in
    (λ t. check_is c.args.one.now c.args.two.now (all.0 t), λ e. all.1 (check_parts c.args.one.now c.args.two.now e))
