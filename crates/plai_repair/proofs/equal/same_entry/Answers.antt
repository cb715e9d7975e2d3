use Rattle.std.proofs.Common.{◌≡◌, ◌∙◌, ◌↔◌, true, sym}
use Rattle.plai_terms.proofs.SameNames.{name-Decides, key-Decides}
use Rattle.plai_repair.proofs.Compared.{both, told}
use Rattle.plai_repair.proofs.Entries.{entry_is, entry_parts}
use Rattle.plai_repair.proofs.equal.same_entry.Goals as goal

pub returns : goal.returns
returns c =
    let modules = told c.eq-modules.result c.eq-modules.ensures (name-Decides c.args.one.now.module c.args.two.now.module) in
    let preds = told c.eq-preds.result c.eq-preds.ensures (key-Decides c.args.one.now.pred c.args.two.now.pred) in
    let properties : (c.same_properties-properties.result ≡ true) ↔ (c.args.one.now.pre ≡ c.args.two.now.pre) = (
      λ t. sym c.as_slice.ensures ∙ c.same_properties-properties.ensures.0 t ∙ c.as_slice-2.ensures,
      λ e. c.same_properties-properties.ensures.1 (c.as_slice.ensures ∙ e ∙ sym c.as_slice-2.ensures),
    ) in
    let all = both _ _ (both _ _ modules preds) properties in
    (λ t. entry_is c.args.one.now c.args.two.now (all.0 t), λ e. all.1 (entry_parts c.args.one.now c.args.two.now e))
