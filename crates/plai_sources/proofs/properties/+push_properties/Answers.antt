use Rattle.std.proofs.Common.{◌≡◌, ◌∙◌, sym, ap, subst, false, true, length, List}
use Rattle.std.proofs.lemmas.Result.{err_from_is_err_and}
use Rattle.plai_terms.specs.declared.term.Term.{Term}
use Rattle.plai_clauses.specs.ClauseOf.{is_conjunction}
use Rattle.plai_sources.specs.Shapes.{each}
use Rattle.plai_sources.specs.Properties.{property_of}
use Rattle.plai_sources.specs.Answering.{Puts}
use Rattle.plai_sources.proofs.Goals.{joined_at, single_at}
use Rattle.plai_sources.proofs.Joined.{put_more, put_fails, put_all}
use Rattle.plai_sources.proofs.properties.+push_properties.Goals as goal

pub returns-then-not-is_conjunction : goal.returns-then-not-is_conjunction
returns-then-not-is_conjunction t c =
    let test : is_conjunction c.in-Compound.name (length c.in-Compound.args) ≡ false =
    ap (λ xs. is_conjunction c.in-Compound.name (length xs)) (sym c.as_slice.ensures.items) ∙ sym c.is_conjunction.ensures ∙ c.if-not-is_conjunction.true in
    subst (λ (gs : List Term). Puts (each (property_of c.args.variables.now) gs) c.args.props.now.items
    c.push_property-then-not-is_conjunction.new.props.items c.push_property-then-not-is_conjunction.result)
    (sym (single_at c.args.term.now c.in-Compound.name c.in-Compound.args c.in-Compound.is test))
    c.push_property-then-not-is_conjunction.ensures

pub returns-in_err-push_properties-in-Compound : goal.returns-in_err-push_properties-in-Compound
returns-in_err-push_properties-in-Compound t c =
    let test : is_conjunction c.in-Compound.name (length c.in-Compound.args) ≡ true =
    ap (λ xs. is_conjunction c.in-Compound.name (length xs)) (sym c.as_slice.ensures.items) ∙ sym c.is_conjunction.ensures ∙ c.if-not-is_conjunction.false in
    put_fails (property_of c.args.variables.now) c.args.props.now.items c.loop-part.props.items c.push_properties.new.props.items
    c.in_err-push_properties-in-Compound.field-0.0
    c.as_slice-part-items.result.now c.loop-part.part-index c.part-item.result c.args.term.now c.from_residual.result c.loop-part-test.true c.part-item.is
    (joined_at c.args.term.now c.in-Compound.name c.in-Compound.args c.as_slice-part-items.result.now c.in-Compound.is c.as_slice-part-items.ensures.items test)
    c.in_err-push_properties-in-Compound.ensures
    (err_from_is_err_and c.from_residual.result c.from_residual.ensures.1)

pub loop-part-preserved : goal.loop-part-preserved
loop-part-preserved t c =
    put_more (property_of c.args.variables.now) c.args.props.now.items c.loop-part.props.items c.push_properties.new.props.items
    c.as_slice-part-items.result.now c.loop-part.part-index c.part-item.result c.loop-part-test.true c.part-item.is
    c.loop-part.invariant c.in_ok-push_properties-in-Compound.ensures

pub returns-after-loop-part : goal.returns-after-loop-part
returns-after-loop-part t c =
    let test : is_conjunction c.in-Compound.name (length c.in-Compound.args) ≡ true =
    ap (λ xs. is_conjunction c.in-Compound.name (length xs)) (sym c.as_slice.ensures.items) ∙ sym c.is_conjunction.ensures ∙ c.if-not-is_conjunction.false in
    put_all (property_of c.args.variables.now) c.args.props.now.items c.loop-part.props.items
    c.as_slice-part-items.result.now c.loop-part.part-index c.args.term.now c.loop-part-test.false
    (joined_at c.args.term.now c.in-Compound.name c.in-Compound.args c.as_slice-part-items.result.now c.in-Compound.is c.as_slice-part-items.ensures.items test)
    c.loop-part.invariant
