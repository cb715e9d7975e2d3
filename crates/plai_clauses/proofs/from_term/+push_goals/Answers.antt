use Rattle.std.proofs.Common.{◌≡◌, ◌∙◌, sym, ap, subst, false, true, length, rules, List}
use Rattle.std.proofs.lemmas.Result.{err_from_is_err_and}
use Rattle.plai_terms.specs.declared.term.Term.{Term, Compound, the_lemmas}
use Rattle.plai_terms.specs.Readable.{is_wide}
use Rattle.plai_clauses.specs.Bodies.{Puts}
use Rattle.plai_clauses.specs.ClauseOf.{body_of, is_conjunction}
use Rattle.plai_clauses.proofs.Bodies.{narrow_part, joined_at, single_at}
use Rattle.plai_clauses.proofs.PutLiterals.{put_more, put_fails, put_all}
use Rattle.plai_clauses.proofs.from_term.+push_goals.Goals as goal

pub returns-then-not-is_conjunction : goal.returns-then-not-is_conjunction
returns-then-not-is_conjunction t c =
    let test : is_conjunction c.in-Compound.name (length c.in-Compound.args) ≡ false =
    ap (λ xs. is_conjunction c.in-Compound.name (length xs)) (sym c.as_slice.ensures.items) ∙ sym c.is_conjunction.ensures ∙ c.if-not-is_conjunction.true in
    subst (λ (gs : List Term). Puts (body_of c.args.module.now c.args.imports.now gs) c.args.body.now.items
    c.push_literal-then-not-is_conjunction.new.body.items c.push_literal-then-not-is_conjunction.result)
    (sym (single_at c.args.term.now c.in-Compound.name c.in-Compound.args c.in-Compound.is test))
    c.push_literal-then-not-is_conjunction.ensures

pub push_goals-requires : goal.push_goals-requires
push_goals-requires t c =
    let narrow : is_wide (Compound c.in-Compound.name c.as_slice-part-items.result.now) ≡ false =
    ap (λ xs. is_wide (Compound c.in-Compound.name xs)) c.as_slice-part-items.ensures.items ∙ sym (ap is_wide c.in-Compound.is) ∙ c.requires in (
      search (rules, the_lemmas),
      ap is_wide c.part-item.is
          ∙ narrow_part c.in-Compound.name c.as_slice-part-items.result.now c.loop-part.part-index c.part-item.result narrow c.loop-part-test.true,
    )

pub returns-in_err-push_goals-in-Compound : goal.returns-in_err-push_goals-in-Compound
returns-in_err-push_goals-in-Compound t c =
    let test : is_conjunction c.in-Compound.name (length c.in-Compound.args) ≡ true =
    ap (λ xs. is_conjunction c.in-Compound.name (length xs)) (sym c.as_slice.ensures.items) ∙ sym c.is_conjunction.ensures ∙ c.if-not-is_conjunction.false in
    let p = err_from_is_err_and c.from_residual.result c.from_residual.ensures.1 in
    rw (p.1, p.2)
    (put_fails c.args.module.now c.args.imports.now c.args.body.now.items c.loop-part.body.items c.push_goals.new.body.items
    c.in_err-push_goals-in-Compound.field-0.0
    c.as_slice-part-items.result.now c.loop-part.part-index c.part-item.result c.args.term.now c.loop-part-test.true c.part-item.is
    (joined_at c.args.term.now c.in-Compound.name c.in-Compound.args c.as_slice-part-items.result.now c.in-Compound.is c.as_slice-part-items.ensures.items test)
    c.loop-part.invariant c.in_err-push_goals-in-Compound.ensures)

pub loop-part-preserved : goal.loop-part-preserved
loop-part-preserved t c =
    put_more c.args.module.now c.args.imports.now c.args.body.now.items c.loop-part.body.items c.push_goals.new.body.items
    c.as_slice-part-items.result.now c.loop-part.part-index c.part-item.result c.loop-part-test.true c.part-item.is
    c.loop-part.invariant c.in_ok-push_goals-in-Compound.ensures

pub returns-after-loop-part : goal.returns-after-loop-part
returns-after-loop-part t c =
    let test : is_conjunction c.in-Compound.name (length c.in-Compound.args) ≡ true =
    ap (λ xs. is_conjunction c.in-Compound.name (length xs)) (sym c.as_slice.ensures.items) ∙ sym c.is_conjunction.ensures ∙ c.if-not-is_conjunction.false in
    put_all c.args.module.now c.args.imports.now c.args.body.now.items c.loop-part.body.items
    c.as_slice-part-items.result.now c.loop-part.part-index c.args.term.now c.loop-part-test.false
    (joined_at c.args.term.now c.in-Compound.name c.in-Compound.args c.as_slice-part-items.result.now c.in-Compound.is c.as_slice-part-items.ensures.items test)
    c.loop-part.invariant
