use Rattle.std.proofs.Common.{◌+◌, refl, sym, ap, ◌∙◌}
use Rattle.std.specs.Option.{option_map}
use Rattle.std.proofs.lemmas.Result.{err_from_is_err_and}
use Rattle.plai_share_laws.specs.Calls.{extend, extend_formed, acted_formed, refine_formed}
use Rattle.plai_share_laws.specs.Sharing.{sides_of, sharing}
use Rattle.plai_share.specs.Values.{shares, state_of}
use Rattle.plai_share.proofs.Places.{fails_first}
use Rattle.plai_share.proofs.Literals.{outcome_fails}
use Rattle.plai_share.proofs.Refined.{refine_fails, refine_sizes, refine_some}
use Rattle.plai_share.proofs.refine.refine.Goals as goal

pub returns-in_err-wide : goal.returns-in_err-wide
returns-in_err-wide c =
    let p = err_from_is_err_and c.from_residual.result c.from_residual.ensures.1 in
    let s = c.args.state.now in
    let n = s.arity + s.variables in
    let sides = sides_of s.arity c.args.args.now in
    let action = c.args.action.now in
    let v = shares s.sharing in
    let f = sharing.refine (state_of s) c.args.args.now action in
    rw (p.1, p.2) (outcome_fails (option_map state_of) f (refine_formed n sides action v) c.in_err-wide.field-0.0 refl
    (fails_first 0 (extend_formed n sides v) (acted_formed n action (extend n sides v)) c.in_err-wide.field-0.0 c.in_err-wide.ensures.part))

pub returns-in_err-after : goal.returns-in_err-after
returns-in_err-after c =
    let p = err_from_is_err_and c.from_residual-in_err-after.result c.from_residual-in_err-after.ensures.1 in
    let s = c.args.state.now in
    let n = s.arity + s.variables in
    let sides = sides_of s.arity c.args.args.now in
    let action = c.args.action.now in
    let v = shares s.sharing in
    let f = sharing.refine (state_of s) c.args.args.now action in
    rw (p.1, p.2) (outcome_fails (option_map state_of) f (refine_formed n sides action v) c.in_err-after.field-0.0 refl
    (refine_fails n sides action v (shares c.in_ok-wide.wide) c.extend.new.sets c.in_err-after.field-0.0
    c.in_ok-wide.ensures.part.1 c.in_ok-wide.ensures.part.0 c.in_ok-wide.ensures.count c.in_err-after.ensures))

pub returns : goal.returns
returns c =
    let s = c.args.state.now in
    let n = s.arity + s.variables in
    let sides = sides_of s.arity c.args.args.now in
    let action = c.args.action.now in
    let v = shares s.sharing in
    let wide = shares c.in_ok-wide.wide in (
      refine_sizes n sides action v wide c.extend.new.sets c.in_ok-wide.ensures.part.1 c.in_ok-wide.ensures.part.0 c.in_ok-wide.ensures.count
          c.in_ok-after.ensures.0,
      refine_some n sides action v s.arity s.variables wide (shares c.in-Some.after) (shares c.in_ok-sharing.sharing)
          c.in_ok-wide.ensures.part.1 (ap (option_map shares) (sym c.in-Some.is) ∙ c.in_ok-after.ensures.1) c.in_ok-sharing.ensures,
    )
