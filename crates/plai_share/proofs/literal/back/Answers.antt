use Rattle.std.proofs.Common.{◌+◌, map, length, refl}
use Rattle.std.specs.Option.{option_map}
use Rattle.std.proofs.lemmas.Result.{err_from_is_err_and}
use Rattle.plai_base.specs.Mask.{all_true}
use Rattle.plai_share_laws.specs.Shares.{answered_formed}
use Rattle.plai_share_laws.specs.Calls.{raise, extend, extend_formed, back_formed}
use Rattle.plai_share_laws.specs.Sharing.{sides_of, sharing}
use Rattle.plai_share.specs.Values.{shares, value_of, state_of}
use Rattle.plai_share.proofs.Shapes.{canonical}
use Rattle.plai_share.proofs.Places.{fails_first}
use Rattle.plai_share.proofs.Literals.{outcome_fails, back_fails, back_sizes, back_value}
use Rattle.plai_share.proofs.literal.back.Goals as goal

pub returns-in_err-wide : goal.returns-in_err-wide
returns-in_err-wide c =
    let p = err_from_is_err_and c.from_residual.result c.from_residual.ensures.1 in
    let s = c.args.state.now in
    let n = s.arity + s.variables in
    let args = c.args.args.now in
    let v = shares s.sharing in
    let answer = shares c.args.answer.now.sharing in
    let f = sharing.back (state_of s) args (value_of c.args.answer.now) in
    let sides = sides_of s.arity args in
    rw (p.1, p.2) (outcome_fails (option_map state_of) f (back_formed n sides v answer) c.in_err-wide.field-0.0 refl
    (fails_first 0 (extend_formed n sides v) (answered_formed (raise n (all_true (length sides))) (map (raise n) answer.groups) (extend n sides v))
    c.in_err-wide.field-0.0 c.in_err-wide.ensures.part))

pub answered-requires-clause-groups : goal.answered-requires-clause-groups
answered-requires-clause-groups c = canonical (length c.args.args.now) (shares c.args.answer.now.sharing) c.requires.answer.order.first

pub returns-in_err-after : goal.returns-in_err-after
returns-in_err-after c =
    let p = err_from_is_err_and c.from_residual-in_err-after.result c.from_residual-in_err-after.ensures.1 in
    let s = c.args.state.now in
    let n = s.arity + s.variables in
    let args = c.args.args.now in
    let v = shares s.sharing in
    let answer = shares c.args.answer.now.sharing in
    let f = sharing.back (state_of s) args (value_of c.args.answer.now) in
    rw (p.1, p.2) (outcome_fails (option_map state_of) f (back_formed n (sides_of s.arity args) v answer) c.in_err-after.field-0.0 refl
    (back_fails n s.arity args v answer answer.slots c.requires.answer.order.first.slots (shares c.in_ok-wide.wide) c.extend.new.sets c.in_err-after.field-0.0
    c.in_ok-wide.ensures.part.1 c.in_ok-wide.ensures.part.0 c.in_ok-wide.ensures.count c.in_err-after.ensures))

pub returns : goal.returns
returns c =
    let s = c.args.state.now in
    let n = s.arity + s.variables in
    let args = c.args.args.now in
    let v = shares s.sharing in
    let answer = shares c.args.answer.now.sharing in
    let wide = shares c.in_ok-wide.wide in (
      back_sizes n s.arity args v answer answer.slots c.requires.answer.order.first.slots wide c.extend.new.sets
          c.in_ok-wide.ensures.part.1 c.in_ok-wide.ensures.part.0 c.in_ok-wide.ensures.count c.in_ok-after.ensures.0,
      back_value n s.arity args v answer answer.slots c.requires.answer.order.first.slots s.arity s.variables wide (shares c.in_ok-after.after)
          (shares c.in_ok-sharing.sharing)
          c.in_ok-wide.ensures.part.1 c.in_ok-after.ensures.1 c.in_ok-sharing.ensures,
    )
