use Rattle.std.proofs.Common.{◌≤◌, length, set, refl, sym, ap, ◌∙◌, arith}
use Rattle.plai_terms.specs.declared.skeleton.Skeleton.{Any}
use Rattle.plai_depth_laws.specs.Moves.{skeleton_at}
use Rattle.plai_depth.proofs.Pushed.{push_beyond, push_met, push_clash}
use Rattle.plai_depth.proofs.pushes.push_variable.Goals as goal

pub returns-in_default : goal.returns-in_default
returns-in_default c =
    let n = c.args.number in
    let ss = c.args.skeletons.now.items in
    let l : n ≤ n = omega arith in
    let beyond : length c.deref.result.now ≤ n = c.in_default.ensures.lookup.3 in
    let out : length ss ≤ n = omega (arith, beyond, ap length c.deref.ensures.value) in
    push_beyond ss n c.args.pushed.now Any (c.in_default.ensures.lookup.4 l Any ∙ ap (λ ss. skeleton_at ss n) c.deref.ensures.value) refl out

pub returns-in-None : goal.returns-in-None
returns-in-None c =
    let n = c.args.number in
    let l : n ≤ n = omega arith in
    push_clash c.args.skeletons.now.items n c.args.pushed.now c.as_skeleton.result.now
    (c.as_skeleton.ensures ∙ c.in-Some.ensures.lookup.4 l Any ∙ ap (λ ss. skeleton_at ss n) c.deref.ensures.value)
    (sym c.in_ok-meet.ensures ∙ c.in-None.is)

pub returns-in_ok-skeletons-in-Some-2 : goal.returns-in_ok-skeletons-in-Some-2
returns-in_ok-skeletons-in-Some-2 c =
    let n = c.args.number in
    let l : n ≤ n = omega arith in
    push_met c.args.skeletons.now.items n c.args.pushed.now c.as_skeleton.result.now
    (c.as_skeleton.ensures ∙ c.in-Some.ensures.lookup.4 l Any ∙ ap (λ ss. skeleton_at ss n) c.deref.ensures.value)
    c.in-Some-2.met _ (sym c.in_ok-meet.ensures ∙ c.in-Some-2.is) (ap (set c.args.skeletons.now.items n) c.in_ok-skeletons-in-Some-2.ensures)
