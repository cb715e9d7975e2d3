use Rattle.std.proofs.Common.{◌≡◌, ◌⊎◌, IfSome, Err, refl, sym, ap, subst, arith}
use Rattle.plai_base.specs.Causes.{Rose}
use Rattle.plai_words.specs.Command.{texts}
use Rattle.plai_top.specs.Ending.{EndsEarly, EndsMade, EndsWithin, IsMadeStatus}
use Rattle.plai_top.specs.Headline.{TakesPromised}
use Rattle.plai_top.specs.Told.{IfBothTold}
use Rattle.plai_top.specs.Worked.{HasWorked}
use Rattle.plai_top.specs.Working.{between}
use Rattle.plai_top.proofs.Endings.{plan_whole, plan_every, cut_every, cut_early, stopped_early}
use Rattle.plai_top.proofs.Made.{plan_made, cut_made, stopped_made, plan_made_status, cut_made_status, stopped_made_status}
use Rattle.plai_top.proofs.Headline.{plan_promised, stop_promises}
use Rattle.plai_top.proofs.Parts.{plan_within, stopped_within, plan_part, stopped_part, cut_part, cut_made_part}
use Rattle.plai_top.proofs.Worked.{plan_worked, plan_cut, stopped_worked}
use Rattle.plai_top.proofs.top.run.Goals as goal

pub returns-in-Ok-carry_out-clause-whole : goal.returns-in-Ok-carry_out-clause-whole
returns-in-Ok-carry_out-clause-whole g c =
    plan_whole (texts c.args.words.now) (g.K.Sink.taken c.args.sink.now) (g.K.Sink.taken c.carry_out.new.sink) c.in-Ok.plan
    (g.B.Library.files c.args.library.now) (g.S.Source.left c.args.script.now) c.in-Ok-carry_out.status c.in-Ok.ensures.outcome
    c.in-Ok-carry_out.ensures.written

pub returns-in-Ok-carry_out-clause-every : goal.returns-in-Ok-carry_out-clause-every
returns-in-Ok-carry_out-clause-every g c =
    plan_every (texts c.args.words.now) (g.K.Sink.taken c.args.sink.now) (g.K.Sink.taken c.carry_out.new.sink) c.in-Ok.plan c.outcome_is_one.ensures
    (g.B.Library.files c.args.library.now) (g.S.Source.left c.args.script.now) c.in-Ok-carry_out.status c.in-Ok.ensures.outcome
    c.in-Ok-carry_out.ensures.written

pub returns-in-Err-carry_out-clause-every : goal.returns-in-Err-carry_out-clause-every
returns-in-Err-carry_out-clause-every g c =
    rw c.status.ensures
    (cut_every (texts c.args.words.now) (g.K.Sink.taken c.args.sink.now) (g.K.Sink.taken c.carry_out.new.sink) c.in-Ok.plan c.outcome_is_one.ensures
    (g.B.Library.files c.args.library.now) (g.S.Source.left c.args.script.now) c.in-Err-carry_out.stop c.in-Ok.ensures.outcome c.in-Ok.ensures.fit
    c.in-Err-carry_out.ensures.written)

pub returns-in-Ok-carry_out-clause-described : goal.returns-in-Ok-carry_out-clause-described
returns-in-Ok-carry_out-clause-described g c =
    plan_promised c.printed_rows_describe_runs.ensures (texts c.args.words.now) (g.K.Sink.taken c.args.sink.now) (g.K.Sink.taken c.carry_out.new.sink)
    (g.B.Library.files c.args.library.now) (g.S.Source.left c.args.script.now) c.in-Ok.plan c.in-Ok-carry_out.status c.in-Ok.ensures.outcome
    c.in-Ok.ensures.fit c.in-Ok-carry_out.ensures.written

pub returns-in-Ok-carry_out-clause-made : goal.returns-in-Ok-carry_out-clause-made
returns-in-Ok-carry_out-clause-made g c =
    plan_made (texts c.args.words.now) c.outcome_is_one.ensures (g.K.Sink.taken c.args.sink.now) (g.K.Sink.taken c.carry_out.new.sink) c.in-Ok.plan
    c.in-Ok-carry_out.status c.in-Ok.ensures.made c.in-Ok-carry_out.ensures.written

pub returns-in-Err-carry_out-clause-made : goal.returns-in-Err-carry_out-clause-made
returns-in-Err-carry_out-clause-made g c =
    let before = g.K.Sink.taken c.args.sink.now in
    let after = g.K.Sink.taken c.carry_out.new.sink in
    subst (λ n. EndsMade (texts c.args.words.now) n before after) (sym c.status.ensures)
    (cut_made (texts c.args.words.now) c.outcome_is_one.ensures before after c.in-Ok.plan
    c.in-Err-carry_out.stop c.in-Ok.ensures.made c.in-Err-carry_out.ensures.stop c.in-Err-carry_out.ensures.written)

pub returns-in-Err-carry_out-clause-described : goal.returns-in-Err-carry_out-clause-described
returns-in-Err-carry_out-clause-described g c =
    let told = g.B.Library.files c.args.library.now in
    let left = g.S.Source.left c.args.script.now in
    let before = g.K.Sink.taken c.args.sink.now in
    let after = g.K.Sink.taken c.carry_out.new.sink in
    subst (λ n. IfBothTold told left (λ files text. (n ≡ 0) ⊎ (n ≡ 1) → TakesPromised (texts c.args.words.now) files text before after)) (sym c.status.ensures)
    (stop_promises told left c.in-Err-carry_out.stop (λ files text. TakesPromised (texts c.args.words.now) files text before after))

pub returns-in-Err-clause-made : goal.returns-in-Err-clause-made
returns-in-Err-clause-made g c =
    let taken = g.K.Sink.taken c.args.sink.now in
    subst (λ n. EndsMade (texts c.args.words.now) n taken taken) (sym c.status-in-Err.ensures)
    (stopped_made (texts c.args.words.now) c.outcome_is_one.ensures taken c.in-Err.stop c.in-Err.ensures.made)

pub returns-in-Err-clause-early : goal.returns-in-Err-clause-early
returns-in-Err-clause-early g c =
    let told = g.B.Library.files c.args.library.now in
    let taken = g.K.Sink.taken c.args.sink.now in
    let Failed = Rose (g.B.Library.faults c.args.library.now) (g.B.Library.faults c.planned.new.library) in
    subst (λ n. IfSome told (λ files. EndsEarly (texts c.args.words.now) files n taken taken Failed)) (sym c.status-in-Err.ensures)
    (stopped_early (texts c.args.words.now) Failed told c.in-Err.stop taken c.in-Err.ensures.early)

pub returns-in-Err-carry_out-clause-early : goal.returns-in-Err-carry_out-clause-early
returns-in-Err-carry_out-clause-early g c =
    let told = g.B.Library.files c.args.library.now in
    let before = g.K.Sink.taken c.args.sink.now in
    let after = g.K.Sink.taken c.carry_out.new.sink in
    let Failed = Rose (g.B.Library.faults c.args.library.now) (g.B.Library.faults c.planned.new.library) in
    subst (λ n. IfSome told (λ files. EndsEarly (texts c.args.words.now) files n before after Failed)) (sym c.status.ensures)
    (cut_early (texts c.args.words.now) Failed before after told c.in-Ok.plan c.in-Err-carry_out.stop c.in-Ok.ensures.early c.in-Ok.ensures.fit
    c.in-Err-carry_out.ensures.written)

pub returns-in-Ok-carry_out-clause-made_status : goal.returns-in-Ok-carry_out-clause-made_status
returns-in-Ok-carry_out-clause-made_status g c = λ asked.
    plan_made_status (texts c.args.words.now) c.in-Ok.plan c.in-Ok-carry_out.status c.in-Ok.ensures.made c.in-Ok-carry_out.ensures.status asked

pub returns-in-Err-carry_out-clause-made_status : goal.returns-in-Err-carry_out-clause-made_status
returns-in-Err-carry_out-clause-made_status g c = λ asked.
    subst IsMadeStatus (sym c.status.ensures) (cut_made_status c.in-Err-carry_out.stop c.in-Err-carry_out.ensures.stop)

pub returns-in-Err-clause-made_status : goal.returns-in-Err-clause-made_status
returns-in-Err-clause-made_status g c = λ asked.
    subst IsMadeStatus (sym c.status-in-Err.ensures) (stopped_made_status (texts c.args.words.now) c.in-Err.stop c.in-Err.ensures.made asked)

pub returns-in-Ok-carry_out-clause-part : goal.returns-in-Ok-carry_out-clause-part
returns-in-Ok-carry_out-clause-part g c =
    plan_part (texts c.args.words.now) (g.B.Library.files c.args.library.now) (g.S.Source.left c.args.script.now) (g.K.Sink.taken c.args.sink.now)
    (g.K.Sink.taken c.carry_out.new.sink)
    c.in-Ok.plan c.in-Ok-carry_out.status c.in-Ok-carry_out.ensures.status

pub returns-in-Err-carry_out-clause-part : goal.returns-in-Err-carry_out-clause-part
returns-in-Err-carry_out-clause-part g c =
    let told = g.B.Library.files c.args.library.now in
    let left = g.S.Source.left c.args.script.now in
    let before = g.K.Sink.taken c.args.sink.now in
    let after = g.K.Sink.taken c.carry_out.new.sink in
    subst (λ n. IfBothTold told left (λ files text. EndsWithin (texts c.args.words.now) files text n before after)) (sym c.status.ensures)
    (cut_part (texts c.args.words.now) before after c.in-Ok.plan c.in-Err-carry_out.stop c.in-Ok.ensures.fit c.in-Err-carry_out.ensures.written told left
    c.in-Ok.ensures.outcome)

pub returns-in-Err-clause-part : goal.returns-in-Err-clause-part
returns-in-Err-clause-part g c =
    let told = g.B.Library.files c.args.library.now in
    let left = g.S.Source.left c.args.script.now in
    let taken = g.K.Sink.taken c.args.sink.now in
    subst (λ n. IfBothTold told left (λ files text. EndsWithin (texts c.args.words.now) files text n taken taken)) (sym c.status-in-Err.ensures)
    (stopped_part (texts c.args.words.now) told left taken c.in-Err.stop (λ e. c.in-Err.ensures.no_write (ap Err e)))

pub returns-in-Ok-carry_out-clause-made_part : goal.returns-in-Ok-carry_out-clause-made_part
returns-in-Ok-carry_out-clause-made_part g c = λ asked files text.
    plan_within (texts c.args.words.now) files text (g.K.Sink.taken c.args.sink.now) (g.K.Sink.taken c.carry_out.new.sink)
    c.in-Ok.plan c.in-Ok-carry_out.status c.in-Ok-carry_out.ensures.status

pub returns-in-Err-carry_out-clause-made_part : goal.returns-in-Err-carry_out-clause-made_part
returns-in-Err-carry_out-clause-made_part g c = λ asked files text.
    let before = g.K.Sink.taken c.args.sink.now in
    let after = g.K.Sink.taken c.carry_out.new.sink in
    subst (λ n. EndsWithin (texts c.args.words.now) files text n before after) (sym c.status.ensures)
    (cut_made_part (texts c.args.words.now) before after c.in-Ok.plan c.in-Err-carry_out.stop c.in-Ok.ensures.fit c.in-Err-carry_out.ensures.written
    c.in-Ok.ensures.made asked files text)

pub returns-in-Err-clause-made_part : goal.returns-in-Err-clause-made_part
returns-in-Err-clause-made_part g c = λ asked files text.
    let taken = g.K.Sink.taken c.args.sink.now in
    subst (λ n. EndsWithin (texts c.args.words.now) files text n taken taken) (sym c.status-in-Err.ensures)
    (stopped_within (texts c.args.words.now) files text taken c.in-Err.stop (λ e. c.in-Err.ensures.no_write (ap Err e)))

pub returns-in-Ok-carry_out-clause-worked : goal.returns-in-Ok-carry_out-clause-worked
returns-in-Ok-carry_out-clause-worked g c =
    plan_worked (texts c.args.words.now) (g.B.Library.files c.args.library.now) (g.S.Source.left c.args.script.now) (g.K.Sink.taken c.args.sink.now)
    (g.K.Sink.taken c.carry_out.new.sink)
    (between (g.W.Work.entries c.args.work.now) (g.W.Work.entries c.carry_out.new.work) c.args.steps.now c.carry_out.new.steps) c.in-Ok.plan
    c.in-Ok-carry_out.status c.in-Ok.ensures.task c.in-Ok.ensures.outcome c.in-Ok.ensures.made c.in-Ok-carry_out.ensures.status
    c.in-Ok-carry_out.ensures.worked

pub returns-in-Err-carry_out-clause-worked : goal.returns-in-Err-carry_out-clause-worked
returns-in-Err-carry_out-clause-worked g c =
    let told = g.B.Library.files c.args.library.now in
    let left = g.S.Source.left c.args.script.now in
    let before = g.K.Sink.taken c.args.sink.now in
    let after = g.K.Sink.taken c.carry_out.new.sink in
    let span = between (g.W.Work.entries c.args.work.now) (g.W.Work.entries c.carry_out.new.work) c.args.steps.now c.carry_out.new.steps in
    subst (λ n. HasWorked (texts c.args.words.now) told left n before after span) (sym c.status.ensures)
    (plan_cut (texts c.args.words.now) told left before after span c.in-Ok.plan c.in-Err-carry_out.stop c.in-Ok.ensures.task c.in-Ok.ensures.outcome
    c.in-Ok.ensures.made c.in-Err-carry_out.ensures.worked)

pub returns-in-Err-clause-worked : goal.returns-in-Err-clause-worked
returns-in-Err-clause-worked g c =
    let told = g.B.Library.files c.args.library.now in
    let left = g.S.Source.left c.args.script.now in
    let taken = g.K.Sink.taken c.args.sink.now in
    let span = between (g.W.Work.entries c.args.work.now) (g.W.Work.entries c.args.work.now) c.args.steps.now c.args.steps.now in
    subst (λ n. HasWorked (texts c.args.words.now) told left n taken taken span) (sym c.status-in-Err.ensures)
    (stopped_worked (texts c.args.words.now) told left taken taken span c.in-Err.stop (record { nothing = refl; none = omega arith }))
