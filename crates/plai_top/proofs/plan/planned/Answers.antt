use Rattle.std.proofs.Common.{subst}
use Rattle.plai_base.specs.Causes.{Rose}
use Rattle.plai_words.specs.Command.{texts}
use Rattle.plai_top.specs.Commands.{IsCommandOf}
use Rattle.plai_top.proofs.Deciding.{made_outcome, made_keeps_early, made_keeps_words, words_decide, words_never_fail, stop_outcome, stop_keeps_early}
use Rattle.plai_top.proofs.Worked.{task_by}
use Rattle.plai_top.proofs.plan.planned.Goals as goal

pub returns-in-Ok-Make-clause-outcome : goal.returns-in-Ok-Make-clause-outcome
returns-in-Ok-Make-clause-outcome g c =
    let own = c.in-Ok-Make in
    made_outcome (texts c.args.words.now) own.settings own.count (subst (IsCommandOf (texts c.args.words.now)) own.field-0-is own.ensures.command)
    (g.B.Library.files c.args.library.now) (g.S.Source.left c.args.script.now) c.over_made.result c.over_made.ensures.plan

pub returns-in-Ok-Make-clause-early : goal.returns-in-Ok-Make-clause-early
returns-in-Ok-Make-clause-early g c =
    let own = c.in-Ok-Make in
    made_keeps_early (texts c.args.words.now) own.settings own.count (subst (IsCommandOf (texts c.args.words.now)) own.field-0-is own.ensures.command)
    (g.B.Library.files c.args.library.now) c.over_made.result (Rose (g.B.Library.faults c.args.library.now) (g.B.Library.faults c.args.library.now))

pub returns-in-Ok-Make-clause-words : goal.returns-in-Ok-Make-clause-words
returns-in-Ok-Make-clause-words g c =
    let own = c.in-Ok-Make in
    made_keeps_words (texts c.args.words.now) own.settings own.count (subst (IsCommandOf (texts c.args.words.now)) own.field-0-is own.ensures.command) _
    c.over_made.result

pub returns-in-Err-clause-outcome : goal.returns-in-Err-clause-outcome
returns-in-Err-clause-outcome g c =
    let told = g.B.Library.files c.args.library.now in
    stop_outcome (texts c.args.words.now) told (g.S.Source.left c.args.script.now) c.in-Err.stop
    (words_decide (texts c.args.words.now) told c.in-Err.stop c.in-Err.ensures.stop)

pub returns-in-Err-clause-early : goal.returns-in-Err-clause-early
returns-in-Err-clause-early g c =
    let told = g.B.Library.files c.args.library.now in
    stop_keeps_early (texts c.args.words.now) told c.in-Err.stop _ (words_decide (texts c.args.words.now) told c.in-Err.stop c.in-Err.ensures.stop)
    (λ e. absurd (words_never_fail (texts c.args.words.now) c.in-Err.stop c.in-Err.ensures.stop e))

pub returns-in-Ok-Files-clause-task : goal.returns-in-Ok-Files-clause-task
returns-in-Ok-Files-clause-task g c =
    let own = c.in-Ok-Files in
    let words = texts c.args.words.now in
    task_by words own.settings (subst (IsCommandOf words) own.field-0-is own.ensures.command).formed c.over_files.result c.over_files.ensures.task

pub returns-in-Ok-Make-clause-task : goal.returns-in-Ok-Make-clause-task
returns-in-Ok-Make-clause-task g c =
    let own = c.in-Ok-Make in
    let words = texts c.args.words.now in
    task_by words own.settings (subst (IsCommandOf words) own.field-0-is own.ensures.command).formed c.over_made.result c.over_made.ensures.task
