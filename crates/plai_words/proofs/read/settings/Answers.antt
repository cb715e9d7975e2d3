use Rattle.std.proofs.Common.{sym, ◌∙◌}
use Rattle.clap.specs.Words.{app_of, found_of, rows_of}
use Rattle.plai_words.specs.Command.{texts}
use Rattle.plai_words.proofs.Bridge.{bundled, taken_words, refused_words}
use Rattle.plai_words.proofs.Ends.{by_same_ok}
use Rattle.plai_words.proofs.read.settings.Goals as goal

pub returns-then-has_bundle-clause-refused : goal.returns-then-has_bundle-clause-refused
returns-then-has_bundle-clause-refused c = λ _. bundled (texts c.args.words.now) (sym c.has_bundle.ensures ∙ c.if-has_bundle.true)

pub returns-in-Ok-clause-ok : goal.returns-in-Ok-clause-ok
returns-in-Ok-clause-ok c =
    let same = taken_words (app_of c.in_ok-command.command) (texts c.args.words.now) (rows_of (found_of c.in-Ok.matches)) c.in_ok-command.ensures
    (sym c.has_bundle.ensures ∙ c.if-has_bundle.false) c.in-Ok.ensures.kinds (λ s. (c.in-Ok.ensures.matches s).0) in
    by_same_ok same c.settings_from.result c.settings_from.ensures.ok

pub returns-in-Ok-clause-refused : goal.returns-in-Ok-clause-refused
returns-in-Ok-clause-refused c = λ z.
    let same = taken_words (app_of c.in_ok-command.command) (texts c.args.words.now) (rows_of (found_of c.in-Ok.matches)) c.in_ok-command.ensures
    (sym c.has_bundle.ensures ∙ c.if-has_bundle.false) c.in-Ok.ensures.kinds (λ s. (c.in-Ok.ensures.matches s).0) in
    same ∙ c.settings_from.ensures.refused z

pub returns-in-Err-clause-refused : goal.returns-in-Err-clause-refused
returns-in-Err-clause-refused c = λ z.
    refused_words (app_of c.in_ok-command.command) (texts c.args.words.now) c.kind.result c.in-Err.error c.kind.ensures c.in_ok-command.ensures
    (sym c.has_bundle.ensures ∙ c.if-has_bundle.false) c.in-Err.ensures.kinds
    (λ m. let memory = c.refusal.ensures.memory m in cc)
