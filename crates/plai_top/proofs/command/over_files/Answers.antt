use Rattle.std.proofs.Common.{◌<◌, length, subst}
use Rattle.plai_top.specs.Outcome.{too_many}
use Rattle.plai_top.proofs.command.over_files.Goals as goal

pub returns-then-as_slice-gt-MAX_FILES-clause-stop : goal.returns-then-as_slice-gt-MAX_FILES-clause-stop
returns-then-as_slice-gt-MAX_FILES-clause-stop c = λ words formed.
    too_many c.args.settings formed c.requires.over (subst (λ names. 64 < length names) c.as_slice.ensures c.if-as_slice-gt-MAX_FILES.true)
