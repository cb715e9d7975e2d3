use Rattle.std.proofs.Common.{ap, inr, Err}
use Rattle.plai_top.specs.Outcome.{no_command}
use Rattle.plai_top.proofs.command.command_of.Goals as goal

pub returns-in-Err-Refused-clause-stop : goal.returns-in-Err-Refused-clause-stop
returns-in-Err-Refused-clause-stop c = inr (no_command (c.in-Err-Refused.ensures.refused (ap Err c.in-Err-Refused.field-0-is)))
