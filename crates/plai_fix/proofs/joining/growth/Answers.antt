use Rattle.std.proofs.Common.{ap}
use Rattle.std.specs.Option.{option_copied}
use Rattle.plai_fix_rows.proofs.Parts.{some_more, none_more, kept_none, grown_first, grown_later, kept_later}
use Rattle.plai_fix.proofs.joining.growth.Goals as goal

pub returns-in_default-None-clause-kept : goal.returns-in_default-None-clause-kept
returns-in_default-None-clause-kept g c =
    kept_none g.D.Domain.value_of (g.D.Domain.plain c.args.domain.now) (option_copied c.args.had) c.args.answer c.in_default-None.is-1

pub returns-in-None-Some-clause-grown : goal.returns-in-None-Some-clause-grown
returns-in-None-Some-clause-grown g c =
    grown_first g.D.Domain.value_of (g.D.Domain.plain c.args.domain.now) (option_copied c.args.had) c.args.answer c.in-None-Some.value
    (ap option_copied c.in-None-Some.is-0) c.in-None-Some.is-1

pub returns-in-Some-Some-clause-grown : goal.returns-in-Some-Some-clause-grown
returns-in-Some-Some-clause-grown g c =
    some_more _ _ c.joined.result c.joined.ensures.grown
    (grown_later g.D.Domain.value_of (g.D.Domain.plain c.args.domain.now) (option_copied c.args.had) c.args.answer c.in-Some-Some.had.now c.in-Some-Some.value
    (ap option_copied c.in-Some-Some.is-0) c.in-Some-Some.is-1)

pub returns-in-Some-Some-clause-kept : goal.returns-in-Some-Some-clause-kept
returns-in-Some-Some-clause-kept g c =
    none_more _ _ c.joined.result c.joined.ensures.kept
    (kept_later g.D.Domain.value_of (g.D.Domain.plain c.args.domain.now) (option_copied c.args.had) c.args.answer c.in-Some-Some.had.now c.in-Some-Some.value
    (ap option_copied c.in-Some-Some.is-0) c.in-Some-Some.is-1)
