use Rattle.plai_top.proofs.Headline.{LawsHold, LeastKeeps, laws_hold, table_promised}
use Rattle.plai_top.proofs.laws.printed_rows_describe_runs.Goals as goal

pub returns : goal.returns
returns c =
    let laws : LawsHold =
    laws_hold (
      c.groundness_is_lawful.ensures,
      record { tells_truly = c.groundness_is_sound.ensures.tells_truly; acts_truly = c.groundness_is_sound.ensures.acts_truly },
    )
    (c.sharing_is_lawful.ensures, c.sharing_is_sound.ensures) (λ k deep. (c.depth_k_is_lawful.ensures k deep, c.depth_k_is_sound.ensures k deep)) in
    let describes = c.closed_tables_describe_runs.ensures.least in
    let closed = c.closed_tables_describe_runs.ensures.least_is_closed in
    let keeps : LeastKeeps = λ task lawful sound program formed rows least check inside.
    c.verdicts_hold_of_runs.ensures.verdicts task lawful sound program formed rows (closed task lawful program formed rows least) check
    (formed.checks check inside) in
    table_promised laws describes keeps
