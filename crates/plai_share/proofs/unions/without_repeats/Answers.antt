use Rattle.std.proofs.Common.{rules}
use Rattle.plai_share.proofs.AllUnions.{formed_shortened}
use Rattle.plai_share.proofs.unions.without_repeats.Goals as goal

pub returns-then-len-gt-MOST_LISTED : goal.returns-then-len-gt-MOST_LISTED
returns-then-len-gt-MOST_LISTED c = search (rules, formed_shortened c.args.masks.items)
