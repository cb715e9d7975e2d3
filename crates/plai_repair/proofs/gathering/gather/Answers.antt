use Rattle.std.proofs.Common.{slice_set, true, false, refl, sym, ◌∙◌}
use Rattle.std.proofs.lemmas.List.{get_or_default}
use Rattle.plai_repair.proofs.Gathered.{gathers_new}
use Rattle.plai_repair.proofs.gathering.gather.Goals as goal

pub returns : goal.returns
returns c =
    gathers_new c.args.row c.args.gathered.now.marks.items
    (slice_set c.args.gathered.now.marks.items c.args.row true) c.args.gathered.now.rows.items c.push.new.self.items c.requires.there c.requires.marked
    (get_or_default c.args.gathered.now.marks.items c.args.row false c.index.result.now c.requires.there ∙ sym c.index.ensures
    ∙ c.if-index.false) refl c.in_ok-push.ensures.items
