use Rattle.std.proofs.Common.{◌++◌, map, option_to_list, ap, ◌∙◌, arith}
use Rattle.std.proofs.lemmas.Grind.{common_steps}
use Rattle.std.proofs.lemmas.List.Elements.{All-pop}
use Rattle.plai_render.specs.Order.{IsNarrow}
use Rattle.plai_render.proofs.Moves.{one_moved}
use Rattle.plai_render.proofs.order.key_all.Goals as goal

pub loop-row-preserved : goal.loop-row-preserved
loop-row-preserved c = record {
  narrow = (All-pop IsNarrow c.loop-row.rows.items c.pop.new.self.items c.pop.result c.pop.ensures.items c.loop-row.invariant.narrow).0;
  room = grind (arith, common_steps);
  back = grind (arith, common_steps);
  same = one_moved (λ k. k.row) (map (λ k. k.row) c.args.keyed.now.items ++ c.args.rows.now.items) c.loop-row.keyed.items c.push_reserved.new.self.items
      c.loop-row.rows.items c.pop.new.self.items _
      c.loop-row.invariant.same (c.pop.ensures.items ∙ ap (λ o. c.pop.new.self.items ++ option_to_list o) c.in-Some.is) c.push_reserved.ensures.items;
}
