use Rattle.std.proofs.Common.{◌≡◌, ◌∙◌, List, refl, sym, ap, rules}
use Rattle.std.proofs.lemmas.Iterator.Adapters.{YieldsList-from_vec}
use Rattle.std.proofs.lemmas.Iterator.Consumers.{YieldsList-turn, YieldsList-end}
use Rattle.plai_clauses.specs.Program.{ProgramView}
use Rattle.plai_sources.specs.declared.items.NumberedItem.{NumberedItem}
use Rattle.plai_modules.specs.Loading.{with_item, with_items}
use Rattle.plai_modules.proofs.Taken.{in_at, items_more, map_same}
use Rattle.plai_modules.proofs.There.{there-behind}
use Rattle.plai_modules.proofs.items.add_items.Goals as goal

pub loop-numbered-init : goal.loop-numbered-init
loop-numbered-init c = record { can = tt; finite = tt; program = refl }

pub add_item-requires-clause-there : goal.add_item-requires-clause-there
add_item-requires-clause-there c =
    there-behind c.args.module.now c.args.imports.now c.loop-numbered.yielded c.args.program.now c.loop-numbered.program c.loop-numbered.invariant.program
    c.requires.there

pub add_item-requires-clause-item : goal.add_item-requires-clause-item
add_item-requires-clause-item c =
    let h = c.into_iter-numbered-iterator.ensures.into_iter_gives in
    let all = YieldsList-from_vec {s = c.into_iter-numbered-iterator.result} c.args.items.items h.0 (search (rules, h.1)) in
    let turn =
    YieldsList-turn all c.loop-numbered.yielded c.loop-numbered.numbered-iterator c.loop-numbered.yielded_by c.next.result c.next.new.self c.in-Some.numbered
    c.in-Some.is c.next.ensures.steps in
    c.requires.items c.in-Some.numbered (in_at c.args.items.items _ c.in-Some.numbered turn.0 turn.1)

pub loop-numbered-preserved : goal.loop-numbered-preserved
loop-numbered-preserved c = record {
  can = tt;
  finite = tt;
  program =
      c.in_ok-add_item.ensures ∙ ap (λ (p : ProgramView). with_item c.args.module.now c.args.imports.now p c.in-Some.numbered.item)
      c.loop-numbered.invariant.program
      ∙ sym (items_more c.args.module.now c.args.imports.now c.loop-numbered.yielded c.args.program.now c.in-Some.numbered);
}

pub returns : goal.returns
returns c =
    let h = c.into_iter-numbered-iterator.ensures.into_iter_gives in
    let all = YieldsList-from_vec {s = c.into_iter-numbered-iterator.result} c.args.items.items h.0 (search (rules, h.1)) in
    let end =
    YieldsList-end all c.loop-numbered.yielded c.loop-numbered.numbered-iterator c.loop-numbered.yielded_by c.next.result c.next.new.self c.in-None.is
    c.next.ensures.steps in
    c.loop-numbered.invariant.program ∙ ap (λ (xs : List NumberedItem). with_items c.args.module.now c.args.imports.now c.args.program.now xs)
    (sym (map_same c.loop-numbered.yielded) ∙ end.0)
