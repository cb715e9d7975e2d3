use Rattle.std.proofs.Common.{◌≡◌, sym, subst, List}
use Rattle.plai_theory.specs.Words.{IsIn}
use Rattle.plai_sources.specs.declared.items.NumberedItem.{NumberedItem}
use Rattle.plai_modules.specs.Importing.{is_clause_of}
use Rattle.plai_modules.proofs.KeySets.{set_more}
use Rattle.plai_modules.proofs.Taken.{in_at}
use Rattle.plai_modules.proofs.own_items.clause_keys.Goals as goal

pub add_clause_key-requires : goal.add_clause_key-requires
add_clause_key-requires c =
    let items = c.as_slice-numbered-items.result.now in
    let is : IsIn c.numbered-item.result items =
    in_at items c.loop-numbered.numbered-index c.numbered-item.result c.loop-numbered-test.true c.numbered-item.is in (
      c.args.file.now.module,
      c.requires c.numbered-item.result
          (subst (λ (xs : List NumberedItem). IsIn c.numbered-item.result xs) c.as_slice-numbered-items.ensures is),
    )

pub loop-numbered-preserved : goal.loop-numbered-preserved
loop-numbered-preserved c =
    set_more (λ q numbered. is_clause_of q numbered.item) c.as_slice-numbered-items.result.now c.loop-numbered.numbered-index c.numbered-item.result
    c.loop-numbered.set.keys c.add_clause_key.new.set.keys
    c.loop-numbered-test.true c.numbered-item.is c.loop-numbered.invariant c.in_ok-add_clause_key.ensures
