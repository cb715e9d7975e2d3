use Rattle.std.proofs.Common.{◌∙◌, ◌||◌, Bool, ap}
use Rattle.std.specs.List.{list_any}
use Rattle.plai_clauses.specs.Builtins.{is_key}
use Rattle.plai_modules.specs.KeySets.{same_key}
use Rattle.plai_modules.proofs.KeySets.{set_more, same_symm}
use Rattle.plai_modules.proofs.keys.key_set.Goals as goal

pub loop-key-preserved : goal.loop-key-preserved
loop-key-preserved c =
    let key = c.key-item.result in
    set_more (λ q k. is_key q.0 q.1 k) c.args.keys.now c.loop-key.key-index key c.loop-key.set.keys c.add_key.new.set.keys c.loop-key-test.true c.key-item.is
    c.loop-key.invariant
    (λ q. c.in_ok-add_key.ensures q ∙ ap (λ (t : Bool). list_any (same_key q) c.loop-key.set.keys || t) (same_symm q key))
