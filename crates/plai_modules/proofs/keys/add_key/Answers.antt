use Rattle.plai_modules.proofs.KeySets.{key_added}
use Rattle.plai_modules.proofs.keys.add_key.Goals as goal

pub returns : goal.returns
returns c = key_added c.args.set.now.keys c.insert.new.self.keys (c.args.name.now, c.args.arity) (rw c.in_ok-copy.ensures at c.in_ok-insert.ensures.updates.0)
