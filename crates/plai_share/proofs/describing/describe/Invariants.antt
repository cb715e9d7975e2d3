use Rattle.std.proofs.Common.{◌≡◌, drop}
use Rattle.plai_share_laws.specs.Properties.{with_all, describe}
use Rattle.plai_share.specs.Values.{shares}
use Rattle.plai_share.proofs.describing.describe.Given as goal

abbrev pub invariant-loop-property : goal.invariant-loop-property
invariant-loop-property l = record {
  slots : l.sharing.slots ≡ l.arity;
  rest : with_all (drop l.property-index l.properties) (shares l.sharing) ≡ describe l.arity l.properties;
}
