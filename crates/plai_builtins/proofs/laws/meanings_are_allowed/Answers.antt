use Rattle.plai_builtins.specs.Meaning.{demand_of}
use Rattle.plai_builtins.proofs.Demands.{met, met_once}
use Rattle.plai_builtins.proofs.Meant.{meant_is_allowed}
use Rattle.plai_builtins.proofs.laws.meanings_are_allowed.Goals as goal

pub returns : goal.returns
returns c = record {
  total = λ name args fresh. met (demand_of name args fresh);
  one = λ name args fresh. met_once (demand_of name args fresh);
  allowed = meant_is_allowed;
}
