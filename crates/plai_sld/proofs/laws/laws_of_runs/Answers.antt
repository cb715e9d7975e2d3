use Rattle.plai_sld.proofs.Kept.{one_more, run_state, start_is_state}
use Rattle.plai_sld.specs.Runs.{start_of}
use Rattle.plai_sld.proofs.laws.laws_of_runs.Goals as goal

pub returns : goal.returns
returns c = record {
  one_more = λ program first middle last choices choice. one_more program first choices middle choice last;
  states = λ program formed pred args many choices last run. run_state program formed (start_of pred args) choices last
      (start_is_state program formed pred args many) run;
}
