-- Each clause is a theorem of proofs/.
use Rattle.std.proofs.Common.{zero-le}
use Rattle.plai_theory.specs.LegalWork.{no_work}
use Rattle.plai_theory.proofs.Logs.{legal_log_least, empty}
use Rattle.plai_theory.proofs.Count.{end_within, stop_cause}
use Rattle.plai_theory.proofs.Over.{over_cause, log_not_over, nothing_fits}
use Rattle.plai_theory.proofs.log_theorems.log_laws.Goals as goal

pub returns : goal.returns
returns g c = record {
  logs_give_it = λ p laws limit log whole. legal_log_least _ p laws limit log whole.legal whole.end _;
  end_is_within = λ p laws order rows least limit log whole. end_within _ p laws _ order rows least limit (no_work _) (empty _ p laws) tt zero-le log
      whole.legal whole.end;
  stop_has_cause = λ p laws order rows least limit log x stop. stop_cause _ p laws _ order rows least limit (no_work _) (empty _ p laws) tt zero-le log
      stop.legal stop.none_due x stop.demanded stop.not_live;
  over_has_cause = λ p laws mono limit. over_cause _ p laws _ mono limit (no_work _) (empty _ p laws);
  end_is_not_over = λ p laws mono limit log whole fits. log_not_over _ p laws _ mono limit (no_work _) (empty _ p laws) (nothing_fits _ p mono) log
      whole.legal fits whole.end;
}
