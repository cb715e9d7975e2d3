-- Each clause is a theorem of proofs/.
use Rattle.plai_theory.specs.LegalWork.{work_with}
use Rattle.plai_theory.proofs.Edits.{opened_log_least, opened_inv, opened_room, quiet_least}
use Rattle.plai_theory.proofs.Causes.{dirty_cause}
use Rattle.plai_theory.proofs.Count.{end_within, stop_cause}
use Rattle.plai_theory.proofs.Over.{over_cause, log_not_over, opened_fit}
use Rattle.plai_theory.proofs.repair_theorems.repair_laws.Goals as goal

pub returns : goal.returns
returns g c = record {
  repair_gives_it = λ old new table opened r limit log whole. opened_log_least _ old new r.old_lawful r.new_lawful _ r.order table r.least.0 r.least.1 opened
      r.opening limit log whole.legal whole.end;
  repair_has_causes = λ old new laws table. dirty_cause _ old new laws table;
  quiet_keeps_it = λ old new laws laws' order rows least. quiet_least _ old new laws laws' _ order rows least.0 least.1;
  repair_is_within = λ old new table opened r limit log whole rows least. end_within _ new r.new_lawful _ r.order rows least limit (work_with _ opened)
      (opened_inv _ old new r.old_lawful r.new_lawful _ r.order table r.least.0 r.least.1 opened r.opening) r.opening.own
      (opened_room _ old new r.new_lawful table opened r.opening limit) log whole.legal whole.end;
  repair_stop_has_cause = λ old new table opened r rows least limit log x stop. stop_cause _ new r.new_lawful _ r.order rows least limit (work_with _ opened)
      (opened_inv _ old new r.old_lawful r.new_lawful _ r.order table r.least.0 r.least.1 opened r.opening) r.opening.own
      (opened_room _ old new r.new_lawful table opened r.opening limit)
      log stop.legal stop.none_due x stop.demanded stop.not_live;
  repair_over_has_cause = λ old new table opened r mono limit. over_cause _ new r.new_lawful _ mono limit (work_with _ opened)
      (opened_inv _ old new r.old_lawful r.new_lawful _ r.order table r.least.0 r.least.1 opened r.opening);
  repair_is_not_over = λ old new table opened r mono mono' fine limit log whole fits. log_not_over _ new r.new_lawful _ mono' limit (work_with _ opened)
      (opened_inv _ old new r.old_lawful r.new_lawful _ r.order table r.least.0 r.least.1 opened r.opening)
      (opened_fit _ old new r.old_lawful r.new_lawful _ mono _ r.order table r.least.0 r.least.1 fine opened r.opening) log whole.legal fits whole.end;
}
