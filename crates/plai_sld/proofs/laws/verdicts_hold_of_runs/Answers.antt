use Rattle.plai_sld.proofs.Theorem.{closed_describes}
use Rattle.plai_sld.proofs.Verdicts.{has_entry, verdict_kept}
use Rattle.plai_sld.proofs.laws.verdicts_hold_of_runs.Goals as goal

pub returns : goal.returns
returns g c =
    let p = g.T.AnyPlainDomain.plain in
    let meant = c.meanings_are_allowed.ensures.allowed in
    record {
      goals = λ domain sound program formed. has_entry (p domain) program formed sound;
      verdicts = λ domain lawful sound program formed rows closed. verdict_kept (p domain) program formed sound rows
          (closed_describes (p domain) meant lawful sound program formed rows closed);
    }
