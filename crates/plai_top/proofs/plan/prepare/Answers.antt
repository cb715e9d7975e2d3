use Rattle.plai_top.proofs.Deciding.{files_decide, loading_decides, loading_prepares}
use Rattle.plai_top.proofs.plan.prepare.Goals as goal

pub returns-in-Ok-load_files-clause-outcome : goal.returns-in-Ok-load_files-clause-outcome
returns-in-Ok-load_files-clause-outcome g c = λ words command.
    rw c.task_of.ensures
    (loading_prepares words _ command _ c.as_slice.ensures c.in-Ok.files.items _ c.as_slice-in-Ok.ensures.value c.in-Ok.ensures.names
    _ c.in-Ok.ensures.texts c.in-Ok.ensures.told_short _ c.in-Ok-load_files.ensures.loading)

pub returns-in-Ok-load_files-clause-depth : goal.returns-in-Ok-load_files-clause-depth
returns-in-Ok-load_files-clause-depth g c = rw c.task_of.ensures (c.requires.fit.0, c.requires.fit.1)

pub returns-in-Ok-clause-outcome : goal.returns-in-Ok-clause-outcome
returns-in-Ok-clause-outcome g c = λ words command.
    loading_decides words _ command _ c.as_slice.ensures c.in-Ok.files.items _ c.as_slice-in-Ok.ensures.value c.in-Ok.ensures.names
    _ c.in-Ok.ensures.texts c.in-Ok.ensures.told_short _ c.in-Err-load_files.ensures.stop

pub returns-clause-outcome : goal.returns-clause-outcome
returns-clause-outcome g c = λ words command. files_decide words _ command _ c.as_slice.ensures _ _ c.in-Err.ensures.stop
