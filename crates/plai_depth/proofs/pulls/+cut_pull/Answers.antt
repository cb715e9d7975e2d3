use Rattle.std.proofs.Common.{◌≤◌, sym, ap, ◌∙◌, arith}
use Rattle.plai_terms.specs.declared.skeleton.Skeleton.{Atom}
use Rattle.plai_depth_laws.specs.Skeletons.{cut}
use Rattle.plai_depth_laws.specs.Moves.{pull}
use Rattle.plai_depth_laws.proofs.CutEquations.{cut-of_Atom}
use Rattle.plai_depth_laws.proofs.Moves.{pull-Atom}
use Rattle.plai_depth.proofs.pulls.+cut_pull.Goals as goal

pub cut_pull-returns-in_ok-copy-in-Atom : goal.cut_pull-returns-in_ok-copy-in-Atom
cut_pull-returns-in_ok-copy-in-Atom t c =
    let l : 1 ≤ c.args.depth = omega arith in
    let ss = c.args.skeletons.now in
    ap Atom c.in_ok-copy-in-Atom.ensures
    ∙ sym (ap (λ t. cut c.args.depth (pull ss t)) c.in-Atom.is ∙ ap (cut c.args.depth) (pull-Atom ss c.in-Atom.name)
    ∙ cut-of_Atom c.args.depth l c.in-Atom.name)
