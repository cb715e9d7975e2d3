use Rattle.std.proofs.Common.{◌≤◌, ◌∙◌, sym, ap, arith, rules, FitsSigned, to_z-of_z}
use Rattle.std.specs.Int.{w128}
use Rattle.plai_terms.specs.declared.skeleton.Skeleton.{Int, Atom}
use Rattle.plai_depth_laws.specs.Skeletons.{cut}
use Rattle.plai_depth_laws.proofs.CutEquations.{cut-of_Int, cut-of_Atom}
use Rattle.plai_depth.proofs.cuts.+cut.Goals as goal

pub cut-returns-in-Int : goal.cut-returns-in-Int
cut-returns-in-Int t c =
    let f : FitsSigned w128 c.in-Int.value = search rules in
    let l : 1 ≤ c.args.depth = omega arith in
    ap Int (to_z-of_z f) ∙ sym (ap (cut c.args.depth) c.in-Int.is ∙ cut-of_Int c.args.depth l c.in-Int.value f)

pub cut-returns-in_ok-copy-in-Atom : goal.cut-returns-in_ok-copy-in-Atom
cut-returns-in_ok-copy-in-Atom t c =
    let l : 1 ≤ c.args.depth = omega arith in
    ap Atom c.in_ok-copy-in-Atom.ensures ∙ sym (ap (cut c.args.depth) c.in-Atom.is ∙ cut-of_Atom c.args.depth l c.in-Atom.name)
