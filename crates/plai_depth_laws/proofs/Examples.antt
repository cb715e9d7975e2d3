-- Natural numbers and lists under terms cut at a depth, evaluated on literals.
use Rattle.std.proofs.Common.{◌≡◌, pos, [], ◌∷◌, Some, rules, codes}
use Rattle.plai_terms.specs.declared.term.Term as term
use Rattle.plai_terms.specs.declared.term.Term.{Var, Int as number, Atom as constant, Compound as structure}
use Rattle.plai_terms.specs.declared.skeleton.Skeleton.{Any, Integer, Int, Atom, the_lemmas}
use Rattle.plai_domain.specs.declared.action.Action.TheVariants.{BindInt}
use Rattle.plai_depth_laws.specs.DepthK.{state_with, depth_k}
use Rattle.plai_depth_laws.specs.Examples.{successor, cell, of_one, skeleton_of_one, skeleton_cell, one, two}

pub integers_joined : (depth_k 1).join (two (skeleton_of_one (codes "f") Any) (Int (pos 1))) (two (skeleton_of_one (codes "f") Any) (Int (pos 2)))
    ≡ two (skeleton_of_one (codes "f") Any) Integer
integers_joined = search (rules, the_lemmas)

pub fact_cut : (depth_k 1).exit (state_with 2 0 []) (of_one (codes "f") (constant (codes "a")) ∷ number (pos 1) ∷ [])
    ≡ two (skeleton_of_one (codes "f") Any) (Int (pos 1))
fact_cut = search (rules, the_lemmas, term.the_lemmas)

pub number_entered : ((depth_k 2).enter (one Any) (successor (Var 0) ∷ []) 1).value ≡ Some (state_with 1 1 (Any ∷ []))
number_entered = search (rules, the_lemmas, term.the_lemmas)

pub number_called : ((depth_k 2).call (state_with 1 1 (Any ∷ [])) (Var 0 ∷ [])).value ≡ one Any
number_called = search (rules, the_lemmas, term.the_lemmas)

pub number_back : ((depth_k 2).back (state_with 1 1 (Any ∷ [])) (Var 0 ∷ []) (one (Int (pos 0)))).value ≡ Some (state_with 1 1 (Int (pos 0) ∷ []))
number_back = search (rules, the_lemmas, term.the_lemmas)

pub number_left : (depth_k 2).exit (state_with 1 1 (Int (pos 0) ∷ [])) (successor (Var 0) ∷ []) ≡ one (skeleton_of_one (codes "s") (Int (pos 0)))
number_left = search (rules, the_lemmas, term.the_lemmas)

pub numbers_joined : (depth_k 2).join (one (Int (pos 0))) (one (skeleton_of_one (codes "s") (Int (pos 0)))) ≡ one Any
numbers_joined = search (rules, the_lemmas)

pub list_back : ((depth_k 2).back (state_with 2 4 (Any ∷ Any ∷ Any ∷ Any ∷ [])) (Var 1 ∷ Var 3 ∷ []) (two (Atom (codes "[]")) (Int (pos 0)))).value
    ≡ Some (state_with 2 4 (Any ∷ Atom (codes "[]") ∷ Any ∷ Int (pos 0) ∷ []))
list_back = search (rules, the_lemmas, term.the_lemmas)

pub list_counted : ((depth_k 2).refine (state_with 2 4 (Any ∷ Atom (codes "[]") ∷ Any ∷ Int (pos 0) ∷ []))
    (Var 2 ∷ structure (codes "+") (Var 3 ∷ number (pos 1) ∷ []) ∷ []) (BindInt 1)).value
    ≡ Some (state_with 2 4 (Any ∷ Atom (codes "[]") ∷ Integer ∷ Int (pos 0) ∷ []))
list_counted = search (rules, the_lemmas, term.the_lemmas)

pub list_left : (depth_k 2).exit (state_with 2 4 (Any ∷ Atom (codes "[]") ∷ Integer ∷ Int (pos 0) ∷ [])) (cell (Var 0) (Var 1) ∷ Var 2 ∷ [])
    ≡ two (skeleton_cell Any (Atom (codes "[]"))) Integer
list_left = search (rules, the_lemmas, term.the_lemmas)

pub lists_joined : (depth_k 2).join (two (Atom (codes "[]")) (Int (pos 0))) (two (skeleton_cell Any (Atom (codes "[]"))) Integer) ≡ two Any Integer
lists_joined = search (rules, the_lemmas)
