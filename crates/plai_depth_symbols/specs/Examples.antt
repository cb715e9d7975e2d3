-- A program for an example: numbers made of `0` and `s` (Sato and Tamaki 1984).
use Rattle.std.specs.Prelude.{[], ◌∷◌, pos, codes}
use Rattle.plai_terms.specs.declared.term.Term.{Var, Int}
use Rattle.plai_terms.specs.declared.pred_key.PredKey.{PredKey}
use Rattle.plai_clauses.specs.declared.clause.Clause.{Clause}
use Rattle.plai_clauses.specs.declared.clause.Literal.{Literal}
use Rattle.plai_clauses.specs.declared.clause.Target.TheVariants.{Pred}
use Rattle.plai_clauses.specs.Program.{ProgramView, one_module}
use Rattle.plai_depth_laws.specs.Examples.{successor}

-- `n/1` of the module `m`
abbrev pub number : PredKey
number = record { «module» = codes "m"; name = codes "n"; arity = 1 }

-- `n(X)`
abbrev pub of_first : Literal
of_first = record { name = codes "n"; args = Var 0 ∷ []; target = Pred number }

-- `n(0).`
abbrev pub at_zero : Clause
at_zero = record { name = codes "n"; head = Int (pos 0) ∷ []; variables = 0; body = [] }

-- `n(s(X)) :- n(X).`
abbrev pub at_successor : Clause
at_successor = record { name = codes "n"; head = successor (Var 0) ∷ []; variables = 1; body = of_first ∷ [] }

abbrev pub numbers : ProgramView
numbers = one_module (codes "m") (at_zero ∷ at_successor ∷ []) []
