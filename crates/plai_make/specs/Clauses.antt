-- The clauses of a made program, as terms of ISO/IEC 13211-1:1995, 6.2 and 7.1, in the module `g`.
use Rattle.std.specs.Prelude.{ℕ, List, [], ◌∷◌, ◌++◌, decimal, codes}
use Rattle.plai_terms.specs.declared.pred_key.PredKey.{PredKey}
use Rattle.plai_terms.specs.declared.prop.Prop.TheVariants.{Ground}
use Rattle.plai_terms.specs.declared.term.Term.{Term, Var, Compound}
use Rattle.plai_clauses.specs.declared.clause.Clause.{Clause}
use Rattle.plai_clauses.specs.declared.clause.Literal.{Literal}
use Rattle.plai_clauses.specs.declared.clause.Target.TheVariants.{Pred}
use Rattle.plai_clauses.specs.declared.entry.Entry.{Entry}
use Rattle.plai_clauses.specs.declared.modules.Module.{Module}

-- the name of the module
abbrev pub home_name : List ℕ
home_name = codes "g"

-- the module exports and imports nothing
abbrev pub home : Module
home = record { name = home_name; exports = []; imports = [] }

-- the name of a predicate: `p` and its number
abbrev pub pred_name : ℕ → List ℕ
pred_name number = codes "p" ++ decimal number

-- each predicate has two arguments
abbrev pub key_of : ℕ → PredKey
key_of number = record { «module» = home_name; name = pred_name number; arity = 2 }

-- the arguments of a predicate's fact: `f(X),X`
abbrev pub fact_args : List Term
fact_args = Compound (codes "f") (Var 0 ∷ []) ∷ Var 0 ∷ []

-- `p(f(X),X)`
abbrev pub fact : ℕ → Clause
fact number = record { name = pred_name number; head = fact_args; variables = 1; body = [] }

abbrev pub goal : ℕ → ℕ → ℕ → Literal
goal number first second = record { name = pred_name number; args = Var first ∷ Var second ∷ []; target = Pred (key_of number) }

-- `p(X,Y) :- q(X,Z), r(Z,Y)`
abbrev pub rule : ℕ → ℕ → ℕ → Clause
rule number first second =
    record { name = pred_name number; head = Var 0 ∷ Var 1 ∷ []; variables = 3; body = goal first 0 2 ∷ goal second 2 1 ∷ [] }

-- `p0(X,Y)`, where X is ground
abbrev pub entry : Entry
entry = record { «module» = home_name; pred = key_of 0; pre = Ground 1 ∷ [] }
