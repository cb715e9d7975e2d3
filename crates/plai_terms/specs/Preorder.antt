-- The subterms of a term in preorder (Knuth, The Art of Computer Programming, volume 1, 2.3.2).
use Rattle.std.specs.Prelude.{List, [], ◌∷◌, map, flat_map}
use Rattle.std.specs.Borrow.{Bor}
use Rattle.plai_terms.specs.declared.term.Term.{Term, fold-Term, out-Term, Var, Int, Atom, Compound}
use Rattle.plai_terms.specs.declared.term.Term.TheOpen.{Term-F}

-- the arguments of a level
abbrev pub arguments : {A : Type 0} → Term-F A → List A
arguments (Term-F.Compound _ args) = args
arguments _ = []

-- the arguments of a compound; a variable, integer or atom has none
unfoldable pub arguments_of : Term → List Term
arguments_of t = arguments (out-Term t)

abbrev pub with_those : Term-F Term → List Term → Term
with_those (Term-F.Var v) _ = Var v
with_those (Term-F.Int n) _ = Int n
with_those (Term-F.Atom a) _ = Atom a
with_those (Term-F.Compound name _) args = Compound name args

-- a compound with other arguments; a variable, integer or atom as it is
unfoldable pub with_arguments : Term → List Term → Term
with_arguments t = with_those (out-Term t)

-- one level: a term and its subterms, each argument with its own
abbrev pub preorder_step : Term-F (Term × List Term) → Term × List Term
preorder_step (Term-F.Var v) = (Var v, Var v ∷ [])
preorder_step (Term-F.Int n) = (Int n, Int n ∷ [])
preorder_step (Term-F.Atom a) = (Atom a, Atom a ∷ [])
preorder_step (Term-F.Compound name args) =
    let t = Compound name (map (λ p. p.0) args) in
    (t, t ∷ flat_map (λ p. p.1) args)

-- a term with its subterms
abbrev pub with_preorder : Term → Term × List Term
with_preorder = fold-Term (Term × List Term) preorder_step

-- the term, and then the subterms of its arguments, from the first
abbrev pub preorder : Term → List Term
preorder t = (with_preorder t).1

-- the terms that references point at
abbrev pub referred : List (Bor Term) → List Term
referred = map (λ x. x.now)
