-- Lists as terms (ISO/IEC 13211-1:1995, 6.3.5): the atom `[]`, and cells '.'(Head,Tail).
use Rattle.std.specs.Prelude.{cond, nat_eq, Option, Some, None, option_map, List, [], ◌∷◌, map, codes}
use Rattle.std.specs.Cmp.Lexicographic.{pointwise}
use Rattle.plai_terms.specs.declared.term.Term.{Term, Var, Int, Atom, Compound, fold-Term}
use Rattle.plai_terms.specs.declared.term.Term.TheOpen.{Term-F}

-- the list of these items
abbrev pub list_of : List Term → Term
list_of [] = Atom (codes "[]")
list_of (t ∷ ts) = Compound (codes ".") (t ∷ list_of ts ∷ [])

-- one level, each part with its items: `[]` has none, and a cell has its head before the items of its tail
abbrev pub cell_items : List (Term × Option (List Term)) → Option (List Term)
cell_items (head ∷ tail ∷ []) = option_map (λ items. head.0 ∷ items) tail.1
cell_items _ = None

abbrev pub items_step : Term-F (Term × Option (List Term)) → Term × Option (List Term)
items_step (Term-F.Var v) = (Var v, None)
items_step (Term-F.Int n) = (Int n, None)
items_step (Term-F.Atom a) = (Atom a, cond (pointwise nat_eq a (codes "[]")) (Some []) None)
items_step (Term-F.Compound name parts) = (Compound name (map (λ p. p.0) parts), cond (pointwise nat_eq name (codes ".")) (cell_items parts) None)

abbrev pub with_items : Term → Term × Option (List Term)
with_items = fold-Term (Term × Option (List Term)) items_step

-- the items of a list that ends with `[]`
abbrev pub list_items : Term → Option (List Term)
list_items t = (with_items t).1
