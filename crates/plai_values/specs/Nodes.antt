-- The order of terms without their arguments, by which the standard order compares two terms subterm by subterm, in preorder.
use Rattle.std.specs.Prelude.{Bool, true, false, length}
use Rattle.std.specs.declared.cmp.Ordering.{Ordering}
use Rattle.std.specs.declared.cmp.Ordering.TheVariants.{Less, Greater}
use Rattle.std.specs.Ordering.{ordering_then, nat_cmp, int_cmp}
use Rattle.plai_terms.specs.RowOrder.{text_order}
use Rattle.plai_terms.specs.declared.term.Term.{Term, out-Term}
use Rattle.plai_terms.specs.declared.term.Term.TheOpen.{Term-F}

abbrev pub node_level : Term-F Term → Term-F Term → Ordering
node_level (Term-F.Var v) (Term-F.Var w) = nat_cmp v w
node_level (Term-F.Var v) _ = Less
node_level _ (Term-F.Var w) = Greater
node_level (Term-F.Int m) (Term-F.Int n) = int_cmp m n
node_level (Term-F.Int m) _ = Less
node_level _ (Term-F.Int n) = Greater
node_level (Term-F.Atom a) (Term-F.Atom b) = text_order a b
node_level (Term-F.Atom a) _ = Less
node_level _ (Term-F.Atom b) = Greater
node_level (Term-F.Compound a xs) (Term-F.Compound b ys) = ordering_then (nat_cmp (length xs) (length ys)) (text_order a b)

-- by kind, a variable's number, an integer's value, the number of arguments and the name
abbrev pub node_order : Term → Term → Ordering
node_order t u = node_level (out-Term t) (out-Term u)

abbrev pub no_variable_in : Term-F Term → Bool
no_variable_in (Term-F.Var v) = false
no_variable_in _ = true

-- the term itself is no variable
abbrev pub is_no_variable : Term → Bool
is_no_variable t = no_variable_in (out-Term t)
