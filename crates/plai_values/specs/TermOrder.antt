-- The standard order of terms (ISO/IEC 13211-1:1995, 7.2): variables by number, integers, atoms by their bytes, compounds by
-- number of arguments, name and arguments from the left.
use Rattle.std.specs.Prelude.{length, Bool}
use Rattle.std.specs.declared.cmp.Ordering.{Ordering}
use Rattle.std.specs.Ordering.{ordering_then, nat_cmp, int_cmp}
use Rattle.std.specs.declared.cmp.Ordering.TheVariants.{Less, Greater}
use Rattle.std.specs.Cmp.Lexicographic.{slice_cmp}
use Rattle.plai_terms.specs.RowOrder.{text_order}
use Rattle.plai_terms.specs.declared.term.Term.{Term, fold-Term, out-Term}
use Rattle.plai_terms.specs.declared.term.Term.TheOpen.{Term-F}
use Rattle.plai_values.specs.declared.comparison.Comparison.{Comparison}
use Rattle.plai_values.specs.Values.{holds_of}

-- one level, whose arguments are orders already, against another level
abbrev pub level_order : Term-F (Term → Ordering) → Term-F Term → Ordering
level_order (Term-F.Var v) (Term-F.Var w) = nat_cmp v w
level_order (Term-F.Var v) _ = Less
level_order _ (Term-F.Var w) = Greater
level_order (Term-F.Int m) (Term-F.Int n) = int_cmp m n
level_order (Term-F.Int m) _ = Less
level_order _ (Term-F.Int n) = Greater
level_order (Term-F.Atom a) (Term-F.Atom b) = text_order a b
level_order (Term-F.Atom a) _ = Less
level_order _ (Term-F.Atom b) = Greater
level_order (Term-F.Compound a orders) (Term-F.Compound b terms) =
    ordering_then (nat_cmp (length orders) (length terms))
    (ordering_then (text_order a b) (slice_cmp (λ order t. order t) orders terms))

-- how a term stands to another
abbrev pub term_order : Term → Term → Ordering
term_order = fold-Term (Term → Ordering) (λ x u. level_order x (out-Term u))

-- the comparison holds of two terms in the standard order (8.4)
abbrev pub compares_terms : Comparison → Term → Term → Bool
compares_terms c t u = holds_of c (term_order t u)
