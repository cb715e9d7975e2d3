-- There is at most one least table.
use Rattle.std.proofs.Common.{◌≡◌, List, [], ◌∷◌, map, Option, Some, None, sym, refl, ap, ◌∙◌}
use Rattle.plai_theory.specs.LeastTable.{Row, IsStrictOrder}
use Rattle.plai_theory.proofs.Same.{least_unique}
use Rattle.plai_terms.specs.declared.abs.Abs.{Abs}
use Rattle.plai_terms.specs.declared.abs.Abs.TheVariants.{Nothing, Pos, Groups, Terms}
use Rattle.plai_terms.specs.declared.plain_row.PlainRow.{PlainRow}
use Rattle.plai_terms.proofs.RowOrders.{name_total, before_itself}
use Rattle.plai_domain.specs.Plain.{PlainDomain}
use Rattle.plai_clauses.specs.Program.{ProgramView}
use Rattle.plai_eval.specs.Meaning.{row_name, as_domain, as_program}
use Rattle.plai_eval.specs.LeastTable.{answer_in, row_of, before, IsLeastTable}

-- the pattern of an answer, `Nothing` for none
abbrev back : Option Abs → Abs
back None = Nothing
back (Some a) = a

back_of : (a : Abs) → back (answer_in a) ≡ a
back_of Nothing = refl
back_of (Pos n masks) = refl
back_of (Groups n groups free) = refl
back_of (Terms skeletons) = refl

module _ (p : PlainDomain) where
  pub strict : IsStrictOrder (as_domain p) (before p)
  strict = record { irrefl = λ x. before_itself (row_name x); trans = λ x y z. name_total.trans (row_name x) (row_name y) (row_name z) }

  plain_of : Row (as_domain p) → PlainRow
  plain_of r = record { name = row_name r.name; answer = back r.answer }

  plain_back : (rows : List PlainRow) → map plain_of (map (row_of p) rows) ≡ rows
  unfolding plain_of
  plain_back [] = refl
  plain_back (r ∷ rows) = λ i. record { name = r.name; answer = back_of r.answer i } ∷ plain_back rows i

  -- Theorem: two least tables are equal.
  pub least_table_is_one : (g : ProgramView) (rows others : List PlainRow) → IsLeastTable p g rows → IsLeastTable p g others → rows ≡ others
  least_table_is_one g rows others a b =
      let same : map (row_of p) rows ≡ map (row_of p) others =
      least_unique (as_domain p) (as_program p g) (before p) strict (map (row_of p) rows) (map (row_of p) others) a b in
      sym (plain_back rows) ∙ ap (map plain_of) same ∙ plain_back others
