-- Lists of rows as a source of answers, and closed lists: those that no evaluation changes.
use Rattle.std.specs.Prelude.{◌≡◌, cond, List, [], ◌∷◌, None}
use Rattle.plai_theory.specs.Words.{IsIn, UpTo}
use Rattle.plai_theory.specs.Domain.{Domain, Program}
use Rattle.plai_theory.specs.Evaluation.{Source, NameOf, name_of, answer_of, calls_of}
use Rattle.plai_theory.specs.LeastTable.{Row}

-- the answer of the row with that name, and none where there is no such row
abbrev pub source_of : (d : Domain) → List (Row d) → Source d
source_of d [] p v = None
source_of d (r ∷ rows) p v = cond (d.same_name r.name (name_of d p v)) r.answer (source_of d rows p v)

abbrev pub HasName : (d : Domain) → List (Row d) → NameOf d → Type 0
HasName d rows x = (r : Row d) × IsIn r rows × (r.name ≡ x)

-- no two rows have one name
abbrev pub IsDistinct : (d : Domain) → List (Row d) → Type 0
IsDistinct d [] = Unit {0}
IsDistinct d (r ∷ rows) = ((q : Row d) → IsIn q rows → r.name ≡ q.name → ⊥) × IsDistinct d rows

-- Each entry and each called name has a row, and no evaluation of a row gives more than its answer.
pub record IsClosed (d : Domain) (g : Program d) (rows : List (Row d)) : Type 0 where
  pub distinct : IsDistinct d rows
  pub entries : (x : NameOf d) → IsIn x g.entries → HasName d rows x
  pub calls : (r : Row d) → IsIn r rows → (c : d.Clause) → IsIn c (g.clauses r.name.pred) → (x : NameOf d)
      → IsIn x (calls_of d (source_of d rows) c r.name.call) → HasName d rows x
  pub answers : (r : Row d) → IsIn r rows → (c : d.Clause) → IsIn c (g.clauses r.name.pred)
      → UpTo (d.leq r.name.pred) (answer_of d (source_of d rows) c r.name.call) r.answer
