-- Tables that rounds make from nothing: rows are added where a name is called, and answers are raised by evaluations, in any order.
use Rattle.std.specs.Prelude.{◌⊎◌, cond, List, [], ◌∷◌, ◌++◌, map, Option, None}
use Rattle.plai_theory.specs.Words.{IsIn}
use Rattle.plai_theory.specs.Domain.{Domain, Program}
use Rattle.plai_theory.specs.Evaluation.{NameOf, answer_of, calls_of, join_of}
use Rattle.plai_theory.specs.LeastTable.{Row}
use Rattle.plai_theory.specs.Tables.{source_of}

-- an entry's name, or one that a clause of a row calls under the rows
abbrev pub IsAsked : (d : Domain) → Program d → List (Row d) → NameOf d → Type 0
IsAsked d g rows x =
    IsIn x g.entries
    ⊎ ((r : Row d) × IsIn r rows × ((c : d.Clause) × IsIn c (g.clauses r.name.pred) × IsIn x (calls_of d (source_of d rows) c r.name.call)))

-- the row of x has its answer joined with a
abbrev pub after_raising : (d : Domain) → NameOf d → Option d.Value → Row d → Row d
after_raising d x a r = record { name = r.name; answer = cond (d.same_name r.name x) (join_of d r.answer a) r.answer }

-- What rounds may make. `seen` is the table under which they evaluate: the present one, or that of the round's start.
pub data IsMade (d : Domain) (g : Program d) : List (Row d) → Type 0 where
  Begin : IsMade d g []
  Add : {rows seen : List (Row d)} (x : NameOf d) → IsMade d g rows → IsMade d g seen → IsAsked d g seen x
      → IsMade d g (rows ++ record { name = x; answer = None } ∷ [])
  Raise : {rows seen : List (Row d)} (x : NameOf d) (c : d.Clause) → IsMade d g rows → IsMade d g seen → IsIn c (g.clauses x.pred)
      → IsMade d g (map (after_raising d x (answer_of d (source_of d seen) c x.call)) rows)
