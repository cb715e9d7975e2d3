-- The signature of a program: the integers, atoms and functors that stand in its clauses, over which its Herbrand universe is made
-- (Lloyd 1987; Sato and Tamaki 1984).
use Rattle.std.specs.Prelude.{ℕ, ℤ, List, [], ◌∷◌, ◌++◌, length}
use Rattle.std.specs.List.{flat_map}
use Rattle.plai_terms.specs.declared.term.Term.{Term, fold-Term}
use Rattle.plai_terms.specs.declared.term.Term.TheOpen.{Term-F}
use Rattle.plai_clauses.specs.declared.clause.Clause.{Clause}
use Rattle.plai_clauses.specs.declared.clause.Literal.{Literal}
use Rattle.plai_clauses.specs.declared.definition.Definition.{Definition}
use Rattle.plai_clauses.specs.Program.{ProgramView}

-- an integer, an atom, or a functor: a name and a number of arguments
pub data Symbol : Type 0 where
  Number : ℤ → Symbol
  Constant : List ℕ → Symbol
  Functor : List ℕ → ℕ → Symbol

-- one level, whose arguments have their symbols already
abbrev pub term_step : Term-F (List Symbol) → List Symbol
term_step (Term-F.Var v) = []
term_step (Term-F.Int n) = Number n ∷ []
term_step (Term-F.Atom name) = Constant name ∷ []
term_step (Term-F.Compound name found) = Functor name (length found) ∷ flat_map (λ symbols. symbols) found

-- the symbols that stand in a term
abbrev pub term_symbols : Term → List Symbol
term_symbols = fold-Term (List Symbol) term_step

-- those of a literal's arguments
abbrev pub literal_symbols : Literal → List Symbol
literal_symbols literal = flat_map term_symbols literal.args

-- those of the head's arguments, and of the body's literals
abbrev pub clause_symbols : Clause → List Symbol
clause_symbols clause = flat_map term_symbols clause.head ++ flat_map literal_symbols clause.body

abbrev pub definition_symbols : Definition → List Symbol
definition_symbols definition = flat_map clause_symbols definition.clauses

-- those of all clauses of the program
abbrev pub signature_of : ProgramView → List Symbol
signature_of program = flat_map definition_symbols program.definitions
