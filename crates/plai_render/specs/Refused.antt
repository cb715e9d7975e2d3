-- The text of an edit that is refused: a block with one line that names the cause. Names are written as in ISO/IEC
-- 13211-1:1995, 7.10.5.
use Rattle.std.specs.Prelude.{ℕ, ℤ, List, [], ◌∷◌, ◌++◌, decimal, codes}
use Rattle.std.specs.Fmt.{signed_decimal}
use Rattle.plai_terms.specs.Atom.{atom_text}
use Rattle.plai_clauses.specs.declared.cause.ClauseCause.{ClauseCause}
use Rattle.plai_clauses.specs.declared.cause.ClauseCause.TheVariants as clause
use Rattle.plai_clauses.specs.declared.edit_cause.EditCause.{EditCause}
use Rattle.plai_clauses.specs.declared.edit_cause.EditCause.TheVariants.{Syntax, TooDeep, TermArity, BadEdit, UnknownModule, Clause, BadProperty, NoSuchClause, NoSuchEntry, NoSuchCheck, ImportClash, TooManyItems}

-- a name and a number of arguments
unfoldable pub key_text : List ℕ → ℕ → List ℕ
key_text name arity = atom_text name ++ codes "/" ++ decimal arity

-- why a term says no clause
abbrev pub clause_cause_text : ClauseCause → List ℕ
clause_cause_text clause.NotAClause = codes "not_a_clause"
clause_cause_text (clause.Unsupported name arity) = codes "unsupported " ++ key_text name arity
clause_cause_text (clause.ArityTooLarge arity) = codes "pred_arity " ++ decimal arity
clause_cause_text (clause.TooManySlots count) = codes "too_many_slots " ++ decimal count

-- the number that is asked for, and how many there are
abbrev pub missing_text : ℤ → ℕ → List ℕ
missing_text asked there = signed_decimal asked ++ codes " " ++ decimal there

-- why an edit is refused
abbrev pub edit_cause_text : EditCause → List ℕ
edit_cause_text Syntax = codes "syntax"
edit_cause_text TooDeep = codes "too_deep"
edit_cause_text TermArity = codes "term_arity"
edit_cause_text BadEdit = codes "bad_edit"
edit_cause_text UnknownModule = codes "unknown_module"
edit_cause_text (Clause cause) = clause_cause_text cause
edit_cause_text BadProperty = codes "bad_property"
edit_cause_text (NoSuchClause asked there) = codes "no_such_clause " ++ missing_text asked there
edit_cause_text (NoSuchEntry asked there) = codes "no_such_entry " ++ missing_text asked there
edit_cause_text (NoSuchCheck asked there) = codes "no_such_check " ++ missing_text asked there
edit_cause_text ImportClash = codes "import_clash"
edit_cause_text TooManyItems = codes "too_many_items"

-- the line `edit K`, the line `refused CAUSE`, and the line `end`
abbrev pub refused_text : ℕ → EditCause → List ℕ
refused_text number cause = codes "edit " ++ decimal number ++ 10 ∷ [] ++ codes "refused " ++ edit_cause_text cause ++ 10 ∷ [] ++ codes "end" ++ 10 ∷ []
