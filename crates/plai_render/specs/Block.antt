-- The text of a table: a block of lines, one for each row, in the functional notation of ISO/IEC 13211-1:1995, 6.3.3 for names.
use Rattle.std.specs.Prelude.{ℕ, ◌+◌, List, [], ◌∷◌, ◌++◌, map, flat_map, decimal, codes, nat_eq, if◌then◌else◌}
use Rattle.std.specs.Cmp.Lexicographic.{pointwise}
use Rattle.plai_terms.specs.declared.plain_row.PlainRow.{PlainRow}
use Rattle.plai_terms.specs.declared.pred_key.PredKey.{PredKey}
use Rattle.plai_terms.specs.Atom.{atom_text, name_text}
use Rattle.plai_clauses.specs.declared.check.Check.{Check}
use Rattle.plai_assert.specs.declared.verdict.Verdict.{Verdict}
use Rattle.plai_assert.specs.declared.verdict.Verdict.TheVariants.{Checked, False, Check as Unknown}
use Rattle.plai_render.specs.declared.text_row.TextRow.{TextRow}
use Rattle.plai_render.specs.Texts.{text_of}

-- `M:P/A`
abbrev pub pred_text : PredKey → List ℕ
pred_text pred = name_text pred.module ++ codes ":" ++ name_text pred.name ++ codes "/" ++ decimal pred.arity

-- `row M:P/A call C answer R`, and the end of the line
abbrev pub row_text : TextRow → List ℕ
row_text row = codes "row " ++ pred_text row.pred ++ codes " call " ++ row.call ++ codes " answer " ++ row.answer ++ 10 ∷ []

abbrev pub verdict_text : Verdict → List ℕ
verdict_text Checked = codes "checked"
verdict_text False = codes "false"
verdict_text Unknown = codes "check"

-- `check M N V`, and the end of the line
abbrev pub check_text : List ℕ → ℕ → Verdict → List ℕ
check_text home number verdict = codes "check " ++ atom_text home ++ codes " " ++ decimal number ++ codes " " ++ verdict_text verdict ++ 10 ∷ []

-- the number of an assertion of a module, behind one of that module and number: the next, or the first of its module
abbrev pub number_behind : List ℕ → ℕ → List ℕ → ℕ
number_behind before number home = if pointwise nat_eq before home then number + 1 else 1

-- a line for each assertion with its verdict, behind one of that module and number
abbrev pub checks_text_behind : List ℕ → ℕ → List Check → List Verdict → List ℕ
checks_text_behind before number [] verdicts = []
checks_text_behind before number (check ∷ checks) [] = []
checks_text_behind before number (check ∷ checks) (verdict ∷ verdicts) =
    let own = number_behind before number check.module in
    check_text check.module own verdict ++ checks_text_behind check.module own checks verdicts

-- a line for each assertion; those of a module stand together, and are numbered from 1
abbrev pub checks_text : List Check → List Verdict → List ℕ
checks_text = checks_text_behind [] 0

-- the line `edit K`, a line for each row, one for each assertion, and the line `end`
abbrev pub lines_text : ℕ → List TextRow → List Check → List Verdict → List ℕ
lines_text number rows checks verdicts =
    codes "edit " ++ decimal number ++ 10 ∷ [] ++ flat_map row_text rows ++ checks_text checks verdicts ++ codes "end" ++ 10 ∷ []

-- the block of a table
abbrev pub block_text : ℕ → List PlainRow → List Check → List Verdict → List ℕ
block_text number rows checks verdicts = lines_text number (map text_of rows) checks verdicts
