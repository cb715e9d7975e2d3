-- The two tests of an assertion at a row: that it holds, and that it fails.
use Rattle.std.specs.Prelude.{Bool, ◌||◌, List}
use Rattle.std.specs.List.{list_all}
use Rattle.plai_terms.specs.declared.prop.Prop.{Prop}
use Rattle.plai_terms.specs.declared.abs.Abs.{Abs}
use Rattle.plai_terms.specs.declared.plain_row.PlainRow.{PlainRow}
use Rattle.plai_domain.specs.Plain.{PlainDomain}
use Rattle.plai_clauses.specs.declared.check.Check.{Check}
use Rattle.plai_clauses.specs.declared.check.CheckKind.{CheckKind}
use Rattle.plai_clauses.specs.declared.check.CheckKind.TheVariants.{Calls, Success}
use Rattle.plai_assert.specs.declared.sides.Side.{Side}
use Rattle.plai_assert.specs.declared.sides.Side.TheVariants.{Holds, Fails}
use Rattle.plai_assert.specs.Verdicts.{entails_all, excludes_one, of_answer}

-- the pattern tells that side of the properties
abbrev pub tells : Side → PlainDomain → List Prop → Abs → Bool
tells Holds p props a = entails_all p props a
tells Fails p props a = excludes_one p props a

abbrev pub answer_tells : Side → PlainDomain → List Prop → Abs → Bool
answer_tells side p props = of_answer (tells side p props)

-- the call of the row does, of what is demanded of calls
abbrev pub holds_of_call : Side → PlainDomain → Check → PlainRow → Bool
holds_of_call side p check row = tells side p check.pre row.name.call

-- its answer does, of what is demanded of answers, or the row's call excludes what is demanded of calls
abbrev pub holds_of_answer : Side → PlainDomain → Check → PlainRow → Bool
holds_of_answer side p check row = excludes_one p check.pre row.name.call || answer_tells side p check.post row.answer

-- each of the rows does, by the kind of the assertion
abbrev pub all_tell : CheckKind → Side → PlainDomain → Check → List PlainRow → Bool
all_tell Calls side p check rows = list_all (holds_of_call side p check) rows
all_tell Success side p check rows = list_all (holds_of_answer side p check) rows
