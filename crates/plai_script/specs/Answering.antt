-- What calls answer for an outcome. Without memory they say nothing.
use Rattle.std.specs.Prelude.{◌≡◌, ℕ, Option, Some, None, Result, Ok, Err, List, [], ◌∷◌, ◌++◌}
use Rattle.std.proofs.Common.{Vec, Global}
use Rattle.plai_lex.specs.declared.token.Token.{Token}
use Rattle.plai_lex.specs.Tokens.{Tokens, with_tokens}
use Rattle.plai_clauses.specs.Program.{ProgramView}
use Rattle.plai_clauses.specs.declared.edit_cause.EditCause.{EditCause}
use Rattle.plai_clauses.specs.declared.edit_cause.EditCause.TheVariants.{Syntax}
use Rattle.plai_sources.specs.declared.cause.LoadCause.{LoadCause}
use Rattle.plai_sources.specs.declared.cause.LoadCause.TheVariants.{Lex}
use Rattle.plai_sources.specs.Answering.{IsWhole}
use Rattle.plai_script.specs.declared.edit.Edit.{Edit}
use Rattle.plai_script.specs.declared.fail.EditFail.{EditFail}
use Rattle.plai_script.specs.declared.fail.EditFail.TheVariants.{Memory, Refused}
use Rattle.plai_script.specs.declared.fail.ScriptFail.{ScriptFail}
use Rattle.plai_script.specs.declared.fail.ScriptFail.TheVariants as script
use Rattle.plai_script.specs.Scripts.{ScriptRefusal, script_of_tokens}

-- the value, or the cause why there is none
abbrev pub Answers : {A : Type 0} → Result A EditCause → Result A EditFail → Type 0
Answers outcome (Ok x) = outcome ≡ Ok x
Answers outcome (Err (Refused cause)) = outcome ≡ Err cause
Answers outcome (Err Memory) = Unit {0}

-- the program is the one there is, or there is none, for this cause
abbrev pub Leaves : Result ProgramView EditCause → ProgramView → Result (Unit {0}) EditFail → Type 0
Leaves outcome program (Ok _) = outcome ≡ Ok program
Leaves outcome program (Err (Refused cause)) = outcome ≡ Err cause
Leaves outcome program (Err Memory) = Unit {0}

-- the items of a script, or the first place without a token
abbrev pub AnswersScript : Result (List (Result Edit EditCause)) ScriptRefusal → Result (Vec (Result Edit EditCause) Global) ScriptFail → Type 0
AnswersScript outcome (Ok v) = outcome ≡ Ok v.items
AnswersScript outcome (Err (script.Lex term cause at)) = outcome ≡ Err (record { term = term; cause = cause; at = at })
AnswersScript outcome (Err script.Memory) = Unit {0}

-- items behind others, or the refusal
abbrev pub behind : List (Result Edit EditCause) → Result (List (Result Edit EditCause)) ScriptRefusal → Result (List (Result Edit EditCause)) ScriptRefusal
behind items (Ok more) = Ok (items ++ more)
behind items (Err refusal) = Err refusal

-- The tokens of the next term, of that number, are taken; or the script ends, where what is left may be one more item; or
-- it is refused.
abbrev pub TakesTerm : ℕ → Tokens → Tokens → List (Result Edit EditCause) → List (Result Edit EditCause) → Result (Option (Vec Token Global)) ScriptFail → Type 0
TakesTerm number old new before after (Ok (Some v)) = IsWhole v.items × (old ≡ with_tokens v.items new) × (after ≡ before)
TakesTerm number old new before after (Ok None) = behind before (script_of_tokens number old) ≡ Ok after
TakesTerm number old new before after (Err (script.Lex term cause at)) = script_of_tokens number old ≡ Err (record { term = term; cause = cause; at = at })
TakesTerm number old new before after (Err script.Memory) = Unit {0}

-- what the end of a script says that is no whole term of that number, by what refuses the term
abbrev pub ended_by : ℕ → LoadCause → Result (List (Result Edit EditCause)) ScriptRefusal
ended_by number (Lex cause at) = Err (record { term = number; cause = cause; at = at })
ended_by number _ = Ok (Err Syntax ∷ [])

abbrev pub Stops : ℕ → LoadCause → List (Result Edit EditCause) → List (Result Edit EditCause) → Result (Option (Vec Token Global)) ScriptFail → Type 0
Stops number refusing before after (Ok (Some v)) = ⊥
Stops number refusing before after (Ok None) = behind before (ended_by number refusing) ≡ Ok after
Stops number refusing before after (Err (script.Lex term cause at)) = ended_by number refusing ≡ Err (record { term = term; cause = cause; at = at })
Stops number refusing before after (Err script.Memory) = Unit {0}
