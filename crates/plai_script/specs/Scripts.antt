-- A script: its text is split into terms at the full stops (ISO/IEC 13211-1:1995, 6.2 and 6.4), each is read with the standard
-- operators, and each is an edit or has a cause why it is none. A place without a token refuses the whole script.
use Rattle.std.specs.Prelude.{ℕ, ◌+◌, Option, Some, None, ok_or, Result, Ok, Err, List, [], ◌∷◌, ◌++◌, map, length}
use Rattle.plai_lex.specs.declared.token.Token.{Token}
use Rattle.plai_lex.specs.declared.fail.LexCause.{LexCause}
use Rattle.plai_lex.specs.Tokens.{Failure, Tokens, tokens_of}
use Rattle.plai_terms.specs.declared.read_term.ReadTerm.{ReadTerm}
use Rattle.plai_clauses.specs.declared.edit_cause.EditCause.{EditCause}
use Rattle.plai_clauses.specs.declared.edit_cause.EditCause.TheVariants as cause
use Rattle.plai_reader.specs.declared.fail.ReadTermFail.{ReadTermFail}
use Rattle.plai_reader.specs.declared.fail.ReadTermFail.TheVariants as reading
use Rattle.plai_reader.specs.Operators.{standard}
use Rattle.plai_reader.specs.Limits.{answer_of}
use Rattle.plai_sources.specs.Items.{Split, split}
use Rattle.plai_script.specs.declared.edit.Edit.{Edit}
use Rattle.plai_script.specs.Shapes.{edit_of}

-- why a script is refused: the number of the term, from 1, in which a place has no token, the cause and the place
pub record ScriptRefusal : Type 0 where
  pub term : ℕ
  pub cause : LexCause
  pub at : ℕ

abbrev pub cause_of : ReadTermFail → EditCause
cause_of reading.TooDeep = cause.TooDeep
cause_of reading.ArityTooLarge = cause.TermArity
cause_of _ = cause.Syntax

abbrev pub item_from : Result ReadTerm ReadTermFail → Result Edit EditCause
item_from (Err fail) = Err (cause_of fail)
item_from (Ok read) = ok_or (edit_of read) cause.BadEdit

-- the edit of a term's tokens, or why they are none
abbrev pub item_of : List Token → Result Edit EditCause
item_of tokens = item_from (answer_of standard tokens)

-- tokens behind the last full stop are a term that is cut off
abbrev pub last_items : List Token → List (Result Edit EditCause)
last_items [] = []
last_items (x ∷ xs) = Err cause.Syntax ∷ []

abbrev pub items_of_split : Split → List (Result Edit EditCause)
items_of_split s = map item_of s.terms ++ last_items s.rest

abbrev pub script_under : Option Failure → ℕ → Split → Result (List (Result Edit EditCause)) ScriptRefusal
script_under (Some failure) number s = Err (record { term = number + length s.terms; cause = failure.cause; at = failure.at })
script_under None number s = Ok (items_of_split s)

-- what tokens say, the first term of them having that number
abbrev pub script_of_tokens : ℕ → Tokens → Result (List (Result Edit EditCause)) ScriptRefusal
script_of_tokens number tokens = script_under tokens.failure number (split tokens.tokens)

-- the edits of a script, each or the cause why there is none, or the first place without a token
unfoldable pub script_of : List ℕ → Result (List (Result Edit EditCause)) ScriptRefusal
script_of text = script_of_tokens 1 (tokens_of text)
