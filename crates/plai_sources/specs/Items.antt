-- The items of a file (ISO/IEC 13211-1:1995, 6.2.1 and 7.4): its text is split into terms at the full stops, each term is read with
-- the operators as the terms before it left them, and what each says is kept in order. The first term that is refused refuses the file.
use Rattle.std.specs.Prelude.{ℕ, ◌+◌, Bool, true, false, cond, nat_lt, Option, Some, None, ok_or, Result, Ok, Err, List, [], ◌∷◌, ◌++◌}
use Rattle.plai_lex.specs.declared.token.Token.{Token}
use Rattle.plai_lex.specs.Tokens.{Failure, Tokens, tokens_of}
use Rattle.plai_terms.specs.declared.read_term.ReadTerm.{ReadTerm}
use Rattle.plai_reader.specs.declared.fail.ReadTermFail.{ReadTermFail}
use Rattle.plai_reader.specs.declared.fail.ReadTermFail.TheVariants as reading
use Rattle.plai_reader.specs.Operators.{Table, standard}
use Rattle.plai_reader.specs.Roles.{is_end}
use Rattle.plai_reader.specs.Limits.{answer_of}
use Rattle.plai_sources.specs.declared.cause.LoadCause.{LoadCause}
use Rattle.plai_sources.specs.declared.cause.LoadCause.TheVariants as cause
use Rattle.plai_sources.specs.declared.items.Header.{Header}
use Rattle.plai_sources.specs.declared.items.Item.{Item}
use Rattle.plai_sources.specs.declared.items.Item.TheVariants as item
use Rattle.plai_sources.specs.declared.reading.Reading.{Reading}
use Rattle.plai_sources.specs.declared.items.FileItems.{FileItems}
use Rattle.plai_sources.specs.Directives.{Said, header_of, said_by}

-- why a file is refused: at which term, from 1, and the cause
pub record Refusal : Type 0 where
  pub term : ℕ
  pub cause : LoadCause

abbrev pub refusal : ℕ → LoadCause → Refusal
refusal term c = record { term = term; cause = c }

-- the tokens of the terms, each up to and with its full stop, and the tokens behind the last full stop
pub record Split : Type 0 where
  pub terms : List (List Token)
  pub rest : List Token

abbrev pub with_first : Token → List (List Token) → List Token → Split
with_first x [] rest = record { terms = []; rest = x ∷ rest }
with_first x (t ∷ ts) rest = record { terms = (x ∷ t) ∷ ts; rest = rest }

abbrev pub split : List Token → Split
split [] = record { terms = []; rest = [] }
split (x ∷ xs) =
    cond (is_end x.kind) (record { terms = (x ∷ []) ∷ (split xs).terms; rest = (split xs).rest })
    (with_first x (split xs).terms (split xs).rest)

-- What refuses the term behind the last full stop, if there is one: a place without a token, else that the term has no end.
abbrev pub unended : List Token → Option LoadCause
unended [] = None
unended (x ∷ xs) = Some cause.Syntax

abbrev pub last_cause : Option Failure → List Token → Option LoadCause
last_cause (Some failure) rest = Some (cause.Lex failure.cause failure.at)
last_cause None rest = unended rest

abbrev pub begun : ℕ → Reading
begun there = record { operators = standard; header = None; items = []; count = there }

-- the greatest number of clauses, entries and checks of a program
abbrev pub most_items : ℕ
most_items = 65536

-- an import is none of them
abbrev pub is_counted : Item → Bool
is_counted (item.UseModule name keys) = false
is_counted (item.Entry e) = true
is_counted (item.Check c) = true
is_counted (item.Clause read) = true

-- the file with one more item, of the term of that number
abbrev pub placed : Reading → ℕ → Item → ℕ → Reading
placed r number i count = record { operators = r.operators; header = r.header; items = r.items ++ record { term = number; item = i } ∷ []; count = count }

abbrev pub with_item : Reading → ℕ → Item → Result Reading LoadCause
with_item r number i =
    cond (is_counted i)
    (cond (nat_lt r.count most_items) (Ok (placed r number i (r.count + 1))) (Err cause.TooManyItems))
    (Ok (placed r number i r.count))

abbrev pub with_item_if : Reading → ℕ → Option Item → Result Reading LoadCause
with_item_if r number None = Ok r
with_item_if r number (Some i) = with_item r number i

abbrev pub under : Table → Reading → Reading
under table r = record { operators = table; header = r.header; items = r.items; count = r.count }

-- the file with what a term of that number says
abbrev pub with_said : Reading → ℕ → Result Said LoadCause → Result Reading LoadCause
with_said r number (Err c) = Err c
with_said r number (Ok said) = with_item_if (under said.operators r) number said.item

abbrev pub with_header : Reading → Result Header LoadCause → Result Reading LoadCause
with_header r (Err c) = Err c
with_header r (Ok h) = Ok (record { operators = r.operators; header = Some h; items = r.items; count = r.count })

-- the first term is the module, each other one a directive or a clause
abbrev pub with_term_under : Option Header → Reading → ℕ → ReadTerm → Result Reading LoadCause
with_term_under None r number read = with_header r (ok_or (header_of read.term) cause.NoModule)
with_term_under (Some h) r number read = with_said r number (said_by h.module r.operators read)

abbrev pub with_term : Reading → ℕ → ReadTerm → Result Reading LoadCause
with_term r number read = with_term_under r.header r number read

abbrev pub cause_of : ReadTermFail → LoadCause
cause_of reading.TooDeep = cause.TooDeep
cause_of reading.ArityTooLarge = cause.TermArity
cause_of _ = cause.Syntax

abbrev pub with_answer : Reading → ℕ → Result ReadTerm ReadTermFail → Result Reading LoadCause
with_answer r number (Err fail) = Err (cause_of fail)
with_answer r number (Ok read) = with_term r number read

-- the file with the term of these tokens
abbrev pub with_tokens : Reading → ℕ → List Token → Result Reading LoadCause
with_tokens r number tokens = with_answer r number (answer_of r.operators tokens)

-- a file that is read to its end; one without terms has no module
abbrev pub finished_under : Option Header → Reading → Result FileItems Refusal
finished_under None r = Err (refusal 1 cause.NoModule)
finished_under (Some h) r = Ok (record { «module» = h.module; exports = h.exports; items = r.items; count = r.count })

abbrev pub finished : Reading → Result FileItems Refusal
finished r = finished_under r.header r

abbrev pub ended_by : Reading → ℕ → Option LoadCause → Result FileItems Refusal
ended_by r number None = finished r
ended_by r number (Some c) = Err (refusal number c)

abbrev pub numbered : {A : Type 0} → ℕ → Result A LoadCause → Result A Refusal
numbered number (Err c) = Err (refusal number c)
numbered number (Ok x) = Ok x

abbrev pub and_then : {A B : Type 0} → Result A Refusal → (A → Result B Refusal) → Result B Refusal
and_then (Err r) f = Err r
and_then (Ok x) f = f x

abbrev pub items_from : Reading → ℕ → List (List Token) → Option LoadCause → Result FileItems Refusal
items_from r number [] last = ended_by r number last
items_from r number (t ∷ ts) last = and_then (numbered number (with_tokens r number t)) (λ next. items_from next (number + 1) ts last)

-- what tokens make of a file so far, the first term of them having that number
abbrev pub items_of_tokens : Reading → ℕ → Tokens → Result FileItems Refusal
items_of_tokens r number tokens =
    items_from r number (split tokens.tokens).terms (last_cause tokens.failure (split tokens.tokens).rest)

-- the items of a text, where the program has so many items already, or the first refusal
unfoldable pub items_of : List ℕ → ℕ → Result FileItems Refusal
items_of text there = items_of_tokens (begun there) 1 (tokens_of text)
