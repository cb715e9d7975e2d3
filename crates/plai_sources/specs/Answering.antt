-- What calls answer for an outcome. Without memory they say nothing.
use Rattle.std.specs.Prelude.{◌≡◌, ℕ, true, false, Option, Some, None, Result, Ok, Err, List, [], ◌∷◌, ◌++◌, map}
use Rattle.std.proofs.Common.{Vec, Global, Bor}
use Rattle.plai_sources.specs.declared.cause.LoadCause.{LoadCause}
use Rattle.plai_sources.specs.declared.cause.ItemsFail.{ItemsFail}
use Rattle.plai_sources.specs.declared.cause.ItemsFail.TheVariants as file
use Rattle.plai_sources.specs.declared.stop.TermFail.{TermFail}
use Rattle.plai_sources.specs.declared.stop.TermFail.TheVariants as term
use Rattle.plai_sources.specs.declared.stop.Stop.{Stop}
use Rattle.plai_sources.specs.declared.stop.Stop.TheVariants as stop
use Rattle.plai_lex.specs.declared.token.Token.{Token}
use Rattle.plai_lex.specs.Tokens.{Tokens, with_token, with_tokens, ended}
use Rattle.plai_reader.specs.Operators.{Table}
use Rattle.plai_reader.specs.Roles.{is_end}
use Rattle.plai_sources.specs.declared.items.Item.{Item}
use Rattle.plai_sources.specs.Directives.{Said}
use Rattle.plai_sources.specs.Items.{Refusal, refusal, split, last_cause}

-- the value, or that there is none
abbrev pub Gives : {A : Type 0} → Option A → Result A Stop → Type 0
Gives outcome (Ok x) = outcome ≡ Some x
Gives outcome (Err stop.Unfit) = outcome ≡ None
Gives outcome (Err stop.Memory) = Unit {0}

-- the items of a vector, or that there are none
abbrev pub Lists : {A : Type 0} → Option (List A) → Result (Vec A Global) Stop → Type 0
Lists outcome (Ok v) = outcome ≡ Some v.items
Lists outcome (Err stop.Unfit) = outcome ≡ None
Lists outcome (Err stop.Memory) = Unit {0}

-- what the items of a vector point to, or that there are none
abbrev pub ListsItems : {A : Type 0} → Option (List A) → Result (Vec (Bor A) Global) Stop → Type 0
ListsItems outcome (Ok v) = outcome ≡ Some (map (λ x. x.now) v.items)
ListsItems outcome (Err stop.Unfit) = outcome ≡ None
ListsItems outcome (Err stop.Memory) = Unit {0}

-- the value, or the cause why there is none
abbrev pub Answers : {A : Type 0} → Result A LoadCause → Result A TermFail → Type 0
Answers outcome (Ok x) = outcome ≡ Ok x
Answers outcome (Err (term.Refused cause)) = outcome ≡ Err cause
Answers outcome (Err term.Memory) = Unit {0}

-- the properties stand behind those before, or there are none
abbrev pub behind : {A : Type 0} → List A → Option (List A) → Option (List A)
behind before None = None
behind before (Some after) = Some (before ++ after)

abbrev pub Puts : {A : Type 0} → Option (List A) → List A → List A → Result (Unit {0}) Stop → Type 0
Puts outcome before after (Ok _) = behind before outcome ≡ Some after
Puts outcome before after (Err stop.Unfit) = outcome ≡ None
Puts outcome before after (Err stop.Memory) = Unit {0}

-- the table is the one there is, or there is none
abbrev pub Changes : Option Table → Table → Result (Unit {0}) Stop → Type 0
Changes outcome table (Ok _) = outcome ≡ Some table
Changes outcome table (Err stop.Unfit) = outcome ≡ None
Changes outcome table (Err stop.Memory) = Unit {0}

-- the item that a term says, and the table behind it, or the cause why it says nothing
abbrev pub Says : Result Said LoadCause → Table → Result (Option Item) TermFail → Type 0
Says outcome table (Ok i) = outcome ≡ Ok (record { operators = table; item = i })
Says outcome table (Err (term.Refused cause)) = outcome ≡ Err cause
Says outcome table (Err term.Memory) = Unit {0}

-- tokens that are no full stops
abbrev pub AreInside : List Token → Type 0
AreInside [] = Unit {0}
AreInside (x ∷ xs) = (is_end x.kind ≡ false) × AreInside xs

-- the tokens of a term: others, and a full stop
pub record IsWhole (tokens : List Token) : Type 0 where
  pub before : List Token
  pub last : Token
  pub inside : AreInside before
  pub ends : is_end last.kind ≡ true
  pub is : tokens ≡ before ++ last ∷ []

-- a token is taken, or there are no more tokens, or what is left is refused
abbrev pub TakesToken : Tokens → Tokens → Result (Option Token) TermFail → Type 0
TakesToken old new (Ok (Some token)) = old ≡ with_token token new
TakesToken old new (Ok None) = old ≡ ended
TakesToken old new (Err (term.Refused cause)) = (old.tokens ≡ []) × ((rest : List Token) → last_cause old.failure rest ≡ Some cause)
TakesToken old new (Err term.Memory) = Unit {0}

-- what tokens behind the last full stop stand for
abbrev pub Ends : List Token → Result (Option (Vec Token Global)) TermFail → Type 0
Ends tokens (Ok (Some v)) = ⊥
Ends tokens (Ok None) = tokens ≡ []
Ends tokens (Err (term.Refused cause)) = last_cause None tokens ≡ Some cause
Ends tokens (Err term.Memory) = ⊥

-- the tokens of the next term are taken, or there are no more tokens, or what is left is refused
abbrev pub Takes : Tokens → Tokens → Result (Option (Vec Token Global)) TermFail → Type 0
Takes old new (Ok (Some v)) = IsWhole v.items × (old ≡ with_tokens v.items new)
Takes old new (Ok None) = old ≡ ended
Takes old new (Err (term.Refused cause)) = ((split old.tokens).terms ≡ []) × (last_cause old.failure (split old.tokens).rest ≡ Some cause)
Takes old new (Err term.Memory) = Unit {0}

-- a term's answer with its number
abbrev pub Numbers : {A : Type 0} → ℕ → Result A TermFail → Result A ItemsFail → Type 0
Numbers number given (Ok x) = given ≡ Ok x
Numbers number given (Err (file.Refused n cause)) = (n ≡ number) × (given ≡ Err (term.Refused cause))
Numbers number given (Err file.Memory) = given ≡ Err term.Memory

-- the value, or the first refusal of a file
abbrev pub AnswersFile : {A : Type 0} → Result A Refusal → Result A ItemsFail → Type 0
AnswersFile outcome (Ok x) = outcome ≡ Ok x
AnswersFile outcome (Err (file.Refused number cause)) = outcome ≡ Err (refusal number cause)
AnswersFile outcome (Err file.Memory) = Unit {0}
