-- The roles of tokens, given from the left without a look at trees (ISO/IEC 13211-1:1995, 6.3.1 to 6.3.4).
use Rattle.std.specs.Prelude.{ℕ, ℤ, neg_ℤ, Bool, true, false, cond, not, ◌&&◌, ◌||◌, nat_eq, Option, Some, None, is_some, option_and_then, List, [], ◌∷◌, codes}
use Rattle.std.specs.Cmp.Lexicographic.{pointwise}
use Rattle.plai_lex.specs.declared.token.Token.{Token}
use Rattle.plai_lex.specs.declared.token.TokenKind.{TokenKind}
use Rattle.plai_lex.specs.declared.token.TokenKind.TheVariants as token
use Rattle.plai_reader.specs.declared.operator.Class.TheVariants.{Prefix, Infix, Postfix}
use Rattle.plai_reader.specs.declared.operator.Definition.{Definition}
use Rattle.plai_reader.specs.declared.operator.Operator.{Operator}
use Rattle.plai_reader.specs.declared.state.Bracket.{Bracket}
use Rattle.plai_reader.specs.declared.state.Bracket.TheVariants as bracket
use Rattle.plai_reader.specs.declared.state.Pending.{Pending}
use Rattle.plai_reader.specs.declared.state.Pending.TheVariants as pending
use Rattle.plai_reader.specs.declared.state.Mode.{Mode}
use Rattle.plai_reader.specs.declared.state.Leaf.TheVariants as leaf
use Rattle.plai_reader.specs.declared.state.Action.{Action}
use Rattle.plai_reader.specs.declared.state.Action.TheVariants as action
use Rattle.plai_reader.specs.Operators.{Table, look_up}

-- an integer, with a minus where one waits
abbrev pub signed : Pending → ℤ → ℤ
signed pending.Minus n = neg_ℤ n
signed _ n = n

-- what a round bracket begins
abbrev pub bracketed : Pending → Bracket
bracketed (pending.Functor name) = bracket.Arguments name
bracketed _ = bracket.Round

abbrev pub nil : List ℕ
nil = codes "[]"

abbrev pub is_open : TokenKind → Bool
is_open token.Open = true
is_open _ = false

abbrev pub is_close_list : TokenKind → Bool
is_close_list token.CloseList = true
is_close_list _ = false

abbrev pub is_integer : TokenKind → Bool
is_integer (token.Int _) = true
is_integer _ = false

abbrev pub is_end : TokenKind → Bool
is_end token.End = true
is_end _ = false

-- a bracket, a comma, a bar or the end
abbrev pub is_edge : TokenKind → Bool
is_edge token.Open = true
is_edge token.Close = true
is_edge token.OpenList = true
is_edge token.CloseList = true
is_edge token.Comma = true
is_edge token.Bar = true
is_edge token.End = true
is_edge _ = false

-- a token of a kind follows, and one that is tight
abbrev pub next_is : (TokenKind → Bool) → List Token → Bool
next_is kind [] = false
next_is kind (x ∷ xs) = kind x.kind

abbrev pub tight_next : (TokenKind → Bool) → List Token → Bool
tight_next kind [] = false
tight_next kind (x ∷ xs) = kind x.kind && x.tight

abbrev pub is_infix_or_postfix : Table → List ℕ → Bool
is_infix_or_postfix table name = is_some (look_up table Infix name) || is_some (look_up table Postfix name)

-- A name can start an operand where it isn't infix or postfix, or is also prefix, or has a tight Open behind it.
abbrev pub name_starts : Table → List ℕ → List Token → Bool
name_starts table name rest =
    not (is_infix_or_postfix table name) || is_some (look_up table Prefix name) || tight_next is_open rest

abbrev pub starts : Table → TokenKind → List Token → Bool
starts table (token.Name name) rest = name_starts table name rest
starts table (token.Quoted name) rest = name_starts table name rest
starts table (token.Var _) rest = true
starts table (token.Int _) rest = true
starts table (token.Text _) rest = true
starts table token.Open rest = true
starts table token.OpenList rest = true
starts table _ rest = false

-- the next token can start an operand
abbrev pub starts_next : Table → List Token → Bool
starts_next table [] = false
starts_next table (x ∷ xs) = starts table x.kind xs

-- the token `-` with a tight integer behind it
abbrev pub is_minus : List ℕ → List Token → Bool
is_minus name rest = pointwise nat_eq name (codes "-") && tight_next is_integer rest

abbrev pub operator : List ℕ → Definition → Operator
operator name d = record { name = name; priority = d.priority; kind = d.kind }

-- A name where an operand is wanted, without arguments: a prefix operator where an operand can start next; else a prefix operator is
-- an operand; an infix or postfix operator is one where it stands alone between edges; any other name is one.
abbrev pub named : Table → Bool → List ℕ → List Token → Option Action
named table at_edge name rest = elim (look_up table Prefix name) [
  | Some d ↦ cond (starts_next table rest) (Some (action.Push (operator name d))) (Some (action.Put (leaf.Atom name)))
  | None ↦ cond (is_infix_or_postfix table name)
      (cond (at_edge && next_is is_edge rest) (Some (action.Put (leaf.Atom name))) None)
      (Some (action.Put (leaf.Atom name)))
]

-- with arguments, or without
abbrev pub functor_or_name : Table → Bool → List ℕ → List Token → Option Action
functor_or_name table at_edge name rest =
    cond (tight_next is_open rest) (Some (action.Wait (pending.Functor name))) (named table at_edge name rest)

-- a bracket that closes the atom `[]`
abbrev pub at_nil : Pending → Option Action
at_nil pending.EmptyList = Some (action.Put (leaf.Atom nil))
at_nil _ = None

-- an operand is wanted; a variable has this number
abbrev pub where_wanted : Table → ℕ → Mode → TokenKind → List Token → Option Action
where_wanted table number m (token.Var _) rest = Some (action.Put (leaf.Variable number))
where_wanted table number m (token.Int n) rest = Some (action.Put (leaf.Integer (signed m.pending n)))
where_wanted table number m (token.Text text) rest = Some (action.Put (leaf.Text text))
where_wanted table number m token.Open rest = Some (action.Begin (bracketed m.pending))
where_wanted table number m token.OpenList rest =
    cond (next_is is_close_list rest) (Some (action.Wait pending.EmptyList)) (Some (action.Begin bracket.Items))
where_wanted table number m token.CloseList rest = at_nil m.pending
where_wanted table number m (token.Name name) rest =
    cond (is_minus name rest) (Some (action.Wait pending.Minus)) (functor_or_name table m.at_edge name rest)
where_wanted table number m (token.Quoted name) rest = functor_or_name table m.at_edge name rest
where_wanted table number m _ rest = None

-- an infix operator, else a postfix operator
abbrev pub operating : Table → List ℕ → Option Action
operating table name = elim (look_up table Infix name) [
  | Some d ↦ Some (action.Push (operator name d))
  | None ↦ option_and_then (λ d. Some (action.Push (operator name d))) (look_up table Postfix name)
]

-- Among arguments and items a comma separates; elsewhere it is the infix operator.
abbrev pub at_comma : Table → Bracket → Option Action
at_comma table bracket.Whole = operating table (codes ",")
at_comma table bracket.Round = operating table (codes ",")
at_comma table (bracket.Arguments _) = Some action.Item
at_comma table bracket.Items = Some action.Item
at_comma table bracket.Tail = None

abbrev pub at_bar : Bracket → Option Action
at_bar bracket.Items = Some action.Tail
at_bar _ = None

abbrev pub at_close : Bracket → Option Action
at_close bracket.Round = Some action.End
at_close (bracket.Arguments _) = Some action.End
at_close _ = None

abbrev pub at_close_list : Bracket → Option Action
at_close_list bracket.Items = Some action.End
at_close_list bracket.Tail = Some action.End
at_close_list _ = None

-- an operator is wanted
abbrev pub where_operating : Table → Bracket → TokenKind → Option Action
where_operating table b (token.Name name) = operating table name
where_operating table b (token.Quoted name) = operating table name
where_operating table b token.Comma = at_comma table b
where_operating table b token.Bar = at_bar b
where_operating table b token.Close = at_close b
where_operating table b token.CloseList = at_close_list b
where_operating table b _ = None

-- what a token does, by what was read, what the innermost level stands in, and the tokens behind it
abbrev pub decided : Table → ℕ → Mode → Bracket → TokenKind → List Token → Option Action
decided table number m b kind rest = cond m.wanted (where_wanted table number m kind rest) (where_operating table b kind)
