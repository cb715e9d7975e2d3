-- A variable that a token puts has a number below the limit.
use Rattle.std.proofs.Common.{ℕ, ◌<◌, Bool, true, false, cond, List}
use Rattle.std.specs.Prelude.{Option, Some, None, ◌&&◌, option_and_then, codes}
use Rattle.plai_lex.specs.declared.token.Token.{Token}
use Rattle.plai_lex.specs.declared.token.TokenKind.{TokenKind}
use Rattle.plai_lex.specs.declared.token.TokenKind.TheVariants as token
use Rattle.plai_reader.specs.declared.operator.Class.TheVariants.{Prefix, Infix, Postfix}
use Rattle.plai_reader.specs.declared.operator.Definition.{Definition}
use Rattle.plai_reader.specs.declared.state.Bracket.{Bracket}
use Rattle.plai_reader.specs.declared.state.Bracket.TheVariants as bracket
use Rattle.plai_reader.specs.declared.state.Pending.{Pending}
use Rattle.plai_reader.specs.declared.state.Pending.TheVariants as pending
use Rattle.plai_reader.specs.declared.state.Mode.{Mode}
use Rattle.plai_reader.specs.declared.state.Leaf.{Leaf}
use Rattle.plai_reader.specs.declared.state.Leaf.TheVariants as leaf
use Rattle.plai_reader.specs.declared.state.Action.{Action}
use Rattle.plai_reader.specs.declared.state.Action.TheVariants as action
use Rattle.plai_reader.specs.Operators.{Table, look_up}
use Rattle.plai_reader.specs.Roles.{is_open, is_close_list, is_edge, next_is, tight_next, is_infix_or_postfix, starts_next, is_minus, operator, named, at_nil}
use Rattle.plai_reader.specs.Roles.{where_wanted, operating, at_comma, at_bar, at_close, at_close_list, where_operating, decided}
use Rattle.plai_reader.proofs.Numbers.{IsBelow}

abbrev pub LeafBelow : ℕ → Leaf → Type 0
LeafBelow limit (leaf.Variable n) = n < limit
LeafBelow limit _ = Unit {0}

abbrev pub ActionBelow : ℕ → Action → Type 0
ActionBelow limit (action.Put l) = LeafBelow limit l
ActionBelow limit _ = Unit {0}

abbrev pub MaybeBelow : ℕ → Option Action → Type 0
MaybeBelow limit None = Unit {0}
MaybeBelow limit (Some a) = ActionBelow limit a

module _ (limit : ℕ) (table : Table) where
  choice : (b : Bool) (x y : Option Action) → MaybeBelow limit x → MaybeBelow limit y → MaybeBelow limit (cond b x y)
  choice true x y h k = h
  choice false x y h k = k

  pushed_below : (name : List ℕ) (o : Option Definition) → MaybeBelow limit (option_and_then (λ d. Some (action.Push (operator name d))) o)
  pushed_below name None = tt
  pushed_below name (Some d) = tt

  named-below : (at_edge : Bool) (name : List ℕ) (rest : List Token) → MaybeBelow limit (named table at_edge name rest)
  named-below at_edge name rest =
      elim (look_up table Prefix name) as (λ o. MaybeBelow limit (elim o [
        | Some d ↦ cond (starts_next table rest) (Some (action.Push (operator name d))) (Some (action.Put (leaf.Atom name)))
        | None ↦ cond (is_infix_or_postfix table name)
            (cond (at_edge && next_is is_edge rest) (Some (action.Put (leaf.Atom name))) None)
            (Some (action.Put (leaf.Atom name)))
      ])) [
        | Some d ↦ choice (starts_next table rest) _ _ tt tt
        | None ↦ choice (is_infix_or_postfix table name) _ _ (choice (at_edge && next_is is_edge rest) _ _ tt tt) tt
      ]

  operating-below : (name : List ℕ) → MaybeBelow limit (operating table name)
  operating-below name =
      elim (look_up table Infix name) as (λ o. MaybeBelow limit (elim o [
        | Some d ↦ Some (action.Push (operator name d))
        | None ↦ option_and_then (λ d. Some (action.Push (operator name d))) (look_up table Postfix name)
      ])) [ Some d ↦ tt | None ↦ pushed_below name (look_up table Postfix name) ]

  at_nil-below : (p : Pending) → MaybeBelow limit (at_nil p)
  at_nil-below pending.EmptyList = tt
  at_nil-below pending.Clear = tt
  at_nil-below pending.Minus = tt
  at_nil-below (pending.Functor name) = tt

  at_comma-below : (b : Bracket) → MaybeBelow limit (at_comma table b)
  at_comma-below bracket.Whole = operating-below (codes ",")
  at_comma-below bracket.Round = operating-below (codes ",")
  at_comma-below (bracket.Arguments name) = tt
  at_comma-below bracket.Items = tt
  at_comma-below bracket.Tail = tt

  at_bar-below : (b : Bracket) → MaybeBelow limit (at_bar b)
  at_bar-below bracket.Whole = tt
  at_bar-below bracket.Round = tt
  at_bar-below (bracket.Arguments name) = tt
  at_bar-below bracket.Items = tt
  at_bar-below bracket.Tail = tt

  at_close-below : (b : Bracket) → MaybeBelow limit (at_close b)
  at_close-below bracket.Whole = tt
  at_close-below bracket.Round = tt
  at_close-below (bracket.Arguments name) = tt
  at_close-below bracket.Items = tt
  at_close-below bracket.Tail = tt

  at_close_list-below : (b : Bracket) → MaybeBelow limit (at_close_list b)
  at_close_list-below bracket.Whole = tt
  at_close_list-below bracket.Round = tt
  at_close_list-below (bracket.Arguments name) = tt
  at_close_list-below bracket.Items = tt
  at_close_list-below bracket.Tail = tt

  where_wanted-below : (n : ℕ) (m : Mode) (kind : TokenKind) (rest : List Token) → IsBelow limit kind n → MaybeBelow limit (where_wanted table n m kind rest)
  where_wanted-below n m (token.Var name) rest h = h
  where_wanted-below n m (token.Int i) rest h = tt
  where_wanted-below n m (token.Text text) rest h = tt
  where_wanted-below n m token.Open rest h = tt
  where_wanted-below n m token.OpenList rest h = choice (next_is is_close_list rest) _ _ tt tt
  where_wanted-below n m token.CloseList rest h = at_nil-below m.pending
  where_wanted-below n m (token.Name name) rest h =
      choice (is_minus name rest) _ _ tt (choice (tight_next is_open rest) _ _ tt (named-below m.at_edge name rest))
  where_wanted-below n m (token.Quoted name) rest h = choice (tight_next is_open rest) _ _ tt (named-below m.at_edge name rest)
  where_wanted-below n m token.Close rest h = tt
  where_wanted-below n m token.Comma rest h = tt
  where_wanted-below n m token.Bar rest h = tt
  where_wanted-below n m token.End rest h = tt

  where_operating-below : (b : Bracket) (kind : TokenKind) → MaybeBelow limit (where_operating table b kind)
  where_operating-below b (token.Name name) = operating-below name
  where_operating-below b (token.Quoted name) = operating-below name
  where_operating-below b (token.Var name) = tt
  where_operating-below b (token.Int i) = tt
  where_operating-below b (token.Text text) = tt
  where_operating-below b token.Open = tt
  where_operating-below b token.OpenList = tt
  where_operating-below b token.Close = at_close-below b
  where_operating-below b token.CloseList = at_close_list-below b
  where_operating-below b token.Comma = at_comma-below b
  where_operating-below b token.Bar = at_bar-below b
  where_operating-below b token.End = tt

  pub decided-below : (n : ℕ) (m : Mode) (b : Bracket) (kind : TokenKind) (rest : List Token) → IsBelow limit kind n
      → MaybeBelow limit (decided table n m b kind rest)
  decided-below n m b kind rest h = choice m.wanted _ _ (where_wanted-below n m kind rest h) (where_operating-below b kind)
