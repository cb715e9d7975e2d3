-- Reading a term from its tokens (ISO/IEC 13211-1:1995, 6.2 and 6.3): roles from the left, levels open with the innermost first,
-- and the tree of each level when it is whole.
use Rattle.std.specs.Prelude.{ℕ, pos, Bool, true, false, cond, not, nat_le, Option, Some, None, option_and_then, List, [], ◌∷◌, ◌++◌, map, codes}
use Rattle.plai_terms.specs.declared.term.Term.{Term}
use Rattle.plai_lex.specs.declared.token.Token.{Token}
use Rattle.plai_reader.specs.declared.operator.Operator.{Operator}
use Rattle.plai_reader.specs.declared.level.Operand.{Operand}
use Rattle.plai_reader.specs.declared.level.Frame.{Frame}
use Rattle.plai_reader.specs.declared.state.Bracket.{Bracket}
use Rattle.plai_reader.specs.declared.state.Bracket.TheVariants as bracket
use Rattle.plai_reader.specs.declared.state.Pending.TheVariants as pending
use Rattle.plai_reader.specs.declared.state.Mode.{Mode}
use Rattle.plai_reader.specs.declared.state.Leaf.{Leaf}
use Rattle.plai_reader.specs.declared.state.Leaf.TheVariants as leaf
use Rattle.plai_reader.specs.declared.state.Action.{Action}
use Rattle.plai_reader.specs.declared.state.Action.TheVariants as action
use Rattle.plai_reader.specs.Kinds.{is_postfix}
use Rattle.plai_reader.specs.Level.{Builder, terms, Link, tree_of}
use Rattle.plai_reader.specs.Operators.{Table}
use Rattle.plai_reader.specs.declared.variables.Variables.{Variables}
use Rattle.plai_reader.specs.Variables.{no_variables, number_at, after_token}
use Rattle.plai_reader.specs.Roles.{nil, is_end, is_edge, decided}

-- An open level: what it stands in, its items before this one, its operators so far, each with what stands on its left, and the last place.
pub record Layer (T : Type 0) : Type 0 where
  pub bracket : Bracket
  pub items : List T
  pub frames : List (Frame T)
  pub place : Option (Operand T)

-- between two tokens
pub record State (T : Type 0) : Type 0 where
  pub inner : Layer T
  pub outer : List (Layer T)
  pub mode : Mode
  pub variables : Variables

-- how a level takes an operator, and what its tree is
pub record Way (T : Type 0) : Type 0 where
  pub push : Operator → List (Frame T) → Option (Operand T) → Option (List (Frame T))
  pub tree : List (Frame T) → Option (Operand T) → Option (Option (Operand T))

abbrev pub wanting : Bool → Mode → Mode
wanting wanted m = record { wanted = wanted; pending = pending.Clear; at_edge = m.at_edge }

-- the greatest priority of a level or item
abbrev pub limit_of : Bracket → ℕ
limit_of bracket.Whole = 1200
limit_of bracket.Round = 1200
limit_of _ = 999

module _ {T : Type 0} where
  -- the places of a whole level: the first, and those behind the operators
  abbrev pub first_place : List (Frame T) → Option (Operand T) → Option (Operand T)
  first_place [] last = last
  first_place (f ∷ fs) last = f.left

  abbrev pub links_of : List (Frame T) → Option (Operand T) → List (Link T)
  links_of [] last = []
  links_of (f ∷ fs) last = record { operator = f.operator; place = first_place fs last } ∷ links_of fs last

  -- a level with no item yet, or behind these items
  abbrev pub fresh : Bracket → List T → Layer T
  fresh b items = record { bracket = b; items = items; frames = []; place = None }

  -- the tree, if its priority is at most the limit
  abbrev pub within : ℕ → Option (Option (Operand T)) → Option T
  within limit (Some (Some x)) = cond (nat_le x.priority limit) (Some x.tree) None
  within limit _ = None

  abbrev pub placed : T → Layer T → Layer T
  placed t l = record { bracket = l.bracket; items = l.items; frames = l.frames; place = Some (record { tree = t; priority = 0 }) }

  -- a tree in the level around the one that ends
  abbrev pub back : T → List (Layer T) → Mode → Variables → Option (State T)
  back t [] m vs = None
  back t (l ∷ ls) m vs = Some (record { inner = placed t l; outer = ls; mode = wanting false m; variables = vs })

  abbrev pub put : T → State T → State T
  put t s = record { inner = placed t s.inner; outer = s.outer; mode = wanting false s.mode; variables = s.variables }

  abbrev pub pushed : Operator → State T → List (Frame T) → State T
  pushed o s frames = record {
    inner = record { bracket = s.inner.bracket; items = s.inner.items; frames = frames; place = None };
    outer = s.outer;
    mode = wanting (not (is_postfix o.kind)) s.mode;
    variables = s.variables;
  }

  abbrev pub begun : Layer T → List (Layer T) → State T → State T
  begun l ls s = record { inner = l; outer = ls; mode = wanting true s.mode; variables = s.variables }

  -- the tree of the innermost level or item
  abbrev pub item : Way T → State T → Option T
  item w s = within (limit_of s.inner.bracket) (w.tree s.inner.frames s.inner.place)

  -- a token is a variable, or none
  abbrev pub noted : Token → State T → State T
  noted x s = record { inner = s.inner; outer = s.outer; mode = s.mode; variables = after_token s.variables x.kind }

  -- behind a token
  abbrev pub behind : Token → State T → State T
  behind x s = record {
    inner = s.inner;
    outer = s.outer;
    mode = record { wanted = s.mode.wanted; pending = s.mode.pending; at_edge = is_edge x.kind };
    variables = s.variables;
  }

  -- at the end all brackets are closed and an operator is wanted
  abbrev pub ended : Way T → State T → List (Layer T) → Option T
  ended w s [] = cond s.mode.wanted None (item w s)
  ended w s (l ∷ ls) = None

  abbrev pub last : Way T → State T → List Token → Option T
  last w s [] = ended w s s.outer
  last w s (x ∷ xs) = None

  abbrev pub start : State T
  start = record {
    inner = fresh bracket.Whole [];
    outer = [];
    mode = record { wanted = true; pending = pending.Clear; at_edge = true };
    variables = no_variables;
  }

module _ {T : Type 0} (build : Builder T) where
  -- a level is kept whole, and its tree is found by its weakest operator
  abbrev pub whole : Way T
  whole = record {
    push = λ o frames place. Some (frames ++ record { left = place; operator = o } ∷ []);
    tree = λ frames place. tree_of build (first_place frames place) (links_of frames place);
  }

  -- the list of these items before the last tail
  abbrev pub list_of : List T → T → T
  list_of [] tail = tail
  list_of (x ∷ xs) tail = build.compound (codes ".") (x ∷ list_of xs tail ∷ [])

  -- the list of a text's codes
  abbrev pub text_tree : List ℕ → T
  text_tree text = list_of (map (λ c. build.integer (pos c)) text) (build.atom nil)

  abbrev pub leaf_tree : Leaf → T
  leaf_tree (leaf.Variable n) = build.variable n
  leaf_tree (leaf.Integer n) = build.integer n
  leaf_tree (leaf.Atom name) = build.atom name
  leaf_tree (leaf.Text text) = text_tree text

  -- what a level stands for, by what it stands in, its items and the last one
  abbrev pub closed : Bracket → List T → T → T
  closed bracket.Whole items t = t
  closed bracket.Round items t = t
  closed (bracket.Arguments name) items t = build.compound name (items ++ t ∷ [])
  closed bracket.Items items t = list_of (items ++ t ∷ []) (build.atom nil)
  closed bracket.Tail items t = list_of items t

  abbrev pub performed : Way T → Action → State T → Option (State T)
  performed w (action.Put l) s = Some (put (leaf_tree l) s)
  performed w (action.Push o) s = option_and_then (λ frames. Some (pushed o s frames)) (w.push o s.inner.frames s.inner.place)
  performed w (action.Wait p) s = Some (record { inner = s.inner; outer = s.outer; mode = record { wanted = true; pending = p; at_edge = s.mode.at_edge }; variables = s.variables })
  performed w (action.Begin b) s = Some (begun (fresh b []) (s.inner ∷ s.outer) s)
  performed w action.Item s = option_and_then (λ t. Some (begun (fresh s.inner.bracket (s.inner.items ++ t ∷ [])) s.outer s)) (item w s)
  performed w action.Tail s = option_and_then (λ t. Some (begun (fresh bracket.Tail (s.inner.items ++ t ∷ [])) s.outer s)) (item w s)
  performed w action.End s = option_and_then (λ t. back (closed s.inner.bracket s.inner.items t) s.outer s.mode s.variables) (item w s)

  -- one token, before these
  abbrev pub stepped : Way T → Table → State T → Token → List Token → Option (State T)
  stepped w table s x xs =
      option_and_then (λ a. option_and_then (λ t. Some (behind x t)) (performed w a (noted x s)))
      (decided table (number_at s.variables x.kind) s.mode s.inner.bracket x.kind xs)

  -- the tokens of a term are those up to and with its End
  abbrev pub run : Way T → Table → State T → List Token → Option T
  run w table s [] = None
  run w table s (x ∷ xs) = cond (is_end x.kind) (last w s xs) (option_and_then (λ t. run w table t xs) (stepped w table s x xs))

  unfoldable pub read_of : Table → List Token → Option T
  read_of table tokens = run whole table start tokens

-- the term of these tokens, if they have one
abbrev pub tree_of_tokens : Table → List Token → Option Term
tree_of_tokens table tokens = read_of terms table tokens
