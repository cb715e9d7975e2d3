-- The limits of terms that are read, what reading answers, and what is kept of a tree while it is read.
use Rattle.std.specs.Prelude.{ℕ, ◌+◌, Bool, true, false, cond, ◌||◌, nat_lt, nat_le, max, fold, Option, Some, None, Result, Ok, Err, List, [], ◌∷◌, map, length}
use Rattle.std.specs.List.{list_any, flat_map}
use Rattle.plai_terms.specs.declared.term.Term.{Term, Var, Int, Atom, Compound}
use Rattle.plai_terms.specs.declared.read_term.ReadTerm.{ReadTerm}
use Rattle.plai_terms.specs.Term.{depth_of}
use Rattle.plai_terms.specs.Readable.{is_wide}
use Rattle.plai_lex.specs.declared.token.Token.{Token}
use Rattle.plai_reader.specs.declared.fail.ReadTermFail.{ReadTermFail}
use Rattle.plai_reader.specs.declared.fail.ReadTermFail.TheVariants.{Syntax, TooDeep, ArityTooLarge}
use Rattle.plai_reader.specs.declared.tree.Tree.{Tree}
use Rattle.plai_reader.specs.declared.tree.Tree.TheVariants.{Whole, Wide, Deep}
use Rattle.plai_reader.specs.Level.{Builder}
use Rattle.plai_reader.specs.Operators.{Table}
use Rattle.plai_reader.specs.Variables.{variables_of}
use Rattle.plai_reader.specs.Reading.{tree_of_tokens}

-- the answer for a term and its number of variables
abbrev pub answer : Option Term → ℕ → Result ReadTerm ReadTermFail
answer None n = Err Syntax
answer (Some t) n = cond (nat_lt 2000 (depth_of t)) (Err TooDeep) (cond (is_wide t) (Err ArityTooLarge) (Ok (record { term = t; variables = n })))

-- What reading answers: Syntax where the tokens have no tree, TooDeep where it is deeper than 2,000, ArityTooLarge where it is no
-- deeper and a compound has more than 255 arguments, and else the tree and its number of variables.
unfoldable pub answer_of : Table → List Token → Result ReadTerm ReadTermFail
answer_of table tokens = answer (tree_of_tokens table tokens) (variables_of tokens)

-- what a tree of this depth is kept as
abbrev pub limited : ℕ → Bool → Term → Tree
limited depth wide t = cond (nat_le depth 2000) (cond wide (Wide depth) (Whole t depth)) Deep

abbrev pub kept : Term → Tree
kept t = limited (depth_of t) (is_wide t) t

abbrev pub depth_in : Tree → ℕ
depth_in (Whole t d) = d
depth_in (Wide d) = d
depth_in Deep = 2001

abbrev pub is_wide_tree : Tree → Bool
is_wide_tree (Wide d) = true
is_wide_tree _ = false

abbrev pub terms_in : Tree → List Term
terms_in (Whole t d) = t ∷ []
terms_in _ = []

abbrev pub deepest : List Tree → ℕ
deepest ts = fold max 0 (map depth_in ts)

abbrev pub is_wide_over : List Tree → Bool
is_wide_over ts = nat_lt 255 (length ts) || list_any is_wide_tree ts

-- what is kept of trees is built of what is kept of their arguments
abbrev pub kept_trees : Builder Tree
kept_trees = record {
  variable = λ n. Whole (Var n) 1;
  integer = λ n. Whole (Int n) 1;
  atom = λ name. Whole (Atom name) 1;
  compound = λ name ts. limited (1 + deepest ts) (is_wide_over ts) (Compound name (flat_map terms_in ts));
}
