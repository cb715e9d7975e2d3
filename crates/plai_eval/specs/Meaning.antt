-- A domain of patterns with the clauses of programs, as the abstract domain over which evaluation, stages and the
-- least table are defined.
use Rattle.std.specs.Prelude.{List, [], ◌∷◌, map, length}
use Rattle.plai_theory.specs.Domain.{Step, Goal, Do, Name, Domain, Program}
use Rattle.plai_theory.specs.Limits.{Limits}
use Rattle.plai_terms.specs.declared.term.Term.{Term}
use Rattle.plai_terms.specs.declared.abs.Abs.{Abs}
use Rattle.plai_terms.specs.declared.pred_key.PredKey.{PredKey}
use Rattle.plai_terms.specs.declared.row_name.RowName.{RowName}
use Rattle.plai_terms.specs.contracts.row_name.RowNamePartialEq.TheImpl as row_name_eq
use Rattle.plai_domain.specs.declared.action.Action.{Action}
use Rattle.plai_domain.specs.Plain.{StateView, PlainDomain}
use Rattle.plai_domain.specs.Outcomes.{SomeTooLarge}
use Rattle.plai_clauses.specs.declared.clause.Clause.{Clause}
use Rattle.plai_clauses.specs.declared.clause.Literal.{Literal}
use Rattle.plai_clauses.specs.declared.clause.Target.{Target}
use Rattle.plai_clauses.specs.declared.clause.Target.TheVariants.{Pred, Builtin}
use Rattle.plai_clauses.specs.declared.entry.Entry.{Entry}
use Rattle.plai_clauses.specs.Program.{ProgramView, clauses_of, entries_of}
use Rattle.plai_builtins.specs.Actions.{actions_of}

-- a literal that calls a predicate
pub record Calling : Type 0 where
  pub pred : PredKey
  pub args : List Term

-- an action of a literal's builtin
pub record Acting : Type 0 where
  pub args : List Term
  pub action : Action

abbrev pub actions_then : List Term → List Action → List (Step Calling Acting) → List (Step Calling Acting)
actions_then args [] rest = rest
actions_then args (x ∷ xs) rest = Do (record { args = args; action = x }) ∷ actions_then args xs rest

-- a literal of a predicate is one step, one of a builtin a step for each of its actions
abbrev pub literal_then : Literal → Target → List (Step Calling Acting) → List (Step Calling Acting)
literal_then literal (Pred pred) rest = Goal (record { pred = pred; args = literal.args }) ∷ rest
literal_then literal Builtin rest = actions_then literal.args (actions_of literal.name (length literal.args)) rest

-- what a body does in turn
abbrev pub steps_of : List Literal → List (Step Calling Acting)
steps_of [] = []
steps_of (literal ∷ literals) = literal_then literal literal.target (steps_of literals)

-- a name of the theory as the name of a row
abbrev pub row_name : Name PredKey Abs → RowName
row_name x = record { pred = x.pred; call = x.call }

-- values are patterns, of the predicate's arity; states are those of the clause
abbrev pub as_domain : PlainDomain → Domain
as_domain p =
    record {
      Value = Abs;
      State = StateView;
      Pred = PredKey;
      Clause = Clause;
      Literal = Calling;
      Action = Acting;
      leq = λ pred a b. p.Leq pred.arity a b;
      below = λ clause s t. p.Below (length clause.head) clause.variables s t;
      join = p.join;
      body = λ clause. steps_of clause.body;
      callee = λ literal. literal.pred;
      enter = λ clause call. (p.enter call clause.head clause.variables).value;
      call = λ literal state. (p.call state literal.args).value;
      back = λ literal state answer. (p.back state literal.args answer).value;
      refine = λ acting state. (p.refine state acting.args acting.action).value;
      exit = λ clause state. p.exit state clause.head;
      same_name = λ x y. (row_name_eq.ghosts).eq (row_name x) (row_name y);
    }

-- where an operation forms a set of too many groups
abbrev pub as_limits : (p : PlainDomain) → Limits (as_domain p)
as_limits p =
    record {
      enter = λ clause call. SomeTooLarge (p.enter call clause.head clause.variables).sizes;
      call = λ literal state. SomeTooLarge (p.call state literal.args).sizes;
      back = λ literal state answer. SomeTooLarge (p.back state literal.args answer).sizes;
      refine = λ acting state. SomeTooLarge (p.refine state acting.args acting.action).sizes;
    }

-- the row that an entry asks for: its predicate, and the pattern of its properties
abbrev pub entry_name : PlainDomain → Entry → RowName
entry_name p entry = record { pred = entry.pred; call = p.describe entry.pred.arity entry.pre }

-- the clauses of each predicate, and the names that the entries ask for
abbrev pub as_program : (p : PlainDomain) → ProgramView → Program (as_domain p)
as_program p program =
    record {
      clauses = clauses_of program;
      entries = map (λ entry. record { pred = entry.pred; call = p.describe entry.pred.arity entry.pre }) (entries_of program);
    }
