-- An abstract domain and programs over it, and the laws of both: a framework of abstract interpretation for logic
-- programs (Muthukumar and Hermenegildo 1992), with clauses, literals and actions left abstract.
use Rattle.std.specs.Prelude.{◌≡◌, Bool, true, List, Option}
use Rattle.plai_theory.specs.Words.{IsIn, UpTo}

-- what a clause's body does in turn: a literal calls a predicate, or a builtin acts
pub data Step (L A : Type 0) : Type 0 where
  Goal : L → Step L A
  Do : A → Step L A

-- the name of a row: a predicate and a call
pub record Name (P V : Type 0) : Type 0 where
  pub pred : P
  pub call : V

-- a domain's values (calls and answers) and states, and its operations
pub record Domain : Type 1 where
  pub Value : Type 0
  pub State : Type 0
  pub Pred : Type 0
  pub Clause : Type 0
  pub Literal : Type 0
  pub Action : Type 0
  -- both are values of the predicate's arity, and the first lies at or below the second
  pub leq : Pred → Value → Value → Type 0
  -- both are states of the clause, and the first lies at or below the second
  pub below : Clause → State → State → Type 0
  pub join : Value → Value → Value
  pub body : Clause → List (Step Literal Action)
  pub callee : Literal → Pred
  -- the state in front of the body, of a call
  pub enter : Clause → Value → Option State
  -- the call that a literal makes
  pub call : Literal → State → Value
  -- the state behind a literal, of the answer
  pub back : Literal → State → Value → Option State
  -- the state behind an action
  pub refine : Action → State → Option State
  -- the answer that the state behind the body gives
  pub exit : Clause → State → Value
  -- the test for equal names
  pub same_name : Name Pred Value → Name Pred Value → Bool

-- the clauses of each predicate, and the names of the entries
pub record Program (d : Domain) : Type 0 where
  pub clauses : d.Pred → List d.Clause
  pub entries : List (Name d.Pred d.Value)

-- What the theory needs of a domain, at the clauses of a program.
pub record IsLawful (d : Domain) (g : Program d) : Type 0 where
  pub trans : {p : d.Pred} {a b c : d.Value} → d.leq p a b → d.leq p b c → d.leq p a c
  pub antisym : {p : d.Pred} {a b : d.Value} → d.leq p a b → d.leq p b a → a ≡ b
  pub left : {p : d.Pred} {a b : d.Value} → d.leq p a b → d.leq p a a
  pub right : {p : d.Pred} {a b : d.Value} → d.leq p a b → d.leq p b b
  pub join_first : {p : d.Pred} {a b : d.Value} → d.leq p a a → d.leq p b b → d.leq p a (d.join a b)
  pub join_second : {p : d.Pred} {a b : d.Value} → d.leq p a a → d.leq p b b → d.leq p b (d.join a b)
  pub join_least : {p : d.Pred} {a b c : d.Value} → d.leq p a c → d.leq p b c → d.leq p (d.join a b) c
  -- the operations are monotone, with none below all
  pub enter : (p : d.Pred) (c : d.Clause) (v w : d.Value) → IsIn c (g.clauses p) → d.leq p v w
      → UpTo (d.below c) (d.enter c v) (d.enter c w)
  pub exit : (p : d.Pred) (c : d.Clause) (s t : d.State) → IsIn c (g.clauses p) → d.below c s t
      → d.leq p (d.exit c s) (d.exit c t)
  pub call : (p : d.Pred) (c : d.Clause) (l : d.Literal) (s t : d.State) → IsIn c (g.clauses p) → IsIn (Goal l) (d.body c)
      → d.below c s t → d.leq (d.callee l) (d.call l s) (d.call l t)
  pub back : (p : d.Pred) (c : d.Clause) (l : d.Literal) (s t : d.State) (a b : d.Value) → IsIn c (g.clauses p)
      → IsIn (Goal l) (d.body c) → d.below c s t → d.leq (d.callee l) a b → UpTo (d.below c) (d.back l s a) (d.back l t b)
  pub refine : (p : d.Pred) (c : d.Clause) (x : d.Action) (s t : d.State) → IsIn c (g.clauses p) → IsIn (Do x) (d.body c)
      → d.below c s t → UpTo (d.below c) (d.refine x s) (d.refine x t)
  -- each entry's call is a value
  pub entries : (p : d.Pred) (v : d.Value) → IsIn (record { pred = p; call = v }) g.entries → d.leq p v v
  pub same_true : (x y : Name d.Pred d.Value) → d.same_name x y ≡ true → x ≡ y
  pub same_refl : (x : Name d.Pred d.Value) → d.same_name x x ≡ true
