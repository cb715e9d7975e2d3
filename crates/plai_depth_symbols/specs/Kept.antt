-- Properties of calls, of states and of answers that a program's operations keep, over any abstract domain: invariants of its
-- evaluations (Muthukumar and Hermenegildo 1992).
use Rattle.std.specs.Prelude.{◌≡◌, true, List, Some}
use Rattle.plai_theory.specs.Words.{IsIn}
use Rattle.plai_theory.specs.Domain.{Goal, Do, Domain, Program}
use Rattle.plai_theory.specs.Evaluation.{Source, NameOf, name_of}
use Rattle.plai_theory.specs.LeastTable.{Row}

-- a property of values of each predicate, as calls or as answers
abbrev pub OfValues : Domain → Type 1
OfValues d = d.Pred → d.Value → Type 0

-- a property of the states of each clause
abbrev pub OfStates : Domain → Type 1
OfStates d = d.Clause → d.State → Type 0

-- The entries' calls have the property, and so has what each operation gives of what has it, at the program's clauses.
pub record IsKept (d : Domain) (g : Program d) (of_call : OfValues d) (of_state : OfStates d) (of_answer : OfValues d) : Type 0 where
  pub entries : (p : d.Pred) (v : d.Value) → IsIn (name_of d p v) g.entries → of_call p v
  pub enter : (p : d.Pred) (c : d.Clause) (v : d.Value) (s : d.State) → IsIn c (g.clauses p) → of_call p v → d.enter c v ≡ Some s
      → of_state c s
  pub call : (p : d.Pred) (c : d.Clause) (l : d.Literal) (s : d.State) → IsIn c (g.clauses p) → IsIn (Goal l) (d.body c)
      → of_state c s → of_call (d.callee l) (d.call l s)
  pub back : (p : d.Pred) (c : d.Clause) (l : d.Literal) (s t : d.State) (a : d.Value) → IsIn c (g.clauses p) → IsIn (Goal l) (d.body c)
      → of_state c s → of_answer (d.callee l) a → d.back l s a ≡ Some t → of_state c t
  pub refine : (p : d.Pred) (c : d.Clause) (x : d.Action) (s t : d.State) → IsIn c (g.clauses p) → IsIn (Do x) (d.body c)
      → of_state c s → d.refine x s ≡ Some t → of_state c t
  pub exit : (p : d.Pred) (c : d.Clause) (s : d.State) → IsIn c (g.clauses p) → of_state c s → of_answer p (d.exit c s)
  pub join : (p : d.Pred) (a b : d.Value) → of_answer p a → of_answer p b → of_answer p (d.join a b)

-- what a source answers to calls with their property has that of answers
abbrev pub AnswersSo : (d : Domain) → OfValues d → OfValues d → Source d → Type 0
AnswersSo d of_call of_answer s = (p : d.Pred) (v a : d.Value) → of_call p v → s p v ≡ Some a → of_answer p a

-- a row whose call has the property of calls, and whose answer has that of answers where there is one
pub record IsKeptRow (d : Domain) (of_call of_answer : OfValues d) (r : Row d) : Type 0 where
  pub call : of_call r.name.pred r.name.call
  pub answer : (a : d.Value) → r.answer ≡ Some a → of_answer r.name.pred a

abbrev pub AreKeptRows : (d : Domain) → OfValues d → OfValues d → List (Row d) → Type 0
AreKeptRows d of_call of_answer rows = (r : Row d) → IsIn r rows → IsKeptRow d of_call of_answer r

-- only equal names pass the test for equal names
abbrev pub TellsNames : Domain → Type 0
TellsNames d = (x y : NameOf d) → d.same_name x y ≡ true → x ≡ y
