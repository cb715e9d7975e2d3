-- One token of a run.
use Rattle.std.proofs.Common.{◌≡◌, List, [], ◌∷◌, refl, ap, cond}
use Rattle.std.specs.Prelude.{Option, Some, None, option_and_then}
use Rattle.plai_lex.specs.declared.token.Token.{Token}
use Rattle.plai_reader.specs.declared.state.Mode.{Mode}
use Rattle.plai_reader.specs.declared.state.Action.{Action}
use Rattle.plai_reader.specs.declared.state.Action.TheVariants as action
use Rattle.plai_reader.specs.Level.{Builder}
use Rattle.plai_reader.specs.Operators.{Table}
use Rattle.plai_reader.specs.declared.variables.Variables.{Variables}
use Rattle.plai_reader.specs.Variables.{number_at, after_token}
use Rattle.plai_reader.specs.Roles.{is_end, decided}
use Rattle.plai_reader.specs.Reading.{Layer, State, Way, closed, back, pushed, item, performed, noted, behind, last, stepped, run}

then_behind : {T : Type 0} (x : Token) (k : State T → Option T) (v : Option (State T))
    → option_and_then k (option_and_then (λ t. Some (behind x t)) v) ≡ option_and_then (λ t. k (behind x t)) v
then_behind x k None = refl
then_behind x k (Some t) = refl

module _ {T : Type 0} (build : Builder T) (w : Way T) (x : Token) (k : State T → Option T) (s : State T) where
  then_stepped : (v : Option Action)
      → option_and_then k (option_and_then (λ a. option_and_then (λ t. Some (behind x t)) (performed build w a (noted x s))) v)
      ≡ option_and_then (λ a. option_and_then (λ t. k (behind x t)) (performed build w a (noted x s))) v
  then_stepped None = refl
  then_stepped (Some a) = then_behind x k (performed build w a (noted x s))

-- the numbers of variables in a state
abbrev pub VariablesAre : {T : Type 0} → Variables → Option (State T) → Type 0
VariablesAre vs None = Unit {0}
VariablesAre vs (Some t) = t.variables ≡ vs

then_are : {X T : Type 0} (vs : Variables) (f : X → Option (State T)) (v : Option X) → ((x : X) → VariablesAre vs (f x)) → VariablesAre vs (option_and_then f v)
then_are vs f None e = tt
then_are vs f (Some x) e = e x

back-variables : {T : Type 0} (t : T) (ls : List (Layer T)) (m : Mode) (vs : Variables) → VariablesAre vs (back t ls m vs)
back-variables t [] m vs = tt
back-variables t (l ∷ ls) m vs = refl

module _ {T : Type 0} (build : Builder T) (w : Way T) where
  -- an action changes no numbers
  pub performed-variables : (a : Action) (s : State T) → VariablesAre s.variables (performed build w a s)
  performed-variables (action.Put l) s = refl
  performed-variables (action.Push o) s = then_are s.variables (λ frames. Some (pushed o s frames)) (w.push o s.inner.frames s.inner.place) (λ frames. refl)
  performed-variables (action.Wait p) s = refl
  performed-variables (action.Begin b) s = refl
  performed-variables action.Item s = then_are s.variables _ (item w s) (λ t. refl)
  performed-variables action.Tail s = then_are s.variables _ (item w s) (λ t. refl)
  performed-variables action.End s =
      then_are s.variables _ (item w s) (λ t. back-variables (closed build s.inner.bracket s.inner.items t) s.outer s.mode s.variables)

  behind-variables : (vs : Variables) (x : Token) (v : Option (State T)) → VariablesAre vs v → VariablesAre vs (option_and_then (λ t. Some (behind x t)) v)
  behind-variables vs x None e = tt
  behind-variables vs x (Some t) e = e

  -- a token changes them once
  pub stepped-variables : (table : Table) (s : State T) (x : Token) (xs : List Token)
      → VariablesAre (after_token s.variables x.kind) (stepped build w table s x xs)
  stepped-variables table s x xs =
      then_are (after_token s.variables x.kind) (λ a. option_and_then (λ t. Some (behind x t)) (performed build w a (noted x s)))
      (decided table (number_at s.variables x.kind) s.mode s.inner.bracket x.kind xs)
      (λ a. behind-variables (after_token s.variables x.kind) x (performed build w a (noted x s)) (performed-variables a (noted x s)))

module _ {T : Type 0} (build : Builder T) (w : Way T) (table : Table) (s : State T) (x : Token) (xs : List Token) where
  pub run-cons : run build w table s (x ∷ xs) ≡ cond (is_end x.kind) (last w s xs)
      (option_and_then (λ a. option_and_then (λ t. run build w table (behind x t) xs) (performed build w a (noted x s)))
      (decided table (number_at s.variables x.kind) s.mode s.inner.bracket x.kind xs))
  run-cons = ap (cond (is_end x.kind) (last w s xs)) (then_stepped build w x (λ t. run build w table t xs) s
      (decided table (number_at s.variables x.kind) s.mode s.inner.bracket x.kind xs))
