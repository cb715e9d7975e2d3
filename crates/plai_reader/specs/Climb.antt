-- Climbing priorities: one pass over the links, with the operators whose right side is being read on a stack, the last one first
-- (the operator precedence method of Floyd, "Syntactic analysis and operator precedence", 1963).
use Rattle.std.specs.Prelude.{◌≡◌, Bool, true, cond, ◌&&◌, nat_eq, nat_lt, Option, Some, None, option_and_then, option_to_list, Result, Ok, Err, List, [], ◌∷◌}
use Rattle.plai_reader.specs.declared.stop.Stop.{Stop}
use Rattle.plai_reader.specs.declared.stop.Stop.TheVariants.{Syntax, Memory}
use Rattle.plai_reader.specs.declared.operator.Operator.{Operator}
use Rattle.plai_reader.specs.declared.level.Operand.{Operand}
use Rattle.plai_reader.specs.declared.level.Frame.{Frame}
use Rattle.plai_reader.specs.Kinds.{leans_right}
use Rattle.plai_reader.specs.Level.{Builder, Link, applied}
use Rattle.plai_reader.specs.Reading.{Way}

-- the next operator belongs to the right side of this one
abbrev pub holds : Operator → Operator → Bool
holds o next = cond (nat_lt next.priority o.priority) true (nat_eq next.priority o.priority && leans_right o.kind)

module _ {T : Type 0} (build : Builder T) where
  -- all that waits, applied
  abbrev pub finished : List (Frame T) → Option (Operand T) → Option (Option (Operand T))
  finished [] current = Some current
  finished (f ∷ fs) current = option_and_then (finished fs) (applied build f.operator f.left current)

  -- After the frames that don't hold the operator are applied: the frames that are left, and what stands on the operator's left.
  abbrev pub popped : Operator → List (Frame T) → Option (Operand T) → Option (List (Frame T) × Option (Operand T))
  popped next [] current = Some ([], current)
  popped next (f ∷ fs) current = cond (holds f.operator next)
      (Some (f ∷ fs, current))
      (option_and_then (popped next fs) (applied build f.operator f.left current))

  abbrev pub climbed : List (Frame T) → Option (Operand T) → List (Link T) → Option (Option (Operand T))
  climbed fs current [] = finished fs current
  climbed fs current (l ∷ ls) =
      option_and_then (λ p. climbed (record { left = p.1; operator = l.operator } ∷ p.0) l.place ls) (popped l.operator fs current)

  -- a level is climbed, its last frame first
  abbrev pub climbing : Way T
  climbing = record {
    push = λ o frames place. option_and_then (λ p. Some (record { left = p.1; operator = o } ∷ p.0)) (popped o frames place);
    tree = finished;
  }

-- What a body returns for an outcome: the value, or that there is none; without memory it says nothing.
abbrev pub Gives : {A : Type 0} → Option A → Result A Stop → Type 0
Gives outcome (Ok x) = outcome ≡ Some x
Gives outcome (Err Syntax) = outcome ≡ None
Gives outcome (Err Memory) = Unit {0}

-- the same for a place's argument
abbrev pub Argues : {T : Type 0} → Option (List T) → Result (Option T) Stop → Type 0
Argues outcome (Ok x) = outcome ≡ Some (option_to_list x)
Argues outcome (Err Syntax) = outcome ≡ None
Argues outcome (Err Memory) = ⊥

-- the frames that are left, and what a body returns
abbrev pub Pops : {T : Type 0} → Option (List (Frame T) × Option (Operand T)) → List (Frame T) → Result (Option (Operand T)) Stop → Type 0
Pops outcome fs (Ok left) = outcome ≡ Some (fs, left)
Pops outcome fs (Err Syntax) = outcome ≡ None
Pops outcome fs (Err Memory) = Unit {0}
