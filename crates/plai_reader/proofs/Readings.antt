-- Reading by climbing gives what reading whole levels gives.
use Rattle.std.proofs.Common.{◌≡◌, true, false, cond, inl, List, [], ◌∷◌, ◌++◌, map, refl, ap, sym, ◌∙◌}
use Rattle.std.specs.Prelude.{Option, Some, None, option_and_then}
use Rattle.plai_lex.specs.declared.token.Token.{Token}
use Rattle.plai_reader.specs.declared.operator.Operator.{Operator}
use Rattle.plai_reader.specs.declared.level.Frame.{Frame}
use Rattle.plai_reader.specs.declared.state.Bracket.{Bracket}
use Rattle.plai_reader.specs.declared.state.Bracket.TheVariants as bracket
use Rattle.plai_reader.specs.declared.state.Mode.{Mode}
use Rattle.plai_reader.specs.declared.state.Action.{Action}
use Rattle.plai_reader.specs.declared.state.Action.TheVariants as action
use Rattle.plai_reader.specs.Level.{Builder}
use Rattle.plai_reader.specs.Climb.{popped, climbing}
use Rattle.plai_reader.specs.Operators.{Table}
use Rattle.plai_reader.specs.declared.variables.Variables.{Variables}
use Rattle.plai_reader.specs.Variables.{number_at, after_token}
use Rattle.plai_reader.specs.Roles.{is_end, decided}
use Rattle.plai_reader.specs.Reading.{Layer, State, whole, wanting, within, limit_of, closed, leaf_tree, placed, back, pushed, item, performed, noted, behind}
use Rattle.plai_reader.specs.Reading.{ended, last, run, start, read_of}
use Rattle.plai_reader.proofs.Spine.{Place}
use Rattle.plai_reader.proofs.Trees.{climbed-tree}
use Rattle.plai_reader.proofs.Runs.{run-cons}
use Rattle.plai_reader.proofs.DeadLevels.{frame, Same, Same-push, Dead-new, Same-tree, DeadIn, run-dead}

module _ {T : Type 0} (build : Builder T) where
  -- a level read in both ways
  pub record Pair : Type 0 where
    pub bracket : Bracket
    pub items : List T
    pub all : List (Frame T)
    pub frames : List (Frame T)
    pub place : Place T
    pub same : Same build all frames

  abbrev wholly : Pair → Layer T
  wholly p = record { bracket = p.bracket; items = p.items; frames = p.all; place = p.place }

  abbrev climbingly : Pair → Layer T
  climbingly p = record { bracket = p.bracket; items = p.items; frames = p.frames; place = p.place }

  pub record Pairs : Type 0 where
    pub inner : Pair
    pub outer : List Pair
    pub mode : Mode
    pub variables : Variables

  abbrev left_state : Pairs → State T
  left_state p = record { inner = wholly p.inner; outer = map wholly p.outer; mode = p.mode; variables = p.variables }

  abbrev right_state : Pairs → State T
  right_state p = record { inner = climbingly p.inner; outer = map climbingly p.outer; mode = p.mode; variables = p.variables }

  abbrev fresh_pair : Bracket → List T → Pair
  fresh_pair b items = record { bracket = b; items = items; all = []; frames = []; place = None; same = λ place more. climbed-tree build place more }

  abbrev placed_pair : T → Pair → Pair
  placed_pair t p = record { bracket = p.bracket; items = p.items; all = p.all; frames = p.frames; place = (placed t (wholly p)).place; same = p.same }

  item-same : (p : Pairs) → item (whole build) (left_state p) ≡ item (climbing build) (right_state p)
  item-same p = ap (within (limit_of p.inner.bracket)) (Same-tree build p.inner.all p.inner.frames p.inner.place p.inner.same)

  -- What follows is the same in both ways, and none where a level has no tree.
  pub record Alike (left right : State T → Option T) : Type 0 where
    pub at : (p : Pairs) → left (left_state p) ≡ right (right_state p)
    pub dead : (s : State T) → DeadIn build (s.inner ∷ s.outer) → left s ≡ None

  module _ (left right : State T → Option T) (alike : Alike left right) where
    back-same : (t : T) (ps : List Pair) (m : Mode) (vs : Variables)
        → option_and_then left (back t (map wholly ps) m vs) ≡ option_and_then right (back t (map climbingly ps) m vs)
    back-same t [] m vs = refl
    back-same t (q ∷ qs) m vs = alike.at (record { inner = placed_pair t q; outer = qs; mode = wanting false m; variables = vs })

    then-same : (f g : T → Option (State T)) (v : Option T) → ((t : T) → option_and_then left (f t) ≡ option_and_then right (g t))
        → option_and_then left (option_and_then f v) ≡ option_and_then right (option_and_then g v)
    then-same f g None h = refl
    then-same f g (Some t) h = h t

    items-same : (f g : T → Option (State T)) (v w : Option T) → v ≡ w → ((t : T) → option_and_then left (f t) ≡ option_and_then right (g t))
        → option_and_then left (option_and_then f v) ≡ option_and_then right (option_and_then g w)
    items-same f g v w e h = then-same f g v h ∙ ap (λ u. option_and_then right (option_and_then g u)) e

    push-same : (o : Operator) (p : Pairs) (v : Option (List (Frame T) × Place T)) → popped build o p.inner.frames p.inner.place ≡ v
        → left (pushed o (left_state p) (p.inner.all ++ frame p.inner.place o ∷ []))
        ≡ option_and_then right (option_and_then (λ frames. Some (pushed o (right_state p) frames)) (option_and_then (λ q. Some (frame q.1 o ∷ q.0)) v))
    push-same o p None e =
        alike.dead (pushed o (left_state p) (p.inner.all ++ frame p.inner.place o ∷ []))
        (inl (Dead-new build p.inner.all p.inner.frames o p.inner.place p.inner.same e))
    push-same o p (Some q) e =
        alike.at (record {
          inner = record {
            bracket = p.inner.bracket;
            items = p.inner.items;
            all = p.inner.all ++ frame p.inner.place o ∷ [];
            frames = frame q.1 o ∷ q.0;
            place = None;
            same = Same-push build p.inner.all p.inner.frames q.0 o p.inner.place q.1 p.inner.same e;
          };
          outer = p.outer;
          mode = (pushed o (left_state p) []).mode;
          variables = p.variables;
        })

    performed-same : (a : Action) (p : Pairs)
        → option_and_then left (performed build (whole build) a (left_state p)) ≡ option_and_then right (performed build (climbing build) a (right_state p))
    performed-same (action.Put l) p =
        alike.at (record { inner = placed_pair (leaf_tree build l) p.inner; outer = p.outer; mode = wanting false p.mode; variables = p.variables })
    performed-same (action.Push o) p = push-same o p (popped build o p.inner.frames p.inner.place) refl
    performed-same (action.Wait w) p =
        alike.at (record { inner = p.inner; outer = p.outer; mode = record { wanted = true; pending = w; at_edge = p.mode.at_edge }; variables = p.variables })
    performed-same (action.Begin b) p = alike.at
        (record { inner = fresh_pair b []; outer = p.inner ∷ p.outer; mode = wanting true p.mode; variables = p.variables })
    performed-same action.Item p =
        items-same _ _ (item (whole build) (left_state p)) (item (climbing build) (right_state p)) (item-same p)
        (λ t. alike.at (record {
          inner = fresh_pair p.inner.bracket (p.inner.items ++ t ∷ []);
          outer = p.outer;
          mode = wanting true p.mode;
          variables =
              p.variables;
        }))
    performed-same action.Tail p =
        items-same _ _ (item (whole build) (left_state p)) (item (climbing build) (right_state p)) (item-same p)
        (λ t. alike.at (record {
          inner = fresh_pair bracket.Tail (p.inner.items ++ t ∷ []);
          outer = p.outer;
          mode = wanting true p.mode;
          variables =
              p.variables;
        }))
    performed-same action.End p =
        items-same _ _ (item (whole build) (left_state p)) (item (climbing build) (right_state p)) (item-same p)
        (λ t. back-same (closed build p.inner.bracket p.inner.items t) p.outer p.mode p.variables)

  ended-same : (p : Pairs) (ps : List Pair) → ended (whole build) (left_state p) (map wholly ps) ≡ ended (climbing build) (right_state p) (map climbingly ps)
  ended-same p [] = ap (cond p.mode.wanted None) (item-same p)
  ended-same p (q ∷ qs) = refl

  last-same : (p : Pairs) (xs : List Token) → last (whole build) (left_state p) xs ≡ last (climbing build) (right_state p) xs
  last-same p [] = ended-same p p.outer
  last-same p (x ∷ xs) = refl

  abbrev noted_pairs : Token → Pairs → Pairs
  noted_pairs x p = record { inner = p.inner; outer = p.outer; mode = p.mode; variables = after_token p.variables x.kind }

  step-same : (table : Table) (x : Token) (xs : List Token) (p : Pairs) (v : Option Action)
      → Alike (λ t. run build (whole build) table (behind x t) xs) (λ t. run build (climbing build) table (behind x t) xs)
      → option_and_then (λ a. option_and_then (λ t. run build (whole build) table (behind x t) xs) (performed build (whole build) a (noted x (left_state p)))) v
      ≡ option_and_then (λ a. option_and_then (λ t. run build (climbing build) table (behind x t) xs)
      (performed build (climbing build) a (noted x (right_state p)))) v
  step-same table x xs p None alike = refl
  step-same table x xs p (Some a) alike =
      performed-same (λ t. run build (whole build) table (behind x t) xs) (λ t. run build (climbing build) table (behind x t) xs) alike a (noted_pairs x p)

  abbrev behind_pairs : Token → Pairs → Pairs
  behind_pairs x p = record { inner = p.inner; outer = p.outer; mode = (behind x (left_state p)).mode; variables = p.variables }

  pub run-same : (table : Table) (ts : List Token) (p : Pairs)
      → run build (whole build) table (left_state p) ts ≡ run build (climbing build) table (right_state p) ts
  run-same table [] p = refl
  run-same table (x ∷ xs) p =
      let step = step-same table x xs p (decided table (number_at p.variables x.kind) p.mode p.inner.bracket x.kind xs)
      (record { at = λ q. run-same table xs (behind_pairs x q); dead = λ s d. run-dead build table (behind x s) xs d }) in
      run-cons build (whole build) table (left_state p) x xs
      ∙ elim (is_end x.kind) as (λ b. cond b (last (whole build) (left_state p) xs)
      (option_and_then (λ a. option_and_then (λ t. run build (whole build) table (behind x t) xs) (performed build (whole build) a (noted x (left_state p))))
      (decided table (number_at p.variables x.kind) p.mode p.inner.bracket x.kind xs))
      ≡ cond b (last (climbing build) (right_state p) xs)
      (option_and_then (λ a. option_and_then (λ t. run build (climbing build) table (behind x t) xs)
      (performed build (climbing build) a (noted x (right_state p))))
      (decided table (number_at p.variables x.kind) p.mode p.inner.bracket x.kind xs)))
      [ true ↦ last-same p xs | false ↦ step ]
      ∙ sym (run-cons build (climbing build) table (right_state p) x xs)

  -- Climbing in one pass reads the same tree as whole levels.
  pub read-is : (table : Table) (ts : List Token) → read_of build table ts ≡ run build (climbing build) table start ts
  unfolding read_of
  read-is table ts =
      run-same table ts (record { inner = fresh_pair bracket.Whole []; outer = []; mode = (start {T = T}).mode; variables = (start {T = T}).variables })
