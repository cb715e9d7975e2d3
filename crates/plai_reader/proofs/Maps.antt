-- Reading commutes with a map of trees that takes what one builder makes to what another makes.
use Rattle.std.proofs.Common.{◌≡◌, ℕ, ℤ, pos, ◌≤◌, ◌<◌, Bool, true, false, cond, List, [], ◌∷◌, ◌++◌, map, refl, ap, sym, ◌∙◌, subst, arith}
use Rattle.std.specs.Prelude.{Option, Some, None, option_and_then, option_map, nat_lt, nat_le, codes}
use Rattle.std.proofs.lemmas.List.{map-append}
use Rattle.plai_lex.specs.declared.token.Token.{Token}
use Rattle.plai_reader.specs.declared.operator.Side.{Side}
use Rattle.plai_reader.specs.declared.operator.Side.TheVariants.{Nothing, Below, UpTo}
use Rattle.plai_reader.specs.declared.operator.Operator.{Operator}
use Rattle.plai_reader.specs.declared.level.Operand.{Operand}
use Rattle.plai_reader.specs.declared.level.Frame.{Frame}
use Rattle.plai_reader.specs.declared.state.Bracket.{Bracket}
use Rattle.plai_reader.specs.declared.state.Bracket.TheVariants as bracket
use Rattle.plai_reader.specs.declared.state.Leaf.{Leaf}
use Rattle.plai_reader.specs.declared.state.Leaf.TheVariants as leaf
use Rattle.plai_reader.specs.declared.state.Mode.{Mode}
use Rattle.plai_reader.specs.declared.state.Action.{Action}
use Rattle.plai_reader.specs.declared.state.Action.TheVariants as action
use Rattle.plai_reader.specs.Kinds.{left_of, right_of}
use Rattle.plai_reader.specs.Level.{Builder, taken, applied}
use Rattle.plai_reader.specs.Climb.{holds, finished, popped, climbing}
use Rattle.plai_reader.specs.Operators.{Table}
use Rattle.plai_reader.specs.declared.variables.Variables.{Variables}
use Rattle.plai_reader.specs.Variables.{no_variables, number_at, after_token, after_tokens}
use Rattle.plai_reader.specs.Roles.{nil, is_end, decided}
use Rattle.plai_reader.specs.Reading.{Layer, State, within, limit_of, list_of, leaf_tree, closed, put, back, pushed, begun, fresh, item, performed, noted}
use Rattle.plai_reader.specs.Reading.{behind, ended, last, run, start, read_of}
use Rattle.plai_reader.proofs.Spine.{Place}
use Rattle.plai_reader.proofs.Numbers.{IsNumbering, no_variables-IsNumbering, after_token-IsNumbering, after_tokens-grows, number_at-below}
use Rattle.plai_reader.proofs.Decisions.{LeafBelow, ActionBelow, MaybeBelow, decided-below}
use Rattle.plai_reader.proofs.Readings.{read-is}
use Rattle.plai_reader.proofs.Runs.{run-cons, VariablesAre, performed-variables}

-- the map takes what the one builds to what the other builds, for variables below the limit
pub record Keeps {T U : Type 0} (limit : ℕ) (A : Builder T) (B : Builder U) (h : T → U) : Type 0 where
  pub variable : (n : ℕ) → n < limit → h (A.variable n) ≡ B.variable n
  pub integer : (n : ℤ) → h (A.integer n) ≡ B.integer n
  pub atom : (name : List ℕ) → h (A.atom name) ≡ B.atom name
  pub compound : (name : List ℕ) (ts : List T) → h (A.compound name ts) ≡ B.compound name (map h ts)

then_map : {X Y Z W : Type 0} (f : X → Option Y) (g : Z → Option W) (p : X → Z) (q : Y → W) (v : Option X)
    → ((x : X) → g (p x) ≡ option_map q (f x)) → option_and_then g (option_map p v) ≡ option_map q (option_and_then f v)
then_map f g p q None e = refl
then_map f g p q (Some x) e = e x

cond_map : {X Y : Type 0} (b : Bool) (q : X → Y) (x y : Option X) → cond b (option_map q x) (option_map q y) ≡ option_map q (cond b x y)
cond_map true q x y = refl
cond_map false q x y = refl

cond_same : {X : Type 0} (b : Bool) (x y z w : X) → x ≡ z → y ≡ w → cond b x y ≡ cond b z w
cond_same true x y z w p q = p
cond_same false x y z w p q = q

module _ {T U : Type 0} (h : T → U) where
  abbrev pub operand_map : Operand T → Operand U
  operand_map x = record { tree = h x.tree; priority = x.priority }

  abbrev pub place_map : Place T → Place U
  place_map p = option_map operand_map p

  abbrev pub frame_map : Frame T → Frame U
  frame_map f = record { left = place_map f.left; operator = f.operator }

  abbrev pub layer_map : Layer T → Layer U
  layer_map l = record { bracket = l.bracket; items = map h l.items; frames = map frame_map l.frames; place = place_map l.place }

  abbrev pub state_map : State T → State U
  state_map s = record { inner = layer_map s.inner; outer = map layer_map s.outer; mode = s.mode; variables = s.variables }

  abbrev pop_map : List (Frame T) × Place T → List (Frame U) × Place U
  pop_map p = (map frame_map p.0, place_map p.1)

  below-map : (b : Bool) (t : T) → cond b (Some (h t ∷ [])) None ≡ option_map (map h) (cond b (Some (t ∷ [])) None)
  below-map true t = refl
  below-map false t = refl

  taken-map : (k : Side) (p : ℕ) (place : Place T) → taken k p (place_map place) ≡ option_map (map h) (taken k p place)
  taken-map Nothing p None = refl
  taken-map Nothing p (Some x) = refl
  taken-map Below p None = refl
  taken-map Below p (Some x) = below-map (nat_lt x.priority p) x.tree
  taken-map UpTo p None = refl
  taken-map UpTo p (Some x) = below-map (nat_le x.priority p) x.tree

  within-test : (b : Bool) (t : T) → cond b (Some (h t)) None ≡ option_map h (cond b (Some t) None)
  within-test true t = refl
  within-test false t = refl

  within-map : (n : ℕ) (v : Option (Place T)) → within n (option_map place_map v) ≡ option_map h (within n v)
  within-map n None = refl
  within-map n (Some None) = refl
  within-map n (Some (Some x)) = within-test (nat_le x.priority n) x.tree

module _ {T U : Type 0} (limit : ℕ) (A : Builder T) (B : Builder U) (h : T → U) (keeps : Keeps limit A B h) where
  -- an operator over arguments
  abbrev over : {V : Type 0} → Builder V → Operator → Option (List V) → Option (List V) → Option (Place V)
  over build o left right = option_and_then (λ before. option_and_then (λ after.
      Some (Some (record { tree = build.compound o.name (before ++ after); priority = o.priority }))) right) left

  over-map : (o : Operator) (v w : Option (List T)) → over B o (option_map (map h) v) (option_map (map h) w) ≡ option_map (place_map h) (over A o v w)
  over-map o None w = refl
  over-map o (Some xs) None = refl
  over-map o (Some xs) (Some ys) =
      let e : B.compound o.name (map h xs ++ map h ys) ≡ h (A.compound o.name (xs ++ ys)) =
      ap (B.compound o.name) (sym (map-append h xs ys)) ∙ sym (keeps.compound o.name (xs ++ ys)) in
      ap (λ t. Some (Some (record { tree = t; priority = o.priority }))) e

  applied-map : (o : Operator) (left right : Place T) → applied B o (place_map h left) (place_map h right) ≡ option_map (place_map h) (applied A o left right)
  applied-map o left right =
      ap (λ v. over B o v (taken (right_of o.kind) o.priority (place_map h right))) (taken-map h (left_of o.kind) o.priority left)
      ∙ ap (over B o (option_map (map h) (taken (left_of o.kind) o.priority left))) (taken-map h (right_of o.kind) o.priority right)
      ∙ over-map o (taken (left_of o.kind) o.priority left) (taken (right_of o.kind) o.priority right)

  finished-map : (fs : List (Frame T)) (current : Place T)
      → finished B (map (frame_map h) fs) (place_map h current) ≡ option_map (place_map h) (finished A fs current)
  finished-map [] current = refl
  finished-map (f ∷ fs) current =
      ap (option_and_then (finished B (map (frame_map h) fs))) (applied-map f.operator f.left current)
      ∙ then_map (finished A fs) (finished B (map (frame_map h) fs)) (place_map h) (place_map h) (applied A f.operator f.left current) (λ c. finished-map fs c)

  popped-map : (next : Operator) (fs : List (Frame T)) (current : Place T)
      → popped B next (map (frame_map h) fs) (place_map h current) ≡ option_map (pop_map h) (popped A next fs current)
  popped-map next [] current = refl
  popped-map next (f ∷ fs) current =
      let below : option_and_then (popped B next (map (frame_map h) fs)) (applied B f.operator (place_map h f.left) (place_map h current))
      ≡ option_map (pop_map h) (option_and_then (popped A next fs) (applied A f.operator f.left current)) =
      ap (option_and_then (popped B next (map (frame_map h) fs))) (applied-map f.operator f.left current)
      ∙ then_map (popped A next fs) (popped B next (map (frame_map h) fs)) (place_map h) (pop_map h) (applied A f.operator f.left current)
      (λ c. popped-map next fs c) in
      ap (cond (holds f.operator next) (Some (map (frame_map h) (f ∷ fs), place_map h current))) below
      ∙ cond_map (holds f.operator next) (pop_map h) (Some (f ∷ fs, current)) (option_and_then (popped A next fs) (applied A f.operator f.left current))

  list_of-map : (xs : List T) (t : T) → list_of B (map h xs) (h t) ≡ h (list_of A xs t)
  list_of-map [] t = refl
  list_of-map (x ∷ xs) t =
      ap (λ u. B.compound (codes ".") (h x ∷ u ∷ [])) (list_of-map xs t) ∙ sym (keeps.compound (codes ".") (x ∷ list_of A xs t ∷ []))

  integers-map : (text : List ℕ) → map (λ c. B.integer (pos c)) text ≡ map h (map (λ c. A.integer (pos c)) text)
  integers-map [] = refl
  integers-map (c ∷ cs) = ap (λ t. t ∷ map (λ c. B.integer (pos c)) cs) (sym (keeps.integer (pos c))) ∙ ap (λ ts. h (A.integer (pos c)) ∷ ts) (integers-map cs)

  leaf-map : (l : Leaf) → LeafBelow limit l → leaf_tree B l ≡ h (leaf_tree A l)
  leaf-map (leaf.Variable n) p = sym (keeps.variable n p)
  leaf-map (leaf.Integer n) p = sym (keeps.integer n)
  leaf-map (leaf.Atom name) p = sym (keeps.atom name)
  leaf-map (leaf.Text text) p =
      ap (λ ts. list_of B ts (B.atom nil)) (integers-map text)
      ∙ ap (list_of B (map h (map (λ c. A.integer (pos c)) text))) (sym (keeps.atom nil))
      ∙ list_of-map (map (λ c. A.integer (pos c)) text) (A.atom nil)

  closed-map : (b : Bracket) (items : List T) (t : T) → closed B b (map h items) (h t) ≡ h (closed A b items t)
  closed-map bracket.Whole items t = refl
  closed-map bracket.Round items t = refl
  closed-map (bracket.Arguments name) items t =
      ap (B.compound name) (sym (map-append h items (t ∷ []))) ∙ sym (keeps.compound name (items ++ t ∷ []))
  closed-map bracket.Items items t =
      ap (λ ts. list_of B ts (B.atom nil)) (sym (map-append h items (t ∷ [])))
      ∙ ap (list_of B (map h (items ++ t ∷ []))) (sym (keeps.atom nil))
      ∙ list_of-map (items ++ t ∷ []) (A.atom nil)
  closed-map bracket.Tail items t = list_of-map items t

  item-map : (s : State T) → item (climbing B) (state_map h s) ≡ option_map h (item (climbing A) s)
  item-map s =
      ap (within (limit_of s.inner.bracket)) (finished-map s.inner.frames s.inner.place)
      ∙ within-map h (limit_of s.inner.bracket) (finished A s.inner.frames s.inner.place)

  back-map : (t : T) (ls : List (Layer T)) (m : Mode) (vs : Variables) → back (h t) (map (layer_map h) ls) m vs ≡ option_map (state_map h) (back t ls m vs)
  back-map t [] m vs = refl
  back-map t (l ∷ ls) m vs = refl

  push-map : (o : Operator) (s : State T) (v : Option (List (Frame T) × Place T))
      → option_and_then (λ frames. Some (pushed o (state_map h s) frames))
      (option_and_then (λ p. Some (record { left = p.1; operator = o } ∷ p.0)) (option_map (pop_map h) v))
      ≡ option_map (state_map h) (option_and_then (λ frames. Some (pushed o s frames))
      (option_and_then (λ p. Some (record { left = p.1; operator = o } ∷ p.0)) v))
  push-map o s None = refl
  push-map o s (Some p) = refl

  -- behind an item
  next-map : (s : State T) (f : T → Option (State T)) (g : U → Option (State U)) → ((t : T) → g (h t) ≡ option_map (state_map h) (f t))
      → option_and_then g (item (climbing B) (state_map h s)) ≡ option_map (state_map h) (option_and_then f (item (climbing A) s))
  next-map s f g e = ap (option_and_then g) (item-map s) ∙ then_map f g h (state_map h) (item (climbing A) s) e

  more-map : (b : Bracket) (s : State T) (t : T)
      → Some (begun (fresh b (map h s.inner.items ++ h t ∷ [])) (map (layer_map h) s.outer) (state_map h s))
      ≡ option_map (state_map h) (Some (begun (fresh b (s.inner.items ++ t ∷ [])) s.outer s))
  more-map b s t = ap (λ ts. Some (begun (fresh b ts) (map (layer_map h) s.outer) (state_map h s))) (sym (map-append h s.inner.items (t ∷ [])))

  performed-map : (a : Action) (s : State T) → ActionBelow limit a
      → performed B (climbing B) a (state_map h s) ≡ option_map (state_map h) (performed A (climbing A) a s)
  performed-map (action.Put l) s p = ap (λ t. Some (put t (state_map h s))) (leaf-map l p)
  performed-map (action.Push o) s p =
      ap (λ v. option_and_then (λ frames. Some (pushed o (state_map h s) frames)) (option_and_then (λ p. Some (record { left = p.1; operator = o } ∷ p.0)) v))
      (popped-map o s.inner.frames s.inner.place)
      ∙ push-map o s (popped A o s.inner.frames s.inner.place)
  performed-map (action.Wait w) s p = refl
  performed-map (action.Begin b) s p = refl
  performed-map action.Item s p = next-map s _ _ (λ t. more-map s.inner.bracket s t)
  performed-map action.Tail s p = next-map s _ _ (λ t. more-map bracket.Tail s t)
  performed-map action.End s p =
      next-map s (λ t. back (closed A s.inner.bracket s.inner.items t) s.outer s.mode s.variables)
      (λ t. back (closed B s.inner.bracket (map h s.inner.items) t) (map (layer_map h) s.outer) s.mode s.variables)
      (λ t. ap (λ u. back u (map (layer_map h) s.outer) s.mode s.variables) (closed-map s.inner.bracket s.inner.items t)
      ∙ back-map (closed A s.inner.bracket s.inner.items t) s.outer s.mode s.variables)

  ended-map : (s : State T) (ls : List (Layer T)) → ended (climbing B) (state_map h s) (map (layer_map h) ls) ≡ option_map h (ended (climbing A) s ls)
  ended-map s [] = ap (cond s.mode.wanted None) (item-map s) ∙ cond_map s.mode.wanted h None (item (climbing A) s)
  ended-map s (l ∷ ls) = refl

  last-map : (s : State T) (xs : List Token) → last (climbing B) (state_map h s) xs ≡ option_map h (last (climbing A) s xs)
  last-map s [] = ended-map s s.outer
  last-map s (x ∷ xs) = refl

  then_map_where : (vs : Variables) (f : State T → Option T) (g : State U → Option U) (v : Option (State T)) → VariablesAre vs v
      → ((t : State T) → t.variables ≡ vs → g (state_map h t) ≡ option_map h (f t))
      → option_and_then g (option_map (state_map h) v) ≡ option_map h (option_and_then f v)
  then_map_where vs f g None k e = refl
  then_map_where vs f g (Some t) k e = e t k

  step-map : (table : Table) (x : Token) (xs : List Token) (s : State T) (v : Option Action) → MaybeBelow limit v
      → ((t : State T) → t.variables ≡ after_token s.variables x.kind
      → run B (climbing B) table (behind x (state_map h t)) xs ≡ option_map h (run A (climbing A) table (behind x t) xs))
      → option_and_then (λ a. option_and_then (λ t. run B (climbing B) table (behind x t) xs) (performed B (climbing B) a (noted x (state_map h s)))) v
      ≡ option_map h (option_and_then (λ a. option_and_then (λ t. run A (climbing A) table (behind x t) xs) (performed A (climbing A) a (noted x s))) v)
  step-map table x xs s None p below = refl
  step-map table x xs s (Some a) p below =
      ap (option_and_then (λ t. run B (climbing B) table (behind x t) xs)) (performed-map a (noted x s) p)
      ∙ then_map_where (after_token s.variables x.kind) (λ t. run A (climbing A) table (behind x t) xs) (λ t. run B (climbing B) table (behind x t) xs)
      (performed A (climbing A) a (noted x s)) (performed-variables A (climbing A) a (noted x s)) below

  pub run-map : (table : Table) (ts : List Token) (s : State T) → IsNumbering s.variables → (after_tokens s.variables ts).count ≤ limit
      → run B (climbing B) table (state_map h s) ts ≡ option_map h (run A (climbing A) table s ts)
  run-map table [] s n p = refl
  run-map table (x ∷ xs) s n p =
      let now : (after_token s.variables x.kind).count ≤ limit = let q = after_tokens-grows (after_token s.variables x.kind) xs in omega arith in
      let number = number_at s.variables x.kind in
      let below = decided-below limit table number s.mode s.inner.bracket x.kind xs (number_at-below s.variables x.kind limit n now) in
      let next : (t : State T) → t.variables ≡ after_token s.variables x.kind
      → run B (climbing B) table (behind x (state_map h t)) xs ≡ option_map h (run A (climbing A) table (behind x t) xs)
      = λ t e. run-map table xs (behind x t)
      (subst IsNumbering (sym e) (after_token-IsNumbering s.variables x.kind n))
      (subst (λ vs. (after_tokens vs xs).count ≤ limit) (sym e) p) in
      let step = step-map table x xs s (decided table number s.mode s.inner.bracket x.kind xs) below next in
      run-cons B (climbing B) table (state_map h s) x xs
      ∙ cond_same (is_end x.kind) _ _ _ _ (last-map s xs) step ∙ cond_map (is_end x.kind) h _ _
      ∙ ap (option_map h) (sym (run-cons A (climbing A) table s x xs))

  pub read-map : (table : Table) (ts : List Token) → (after_tokens no_variables ts).count ≤ limit → read_of B table ts ≡ option_map h (read_of A table ts)
  read-map table ts p =
      read-is B table ts ∙ run-map table ts start no_variables-IsNumbering p ∙ ap (option_map h) (sym (read-is A table ts))
