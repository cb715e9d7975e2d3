-- A level that is climbed as it is read whole, or that has no tree, whatever follows.
use Rattle.std.proofs.Common.{◌≡◌, true, false, cond, ◌⊎◌, inl, inr, List, [], ◌∷◌, ◌++◌, refl, ap, sym, ◌∙◌, subst, append_assoc}
use Rattle.std.specs.Prelude.{Option, Some, None, option_and_then}
use Rattle.std.proofs.lemmas.List.{append-nil}
use Rattle.plai_lex.specs.declared.token.Token.{Token}
use Rattle.plai_reader.specs.declared.operator.Operator.{Operator}
use Rattle.plai_reader.specs.declared.level.Frame.{Frame}
use Rattle.plai_reader.specs.declared.state.Bracket.TheVariants as bracket
use Rattle.plai_reader.specs.declared.state.Mode.{Mode}
use Rattle.plai_reader.specs.declared.state.Action.{Action}
use Rattle.plai_reader.specs.declared.state.Action.TheVariants as action
use Rattle.plai_reader.specs.Level.{Builder, Link, tree_of}
use Rattle.plai_reader.specs.Climb.{popped, climbed, climbing}
use Rattle.plai_reader.specs.Operators.{Table}
use Rattle.plai_reader.specs.declared.variables.Variables.{Variables}
use Rattle.plai_reader.specs.Variables.{number_at}
use Rattle.plai_reader.specs.Roles.{is_end, decided}
use Rattle.plai_reader.specs.Reading.{Layer, State, first_place, links_of, whole, within, limit_of, back, item, performed, noted, behind, ended, last, run}
use Rattle.plai_reader.proofs.Spine.{Place}
use Rattle.plai_reader.proofs.Runs.{run-cons}

abbrev pub frame : {T : Type 0} → Place T → Operator → Frame T
frame l o = record { left = l; operator = o }

abbrev link : {T : Type 0} → Operator → Place T → Link T
link o p = record { operator = o; place = p }

module _ {T : Type 0} (build : Builder T) where
  first_place-more : (fs : List (Frame T)) (l : Place T) (o : Operator) (p : Place T) → first_place (fs ++ frame l o ∷ []) p ≡ first_place fs l
  first_place-more [] l o p = refl
  first_place-more (f ∷ fs) l o p = refl

  links_of-more : (fs : List (Frame T)) (l : Place T) (o : Operator) (p : Place T) → links_of (fs ++ frame l o ∷ []) p ≡ links_of fs l ++ link o p ∷ []
  links_of-more [] l o p = refl
  links_of-more (f ∷ fs) l o p =
      ap (λ q. link f.operator q ∷ links_of (fs ++ frame l o ∷ []) p) (first_place-more fs l o p)
      ∙ ap (λ ls. link f.operator (first_place fs l) ∷ ls) (links_of-more fs l o p)

  -- a whole level and what may follow
  abbrev pub continued : List (Frame T) → Place T → List (Link T) → Option (Place T)
  continued all place more = tree_of build (first_place all place) (links_of all place ++ more)

  continued-more : (all : List (Frame T)) (l : Place T) (o : Operator) (p : Place T) (more : List (Link T))
      → continued (all ++ frame l o ∷ []) p more ≡ continued all l (link o p ∷ more)
  continued-more all l o p more =
      ap (λ q. tree_of build q (links_of (all ++ frame l o ∷ []) p ++ more)) (first_place-more all l o p)
      ∙ ap (λ ls. tree_of build (first_place all l) (ls ++ more)) (links_of-more all l o p)
      ∙ ap (tree_of build (first_place all l)) (append_assoc (links_of all l) (link o p ∷ []) more)

  -- frames that are climbed as the whole level is read, whatever follows
  abbrev pub Same : List (Frame T) → List (Frame T) → Type 0
  Same all fs = (place : Place T) (more : List (Link T)) → climbed build fs place more ≡ continued all place more

  abbrev pub Dead : List (Frame T) → Type 0
  Dead all = (place : Place T) (more : List (Link T)) → continued all place more ≡ None

  abbrev next_climb : Operator → Place T → List (Link T) → Option (List (Frame T) × Place T) → Option (Place T)
  next_climb o p more v = option_and_then (λ q. climbed build (frame q.1 o ∷ q.0) p more) v

  pub Same-push : (all fs gs : List (Frame T)) (o : Operator) (l left : Place T) → Same all fs → popped build o fs l ≡ Some (gs, left)
      → Same (all ++ frame l o ∷ []) (frame left o ∷ gs)
  Same-push all fs gs o l left h e p more =
      ap (next_climb o p more) (sym e) ∙ h l (link o p ∷ more) ∙ sym (continued-more all l o p more)

  pub Dead-new : (all fs : List (Frame T)) (o : Operator) (l : Place T) → Same all fs → popped build o fs l ≡ None → Dead (all ++ frame l o ∷ [])
  Dead-new all fs o l h e p more =
      continued-more all l o p more ∙ sym (h l (link o p ∷ more)) ∙ ap (next_climb o p more) e

  Dead-push : (all : List (Frame T)) (o : Operator) (l : Place T) → Dead all → Dead (all ++ frame l o ∷ [])
  Dead-push all o l h p more = continued-more all l o p more ∙ h l (link o p ∷ more)

  continued-end : (all : List (Frame T)) (place : Place T) → continued all place [] ≡ tree_of build (first_place all place) (links_of all place)
  continued-end all place = ap (tree_of build (first_place all place)) (append-nil (links_of all place))

  pub Same-tree : (all fs : List (Frame T)) (place : Place T) → Same all fs → (whole build).tree all place ≡ (climbing build).tree fs place
  Same-tree all fs place h = sym (h place [] ∙ continued-end all place)

  -- a level that has no tree, whatever follows
  abbrev pub DeadIn : List (Layer T) → Type 0
  DeadIn [] = ⊥
  DeadIn (l ∷ ls) = Dead l.frames ⊎ DeadIn ls

  abbrev DeadNext : Option (State T) → Type 0
  DeadNext None = Unit {0}
  DeadNext (Some t) = DeadIn (t.inner ∷ t.outer)

  item-dead : (s : State T) → Dead s.inner.frames → item (whole build) s ≡ None
  item-dead s h = ap (within (limit_of s.inner.bracket)) (sym (continued-end s.inner.frames s.inner.place) ∙ h s.inner.place [])

  back-dead : (t : T) (ls : List (Layer T)) (m : Mode) (vs : Variables) → DeadIn ls → DeadNext (back t ls m vs)
  back-dead t [] m vs h = absurd h
  back-dead t (l ∷ ls) m vs h = h

  -- after an item
  then-dead : (next : T → Option (State T)) (v : Option T) → ((t : T) → DeadNext (next t)) → DeadNext (option_and_then next v)
  then-dead next None h = tt
  then-dead next (Some t) h = h t

  item-next : (s : State T) (next : T → Option (State T)) → DeadIn (s.inner ∷ s.outer) → (DeadIn s.outer → (t : T) → DeadNext (next t))
      → DeadNext (option_and_then next (item (whole build) s))
  item-next s next h below =
      elim h [
        | inl d ↦ subst (λ v. DeadNext (option_and_then next v)) (sym (item-dead s d)) tt
        | inr r ↦ then-dead next (item (whole build) s) (below r)
      ]

  performed-dead : (a : Action) (s : State T) → DeadIn (s.inner ∷ s.outer) → DeadNext (performed build (whole build) a s)
  performed-dead (action.Put t) s h = h
  performed-dead (action.Push o) s h = elim h [ inl d ↦ inl (Dead-push s.inner.frames o s.inner.place d) | inr r ↦ inr r ]
  performed-dead (action.Wait p) s h = h
  performed-dead (action.Begin b) s h = inr h
  performed-dead action.Item s h = item-next s _ h (λ r t. inr r)
  performed-dead action.Tail s h = item-next s _ h (λ r t. inr r)
  performed-dead action.End s h = item-next s _ h (λ r t. back-dead _ s.outer s.mode s.variables r)

  ended-dead : (s : State T) (ls : List (Layer T)) → DeadIn (s.inner ∷ ls) → ended (whole build) s ls ≡ None
  ended-dead s [] h =
      elim h [
        | inl d ↦ elim s.mode.wanted as (λ b. cond b None (item (whole build) s) ≡ None) [ true ↦ refl | false ↦ item-dead s d ]
        | inr r ↦ absurd r
      ]
  ended-dead s (l ∷ ls) h = refl

  last-dead : (s : State T) (xs : List Token) → DeadIn (s.inner ∷ s.outer) → last (whole build) s xs ≡ None
  last-dead s [] h = ended-dead s s.outer h
  last-dead s (x ∷ xs) h = refl

  after-dead : (next : State T → Option T) (v : Option (State T)) → DeadNext v → ((t : State T) → DeadIn (t.inner ∷ t.outer) → next t ≡ None)
      → option_and_then next v ≡ None
  after-dead next None h below = refl
  after-dead next (Some t) h below = below t h

  decided-dead : (table : Table) (s : State T) (x : Token) (xs : List Token) (v : Option Action) → DeadIn (s.inner ∷ s.outer)
      → ((t : State T) → DeadIn (t.inner ∷ t.outer) → run build (whole build) table t xs ≡ None)
      → option_and_then (λ a. option_and_then (λ t. run build (whole build) table (behind x t) xs) (performed build (whole build) a (noted x s))) v ≡ None
  decided-dead table s x xs None h below = refl
  decided-dead table s x xs (Some a) h below =
      after-dead (λ t. run build (whole build) table (behind x t) xs) (performed build (whole build) a (noted x s)) (performed-dead a (noted x s) h)
      (λ t d. below (behind x t) d)

  -- once a level has no tree, there is no term
  pub run-dead : (table : Table) (s : State T) (ts : List Token) → DeadIn (s.inner ∷ s.outer) → run build (whole build) table s ts ≡ None
  run-dead table s [] h = refl
  run-dead table s (x ∷ xs) h =
      let step = decided-dead table s x xs (decided table (number_at s.variables x.kind) s.mode s.inner.bracket x.kind xs) h (λ t d. run-dead table t xs d) in
      run-cons build (whole build) table s x xs
      ∙ elim (is_end x.kind) as (λ b. cond b (last (whole build) s xs)
      (option_and_then (λ a. option_and_then (λ t. run build (whole build) table (behind x t) xs) (performed build (whole build) a (noted x s)))
      (decided table (number_at s.variables x.kind) s.mode s.inner.bracket x.kind xs)) ≡ None)
      [ true ↦ last-dead s xs h | false ↦ step ]
