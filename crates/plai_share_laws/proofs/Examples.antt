-- The domain at small programs.
use Rattle.std.proofs.Common.{◌≡◌, ℕ, ◌+◌, List, [], ◌∷◌, map, Option, Some, None, refl, ap, ◌∙◌, codes}
use Rattle.plai_terms.specs.declared.term.Term.{Term, Var, Compound}
use Rattle.plai_terms.specs.declared.prop.Prop.TheVariants as property
use Rattle.plai_terms.specs.declared.abs.Abs.{Abs}
use Rattle.plai_terms.specs.declared.abs.Abs.TheVariants.{Groups}
use Rattle.plai_domain.specs.declared.action.Action.TheVariants as action
use Rattle.plai_domain.specs.Plain.{StateView}
use Rattle.plai_share_laws.specs.Groups.{meets, without}
use Rattle.plai_share_laws.specs.Shares.{Side, Slot, Other, sizes}
use Rattle.plai_share_laws.specs.Sides.{unions, term_slots, side_by, side_of}
use Rattle.plai_share_laws.specs.Calls.{enter, call, back, refine, back_formed}
use Rattle.plai_share_laws.specs.Sharing.{shares_of, abs_of, state_with, state_from, sides_of, sharing}
use Rattle.plai_share_laws.proofs.TermVariables.{variable_of-Var, variable_of-Compound}
use Rattle.plai_share_laws.proofs.TermMoves.{slots-Var, slots-Compound}

-- ---- sides of terms

side-Var : (n v : ℕ) → side_of n (Var v) ≡ Slot (n + v)
side-Var n v = ap (λ o. side_by n o (term_slots n (Var v))) (variable_of-Var v)

pub side-Compound : (n : ℕ) (name : List ℕ) (args : List Term) → side_of n (Compound name args) ≡ Other (unions (map (term_slots n) args))
side-Compound n name args = ap (λ o. side_by n o (term_slots n (Compound name args))) (variable_of-Compound name args) ∙ ap Other (slots-Compound n name args)

-- ---- what comes of a clause

abbrev after : Option StateView → (StateView → Option StateView) → Option StateView
after None f = None
after (Some s) f = f s

abbrev answer : Option StateView → List Term → Option Abs
answer None head = None
answer (Some s) head = Some (sharing.exit s head)

abbrev x : Term
x = Var 0

abbrev y : Term
y = Var 1

abbrev z : Term
z = Var 2

-- f(Y,Z)
abbrev fyz : Term
fyz = Compound (codes "f") (y ∷ z ∷ [])

xy_sides : sides_of 2 (x ∷ y ∷ []) ≡ Slot 2 ∷ Slot 3 ∷ []
xy_sides = λ i. side-Var 2 0 i ∷ side-Var 2 1 i ∷ []

xyz_sides : sides_of 3 (x ∷ y ∷ z ∷ []) ≡ Slot 3 ∷ Slot 4 ∷ Slot 5 ∷ []
xyz_sides = λ i. side-Var 3 0 i ∷ side-Var 3 1 i ∷ side-Var 3 2 i ∷ []

fyz_side : side_of 3 fyz ≡ Other 48
fyz_side = side-Compound 3 (codes "f") (y ∷ z ∷ []) ∙ (λ i. Other (unions (slots-Var 3 1 i ∷ slots-Var 3 2 i ∷ [])))

x_fyz_sides : sides_of 3 (x ∷ fyz ∷ []) ≡ Slot 3 ∷ Other 48 ∷ []
x_fyz_sides = λ i. side-Var 3 0 i ∷ fyz_side i ∷ []

-- ---- p(X,Y) :- X = Y, called with two free independent variables

abbrev two_free : Abs
two_free = sharing.describe 2 (property.Var 1 ∷ property.Var 2 ∷ property.Indep 1 2 ∷ [])

two_free_is : two_free ≡ Groups 2 (1 ∷ 2 ∷ []) 3
unfolding meets without
two_free_is = refl

abbrev equal_by : List Side → List Side → Option Abs
equal_by head args =
    answer (after (Some (state_with 2 2 (enter 2 head (shares_of two_free)))) (λ s. state_from 2 2 (refine 4 args (action.Unify 1 2) (shares_of s.abs))))
    (x ∷ y ∷ [])

equal_at : equal_by (Slot 2 ∷ Slot 3 ∷ []) (Slot 2 ∷ Slot 3 ∷ []) ≡ Some (Groups 2 (3 ∷ []) 3)
unfolding meets without
equal_at = refl

equal_variables : answer (after (sharing.enter two_free (x ∷ y ∷ []) 2).value (λ s. (sharing.refine s (x ∷ y ∷ []) (action.Unify 1 2)).value)) (x ∷ y ∷ [])
    ≡ Some (Groups 2 (3 ∷ []) 3)
equal_variables = ap (λ ss. equal_by ss ss) xy_sides ∙ equal_at

-- ---- p(X,Y,Z) :- X = f(Y,Z), called with independent arguments, and with a free first one

abbrev apart : Abs
apart = sharing.describe 3 (property.Indep 1 2 ∷ property.Indep 1 3 ∷ property.Indep 2 3 ∷ [])

abbrev apart_free : Abs
apart_free = sharing.describe 3 (property.Var 1 ∷ property.Indep 1 2 ∷ property.Indep 1 3 ∷ property.Indep 2 3 ∷ [])

apart_is : apart ≡ Groups 3 (1 ∷ 2 ∷ 4 ∷ []) 0
unfolding meets without
apart_is = refl

apart_free_is : apart_free ≡ Groups 3 (1 ∷ 2 ∷ 4 ∷ []) 1
unfolding meets without
apart_free_is = refl

abbrev built_by : Abs → List Side → List Side → Option Abs
built_by a head args =
    answer (after (Some (state_with 3 3 (enter 3 head (shares_of a)))) (λ s. state_from 3 3 (refine 6 args (action.Unify 1 2) (shares_of s.abs))))
    (x ∷ y ∷ z ∷ [])

abbrev built : Abs → Option Abs
built a = answer (after (sharing.enter a (x ∷ y ∷ z ∷ []) 3).value (λ s. (sharing.refine s (x ∷ fyz ∷ []) (action.Unify 1 2)).value)) (x ∷ y ∷ z ∷ [])

built_at : built_by apart (Slot 3 ∷ Slot 4 ∷ Slot 5 ∷ []) (Slot 3 ∷ Other 48 ∷ []) ≡ Some (Groups 3 (3 ∷ 5 ∷ 7 ∷ []) 0)
unfolding meets without
built_at = refl

built_free_at : built_by apart_free (Slot 3 ∷ Slot 4 ∷ Slot 5 ∷ []) (Slot 3 ∷ Other 48 ∷ []) ≡ Some (Groups 3 (3 ∷ 5 ∷ []) 0)
unfolding meets without
built_free_at = refl

built_apart : built apart ≡ Some (Groups 3 (3 ∷ 5 ∷ 7 ∷ []) 0)
built_apart = (λ i. built_by apart (xyz_sides i) (x_fyz_sides i)) ∙ built_at

built_apart_free : built apart_free ≡ Some (Groups 3 (3 ∷ 5 ∷ []) 0)
built_apart_free = (λ i. built_by apart_free (xyz_sides i) (x_fyz_sides i)) ∙ built_free_at

-- ---- p(X) :- q(X,X), called with a free argument, and q(f(_),_)

abbrev one_free : Abs
one_free = sharing.describe 1 (property.Var 1 ∷ [])

one_free_is : one_free ≡ Groups 1 (1 ∷ []) 1
unfolding meets without
one_free_is = refl

x_sides : sides_of 1 (x ∷ []) ≡ Slot 1 ∷ []
x_sides = λ i. side-Var 1 0 i ∷ []

xx_sides : sides_of 1 (x ∷ x ∷ []) ≡ Slot 1 ∷ Slot 1 ∷ []
xx_sides = λ i. side-Var 1 0 i ∷ side-Var 1 0 i ∷ []

-- f(X)
abbrev fx : Term
fx = Compound (codes "f") (x ∷ [])

fx_sides : sides_of 2 (fx ∷ y ∷ []) ≡ Other 4 ∷ Slot 3 ∷ []
fx_sides = λ i. (side-Compound 2 (codes "f") (x ∷ []) ∙ (λ j. Other (unions (slots-Var 2 0 j ∷ [])))) i ∷ side-Var 2 1 i ∷ []

abbrev twice_by : List Side → List Side → Abs
twice_by head args = abs_of (call 2 args (enter 1 head (shares_of one_free)))

twice_at : twice_by (Slot 1 ∷ []) (Slot 1 ∷ Slot 1 ∷ []) ≡ Groups 2 (3 ∷ []) 3
unfolding meets without
twice_at = refl

abbrev started : StateView
started = state_with 1 1 (enter 1 (sides_of 1 (x ∷ [])) (shares_of one_free))

twice_called : (sharing.call started (x ∷ x ∷ [])).value ≡ Groups 2 (3 ∷ []) 3
twice_called = (λ i. twice_by (x_sides i) (xx_sides i)) ∙ twice_at

-- of the clause q(f(_),_)
abbrev opened_by : List Side → Option Abs
opened_by head = answer (Some (state_with 2 2 (enter 2 head (shares_of (Groups 2 (3 ∷ []) 3))))) (fx ∷ y ∷ [])

opened_at : opened_by (Other 4 ∷ Slot 3 ∷ []) ≡ Some (Groups 2 (3 ∷ []) 0)
unfolding meets without
opened_at = refl

opened : answer (sharing.enter (Groups 2 (3 ∷ []) 3) (fx ∷ y ∷ []) 2).value (fx ∷ y ∷ []) ≡ Some (Groups 2 (3 ∷ []) 0)
opened = ap opened_by fx_sides ∙ opened_at

abbrev returned_by : List Side → List Side → Option Abs
returned_by head args = answer (Some (state_with 1 1 (back 2 args (enter 1 head (shares_of one_free)) (shares_of (Groups 2 (3 ∷ []) 0))))) (x ∷ [])

returned_at : returned_by (Slot 1 ∷ []) (Slot 1 ∷ Slot 1 ∷ []) ≡ Some (Groups 1 (1 ∷ []) 0)
unfolding meets without
returned_at = refl

returned : answer (sharing.back started (x ∷ x ∷ []) (Groups 2 (3 ∷ []) 0)).value (x ∷ []) ≡ Some (Groups 1 (1 ∷ []) 0)
returned = (λ i. returned_by (x_sides i) (xx_sides i)) ∙ returned_at

-- ---- p(X) :- var(X), .., called with a ground argument

abbrev one_ground : Abs
one_ground = sharing.describe 1 (property.Ground 1 ∷ [])

one_ground_is : one_ground ≡ Groups 1 [] 0
unfolding meets without
one_ground_is = refl

abbrev tested_by : List Side → Option StateView
tested_by ss = after (Some (state_with 1 1 (enter 1 ss (shares_of one_ground)))) (λ s. state_from 1 1 (refine 2 ss (action.Var 1) (shares_of s.abs)))

tested_at : tested_by (Slot 1 ∷ []) ≡ None
unfolding meets without
tested_at = refl

tested : after (sharing.enter one_ground (x ∷ []) 1).value (λ s. (sharing.refine s (x ∷ []) (action.Var 1)).value) ≡ None
tested = ap tested_by x_sides ∙ tested_at

-- ---- the sizes of the sets that back forms at q(f(A,B,C,D)), with four free independent variables

abbrev vars : List Term
vars = Var 0 ∷ Var 1 ∷ Var 2 ∷ Var 3 ∷ []

abbrev fvars : Term
fvars = Compound (codes "f") vars

fvars_sides : sides_of 0 (fvars ∷ []) ≡ Other 15 ∷ []
fvars_sides = λ i. (side-Compound 0 (codes "f") vars
    ∙ (λ j. Other (unions (slots-Var 0 0 j ∷ slots-Var 0 1 j ∷ slots-Var 0 2 j ∷ slots-Var 0 3 j ∷ [])))) i ∷ []

abbrev four : StateView
four = state_with 0 4 (enter 4 [] (shares_of (Groups 0 [] 0)))

abbrev formed_by : List Side → List ℕ
formed_by args = sizes (back_formed 4 args (shares_of four.abs) (shares_of (Groups 1 (1 ∷ []) 0)))

formed_at : formed_by (Other 15 ∷ []) ≡ 4 ∷ 4 ∷ 15 ∷ 15 ∷ []
unfolding meets without
formed_at = refl

formed : (sharing.back four (fvars ∷ []) (Groups 1 (1 ∷ []) 0)).sizes ≡ 4 ∷ 4 ∷ 15 ∷ 15 ∷ []
formed = ap formed_by fvars_sides ∙ formed_at
