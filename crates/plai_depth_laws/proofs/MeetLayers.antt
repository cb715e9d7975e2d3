-- A meet by the layers of its sides, and with a side that lies above or below the other.
use Rattle.std.proofs.Common.{◌≡◌, ℕ, zero, suc, ℤ, Bool, true, cond, List, [], ◌∷◌, map, length, replicate, Option, Some, None, refl, sym, ap, ◌∙◌}
use Rattle.std.specs.Option.{option_map, option_and_then}
use Rattle.std.specs.List.{AllByRecursion}
use Rattle.std.proofs.lemmas.List.{length-map}
use Rattle.plai_terms.specs.declared.skeleton.Skeleton.{Skeleton, out-Skeleton, roll-Skeleton, out-roll-Skeleton, Any, Integer, Int, Atom, Compound}
use Rattle.plai_terms.specs.declared.skeleton.Skeleton.TheOpen.{Skeleton-F}
use Rattle.plai_terms.specs.declared.skeleton.Skeleton.TheVariants.{outs-Any}
use Rattle.plai_terms.proofs.Skeletons.{arguments, induction}
use Rattle.plai_depth_laws.specs.Skeletons.{same_functor, consed, meet_args, meet_layer, meet}
use Rattle.plai_depth_laws.specs.Order.{IsUnder, same, any, integer, compound, AreUnder, none, more}
use Rattle.plai_depth_laws.proofs.Equations.{is-Any, is-Integer, is-Int, is-Atom, is-Compound, meet_at, integer_itself, name_itself, functor_itself}
use Rattle.plai_depth_laws.proofs.Order.{length-AreUnder}

-- with a layer that isn't `any`
module _ (s t : Skeleton) where
  pub meet-any : out-Skeleton s ≡ Skeleton-F.Any → meet s t ≡ Some t
  meet-any e = meet_at s Skeleton-F.Any e t

  pub meet-integer : out-Skeleton s ≡ Skeleton-F.Integer → (y : Skeleton-F Skeleton) → out-Skeleton t ≡ y → meet s t ≡ meet_layer Skeleton-F.Integer y
  meet-integer e y f = meet_at s Skeleton-F.Integer e t ∙ ap (meet_layer Skeleton-F.Integer) f

  pub meet-number : (m : ℤ) → out-Skeleton s ≡ Skeleton-F.Int m → (y : Skeleton-F Skeleton) → out-Skeleton t ≡ y → meet s t ≡ meet_layer (Skeleton-F.Int m) y
  meet-number m e y f = meet_at s (Skeleton-F.Int m) e t ∙ ap (meet_layer (Skeleton-F.Int m)) f

  pub meet-atom : (a : List ℕ) → out-Skeleton s ≡ Skeleton-F.Atom a → (y : Skeleton-F Skeleton) → out-Skeleton t ≡ y
      → meet s t ≡ meet_layer (Skeleton-F.Atom a) y
  meet-atom a e y f = meet_at s (Skeleton-F.Atom a) e t ∙ ap (meet_layer (Skeleton-F.Atom a)) f

  pub meet-compound : (a : List ℕ) (ss : List Skeleton) → out-Skeleton s ≡ Skeleton-F.Compound a ss → (y : Skeleton-F Skeleton) → out-Skeleton t ≡ y
      → meet s t ≡ meet_layer (Skeleton-F.Compound a (map meet ss)) y
  meet-compound a ss e y f = meet_at s (Skeleton-F.Compound a ss) e t ∙ ap (meet_layer (Skeleton-F.Compound a (map meet ss))) f

-- ---- with one that lies above, or below

some_cond : {b : Bool} {A : Type 0} (x : A) → b ≡ true → cond b (Some x) None ≡ Some x
some_cond x e = ap (λ b. cond b (Some x) None) e

abbrev Rests : Skeleton → Type 0
Rests s = meet s s ≡ Some s

pub consed_somes : {s : Skeleton} {ss : List Skeleton} {m : Option Skeleton} {ms : Option (List Skeleton)} → m ≡ Some s → ms ≡ Some ss
    → option_and_then (λ s. consed s ms) m ≡ Some (s ∷ ss)
consed_somes {s} {ss} {m} {ms} e f = ap (option_and_then (λ s. consed s ms)) e ∙ ap (consed s) f

all_rest : (ss : List Skeleton) → AllByRecursion Rests ss → meet_args (map meet ss) ss ≡ Some ss
all_rest [] h = refl
all_rest (s ∷ ss) h = consed_somes h.0 (all_rest ss h.1)

pub compound_meets : (a : List ℕ) (ms : List (Skeleton → Option Skeleton)) (ts us : List Skeleton) → length ms ≡ length ts → meet_args ms ts ≡ Some us
    → cond (same_functor a (length ms) a (length ts)) (option_map (Compound a) (meet_args ms ts)) None ≡ Some (Compound a us)
compound_meets a ms ts us e f =
    ap (λ b. cond b (option_map (Compound a) (meet_args ms ts)) None) (functor_itself a (length ms) (length ts) e) ∙ ap (option_map (Compound a)) f

rest_layer : (s : Skeleton) (x : Skeleton-F Skeleton) → out-Skeleton s ≡ x → AllByRecursion Rests (arguments x) → meet s s ≡ Some s
rest_layer s Skeleton-F.Any e h = meet-any s s e
rest_layer s Skeleton-F.Integer e h = meet-integer s s e Skeleton-F.Integer e ∙ ap Some (sym (is-Integer s e))
rest_layer s (Skeleton-F.Int n) e h = meet-number s s n e (Skeleton-F.Int n) e ∙ some_cond (Int n) (integer_itself n) ∙ ap Some (sym (is-Int s n e))
rest_layer s (Skeleton-F.Atom a) e h = meet-atom s s a e (Skeleton-F.Atom a) e ∙ some_cond (Atom a) (name_itself a) ∙ ap Some (sym (is-Atom s a e))
rest_layer s (Skeleton-F.Compound a ss) e h =
    meet-compound s s a ss e (Skeleton-F.Compound a ss) e ∙ compound_meets a (map meet ss) ss ss (length-map ss meet) (all_rest ss h)
    ∙ ap Some (sym (is-Compound s a ss e))

pub meet_itself : (s : Skeleton) → meet s s ≡ Some s
meet_itself = induction Rests (λ x h. rest_layer (roll-Skeleton x) x (out-roll-Skeleton x) h)

-- `any` changes nothing
abbrev Stays : Skeleton → Type 0
Stays s = (t : Skeleton) → out-Skeleton t ≡ Skeleton-F.Any → meet s t ≡ Some s

all_stay : (ss : List Skeleton) → AllByRecursion Stays ss → (n : ℕ) → n ≡ length ss → meet_args (map meet ss) (replicate n Any) ≡ Some ss
all_stay [] h n e = refl
all_stay (s ∷ ss) h zero e = absurd cc
all_stay (s ∷ ss) h (suc n) e = let l : n ≡ length ss = cc in consed_somes (h.0 Any outs-Any) (all_stay ss h.1 n l)

stay_layer : (s : Skeleton) (x : Skeleton-F Skeleton) → out-Skeleton s ≡ x → AllByRecursion Stays (arguments x) → Stays s
stay_layer s Skeleton-F.Any e h t f = meet-any s t e ∙ ap Some (is-Any t f ∙ sym (is-Any s e))
stay_layer s Skeleton-F.Integer e h t f = meet-integer s t e Skeleton-F.Any f ∙ ap Some (sym (is-Integer s e))
stay_layer s (Skeleton-F.Int n) e h t f = meet-number s t n e Skeleton-F.Any f ∙ ap Some (sym (is-Int s n e))
stay_layer s (Skeleton-F.Atom a) e h t f = meet-atom s t a e Skeleton-F.Any f ∙ ap Some (sym (is-Atom s a e))
stay_layer s (Skeleton-F.Compound a ss) e h t f =
    meet-compound s t a ss e Skeleton-F.Any f
    ∙ ap (option_map (Compound a)) (all_stay ss h (length (map meet ss)) (length-map ss meet))
    ∙ ap Some (sym (is-Compound s a ss e))

pub any_second : (s : Skeleton) → Stays s
any_second = induction Stays (λ x h. stay_layer (roll-Skeleton x) x (out-roll-Skeleton x) h)

mutual
  -- with one above
  pub meet_under : {s t : Skeleton} → IsUnder s t → meet s t ≡ Some s
  meet_under {s} {t} (same e) = ap (meet s) (sym e) ∙ meet_itself s
  meet_under {s} {t} (any e) = any_second s t e
  meet_under {s} {t} (integer n e f) = meet-number s t n e Skeleton-F.Integer f ∙ ap Some (sym (is-Int s n e))
  meet_under {s} {t} (compound a ss ts e f ps) =
      meet-compound s t a ss e (Skeleton-F.Compound a ts) f
      ∙ compound_meets a (map meet ss) ts ss (length-map ss meet ∙ length-AreUnder ps) (meets_under ps)
      ∙ ap Some (sym (is-Compound s a ss e))

  meets_under : {ss ts : List Skeleton} → AreUnder ss ts → meet_args (map meet ss) ts ≡ Some ss
  meets_under none = refl
  meets_under (more p ps) = consed_somes (meet_under p) (meets_under ps)

mutual
  -- with one below
  pub meet_over : {s t : Skeleton} → IsUnder t s → meet s t ≡ Some t
  meet_over {s} {t} (same e) = ap (λ s. meet s t) (sym e) ∙ meet_itself t
  meet_over {s} {t} (any e) = meet-any s t e
  meet_over {s} {t} (integer n e f) = meet-integer s t f (Skeleton-F.Int n) e ∙ ap Some (sym (is-Int t n e))
  meet_over {s} {t} (compound a ts ss e f ps) =
      meet-compound s t a ss f (Skeleton-F.Compound a ts) e
      ∙ compound_meets a (map meet ss) ts ts (length-map ss meet ∙ sym (length-AreUnder ps)) (meets_over ps)
      ∙ ap Some (sym (is-Compound t a ts e))

  meets_over : {ss ts : List Skeleton} → AreUnder ts ss → meet_args (map meet ss) ts ≡ Some ts
  meets_over none = refl
  meets_over (more p ps) = consed_somes (meet_over p) (meets_over ps)
