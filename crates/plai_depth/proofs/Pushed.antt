-- A push into a variable, and of a compound into one.
use Rattle.std.proofs.Common.{◌≡◌, ℕ, zero, suc, ◌≤◌, Bool, true, cond, List, [], ◌∷◌, map, length, set, Option, Some, None, refl, sym, ap, ◌∙◌, arith}
use Rattle.std.specs.Option.{option_map, option_and_then}
use Rattle.std.proofs.lemmas.List.{length-map}
use Rattle.plai_terms.specs.declared.term.Term.{Term, Var, Compound as structure}
use Rattle.plai_terms.specs.declared.skeleton.Skeleton.{Skeleton, Any, Compound}
use Rattle.plai_terms.specs.declared.skeleton.Skeleton.TheVariants.{outs-Compound}
use Rattle.plai_depth_laws.specs.Skeletons.{same_functor, meet}
use Rattle.plai_depth_laws.specs.Moves.{skeleton_at, push_args, push_compound, push, push_all}
use Rattle.plai_depth_laws.proofs.Meets.{meet-first_Any}
use Rattle.plai_depth_laws.proofs.Moves.{push-Var, push-Compound}

-- ---- a variable

set_beyond : (ss : List Skeleton) (n : ℕ) (s : Skeleton) → length ss ≤ n → set ss n s ≡ ss
set_beyond [] n s l = refl
set_beyond (x ∷ xs) zero s l = absurd (omega (arith, l))
set_beyond (x ∷ xs) (suc n) s l = ap (λ ss. x ∷ ss) (set_beyond xs n s (omega (arith, l)))

module _ (ss : List Skeleton) (n : ℕ) (a s : Skeleton) (is : s ≡ skeleton_at ss n) where
  pub push_beyond : s ≡ Any → length ss ≤ n → push (Var n) ss a ≡ Some ss
  push_beyond e l =
      push-Var n ss a ∙ ap (λ s. option_map (set ss n) (meet s a)) (sym is ∙ e) ∙ ap (option_map (set ss n)) (meet-first_Any a) ∙ ap Some (set_beyond ss n a l)

  pub push_met : (m : Skeleton) (new : List Skeleton) → meet s a ≡ Some m → new ≡ set ss n m → push (Var n) ss a ≡ Some new
  push_met m new e f =
      push-Var n ss a ∙ ap (λ s. option_map (set ss n) (meet s a)) (sym is) ∙ ap (option_map (set ss n)) e ∙ ap Some (sym f)

  pub push_clash : meet s a ≡ None → push (Var n) ss a ≡ None
  push_clash e = push-Var n ss a ∙ ap (λ s. option_map (set ss n) (meet s a)) (sym is) ∙ ap (option_map (set ss n)) e

-- ---- a compound

same_then : (f g : List Skeleton → Option (List Skeleton)) → ((ss : List Skeleton) → f ss ≡ g ss) → (o : Option (List Skeleton))
    → option_and_then f o ≡ option_and_then g o
same_then f g e None = refl
same_then f g e (Some ss) = e ss

args_all : (args : List Term) (as' ss : List Skeleton) → push_args (map push args) as' ss ≡ push_all args as' ss
args_all [] as' ss = refl
args_all (t ∷ args) [] ss = refl
args_all (t ∷ args) (a ∷ as') ss = same_then (push_args (map push args) as') (push_all args as') (args_all args as') (push t ss a)

push_functor : (name : List ℕ) (args : List Term) (ss : List Skeleton) (other : List ℕ) (others : List Skeleton)
    → same_functor name (length args) other (length others) ≡ true → push (structure name args) ss (Compound other others) ≡ push_all args others ss
push_functor name args ss other others e =
    push-Compound name args ss (Compound other others) ∙ ap (push_compound name (map push args) ss) (outs-Compound other others)
    ∙ ap (λ n. cond (same_functor name n other (length others)) (push_args (map push args) others ss) None) (length-map args push)
    ∙ ap (λ b. cond b (push_args (map push args) others ss) None) e ∙ args_all args others ss

-- the same functor, as it is tested
pub functor_pushed : (term : Term) (pushed : Skeleton) (ss : List Skeleton) (name : List ℕ) (args : List Term) (other : List ℕ)
    (others : List Skeleton) (n m : ℕ) (b : Bool)
    → term ≡ structure name args → pushed ≡ Compound other others → n ≡ length args → m ≡ length others → b ≡ same_functor name n other m → b ≡ true
    → push term ss pushed ≡ push_all args others ss
functor_pushed term pushed ss name args other others n m b t p c d e f =
    (λ i. push (t i) ss (p i))
    ∙ push_functor name args ss other others ((λ i. same_functor name (sym c i) other (sym d i)) ∙ sym e ∙ f)
