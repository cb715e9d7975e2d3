-- Functions of the slots below a bound, told by their models among the masks below two to the bound.
use Rattle.std.proofs.Common.{◌≡◌, ℕ, zero, suc, ◌^◌, ◌<◌, Bool, false, ◌||◌, ◌↔◌, IsTrue, List, [], ◌∷◌, length, get_or, refl, sym, ap, subst, ◌∙◌, arith}
use Rattle.plai_base.specs.Mask.{has_slot, pattern}
use Rattle.plai_base.proofs.Bits.{pattern_lt, pattern_slot}
use Rattle.plai_bdd.specs.declared.node.Node.{Node}
use Rattle.plai_bdd.specs.Assignment.{Assignment}
use Rattle.plai_bdd.specs.Nodes.{holds, is_model, IsCanonical, IsOver, HaveSameModels}
use Rattle.plai_bdd.proofs.Canonical.{same_nodes}
use Rattle.plai_bdd.proofs.Depends.{holds-below}

-- the answers at the slots below a number
abbrev answers_below : ℕ → Assignment → List Bool
answers_below zero at = []
answers_below (suc n) at = at 0 ∷ answers_below n (λ k. at (suc k))

answers_below-at : (n : ℕ) (at : Assignment) (k : ℕ) → k < n → get_or (answers_below n at) k false ≡ at k
answers_below-at zero at k lt = absurd (omega arith)
answers_below-at (suc n) at zero lt = refl
answers_below-at (suc n) at (suc k) lt = answers_below-at n (λ m. at (suc m)) k (omega arith)

length-answers_below : (n : ℕ) (at : Assignment) → length (answers_below n at) ≡ n
length-answers_below zero at = refl
length-answers_below (suc n) at = ap suc (length-answers_below n (λ k. at (suc k)))

-- the set of the true slots below a number
pub mask_below : ℕ → Assignment → ℕ
mask_below n at = pattern (answers_below n at)

pub mask_below-lt : (n : ℕ) (at : Assignment) → mask_below n at < 2 ^ n
unfolding mask_below
mask_below-lt n at = subst (λ k. mask_below n at < 2 ^ k) (length-answers_below n at) (pattern_lt (answers_below n at))

pub mask_below-slot : (n : ℕ) (at : Assignment) (k : ℕ) → k < n → has_slot (mask_below n at) k ≡ at k
unfolding mask_below
mask_below-slot n at k lt = pattern_slot (answers_below n at) k ∙ answers_below-at n at k lt

-- a function of the slots below the bound answers at an assignment as at a mask
pub at_mask : (nodes : List Node) (bound : ℕ) → IsCanonical nodes → IsOver bound nodes → (at : Assignment)
    → holds nodes at ≡ is_model nodes (mask_below bound at)
at_mask nodes bound c over at = holds-below nodes bound c over at (has_slot (mask_below bound at)) (λ k lt. sym (mask_below-slot bound at k lt))

module _ (left right : List Node) (bound : ℕ) (cl : IsCanonical left) (cr : IsCanonical right) (over_left : IsOver bound left)
    (over_right : IsOver bound right) where
  pub same_models : HaveSameModels bound left right → left ≡ right
  same_models same =
      same_nodes left right cl cr
      (λ at. at_mask left bound cl over_left at ∙ same (mask_below bound at) (mask_below-lt bound at) ∙ sym (at_mask right bound cr over_right at))

  pub implies_models : (r : Bool) → IsTrue r ↔ ((at : Assignment) → IsTrue (holds left at) → IsTrue (holds right at))
      → IsTrue r ↔ ((mask : ℕ) → mask < 2 ^ bound → IsTrue (is_model left mask) → IsTrue (is_model right mask))
  implies_models r d = (
    λ h mask lt. d.0 h (has_slot mask),
    λ all. d.1 (λ at this.
        at_mask right bound cr over_right at ∙ all (mask_below bound at) (mask_below-lt bound at) (sym (at_mask left bound cl over_left at) ∙ this)),
  )

pub forces_models : (nodes : List Node) (bound a b : ℕ) → IsCanonical nodes → a < bound → b < bound → IsOver bound nodes → (r : Bool)
    → IsTrue r ↔ ((at : Assignment) → IsTrue (holds nodes at) → IsTrue (at a || at b))
    → IsTrue r ↔ ((mask : ℕ) → mask < 2 ^ bound → IsTrue (is_model nodes mask) → IsTrue (has_slot mask a || has_slot mask b))
forces_models nodes bound a b c lt_a lt_b over r d = (
  λ h mask lt. d.0 h (has_slot mask),
  λ all. d.1 (λ at this.
      (λ i. sym (mask_below-slot bound at a lt_a) i || sym (mask_below-slot bound at b lt_b) i)
      ∙ all (mask_below bound at) (mask_below-lt bound at) (sym (at_mask nodes bound c over at) ∙ this)),
)
