-- Reduced trees with the same answers are the same tree.
use Rattle.std.proofs.Common.{◌≡◌, ℕ, zero, suc, ◌+◌, ◌<◌, ◌≤◌, Bool, true, false, cond, nat_eq, max, refl, sym, ap, subst, ◌∙◌, arith, ◌⊎◌, inl, inr}
use Rattle.std.proofs.lemmas.Bool.Decides.{nat_tests}
use Rattle.plai_bdd.specs.Assignment.{Assignment, with_slot}
use Rattle.plai_bdd.specs.Tree.{Tree, Tip, Fork, value, IsReduced}

same_slot : (n : ℕ) → nat_eq n n ≡ true
same_slot n = grind (arith, nat_tests)

other_slot : (n m : ℕ) → m < n → nat_eq n m ≡ false
other_slot n m h = grind (arith, nat_tests)

pub with_slot_same : (at : Assignment) (slot : ℕ) (b : Bool) → with_slot at slot b slot ≡ b
with_slot_same at slot b = ap (λ c. cond c b (at slot)) (same_slot slot)

abbrev pub SameValue : Tree → Tree → Type 0
SameValue t u = (at : Assignment) → value t at ≡ value u at

-- a lower bound on the slots may be lowered
pub IsReduced-lower : (t : Tree) (m n : ℕ) → n ≤ m → IsReduced m t → IsReduced n t
IsReduced-lower (Tip b) m n h r = tt
IsReduced-lower (Fork s l u) m n h r = (omega arith, r.1, r.2, r.3, r.4)

-- a tree's answer does not depend on a slot below all of its own
pub value-with_slot : (t : Tree) (n : ℕ) → IsReduced n t → (slot : ℕ) → slot < n → (at : Assignment) (b : Bool) → value t (with_slot at slot b) ≡ value t at
value-with_slot (Tip a) n r slot h at b = refl
value-with_slot (Fork s l u) n r slot h at b =
    let lt : slot < s = omega arith in
    let here : with_slot at slot b s ≡ at s = ap (λ c. cond c b (at s)) (other_slot s slot lt) in
    let lows = value-with_slot l (s + 1) r.3 slot (omega arith) at b in
    let highs = value-with_slot u (s + 1) r.4 slot (omega arith) at b in
    (λ i. cond (here i) (highs i) (lows i))

-- the answer with the top slot set is the child's
pub value-low : (s : ℕ) (l u : Tree) (n : ℕ) → IsReduced n (Fork s l u) → (at : Assignment) → value (Fork s l u) (with_slot at s false) ≡ value l at
value-low s l u n r at =
    ap (λ c. cond c (value u (with_slot at s false)) (value l (with_slot at s false))) (with_slot_same at s false)
    ∙ value-with_slot l (s + 1) r.3 s (omega arith) at false

pub value-high : (s : ℕ) (l u : Tree) (n : ℕ) → IsReduced n (Fork s l u) → (at : Assignment) → value (Fork s l u) (with_slot at s true) ≡ value u at
value-high s l u n r at =
    ap (λ c. cond c (value u (with_slot at s true)) (value l (with_slot at s true))) (with_slot_same at s true)
    ∙ value-with_slot u (s + 1) r.4 s (omega arith) at true

-- a fork whose answers do not depend on its slot has children with the same answers
pub children_same : (s : ℕ) (l u : Tree) (n : ℕ) → IsReduced n (Fork s l u) → (g : Assignment → Bool)
    → ((at : Assignment) (b : Bool) → g (with_slot at s b) ≡ g at) → ((at : Assignment) → value (Fork s l u) at ≡ g at) → SameValue l u
children_same s l u n r g free h at =
    sym (value-low s l u n r at) ∙ h (with_slot at s false) ∙ free at false ∙ sym (free at true) ∙ sym (h (with_slot at s true)) ∙ value-high s l u n r at

abbrev depth : Tree → ℕ
depth (Tip b) = 0
depth (Fork s l u) = suc (max (depth l) (depth u))

abbrev SameUpTo : ℕ → Type 0
SameUpTo n = (k : ℕ) (t u : Tree) → IsReduced k t → IsReduced k u → depth t ≤ n → depth u ≤ n → SameValue t u → t ≡ u

-- no fork has the answers of a function that does not depend on its slot
apart : (n : ℕ) → SameUpTo n → (s : ℕ) (l u : Tree) (k : ℕ) → IsReduced k (Fork s l u) → depth (Fork s l u) ≤ suc n → (g : Assignment → Bool)
    → ((at : Assignment) (b : Bool) → g (with_slot at s b) ≡ g at) → ((at : Assignment) → value (Fork s l u) at ≡ g at) → ⊥
apart n same s l u k r d g free h = r.2 (same (s + 1) l u r.3 r.4 (omega arith) (omega arith) (children_same s l u k r g free h))

fork_step : (n : ℕ) → SameUpTo n → (k : ℕ) (s : ℕ) (l u : Tree) (s' : ℕ) (l' u' : Tree) → IsReduced k (Fork s l u) → IsReduced k (Fork s' l' u')
    → depth (Fork s l u) ≤ suc n → depth (Fork s' l' u') ≤ suc n → SameValue (Fork s l u) (Fork s' l' u') → (s < s') ⊎ ((s' < s) ⊎ (s ≡ s'))
    → Fork s l u ≡ Fork s' l' u'
fork_step n same k s l u s' l' u' r r' d d' h (inl lt) =
    let r2 : IsReduced s' (Fork s' l' u') = (omega arith, r'.1, r'.2, r'.3, r'.4) in
    absurd (apart n same s l u k r d (value (Fork s' l' u')) (λ at b. value-with_slot (Fork s' l' u') s' r2 s lt at b) h)
fork_step n same k s l u s' l' u' r r' d d' h (inr (inl lt)) =
    let r2 : IsReduced s (Fork s l u) = (omega arith, r.1, r.2, r.3, r.4) in
    absurd (apart n same s' l' u' k r' d' (value (Fork s l u)) (λ at b. value-with_slot (Fork s l u) s r2 s' lt at b) (λ at. sym (h at)))
fork_step n same k s l u s' l' u' r r' d d' h (inr (inr e)) =
    let q : IsReduced k (Fork s l' u') = subst (λ x. IsReduced k (Fork x l' u')) (sym e) r' in
    let h2 : SameValue (Fork s l u) (Fork s l' u') = λ at. h at ∙ ap (λ x. value (Fork x l' u') at) (sym e) in
    let lows = same (s + 1) l l' r.3 q.3 (omega arith) (omega arith)
    (λ at. sym (value-low s l u k r at) ∙ h2 (with_slot at s false) ∙ value-low s l' u' k q at) in
    let highs = same (s + 1) u u' r.4 q.4 (omega arith) (omega arith)
    (λ at. sym (value-high s l u k r at) ∙ h2 (with_slot at s true) ∙ value-high s l' u' k q at) in
    (λ i. Fork (e i) (lows i) (highs i))

compared : (a b : ℕ) → (a < b) ⊎ ((b < a) ⊎ (a ≡ b))
compared a b = grind arith

same_up_to : (n : ℕ) → SameUpTo n
same_up_to n k (Tip a) (Tip b) r r' d d' h = ap Tip (h (λ _. false))
same_up_to zero k (Tip a) (Fork s l u) r r' d d' h = absurd (omega arith)
same_up_to zero k (Fork s l u) t r r' d d' h = absurd (omega arith)
same_up_to (suc n) k (Tip a) (Fork s l u) r r' d d' h = absurd (apart n (same_up_to n) s l u k r' d' (λ _. a) (λ _ _. refl) (λ at. sym (h at)))
same_up_to (suc n) k (Fork s l u) (Tip a) r r' d d' h = absurd (apart n (same_up_to n) s l u k r d (λ _. a) (λ _ _. refl) h)
same_up_to (suc n) k (Fork s l u) (Fork s' l' u') r r' d d' h = fork_step n (same_up_to n) k s l u s' l' u' r r' d d' h (compared s s')

-- reduced trees with the same answers are the same
pub same_tree : (t u : Tree) → IsReduced 0 t → IsReduced 0 u → SameValue t u → t ≡ u
same_tree t u r r' h = same_up_to (max (depth t) (depth u)) 0 t u r r' (omega arith) (omega arith) h

pub same_below : (t u : Tree) (n : ℕ) → IsReduced n t → IsReduced n u → SameValue t u → t ≡ u
same_below t u n r r' h = same_up_to (max (depth t) (depth u)) n t u r r' (omega arith) (omega arith) h
