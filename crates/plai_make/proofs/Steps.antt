-- One draw, one predicate and one pair of edits more.
use Rattle.std.proofs.Common.{◌≡◌, ℕ, zero, suc, ◌+◌, ◌*◌, true, false, List, [], ◌∷◌, ◌++◌, Result, Ok, IfOk, All, flat_map, refl, sym, ap, ◌∙◌, arith}
use Rattle.std.proofs.lemmas.List.{map-id, flat_map_more, append_assoc}
use Rattle.std.proofs.lemmas.List.FromFn.{map-range_with_len_more}
use Rattle.std.specs.List.{range_with_len}
use Rattle.plai_clauses.specs.Program.{ProgramView}
use Rattle.plai_make.specs.Draws.{following, state_at, draw}
use Rattle.plai_make.specs.Programs.{HasHome, beginning, with_clauses, with_preds}

pub first_state : (seed : ℕ) → seed ≡ state_at seed 0
unfolding state_at
first_state seed = λ _. seed

further : (seed i : ℕ) → following (state_at seed i) ≡ state_at seed (suc i)
unfolding state_at
further seed i = λ _. following (state_at seed i)

pub one_further : (seed i j s : ℕ) → s ≡ state_at seed i → j ≡ i + 1 → following s ≡ state_at seed j
one_further seed i j s e k =
    let is : suc i ≡ j = omega arith in
    ap following e ∙ further seed i ∙ ap (state_at seed) is

range_more : (n : ℕ) → range_with_len 0 (n + 1) ≡ range_with_len 0 n ++ n ∷ []
range_more n =
    sym (map-id (range_with_len 0 (n + 1))) ∙ map-range_with_len_more (λ k. k) 0 n n (omega arith) ∙ ap (λ xs. xs ++ n ∷ []) (map-id (range_with_len 0 n))

pub more_items : {A : Type 0} (f : ℕ → List A) (before items after : List A) (i : ℕ) → items ≡ before ++ flat_map f (range_with_len 0 i) → after ≡ items ++ f i
    → after ≡ before ++ flat_map f (range_with_len 0 (i + 1))
more_items f before items after i e h =
    h ∙ ap (λ t. t ++ f i) e ∙ flat_map_more f before (range_with_len 0 i) i ∙ ap (λ xs. before ++ flat_map f xs) (sym (range_more i))

-- ---- the program

pub no_preds : (count : ℕ) → beginning ≡ with_preds count 0
unfolding with_preds
no_preds count = refl

pred_more : (count i : ℕ) → with_clauses (with_preds count i) i (draw count (2 * i + 1)) (draw count (2 * i + 2)) ≡ with_preds count (suc i)
unfolding with_preds
pred_more count i = refl

pub one_pred : (count i first second : ℕ) (program : ProgramView) → program ≡ with_preds count i → first ≡ draw count (2 * i + 1)
    → second ≡ draw count (2 * i + 2)
    → with_clauses program i first second ≡ with_preds count (i + 1)
one_pred count i first second program e f s =
    ap (λ p. with_clauses p i first second) e ∙ ap (λ x. with_clauses (with_preds count i) i x second) f
    ∙ ap (λ x. with_clauses (with_preds count i) i (draw count (2 * i + 1)) x) s ∙ pred_more count i ∙ ap (with_preds count) (omega arith)
