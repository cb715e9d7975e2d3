-- Looking for the end of a comment.
use Rattle.std.proofs.Common.{◌≡◌, ℕ, suc, ◌+◌, ◌<◌, true, false, nat_eq, codes, Option, None, Some, option_map, List, length, drop, refl, ap, sym, ◌∙◌}
use Rattle.std.proofs.Common.{arith, drop-cons, add-one}
use Rattle.std.specs.List.{starts_with}
use Rattle.plai_lex.specs.Pieces.{close_len}

-- no end stands before place i
pub record Searched (text : List ℕ) (i : ℕ) : Type 0 where
  pub left : close_len text ≡ option_map (λ n. i + n) (close_len (drop i text))

zero-plus : (o : Option ℕ) → option_map (λ n. 0 + n) o ≡ o
zero-plus None = refl
zero-plus (Some n) = ap Some (omega arith)

plus-suc : (i : ℕ) (o : Option ℕ) → option_map (λ n. i + n) (option_map suc o) ≡ option_map (λ n. suc i + n) o
plus-suc i None = refl
plus-suc i (Some n) = ap Some (omega arith)

pub search_starts : (text : List ℕ) → Searched text 0
search_starts text = record { left = sym (zero-plus (close_len text)) }

pub search_ends : (text : List ℕ) (i : ℕ) → i < length text → true ≡ starts_with nat_eq (drop i text) (codes "*/") → Searched text i
    → Some (i + 2) ≡ close_len text
search_ends text i inside found searched =
    let split = drop-cons text i 0 inside in let here = rw split at (sym found) in
    sym (searched.left ∙ rw (split, here) refl)

pub search_goes_on : (text : List ℕ) (i : ℕ) → i < length text → false ≡ starts_with nat_eq (drop i text) (codes "*/") → Searched text i
    → Searched text (i + 1)
search_goes_on text i inside other searched =
    let split = drop-cons text i 0 inside in let here = rw split at (sym other) in
    record { left = rw (add-one i) (searched.left ∙ rw (split, here) (plus-suc i _)) }
