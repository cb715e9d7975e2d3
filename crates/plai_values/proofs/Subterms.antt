-- Two lists of subterms, compared from the first on.
use Rattle.std.proofs.Common.{◌≡◌, ◌<◌, ◌+◌, ℕ, zero, suc, List, [], ◌∷◌, drop, get_or, length, min, Bor, true, false, arith, add-one, refl, sym, ap, ◌∙◌}
use Rattle.std.specs.declared.cmp.Ordering.{Ordering}
use Rattle.std.specs.declared.cmp.Ordering.TheVariants.{Less, Equal, Greater}
use Rattle.std.specs.Ordering.{ordering_then, nat_cmp, is_ne}
use Rattle.std.specs.Cmp.Lexicographic.{slice_cmp}
use Rattle.std.proofs.lemmas.Bool.Decides.{nat_tests}
use Rattle.plai_terms.specs.Preorder.{referred}
use Rattle.plai_terms.specs.declared.term.Term.{Term}
use Rattle.plai_values.specs.Nodes.{node_order}

opened_at : (xs : List (Bor Term)) (i : ℕ) (x : Bor Term) → i < length xs → x ≡ get_or xs i x → drop i (referred xs) ≡ x.now ∷ drop (suc i) (referred xs)
opened_at [] i x h e = absurd (omega arith)
opened_at (y ∷ ys) zero x h e = ap (λ z. z.now ∷ referred ys) (sym e)
opened_at (y ∷ ys) (suc i) x h e = opened_at ys i x (omega arith) e

pub opened : (xs : List (Bor Term)) (i : ℕ) (x : Bor Term) → i < length xs → x ≡ get_or xs i x → drop i (referred xs) ≡ x.now ∷ drop (i + 1) (referred xs)
opened xs i x h e = opened_at xs i x h e ∙ ap (λ k. x.now ∷ drop k (referred xs)) (sym (add-one i))

tied : (o : Ordering) → is_ne o ≡ false → o ≡ Equal
tied Less e = cc
tied Equal e = refl
tied Greater e = cc

decided : (o p : Ordering) → is_ne o ≡ true → ordering_then o p ≡ o
decided Less p e = refl
decided Equal p e = cc
decided Greater p e = refl

module _ (xs ys : List (Bor Term)) (i : ℕ) (x y : Bor Term) (o r : Ordering)
    (h : i < length xs) (k : i < length ys) (a : x ≡ get_or xs i x) (b : y ≡ get_or ys i y)
    (e : o ≡ node_order x.now y.now) (whole : r ≡ slice_cmp node_order (drop i (referred xs)) (drop i (referred ys))) where
  next : r ≡ ordering_then o (slice_cmp node_order (drop (i + 1) (referred xs)) (drop (i + 1) (referred ys)))
  next =
      whole ∙ ap (λ s. slice_cmp node_order s (drop i (referred ys))) (opened xs i x h a)
      ∙ ap (slice_cmp node_order (x.now ∷ drop (i + 1) (referred xs))) (opened ys i y k b)
      ∙ ap (λ p. ordering_then p (slice_cmp node_order (drop (i + 1) (referred xs)) (drop (i + 1) (referred ys)))) (sym e)

  pub goes_on : is_ne o ≡ false → r ≡ slice_cmp node_order (drop (i + 1) (referred xs)) (drop (i + 1) (referred ys))
  goes_on n = next ∙ ap (λ p. ordering_then p (slice_cmp node_order (drop (i + 1) (referred xs)) (drop (i + 1) (referred ys)))) (tied o n)

  pub stops : is_ne o ≡ true → o ≡ r
  stops n = sym (next ∙ decided o (slice_cmp node_order (drop (i + 1) (referred xs)) (drop (i + 1) (referred ys))) n)

nat_cmp-suc : (m n : ℕ) → nat_cmp (suc m) (suc n) ≡ nat_cmp m n
nat_cmp-suc m n = grind (arith, nat_tests)

none_before : (n : ℕ) → Less ≡ nat_cmp 0 (suc n)
none_before n = grind (arith, nat_tests)

some_behind : (n : ℕ) → Greater ≡ nat_cmp (suc n) 0
some_behind n = grind (arith, nat_tests)

-- behind the shorter list
pub ends : (xs ys : List (Bor Term)) (i : ℕ) → i ≡ min (length xs) (length ys)
    → slice_cmp node_order (drop i (referred xs)) (drop i (referred ys)) ≡ nat_cmp (length xs) (length ys)
ends [] [] i e = ap (λ k. slice_cmp node_order (drop k []) (drop k [])) e
ends [] (y ∷ ys) i e = ap (λ k. slice_cmp node_order (drop k []) (drop k (referred (y ∷ ys)))) (let z : i ≡ 0 = omega arith in z) ∙ none_before (length ys)
ends (x ∷ xs) [] i e = ap (λ k. slice_cmp node_order (drop k (referred (x ∷ xs))) (drop k [])) (let z : i ≡ 0 = omega arith in z) ∙ some_behind (length xs)
ends (x ∷ xs) (y ∷ ys) zero e = absurd (omega arith)
ends (x ∷ xs) (y ∷ ys) (suc i) e = ends xs ys i (omega arith) ∙ sym (nat_cmp-suc (length xs) (length ys))
