-- Places of entries and checks.
use Rattle.std.proofs.Common.{◌≡◌, ℕ, ◌-◌, ◌<◌, ◌≤◌, true, false, List, [], ◌∷◌, length, arith, nat_eq}
use Rattle.std.specs.Prelude.{nat_le}
use Rattle.std.specs.Cmp.Lexicographic.{pointwise}
use Rattle.std.proofs.lemmas.Bool.Decides.{nat_tests}
use Rattle.plai_theory.proofs.Options.{by_test}
use Rattle.plai_clauses.specs.Program.{place_of, many_of}

-- an item of that number has a place
pub place_within : (name : List ℕ) (names : List (List ℕ)) (number : ℕ) → 1 ≤ number → number ≤ many_of name names → place_of name number names < length names
place_within name [] number some there = absurd (omega arith)
place_within name (m ∷ names) number some there =
    by_test (pointwise nat_eq m name)
    (λ t. by_test (nat_le number 1) (λ u. rw (t, u) (omega arith))
    (λ u.
    let i : number - 1 ≤ many_of name names = fewer t in
    let j : 1 ≤ number - 1 = grind (arith, nat_tests) in
    let r = place_within name names (number - 1) j i in
    rw (t, u) (omega arith)))
    (λ t. let r = place_within name names number some (same t) in rw t (omega arith))
  where
    fewer : pointwise nat_eq m name ≡ true → number - 1 ≤ many_of name names
    fewer t = let i = rw t at there in omega arith

    same : pointwise nat_eq m name ≡ false → number ≤ many_of name names
    same t = rw t at there
