-- The lines of a walk: what they have stays shown as pairs are noted.
use Rattle.std.proofs.Common.{◌≡◌, ◌≢◌, ℕ, zero, suc, ◌/◌, ◌%◌, ◌^◌, ◌<◌, Bool, true, false, cond, nat_eq, ◌&&◌, bit_or, List, length, get_or, set, replicate}
use Rattle.std.proofs.Common.{refl, sym, ap, subst, ◌∙◌, true≢false, arith, ◌⊎◌, inl, inr, get_or-set_same, get_or-set_other}
use Rattle.std.specs.Int.{bit_at}
use Rattle.std.proofs.lemmas.Bool.{eqb-true, eq-eqb, and_parts}
use Rattle.std.proofs.lemmas.Nat.Bits.{bit_at_or, bit_at-zero, bit_at-pow_other}
use Rattle.plai_base.specs.Mask.{has_slot, mask_of}
use Rattle.plai_bdd.specs.declared.node.Node.{Node}
use Rattle.plai_bdd.specs.declared.memo.Pair.{Pair}
use Rattle.plai_bdd.specs.declared.walk.Line.{Line}
use Rattle.plai_bdd.specs.Nodes.{tree_at}
use Rattle.plai_bdd.specs.Walk.{Implies, AreShown, no_line, is_line_of, shows, with_pair}

pub no_slots : (slot : ℕ) → has_slot 0 slot ≡ false
no_slots slot = ap (λ n. nat_eq n 1) (bit_at-zero slot)

same_or_not : (a b : ℕ) → (a ≡ b) ⊎ (a ≢ b)
same_or_not a b = grind arith

-- a slot of a set with one slot more
slot_or : (mask slot k : ℕ) → has_slot (bit_or mask (mask_of slot)) k ≡ true → (has_slot mask k ≡ true) ⊎ (k ≡ slot)
slot_or mask slot k h = by (same_or_not k slot)
  where
    by : (k ≡ slot) ⊎ (k ≢ slot) → (has_slot mask k ≡ true) ⊎ (k ≡ slot)
    by (inl same) = inr same
    by (inr other) = inl (eq-eqb _ 1 (omega (
      arith,
      eqb-true (bit_at (bit_or mask (mask_of slot)) k) 1 h,
      bit_at_or mask (2 ^ slot) k,
      bit_at-pow_other slot k other,
    )))

-- what a line's tests say
line_is : (line : Line) (pair : Pair) → is_line_of line pair ≡ true → (line.right ≡ pair.right) × (line.block ≡ pair.left / 64)
line_is line pair h =
    let p = and_parts (nat_eq line.right pair.right) (nat_eq line.block (pair.left / 64)) h in
    (eqb-true line.right pair.right p.0, eqb-true line.block (pair.left / 64) p.1)

line_of_is : (line : Line) (pair : Pair) → line.right ≡ pair.right → line.block ≡ pair.left / 64 → is_line_of line pair ≡ true
line_of_is line pair e f = (λ i. eq-eqb line.right pair.right e i && eq-eqb line.block (pair.left / 64) f i)

same_left : (m n : ℕ) → m / 64 ≡ n / 64 → m % 64 ≡ n % 64 → m ≡ n
same_left m n e f = omega arith

-- a line with one pair more has that pair and what it had
with_pair-shows : (line : Line) (pair other : Pair) → shows (with_pair line pair) other ≡ true → (shows line other ≡ true) ⊎ (pair ≡ other)
with_pair-shows line pair other h = by (slot_or base (pair.left % 64) (other.left % 64) p.1)
  where
    base : ℕ
    base = cond (is_line_of line pair) line.shown 0

    p : (is_line_of (with_pair line pair) other ≡ true) × (has_slot (bit_or base (mask_of (pair.left % 64))) (other.left % 64) ≡ true)
    p = and_parts (is_line_of (with_pair line pair) other) (has_slot (with_pair line pair).shown (other.left % 64)) h

    q : (pair.right ≡ other.right) × (pair.left / 64 ≡ other.left / 64)
    q = line_is (with_pair line pair) other p.0

    old : (b : Bool) → is_line_of line pair ≡ b → has_slot base (other.left % 64) ≡ true → shows line other ≡ true
    old true e has =
        let r = line_is line pair e in
        let has_it : has_slot line.shown (other.left % 64) ≡ true = sym (ap (λ b. has_slot (cond b line.shown 0) (other.left % 64)) e) ∙ has in
        let here = line_of_is line other (r.0 ∙ q.0) (r.1 ∙ q.1) in
        (λ i. here i && has_it i)
    old false e has = absurd (true≢false (sym has ∙ ap (λ b. has_slot (cond b line.shown 0) (other.left % 64)) e ∙ no_slots (other.left % 64)))

    by : (has_slot base (other.left % 64) ≡ true) ⊎ (other.left % 64 ≡ pair.left % 64) → (shows line other ≡ true) ⊎ (pair ≡ other)
    by (inl has) = inl (old (is_line_of line pair) refl has)
    by (inr same) =
        let lefts : pair.left ≡ other.left = same_left pair.left other.left q.1 (sym same) in
        inr (λ i. record { left = lefts i; right = q.0 i })

-- a shown pair is noted
pub shown_more : (left right : List Node) (lines : List Line) (place : ℕ) (pair : Pair) → place < length lines → AreShown left right lines
    → Implies (tree_at left pair.left) (tree_at right pair.right) → AreShown left right (set lines place (with_pair (get_or lines place no_line) pair))
shown_more left right lines place pair lt old here = record { implied = λ k p e. by k p e (same_or_not k place) }
  where
    new : Line
    new = with_pair (get_or lines place no_line) pair

    P : Pair → Type 0
    P p = Implies (tree_at left p.left) (tree_at right p.right)

    one : (p : Pair) → (shows (get_or lines place no_line) p ≡ true) ⊎ (pair ≡ p) → P p
    one p (inl had) = old.implied place p had
    one p (inr same) = subst P same here

    by : (k : ℕ) (p : Pair) → shows (get_or (set lines place new) k no_line) p ≡ true → (k ≡ place) ⊎ (k ≢ place) → P p
    by k p e (inl same) =
        let at : get_or (set lines place new) k no_line ≡ new =
        ap (λ n. get_or (set lines place new) n no_line) same ∙ get_or-set_same lines place new no_line lt in
        one p (with_pair-shows (get_or lines place no_line) pair p (sym (ap (λ line. shows line p) at) ∙ e))
    by k p e (inr other) = old.implied k p (sym (ap (λ line. shows line p) (get_or-set_other lines place k new no_line other)) ∙ e)

-- lines with nothing
none_shown : (n k : ℕ) → get_or (replicate n no_line) k no_line ≡ no_line
none_shown zero k = refl
none_shown (suc n) zero = refl
none_shown (suc n) (suc k) = none_shown n k

and_false : (a b : Bool) → b ≡ false → (a && b) ≡ false
and_false true b e = e
and_false false b e = refl

pub AreShown-none : (left right : List Node) (n : ℕ) → AreShown left right (replicate n no_line)
AreShown-none left right n = record {
  implied = λ k pair e. absurd (true≢false
      (sym e ∙ ap (λ line. shows line pair) (none_shown n k) ∙ and_false (is_line_of no_line pair) _ (no_slots (pair.left % 64))));
}

pub lines_none : (left right : List Node) (lines : List Line) (line : Line) (n : ℕ) → lines ≡ replicate n line → line ≡ no_line → AreShown left right lines
lines_none left right lines line n e f = subst (AreShown left right) (sym (e ∙ ap (replicate n) f)) (AreShown-none left right n)
