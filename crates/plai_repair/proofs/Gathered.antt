-- Rows that are gathered one after another.
use Rattle.std.proofs.Common.{◌≡◌, ◌≢◌, ◌⊎◌, ◌↔◌, ℕ, zero, suc, ◌+◌, ◌<◌, Bool, true, false, cond, ◌&&◌, nat_eq, eqb-true, count_by, List, [], ◌∷◌, ◌++◌}
use Rattle.std.proofs.Common.{length, get_or, set, length-set, replicate, slice_get, Some, sym, refl, ap, ◌∙◌, subst, inl, inr, arith}
use Rattle.std.proofs.lemmas.Bool.{eq-eqb}
use Rattle.std.proofs.lemmas.List.{get_or-set_same, get_or-set_other}
use Rattle.std.proofs.lemmas.List.Sums.{sum_by-set, sum_by-cons}
use Rattle.plai_arcs.specs.Links.{one_if, is_pair}
use Rattle.plai_theory.specs.Words.{IsIn, item}
use Rattle.plai_theory.proofs.Options.{by_test}
use Rattle.plai_repair.specs.Gathering.{AreMarked, Gathers, IsRowOf}
use Rattle.plai_repair.proofs.Members.{place_in, in_place, in_last, in_left, in_push, keeps_push, distinct_push, length_push, of_two}

-- nothing comes
pub gathers_none : (comes : ℕ → Type 0) (marks : List Bool) (rows : List ℕ) → AreMarked marks rows → ((j : ℕ) → comes j → IsIn j rows)
    → Gathers comes marks rows marks rows
gathers_none comes marks rows marked there = record {
  long = refl;
  marked = marked;
  keeps = λ k j e. e;
  sound = λ j i. inl i;
  whole = there;
}

-- what comes in two parts
pub gathers_then : (one two comes : ℕ → Type 0) {marks mid new_marks : List Bool} {rows between new : List ℕ} → Gathers one marks rows mid between
    → Gathers two mid between new_marks new
    → ((j : ℕ) → comes j → one j ⊎ two j) → ((j : ℕ) → one j → comes j) → ((j : ℕ) → two j → comes j) → Gathers comes marks rows new_marks new
gathers_then one two comes {marks} {mid} {new_marks} {rows} {between} {new} a b both of_one of_two_ = record {
  long = b.long ∙ a.long;
  marked = b.marked;
  keeps = λ k j e. b.keeps k j (a.keeps k j e);
  sound = λ j i. at j (b.sound j i);
  whole = λ j e. of j (both j e);
}
  where
    from : (j : ℕ) → IsIn j rows ⊎ one j → IsIn j rows ⊎ comes j
    from j (inl i) = inl i
    from j (inr e) = inr (of_one j e)

    at : (j : ℕ) → IsIn j between ⊎ two j → IsIn j rows ⊎ comes j
    at j (inr e) = inr (of_two_ j e)
    at j (inl i) = from j (a.sound j i)

    stays : (j : ℕ) → IsIn j between → IsIn j new
    stays j i = held between j i (λ k e. b.keeps k j e)
      where
        held : (xs : List ℕ) (j : ℕ) → IsIn j xs → ((k : ℕ) → item xs k ≡ Some j → item new k ≡ Some j) → IsIn j new
        held xs j i keeps = let (k, h, e) = place_in xs j i in in_place new k j (keeps k e)

    of : (j : ℕ) → one j ⊎ two j → IsIn j new
    of j (inl e) = stays j (a.whole j e)
    of j (inr e) = b.whole j e

pub gathers_same : (one two : ℕ → Type 0) {marks new_marks : List Bool} {rows new : List ℕ} → Gathers one marks rows new_marks new
    → ((j : ℕ) → one j → two j) → ((j : ℕ) → two j → one j)
    → Gathers two marks rows new_marks new
gathers_same one two {marks} {new_marks} {rows} {new} a to back = record {
  long = a.long;
  marked = a.marked;
  keeps = a.keeps;
  sound = λ j i. at j (a.sound j i);
  whole = λ j e. a.whole j (back j e);
}
  where
    at : (j : ℕ) → IsIn j rows ⊎ one j → IsIn j rows ⊎ two j
    at j (inl i) = inl i
    at j (inr e) = inr (to j e)

-- one row comes
pub gathers_old : (row : ℕ) (marks : List Bool) (rows : List ℕ) → AreMarked marks rows → get_or marks row false ≡ true
    → Gathers (λ j. j ≡ row) marks rows marks rows
gathers_old row marks rows marked e =
    gathers_none (λ j. j ≡ row) marks rows marked (λ j t. subst (λ (n : ℕ). IsIn n rows) (sym t) ((marked.agree row).0 e))

marked_push : (row : ℕ) (marks : List Bool) (rows : List ℕ) → row < length marks → AreMarked marks rows → get_or marks row false ≡ false
    → AreMarked (set marks row true) (rows ++ row ∷ [])
marked_push row marks rows within marked e = record {
  agree = λ j. by_test (nat_eq j row) (λ t. at_row j (eqb-true j row t)) (λ t. elsewhere j (λ same. let u : nat_eq j row ≡ true = eq-eqb j row same in cc));
  distinct = distinct_push rows row marked.distinct (λ i. let t : get_or marks row false ≡ true = (marked.agree row).1 i in cc);
  count =
      let s = sum_by-set (λ (b : Bool). cond {A = ℕ} b 1 0) marks row true false within in
      let l = length_push rows row in
      let c = marked.count in
      let z = ap (λ (b : Bool). cond {A = ℕ} b 1 0) e in
      omega (arith, s, l, c, z);
}
  where
    at_row : (j : ℕ) → j ≡ row → (get_or (set marks row true) j false ≡ true) ↔ IsIn j (rows ++ row ∷ [])
    at_row j same = (
      λ t. subst (λ (n : ℕ). IsIn n (rows ++ row ∷ [])) (sym same) (in_last rows row),
      λ i. subst (λ (n : ℕ). get_or (set marks row true) n false ≡ true) (sym same) (get_or-set_same marks row true false within),
    )

    elsewhere : (j : ℕ) → j ≢ row → (get_or (set marks row true) j false ≡ true) ↔ IsIn j (rows ++ row ∷ [])
    elsewhere j other =
        let same = get_or-set_other marks row j true false other in (
          λ t. in_left rows (row ∷ []) j ((marked.agree j).0 (sym same ∙ t)),
          λ i. same ∙ (marked.agree j).1 (left (in_push rows row j i)),
        )
      where
        left : IsIn j rows ⊎ (row ≡ j) → IsIn j rows
        left (inl i) = i
        left (inr e) = absurd (other (sym e))

with_new : (row : ℕ) (marks : List Bool) (rows : List ℕ) → row < length marks → AreMarked marks rows → get_or marks row false ≡ false
    → Gathers (λ j. j ≡ row) marks rows (set marks row true) (rows ++ row ∷ [])
with_new row marks rows within marked e = record {
  long = length-set marks row true;
  marked = marked_push row marks rows within marked e;
  keeps = λ k j f. keeps_push rows row k j f;
  sound = λ j i. at j (in_push rows row j i);
  whole = λ j t. subst (λ (n : ℕ). IsIn n (rows ++ row ∷ [])) (sym t) (in_last rows row);
}
  where
    at : (j : ℕ) → IsIn j rows ⊎ (row ≡ j) → IsIn j rows ⊎ (j ≡ row)
    at j (inl i) = inl i
    at j (inr f) = inr (sym f)

pub gathers_new : (row : ℕ) (marks new_marks : List Bool) (rows new : List ℕ) → row < length marks → AreMarked marks rows → get_or marks row false ≡ false
    → new_marks ≡ set marks row true → new ≡ rows ++ row ∷ [] → Gathers (λ j. j ≡ row) marks rows new_marks new
gathers_new row marks new_marks rows new within marked e m r =
    subst (λ (ms : List Bool). Gathers (λ j. j ≡ row) marks rows ms new) (sym m)
    (subst (λ (rs : List ℕ). Gathers (λ j. j ≡ row) marks rows (set marks row true) rs) (sym r) (with_new row marks rows within marked e))

-- no row is gathered at first
no_mark : (size j : ℕ) → get_or (replicate size false) j false ≡ false
no_mark zero j = refl
no_mark (suc size) zero = refl
no_mark (suc size) (suc j) = no_mark size j

no_count : (size : ℕ) → count_by (λ (b : Bool). b) (replicate size false) ≡ zero
no_count zero = refl
no_count (suc size) =
    let c : count_by (λ (b : Bool). b) (false ∷ replicate size false) ≡ 0 + count_by (λ (b : Bool). b) (replicate size false) = sum_by-cons
    (λ (b : Bool). cond {A = ℕ} b 1 0) false (replicate size false) in
    let d : count_by (λ (b : Bool). b) (replicate size false) ≡ zero = no_count size in omega (arith, c, d)

pub none_marked : (size : ℕ) (marks : List Bool) (rows : List ℕ) → rows ≡ [] → marks ≡ replicate size false → AreMarked marks rows
none_marked size marks rows none e = subst (AreMarked marks) (sym none) (record {
  agree = λ j. let n = no_mark size j in let f : get_or marks j false ≡ false = ap (λ (ms : List Bool). get_or ms j false) e ∙ n in (λ t. cc, λ i. absurd i);
  distinct = tt;
  count = ap (count_by (λ (b : Bool). b)) e ∙ no_count size;
})

-- the rows of pairs
pub gathers_first : (pairs : List (ℕ × ℕ)) (marks : List Bool) (rows : List ℕ) → AreMarked marks rows
    → Gathers (IsRowOf pairs 0) marks rows marks rows
gathers_first pairs marks rows marked = gathers_none (IsRowOf pairs 0) marks rows marked (λ j e. let (k, c, h, f) = e in absurd (omega (arith, h)))

pub gathers_more : (pairs : List (ℕ × ℕ)) (i : ℕ) (p : ℕ × ℕ) {marks mid new_marks : List Bool} {rows between new : List ℕ} → slice_get pairs i ≡ Some p
    → Gathers (IsRowOf pairs i) marks rows mid between → Gathers (λ j. j ≡ p.0) mid between new_marks new
    → Gathers (IsRowOf pairs (i + 1)) marks rows new_marks new
gathers_more pairs i p at a b =
    gathers_then (IsRowOf pairs i) (λ j. j ≡ p.0) (IsRowOf pairs (i + 1)) a b
    (λ j e. let (k, c, h, f) = e in of_two k i h (λ less. inl (k, c, less, f))
    (λ same. inr (let g : slice_get pairs i ≡ Some (j, c) = subst (λ (n : ℕ). slice_get pairs n ≡ Some (j, c)) same f in
    let q : p ≡ (j, c) = cc in ap (λ (z : ℕ × ℕ). z.0) (sym q))))
    (λ j e. let (k, c, h, f) = e in (k, c, omega (arith, h), f))
    (λ j e. (i, p.1, omega arith, at ∙ ap Some (pair_of p j e)))
  where
    pair_of : (p : ℕ × ℕ) (j : ℕ) → j ≡ p.0 → p ≡ (j, p.1)
    pair_of (a, b) j e = ap (λ (n : ℕ). (n, b)) (sym e)

pub gathers_all : (pairs : List (ℕ × ℕ)) (i : ℕ) {marks new_marks : List Bool} {rows new : List ℕ} → i ≡ length pairs
    → Gathers (IsRowOf pairs i) marks rows new_marks new → Gathers (IsRowOf pairs (length pairs)) marks rows new_marks new
gathers_all pairs i {marks} {new_marks} {rows} {new} e a = subst (λ (n : ℕ). Gathers (IsRowOf pairs n) marks rows new_marks new) e a

-- what is counted stands in the list
is_same : (r c : ℕ) (p : ℕ × ℕ) → is_pair r c p ≡ true → p ≡ (r, c)
is_same r c (a, b) e =
    let x = eqb-true r a (left (nat_eq r a) (nat_eq c b) e) in
    let y = eqb-true c b (right (nat_eq r a) (nat_eq c b) e) in
    let f : ◌≡◌ {A = ℕ × ℕ} (a, b) (r, b) = ap (λ (n : ℕ). (n, b)) (sym x) in
    let g : ◌≡◌ {A = ℕ × ℕ} (r, b) (r, c) = ap (λ (n : ℕ). (r, n)) (sym y) in f ∙ g
  where
    left : (p q : Bool) → (p && q) ≡ true → p ≡ true
    left true q e = refl
    left false q e = e

    right : (p q : Bool) → (p && q) ≡ true → q ≡ true
    right true q e = e
    right false q e = cc

pair_refl : (r c : ℕ) → is_pair r c (r, c) ≡ true
pair_refl r c = let x = eq-eqb r r refl in let y = eq-eqb c c refl in rw (x, y) refl

cons_count : (r c : ℕ) (p : ℕ × ℕ) (ps : List (ℕ × ℕ)) → count_by (is_pair r c) (p ∷ ps) ≡ cond (is_pair r c p) 1 0 + count_by (is_pair r c) ps
cons_count r c p ps = sum_by-cons (λ (q : ℕ × ℕ). cond {A = ℕ} (is_pair r c q) 1 0) p ps

stands : (r c : ℕ) (ps : List (ℕ × ℕ)) → 0 < count_by (is_pair r c) ps → (k : ℕ) × (k < length ps) × (slice_get ps k ≡ Some (r, c))
stands r c [] h = absurd (omega (arith, h))
stands r c (p ∷ ps) h =
    by_test (is_pair r c p) (λ t. (0, omega arith, ap Some (is_same r c p t)))
    (λ t. let e = cons_count r c p ps in let z = ap (λ (b : Bool). cond {A = ℕ} b 1 0) t in
    let (k, l, f) = stands r c ps (omega (arith, h, e, z)) in (suc k, omega (arith, l), f))

counted : (r c : ℕ) (ps : List (ℕ × ℕ)) (k : ℕ) → slice_get ps k ≡ Some (r, c) → 0 < count_by (is_pair r c) ps
counted r c [] k f = cc
counted r c (p ∷ ps) zero f =
    let q : p ≡ (r, c) = cc in
    let t : is_pair r c p ≡ true = ap (is_pair r c) q ∙ pair_refl r c in
    let e = cons_count r c p ps in let z = ap (λ (b : Bool). cond {A = ℕ} b 1 0) t in omega (arith, e, z)
counted r c (p ∷ ps) (suc k) f = let h = counted r c ps k f in let e = cons_count r c p ps in omega (arith, h, e)

is_one : (b : Bool) → 0 < one_if b → b ≡ true
is_one true h = refl
is_one false h = absurd (omega (arith, h))

-- the rows of a row's callers are those that call it
pub row_calls : (calls : ℕ → ℕ → Bool) (ps : List (ℕ × ℕ)) → ((r c : ℕ) → count_by (is_pair r c) ps ≡ one_if (calls r c)) → (j : ℕ)
    → IsRowOf ps (length ps) j → (c : ℕ) × (calls j c ≡ true)
row_calls calls ps same j e =
    let (k, c, h, f) = e in let n = counted j c ps k f in let s = same j c in (c, is_one (calls j c) (omega (arith, n, s)))

pub call_rows : (calls : ℕ → ℕ → Bool) (ps : List (ℕ × ℕ)) → ((r c : ℕ) → count_by (is_pair r c) ps ≡ one_if (calls r c)) → (j c : ℕ)
    → calls j c ≡ true → IsRowOf ps (length ps) j
call_rows calls ps same j c t =
    let s = same j c in let z = ap one_if t in let (k, h, f) = stands j c ps (omega (arith, s, z)) in (k, c, h, f)
