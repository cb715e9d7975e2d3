-- Arguments that a clause's variables determine, through each operation on sets of assignments.
use Rattle.std.proofs.Common.{◌≡◌, ℕ, ◌+◌, ◌*◌, ◌/◌, ◌%◌, ◌^◌, ◌<◌, Bool, true, false, nat_eq, ◌&&◌, List, filter, length, map, get_or, refl, sym, ap, subst}
use Rattle.std.proofs.Common.{◌∙◌, arith}
use Rattle.std.proofs.lemmas.Bool.{eq-eqb, eqb-true, and_parts, and_from}
use Rattle.std.proofs.lemmas.List.{get_or-map, length-map}
use Rattle.std.proofs.lemmas.Nat.{pow-add, mod_low, shr_high, shr_below}
use Rattle.plai_base.specs.Mask.{has_slot, all_true}
use Rattle.plai_base.specs.Sets.{has, has_some, has_all, kept, IsSet}
use Rattle.plai_base.proofs.Sets.{same_tests, has_kept, kept_has, kept_same, has-kept, has-filter, filter-kept, some_from, some_of, IsSet_below, IsSet-kept}
use Rattle.plai_base.proofs.Sets.{IsSet-filter, same_set}
use Rattle.plai_base.proofs.Bits.{pattern_slot, pattern_lt, top_lt, top_slot}
use Rattle.plai_terms.specs.declared.term.Term.{Term, Var}
use Rattle.plai_domain.specs.Instances.{all_below}
use Rattle.plai_bdd.specs.Assignment.{Assignment}
use Rattle.plai_bdd.specs.Slots.{conjunction}
use Rattle.plai_bdd.proofs.Slots.{all_hold-Decides}
use Rattle.plai_pos_laws.specs.Assignments.{holds, enter_of, call_of, back_of, exit_of}
use Rattle.plai_pos_laws.specs.Truths.{pattern_of, enters}
use Rattle.plai_pos_laws.proofs.Direct.{same_slots, below_whole}
use Rattle.plai_pos_laws.proofs.Enter.{enter_is, pattern_of_lt}
use Rattle.plai_pos_laws.proofs.Call.{call_is, back_is}
use Rattle.plai_pos_laws.proofs.Parts.{all_of, all_from}
use Rattle.plai_pos.specs.Values.{terms_at, image, preimage, determined}
use Rattle.plai_pos.specs.TermSlots.{IsBelow, AreBelow, AreSlotsOf}
use Rattle.plai_pos.proofs.Masks.{conjunction-alike}

-- ---- the truths of terms

-- a conjunction depends on the slots below the bound of its own
pub conjunction_below : (v set : ℕ) (at other : Assignment) → IsBelow v set → ((slot : ℕ) → slot < v → at slot ≡ other slot)
    → conjunction set at ≡ conjunction set other
conjunction_below v set at other below same = conjunction-alike set at other (λ slot t. same slot (below slot t))

pub slot_at : (sets : List ℕ) (y j : ℕ) → j < length sets → has_slot (terms_at sets y) j ≡ conjunction (get_or sets j 0) (has_slot y)
slot_at sets y j l = pattern_slot (map (λ set. conjunction set (has_slot y)) sets) j ∙ get_or-map (λ set. conjunction set (has_slot y)) sets j 0 false l

pub terms_lt : (sets : List ℕ) (y : ℕ) → terms_at sets y < 2 ^ length sets
terms_lt sets y = subst (λ k. terms_at sets y < 2 ^ k) (length-map sets (λ set. conjunction set (has_slot y)))
    (pattern_lt (map (λ set. conjunction set (has_slot y)) sets))

pub top_terms : (v : ℕ) (sets : List ℕ) → AreBelow v sets → terms_at sets (all_true v) ≡ all_true (length sets)
top_terms v sets below =
    same_slots (length sets) (terms_at sets (all_true v)) (all_true (length sets)) (terms_lt sets (all_true v)) (top_lt (length sets))
    (λ j l.
    slot_at sets (all_true v) j l
    ∙ (all_hold-Decides (get_or sets j 0) 64 (has_slot (all_true v))).1 (λ k less t. top_slot v k (below j k t))
    ∙ sym (top_slot (length sets) j l))

pub pattern_is : (v : ℕ) (terms : List Term) (sets : List ℕ) → AreSlotsOf v (length terms) terms sets → (y : ℕ) → pattern_of terms y ≡ terms_at sets y
pattern_is v terms sets are y =
    same_slots (length terms) (pattern_of terms y) (terms_at sets y) (pattern_of_lt terms y) (subst (λ k. terms_at sets y < 2 ^ k) are.size (terms_lt sets y))
    (λ j l.
    pattern_slot (map (holds (has_slot y)) terms) j
    ∙ get_or-map (holds (has_slot y)) terms j (Var 0) false l
    ∙ sym (are.truths j l (has_slot y))
    ∙ sym (slot_at sets y j (subst (λ k. j < k) (sym are.size) l)))

swapped : (a b c : Bool) → ((a && b) && c) ≡ ((a && c) && b)
swapped true true true = refl
swapped true true false = refl
swapped true false true = refl
swapped true false false = refl
swapped false b c = refl

-- ---- assignments with their arguments

module _ (n v : ℕ) (sets ys : List ℕ) (size : length sets ≡ n) (is : IsSet (2 ^ v) ys) where
  abbrev test : ℕ → Bool
  test x = has ys (x / 2 ^ n) && nat_eq (terms_at sets (x / 2 ^ n)) (x % 2 ^ n)

  -- the assignment to the variables, with the arguments that it gives
  abbrev whole : ℕ → ℕ
  whole y = y * 2 ^ n + terms_at sets y

  fits : (y : ℕ) → terms_at sets y < 2 ^ n
  fits y = subst (λ k. terms_at sets y < 2 ^ k) size (terms_lt sets y)

  high : (y : ℕ) → whole y / 2 ^ n ≡ y
  high y = shr_high y n (terms_at sets y) (fits y)

  low : (y : ℕ) → whole y % 2 ^ n ≡ terms_at sets y
  low y = mod_low y n (terms_at sets y) (fits y)

  whole_in : (y : ℕ) → has ys y ≡ true → has (determined n v sets ys) (whole y) ≡ true
  whole_in y h =
      let inside : whole y < 2 ^ (n + v) = rw (pow-add 2 n v) (below_whole y (terms_at sets y) (2 ^ v) (2 ^ n) (IsSet_below (2 ^ v) ys y is h) (fits y)) in
      kept_has (2 ^ (n + v)) test (whole y) inside
      (and_from _ _ (ap (has ys) (high y) ∙ h) (eq-eqb _ _ (ap (terms_at sets) (high y) ∙ sym (low y))))

  part_in : (x : ℕ) → has (determined n v sets ys) x ≡ true → (has ys (x / 2 ^ n) ≡ true) × (terms_at sets (x / 2 ^ n) ≡ x % 2 ^ n)
  part_in x h =
      let p = and_parts (has ys (x / 2 ^ n)) (nat_eq (terms_at sets (x / 2 ^ n)) (x % 2 ^ n)) (has_kept (2 ^ (n + v)) test x h).1 in
      (p.0, eqb-true _ _ p.1)

  pub some_whole : (t : ℕ → Bool) → has_some (determined n v sets ys) (λ x. t (x / 2 ^ n)) ≡ has_some ys t
  some_whole t =
      same_tests _ _
      (λ e. let (x, h, k) = some_of (determined n v sets ys) (λ x. t (x / 2 ^ n)) e in some_from ys t (x / 2 ^ n) (part_in x h).0 k)
      (λ e. let (y, h, k) = some_of ys t e in some_from (determined n v sets ys) (λ x. t (x / 2 ^ n)) (whole y) (whole_in y h) (ap t (high y) ∙ k))

  pub all_whole : (t : ℕ → Bool) → has_all (determined n v sets ys) (λ x. t (x / 2 ^ n)) ≡ has_all ys t
  all_whole t =
      same_tests _ _
      (λ e. all_from ys t (λ y h. sym (ap t (high y)) ∙ all_of (determined n v sets ys) (λ x. t (x / 2 ^ n)) (whole y) e (whole_in y h)))
      (λ e. all_from (determined n v sets ys) (λ x. t (x / 2 ^ n)) (λ x h. all_of ys t (x / 2 ^ n) e (part_in x h).0))

  pub filter_whole : (t : ℕ → Bool) → filter (λ x. t (x / 2 ^ n)) (determined n v sets ys) ≡ determined n v sets (filter t ys)
  filter_whole t =
      filter-kept (2 ^ (n + v)) (λ x. t (x / 2 ^ n)) test
      ∙ kept_same (2 ^ (n + v)) (λ x. test x && t (x / 2 ^ n)) (λ x. has (filter t ys) (x / 2 ^ n) && nat_eq (terms_at sets (x / 2 ^ n)) (x % 2 ^ n))
      (λ x l.
      swapped (has ys (x / 2 ^ n)) (nat_eq (terms_at sets (x / 2 ^ n)) (x % 2 ^ n)) (t (x / 2 ^ n))
      ∙ ap (λ b. b && nat_eq (terms_at sets (x / 2 ^ n)) (x % 2 ^ n)) (sym (has-filter t ys (x / 2 ^ n))))

  -- the answer
  pub exit_whole : exit_of n (determined n v sets ys) ≡ image sets ys
  exit_whole =
      kept_same (2 ^ n) (λ a. has_some (determined n v sets ys) (λ x. nat_eq (x % 2 ^ n) a)) (λ a. has_some ys (λ y. nat_eq (terms_at sets y) a))
      (λ a l. same_tests _ _
      (λ e.
      let (x, h, k) = some_of (determined n v sets ys) (λ x. nat_eq (x % 2 ^ n) a) e in
      let p = part_in x h in
      some_from ys (λ y. nat_eq (terms_at sets y) a) (x / 2 ^ n) p.0 (eq-eqb _ _ (p.1 ∙ eqb-true _ _ k)))
      (λ e.
      let (y, h, k) = some_of ys (λ y. nat_eq (terms_at sets y) a) e in
      some_from (determined n v sets ys) (λ x. nat_eq (x % 2 ^ n) a) (whole y) (whole_in y h) (eq-eqb _ _ (low y ∙ eqb-true _ _ k))))
      ∙ ap (λ k. kept (2 ^ k) (λ a. has_some ys (λ y. nat_eq (terms_at sets y) a))) (sym size)

  -- a literal
  module _ (args : List Term) (below : all_below v args ≡ true) (slots : List ℕ) (are : AreSlotsOf v (length args) args slots) where
    pub call_whole : call_of n v args (determined n v sets ys) ≡ image slots ys
    call_whole =
        call_is n v args below (determined n v sets ys) (IsSet-kept (2 ^ (n + v)) test)
        ∙ kept_same (2 ^ length args) (λ a. has_some (determined n v sets ys) (λ x. nat_eq (pattern_of args (x / 2 ^ n)) a))
        (λ a. has_some ys (λ y. nat_eq (terms_at slots y) a))
        (λ a l. some_whole (λ y. nat_eq (pattern_of args y) a) ∙ (λ i. has_some ys (λ y. nat_eq (pattern_is v args slots are y i) a)))
        ∙ ap (λ k. kept (2 ^ k) (λ a. has_some ys (λ y. nat_eq (terms_at slots y) a))) (sym are.size)

    pub back_whole : (given : List ℕ) → back_of n v args given (determined n v sets ys) ≡ determined n v sets (filter (λ y. has given (terms_at slots y)) ys)
    back_whole given =
        back_is n v args below (determined n v sets ys) (IsSet-kept (2 ^ (n + v)) test) given
        ∙ (λ i. filter (λ x. has given (pattern_is v args slots are (x / 2 ^ n) i)) (determined n v sets ys))
        ∙ filter_whole (λ y. has given (terms_at slots y))

    -- the same, by the slice of the sets and the models of the function that was made
    pub answered_whole : (seen : List ℕ) → seen ≡ slots → (given : ℕ → List ℕ) (k : ℕ) → k ≡ length args → (made : List ℕ)
        → made ≡ filter (has (preimage v seen (given (length seen)))) ys → determined n v sets made ≡ back_of n v args (given k) (determined n v sets ys)
    answered_whole seen e given k same made h =
        ap (determined n v sets)
        (h ∙ (λ i. filter (has (preimage v (e i) (given (length (e i))))) ys)
        ∙ ap (λ m. filter (has (preimage v slots (given m))) ys) (are.size ∙ sym same) ∙ by_terms)
        ∙ sym (back_whole (given k))
      where
        by_terms : filter (has (preimage v slots (given k))) ys ≡ filter (λ y. has (given k) (terms_at slots y)) ys
        by_terms =
            same_set (2 ^ v) _ _ (IsSet-filter (2 ^ v) (has (preimage v slots (given k))) ys is)
            (IsSet-filter (2 ^ v) (λ y. has (given k) (terms_at slots y)) ys is)
            (λ y l.
            has-filter (has (preimage v slots (given k))) ys y
            ∙ ap (λ b. has ys y && b) (has-kept (2 ^ v) (λ y. has (given k) (terms_at slots y)) y l)
            ∙ sym (has-filter (λ y. has (given k) (terms_at slots y)) ys y))

-- the beginning of a clause
module _ (n v : ℕ) (head : List Term) (sets call : List ℕ) (len : length head ≡ n) (are : AreSlotsOf v (length head) head sets) where
  entered_at : (z : ℕ) → z < 2 ^ (n + v) → enters n head call z ≡ (has (preimage v sets call) (z / 2 ^ n) && nat_eq (terms_at sets (z / 2 ^ n)) (z % 2 ^ n))
  entered_at z l =
      (λ i. has call (z % 2 ^ n) && nat_eq (pattern_is v head sets are (z / 2 ^ n) i) (z % 2 ^ n))
      ∙ same_tests _ _
      (λ e.
      let p = and_parts (has call (z % 2 ^ n)) (nat_eq (terms_at sets (z / 2 ^ n)) (z % 2 ^ n)) e in
      and_from _ _ (there ∙ ap (has call) (eqb-true _ _ p.1) ∙ p.0) p.1)
      (λ e.
      let p = and_parts (has (preimage v sets call) (z / 2 ^ n)) (nat_eq (terms_at sets (z / 2 ^ n)) (z % 2 ^ n)) e in
      and_from _ _ (sym (ap (has call) (eqb-true _ _ p.1)) ∙ sym there ∙ p.0) p.1)
    where
      there : has (preimage v sets call) (z / 2 ^ n) ≡ has call (terms_at sets (z / 2 ^ n))
      there = has-kept (2 ^ v) (λ y. has call (terms_at sets y)) (z / 2 ^ n)
          (let e : n + v ≡ v + n = omega arith in shr_below z v n (subst (λ k. z < 2 ^ k) e l))

  pub enter_whole : enter_of n v head call ≡ determined n v sets (preimage v sets call)
  enter_whole =
      enter_is n v head call len
      ∙ kept_same (2 ^ (n + v)) (enters n head call) (λ z. has (preimage v sets call) (z / 2 ^ n) && nat_eq (terms_at sets (z / 2 ^ n)) (z % 2 ^ n)) entered_at

  -- the same, by the slice of the sets and the models of the function that was made
  pub begun_whole : (seen : List ℕ) → seen ≡ sets → (given : ℕ → List ℕ) → given n ≡ call → (made : List ℕ) → made ≡ preimage v seen (given (length seen))
      → determined n v sets made ≡ enter_of n v head call
  begun_whole seen e given is made h =
      ap (determined n v sets)
      (h ∙ (λ i. preimage v (e i) (given (length (e i)))) ∙ ap (λ k. preimage v sets (given k)) (are.size ∙ len) ∙ ap (preimage v sets) is)
      ∙ sym enter_whole
