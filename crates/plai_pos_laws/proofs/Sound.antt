-- Soundness of the operations for tuples of terms and instances of clauses.
use Rattle.std.proofs.Common.{◌≡◌, ℕ, zero, suc, ◌+◌, ◌*◌, ◌%◌, ◌^◌, ◌<◌, Bool, true, false, nat_eq, List, [], ◌∷◌, ◌++◌, length, map, get_or, refl, sym, ap}
use Rattle.std.proofs.Common.{◌∙◌, arith, subst, length-append}
use Rattle.std.proofs.lemmas.Bool.{eq-eqb, ne_eqb, and_parts}
use Rattle.std.proofs.lemmas.List.{length-map, get_or-map, get_or-append-add, map-append}
use Rattle.std.proofs.lemmas.Nat.{mod_low, shr_high}
use Rattle.plai_base.specs.Mask.{has_slot, pattern}
use Rattle.plai_base.specs.Sets.{has, IsWithin}
use Rattle.plai_base.proofs.Bits.{slot_high, pattern_lt, pattern_slot, pattern-append}
use Rattle.plai_terms.specs.declared.term.Term.{Term, Var}
use Rattle.plai_terms.specs.Term.{is_ground, has_variables_below}
use Rattle.plai_terms.specs.Subst.{bound_to, apply_of, composed}
use Rattle.plai_terms.proofs.Substs.{apply_of-composed, bound_to-composed, apply_of-ground}
use Rattle.plai_domain.specs.Instances.{all_below, numbered, instance_of}
use Rattle.plai_pos_laws.specs.Assignments.{agree, holds, variable_in, enter_of, call_of, back_of, exit_of, acted}
use Rattle.plai_pos_laws.specs.Described.{grounds, describes, describes_instance, ground_in}
use Rattle.plai_pos_laws.specs.Truths.{truths}
use Rattle.plai_pos_laws.proofs.Holds.{holds_same, is_ground-apply}
use Rattle.plai_pos_laws.proofs.Direct.{same_agree, call_in, first_in, enter_in, acted_in, back_in, extended}

-- ---- instances

pub bound_numbered : (i j : ℕ) (ts : List Term) → j < length ts → bound_to (numbered i ts) (i + j) ≡ get_or ts j (Var 0)
bound_numbered i j [] l = absurd (omega (arith, l))
bound_numbered i zero (t ∷ ts) l = let e : nat_eq i (i + 0) ≡ true = eq-eqb i (i + 0) (omega arith) in rw e refl
bound_numbered i (suc j) (t ∷ ts) l =
    let e : nat_eq i (i + suc j) ≡ false = ne_eqb i (i + suc j) (λ q. absurd (omega (arith, q))) in
    let q : i + suc j ≡ suc i + j = omega arith in
    rw e (ap (bound_to (numbered (suc i) ts)) q ∙ bound_numbered (suc i) j ts (omega (arith, l)))

pub map_composed : (r s : List (ℕ × Term)) (ts : List Term) → map (apply_of s) (map (apply_of r) ts) ≡ map (apply_of (composed r s)) ts
map_composed r s [] = refl
map_composed r s (t ∷ ts) = let p = apply_of-composed r s t in let q = map_composed r s ts in cc

pub length_grounds : (s : List (ℕ × Term)) (ts : List Term) → length (grounds (map (apply_of s) ts)) ≡ length ts
length_grounds s ts = length-map (map (apply_of s) ts) is_ground ∙ length-map ts (apply_of s)

pub ground_in_lt : (s : List (ℕ × Term)) (ts : List Term) → ground_in s ts < 2 ^ length ts
ground_in_lt s ts = subst (λ k. ground_in s ts < 2 ^ k) (length_grounds s ts) (pattern_lt (grounds (map (apply_of s) ts)))

pub slot_of_ground : (s : List (ℕ × Term)) (ts : List Term) (i : ℕ) → i < length ts → has_slot (ground_in s ts) i ≡ is_ground (apply_of s (get_or ts i (Var 0)))
slot_of_ground s ts i l =
    pattern_slot (grounds (map (apply_of s) ts)) i
    ∙ get_or-map is_ground (map (apply_of s) ts) i (Var 0) false (subst (λ k. i < k) (sym (length-map ts (apply_of s))) l)
    ∙ ap is_ground (get_or-map (apply_of s) ts i (Var 0) (Var 0) l)

-- the parts of an assignment to a clause's slots
ground_parts : (s : List (ℕ × Term)) (hs ts : List Term) → ground_in s (hs ++ ts) ≡ ground_in s ts * 2 ^ length hs + ground_in s hs
ground_parts s hs ts =
    ap (λ l. pattern (grounds l)) (map-append (apply_of s) hs ts)
    ∙ ap pattern (map-append is_ground (map (apply_of s) hs) (map (apply_of s) ts))
    ∙ pattern-append (grounds (map (apply_of s) hs)) (grounds (map (apply_of s) ts))
    ∙ ap (λ k. ground_in s ts * 2 ^ k + ground_in s hs) (length_grounds s hs)

pub ground_low : (s : List (ℕ × Term)) (hs ts : List Term) → ground_in s (hs ++ ts) % 2 ^ length hs ≡ ground_in s hs
ground_low s hs ts = ap (λ z. z % 2 ^ length hs) (ground_parts s hs ts) ∙ mod_low (ground_in s ts) (length hs) (ground_in s hs) (ground_in_lt s hs)

module _ (s : List (ℕ × Term)) (hs ts : List Term) where
  abbrev whole : ℕ
  whole = ground_in s (hs ++ ts)

  pub whole_lt : whole < 2 ^ (length hs + length ts)
  whole_lt = subst (λ k. whole < 2 ^ k) (length-append hs ts) (ground_in_lt s (hs ++ ts))

  variable_is : (v : ℕ) → v < length ts → variable_in (length hs) whole v ≡ is_ground (bound_to (composed (numbered 0 ts) s) v)
  variable_is v l =
      let within : length hs + v < length (hs ++ ts) = omega (arith, l, length-append hs ts) in
      let z : 0 + v ≡ v = omega arith in
      slot_of_ground s (hs ++ ts) (length hs + v) within
      ∙ ap (λ t. is_ground (apply_of s t)) (get_or-append-add hs ts v (Var 0) ∙ sym (bound_numbered 0 v ts l) ∙ ap (bound_to (numbered 0 ts)) z)
      ∙ ap is_ground (sym (bound_to-composed (numbered 0 ts) s v))

  pub truth_is : (t : Term) → has_variables_below (length ts) t ≡ true → holds (variable_in (length hs) whole) t ≡ is_ground (apply_of s (instance_of ts t))
  truth_is t below =
      holds_same (length ts) (variable_in (length hs) whole) (λ v. is_ground (bound_to (composed (numbered 0 ts) s) v)) variable_is t below
      ∙ sym (is_ground-apply (composed (numbered 0 ts) s) t)
      ∙ ap is_ground (apply_of-composed (numbered 0 ts) s t)

  pub truths_are : (args : List Term) → all_below (length ts) args ≡ true
      → truths (length hs) whole args ≡ grounds (map (apply_of s) (map (instance_of ts) args))
  truths_are [] below = refl
  truths_are (t ∷ args) below =
      let r = and_parts (has_variables_below (length ts) t) (all_below (length ts) args) below in
      let p = truth_is t r.0 in
      let q = truths_are args r.1 in
      cc

-- ---- what describes a tuple describes its instances

pub describes_more : (xs : List ℕ) (ts : List Term) (r : List (ℕ × Term)) → describes xs ts → describes xs (map (apply_of r) ts)
describes_more xs ts r d s = ap (λ l. has xs (pattern (grounds l))) (map_composed r s ts) ∙ d (composed r s)

-- a tuple that a set describes is described by each larger set
pub describes_above : (xs ys : List ℕ) (ts : List Term) → IsWithin xs ys → describes xs ts → describes ys ts
describes_above xs ys ts w d s = w (ground_in s ts) (d s)

-- exit: the arguments of an instance are described
pub exit_sound : (xs : List ℕ) (hs ts : List Term) → describes_instance xs hs ts → describes (exit_of (length hs) xs) hs
exit_sound xs hs ts d s =
    subst (λ z. has (exit_of (length hs) xs) z ≡ true) (ground_low s hs ts) (first_in (length hs) xs (ground_in s (hs ++ ts)) (d s))

module _ (hs ts args : List Term) (below : all_below (length ts) args ≡ true) where
  -- call: the literal's arguments in an instance are described
  pub call_sound : (xs : List ℕ) → describes_instance xs hs ts → describes (call_of (length hs) (length ts) args xs) (map (instance_of ts) args)
  call_sound xs d s =
      subst (λ l. has (call_of (length hs) (length ts) args xs) (pattern l) ≡ true) (truths_are s hs ts args below)
      (call_in (length hs) (length ts) args below xs (ground_in s (hs ++ ts)) (d s) (whole_lt s hs ts))

moved : (r s : List (ℕ × Term)) (hs ts : List Term) → ground_in s (map (apply_of r) hs ++ map (apply_of r) ts) ≡ ground_in (composed r s) (hs ++ ts)
moved r s hs ts = ap (λ l. pattern (grounds l)) (ap (map (apply_of s)) (sym (map-append (apply_of r) hs ts)) ∙ map_composed r s (hs ++ ts))

module _ (hs ts args : List Term) (below : all_below (length ts) args ≡ true) (r : List (ℕ × Term)) where
  abbrev passed : List Term
  passed = map (instance_of ts) args

  parts_after : (s : List (ℕ × Term)) → pattern (truths (length hs) (ground_in (composed r s) (hs ++ ts)) args) ≡ ground_in s (map (apply_of r) passed)
  parts_after s = ap pattern (truths_are (composed r s) hs ts args below) ∙ ap (λ l. pattern (grounds l)) (sym (map_composed r s passed))

  -- back: the instance is described after each substitution behind which the answer describes the literal's arguments
  pub back_sound : (answer xs : List ℕ) → describes_instance xs hs ts → describes answer (map (apply_of r) passed)
      → describes_instance (back_of (length hs) (length ts) args answer xs) (map (apply_of r) hs) (map (apply_of r) ts)
  back_sound answer xs d a s =
      let x : ℕ = ground_in (composed r s) (hs ++ ts) in
      ap (has (back_of (length hs) (length ts) args answer xs)) (moved r s hs ts)
      ∙ back_in (length hs) (length ts) args below answer xs (ground_in (composed r s) (hs ++ ts)) (d (composed r s)) (whole_lt (composed r s) hs ts)
      (ap (has answer) (parts_after s) ∙ a s)

  -- the slots of the literal tell what is ground
  literal_slot : (s : List (ℕ × Term)) (j : ℕ) → j < length args
      → has_slot (extended (length hs) (length ts) args (ground_in (composed r s) (hs ++ ts))) (length hs + length ts + j)
      ≡ is_ground (apply_of s (apply_of r (get_or passed j (Var 0))))
  literal_slot s j l =
      let x : ℕ = ground_in (composed r s) (hs ++ ts) in
      let size : length passed ≡ length args = length-map args (instance_of ts) in
      let within : j < length (map (apply_of r) passed) = omega (arith, l, size, length-map passed (apply_of r)) in
      sym (slot_high (extended (length hs) (length ts) args (ground_in (composed r s) (hs ++ ts))) (length hs + length ts) j)
      ∙ ap (λ z. has_slot z j) (shr_high (pattern (truths (length hs) (ground_in (composed r s) (hs ++ ts)) args)) (length hs + length ts)
      (ground_in (composed r s) (hs ++ ts)) (whole_lt (composed r s) hs ts) ∙ parts_after s)
      ∙ slot_of_ground s (map (apply_of r) passed) j within
      ∙ ap (λ t. is_ground (apply_of s t)) (get_or-map (apply_of r) passed j (Var 0) (Var 0) (omega (arith, l, size)))

  acted_sound : (test : ℕ → Bool) (xs : List ℕ) → describes_instance xs hs ts
      → ((s : List (ℕ × Term)) → test (extended (length hs) (length ts) args (ground_in (composed r s) (hs ++ ts))) ≡ true)
      → describes_instance (acted (length hs) (length ts) args test xs) (map (apply_of r) hs) (map (apply_of r) ts)
  acted_sound test xs d t s =
      ap (has (acted (length hs) (length ts) args test xs)) (moved r s hs ts)
      ∙ acted_in (length hs) (length ts) args below test xs (ground_in (composed r s) (hs ++ ts)) (d (composed r s)) (whole_lt (composed r s) hs ts) (t s)

  pub both_sound : (i j : ℕ) (xs : List ℕ) → i < length args → j < length args → apply_of r (get_or passed i (Var 0)) ≡ apply_of r (get_or passed j (Var 0))
      → describes_instance xs hs ts
      → describes_instance (acted (length hs) (length ts) args (λ y. agree (has_slot y (length hs + length ts + i)) (has_slot y (length hs + length ts + j)))
      xs) (map (apply_of r) hs) (map (apply_of r) ts)
  both_sound i j xs k l e d =
      acted_sound (λ y. agree (has_slot y (length hs + length ts + i)) (has_slot y (length hs + length ts + j))) xs d
      (λ s. same_agree _ _ (literal_slot s i k ∙ ap (λ t. is_ground (apply_of s t)) e ∙ sym (literal_slot s j l)))

  pub ground_sound : (i : ℕ) (xs : List ℕ) → i < length args → is_ground (apply_of r (get_or passed i (Var 0))) ≡ true → describes_instance xs hs ts
      → describes_instance (acted (length hs) (length ts) args (λ y. has_slot y (length hs + length ts + i)) xs) (map (apply_of r) hs) (map (apply_of r) ts)
  ground_sound i xs l e d =
      acted_sound (λ y. has_slot y (length hs + length ts + i)) xs d
      (λ s. literal_slot s i l ∙ ap is_ground (apply_of-ground s (apply_of r (get_or passed i (Var 0))) e) ∙ e)

  pub same_sound : (xs : List ℕ) → describes_instance xs hs ts → describes_instance xs (map (apply_of r) hs) (map (apply_of r) ts)
  same_sound xs d s = ap (has xs) (moved r s hs ts) ∙ d (composed r s)

-- enter: the substitution makes the goal's arguments equal to the head's, whose variables are then ts
pub enter_sound : (goal head ts : List Term) (r : List (ℕ × Term)) (call : List ℕ) → length head ≡ length goal → all_below (length ts) head ≡ true
    → map (instance_of ts) head ≡ map (apply_of r) goal → describes call goal
    → describes_instance (enter_of (length goal) (length ts) head call) (map (apply_of r) goal) ts
enter_sound goal head ts r call len below same d s =
    let hs : List Term = map (apply_of r) goal in
    let size : length (map (apply_of r) goal) ≡ length goal = length-map goal (apply_of r) in
    let low : ground_in s (map (apply_of r) goal ++ ts) % 2 ^ length goal ≡ ground_in s (map (apply_of r) goal) =
    ap (λ k. ground_in s (map (apply_of r) goal ++ ts) % 2 ^ k) (sym size) ∙ ground_low s (map (apply_of r) goal) ts in
    let fits : ground_in s (map (apply_of r) goal ++ ts) < 2 ^ (length goal + length ts) =
    subst (λ k. ground_in s (map (apply_of r) goal ++ ts) < 2 ^ (k + length ts)) size (whole_lt s (map (apply_of r) goal) ts) in
    let told : truths (length goal) (ground_in s (map (apply_of r) goal ++ ts)) head ≡ grounds (map (apply_of s) (map (apply_of r) goal)) =
    ap (λ k. truths k (ground_in s (map (apply_of r) goal ++ ts)) head) (sym size) ∙ truths_are s (map (apply_of r) goal) ts head below
    ∙ ap (λ l. grounds (map (apply_of s) l)) same in
    enter_in (length goal) (length ts) head call (ground_in s (map (apply_of r) goal ++ ts)) len fits
    (ap (has call) low ∙ describes_more call goal r d s)
    (low ∙ sym (ap pattern told))
