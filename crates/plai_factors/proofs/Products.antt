-- Conjunctions of several functions, and quantification of one slot of them.
use Rattle.std.proofs.Common.{◌≡◌, ◌≢◌, ℕ, zero, suc, ◌<◌, nat_eq, IsTrue, Bool, true, false, cond, ◌&&◌, ◌||◌, List, [], ◌∷◌, ◌++◌, Option, Some, None, refl}
use Rattle.std.proofs.Common.{◌+◌, length, get_or, take, sym, ap, ◌∙◌}
use Rattle.std.proofs.lemmas.List.{take_more}
use Rattle.std.proofs.Math.Bool.{and-true}
use Rattle.std.proofs.lemmas.Nat.Bits.{bit_at-zero}
use Rattle.plai_base.specs.Mask.{has_slot}
use Rattle.plai_bdd.specs.Assignment.{Assignment, with_slot, IsFree}
use Rattle.plai_bdd.specs.declared.node.Node.{Node}
use Rattle.plai_bdd.specs.Nodes.{holds, IsFunction}
use Rattle.plai_bdd.specs.Slots.{some_hold, some_slot, quantified}
use Rattle.plai_factors.specs.Product.{together, joined_holds}
use Rattle.plai_bdd.proofs.Branches.{some_unused}
use Rattle.plai_bdd.proofs.Functions.{IsFunction-as}
use Rattle.plai_factors.proofs.Order.{goes_first}

and_assoc : (a b c : Bool) → (a && (b && c)) ≡ ((a && b) && c)
and_assoc true b c = refl
and_assoc false b c = refl

pub together-push : (fs : List (List Node)) (f : List Node) (at : Assignment) → together (fs ++ f ∷ []) at ≡ (together fs at && holds f at)
together-push [] f at = and-true (holds f at)
together-push (g ∷ fs) f at = ap (λ b. holds g at && b) (together-push fs f at) ∙ and_assoc (holds g at) (together fs at) (holds f at)

-- one function more that doesn't depend on the slot
pub free_more : (slot i : ℕ) (all : List (List Node)) (f : List Node) → i < length all → f ≡ get_or all i f → IsFree (holds f) slot
    → IsFree (together (take i all)) slot → IsFree (together (take (i + 1) all)) slot
free_more slot i all f within is free old at answer =
    more (with_slot at slot answer) ∙ (λ x. old at answer x && free at answer x) ∙ sym (more at)
  where
    more : (at : Assignment) → together (take (i + 1) all) at ≡ (together (take i all) at && holds f at)
    more at = ap (λ fs. together fs at) (take_more all i f within) ∙ ap (λ g. together (take i all ++ g ∷ []) at) (sym is)
        ∙ together-push (take i all) f at

-- the functions that are left to look at, those that don't depend on the slot, and the others, joined
pub record IsParting (slot : ℕ) (given left rest : List (List Node)) (joined : Option (List Node)) : Type 0 where
  pub free : IsFree (together rest) slot
  pub whole : (at : Assignment) → ((together rest at && joined_holds joined at) && together left at) ≡ together given at

pub parting_start : (slot : ℕ) (given : List (List Node)) → IsParting slot given given [] None
parting_start slot given = record { free = λ at answer. refl; whole = λ at. refl }

to_rest : (r f j l : Bool) → (((r && f) && j) && l) ≡ ((r && j) && (l && f))
to_rest true true true true = refl
to_rest true true true false = refl
to_rest true true false l = refl
to_rest true false true true = refl
to_rest true false true false = refl
to_rest true false false l = refl
to_rest false f j l = refl

to_joined : (r f j l : Bool) → ((r && (j && f)) && l) ≡ ((r && j) && (l && f))
to_joined true true true true = refl
to_joined true true true false = refl
to_joined true true false l = refl
to_joined true false true true = refl
to_joined true false true false = refl
to_joined true false false l = refl
to_joined false f j l = refl

module _ (slot : ℕ) (given was left rest : List (List Node)) (f : List Node) (joined : Option (List Node)) (popped : was ≡ left ++ f ∷ [])
    (p : IsParting slot given was rest joined) where
  was_whole : (at : Assignment) → ((together rest at && joined_holds joined at) && (together left at && holds f at)) ≡ together given at
  was_whole at =
      ap (λ b. (together rest at && joined_holds joined at) && b) (sym (ap (λ fs. together fs at) popped ∙ together-push left f at))
      ∙ p.whole at

  pub parting_rest : (longer : List (List Node)) → longer ≡ rest ++ f ∷ [] → IsFree (holds f) slot → IsParting slot given left longer joined
  parting_rest longer e free = record {
    free = λ at answer. at_longer (with_slot at slot answer) ∙ (λ i. p.free at answer i && free at answer i) ∙ sym (at_longer at);
    whole = λ at.
        ap (λ b. (b && joined_holds joined at) && together left at) (at_longer at)
        ∙ to_rest (together rest at) (holds f at) (joined_holds joined at) (together left at) ∙ was_whole at;
  }
    where
      at_longer : (at : Assignment) → together longer at ≡ (together rest at && holds f at)
      at_longer at = ap (λ fs. together fs at) e ∙ together-push rest f at

  pub parting_joined : (both : List Node) → ((at : Assignment) → holds both at ≡ (joined_holds joined at && holds f at))
      → IsParting slot given left rest (Some both)
  parting_joined both is = record {
    free = p.free;
    whole = λ at.
        ap (λ b. (together rest at && b) && together left at) (is at)
        ∙ to_joined (together rest at) (holds f at) (joined_holds joined at) (together left at) ∙ was_whole at;
  }

both_or : (r a b : Bool) → (r && (a || b)) ≡ ((r && a) || (r && b))
both_or true a b = refl
both_or false a b = refl

module _ (mask slot : ℕ) (given rest : List (List Node)) where
  -- what is left of the functions is what they are
  pub parted_none : (left : List (List Node)) → left ≡ [] → IsParting slot given left rest None → (at : Assignment)
      → together rest at ≡ some_slot mask slot (together given) at
  parted_none left e p at =
      some_unused (together rest) slot p.free mask at ∙ ap (λ f. some_slot mask slot f at) (λ i other. all other i)
    where
      all : (at : Assignment) → together rest at ≡ together given at
      all at =
          sym (and-true (together rest at)) ∙ sym (and-true (together rest at && true))
          ∙ ap (λ fs. (together rest at && true) && together fs at) (sym e) ∙ p.whole at

  pub parted_some : (left : List (List Node)) (f one : List Node) (longer : List (List Node)) → left ≡ [] → has_slot mask slot ≡ true
      → longer ≡ rest ++ one ∷ []
      → IsFunction one (λ at. holds f (with_slot at slot false) || holds f (with_slot at slot true)) → IsParting slot given left rest (Some f)
      → (at : Assignment) → together longer at ≡ some_slot mask slot (together given) at
  parted_some left f one longer e has g is p at =
      ap (λ fs. together fs at) g ∙ together-push rest one at
      ∙ ap (λ c. together rest at && c) (is.answers at)
      ∙ both_or (together rest at) (holds f (with_slot at slot false)) (holds f (with_slot at slot true))
      ∙ (λ i. side false i || side true i)
      ∙ sym (ap (λ c. cond c (together given (with_slot at slot false) || together given (with_slot at slot true)) (together given at)) has)
    where
      side : (answer : Bool) → (together rest at && holds f (with_slot at slot answer)) ≡ together given (with_slot at slot answer)
      side answer =
          let other = with_slot at slot answer in
          ap (λ c. c && holds f other) (sym (p.free at answer))
          ∙ sym (and-true (together rest other && holds f other))
          ∙ ap (λ fs. (together rest other && holds f other) && together fs other) (sym e) ∙ p.whole other

-- the whole loop: the slots that are left to quantify
pub record IsQuantifying (mask left : ℕ) (given rest : List (List Node)) : Type 0 where
  pub same : (at : Assignment) → quantified left (together rest) at ≡ quantified mask (together given) at

pub quantifying_start : (mask : ℕ) (given : List (List Node)) → IsQuantifying mask mask given given
quantifying_start mask given = record { same = λ at. refl }

pub quantifying_more : (mask left slot less : ℕ) (given rest new : List (List Node)) → slot < 64 → has_slot left slot ≡ true
    → ((k : ℕ) → k < 64 → k ≢ slot → has_slot less k ≡ has_slot left k) → IsQuantifying mask left given rest
    → ((at : Assignment) → together new at ≡ some_slot left slot (together rest) at) → IsQuantifying mask less given new
quantifying_more mask left slot less given rest new lt has others old step = record {
  same = λ at. goes_first left less slot lt has others (together rest) (together new) step at ∙ old.same at;
}

-- nothing is left to quantify
some_hold-empty : (n : ℕ) (f : Assignment → Bool) (at : Assignment) → some_hold 0 n f at ≡ f at
unfolding some_hold
some_hold-empty zero f at = refl
some_hold-empty (suc n) f at = some_hold-empty n (some_slot 0 n f) at
    ∙ ap (λ b. cond (nat_eq b 1) (f (with_slot at n false) || f (with_slot at n true)) (f at)) (bit_at-zero n)

pub quantifying_done : (mask left : ℕ) (given rest : List (List Node)) (t : List Node) → left ≡ 0 → IsQuantifying mask left given rest
    → IsFunction t (together rest)
    → IsFunction t (quantified mask (together given))
quantifying_done mask left given rest t e q is =
    IsFunction-as (λ at. sym (some_hold-empty 64 (together rest) at) ∙ ap (λ m. quantified m (together rest) at) (sym e) ∙ q.same at) is

-- a function that is joined with some of the functions that are left to look at; the others are kept
pub record IsMerging (target : Assignment → Bool) (left kept : List (List Node)) (new : List Node) : Type 0 where
  pub whole : (at : Assignment) → ((together kept at && holds new at) && together left at) ≡ target at

and_turned : (a b : Bool) → (a && b) ≡ (b && a)
and_turned true true = refl
and_turned true false = refl
and_turned false true = refl
and_turned false false = refl

pub merging_start : (given none : List (List Node)) (f new : List Node) → none ≡ [] → new ≡ f → IsMerging (λ at. together given at && holds f at) given none new
merging_start given none f new e g = record {
  whole = λ at. (λ i. (together (e i) at && holds (g i) at) && together given at) ∙ and_turned (holds f at) (together given at);
}

module _ (target : Assignment → Bool) (was left kept : List (List Node)) (f new : List Node) (popped : was ≡ left ++ f ∷ [])
    (p : IsMerging target was kept new) where
  was_left : (at : Assignment) → ((together kept at && holds new at) && (together left at && holds f at)) ≡ target at
  was_left at =
      ap (λ b. (together kept at && holds new at) && b) (sym (ap (λ fs. together fs at) popped ∙ together-push left f at))
      ∙ p.whole at

  pub merging_kept : (longer : List (List Node)) → longer ≡ kept ++ f ∷ [] → IsMerging target left longer new
  merging_kept longer e = record {
    whole = λ at.
        ap (λ b. (b && holds new at) && together left at) (ap (λ fs. together fs at) e ∙ together-push kept f at)
        ∙ to_rest (together kept at) (holds f at) (holds new at) (together left at) ∙ was_left at;
  }

  pub merging_joined : (both : List Node) → ((at : Assignment) → holds both at ≡ (holds new at && holds f at)) → IsMerging target left kept both
  merging_joined both is = record {
    whole = λ at.
        ap (λ b. (together kept at && b) && together left at) (is at)
        ∙ to_joined (together kept at) (holds f at) (holds new at) (together left at) ∙ was_left at;
  }

-- none is left to look at: the joined function is kept too, unless it is true at all assignments
module _ (target : Assignment → Bool) (left kept : List (List Node)) (new : List Node) (none : left ≡ []) (p : IsMerging target left kept new) where
  all_at : (at : Assignment) → (together kept at && holds new at) ≡ target at
  all_at at = sym (and-true (together kept at && holds new at)) ∙ ap (λ fs. (together kept at && holds new at) && together fs at) (sym none) ∙ p.whole at

  pub merged_some : (longer : List (List Node)) → longer ≡ kept ++ new ∷ [] → (at : Assignment) → together longer at ≡ target at
  merged_some longer e at = ap (λ fs. together fs at) e ∙ together-push kept new at ∙ all_at at

  pub merged_always : ((at : Assignment) → IsTrue (holds new at)) → (at : Assignment) → together kept at ≡ target at
  merged_always all at = sym (and-true (together kept at)) ∙ ap (λ b. together kept at && b) (sym (all at)) ∙ all_at at
