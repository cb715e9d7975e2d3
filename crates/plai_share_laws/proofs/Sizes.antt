-- The sizes of the sets that are formed where an answer comes back to q(f(A1,..,Am)), with m free independent variables.
use Rattle.std.proofs.Common.{◌≡◌, ℕ, zero, suc, ◌+◌, ◌-◌, ◌^◌, Bool, true, false, not, bit_and, bit_or, List, [], ◌∷◌, ◌++◌, map, filter, length, Some, refl}
use Rattle.std.proofs.Common.{sym, ap, subst, ◌∙◌, inl, inr, arith, codes}
use Rattle.std.specs.List.{range_with_len}
use Rattle.std.proofs.lemmas.List.{map-append}
use Rattle.plai_base.specs.Mask.{mask_of, all_true}
use Rattle.plai_base.specs.Sets.{has}
use Rattle.plai_terms.specs.declared.term.Term.{Term, Var, Compound}
use Rattle.plai_terms.specs.declared.abs.Abs.TheVariants.{Groups}
use Rattle.plai_domain.specs.Plain.{StateView}
use Rattle.plai_domain.specs.Outcomes.{too_large}
use Rattle.plai_share_laws.specs.Groups.{Has, meets, misses, without, normal, rel, missing, star}
use Rattle.plai_share_laws.specs.Shares.{Shares, Side, Other, sizes, answered_formed, back_groups}
use Rattle.plai_share_laws.specs.Sides.{term_slots, unions}
use Rattle.plai_share_laws.specs.Calls.{enter, extend, extend_formed, back_formed, raise}
use Rattle.plai_share_laws.specs.Sharing.{shares_of, state_with, sides_of, sharing}
use Rattle.plai_share_laws.proofs.Members.{IsIn}
use Rattle.plai_share_laws.proofs.Masks.{same_mask, or_left, has_and, and_left, meets_at, of_has, has_of}
use Rattle.plai_share_laws.proofs.Lists.{in_map, in_contains, normal_ascending, normal_same}
use Rattle.plai_share_laws.proofs.Rank.{run_low}
use Rattle.plai_share_laws.proofs.TermMoves.{slots-Var}
use Rattle.plai_share_laws.proofs.Examples.{side-Compound}
use Rattle.plai_share_laws.proofs.Independent.{AreApart, with_slot, AreOwn, unions_are, star_size}

-- ---- all pass, or none

filter_all : (p : ℕ → Bool) (xs : List ℕ) → ((x : ℕ) → IsIn x xs → p x ≡ true) → filter p xs ≡ xs
filter_all p [] h = refl
filter_all p (x ∷ xs) h = let e = h x (inl refl) in rw e (ap (λ l. x ∷ l) (filter_all p xs (λ y i. h y (inr i))))

filter_none : (p : ℕ → Bool) (xs : List ℕ) → ((x : ℕ) → IsIn x xs → p x ≡ false) → filter p xs ≡ []
filter_none p [] h = refl
filter_none p (x ∷ xs) h = let e = h x (inl refl) in rw e (filter_none p xs (λ y i. h y (inr i)))

-- ---- an answer at slots that all groups have

module _ (c k : ℕ) (there : Has c k) (ss : List ℕ) where
  abbrev gs : List ℕ
  gs = map (with_slot c) ss

  met : (g : ℕ) → ((s : ℕ) → Has c s → Has g s) → meets c g ≡ true
  met g h = meets_at c g k there (h k there)

  common : (g : ℕ) → IsIn g gs → meets c g ≡ true
  common g i =
      let (s, j, e) = in_map (with_slot c) ss g i in
      met g (λ t h. subst (λ z. Has z t) e (left c s t h))
    where
      left : (c s t : ℕ) → Has c t → Has (with_slot c s) t
      left c s t h = or_left c (mask_of s) t h

  rel_is : rel c gs ≡ gs
  rel_is = filter_all (meets c) gs common

  missing_is : missing c gs ≡ []
  missing_is = filter_none (misses c) gs (λ g i. ap not (common g i))

  part_is : (g : ℕ) → IsIn g (star gs) → bit_and c g ≡ c
  part_is g i = same_mask (bit_and c g) c (λ s h. and_left c g s h) (λ s h. has_and c g s h ((unions_are c ss g i).common s h))

  answered_is : filter (λ g. has (c ∷ []) (bit_and c g)) (star gs) ≡ star gs
  answered_is = filter_all (λ g. has (c ∷ []) (bit_and c g)) (star gs) (λ g i. in_contains (c ∷ []) (bit_and c g) (inl (sym (part_is g i))))

  back_is : back_groups c (c ∷ []) gs ≡ normal (star gs)
  back_is =
      ap (λ l. normal (missing c gs ++ filter (λ g. has (c ∷ []) (bit_and c g)) (star l))) rel_is
      ∙ ap (λ l. normal (l ++ filter (λ g. has (c ∷ []) (bit_and c g)) (star gs))) missing_is
      ∙ ap normal answered_is

  module _ (apart : AreApart ss) (own : AreOwn c ss) where
    star_is : length (normal (star (rel c gs))) ≡ 2 ^ length ss - 1
    star_is = ap (λ l. length (normal (star l))) rel_is ∙ star_size c ss apart own

    new_is : length (normal (back_groups c (c ∷ []) gs)) ≡ 2 ^ length ss - 1
    new_is =
        ap (λ l. length (normal l)) back_is ∙ ap length (normal_same (normal (star gs)) (normal_ascending (star gs))) ∙ star_size c ss apart own

    answer_sizes : (w : Shares) → w.groups ≡ gs → sizes (answered_formed c (c ∷ []) w) ≡ (2 ^ length ss - 1) ∷ (2 ^ length ss - 1) ∷ []
    answer_sizes w e =
        (λ i. length (normal (star (rel c (e i)))) ∷ length (normal (back_groups c (c ∷ []) (e i))) ∷ [])
        ∙ (λ i. star_is i ∷ new_is i ∷ [])

    back_sizes : (n : ℕ) (args : List Side) (v answer : Shares) → raise n (all_true (length args)) ≡ c → map (raise n) answer.groups ≡ c ∷ []
        → (extend n args v).groups ≡ gs → sizes (back_formed n args v answer) ≡ sizes (extend_formed n args v) ++ (2 ^ length ss - 1) ∷ (2 ^ length ss - 1) ∷ []
    back_sizes n args v answer a b e =
        map-append (λ set. length (normal set)) (extend_formed n args v)
        (answered_formed (raise n (all_true (length args))) (map (raise n) answer.groups) (extend n args v))
        ∙ ap (λ l. sizes (extend_formed n args v) ++ l)
        ((λ i. sizes (answered_formed (a i) (b i) (extend n args v))) ∙ answer_sizes (extend n args v) e)

-- ---- slots in turn

range_apart : (s n : ℕ) → AreApart (range_with_len s n)
range_apart s zero = tt
range_apart s (suc n) = (λ i. let (a, b) = run_low (s + 1) n s i in omega (arith, a), range_apart (s + 1) n)

range_own : (n : ℕ) → AreOwn (mask_of n) (range_with_len 0 n)
range_own n s i h = let (a, b) = run_low 0 n s i in let e = of_has n s h in omega (arith, b, e)

variables_slots : (base : ℕ) (vs : List ℕ) → unions (map (term_slots base) (map Var vs)) ≡ unions (map (λ v. mask_of (base + v)) vs)
variables_slots base [] = refl
variables_slots base (v ∷ vs) = λ i. bit_or (slots-Var base v i) (variables_slots base vs i)

-- ---- sixteen variables, and seventeen

abbrev variables : ℕ → List Term
variables m = map Var (range_with_len 0 m)

-- f of the first m variables
abbrev structure : ℕ → Term
structure m = Compound (codes "f") (variables m)

structure_sides : (m : ℕ) → sides_of 0 (structure m ∷ []) ≡ Other (unions (map (λ v. mask_of (0 + v)) (range_with_len 0 m))) ∷ []
structure_sides m = λ i. (side-Compound 0 (codes "f") (variables m) ∙ ap Other (variables_slots 0 (range_with_len 0 m))) i ∷ []

-- a clause without arguments, where nothing is known of its m variables
abbrev open_clause : ℕ → StateView
open_clause m = state_with 0 m (enter m [] (shares_of (Groups 0 [] 0)))

-- an answer in which the argument is not known to be ground
abbrev open_answer : Shares
open_answer = shares_of (Groups 1 (1 ∷ []) 0)

module _ (m : ℕ) where
  abbrev side : List Side
  side = Other (unions (map (λ v. mask_of (0 + v)) (range_with_len 0 m))) ∷ []

  -- where unification gives each variable a group with the argument
  sizes_at : (first : List ℕ) → raise m (all_true 1) ≡ mask_of m → map (raise m) open_answer.groups ≡ mask_of m ∷ []
      → (extend m side (shares_of (open_clause m).abs)).groups ≡ map (with_slot (mask_of m)) (range_with_len 0 m)
      → sizes (extend_formed m side (shares_of (open_clause m).abs)) ≡ first
      → (k : ℕ) → 2 ^ length (range_with_len 0 m) - 1 ≡ k → (sharing.back (open_clause m) (structure m ∷ []) (Groups 1 (1 ∷ []) 0)).sizes ≡ first ++ k ∷ k ∷ []
  sizes_at first a b e f k g =
      (let z : 0 + m ≡ m = omega arith in ap (λ q. sizes (back_formed q (sides_of 0 (structure m ∷ [])) (shares_of (open_clause m).abs) open_answer)) z)
      ∙ ap (λ args. sizes (back_formed m args (shares_of (open_clause m).abs) open_answer)) (structure_sides m)
      ∙ back_sizes (mask_of m) m (has_of m) (range_with_len 0 m) (range_apart 0 m) (range_own m) m side (shares_of (open_clause m).abs) open_answer a b e
      ∙ (λ i. f i ++ g i ∷ g i ∷ [])

sixteen : (sharing.back (open_clause 16) (structure 16 ∷ []) (Groups 1 (1 ∷ []) 0)).sizes ≡ 16 ∷ 16 ∷ 65535 ∷ 65535 ∷ []
unfolding meets without
sixteen = sizes_at 16 (16 ∷ 16 ∷ []) refl refl refl refl 65535 refl

seventeen : (sharing.back (open_clause 17) (structure 17 ∷ []) (Groups 1 (1 ∷ []) 0)).sizes ≡ 17 ∷ 17 ∷ 131071 ∷ 131071 ∷ []
unfolding meets without
seventeen = sizes_at 17 (17 ∷ 17 ∷ []) refl refl refl refl 131071 refl

-- the third set is too large
third_too_large : too_large (sharing.back (open_clause 17) (structure 17 ∷ []) (Groups 1 (1 ∷ []) 0)).sizes ≡ Some 3
third_too_large = ap too_large seventeen
