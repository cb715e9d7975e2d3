-- The variables of a term, each once, and the term over their places.
use Rattle.std.proofs.Common.{◌≡◌, ◌∙◌, ℕ, ◌+◌, ◌<◌, ◌≤◌, ◌^◌, Bool, true, false, ◌||◌, ◌&&◌, cond, nat_eq, List, [], ◌∷◌, ◌++◌, map, flat_map, length, take}
use Rattle.std.proofs.Common.{get_or, append-nil, refl, sym, ap, subst, arith, rules}
use Rattle.std.specs.Prelude.{nat_lt, unwrap_or, position, Option, Some, None}
use Rattle.std.specs.List.{list_any, list_all, position_or_len, AllByRecursion, IsDistinct}
use Rattle.std.proofs.lemmas.Bool.{eqb-true, eq-eqb}
use Rattle.std.proofs.lemmas.Bool.Decides.{nat_tests}
use Rattle.std.proofs.lemmas.Grind.{flat_map-append}
use Rattle.std.proofs.lemmas.List.{take_more, take_all}
use Rattle.std.proofs.lemmas.List.Folds.{list_all-append}
use Rattle.std.proofs.lemmas.Map.Steps.{length-le_from_distinct_below}
use Rattle.plai_theory.proofs.Options.{by_test}
use Rattle.plai_terms.specs.Term.{has_variables_below}
use Rattle.plai_terms.specs.Readable.{is_wide, IsReadable}
use Rattle.plai_terms.specs.Substitution.{under}
use Rattle.plai_terms.specs.declared.term.Term.{Term, Var, Compound, the_lemmas}
use Rattle.plai_terms.proofs.Terms.{induction}
use Rattle.plai_script.specs.OwnTerms.{occurrences, with_variable, with_variables, variables_of, numbered, own_term}
use Rattle.plai_script.specs.Readable.{IsPart}

abbrev has : List ℕ → ℕ → Bool
has xs v = list_any (nat_eq v) xs

abbrev below : ℕ → ℕ → Bool
below n v = nat_lt v n

both_true : (p q : Bool) → (p && q) ≡ true → (p ≡ true) × (q ≡ true)
both_true true q e = (refl, e)
both_true false q e = absurd cc

are_both : (p q : Bool) → p ≡ true → q ≡ true → (p && q) ≡ true
are_both p q e f = rw e f

-- one more argument
more_variables : (init xs ys : List ℕ) → with_variables init (xs ++ ys) ≡ with_variables (with_variables init xs) ys
more_variables init [] ys = refl
more_variables init (x ∷ xs) ys = more_variables (with_variable init x) xs ys

fused : (args : List Term) → flat_map (λ part. part) (map occurrences args) ≡ flat_map occurrences args
fused [] = refl
fused (a ∷ args) = ap (λ vs. occurrences a ++ vs) (fused args)

occurrences-raw : (name : List ℕ) (args : List Term) → occurrences (Compound name args) ≡ flat_map (λ part. part) (map occurrences args)
occurrences-raw name args = search (rules, the_lemmas)

occurrences-Compound : (name : List ℕ) (args : List Term) → occurrences (Compound name args) ≡ flat_map occurrences args
occurrences-Compound name args = occurrences-raw name args ∙ fused args

argument_more : (args : List Term) (i : ℕ) (arg : Term) → i < length args → arg ≡ get_or args i arg
    → flat_map occurrences (take (i + 1) args) ≡ flat_map occurrences (take i args) ++ occurrences arg
argument_more args i arg h e =
    ap (flat_map occurrences) (take_more args i arg h) ∙ flat_map-append occurrences (take i args) (get_or args i arg ∷ [])
    ∙ ap (λ vs. flat_map occurrences (take i args) ++ vs) (append-nil (occurrences (get_or args i arg)) ∙ ap occurrences (sym e))

pub noted_more : (init mid later : List ℕ) (args : List Term) (i : ℕ) (arg : Term) → i < length args → arg ≡ get_or args i arg
    → mid ≡ with_variables init (flat_map occurrences (take i args)) → later ≡ with_variables mid (occurrences arg)
    → later ≡ with_variables init (flat_map occurrences (take (i + 1) args))
noted_more init mid later args i arg h e a b =
    b ∙ ap (λ s. with_variables s (occurrences arg)) a
    ∙ sym (more_variables init (flat_map occurrences (take i args)) (occurrences arg))
    ∙ ap (with_variables init) (sym (argument_more args i arg h e))

pub noted_all : (init mid : List ℕ) (parts args : List Term) (i : ℕ) (t : Term) (name : List ℕ) → length args ≤ i → t ≡ Compound name parts → args ≡ parts
    → mid ≡ with_variables init (flat_map occurrences (take i args)) → mid ≡ with_variables init (occurrences t)
noted_all init mid parts args i t name h is same a =
    a ∙ ap (λ ts. with_variables init (flat_map occurrences ts)) (take_all i args h ∙ same)
    ∙ ap (with_variables init) (sym (ap occurrences is ∙ occurrences-Compound name parts))

-- the variables are below the number
module _ (n : ℕ) where
  abbrev IsCounted : Term → Type 0
  IsCounted t = has_variables_below n t ≡ list_all (below n) (occurrences t)

  all_counted : (args : List Term) → AllByRecursion IsCounted args
      → list_all (λ b. b) (map (has_variables_below n) args) ≡ list_all (below n) (flat_map occurrences args)
  all_counted [] h = refl
  all_counted (a ∷ args) h =
      ap (λ b. b && list_all (λ c. c) (map (has_variables_below n) args)) h.0
      ∙ ap (λ b. list_all (below n) (occurrences a) && b) (all_counted args h.1)
      ∙ sym (list_all-append (below n) (occurrences a) (flat_map occurrences args))

  below-Compound : (name : List ℕ) (args : List Term) → has_variables_below n (Compound name args) ≡ list_all (λ b. b) (map (has_variables_below n) args)
  below-Compound name args = search (rules, the_lemmas)

  alone : (b : Bool) → b ≡ (b && true)
  alone true = refl
  alone false = refl

  counted : (t : Term) → IsCounted t
  counted = induction IsCounted
      (λ v.
      let one : occurrences (Var v) ≡ v ∷ [] = search (rules, the_lemmas) in
      let test : has_variables_below n (Var v) ≡ nat_lt v n = search (rules, the_lemmas) in
      test ∙ alone (nat_lt v n) ∙ sym (ap (list_all (below n)) one))
      (λ z. search (rules, the_lemmas)) (λ a. search (rules, the_lemmas))
      (λ name args h. below-Compound name args ∙ all_counted args h ∙ sym (ap (list_all (below n)) (occurrences-Compound name args)))

-- what holds of the variables holds of each of them once
with_all : (f : ℕ → Bool) (seen vs : List ℕ) → list_all f seen ≡ true → list_all f vs ≡ true → list_all f (with_variables seen vs) ≡ true
with_all f seen [] h k = h
with_all f seen (v ∷ vs) h k =
    let (one, rest) = both_true (f v) (list_all f vs) k in
    with_all f (with_variable seen v) vs
    (by_test (has seen v)
    (λ e. rw e h)
    (λ e. rw e (list_all-append f seen (v ∷ []) ∙ are_both (list_all f seen) (f v && true) h (are_both (f v) true one refl))))
    rest

member : (f : ℕ → Bool) (q : ℕ) (xs : List ℕ) → has xs q ≡ true → list_all f xs ≡ true → f q ≡ true
member f q [] h k = absurd cc
member f q (x ∷ xs) h k =
    let (one, rest) = both_true (f x) (list_all f xs) k in
    by_test (nat_eq q x)
    (λ e. ap f (eqb-true q x e) ∙ one)
    (λ e. let there : has xs q ≡ true = rw e at h in member f q xs there rest)

-- each once
turned : (u v : ℕ) → nat_eq u v ≡ false → nat_eq v u ≡ false
turned u v e = by_test (nat_eq v u) (λ k. let same = eq-eqb u v (sym (eqb-true v u k)) in absurd cc) (λ k. k)

apart_push : (u v : ℕ) (xs : List ℕ) → AllByRecursion (λ y. nat_eq u y ≡ false) xs → nat_eq u v ≡ false
    → AllByRecursion (λ y. nat_eq u y ≡ false) (xs ++ v ∷ [])
apart_push u v [] h e = (e, tt)
apart_push u v (x ∷ xs) h e = (h.0, apart_push u v xs h.1 e)

neither : (p q : Bool) → (p || q) ≡ false → (p ≡ false) × (q ≡ false)
neither true q e = absurd cc
neither false q e = (refl, e)

distinct_push : (xs : List ℕ) (v : ℕ) → IsDistinct nat_eq xs → has xs v ≡ false → IsDistinct nat_eq (xs ++ v ∷ [])
unfolding IsDistinct
distinct_push [] v h e = (tt, tt)
distinct_push (x ∷ xs) v h e =
    let (one, rest) = neither (nat_eq v x) (has xs v) e in
    (apart_push x v xs h.0 (turned v x one), distinct_push xs v h.1 rest)

distinct : (seen vs : List ℕ) → IsDistinct nat_eq seen → IsDistinct nat_eq (with_variables seen vs)
distinct seen [] h = h
distinct seen (v ∷ vs) h =
    distinct (with_variable seen v) vs (by_test (has seen v) (λ e. rw e h) (λ e. rw e (distinct_push seen v h e)))

none_distinct : IsDistinct nat_eq []
unfolding IsDistinct
none_distinct = tt

-- there are at most as many as the whole term has
few : (n : ℕ) (t : Term) → IsPart n t → length (variables_of t) ≤ n
few n t part =
    let all : list_all (below n) (variables_of t) ≡ true = with_all (below n) [] (occurrences t) refl (sym (counted n t) ∙ part.numbered) in
    length-le_from_distinct_below (variables_of t) n (distinct [] (occurrences t) none_distinct)
    (λ q e. let le = member (below n) q (variables_of t) e all in grind (arith, nat_tests))

pub fits : (n : ℕ) (t : Term) (keys : List ℕ) → n < 2 ^ 31 → IsPart n t → keys ≡ variables_of t → length keys < 2 ^ 31
fits n t keys lt part is = subst (λ ks. length ks < 2 ^ 31) (sym is) (let le = few n t part in omega arith)

-- each variable has a place
keeps : (q : ℕ) (seen vs : List ℕ) → has seen q ≡ true → has (with_variables seen vs) q ≡ true
keeps q seen [] h = h
keeps q seen (v ∷ vs) h = keeps q (with_variable seen v) vs (by_test (has seen v) (λ e. rw e h) (λ e. rw e (any_left q seen (v ∷ []) h)))
  where
    any_left : (q : ℕ) (xs ys : List ℕ) → has xs q ≡ true → has (xs ++ ys) q ≡ true
    any_left q [] ys h = absurd cc
    any_left q (x ∷ xs) ys h = by_test (nat_eq q x) (λ e. rw e refl) (λ e. rw e (any_left q xs ys (rw e at h)))

itself : (seen : List ℕ) (v : ℕ) → has (with_variable seen v) v ≡ true
itself seen v = by_test (has seen v) (λ e. rw e e) (λ e. rw e (last seen))
  where
    last : (xs : List ℕ) → has (xs ++ v ∷ []) v ≡ true
    last [] = let same : nat_eq v v ≡ true = eq-eqb v v refl in rw same refl
    last (x ∷ xs) = by_test (nat_eq v x) (λ k. rw k refl) (λ k. rw k (last xs))

all_there : (seen vs : List ℕ) → list_all (has (with_variables seen vs)) vs ≡ true
all_there seen [] = refl
all_there seen (v ∷ vs) =
    are_both (has (with_variables (with_variable seen v) vs) v) (list_all (has (with_variables (with_variable seen v) vs)) vs)
    (keeps v (with_variable seen v) vs (itself seen v)) (all_there (with_variable seen v) vs)

placed : (v : ℕ) (xs : List ℕ) → has xs v ≡ true → position_or_len (nat_eq v) xs < length xs
placed v [] h = absurd cc
placed v (x ∷ xs) h =
    by_test (nat_eq v x)
    (λ e. rw e (omega arith))
    (λ e. let rest = placed v xs (rw e at h) in rw e (omega arith))

-- the place of a variable that is there
place_of : (v : ℕ) (xs : List ℕ) → has xs v ≡ true → unwrap_or (position (nat_eq v) xs) 0 < length xs
place_of v xs h =
    let lt = placed v xs h in
    let yes : nat_lt (position_or_len (nat_eq v) xs) (length xs) ≡ true = grind (arith, nat_tests) in
    subst (λ (o : Option ℕ). unwrap_or o 0 < length xs) (sym (ap (λ b. cond b (Some (position_or_len (nat_eq v) xs)) None) yes)) lt

module _ (vs : List ℕ) where
  abbrev IsPlaced : Term → Type 0
  IsPlaced t = list_all (has vs) (occurrences t) ≡ true → has_variables_below (length vs) (under (numbered vs) t) ≡ true

  under-Compound : (name : List ℕ) (args : List Term) → under (numbered vs) (Compound name args) ≡ Compound name (map (under (numbered vs)) args)
  under-Compound name args = search (rules, the_lemmas)

  args_placed : (args : List Term) → AllByRecursion IsPlaced args → list_all (has vs) (flat_map occurrences args) ≡ true
      → list_all (λ b. b) (map (has_variables_below (length vs)) (map (under (numbered vs)) args)) ≡ true
  args_placed [] h k = refl
  args_placed (a ∷ args) h k =
      let (one, rest) = both_true (list_all (has vs) (occurrences a)) (list_all (has vs) (flat_map occurrences args))
      (sym (list_all-append (has vs) (occurrences a) (flat_map occurrences args)) ∙ k) in
      are_both (has_variables_below (length vs) (under (numbered vs) a))
      (list_all (λ b. b) (map (has_variables_below (length vs)) (map (under (numbered vs)) args)))
      (h.0 one) (args_placed args h.1 rest)

  all_placed : (t : Term) → IsPlaced t
  all_placed = induction IsPlaced
      (λ v h.
      let one : occurrences (Var v) ≡ v ∷ [] = search (rules, the_lemmas) in
      let is : under (numbered vs) (Var v) ≡ Var (unwrap_or (position (nat_eq v) vs) 0) = search (rules, the_lemmas) in
      let test : has_variables_below (length vs) (Var (unwrap_or (position (nat_eq v) vs) 0)) ≡ nat_lt (unwrap_or (position (nat_eq v) vs) 0) (length vs) =
      search (rules, the_lemmas) in
      let (there, _) = both_true (has vs v) true (sym (ap (list_all (has vs)) one) ∙ h) in
      let lt = place_of v vs there in
      let yes : nat_lt (unwrap_or (position (nat_eq v) vs) 0) (length vs) ≡ true = grind (arith, nat_tests) in
      ap (has_variables_below (length vs)) is ∙ test ∙ yes)
      (λ z h. search (rules, the_lemmas)) (λ a h. search (rules, the_lemmas))
      (λ name args h k.
      ap (has_variables_below (length vs)) (under-Compound name args) ∙ below-Compound (length vs) name (map (under (numbered vs)) args)
      ∙ args_placed args h (sym (ap (list_all (has vs)) (occurrences-Compound name args)) ∙ k))

  -- no compound is wider
  abbrev IsAsWide : Term → Type 0
  IsAsWide t = is_wide (under (numbered vs) t) ≡ is_wide t

  args_as_wide : (args : List Term) → AllByRecursion IsAsWide args → map is_wide (map (under (numbered vs)) args) ≡ map is_wide args
  args_as_wide [] h = refl
  args_as_wide (a ∷ args) h = ap (λ b. b ∷ map is_wide (map (under (numbered vs)) args)) h.0 ∙ ap (λ bs. is_wide a ∷ bs) (args_as_wide args h.1)

  as_wide : (t : Term) → IsAsWide t
  as_wide = induction IsAsWide
      (λ v.
      let is : under (numbered vs) (Var v) ≡ Var (unwrap_or (position (nat_eq v) vs) 0) = search (rules, the_lemmas) in
      let no : is_wide (Var (unwrap_or (position (nat_eq v) vs) 0)) ≡ false = search (rules, the_lemmas) in
      let none : is_wide (Var v) ≡ false = search (rules, the_lemmas) in
      ap is_wide is ∙ no ∙ sym none)
      (λ z. search (rules, the_lemmas)) (λ a. search (rules, the_lemmas))
      (λ name args h.
      ap is_wide (under-Compound name args) ∙ wide-Compound name (map (under (numbered vs)) args)
      ∙ ap (λ bs. nat_lt 255 (length bs) || list_any (λ b. b) bs) (args_as_wide args h)
      ∙ sym (wide-Compound name args))
    where
      wide-Compound : (name : List ℕ) (args : List Term)
          → is_wide (Compound name args) ≡ (nat_lt 255 (length (map is_wide args)) || list_any (λ b. b) (map is_wide args))
      wide-Compound name args = search (rules, the_lemmas)

-- a part with variables of its own can be read
pub own_readable : (n : ℕ) (t : Term) → n < 2 ^ 31 → IsPart n t → IsReadable (own_term t)
own_readable n t lt part = record {
  numbered = all_placed (variables_of t) t (all_there [] (occurrences t));
  few_variables = let le = few n t part in omega arith;
  few_arguments = as_wide (variables_of t) t ∙ part.few_arguments;
}
