-- What each of some things gives, one more thing at a time.
use Rattle.std.proofs.Common.{◌≡◌, ◌∙◌, ℕ, ◌+◌, ◌<◌, zero, suc, Option, Some, None, Result, Err, Vec, Global, Bor, List, [], ◌∷◌, ◌++◌, map, length, take}
use Rattle.std.proofs.Common.{get_or, refl, sym, ap, subst, arith}
use Rattle.std.proofs.lemmas.List.{take_more}
use Rattle.std.proofs.lemmas.List.Elements.{All-cons, All-nil}
use Rattle.std.specs.Prelude.{All, option_map, option_and_then}
use Rattle.plai_sources.specs.Shapes.{each}
use Rattle.plai_sources.specs.Answering.{behind, Gives, Lists}
use Rattle.plai_sources.specs.declared.stop.Stop.{Stop}
use Rattle.plai_sources.specs.declared.stop.Stop.TheVariants.{Memory, Unfit}

pub behind-nil : {A : Type 0} (o : Option (List A)) → behind [] o ≡ o
behind-nil None = refl
behind-nil (Some xs) = refl

abbrev pub after : {A : Type 0} → Option (List A) → Option (List A) → Option (List A)
after None r = None
after (Some xs) r = behind xs r

none_then : {A B : Type 0} (o : Option A) → option_and_then (λ y. let n : Option B = None in n) o ≡ None
none_then None = refl
none_then (Some x) = refl

shift : {A : Type 0} (o : Option A) (a b : Option (List A))
    → option_and_then (λ y. option_map (λ ys. y ∷ ys) (after a b)) o ≡ after (option_and_then (λ y. option_map (λ ys. y ∷ ys) a) o) b
shift None a b = refl
shift (Some x) None b = refl
shift (Some x) (Some xs) None = refl
shift (Some x) (Some xs) (Some ys) = refl

module _ {A B : Type 0} (f : A → Option B) where
  pub each-append : (xs ys : List A) → each f (xs ++ ys) ≡ after (each f xs) (each f ys)
  each-append [] ys = sym (behind-nil (each f ys))
  each-append (x ∷ xs) ys =
      ap (λ o. option_and_then (λ y. option_map (λ zs. y ∷ zs) o) (f x)) (each-append xs ys) ∙ shift (f x) (each f xs) (each f ys)

  -- one more thing that gives something
  pub each_more : (xs : List A) (i : ℕ) (d : A) (ys : List B) (y : B) → i < length xs → f (get_or xs i d) ≡ Some y → each f (take i xs) ≡ Some ys
      → each f (take (i + 1) xs) ≡ Some (ys ++ y ∷ [])
  each_more xs i d ys y h e all =
      ap (each f) (take_more xs i d h) ∙ each-append (take i xs) (get_or xs i d ∷ [])
      ∙ ap (λ o. after o (each f (get_or xs i d ∷ []))) all
      ∙ ap (λ o. behind ys (option_and_then (λ z. Some (z ∷ [])) o)) e

  -- one thing that gives nothing
  pub each_none : (xs : List A) (i : ℕ) (d : A) → i < length xs → f (get_or xs i d) ≡ None → each f xs ≡ None
  each_none [] i d h e = absurd (omega arith)
  each_none (x ∷ xs) zero d h e = ap (option_and_then (λ y. option_map (λ ys. y ∷ ys) (each f xs))) e
  each_none (x ∷ xs) (suc i) d h e =
      ap (λ o. option_and_then (λ y. option_map (λ ys. y ∷ ys) o) (f x)) (each_none xs i d (omega arith) e) ∙ none_then (f x)

  one_more : (xs : List A) (ys : List B) (o : Option B) (r : Option (List B)) → ((zs : List B) → r ≡ Some zs → length zs ≡ length xs)
      → option_and_then (λ y. option_map (λ zs. y ∷ zs) r) o ≡ Some ys → length ys ≡ 1 + length xs
  one_more xs ys None r h e = absurd cc
  one_more xs ys (Some y) None h e = absurd cc
  one_more xs ys (Some y) (Some zs) h e = let same : y ∷ zs ≡ ys = cc in let n = h zs refl in omega (arith, ap length same)

  pub length-each : (xs : List A) (ys : List B) → each f xs ≡ Some ys → length ys ≡ length xs
  length-each [] ys e = let same : [] ≡ ys = cc in sym (ap length same)
  length-each (x ∷ xs) ys e = let n = one_more xs ys (f x) (each f xs) (length-each xs) e in omega arith

  both : (P : B → Type 0) (ys : List B) (o : Option B) (r : Option (List B)) → ((y : B) → o ≡ Some y → P y) → ((zs : List B) → r ≡ Some zs → All P zs)
      → option_and_then (λ y. option_map (λ zs. y ∷ zs) r) o ≡ Some ys → All P ys
  both P ys None r h k e = absurd cc
  both P ys (Some y) None h k e = absurd cc
  both P ys (Some y) (Some zs) h k e = let same : y ∷ zs ≡ ys = cc in subst (All P) same (All-cons P y zs (h y refl) (k zs refl))

  -- what holds of all that the things may give
  pub All-each : (P : B → Type 0) → ((x : A) (y : B) → f x ≡ Some y → P y) → (xs : List A) (ys : List B) → each f xs ≡ Some ys → All P ys
  All-each P h [] ys e = let same : [] ≡ ys = cc in subst (All P) same (All-nil P)
  All-each P h (x ∷ xs) ys e = both P ys (f x) (each f xs) (h x) (All-each P h xs) e

pub each-map : {A B C : Type 0} (f : B → Option C) (g : A → B) (xs : List A) → each f (map g xs) ≡ each (λ x. f (g x)) xs
each-map f g [] = refl
each-map f g (x ∷ xs) = ap (λ o. option_and_then (λ y. option_map (λ ys. y ∷ ys) o) (f (g x))) (each-map f g xs)

-- what is returned where one thing gives nothing
none_lists : {A : Type 0} (o : Option (List A)) (r : Result (Vec A Global) Stop) (stop : Stop) → o ≡ None → r ≡ Err stop → Lists o r
none_lists o r Memory e is = subst (Lists o) (sym is) tt
none_lists o r Unfit e is = subst (Lists o) (sym is) e

module _ {A B : Type 0} (f : A → Option B) (xs : List A) (i : ℕ) (x : A) (r : Result (Vec B Global) Stop) where
  pub missing_each : {Q : Stop → Type 0} → i < length xs → x ≡ get_or xs i x → f x ≡ None → (y : Stop) × (r ≡ Err y) × Q y → Lists (each f xs) r
  missing_each h e none p = none_lists (each f xs) r p.0 (each_none f xs i x h (ap f (sym e) ∙ none)) p.1

  -- the same for the answer of a call
  pub failing_each : (stop : Stop) → i < length xs → x ≡ get_or xs i x → Gives (f x) (Err stop) → (y : Stop) × (r ≡ Err y) × (y ≡ stop) → Lists (each f xs) r
  failing_each Memory h e none p = let same : r ≡ Err Memory = p.1 ∙ ap (λ s. Err s) p.2 in subst (Lists (each f xs)) (sym same) tt
  failing_each Unfit h e none p = none_lists (each f xs) r p.0 (each_none f xs i x h (ap f (sym e) ∙ none)) p.1

-- one more thing, put behind the others
pub pushed_each : {A B : Type 0} (f : A → Option B) (xs : List A) (i : ℕ) (x : A) (ys zs : List B) (y : B)
    → i < length xs → x ≡ get_or xs i x → f x ≡ Some y → each f (take i xs) ≡ Some ys → zs ≡ ys ++ y ∷ [] → each f (take (i + 1) xs) ≡ Some zs
pushed_each f xs i x ys zs y h e some all is = each_more f xs i x ys y h (ap f (sym e) ∙ some) all ∙ ap (λ l. Some l) (sym is)

-- what each of the things gives that references point to
pub each-now : {A B : Type 0} (f : A → Option B) (o : Option (List A)) (v w : List (Bor A)) (r : Result (Vec B Global) Stop)
    → o ≡ Some (map (λ (x : Bor A). x.now) v) → w ≡ v → Lists (each (λ (x : Bor A). f x.now) w) r → Lists (option_and_then (each f) o) r
each-now {A} f o v w r e s h =
    let same : option_and_then (each f) o ≡ each (λ (x : Bor A). f x.now) w =
    ap (option_and_then (each f)) e ∙ each-map f (λ (x : Bor A). x.now) v ∙ ap (each (λ (x : Bor A). f x.now)) (sym s) in
    subst (λ p. Lists p r) (sym same) h
