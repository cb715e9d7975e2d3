-- The settings that what clap found comes to.
use Rattle.std.proofs.Common.{◌≡◌, ◌≢◌, ℕ, List, [], ◌∷◌, Bool, Option, None, Some, Result, Ok, Err, true, false, refl, ap, sym, ◌∙◌, ◌≤◌, IfSome, arith}
use Rattle.std.proofs.Common.{length, rules}
use Rattle.std.proofs.lemmas.Bool.{false≢true, true≢false}
use Rattle.std.specs.Bool.{beq}
use Rattle.std.specs.Prelude.{option_to_list, option_and_then, unwrap_or, is_some, ◌==◌, not, IfOk, IsErrOf, MatchResult}
use Rattle.clap.specs.Words.{Row, all_of, first_of}
use Rattle.plai_words.specs.declared.types.DomainName.{DomainName}
use Rattle.plai_words.specs.declared.types.DomainName.TheVariants.{Ground}
use Rattle.plai_words.specs.declared.types.Settings.{Settings}
use Rattle.plai_words.specs.Options.{Key, Domain, Depth, Rows, Make}
use Rattle.plai_words.specs.Numbers.{number}
use Rattle.plai_words.specs.Given.{Given, domain_named}
use Rattle.plai_words.specs.Command.{is_nil, completed}
use Rattle.plai_words.specs.Line.{name_of, files_id}
use Rattle.plai_words.specs.Taken.{given_by, noted, read_once, settings_in}

abbrev pub set : Option DomainName → Option ℕ → Option ℕ → Option ℕ → List (List ℕ) → Settings
set d p r m fs = record {
  domain = unwrap_or d Ground;
  depth = unwrap_or p 3;
  rows = unwrap_or r 20000;
  make = m;
  files = fs;
}

pub chosen_is : (d : Option DomainName) (p r m : Option ℕ) (fs : List (List ℕ)) → is_some m ≡ is_nil fs
    → completed (noted d p r m fs) ≡ Some (set d p r m fs)
unfolding completed
chosen_is d p r None [] e = absurd (false≢true e)
chosen_is None None None None (f ∷ fs) e = refl
chosen_is None None (Some r) None (f ∷ fs) e = refl
chosen_is None (Some p) None None (f ∷ fs) e = refl
chosen_is None (Some p) (Some r) None (f ∷ fs) e = refl
chosen_is (Some d) None None None (f ∷ fs) e = refl
chosen_is (Some d) None (Some r) None (f ∷ fs) e = refl
chosen_is (Some d) (Some p) None None (f ∷ fs) e = refl
chosen_is (Some d) (Some p) (Some r) None (f ∷ fs) e = refl
chosen_is None None None (Some m) [] e = refl
chosen_is None None (Some r) (Some m) [] e = refl
chosen_is None (Some p) None (Some m) [] e = refl
chosen_is None (Some p) (Some r) (Some m) [] e = refl
chosen_is (Some d) None None (Some m) [] e = refl
chosen_is (Some d) None (Some r) (Some m) [] e = refl
chosen_is (Some d) (Some p) None (Some m) [] e = refl
chosen_is (Some d) (Some p) (Some r) (Some m) [] e = refl
chosen_is d p r (Some m) (f ∷ fs) e = absurd (true≢false e)

pub nothing_chosen : (d : Option DomainName) (p r m : Option ℕ) (fs : List (List ℕ)) → is_some m ≢ is_nil fs
    → completed (noted d p r m fs) ≡ None
unfolding completed
nothing_chosen None None None None [] e = refl
nothing_chosen None None (Some r) None [] e = refl
nothing_chosen None (Some p) None None [] e = refl
nothing_chosen None (Some p) (Some r) None [] e = refl
nothing_chosen (Some d) None None None [] e = refl
nothing_chosen (Some d) None (Some r) None [] e = refl
nothing_chosen (Some d) (Some p) None None [] e = refl
nothing_chosen (Some d) (Some p) (Some r) None [] e = refl
nothing_chosen None None None (Some m) (f ∷ fs) e = refl
nothing_chosen None None (Some r) (Some m) (f ∷ fs) e = refl
nothing_chosen None (Some p) None (Some m) (f ∷ fs) e = refl
nothing_chosen None (Some p) (Some r) (Some m) (f ∷ fs) e = refl
nothing_chosen (Some d) None None (Some m) (f ∷ fs) e = refl
nothing_chosen (Some d) None (Some r) (Some m) (f ∷ fs) e = refl
nothing_chosen (Some d) (Some p) None (Some m) (f ∷ fs) e = refl
nothing_chosen (Some d) (Some p) (Some r) (Some m) (f ∷ fs) e = refl
nothing_chosen d p r None (f ∷ fs) e = absurd (e refl)
nothing_chosen d p r (Some m) [] e = absurd (e refl)

nil_test : (fs : List (List ℕ)) → (length fs == 0) ≡ is_nil fs
nil_test [] = refl
nil_test (f ∷ fs) = search rules

same : (a b : Bool) → not (beq a b) ≡ false → a ≡ b
same true true h = refl
same true false h = absurd (true≢false h)
same false true h = absurd (true≢false h)
same false false h = refl

unlike : (a b : Bool) → not (beq a b) ≡ true → a ≢ b
unlike true true h e = false≢true h
unlike true false h e = true≢false e
unlike false true h e = false≢true e
unlike false false h e = false≢true h

pub agree : (m : Option ℕ) (fs : List (List ℕ)) (a b : Bool) → a ≡ is_some m → b ≡ (length fs == 0)
    → not (beq a b) ≡ false → is_some m ≡ is_nil fs
agree m fs a b p q h = sym p ∙ same a b h ∙ q ∙ nil_test fs

pub differ : (m : Option ℕ) (fs : List (List ℕ)) (a b : Bool) → a ≡ is_some m → b ≡ (length fs == 0)
    → not (beq a b) ≡ true → is_some m ≢ is_nil fs
differ m fs a b p q h e = unlike a b h (p ∙ e ∙ sym (nil_test fs) ∙ sym q)

none_second : (d : Option (List DomainName)) (r m : Option (List ℕ)) (fs : List (List ℕ)) → given_by d None r m fs ≡ None
none_second None r m fs = refl
none_second (Some d) r m fs = refl

none_third : (d : Option (List DomainName)) (p m : Option (List ℕ)) (fs : List (List ℕ)) → given_by d p None m fs ≡ None
none_third None p m fs = refl
none_third (Some d) None m fs = refl
none_third (Some d) (Some p) m fs = refl

none_fourth : (d : Option (List DomainName)) (p r : Option (List ℕ)) (fs : List (List ℕ)) → given_by d p r None fs ≡ None
none_fourth None p r fs = refl
none_fourth (Some d) None r fs = refl
none_fourth (Some d) (Some p) None fs = refl
none_fourth (Some d) (Some p) (Some r) fs = refl

abbrev finish : Option Given → Option Settings
finish = option_and_then completed

module _ (rows : List Row) where
  abbrev domain_part : Option (List DomainName)
  domain_part = read_once domain_named (first_of (name_of Domain) rows)

  abbrev part : ℕ → Key → Option (List ℕ)
  part most key = read_once (number most) (first_of (name_of key) rows)

  abbrev files_part : List (List ℕ)
  files_part = unwrap_or (all_of files_id rows) []

  abbrev whole : Option (List DomainName) → Option (List ℕ) → Option (List ℕ) → Option (List ℕ) → List (List ℕ) → Option Settings
  whole d p r m fs = finish (given_by d p r m fs)

  pub no_domain : domain_part ≡ None → settings_in rows ≡ None
  unfolding settings_in
  no_domain e = ap (λ d. whole d (part 8 Depth) (part 200000 Rows) (part 2000 Make) files_part) e

  pub no_depth : part 8 Depth ≡ None → settings_in rows ≡ None
  unfolding settings_in
  no_depth e = ap (λ p. whole domain_part p (part 200000 Rows) (part 2000 Make) files_part) e
      ∙ ap finish (none_second domain_part (part 200000 Rows) (part 2000 Make) files_part)

  pub no_rows : part 200000 Rows ≡ None → settings_in rows ≡ None
  unfolding settings_in
  no_rows e = ap (λ r. whole domain_part (part 8 Depth) r (part 2000 Make) files_part) e
      ∙ ap finish (none_third domain_part (part 8 Depth) (part 2000 Make) files_part)

  pub no_make : part 2000 Make ≡ None → settings_in rows ≡ None
  unfolding settings_in
  no_make e = ap (λ m. whole domain_part (part 8 Depth) (part 200000 Rows) m files_part) e
      ∙ ap finish (none_fourth domain_part (part 8 Depth) (part 200000 Rows) files_part)

  pub settled : (d : Option DomainName) (p r m : Option ℕ) (fs : List (List ℕ))
      → domain_part ≡ Some (option_to_list d) → part 8 Depth ≡ Some (option_to_list p)
      → part 200000 Rows ≡ Some (option_to_list r) → part 2000 Make ≡ Some (option_to_list m) → fs ≡ files_part
      → settings_in rows ≡ completed (noted d p r m fs)
  unfolding settings_in
  settled d p r m fs a b c e f =
      ap (λ x. whole x (part 8 Depth) (part 200000 Rows) (part 2000 Make) files_part) a
      ∙ ap (λ x. whole (Some (option_to_list d)) x (part 200000 Rows) (part 2000 Make) files_part) b
      ∙ ap (λ x. whole (Some (option_to_list d)) (Some (option_to_list p)) x (part 2000 Make) files_part) c
      ∙ ap (λ x. whole (Some (option_to_list d)) (Some (option_to_list p)) (Some (option_to_list r)) x files_part) e
      ∙ ap (λ x. completed (noted d p r m x)) (sym f)

-- both outcomes, by another way to the same settings
pub on_match : {T E : Type 0} {refused : E} {a b : Option T} → a ≡ b → (r : Result T E)
    → MatchResult r (λ s. b ≡ Some s) (λ e. (e ≡ refused) × (b ≡ None))
    → IfOk r (λ s. a ≡ Some s) × (IsErrOf r refused → a ≡ None)
on_match e (Ok s) h = (e ∙ h, λ n. cc)
on_match e (Err x) h = (tt, λ _. e ∙ h.1)

pub by_same_ok : {T E : Type 0} {a b : Option T} → a ≡ b → (r : Result T E) → IfOk r (λ s. b ≡ Some s) → IfOk r (λ s. a ≡ Some s)
by_same_ok e (Ok s) h = e ∙ h
by_same_ok e (Err x) h = tt

-- the depth is 3 where none is given
pub three_or_given : (depth : Option ℕ) → IfSome depth (λ n. (1 ≤ n) × (n ≤ 8)) → (1 ≤ unwrap_or depth 3) × (unwrap_or depth 3 ≤ 8)
three_or_given None within = (omega arith, omega arith)
three_or_given (Some n) within = within
