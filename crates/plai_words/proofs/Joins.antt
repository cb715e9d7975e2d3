-- What the parts of the words say together.
use Rattle.std.proofs.Common.{◌≡◌, ℕ, List, [], ◌∷◌, ◌++◌, Bool, Option, None, Some, true, false, refl, ap, sym, ◌∙◌, append_assoc, append-nil}
use Rattle.std.specs.Prelude.{◌&&◌, option_and_then, option_map}
use Rattle.plai_words.specs.declared.types.DomainName.{DomainName}
use Rattle.plai_words.specs.declared.types.Settings.{Settings}
use Rattle.plai_words.specs.Given.{Given, nothing, joined, both, said, file, domain_named}
use Rattle.plai_words.specs.Numbers.{number}
use Rattle.plai_words.specs.Options.{Key, Domain, Depth, Rows, Make}
use Rattle.plai_words.specs.Command.{at_most_one, is_once, completed}
use Rattle.plai_words.specs.Taken.{Taken, given_by, read_once, taken_given}

abbrev pub finish : Option Given → Option Settings
finish = option_and_then completed

-- no settings come of this, whatever follows
abbrev pub IsNever : Option Given → Type 0
IsNever g = (more : Option Given) → finish (both g more) ≡ None

joined_assoc : (a b c : Given) → joined (joined a b) c ≡ joined a (joined b c)
joined_assoc a b c =
    rw (
      append_assoc a.domains b.domains c.domains,
      append_assoc a.depths b.depths c.depths,
      append_assoc a.rows b.rows c.rows,
      append_assoc a.makes b.makes c.makes,
      append_assoc a.files b.files c.files,
    ) refl

pub both_assoc : (a b c : Option Given) → both (both a b) c ≡ both a (both b c)
both_assoc None b c = refl
both_assoc (Some a) None c = refl
both_assoc (Some a) (Some b) None = refl
both_assoc (Some a) (Some b) (Some c) = ap Some (joined_assoc a b c)

nothing_behind : (g : Given) → joined g nothing ≡ g
nothing_behind g =
    rw (append-nil g.domains, append-nil g.depths, append-nil g.rows, append-nil g.makes, append-nil g.files) refl

pub nothing_more : (g : Option Given) → both g (Some nothing) ≡ g
nothing_more None = refl
nothing_more (Some g) = ap Some (nothing_behind g)

pub nothing_before : (g : Option Given) → both (Some nothing) g ≡ g
nothing_before None = refl
nothing_before (Some g) = refl

pub none_more : (g : Option Given) → both g None ≡ None
none_more None = refl
none_more (Some g) = refl

-- ---- a value joins the texts that were taken

abbrev pub put : Key → List ℕ → (Key → Option (List ℕ)) → Key → Option (List ℕ)
put Domain v f Domain = Some v
put Domain v f Depth = f Depth
put Domain v f Rows = f Rows
put Domain v f Make = f Make
put Depth v f Domain = f Domain
put Depth v f Depth = Some v
put Depth v f Rows = f Rows
put Depth v f Make = f Make
put Rows v f Domain = f Domain
put Rows v f Depth = f Depth
put Rows v f Rows = Some v
put Rows v f Make = f Make
put Make v f Domain = f Domain
put Make v f Depth = f Depth
put Make v f Rows = f Rows
put Make v f Make = Some v

-- what clap takes a value for
pub data Slot : Type 0 where
  option : Key → Slot
  files : Slot

abbrev pub slot_said : Slot → List ℕ → Option Given
slot_said (option key) v = said key v
slot_said files v = Some (file v)

abbrev pub add : Slot → List ℕ → Taken → Taken
add (option key) v t = record { values = put key v t.values; files = t.files }
add files v t = record { values = t.values; files = t.files ++ v ∷ [] }

module _ (fs : List (List ℕ)) where
  one_domain : (x : Option DomainName) (p r m : Option (List ℕ))
      → given_by (option_map (λ (d : DomainName). d ∷ []) x) p r m fs
      ≡ both (given_by (Some []) p r m fs) (option_map (λ (d : DomainName). record nothing { domains = d ∷ [] }) x)
  one_domain None None r m = refl
  one_domain None (Some p) None m = refl
  one_domain None (Some p) (Some r) None = refl
  one_domain None (Some p) (Some r) (Some m) = refl
  one_domain (Some d) None r m = refl
  one_domain (Some d) (Some p) None m = refl
  one_domain (Some d) (Some p) (Some r) None = refl
  one_domain (Some d) (Some p) (Some r) (Some m) = rw (append-nil p, append-nil r, append-nil m, append-nil fs) refl

  one_depth : (d : Option (List DomainName)) (x : Option ℕ) (r m : Option (List ℕ))
      → given_by d (option_map (λ (n : ℕ). n ∷ []) x) r m fs
      ≡ both (given_by d (Some []) r m fs) (option_map (λ (n : ℕ). record nothing { depths = n ∷ [] }) x)
  one_depth None x r m = refl
  one_depth (Some d) None None m = refl
  one_depth (Some d) None (Some r) None = refl
  one_depth (Some d) None (Some r) (Some m) = refl
  one_depth (Some d) (Some n) None m = refl
  one_depth (Some d) (Some n) (Some r) None = refl
  one_depth (Some d) (Some n) (Some r) (Some m) = rw (append-nil d, append-nil r, append-nil m, append-nil fs) refl

  one_rows : (d : Option (List DomainName)) (p : Option (List ℕ)) (x : Option ℕ) (m : Option (List ℕ))
      → given_by d p (option_map (λ (n : ℕ). n ∷ []) x) m fs
      ≡ both (given_by d p (Some []) m fs) (option_map (λ (n : ℕ). record nothing { rows = n ∷ [] }) x)
  one_rows None p x m = refl
  one_rows (Some d) None x m = refl
  one_rows (Some d) (Some p) None None = refl
  one_rows (Some d) (Some p) None (Some m) = refl
  one_rows (Some d) (Some p) (Some n) None = refl
  one_rows (Some d) (Some p) (Some n) (Some m) = rw (append-nil d, append-nil p, append-nil m, append-nil fs) refl

  one_make : (d : Option (List DomainName)) (p r : Option (List ℕ)) (x : Option ℕ)
      → given_by d p r (option_map (λ (n : ℕ). n ∷ []) x) fs
      ≡ both (given_by d p r (Some []) fs) (option_map (λ (n : ℕ). record nothing { makes = n ∷ [] }) x)
  one_make None p r x = refl
  one_make (Some d) None r x = refl
  one_make (Some d) (Some p) None x = refl
  one_make (Some d) (Some p) (Some r) None = refl
  one_make (Some d) (Some p) (Some r) (Some n) = rw (append-nil d, append-nil p, append-nil r, append-nil fs) refl

one_file : (d : Option (List DomainName)) (p r m : Option (List ℕ)) (fs : List (List ℕ)) (v : List ℕ)
    → given_by d p r m (fs ++ v ∷ []) ≡ both (given_by d p r m fs) (Some (file v))
one_file None p r m fs v = refl
one_file (Some d) None r m fs v = refl
one_file (Some d) (Some p) None m fs v = refl
one_file (Some d) (Some p) (Some r) None fs v = refl
one_file (Some d) (Some p) (Some r) (Some m) fs v = rw (append-nil d, append-nil p, append-nil r, append-nil m) refl

abbrev domain_part : Taken → Option (List DomainName)
domain_part t = read_once domain_named (t.values Domain)

abbrev part : ℕ → Key → Taken → Option (List ℕ)
part most key t = read_once (number most) (t.values key)

-- a first value of an option
pub added_option : (key : Key) (v : List ℕ) (t : Taken) → t.values key ≡ None
    → taken_given (add (option key) v t) ≡ both (taken_given t) (said key v)
added_option Domain v t free =
    one_domain t.files (domain_named v) (part 8 Depth t) (part 200000 Rows t) (part 2000 Make t)
    ∙ ap (λ o. both (given_by (read_once domain_named o) (part 8 Depth t) (part 200000 Rows t) (part 2000 Make t) t.files) (said Domain v)) (sym free)
added_option Depth v t free =
    one_depth t.files (domain_part t) (number 8 v) (part 200000 Rows t) (part 2000 Make t)
    ∙ ap (λ o. both (given_by (domain_part t) (read_once (number 8) o) (part 200000 Rows t) (part 2000 Make t) t.files) (said Depth v)) (sym free)
added_option Rows v t free =
    one_rows t.files (domain_part t) (part 8 Depth t) (number 200000 v) (part 2000 Make t)
    ∙ ap (λ o. both (given_by (domain_part t) (part 8 Depth t) (read_once (number 200000) o) (part 2000 Make t) t.files) (said Rows v)) (sym free)
added_option Make v t free =
    one_make t.files (domain_part t) (part 8 Depth t) (part 200000 Rows t) (number 2000 v)
    ∙ ap (λ o. both (given_by (domain_part t) (part 8 Depth t) (part 200000 Rows t) (read_once (number 2000) o) t.files) (said Make v)) (sym free)

-- one more file
pub added_file : (v : List ℕ) (t : Taken) → taken_given (add files v t) ≡ both (taken_given t) (Some (file v))
added_file v t = one_file (domain_part t) (part 8 Depth t) (part 200000 Rows t) (part 2000 Make t) t.files v

-- ---- a second value of an option

cut_second : (a c d : Bool) → (a && false && c && d) ≡ false
cut_second true c d = refl
cut_second false c d = refl

cut_third : (a b d : Bool) → (a && b && false && d) ≡ false
cut_third true true d = refl
cut_third true false d = refl
cut_third false b d = refl

cut_fourth : (a b c : Bool) → (a && b && c && false) ≡ false
cut_fourth true true true = refl
cut_fourth true true false = refl
cut_fourth true false c = refl
cut_fourth false b c = refl

repeated : (g : Given) → is_once g ≡ false → completed g ≡ None
unfolding completed
repeated g h = rw h refl

repeated_depth : (g : Given) → at_most_one g.depths ≡ false → is_once g ≡ false
repeated_depth g h = rw h (cut_second (at_most_one g.domains) (at_most_one g.rows) (at_most_one g.makes))

repeated_rows : (g : Given) → at_most_one g.rows ≡ false → is_once g ≡ false
repeated_rows g h = rw h (cut_third (at_most_one g.domains) (at_most_one g.depths) (at_most_one g.makes))

repeated_make : (g : Given) → at_most_one g.makes ≡ false → is_once g ≡ false
repeated_make g h = rw h (cut_fourth (at_most_one g.domains) (at_most_one g.depths) (at_most_one g.rows))

never_first : {x : Option Given} → x ≡ None → (y : Option Given) → IsNever (both x y)
never_first e y more = ap (λ o. finish (both (both o y) more)) e

never_second : (x : Option Given) → IsNever (both x None)
never_second None more = refl
never_second (Some x) more = refl

module _ (fs : List (List ℕ)) where
  two_domains : (y x : Option DomainName) (p r m : Option (List ℕ))
      → IsNever (both (given_by (option_map (λ (d : DomainName). d ∷ []) y) p r m fs) (option_map (λ (d : DomainName). record nothing { domains = d ∷ [] }) x))
  two_domains y None p r m = never_second (given_by (option_map (λ (d : DomainName). d ∷ []) y) p r m fs)
  two_domains None (Some d) p r m = λ more. refl
  two_domains (Some e) (Some d) None r m = λ more. refl
  two_domains (Some e) (Some d) (Some p) None m = λ more. refl
  two_domains (Some e) (Some d) (Some p) (Some r) None = λ more. refl
  two_domains (Some e) (Some d) (Some p) (Some r) (Some m) = all
    where
      all : IsNever (both (Some (record { domains = e ∷ []; depths = p; rows = r; makes = m; files = fs })) (Some (record nothing { domains = d ∷ [] })))
      all None = refl
      all (Some g) = repeated (joined (joined (record { domains = e ∷ []; depths = p; rows = r; makes = m; files = fs })
          (record nothing { domains = d ∷ [] })) g) refl

  two_depths : (d : Option (List DomainName)) (y x : Option ℕ) (r m : Option (List ℕ))
      → IsNever (both (given_by d (option_map (λ (n : ℕ). n ∷ []) y) r m fs) (option_map (λ (n : ℕ). record nothing { depths = n ∷ [] }) x))
  two_depths d y None r m = never_second (given_by d (option_map (λ (n : ℕ). n ∷ []) y) r m fs)
  two_depths None y (Some n) r m = λ more. refl
  two_depths (Some d) None (Some n) r m = λ more. refl
  two_depths (Some d) (Some k) (Some n) None m = λ more. refl
  two_depths (Some d) (Some k) (Some n) (Some r) None = λ more. refl
  two_depths (Some d) (Some k) (Some n) (Some r) (Some m) = all
    where
      all : IsNever (both (Some (record { domains = d; depths = k ∷ []; rows = r; makes = m; files = fs })) (Some (record nothing { depths = n ∷ [] })))
      all None = refl
      all (Some g) =
          let whole : Given = joined (joined (record { domains = d; depths = k ∷ []; rows = r; makes = m; files = fs })
          (record nothing { depths = n ∷ [] })) g in
          repeated whole (repeated_depth whole refl)

  two_rows : (d : Option (List DomainName)) (p : Option (List ℕ)) (y x : Option ℕ) (m : Option (List ℕ))
      → IsNever (both (given_by d p (option_map (λ (n : ℕ). n ∷ []) y) m fs) (option_map (λ (n : ℕ). record nothing { rows = n ∷ [] }) x))
  two_rows d p y None m = never_second (given_by d p (option_map (λ (n : ℕ). n ∷ []) y) m fs)
  two_rows None p y (Some n) m = λ more. refl
  two_rows (Some d) None y (Some n) m = λ more. refl
  two_rows (Some d) (Some p) None (Some n) m = λ more. refl
  two_rows (Some d) (Some p) (Some k) (Some n) None = λ more. refl
  two_rows (Some d) (Some p) (Some k) (Some n) (Some m) = all
    where
      all : IsNever (both (Some (record { domains = d; depths = p; rows = k ∷ []; makes = m; files = fs })) (Some (record nothing { rows = n ∷ [] })))
      all None = refl
      all (Some g) =
          let whole : Given = joined (joined (record { domains = d; depths = p; rows = k ∷ []; makes = m; files = fs }) (record nothing { rows = n ∷ [] })) g in
          repeated whole (repeated_rows whole refl)

  two_makes : (d : Option (List DomainName)) (p r : Option (List ℕ)) (y x : Option ℕ)
      → IsNever (both (given_by d p r (option_map (λ (n : ℕ). n ∷ []) y) fs) (option_map (λ (n : ℕ). record nothing { makes = n ∷ [] }) x))
  two_makes d p r y None = never_second (given_by d p r (option_map (λ (n : ℕ). n ∷ []) y) fs)
  two_makes None p r y (Some n) = λ more. refl
  two_makes (Some d) None r y (Some n) = λ more. refl
  two_makes (Some d) (Some p) None y (Some n) = λ more. refl
  two_makes (Some d) (Some p) (Some r) None (Some n) = λ more. refl
  two_makes (Some d) (Some p) (Some r) (Some k) (Some n) = all
    where
      all : IsNever (both (Some (record { domains = d; depths = p; rows = r; makes = k ∷ []; files = fs })) (Some (record nothing { makes = n ∷ [] })))
      all None = refl
      all (Some g) =
          let whole : Given = joined (joined (record { domains = d; depths = p; rows = r; makes = k ∷ []; files = fs })
          (record nothing { makes = n ∷ [] })) g in
          repeated whole (repeated_make whole refl)

pub twice : (key : Key) (v u : List ℕ) (t : Taken) → t.values key ≡ Some u → IsNever (both (taken_given t) (said key v))
twice Domain v u t e more =
    ap (λ o. finish (both (both (given_by (read_once domain_named o) (part 8 Depth t) (part 200000 Rows t) (part 2000 Make t) t.files) (said Domain v)) more)) e
    ∙ two_domains t.files (domain_named u) (domain_named v) (part 8 Depth t) (part 200000 Rows t) (part 2000 Make t) more
twice Depth v u t e more =
    ap (λ o. finish (both (both (given_by (domain_part t) (read_once (number 8) o) (part 200000 Rows t) (part 2000 Make t) t.files) (said Depth v)) more)) e
    ∙ two_depths t.files (domain_part t) (number 8 u) (number 8 v) (part 200000 Rows t) (part 2000 Make t) more
twice Rows v u t e more =
    ap (λ o. finish (both (both (given_by (domain_part t) (part 8 Depth t) (read_once (number 200000) o) (part 2000 Make t) t.files) (said Rows v)) more)) e
    ∙ two_rows t.files (domain_part t) (part 8 Depth t) (number 200000 u) (number 200000 v) (part 2000 Make t) more
twice Make v u t e more =
    ap (λ o. finish (both (both (given_by (domain_part t) (part 8 Depth t) (part 200000 Rows t) (read_once (number 2000) o) t.files) (said Make v)) more)) e
    ∙ two_makes t.files (domain_part t) (part 8 Depth t) (part 200000 Rows t) (number 2000 u) (number 2000 v) more
