-- What clap's rules and our definitions say of the four options, and of texts that name none.
use Rattle.std.proofs.Common.{◌≡◌, ◌⊎◌, ℕ, ◌+◌, List, [], ◌∷◌, ◌++◌, Bool, None, Some, true, false, refl, ap, sym, ◌∙◌, subst, inl, inr, length, take, drop}
use Rattle.std.proofs.Common.{suc, arith}
use Rattle.std.specs.Prelude.{◌==◌, ◌&&◌, not, nat_eq, nat_lt}
use Rattle.std.specs.List.{starts_with, before_first, prefix_len}
use Rattle.std.specs.Str.{bytes_eq}
use Rattle.std.proofs.lemmas.Slice.Eq.{bytes_eq-Decides}
use Rattle.std.proofs.lemmas.Bool.{true≢false}
use borrow.Author.Tests.{eqb-true}
use Rattle.clap.specs.Walk.{Rule, Text, arg_by_id, arg_by_long}
use Rattle.plai_words.specs.Options.{Key, Domain, Depth, Rows, Make, attached, behind, is_dashed, is_option, named}
use Rattle.plai_words.specs.Line.{name_of}
use Rattle.plai_words.proofs.Joins.{Slot, option, files}
use Rattle.plai_words.proofs.Rows.{gatherer, id_of, rule_at, taker}

abbrev pub all_rules : List Rule
all_rules = taker (name_of Domain) ∷ taker (name_of Depth) ∷ taker (name_of Rows) ∷ taker (name_of Make) ∷ gatherer ∷ []

abbrev pub dashes : Text
dashes = 45 ∷ 45 ∷ []

-- ---- numbers and texts

pub flip : (a b : ℕ) → (a == b) ≡ false → (b == a) ≡ false
flip a b h = go (b == a) refl
  where
    go : (t : Bool) → (b == a) ≡ t → (b == a) ≡ false
    go false e = e
    go true e =
        let same : b ≡ a = eqb-true b a e in
        let here : (a == a) ≡ true = subst (λ (x : ℕ). (x == a) ≡ true) same e in
        let no : (a == a) ≡ false = subst (λ (x : ℕ). (a == x) ≡ false) same h in
        absurd (true≢false (sym here ∙ no))

pub both_true : (a b : Bool) → (a && b) ≡ true → (a ≡ true) × (b ≡ true)
both_true true b h = (refl, h)
both_true false b h = absurd (true≢false (sym h))

pub option_dashed : (w : Text) → is_option w ≡ true → is_dashed w ≡ true
unfolding is_option
option_dashed w h = (both_true (is_dashed w) (nat_lt 1 (length w)) h).0

pub starts_split : (n t : Text) → starts_with nat_eq t n ≡ true → t ≡ n ++ drop (length n) t
starts_split [] t h = refl
starts_split (a ∷ n) [] h = cc
starts_split (a ∷ n) (b ∷ t) h =
    let parts = both_true (a == b) (starts_with nat_eq t n) h in
    let same : b ≡ a = sym (eqb-true a b parts.0) in
    ap (λ (x : ℕ). x ∷ t) same ∙ ap (λ (x : Text). a ∷ x) (starts_split n t parts.1)

abbrev pub is_equals : ℕ → Bool
is_equals x = x == 61

-- what stands before the first `=` is all of it, or a part
split : (t : Text) → (before_first is_equals t ≡ t) ⊎ ((v : Text) × (t ≡ before_first is_equals t ++ 61 ∷ v))
split [] = inl refl
split (x ∷ xs) = go (is_equals x) refl (split xs)
  where
    len : ℕ
    len = prefix_len (λ (y : ℕ). not (is_equals y)) xs

    longer : 1 + prefix_len (λ (y : ℕ). not (is_equals y)) xs ≡ suc (prefix_len (λ (y : ℕ). not (is_equals y)) xs)
    longer = omega arith

    go : (b : Bool) → is_equals x ≡ b → (before_first is_equals xs ≡ xs) ⊎ ((v : Text) × (xs ≡ before_first is_equals xs ++ 61 ∷ v))
        → (before_first is_equals (x ∷ xs) ≡ x ∷ xs) ⊎ ((v : Text) × (x ∷ xs ≡ before_first is_equals (x ∷ xs) ++ 61 ∷ v))
    go true e before =
        let same : x ≡ 61 = eqb-true x 61 e in
        let none : before_first is_equals (x ∷ xs) ≡ [] = rw e refl in
        inr (xs, ap (λ (y : ℕ). y ∷ xs) same ∙ ap (λ (y : Text). y ++ 61 ∷ xs) (sym none))
    go false e before =
        let more : before_first is_equals (x ∷ xs) ≡ x ∷ before_first is_equals xs = rw e (ap (λ (k : ℕ). take k (x ∷ xs)) longer) in
        elim before [
          | inl whole ↦ inl (more ∙ ap (λ (y : Text). x ∷ y) whole)
          | inr part ↦ inr (part.0, ap (λ (y : Text). x ∷ y) part.1 ∙ ap (λ (y : Text). y ++ 61 ∷ part.0) (sym more))
        ]

-- ---- the four options

pub by_id : (s : Slot) → arg_by_id all_rules (id_of s) ≡ Some (rule_at s)
by_id (option Domain) = refl
by_id (option Depth) = refl
by_id (option Rows) = refl
by_id (option Make) = refl
by_id files = refl

pub by_long : (key : Key) → arg_by_long all_rules (name_of key) ≡ Some (taker (name_of key))
by_long Domain = refl
by_long Depth = refl
by_long Rows = refl
by_long Make = refl

pub arg_none : (name : Text) → ((key : Key) → bytes_eq (name_of key) name ≡ false) → arg_by_long all_rules name ≡ None
arg_none name h = rw (h Domain, h Depth, h Rows, h Make) refl

pub named_none : (t : Text) → ((key : Key) → bytes_eq t (name_of key) ≡ false) → named (45 ∷ 45 ∷ t) ≡ None
unfolding named
named_none t h = rw (h Domain, h Depth, h Rows, h Make) refl

pub attached_none : (t : Text) → ((key : Key) → starts_with nat_eq t (name_of key ++ 61 ∷ []) ≡ false) → attached (45 ∷ 45 ∷ t) ≡ None
unfolding attached behind
attached_none t h = rw (h Domain, h Depth, h Rows, h Make) refl

-- one of the options passes a test, or none does
pub some_key : (test : Key → Bool) → ((key : Key) × (test key ≡ true)) ⊎ ((key : Key) → test key ≡ false)
some_key test = go (test Domain) (test Depth) (test Rows) (test Make) refl refl refl refl
  where
    none : test Domain ≡ false → test Depth ≡ false → test Rows ≡ false → test Make ≡ false → (key : Key) → test key ≡ false
    none p q r s Domain = p
    none p q r s Depth = q
    none p q r s Rows = r
    none p q r s Make = s

    go : (a b c d : Bool) → test Domain ≡ a → test Depth ≡ b → test Rows ≡ c → test Make ≡ d
        → ((key : Key) × (test key ≡ true)) ⊎ ((key : Key) → test key ≡ false)
    go true b c d p q r s = inl (Domain, p)
    go false true c d p q r s = inl (Depth, q)
    go false false true d p q r s = inl (Rows, r)
    go false false false true p q r s = inl (Make, s)
    go false false false false p q r s = inr (none p q r s)

value_starts : (key : Key) (v : Text) → starts_with nat_eq (name_of key ++ 61 ∷ v) (name_of key ++ 61 ∷ []) ≡ true
value_starts Domain v = refl
value_starts Depth v = refl
value_starts Rows v = refl
value_starts Make v = refl

pub joined_value : (key : Key) (v : Text) → (name_of key ++ 61 ∷ []) ++ v ≡ name_of key ++ 61 ∷ v
joined_value Domain v = refl
joined_value Depth v = refl
joined_value Rows v = refl
joined_value Make v = refl

pub no_long : (t : Text) (key : Key) → bytes_eq t (name_of key) ≡ false → starts_with nat_eq t (name_of key ++ 61 ∷ []) ≡ false
    → bytes_eq (name_of key) (before_first is_equals t) ≡ false
no_long t key n s = go (bytes_eq (name_of key) (before_first is_equals t)) refl
  where
    bad : name_of key ≡ before_first is_equals t → ⊥
    bad e = elim (split t) [
      | inl whole ↦ true≢false (sym ((bytes_eq-Decides t (name_of key)).1 (sym whole ∙ sym e)) ∙ n)
      | inr part ↦
          let is : t ≡ name_of key ++ 61 ∷ part.0 = part.1 ∙ ap (λ (y : Text). y ++ 61 ∷ part.0) (sym e) in
          let starts : starts_with nat_eq t (name_of key ++ 61 ∷ []) ≡ true =
          subst (λ (x : Text). starts_with nat_eq x (name_of key ++ 61 ∷ []) ≡ true) (sym is) (value_starts key part.0) in
          true≢false (sym starts ∙ s)
    ]

    go : (b : Bool) → bytes_eq (name_of key) (before_first is_equals t) ≡ b → bytes_eq (name_of key) (before_first is_equals t) ≡ false
    go false e = e
    go true e = absurd (bad ((bytes_eq-Decides (name_of key) (before_first is_equals t)).0 e))
