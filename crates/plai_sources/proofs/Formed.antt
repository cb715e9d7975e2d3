-- What terms say is well formed.
use Rattle.std.proofs.Common.{◌≡◌, ◌∙◌, ℕ, ◌+◌, ◌≤◌, ◌<◌, ◌⊎◌, inl, inr, Bool, true, false, cond, Option, Some, None, Result, Ok, Err, List, [], ◌∷◌, ◌++◌}
use Rattle.std.proofs.Common.{add-zero, refl, sym, ap, subst, arith, codes}
use Rattle.std.specs.Prelude.{option_map, ok_or, nat_lt, nat_eq, IfSome, IsOk}
use Rattle.std.specs.Cmp.Lexicographic.{pointwise}
use Rattle.std.proofs.lemmas.Bool.Decides.{nat_tests}
use Rattle.std.proofs.lemmas.List.Sums.{sum_by-append}
use Rattle.plai_theory.specs.Words.{IsIn}
use Rattle.plai_terms.specs.declared.term.Term.{Term, out-Term}
use Rattle.plai_terms.specs.declared.term.Term.TheOpen.{Term-F}
use Rattle.plai_terms.specs.declared.read_term.ReadTerm.{ReadTerm}
use Rattle.plai_terms.specs.Readable.{IsReadable}
use Rattle.plai_clauses.specs.declared.clause.Clause.{Clause}
use Rattle.plai_clauses.specs.declared.cause.ClauseCause.{ClauseCause}
use Rattle.plai_clauses.specs.ClauseOf.{clause_of}
use Rattle.plai_reader.specs.Operators.{Table}
use Rattle.plai_sources.specs.declared.cause.LoadCause.{LoadCause}
use Rattle.plai_sources.specs.declared.cause.LoadCause.TheVariants as cause
use Rattle.plai_sources.specs.declared.items.Header.{Header}
use Rattle.plai_sources.specs.declared.items.Item.{Item}
use Rattle.plai_sources.specs.declared.items.Item.TheVariants as item
use Rattle.plai_sources.specs.declared.items.NumberedItem.{NumberedItem}
use Rattle.plai_sources.specs.declared.reading.Reading.{Reading}
use Rattle.plai_sources.specs.Shapes.{one_argument}
use Rattle.plai_sources.specs.Keys.{keys_of}
use Rattle.plai_sources.specs.Properties.{entry_of, check_of}
use Rattle.plai_sources.specs.Operators.{operators_of}
use Rattle.plai_sources.specs.Directives.{Said, other_module, import, import_all, import_some, item_of_one, item_of_two, with_item, with_operators}
use Rattle.plai_sources.specs.Directives.{directive_at, directive_in, clause_from, said_from, said_by, header_of}
use Rattle.plai_sources.specs.Items.{most_items, is_counted, placed, with_item as with_placed, with_item_if, under, with_said, with_header, with_term_under}
use Rattle.plai_sources.specs.Items.{with_term}
use Rattle.plai_sources.specs.WellFormed.{IsWellFormedItem, AreWellFormedUnder, counted_items, IsGood}
use Rattle.plai_sources.proofs.FormedProperties.{mapped, chained, found, entry_of-formed, check_from-formed}

-- directives
module _ (own : List ℕ) where
  import_all-formed : (t : Term) (i : Item) → import_all own t ≡ Some i → IsWellFormedItem own i
  import_all-formed t i h =
      let (name, other, is) = mapped (import None) (other_module own t) i h in
      subst (IsWellFormedItem own) is tt

  import_some-formed : (t keys : Term) (i : Item) → import_some own t keys ≡ Some i → IsWellFormedItem own i
  import_some-formed t keys i h =
      let (name, other, rest) = chained (λ name. option_map (λ ks. import (Some ks) name) (keys_of keys)) (other_module own t) i h in
      let (ks, all, is) = mapped (λ ks. import (Some ks) name) (keys_of keys) i rest in
      subst (IsWellFormedItem own) is tt

  entry-item : (t : Term) (i : Item) → option_map item.Entry (entry_of t) ≡ Some i → IsWellFormedItem own i
  entry-item t i h = let (e, made, is) = mapped item.Entry (entry_of t) i h in subst (IsWellFormedItem own) is (entry_of-formed t e made)

  check-item : (t : Term) (i : Item) → option_map item.Check (check_of t) ≡ Some i → IsWellFormedItem own i
  check-item t i h =
      let (e, made, is) = mapped item.Check (check_of t) i h in
      subst (IsWellFormedItem own) is (check_from-formed (one_argument (codes "calls") t) (one_argument (codes "success") t) e made)

  one-formed : (name : List ℕ) (x : Term) (i : Item) → item_of_one own name x ≡ Ok i → IsWellFormedItem own i
  one-formed name x i h = cases (pointwise nat_eq name (codes "use_module")) (pointwise nat_eq name (codes "entry")) (pointwise nat_eq name (codes "check")) h
    where
      cases : (a b c : Bool)
          → cond a (ok_or (import_all own x) cause.BadDirective)
          (cond b (ok_or (option_map item.Entry (entry_of x)) cause.BadProperty)
          (cond c (ok_or (option_map item.Check (check_of x)) cause.BadProperty) (Err cause.BadDirective))) ≡ Ok i
          → IsWellFormedItem own i
      cases true b c h = import_all-formed x i (found (import_all own x) cause.BadDirective i h)
      cases false true c h = entry-item x i (found (option_map item.Entry (entry_of x)) cause.BadProperty i h)
      cases false false true h = check-item x i (found (option_map item.Check (check_of x)) cause.BadProperty i h)
      cases false false false h = absurd cc

  two-formed : (name : List ℕ) (x y : Term) (i : Item) → item_of_two own name x y ≡ Ok i → IsWellFormedItem own i
  two-formed name x y i h = cases (pointwise nat_eq name (codes "use_module")) h
    where
      cases : (a : Bool) → cond a (ok_or (import_some own x y) cause.BadDirective) (Err cause.BadDirective) ≡ Ok i → IsWellFormedItem own i
      cases true h = import_some-formed x y i (found (import_some own x y) cause.BadDirective i h)
      cases false h = absurd cc

  abbrev Speaks : Said → Type 0
  Speaks s = IfSome s.item (IsWellFormedItem own)

  with_item-formed : (table : Table) (r : Result Item LoadCause) (s : Said) → ((i : Item) → r ≡ Ok i → IsWellFormedItem own i)
      → with_item table r ≡ Ok s → Speaks s
  with_item-formed table (Err c) s f h = absurd cc
  with_item-formed table (Ok i) s f h =
      let made : Said = record { operators = table; item = Some i } in
      let is : made ≡ s = cc in
      subst Speaks is (f i refl)

  with_operators-formed : (o : Option Table) (s : Said) → with_operators o ≡ Ok s → Speaks s
  with_operators-formed None s h = absurd cc
  with_operators-formed (Some table) s h =
      let made : Said = record { operators = table; item = None } in
      let is : made ≡ s = cc in
      subst Speaks is tt

  op-formed : (b : Bool) (o : Option Table) (s : Said) → cond b (with_operators o) (Err cause.BadDirective) ≡ Ok s → Speaks s
  op-formed true o s h = with_operators-formed o s h
  op-formed false o s h = absurd cc

  directive_at-formed : (table : Table) (name : List ℕ) (args : List Term) (s : Said) → directive_at own table name args ≡ Ok s → Speaks s
  directive_at-formed table name [] s h = absurd cc
  directive_at-formed table name (x ∷ []) s h = with_item-formed table (item_of_one own name x) s (one-formed name x) h
  directive_at-formed table name (x ∷ y ∷ []) s h = with_item-formed table (item_of_two own name x y) s (two-formed name x y) h
  directive_at-formed table name (x ∷ y ∷ z ∷ []) s h = op-formed (pointwise nat_eq name (codes "op")) (operators_of table x y z) s h
  directive_at-formed table name (x ∷ y ∷ z ∷ w ∷ args) s h = absurd cc

  directive_in-formed : (table : Table) (y : Term-F Term) (s : Said) → directive_in own table y ≡ Ok s → Speaks s
  directive_in-formed table (Term-F.Var v) s h = absurd cc
  directive_in-formed table (Term-F.Int n) s h = absurd cc
  directive_in-formed table (Term-F.Atom a) s h = absurd cc
  directive_in-formed table (Term-F.Compound name args) s h = directive_at-formed table name args s h

  clause-formed : (read : ReadTerm) (r : Result Clause ClauseCause) (i : Item) → IsReadable read → r ≡ clause_of own [] read → clause_from read r ≡ Ok i
      → IsWellFormedItem own i
  clause-formed read (Err c) i readable e h = absurd cc
  clause-formed read (Ok c) i readable e h =
      let is : item.Clause read ≡ i = cc in
      subst (IsWellFormedItem own) is (record { readable = readable; says = subst IsOk e refl })

  said_from-formed : (table : Table) (read : ReadTerm) (directive query : Option Term) (s : Said) → IsReadable read
      → said_from own table read directive query ≡ Ok s → Speaks s
  said_from-formed table read (Some d) query s readable h = directive_in-formed table (out-Term d) s h
  said_from-formed table read None (Some q) s readable h = absurd cc
  said_from-formed table read None None s readable h =
      with_item-formed table (clause_from read (clause_of own [] read)) s (λ i e. clause-formed read (clause_of own [] read) i readable refl e) h

-- the items so far
in-push : {A : Type 0} (x y : A) (xs : List A) → IsIn x (xs ++ y ∷ []) → IsIn x xs ⊎ (y ≡ x)
in-push x y [] (inl e) = inr e
in-push x y [] (inr h) = absurd h
in-push x y (z ∷ xs) (inl e) = inl (inl e)
in-push x y (z ∷ xs) (inr h) = elim (in-push x y xs h) [ inl k ↦ inl (inr k) | inr e ↦ inr e ]

pushed : {A : Type 0} (P : A → Type 0) (xs : List A) (y : A) → ((x : A) → IsIn x xs → P x) → P y → (x : A) → IsIn x (xs ++ y ∷ []) → P x
pushed P xs y all one x h = elim (in-push x y xs h) [ inl k ↦ all x k | inr e ↦ subst P e one ]

counted_items-push : (items : List NumberedItem) (x : NumberedItem) → counted_items (items ++ x ∷ []) ≡ counted_items items + cond (is_counted x.item) 1 0
counted_items-push items x =
    let sums = sum_by-append (λ (y : NumberedItem). cond (is_counted y.item) 1 0) items (x ∷ []) in
    let last : counted_items (x ∷ []) ≡ 0 + cond {A = ℕ} (is_counted x.item) 1 0 = refl in
    omega arith

module _ (there : ℕ) where
  -- one more item
  placed-good : (r : Reading) (n : ℕ) (i : Item) (count : ℕ) (h : Header) → r.header ≡ Some h → IsWellFormedItem h.module i → IsGood there r
      → (there ≤ most_items → count ≤ most_items) → count ≡ r.count + cond (is_counted i) 1 0 → IsGood there (placed r n i count)
  placed-good r n i count h e one good few more =
      let before : (x : NumberedItem) → IsIn x r.items → IsWellFormedItem h.module x.item = subst (λ o. AreWellFormedUnder o r.items) e good.items in
      let new : NumberedItem = record { term = n; item = i } in
      record {
        items = subst (λ o. AreWellFormedUnder o (r.items ++ new ∷ [])) (sym e)
            (pushed (λ (x : NumberedItem). IsWellFormedItem h.module x.item) r.items new before one);
        count = let c = good.count in let p = counted_items-push r.items new in omega arith;
        few = few;
      }

  with_placed-good : (r s : Reading) (n : ℕ) (i : Item) (h : Header) → r.header ≡ Some h → IsWellFormedItem h.module i → IsGood there r
      → with_placed r n i ≡ Ok s → IsGood there s
  with_placed-good r s n i h e one good made = counted (is_counted i) (nat_lt r.count most_items) refl refl made
    where
      counted : (b c : Bool) → is_counted i ≡ b → nat_lt r.count most_items ≡ c
          → cond b (cond c (Ok (placed r n i (r.count + 1))) (Err cause.TooManyItems)) (Ok (placed r n i r.count)) ≡ Ok s → IsGood there s
      counted true true k t made =
          let room : r.count < most_items = grind (arith, nat_tests) in
          let is : placed r n i (r.count + 1) ≡ s = cc in
          let more : cond {A = ℕ} (is_counted i) 1 0 ≡ 1 = ap (λ x. cond x 1 0) k in
          subst (IsGood there) is (placed-good r n i (r.count + 1) h e one good (λ le. omega arith) (ap (λ m. r.count + m) (sym more)))
      counted true false k t made = absurd cc
      counted false c k t made =
          let is : placed r n i r.count ≡ s = cc in
          let more : cond {A = ℕ} (is_counted i) 1 0 ≡ 0 = ap (λ x. cond x 1 0) k in
          subst (IsGood there) is (placed-good r n i r.count h e one good good.few (sym (ap (λ m. r.count + m) more ∙ add-zero r.count)))

  item-good : (r s : Reading) (n : ℕ) (o : Option Item) (h : Header) → r.header ≡ Some h → IfSome o (IsWellFormedItem h.module) → IsGood there r
      → with_item_if r n o ≡ Ok s → IsGood there s
  item-good r s n None h e one good made = let is : r ≡ s = cc in subst (IsGood there) is good
  item-good r s n (Some i) h e one good made = with_placed-good r s n i h e one good made

  said-good : (r s : Reading) (n : ℕ) (said : Result Said LoadCause) (h : Header) → r.header ≡ Some h → ((x : Said) → said ≡ Ok x → Speaks h.module x)
      → IsGood there r → with_said r n said ≡ Ok s → IsGood there s
  said-good r s n (Err c) h e f good made = absurd cc
  said-good r s n (Ok x) h e f good made =
      let good' : IsGood there (under x.operators r) = record { items = good.items; count = good.count; few = good.few } in
      item-good (under x.operators r) s n x.item h e (f x refl) good' made

  header-good : (r s : Reading) (header : Result Header LoadCause) → r.header ≡ None → IsGood there r → with_header r header ≡ Ok s → IsGood there s
  header-good r s (Err c) e good made = absurd cc
  header-good r s (Ok h) e good made =
      let new : Reading = record { operators = r.operators; header = Some h; items = r.items; count = r.count } in
      let is : new ≡ s = cc in
      let empty : r.items ≡ [] = subst (λ o. AreWellFormedUnder o r.items) e good.items in
      let none : (x : NumberedItem) → IsIn x r.items → IsWellFormedItem h.module x.item =
      subst (λ (l : List NumberedItem). (x : NumberedItem) → IsIn x l → IsWellFormedItem h.module x.item) (sym empty) (λ x k. absurd k) in
      subst (IsGood there) is (record { items = none; count = good.count; few = good.few })

  term_under-good : (o : Option Header) (r s : Reading) (n : ℕ) (read : ReadTerm) → r.header ≡ o → IsReadable read → IsGood there r
      → with_term_under o r n read ≡ Ok s → IsGood there s
  term_under-good None r s n read e readable good made = header-good r s (ok_or (header_of read.term) cause.NoModule) e good made
  term_under-good (Some h) r s n read e readable good made =
      said-good r s n (said_by h.module r.operators read) h e
      (λ x k. said_from-formed h.module r.operators read (one_argument (codes ":-") read.term) (one_argument (codes "?-") read.term) x readable k) good made

  -- one more term
  pub term-good : (r s : Reading) (n : ℕ) (read : ReadTerm) → IsReadable read → IsGood there r → with_term r n read ≡ Ok s → IsGood there s
  term-good r s n read readable good made = term_under-good r.header r s n read refl readable good made
