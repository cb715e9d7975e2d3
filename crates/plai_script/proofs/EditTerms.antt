-- The terms of the edit that a term is.
use Rattle.std.proofs.Common.{◌≡◌, ◌∙◌, ℕ, ◌<◌, ◌^◌, ℤ, Bool, true, false, cond, nat_eq, Option, Some, None, List, [], ◌∷◌, ◌++◌, map, flat_map, refl, sym}
use Rattle.std.proofs.Common.{ap, subst, rules, codes}
use Rattle.std.specs.Prelude.{All, option_map, option_and_then}
use Rattle.std.specs.List.{AllByRecursion}
use Rattle.std.specs.Cmp.Lexicographic.{pointwise}
use Rattle.std.proofs.lemmas.List.Elements.{All-cons, All-nil}
use Rattle.plai_terms.specs.Readable.{IsReadable}
use Rattle.plai_terms.specs.declared.term.Term.{Term, Var, Int, Atom, Compound, the_lemmas}
use Rattle.plai_terms.specs.declared.read_term.ReadTerm.{ReadTerm}
use Rattle.plai_terms.proofs.Terms.{induction}
use Rattle.plai_sources.specs.Shapes.{atom_of, one, one_argument, list_items, each}
use Rattle.plai_script.specs.declared.edit.Edit.{Edit, Add, Del, Drop, Entry, Unentry, Check, Uncheck, the_lemmas as edit_lemmas}
use Rattle.plai_script.specs.declared.edit.Edit as edit
use Rattle.plai_script.specs.OwnTerms.{own_term}
use Rattle.plai_script.specs.Shapes.{integer_of, key_of, of_term, of_number, drop, del, edit_of_two, edit_of_three, single_at, single_of, all_of, edit_from}
use Rattle.plai_script.specs.Shapes.{edit_of_term}
use Rattle.plai_script.specs.Readable.{IsPart, terms_of, IsReadableEdit}
use Rattle.plai_script.proofs.Variables.{own_readable}
use Rattle.plai_script.proofs.Parts.{mapped, chained, parts, part_of_one, items_parts}

-- the terms of an edit
terms-Add : (m : List ℕ) (r : ReadTerm) → terms_of (Add m r) ≡ r ∷ []
terms-Add m r = search (rules, edit_lemmas)

terms-Entry : (m : List ℕ) (r : ReadTerm) → terms_of (Entry m r) ≡ r ∷ []
terms-Entry m r = search (rules, edit_lemmas)

terms-Check : (m : List ℕ) (r : ReadTerm) → terms_of (Check m r) ≡ r ∷ []
terms-Check m r = search (rules, edit_lemmas)

terms-Unentry : (m : List ℕ) (z : ℤ) → terms_of (Unentry m z) ≡ []
terms-Unentry m z = search (rules, edit_lemmas)

terms-Uncheck : (m : List ℕ) (z : ℤ) → terms_of (Uncheck m z) ≡ []
terms-Uncheck m z = search (rules, edit_lemmas)

terms-Drop : (m name : List ℕ) (k : ℕ) → terms_of (Drop m name k) ≡ []
terms-Drop m name k = search (rules, edit_lemmas)

terms-Del : (m name : List ℕ) (k : ℕ) (z : ℤ) → terms_of (Del m name k z) ≡ []
terms-Del m name k z = search (rules, edit_lemmas)

joined : (es : List Edit) → flat_map (λ part. part) (map terms_of es) ≡ flat_map terms_of es
joined [] = refl
joined (e ∷ es) = ap (λ rs. terms_of e ++ rs) (joined es)

terms-All : (es : List Edit) → terms_of (edit.All es) ≡ flat_map terms_of es
terms-All es =
    let raw : terms_of (edit.All es) ≡ flat_map (λ part. part) (map terms_of es) = search (rules, edit_lemmas) in
    raw ∙ joined es

all_append : (xs ys : List ReadTerm) → AllByRecursion IsReadable xs → AllByRecursion IsReadable ys → AllByRecursion IsReadable (xs ++ ys)
all_append [] ys h k = k
all_append (x ∷ xs) ys h k = (h.0, all_append xs ys h.1 k)

listed : (xs : List ReadTerm) → AllByRecursion IsReadable xs → All IsReadable xs
listed [] h = All-nil IsReadable
listed (x ∷ xs) h = All-cons IsReadable x xs h.0 (listed xs h.1)

abbrev HasReadable : Edit → Type 0
HasReadable e = AllByRecursion IsReadable (terms_of e)

one_readable : (e : Edit) (r : ReadTerm) → terms_of e ≡ r ∷ [] → IsReadable r → HasReadable e
one_readable e r is h = subst (AllByRecursion IsReadable) (sym is) (h, tt)

none_readable : (e : Edit) → terms_of e ≡ [] → HasReadable e
none_readable e is = subst (AllByRecursion IsReadable) (sym is) tt

module _ (n : ℕ) (lt : n < 2 ^ 31) where
  term_readable : (make : List ℕ → ReadTerm → Edit) (m t : Term) (e : Edit) → ((name : List ℕ) (r : ReadTerm) → terms_of (make name r) ≡ r ∷ []) → IsPart n t
      → of_term make m t ≡ Some e → HasReadable e
  term_readable make m t e terms part h =
      let (name, home, is) = mapped (λ name. make name (own_term t)) (atom_of m) e h in
      subst HasReadable is (one_readable (make name (own_term t)) (own_term t) (terms name (own_term t)) (own_readable n t lt part))

  number_readable : (make : List ℕ → ℤ → Edit) (m t : Term) (e : Edit) → ((name : List ℕ) (z : ℤ) → terms_of (make name z) ≡ []) → of_number make m t ≡ Some e
      → HasReadable e
  number_readable make m t e terms h =
      let (name, home, rest) = chained (λ name. option_map (make name) (integer_of t)) (atom_of m) e h in
      let (z, number, is) = mapped (make name) (integer_of t) e rest in
      subst HasReadable is (none_readable (make name z) (terms name z))

  drop_readable : (m t : Term) (e : Edit) → drop m t ≡ Some e → HasReadable e
  drop_readable m t e h =
      let (name, home, rest) = chained (λ name. option_map (λ key. Drop name key.0 key.1) (key_of t)) (atom_of m) e h in
      let (key, found, is) = mapped (λ (key : List ℕ × ℕ). Drop name key.0 key.1) (key_of t) e rest in
      subst HasReadable is (none_readable (Drop name key.0 key.1) (terms-Drop name key.0 key.1))

  del_readable : (m t k : Term) (e : Edit) → del m t k ≡ Some e → HasReadable e
  del_readable m t k e h =
      let (name, home, rest) = chained (λ name. option_and_then (λ key. option_map (Del name key.0 key.1) (integer_of k)) (key_of t)) (atom_of m) e h in
      let (key, found, more) = chained (λ (key : List ℕ × ℕ). option_map (Del name key.0 key.1) (integer_of k)) (key_of t) e rest in
      let (z, number, is) = mapped (Del name key.0 key.1) (integer_of k) e more in
      subst HasReadable is (none_readable (Del name key.0 key.1 z) (terms-Del name key.0 key.1 z))

  two_readable : (name : List ℕ) (m t : Term) (e : Edit) → IsPart n t → edit_of_two name m t ≡ Some e → HasReadable e
  unfolding edit_of_two
  two_readable name m t e part h =
      cases (pointwise nat_eq name (codes "add")) (pointwise nat_eq name (codes "drop")) (pointwise nat_eq name (codes "entry"))
      (pointwise nat_eq name (codes "unentry")) (pointwise nat_eq name (codes "check")) (pointwise nat_eq name (codes "uncheck")) h
    where
      cases : (a b c d f g : Bool)
          → cond a (of_term Add m t) (cond b (drop m t)
          (cond c (of_term Entry m t) (cond d (of_number Unentry m t) (cond f (of_term Check m t) (cond g (of_number Uncheck m t) None))))) ≡ Some e
          → HasReadable e
      cases true b c d f g h = term_readable Add m t e terms-Add part h
      cases false true c d f g h = drop_readable m t e h
      cases false false true d f g h = term_readable Entry m t e terms-Entry part h
      cases false false false true f g h = number_readable Unentry m t e terms-Unentry h
      cases false false false false true g h = term_readable Check m t e terms-Check part h
      cases false false false false false true h = number_readable Uncheck m t e terms-Uncheck h
      cases false false false false false false h = absurd cc

  if_del : (b : Bool) (m t k : Term) (e : Edit) → cond b (del m t k) None ≡ Some e → HasReadable e
  if_del true m t k e h = del_readable m t k e h
  if_del false m t k e h = absurd cc

  three_readable : (name : List ℕ) (m t k : Term) (e : Edit) → edit_of_three name m t k ≡ Some e → HasReadable e
  unfolding edit_of_three
  three_readable name m t k e h = if_del (pointwise nat_eq name (codes "del")) m t k e h

  at_readable : (name : List ℕ) (args : List Term) (e : Edit) → AllByRecursion (IsPart n) args → single_at name args ≡ Some e → HasReadable e
  at_readable name [] e p h = absurd cc
  at_readable name (x ∷ []) e p h = absurd cc
  at_readable name (x ∷ y ∷ []) e p h = two_readable name x y e p.1.0 h
  at_readable name (x ∷ y ∷ z ∷ []) e p h = three_readable name x y z e h
  at_readable name (x ∷ y ∷ z ∷ w ∷ args) e p h = absurd cc

  abbrev SaysReadable : Term → Type 0
  SaysReadable t = (e : Edit) → IsPart n t → single_of t ≡ Some e → HasReadable e

  single_readable : (t : Term) → SaysReadable t
  single_readable = induction SaysReadable
      (λ v e p h. let no : single_of (Var v) ≡ None = search (rules, the_lemmas) in absurd cc)
      (λ z e p h. let no : single_of (Int z) ≡ None = search (rules, the_lemmas) in absurd cc)
      (λ a e p h. let no : single_of (Atom a) ≡ None = search (rules, the_lemmas) in absurd cc)
      (λ name args k e p h.
      let is : single_of (Compound name args) ≡ single_at name args = search (rules, the_lemmas) in
      at_readable name args e (parts n name args p) (sym is ∙ h))

  each_readable : (ts : List Term) (es : List Edit) → AllByRecursion (IsPart n) ts → each single_of ts ≡ Some es
      → AllByRecursion IsReadable (flat_map terms_of es)
  each_readable [] es p h = let same : [] ≡ es = cc in subst (λ (xs : List Edit). AllByRecursion IsReadable (flat_map terms_of xs)) same tt
  each_readable (t ∷ ts) es p h =
      let (e, one, rest) = chained (λ y. option_map (λ ys. y ∷ ys) (each single_of ts)) (single_of t) es h in
      let (more, all, is) = mapped (λ ys. e ∷ ys) (each single_of ts) es rest in
      subst (λ (xs : List Edit). AllByRecursion IsReadable (flat_map terms_of xs)) is
      (all_append (terms_of e) (flat_map terms_of more) (single_readable t e p.0 one) (each_readable ts more p.1 all))

  all_readable : (t : Term) (e : Edit) → IsPart n t → all_of t ≡ Some e → HasReadable e
  all_readable t e p h =
      let (es, made, is) = mapped edit.All (option_and_then (each single_of) (list_items t)) e h in
      let (ts, items, all) = chained (each single_of) (list_items t) es made in
      subst HasReadable is (subst (AllByRecursion IsReadable) (sym (terms-All es)) (each_readable ts es (items_parts n t ts p items) all))

  from_readable : (t : Term) (o : Option Term) (e : Edit) → IsPart n t → one_argument (codes "all") t ≡ o → edit_from t o ≡ Some e → HasReadable e
  from_readable t None e p is h = single_readable t e p h
  from_readable t (Some items) e p is h = all_readable items e (part_of_one n t (codes "all") items p is) h

  -- the terms of an edit that a term is
  pub edit_readable : (t : Term) (e : Edit) → IsPart n t → edit_of_term t ≡ Some e → IsReadableEdit e
  edit_readable t e p h = listed (terms_of e) (from_readable t (one_argument (codes "all") t) e p refl h)
