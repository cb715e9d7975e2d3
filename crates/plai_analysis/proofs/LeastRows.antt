-- The rows of a table that keeps the least table, as patterns.
use Rattle.std.proofs.Common.{◌≡◌, ◌≢◌, ℕ, zero, suc, ◌+◌, ◌<◌, ◌≤◌, All, Contains, List, [], ◌∷◌, map, length, get_or, unwrap_or, Option, Some, None}
use Rattle.std.proofs.Common.{sym, refl, ap, ◌∙◌, subst, inl, inr, arith}
use Rattle.std.specs.Option.{option_map}
use Rattle.std.specs.List.{AllByRecursion}
use Rattle.std.specs.List.Sorted.{IsPermutation}
use Rattle.std.proofs.lemmas.List.Elements.{recursion_from_All}
use Rattle.std.proofs.lemmas.List.Sorted.{All-permutation, Contains-permutation, IsPermutation-sym}
use Rattle.plai_theory.specs.Words.{IsIn, given, item}
use Rattle.plai_theory.specs.Domain.{Name}
use Rattle.plai_theory.specs.Domain as theory
use Rattle.plai_theory.specs.Stages.{stage}
use Rattle.plai_theory.specs.LeastTable.{Row, IsOrdered}
use Rattle.plai_theory.specs.Tables.{source_of, HasName}
use Rattle.plai_theory.proofs.Rounds.{map_in}
use Rattle.plai_theory.proofs.Rows.{item_in, in_item}
use Rattle.plai_theory.proofs.Stages.{stage_le}
use Rattle.plai_theory.proofs.Tables.{lookup_row}
use Rattle.plai_theory.proofs.Same as same
use Rattle.plai_terms.specs.declared.abs.Abs.{Abs}
use Rattle.plai_terms.specs.declared.abs.Abs.TheVariants.{Nothing, Pos, Groups, Terms}
use Rattle.plai_terms.specs.declared.pred_key.PredKey.{PredKey}
use Rattle.plai_terms.specs.declared.plain_row.PlainRow.{PlainRow}
use Rattle.plai_terms.specs.Pattern.{arity_of}
use Rattle.plai_terms.specs.RowOrder.{IsBefore, HaveSameText}
use Rattle.plai_terms.specs.Rows.{AreInOrder}
use Rattle.plai_domain.specs.Plain.{PlainDomain}
use Rattle.plai_domain.specs.Conditions.{IsValue}
use Rattle.plai_domain.specs.Laws.{IsLawful}
use Rattle.plai_domain.specs.Printed.{IsPrinted}
use Rattle.plai_clauses.specs.Program.{ProgramView}
use Rattle.plai_clauses.specs.WellFormed.{IsWellFormed}
use Rattle.plai_assert.specs.Verdicts.{verdicts_of}
use Rattle.plai_eval.specs.Meaning.{as_domain, as_program}
use Rattle.plai_eval.specs.LeastTable.{answer_in, row_of, before, IsLeastTable}
use Rattle.plai_eval.proofs.Closed.{all_in, same_up_to}
use Rattle.plai_eval.proofs.One.{strict}
use Rattle.plai_eval.proofs.Lawful.{lawful_at}
use Rattle.plai_render.specs.declared.text_table.TextTable.{TextTable}
use Rattle.plai_render.specs.Order.{AreApart, IsNarrow}
use Rattle.plai_render.specs.Texts.{AreTextsInOrder}
use Rattle.plai_table.specs.Rows.{TableRow}
use Rattle.plai_arcs.specs.declared.arcs.Arcs.{Arcs}
use Rattle.plai_analysis.specs.Table.{IsTextTable}
use Rattle.plai_theory.proofs.Snapshots.{in_map}
use Rattle.plai_fix_laws.proofs.Lists.{length_map, slice_item}
use Rattle.plai_repair.proofs.Narrow.{reached_narrow}
use Rattle.plai_fix_laws.specs.WorkStates.{KeptRow, IsNamed}
use Rattle.plai_fix_rows.specs.Tables.{key_name, kept_row, kept_rows}
use Rattle.plai_fix_laws.proofs.Places.{item_map, has_some}
use Rattle.plai_repair.proofs.Results.{named_row}
use Rattle.plai_analysis.specs.Kept.{IsKeptTable}
use Rattle.plai_analysis.specs.Output.{plain_row, IsFitRow, AreFit, IsPlainTable}

-- members after a sort
in_contains : {A : Type 0} (x : A) (xs : List A) → IsIn x xs → Contains xs x
in_contains x [] i = absurd i
in_contains x (y ∷ ys) (inl e) = (0, omega arith, e)
in_contains x (y ∷ ys) (inr i) = let (k, l, e) = in_contains x ys i in (suc k, omega (arith, l), e)

in_get : {A : Type 0} (xs : List A) (k : ℕ) (d : A) → k < length xs → IsIn (get_or xs k d) xs
in_get [] k d h = absurd (omega arith)
in_get (x ∷ xs) zero d h = inl refl
in_get (x ∷ xs) (suc k) d h = inr (in_get xs k d (omega arith))

in_permutation : {A : Type 0} (x : A) (xs ys : List A) → IsPermutation xs ys → IsIn x xs → IsIn x ys
in_permutation x xs ys p i = let (k, l, e) = Contains-permutation xs ys x p (in_contains x xs i) in subst (λ y. IsIn y ys) e (in_get ys k x l)

-- `Nothing` stands for no answer where no answer is it
answer_back : (o : Option Abs) → ((a : Abs) → o ≡ Some a → a ≢ Nothing) → answer_in (unwrap_or o Nothing) ≡ o
answer_back None h = refl
answer_back (Some Nothing) h = absurd (h Nothing refl refl)
answer_back (Some (Pos n masks)) h = refl
answer_back (Some (Groups n groups free)) h = refl
answer_back (Some (Terms skeletons)) h = refl

of_all : {A : Type 0} (P : A → Type 0) (xs : List A) → All P xs → (x : A) → IsIn x xs → P x
of_all P xs h = of_recursion P xs (recursion_from_All P xs h)
  where
    of_recursion : {A : Type 0} (P : A → Type 0) (xs : List A) → AllByRecursion P xs → (x : A) → IsIn x xs → P x
    of_recursion P [] h x i = absurd i
    of_recursion P (y ∷ ys) h x (inl e) = subst P e h.0
    of_recursion P (y ∷ ys) h x (inr i) = of_recursion P ys h.1 x i

ordered : (p : PlainDomain) (rows : List PlainRow) → AreInOrder rows → IsOrdered (as_domain p) (before p) (map (row_of p) rows)
ordered p [] h = tt
ordered p (r ∷ rows) h = (
  λ q i. map_in (λ (s : Row (as_domain p)). before p (row_of p r).name s.name) (row_of p) rows q i
      (λ s j. of_all (λ later. IsBefore r.name later.name) rows h.0 s j),
  ordered p rows h.1,
)

module _ {V : Type 0} (value_of : V → Abs) (p : PlainDomain) (laws : IsLawful p) (printed : IsPrinted p) (program : ProgramView)
    (good : IsWellFormed program) (limit : ℕ) (table : List (TableRow V)) (arcs : Arcs) (s : IsKeptTable value_of p program limit table arcs) where
  theory_laws : theory.IsLawful (as_domain p) (as_program p program)
  theory_laws = lawful_at p laws program good

  -- from this stage on the snapshots are the least table
  abbrev settled : ℕ
  settled = s.whole.least.0

  -- a row of the table as a row of the least table
  abbrev least_row : TableRow V → Row (as_domain p)
  least_row t = record { name = key_name value_of t.name; answer = option_map value_of t.answer }

  -- it is one, and has its number
  record IsLeastRow (n : ℕ) (t : TableRow V) : Type 0 where
    there : IsIn (least_row t) s.rows
    named : IsNamed (as_domain p) (kept_rows value_of p table) n (key_name value_of t.name)

  least_at : (n : ℕ) (t : TableRow V) → item table n ≡ Some t → IsLeastRow n t
  least_at n t e =
      let kept = item_map (kept_row value_of p) table n ∙ ap (given None (λ (q : TableRow V). Some (kept_row value_of p q))) e in
      let (has, answer) = s.whole.sound n (kept_row value_of p t) kept in
      let (r, i, same) = has in
      let is : r ≡ least_row t = row_is r same (looked r i same ∙ sym answer) in
      record {
        there = subst (λ (q : Row (as_domain p)). IsIn q s.rows) is i;
        named = has_some (λ (k : KeptRow (as_domain p)). k.name ≡ key_name value_of t.name) (item (kept_rows value_of p table) n) (kept_row value_of p t) kept refl;
      }
    where
      row_is : (r : Row (as_domain p)) → r.name ≡ key_name value_of t.name → r.answer ≡ option_map value_of t.answer → r ≡ least_row t
      row_is r e f = λ i. record { name = e i; answer = f i }

      looked : (r : Row (as_domain p)) → IsIn r s.rows → r.name ≡ key_name value_of t.name
          → r.answer ≡ source_of (as_domain p) s.rows t.name.pred (value_of t.name.call)
      looked r i e =
          sym (lookup_row (as_domain p) (as_program p program) theory_laws s.rows
          (same.distinct (as_domain p) (as_program p program) theory_laws (before p) (strict p) s.rows settled s.whole.least.1) r i)
          ∙ ap (λ (x : Name PredKey Abs). source_of (as_domain p) s.rows x.pred x.call) e

  -- each row of the least table is one of the table's
  row_at : (r : Row (as_domain p)) → IsIn r s.rows → (n : ℕ) × (t : TableRow V) × (item table n ≡ Some t) × (least_row t ≡ r)
  row_at r i =
      let (n, named) = s.whole.whole r.name (r, i, refl) in
      let (t, e, name) = named_row value_of p table n r.name named in
      let kept = item_map (kept_row value_of p) table n ∙ ap (given None (λ (q : TableRow V). Some (kept_row value_of p q))) e in
      let answer = (s.whole.sound n (kept_row value_of p t) kept).1 in
      let looked : source_of (as_domain p) s.rows r.name.pred r.name.call ≡ r.answer =
      lookup_row (as_domain p) (as_program p program) theory_laws s.rows
      (same.distinct (as_domain p) (as_program p program) theory_laws (before p) (strict p) s.rows settled s.whole.least.1) r i in
      (n, t, e, row_is t name (answer ∙ ap (λ (x : Name PredKey Abs). source_of (as_domain p) s.rows x.pred x.call) name ∙ looked))
    where
      row_is : (t : TableRow V) → key_name value_of t.name ≡ r.name → option_map value_of t.answer ≡ r.answer → least_row t ≡ r
      row_is t e f = λ i. record { name = e i; answer = f i }

  -- it can be shown
  fit_at : (n : ℕ) (t : TableRow V) → item table n ≡ Some t → IsFitRow value_of p t
  fit_at n t e =
      let h = least_at n t e in
      let has : HasName (as_domain p) s.rows (key_name value_of t.name) = (least_row t, h.there, refl) in
      let call = same.table_value (as_domain p) (as_program p program) theory_laws (before p) (strict p) s.rows settled s.whole.least.1
      (key_name value_of t.name) has in
      let snap = (s.whole.least.1 settled (omega arith)).sound (least_row t) h.there in
      record {
        few = reached_narrow p (stage (as_domain p) (as_program p program) settled) program good snap.0;
        call = call;
        answer = λ a f.
            same_up_to ((as_domain p).leq t.name.pred) (stage (as_domain p) (as_program p program) settled t.name.pred (value_of t.name.call)) (value_of a)
            (stage_le (as_domain p) (as_program p program) theory_laws settled settled (omega arith) t.name.pred (value_of t.name.call) (value_of t.name.call) call)
            (sym snap.1 ∙ ap (option_map value_of) f);
      }

  -- Theorem: all of them can.
  pub are_fit : AreFit value_of p table
  are_fit n t e = fit_at n t (slice_item table n t e)

  plain_is : (n : ℕ) (t : TableRow V) → item table n ≡ Some t → row_of p (plain_row value_of t) ≡ least_row t
  plain_is n t e =
      let fit = fit_at n t e in
      let back : answer_in (unwrap_or (option_map value_of t.answer) Nothing) ≡ option_map value_of t.answer =
      answer_back (option_map value_of t.answer) (value fit t.answer refl) in
      λ i. record { name = key_name value_of t.name; answer = back i }
    where
      value : IsFitRow value_of p t → (o : Option V) → t.answer ≡ o → (a : Abs) → option_map value_of o ≡ Some a → a ≢ Nothing
      value fit None e a f = cc
      value fit (Some v) e a f =
          let is : value_of v ≡ a = cc in subst (λ (z : Abs). z ≢ Nothing) is (printed.some t.name.pred.arity (value_of v) (fit.answer v e))

  narrow_at : (n : ℕ) (t : TableRow V) → item table n ≡ Some t → IsNarrow (plain_row value_of t)
  narrow_at n t e =
      let fit = fit_at n t e in
      let few : t.name.pred.arity ≤ 16 = fit.few in
      let same : arity_of (value_of t.name.call) ≡ t.name.pred.arity = printed.arity t.name.pred.arity (value_of t.name.call) fit.call in
      (omega (arith, few, same), answer fit t.answer refl)
    where
      answer : IsFitRow value_of p t → (o : Option V) → t.answer ≡ o → arity_of (unwrap_or (option_map value_of o) Nothing) ≤ 16
      answer fit None e = omega arith
      answer fit (Some v) e =
          let few : t.name.pred.arity ≤ 16 = fit.few in
          let same : arity_of (value_of v) ≡ t.name.pred.arity = printed.arity t.name.pred.arity (value_of v) (fit.answer v e) in omega (arith, few, same)

  -- rows with equal texts are one
  one_text : (m n : ℕ) (a b : TableRow V) → item table m ≡ Some a → item table n ≡ Some b
      → HaveSameText (plain_row value_of a).name (plain_row value_of b).name → m ≡ n
  one_text m n a b e f (same, text) =
      let one = fit_at m a e in
      let v : IsValue p a.name.pred.arity (value_of b.name.call) = subst (λ (q : PredKey). IsValue p q.arity (value_of b.name.call)) (sym same)
      (fit_at n b f).call in
      let c : value_of a.name.call ≡ value_of b.name.call =
      printed.apart a.name.pred.arity (value_of a.name.call) (value_of b.name.call) one.few one.call v text in
      let name : key_name value_of a.name ≡ key_name value_of b.name = λ i. record { pred = same i; call = c i } in
      s.whole.once m n (key_name value_of b.name)
      (subst (IsNamed (as_domain p) (kept_rows value_of p table) m) name (least_at m a e).named) (least_at n b f).named

  -- the rows from this number on are told apart
  apart_from : (n : ℕ) (ts : List (TableRow V)) → ((k : ℕ) (t : TableRow V) → item ts k ≡ Some t → item table (n + k) ≡ Some t)
      → AreApart (map (plain_row value_of) ts)
  apart_from n [] h = tt
  apart_from n (t ∷ ts) h = (
    all_in (λ later. HaveSameText (plain_row value_of t).name later.name → ⊥) (map (plain_row value_of) ts)
        (λ row i. map_in (λ (later : PlainRow). HaveSameText (plain_row value_of t).name later.name → ⊥) (plain_row value_of) ts row i
        (λ q j text.
        let (k, e) = in_item ts q j in
        let one : n + 0 ≡ n + suc k = one_text (n + 0) (n + suc k) t q (h zero t refl) (h (suc k) q e) text in absurd (omega (arith, one)))),
    apart_from (suc n) ts (λ k q e. let same : n + suc k ≡ suc n + k = omega arith in
        subst (λ (m : ℕ). item table m ≡ Some q) same (h (suc k) q e)),
  )

  apart : AreApart (map (plain_row value_of) table)
  apart = apart_from zero table (λ k t e. let same : k ≡ 0 + k = omega arith in subst (λ (m : ℕ). item table m ≡ Some t) same e)

  -- Theorem: they speak of few arguments.
  pub rows_narrow : All IsNarrow (map (plain_row value_of) table)
  rows_narrow = all_in IsNarrow (map (plain_row value_of) table)
      (λ row i. map_in IsNarrow (plain_row value_of) table row i (λ t j. let (n, e) = in_item table t j in narrow_at n t e))

  module _ (sorted : List PlainRow) (moved : IsPermutation (map (plain_row value_of) table) sorted) where
    -- the sorted patterns are the rows of the least table
    sound_row : (r : Row (as_domain p)) → IsIn r (map (row_of p) sorted) → IsIn r s.rows
    sound_row r i =
        map_in (λ (q : Row (as_domain p)). IsIn q s.rows) (row_of p) sorted r i
        (λ row j. map_in (λ (q : PlainRow). IsIn (row_of p q) s.rows) (plain_row value_of) table row
        (in_permutation row sorted (map (plain_row value_of) table) (IsPermutation-sym (map (plain_row value_of) table) sorted moved) j)
        (λ t k. let (n, e) = in_item table t k in
        subst (λ (q : Row (as_domain p)). IsIn q s.rows) (sym (plain_is n t e)) (least_at n t e).there))

    whole_row : (r : Row (as_domain p)) → IsIn r s.rows → IsIn r (map (row_of p) sorted)
    whole_row r i =
        let (n, t, e, is) = row_at r i in
        subst (λ (q : Row (as_domain p)). IsIn q (map (row_of p) sorted)) (plain_is n t e ∙ is)
        (in_map (row_of p) sorted (plain_row value_of t)
        (in_permutation (plain_row value_of t) (map (plain_row value_of) table) sorted moved (in_map (plain_row value_of) table t (item_in table n t e))))

    -- Theorem: in order they are the least table, which has at most as many rows as the limit says.
    pub plain_table : (AreApart (map (plain_row value_of) table) → AreInOrder sorted) → IsPlainTable p program limit sorted
    plain_table in_order =
        let is : IsLeastTable p program sorted = (
          settled,
          λ n h. record {
            ordered = ordered p sorted (in_order apart);
            sound = λ r i. (s.whole.least.1 n h).sound r (sound_row r i);
            whole = λ x reaches. let (r, i, e) = (s.whole.least.1 n h).whole x reaches in (r, whole_row r i, e);
          },
        ) in
        let one : map (row_of p) sorted ≡ s.rows =
        same.least_unique (as_domain p) (as_program p program) (before p) (strict p) (map (row_of p) sorted) s.rows is s.whole.least in
        let long : length (map (row_of p) sorted) ≡ length sorted = length_map (row_of p) sorted in
        let few : length (map (row_of p) sorted) ≤ limit = subst (λ (rows : List (Row (as_domain p))). length rows ≤ limit) (sym one) s.within in
        record {
          least = is;
          narrow = All-permutation IsNarrow (map (plain_row value_of) table) sorted moved rows_narrow;
          within = omega (arith, long, few);
        }

  -- Theorem: their texts in order are those of the least table, and verdicts don't depend on the order.
  pub text_table : (table_of : TextTable) → AreTextsInOrder (map (plain_row value_of) table) table_of.rows
      → ((sorted : List PlainRow) → IsPermutation (map (plain_row value_of) table) sorted → table_of.verdicts ≡ verdicts_of p sorted program.checks)
      → IsTextTable p program limit table_of
  text_table table_of sorted told =
      let plain : IsPlainTable p program limit sorted.rows = plain_table sorted.rows sorted.permutation sorted.in_order in
      record {
        rows = sorted.rows;
        least = plain.least;
        narrow = plain.narrow;
        within = plain.within;
        are_texts = sorted.are_texts;
        are_verdicts = told sorted.rows sorted.permutation;
      }
