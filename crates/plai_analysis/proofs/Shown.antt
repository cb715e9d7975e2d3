-- Rows of a table over a domain's own values beside the rows of patterns that they stand for.
use Rattle.std.proofs.Common.{◌≡◌, ◌∙◌, ℕ, zero, suc, ◌+◌, Bool, List, [], ◌∷◌, ◌++◌, map, take, get_or, slice_get, unwrap_or, Option, Some, None, Bor}
use Rattle.std.proofs.Common.{IfSome, sym, refl, ap}
use Rattle.std.proofs.lemmas.List.{take_more}
use Rattle.std.proofs.lemmas.Option.{slice_get_within}
use Rattle.std.specs.Option.{option_copied}
use Rattle.plai_terms.specs.declared.abs.Abs.{Abs}
use Rattle.plai_terms.specs.declared.abs.Abs.TheVariants.{Nothing}
use Rattle.plai_terms.specs.declared.plain_row.PlainRow.{PlainRow}
use Rattle.plai_domain.specs.Plain.{PlainDomain}
use Rattle.plai_domain.specs.Names.{name_of}
use Rattle.plai_domain.specs.Conditions.{IsValue, IsSmallValue}
use Rattle.plai_assert.specs.declared.row.Row.{Row}
use Rattle.plai_assert.specs.Rows.{plain}
use Rattle.plai_table.specs.Rows.{TableRow}
use Rattle.plai_fix.proofs.Evaluated.{copied_map}
use Rattle.plai_analysis.specs.Output.{plain_row, IsFitRow, AreFit, IsShown}

map_push : {A B : Type 0} (f : A → B) (xs : List A) (x : A) → map f (xs ++ x ∷ []) ≡ map f xs ++ f x ∷ []
map_push f [] x = refl
map_push f (y ∷ xs) x = ap (λ rest. f y ∷ rest) (map_push f xs x)

get_is : {A : Type 0} (xs : List A) (i : ℕ) (x d : A) → slice_get xs i ≡ Some x → get_or xs i d ≡ x
get_is [] i x d e = cc
get_is (y ∷ ys) zero x d e = cc
get_is (y ∷ ys) (suc i) x d e = get_is ys i x d e

-- one more of the first
take_next : {A : Type 0} (xs : List A) (i : ℕ) (x : A) → slice_get xs i ≡ Some x → take (i + 1) xs ≡ take i xs ++ x ∷ []
take_next xs i x e = take_more xs i x (slice_get_within xs i x e) ∙ ap (λ y. take i xs ++ y ∷ []) (get_is xs i x x e)

module _ {V : Type 0} (value_of : V → Abs) (p : PlainDomain) (table : List (TableRow V)) where
  -- a row that is read
  pub seen_more : (i : ℕ) (row : Row V) (live entry : Bool) (rows new : List (Row V))
      → slice_get table i ≡ Some (record { name = row.name.now; answer = option_copied row.answer; live = live; entry = entry })
      → map (plain value_of) rows ≡ map (plain_row value_of) (take i table) → new ≡ rows ++ row ∷ []
      → map (plain value_of) new ≡ map (plain_row value_of) (take (i + 1) table)
  seen_more i row live entry rows new e so_far pushed =
      let r : TableRow V = record { name = row.name.now; answer = option_copied row.answer; live = live; entry = entry } in
      let same : plain value_of row ≡ plain_row value_of r = λ j. record {
        name = name_of value_of row.name.now;
        answer = unwrap_or (copied_map value_of row.answer j) Nothing;
      } in
      ap (map (plain value_of)) pushed
      ∙ map_push (plain value_of) rows row
      ∙ ap (λ (done : List PlainRow). done ++ plain value_of row ∷ []) so_far
      ∙ ap (λ (x : PlainRow). map (plain_row value_of) (take i table) ++ x ∷ []) same
      ∙ sym (map_push (plain_row value_of) (take i table) r)
      ∙ ap (map (plain_row value_of)) (sym (take_next table i r e))

  -- it can be shown
  pub shown_at : AreFit value_of p table → (n : ℕ) (row : Row V) (live entry : Bool)
      → slice_get table n ≡ Some (record { name = row.name.now; answer = option_copied row.answer; live = live; entry = entry }) → IsShown value_of p row
  shown_at fit n row live entry e =
      let h : IsFitRow value_of p (record { name = row.name.now; answer = option_copied row.answer; live = live; entry = entry }) = fit n _ e in
      (h.few, (h.call, fits row.answer h.answer))
    where
      fits : (o : Option (Bor V)) → ((a : V) → option_copied o ≡ Some a → IsValue p row.name.now.pred.arity (value_of a))
          → IfSome o (λ v. IsValue p row.name.now.pred.arity (value_of v.now))
      fits None k = tt
      fits (Some v) k = k v.now refl

  pub small_call : (row : Row V) → IsShown value_of p row → IsSmallValue p (value_of row.name.now.call)
  small_call row h = (row.name.now.pred.arity, h.0, h.1.0)

  pub small_answer : (row : Row V) → IsShown value_of p row → IfSome row.answer (λ v. IsSmallValue p (value_of v.now))
  small_answer row h = at row.answer h.1.1
    where
      at : (o : Option (Bor V)) → IfSome o (λ v. IsValue p row.name.now.pred.arity (value_of v.now)) → IfSome o (λ v. IsSmallValue p (value_of v.now))
      at None k = tt
      at (Some v) k = (row.name.now.pred.arity, h.0, k)
