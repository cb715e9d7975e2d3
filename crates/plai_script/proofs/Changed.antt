-- What edits make of programs, by their kinds, and edits in order.
use Rattle.std.proofs.Common.{◌≡◌, ◌∙◌, ℕ, Result, Ok, Err, List, [], ◌∷◌, ◌++◌, map, flat_map, refl, sym, ap, subst, rules}
use Rattle.std.specs.Prelude.{All}
use Rattle.std.proofs.lemmas.List.Elements.{All-head, All-tail, All-cons, All-nil}
use Rattle.plai_terms.specs.Readable.{IsReadable}
use Rattle.plai_terms.specs.declared.read_term.ReadTerm.{ReadTerm}
use Rattle.plai_clauses.specs.declared.edit_cause.EditCause.{EditCause}
use Rattle.plai_clauses.specs.Program.{ProgramView, with_clause_of, with_entry, with_check}
use Rattle.plai_script.specs.declared.edit.Edit.{Edit, Add, Del, Drop, Entry, Unentry, Check, Uncheck, the_lemmas as edit_lemmas}
use Rattle.plai_script.specs.declared.edit.Edit as edit
use Rattle.plai_script.specs.declared.fail.EditFail.{EditFail}
use Rattle.plai_script.specs.Edits.{and_then, clause_in, entry_in, check_in, with_room, in_order, done, edited, edited_by}
use Rattle.plai_script.specs.Readable.{terms_of, IsReadableEdit}
use Rattle.plai_script.specs.Answering.{Leaves}

-- by kinds
module _ (p : ProgramView) where
  done-Add : (m : List ℕ) (r : ReadTerm) → edited p (Add m r) ≡ and_then (clause_in p.modules m r) (λ c. with_room p (with_clause_of p m c))
  done-Add m r = search (rules, edit_lemmas)

  done-Entry : (m : List ℕ) (r : ReadTerm) → edited p (Entry m r) ≡ and_then (entry_in p.modules m r) (λ e. with_room p (with_entry p e))
  done-Entry m r = search (rules, edit_lemmas)

  done-Check : (m : List ℕ) (r : ReadTerm) → edited p (Check m r) ≡ and_then (check_in p.modules m r) (λ c. with_room p (with_check p c))
  done-Check m r = search (rules, edit_lemmas)

  done-All : (es : List Edit) → edited p (edit.All es) ≡ in_order p (map done es)
  done-All es = search (rules, edit_lemmas)

and_then-same : {A B : Type 0} (r : Result A EditCause) (f g : A → Result B EditCause) → ((x : A) → f x ≡ g x) → and_then r f ≡ and_then r g
and_then-same (Ok x) f g h = h x
and_then-same (Err c) f g h = refl

in_order-all : (p : ProgramView) (es : List Edit) → in_order p (map done es) ≡ edited_by p es
in_order-all p [] = refl
in_order-all p (e ∷ es) = and_then-same (edited p e) (λ q. in_order q (map done es)) (λ q. edited_by q es) (λ q. in_order-all q es)

module _ (p q : ProgramView) (e : Edit) (r : Result (Unit {0}) EditFail) where
  leaves : (o : Result ProgramView EditCause) → edited p e ≡ o → Leaves o q r → Leaves (edited p e) q r
  leaves o same h = subst (λ x. Leaves x q r) (sym same) h

  pub leaves-Add : (m : List ℕ) (read : ReadTerm) → e ≡ Add m read
      → Leaves (and_then (clause_in p.modules m read) (λ c. with_room p (with_clause_of p m c))) q r → Leaves (edited p e) q r
  leaves-Add m read is h = leaves _ (ap (edited p) is ∙ done-Add p m read) h

  pub leaves-Entry : (m : List ℕ) (read : ReadTerm) → e ≡ Entry m read → Leaves (and_then (entry_in p.modules m read) (λ c. with_room p (with_entry p c))) q r
      → Leaves (edited p e) q r
  leaves-Entry m read is h = leaves _ (ap (edited p) is ∙ done-Entry p m read) h

  pub leaves-Check : (m : List ℕ) (read : ReadTerm) → e ≡ Check m read → Leaves (and_then (check_in p.modules m read) (λ c. with_room p (with_check p c))) q r
      → Leaves (edited p e) q r
  leaves-Check m read is h = leaves _ (ap (edited p) is ∙ done-Check p m read) h

  pub leaves-All : (es items : List Edit) → e ≡ edit.All es → items ≡ es → Leaves (edited_by p items) q r → Leaves (edited p e) q r
  leaves-All es items is same h = leaves _ (ap (edited p) is ∙ done-All p es ∙ in_order-all p es ∙ ap (edited_by p) (sym same)) h

-- the terms of edits
terms-Add : (m : List ℕ) (r : ReadTerm) → terms_of (Add m r) ≡ r ∷ []
terms-Add m r = search (rules, edit_lemmas)

terms-All : (es : List Edit) → terms_of (edit.All es) ≡ flat_map (λ part. part) (map terms_of es)
terms-All es = search (rules, edit_lemmas)

pub readable-Add : (e : Edit) (m : List ℕ) (r : ReadTerm) → e ≡ Add m r → IsReadableEdit e → IsReadable r
readable-Add e m r is h = All-head IsReadable r [] (subst (All IsReadable) (ap terms_of is ∙ terms-Add m r) h)

split_all : (xs ys : List ReadTerm) → All IsReadable (xs ++ ys) → All IsReadable xs × All IsReadable ys
split_all [] ys h = (All-nil IsReadable, h)
split_all (x ∷ xs) ys h =
    let (first, rest) = split_all xs ys (All-tail IsReadable x (xs ++ ys) h) in
    (All-cons IsReadable x xs (All-head IsReadable x (xs ++ ys) h) first, rest)

all_readable : (es : List Edit) → All IsReadable (flat_map (λ part. part) (map terms_of es)) → All IsReadableEdit es
all_readable [] h = All-nil IsReadableEdit
all_readable (e ∷ es) h =
    let (one, rest) = split_all (terms_of e) (flat_map (λ part. part) (map terms_of es)) h in
    All-cons IsReadableEdit e es one (all_readable es rest)

pub readable-All : (e : Edit) (es items : List Edit) → e ≡ edit.All es → items ≡ es → IsReadableEdit e → All IsReadableEdit items
readable-All e es items is same h = subst (All IsReadableEdit) (sym same) (all_readable es (subst (All IsReadable) (ap terms_of is ∙ terms-All es) h))
