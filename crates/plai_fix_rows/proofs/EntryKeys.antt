-- The names that entries ask for.
use Rattle.std.proofs.Common.{◌≡◌, ℕ, zero, suc, ◌+◌, ◌<◌, List, [], ◌∷◌, ◌++◌, map, length, take, get_or, sym, ap, ◌∙◌, inl, inr, arith}
use Rattle.std.proofs.lemmas.List.{take_more}
use Rattle.plai_theory.specs.Words.{IsIn}
use Rattle.plai_theory.specs.Domain.{Name}
use Rattle.plai_terms.specs.declared.abs.Abs.{Abs}
use Rattle.plai_terms.specs.declared.prop.Prop.{Prop}
use Rattle.plai_terms.specs.declared.pred_key.PredKey.{PredKey}
use Rattle.plai_domain.specs.declared.key.Key.{Key}
use Rattle.plai_domain.specs.Plain.{PlainDomain}
use Rattle.plai_clauses.specs.declared.entry.Entry.{Entry}
use Rattle.plai_fix_rows.specs.Tables.{key_name}
use Rattle.plai_fix_laws.proofs.LookedUp.{names_push}

pub in_at : {A : Type 0} (xs : List A) (n : ℕ) (x : A) → n < length xs → x ≡ get_or xs n x → IsIn x xs
in_at [] n x h e = absurd (omega arith)
in_at (y ∷ xs) zero x h e = inl (sym e)
in_at (y ∷ xs) (suc n) x h e = inr (in_at xs n x (omega arith) e)

abbrev pub entry_pair : PlainDomain → Entry → Name PredKey Abs
entry_pair p entry = record { pred = entry.pred; call = p.describe entry.pred.arity entry.pre }

-- one more entry
pub entries_more : {V : Type 0} (value_of : V → Abs) (p : PlainDomain) (keys : List (Key V)) (key : Key V) (entries : List Entry) (i : ℕ) (entry : Entry)
    → i < length entries → entry ≡ get_or entries i entry
    → map (key_name value_of) keys ≡ map (entry_pair p) (take i entries) → key_name value_of key ≡ entry_pair p entry
    → map (key_name value_of) (keys ++ key ∷ []) ≡ map (entry_pair p) (take (i + 1) entries)
entries_more value_of p keys key entries i entry h e so_far is =
    names_push (key_name value_of) keys key ∙ ap (λ xs. xs ++ key_name value_of key ∷ []) so_far ∙ ap (λ x. map (entry_pair p) (take i entries) ++ x ∷ []) is
    ∙ sym (names_push (entry_pair p) (take i entries) entry) ∙ ap (map (entry_pair p)) (ap (λ x. take i entries ++ x ∷ []) e
    ∙ sym (take_more entries i entry h))

pub key_is : (p : PlainDomain) (entry : Entry) (pred : PredKey) (call : Abs) (pre : List Prop) → pred ≡ entry.pred → pre ≡ entry.pre
    → call ≡ p.describe pred.arity pre
    → (let x : Name PredKey Abs = record { pred = pred; call = call } in x) ≡ entry_pair p entry
key_is p entry pred call pre e f h =
    let k : call ≡ p.describe entry.pred.arity entry.pre = h ∙ (λ i. p.describe (e i).arity (f i)) in
    λ i. record { pred = e i; call = k i }

-- one more name of a list
pub names_more : {A B : Type 0} (f : A → B) (xs : List A) (i : ℕ) (x : A) → i < length xs → x ≡ get_or xs i x
    → map f (take (i + 1) xs) ≡ map f (take i xs) ++ f x ∷ []
names_more f xs i x h e = ap (map f) (take_more xs i x h ∙ ap (λ y. take i xs ++ y ∷ []) (sym e)) ∙ names_push f (take i xs) x
