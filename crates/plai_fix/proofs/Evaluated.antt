-- An evaluation as the theory sees it.
use Rattle.std.proofs.Common.{◌≡◌, ℕ, List, [], ◌∷◌, map, Option, Bor, Some, None, IsSome, sym, refl, ap, ◌∙◌, subst}
use Rattle.std.specs.Option.{option_map, option_copied}
use Rattle.plai_theory.specs.Domain.{Name}
use Rattle.plai_theory.specs.Limits.{IsOverAt}
use Rattle.plai_terms.specs.declared.abs.Abs.{Abs}
use Rattle.plai_terms.specs.declared.pred_key.PredKey.{PredKey}
use Rattle.plai_terms.specs.declared.row_name.RowName.{RowName}
use Rattle.plai_domain.specs.declared.key.Key.{Key}
use Rattle.plai_domain.specs.Names.{name_of}
use Rattle.plai_domain.specs.Plain.{PlainDomain}
use Rattle.plai_clauses.specs.declared.clause.Clause.{Clause}
use Rattle.plai_eval.specs.Meaning.{row_name, as_domain, as_limits}
use Rattle.plai_eval.specs.Evaluation.{over_of}
use Rattle.plai_eval.proofs.Over.{over_is}
use Rattle.plai_fix_laws.specs.WorkStates.{KeptRow, kept_source}
use Rattle.plai_fix_rows.specs.Tables.{key_name, answers_of}

-- the theory's name of a row's
abbrev back : RowName → Name PredKey Abs
back x = record { pred = x.pred; call = x.call }

keys_back : {V : Type 0} (value_of : V → Abs) (keys : List (Key V)) → map back (map (name_of value_of) keys) ≡ map (key_name value_of) keys
keys_back value_of [] = refl
keys_back value_of (key ∷ keys) = ap (λ rest. key_name value_of key ∷ rest) (keys_back value_of keys)

names_back : (names : List (Name PredKey Abs)) → map back (map row_name names) ≡ names
names_back [] = refl
names_back (x ∷ names) = ap (λ rest. x ∷ rest) (names_back names)

pub same_names : {V : Type 0} (value_of : V → Abs) (keys : List (Key V)) (names : List (Name PredKey Abs)) → map (name_of value_of) keys ≡ map row_name names
    → map (key_name value_of) keys ≡ names
same_names value_of keys names e = sym (keys_back value_of keys) ∙ ap (map back) e ∙ names_back names

module _ (p : PlainDomain) (kept : List (KeptRow (as_domain p))) (clause : Clause) (call : Abs) where
  pub not_over : over_of p (answers_of p kept) clause call ≡ None → IsOverAt (as_domain p) (as_limits p) (kept_source (as_domain p) kept) clause call → ⊥
  not_over e o = let h : IsSome {T = ℕ × ℕ} None = subst IsSome e ((over_is p (answers_of p kept) clause call).1 o) in cc

pub copied_map : {A B : Type 0} (f : A → B) (o : Option (Bor A)) → option_map (λ (b : Bor A). f b.now) o ≡ option_map f (option_copied o)
copied_map f None = refl
copied_map f (Some b) = refl
