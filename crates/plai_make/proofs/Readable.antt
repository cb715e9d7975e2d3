-- The terms of the edits are as terms that were read.
use Rattle.std.proofs.Common.{◌≡◌, ℕ, ◌++◌, ◌∷◌, [], List, Result, Ok, IfOk, All, pos, sym, subst, rules, arith}
use Rattle.std.proofs.lemmas.List.{append_assoc}
use Rattle.std.proofs.lemmas.List.Elements.{All-push, All-nil}
use Rattle.plai_terms.specs.Readable.{IsReadable}
use Rattle.plai_terms.specs.declared.read_term.ReadTerm.{ReadTerm}
use Rattle.plai_terms.specs.declared.term.Term.{Compound}
use Rattle.plai_clauses.specs.declared.edit_cause.EditCause.{EditCause}
use Rattle.plai_script.specs.Readable.{terms_of, IsReadableEdit}
use Rattle.plai_script.specs.declared.edit.Edit.{Edit, Add, Del, the_lemmas}
use Rattle.plai_make.specs.Clauses.{home_name, pred_name, fact_args}
use Rattle.plai_make.specs.Programs.{removal, addition}
use Rattle.plai_make.proofs.Terms.{fact_numbered, fact_narrow}

terms-Del : (name : List ℕ) → terms_of (Del home_name name 2 (pos 1)) ≡ []
terms-Del name = search (rules, the_lemmas)

terms-Add : (read : ReadTerm) → terms_of (Add home_name read) ≡ read ∷ []
terms-Add read = search (rules, the_lemmas)

removal_readable : (number : ℕ) → IsReadableEdit (removal number)
removal_readable number = subst (All IsReadable) (sym (terms-Del (pred_name number))) (All-nil IsReadable)

fact_readable : (number : ℕ) → IsReadable (record { term = Compound (pred_name number) fact_args; variables = 1 })
fact_readable number = record { numbered = fact_numbered (pred_name number); few_variables = omega arith; few_arguments = fact_narrow (pred_name number) }

addition_readable : (number : ℕ) → IsReadableEdit (addition number)
addition_readable number =
    subst (All IsReadable) (sym (terms-Add (record { term = Compound (pred_name number) fact_args; variables = 1 })))
    (All-push IsReadable [] (record { term = Compound (pred_name number) fact_args; variables = 1 }) (All-nil IsReadable) (fact_readable number))

abbrev Fits : Result Edit EditCause → Type 0
Fits edit = IfOk edit IsReadableEdit

pub pair_readable : (edits : List (Result Edit EditCause)) (number : ℕ) → All Fits edits → All Fits (edits ++ Ok (removal number) ∷ Ok (addition number) ∷ [])
pair_readable edits number all =
    subst (All Fits) (append_assoc edits (Ok (removal number) ∷ []) (Ok (addition number) ∷ []))
    (All-push Fits (edits ++ Ok (removal number) ∷ []) (Ok (addition number)) (All-push Fits edits (Ok (removal number)) all (removal_readable number))
    (addition_readable number))
