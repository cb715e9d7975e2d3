-- The terms in an edit, and what is known of those that were read (ISO/IEC 13211-1:1995, 6.2 and 6.3).
use Rattle.std.specs.Prelude.{◌≡◌, ℕ, true, false, All, List, [], ◌∷◌, flat_map}
use Rattle.plai_terms.specs.declared.term.Term.{Term}
use Rattle.plai_terms.specs.declared.read_term.ReadTerm.{ReadTerm}
use Rattle.plai_terms.specs.Term.{has_variables_below}
use Rattle.plai_terms.specs.Readable.{IsReadable, is_wide}
use Rattle.plai_script.specs.declared.edit.Edit.{Edit, fold-Edit}
use Rattle.plai_script.specs.declared.edit.Edit.TheOpen.{Edit-F}

-- one level: the edits of an `all` are given as their terms
abbrev pub terms_step : Edit-F (List ReadTerm) → List ReadTerm
terms_step (Edit-F.Add m read) = read ∷ []
terms_step (Edit-F.Entry m read) = read ∷ []
terms_step (Edit-F.Check m read) = read ∷ []
terms_step (Edit-F.All parts) = flat_map (λ part. part) parts
terms_step _ = []

-- the terms of an edit that say a clause, an entry or an assertion
abbrev pub terms_of : Edit → List ReadTerm
terms_of = fold-Edit (List ReadTerm) terms_step

abbrev pub IsReadableEdit : Edit → Type 0
IsReadableEdit edit = All IsReadable (terms_of edit)

-- A part of a term that was read: its variables are numbered below how many that has, and no compound has more than 255 arguments.
pub record IsPart (variables : ℕ) (t : Term) : Type 0 where
  pub numbered : has_variables_below variables t ≡ true
  pub few_arguments : is_wide t ≡ false
