-- The text of a term, in functional notation without spaces (ISO/IEC 13211-1:1995, 6.3.3 and 7.10.5).
use Rattle.std.specs.Prelude.{ℕ, List, ◌++◌, decimal, codes}
use Rattle.std.specs.Fmt.{signed_decimal}
use Rattle.std.specs.List.{join_with_byte}
use Rattle.plai_terms.specs.Atom.{atom_text}
use Rattle.plai_terms.specs.declared.term.Term.{Term, fold-Term}
use Rattle.plai_terms.specs.declared.term.Term.TheOpen.{Term-F}

-- one level, whose arguments are texts already; 44 is the comma
abbrev pub text_step : Term-F (List ℕ) → List ℕ
text_step (Term-F.Var v) = codes "_" ++ decimal v
text_step (Term-F.Int n) = signed_decimal n
text_step (Term-F.Atom a) = atom_text a
text_step (Term-F.Compound name texts) = atom_text name ++ codes "(" ++ join_with_byte 44 texts ++ codes ")"

-- the text of a term
abbrev pub text_of : Term → List ℕ
text_of = fold-Term (List ℕ) text_step
