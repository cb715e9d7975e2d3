-- The text of a term as what is written at its name, and what is still to be written: bytes, and terms.
use Rattle.std.specs.Prelude.{ℕ, List, [], ◌∷◌, ◌++◌, map, decimal, codes}
use Rattle.std.specs.Fmt.{signed_decimal}
use Rattle.plai_terms.specs.Atom.{atom_text}
use Rattle.plai_terms.specs.declared.term.Term.{Term, out-Term}
use Rattle.plai_terms.specs.declared.term.Term.TheOpen.{Term-F}
use Rattle.plai_terms.specs.declared.print.Piece.{Piece}
use Rattle.plai_terms.specs.declared.print.Piece.TheVariants as pieces

-- a byte or a term
pub data Part : Type 0 where
  Byte : ℕ → Part
  Whole : Term → Part

abbrev pub part_of : Piece → Part
part_of (pieces.Byte b) = Byte b
part_of (pieces.Whole t) = Whole t.now

abbrev pub parts_of : List Piece → List Part
parts_of = map part_of

abbrev pub head_at : Term-F Term → List ℕ
head_at (Term-F.Var v) = codes "_" ++ decimal v
head_at (Term-F.Int n) = signed_decimal n
head_at (Term-F.Atom a) = atom_text a
head_at (Term-F.Compound name _) = atom_text name ++ codes "("

-- the text of a variable, an integer or an atom, and of a compound its name and the bracket
unfoldable pub head_text : Term → List ℕ
head_text t = head_at (out-Term t)

-- terms with a comma behind each, 44, and another byte behind the last
abbrev pub listed : ℕ → List Term → List Part
listed last [] = []
listed last (t ∷ []) = Whole t ∷ Byte last ∷ []
listed last (t ∷ u ∷ us) = Whole t ∷ Byte 44 ∷ listed last (u ∷ us)

-- what is written at a part
abbrev pub written_at : Part → List ℕ
written_at (Byte b) = b ∷ []
written_at (Whole t) = head_text t

abbrev pub behind_at : Term-F Term → List Part
behind_at (Term-F.Compound _ []) = Byte 41 ∷ []
behind_at (Term-F.Compound _ (t ∷ ts)) = listed 41 (t ∷ ts)
behind_at _ = []

-- what is to be written behind the head of a term: the arguments, and the closing bracket, 41
unfoldable pub behind_head : Term → List Part
behind_head t = behind_at (out-Term t)

abbrev pub parts_behind : Part → List Part
parts_behind (Byte b) = []
parts_behind (Whole t) = behind_head t
