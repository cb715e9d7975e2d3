use Rattle.std.proofs.Common.{[], ◌++◌, ap, refl}
use Rattle.plai_terms.proofs.AtomTexts.{atoms_apart, names_apart}
use Rattle.plai_terms.proofs.TermTexts.{terms_differ}
use Rattle.plai_terms.proofs.laws.term_texts_differ.Goals as goal

pub returns : goal.returns
returns c = record {
  atoms = λ a b e. (atoms_apart a b [] [] refl refl (ap (λ z. z ++ []) e)).0;
  names = λ a b e. (names_apart a b [] [] refl refl (ap (λ z. z ++ []) e)).0;
  terms = terms_differ;
}
