use Rattle.plai_terms.proofs.SameNames.{name-Decides, key-Decides, read-Decides, abs-Decides, row-Decides}
use Rattle.plai_terms.proofs.SameTerms.{term-Decides}
use Rattle.plai_terms.proofs.laws.equality_is_exact.Goals as goal

pub returns : goal.returns
returns c = record {
  names = name-Decides;
  predicates = key-Decides;
  terms = term-Decides;
  read_terms = read-Decides;
  patterns = abs-Decides;
  row_names = row-Decides;
}
