use Rattle.plai_render.proofs.NameTexts.{preds_differ, names_differ}
use Rattle.plai_render.proofs.laws.names_have_different_texts.Goals as goal

pub returns : goal.returns
returns c = record {
  predicates = preds_differ;
  rows = names_differ;
}
