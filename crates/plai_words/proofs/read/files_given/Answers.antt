use Rattle.std.proofs.Common.{ap, ◌∙◌, [], unwrap_or}
use Rattle.std.proofs.lemmas.Result.{IfOk-weaker}
use Rattle.clap.specs.Words.{found_of}
use Rattle.clap.proofs.WalkLemmas.{raw_values-rows}
use Rattle.plai_words.specs.Line.{files_id}
use Rattle.plai_words.proofs.read.files_given.Goals as goal

pub returns-in-Some-clause-ok : goal.returns-in-Some-clause-ok
returns-in-Some-clause-ok c =
    IfOk-weaker c.copies.result _ _ (λ v h. h ∙ ap (λ o. unwrap_or o []) (c.in-Some.ensures ∙ raw_values-rows (found_of c.args.matches.now) files_id))
    c.copies.ensures.ok

pub returns-in-None-clause-ok : goal.returns-in-None-clause-ok
returns-in-None-clause-ok c =
    c.new.ensures.items ∙ ap (λ o. unwrap_or o []) (c.in-None.ensures ∙ raw_values-rows (found_of c.args.matches.now) files_id)
