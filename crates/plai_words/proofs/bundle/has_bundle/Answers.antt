use Rattle.std.proofs.Common.{◌∙◌, ap, sym}
use Rattle.plai_words.specs.Options.{is_bundle, is_end}
use Rattle.plai_words.proofs.Bundles.{at_end, at_bundle, at_other, past}
use Rattle.plai_words.proofs.bundle.has_bundle.Goals as goal

pub returns-then-is_end : goal.returns-then-is_end
returns-then-is_end c =
    sym (at_end c.args.words.now c.loop-word.word-index _ c.loop-word-test.true
    (ap is_end (sym c.as_bytes.ensures.value) ∙ sym c.is_end.ensures ∙ c.if-is_end.true)) ∙ c.loop-word.invariant

pub returns-then-is_bundle : goal.returns-then-is_bundle
returns-then-is_bundle c =
    sym (at_bundle c.args.words.now c.loop-word.word-index _ c.loop-word-test.true
    (ap is_end (sym c.as_bytes.ensures.value) ∙ sym c.is_end.ensures ∙ c.if-is_end.false)
    (ap is_bundle (sym c.as_bytes-in-loop-word.ensures.value) ∙ sym c.is_bundle.ensures ∙ c.if-is_bundle.true)) ∙ c.loop-word.invariant

pub loop-word-preserved : goal.loop-word-preserved
loop-word-preserved c =
    sym (at_other c.args.words.now c.loop-word.word-index _ c.loop-word-test.true
    (ap is_end (sym c.as_bytes.ensures.value) ∙ sym c.is_end.ensures ∙ c.if-is_end.false)
    (ap is_bundle (sym c.as_bytes-in-loop-word.ensures.value) ∙ sym c.is_bundle.ensures ∙ c.if-is_bundle.false)) ∙ c.loop-word.invariant

pub returns : goal.returns
returns c = sym (past c.args.words.now c.loop-word.word-index c.loop-word-test.false) ∙ c.loop-word.invariant
