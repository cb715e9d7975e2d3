use Rattle.std.proofs.Common.{◌≡◌, drop}
use Rattle.plai_words.specs.Command.{texts}
use Rattle.plai_words.specs.Options.{has_bundle}
use Rattle.plai_words.proofs.bundle.has_bundle.Given as goal

abbrev pub invariant-loop-word : goal.invariant-loop-word
invariant-loop-word l = has_bundle (texts (drop l.word-index l.words)) ≡ has_bundle (texts l.words)
