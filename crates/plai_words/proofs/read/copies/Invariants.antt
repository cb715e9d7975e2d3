use Rattle.std.proofs.Common.{◌≡◌, take}
use Rattle.plai_words.specs.Command.{texts}
use Rattle.plai_words.proofs.read.copies.Given as goal

abbrev pub invariant-loop-word : goal.invariant-loop-word
invariant-loop-word l = l.names.items ≡ texts (take l.word-index l.words)
