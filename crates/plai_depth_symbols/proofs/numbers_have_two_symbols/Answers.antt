use Rattle.plai_depth_symbols.proofs.Examples.{numbers_signature, successor_over, atom_not_over}
use Rattle.plai_depth_symbols.proofs.numbers_have_two_symbols.Goals as goal

pub returns : goal.returns
returns c = record { signature = numbers_signature; over = successor_over; not_over = atom_not_over }
