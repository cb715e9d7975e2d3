use Rattle.plai_depth_symbols.proofs.Asked.{asked_for_over}
use Rattle.plai_depth_symbols.proofs.Stops.{too_many_over, within, never_over, only_memory}
use Rattle.plai_depth_symbols.proofs.stops_count_patterns_over_the_program.Goals as goal

pub returns : goal.returns
returns c = record { asked = asked_for_over; too_many = too_many_over; within = within; never_over = never_over; complete = only_memory }
