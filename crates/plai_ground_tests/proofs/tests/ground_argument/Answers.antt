use Rattle.std.proofs.Common.{ap}
use Rattle.plai_pos_laws.specs.Groundness.{arity_of, groundness}
use Rattle.plai_pos.specs.Values.{value_of}
use Rattle.plai_pos.proofs.Equal.{is_value}
use Rattle.plai_ground_tests.proofs.Fits.{by_arity_fits}
use Rattle.plai_ground_tests.proofs.tests.ground_argument.Goals as goal

pub returns : goal.returns
returns c = by_arity_fits groundness 1 (value_of c.in_ok-describe.field-0) (is_value c.in_ok-describe.field-0 1 (ap arity_of c.in_ok-describe.ensures))
