use Rattle.std.proofs.Common.{length}
use Rattle.plai_arcs.proofs.PlaceLemmas.{fits_first, fits_second, not_ok}
use Rattle.plai_arcs.proofs.row_calls.Called.make_room.Goals as goal

pub returns-in_err-reserve-clause-succeeds : goal.returns-in_err-reserve-clause-succeeds
returns-in_err-reserve-clause-succeeds c h =
    let s = c.args.self.now in
    absurd (not_ok c.reserve.result _ c.in_err-reserve.was
    (c.reserve.ensures.succeeds (fits_first c.args.count (length s.rows.items) s.rows.capacity (length s.places.items) s.places.capacity h)))

pub returns-clause-succeeds : goal.returns-clause-succeeds
returns-clause-succeeds c h =
    let s = c.args.self.now in
    c.reserve-2.ensures.succeeds (fits_second c.args.count (length s.rows.items) s.rows.capacity (length s.places.items) s.places.capacity h)
