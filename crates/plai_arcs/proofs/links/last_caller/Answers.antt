use Rattle.std.proofs.Common.{◌≡◌, ℕ, ◌-◌, ◌<◌, false, nat_eq, List, length, slice_index_or, subst, arith}
use Rattle.std.specs.List.{count_by}
use Rattle.plai_arcs.specs.Links.{is_pair}
use Rattle.plai_arcs.proofs.CountLemmas.{stands_at, pair_itself}
use Rattle.plai_arcs.proofs.CutLemmas.{nonzero}
use Rattle.plai_arcs.proofs.links.last_caller.Goals as goal

pub returns-clause-there : goal.returns-clause-there
returns-clause-there c =
    let pairs = c.list-pairs.result.now in
    let full : nat_eq (length pairs) 0 ≡ false = cc in
    let some : 0 < length pairs = nonzero (length pairs) full in
    let p = slice_index_or pairs (length pairs - 1) (0, 0) in
    subst (λ (xs : List (ℕ × ℕ)). 0 < count_by (is_pair p.0 p.1) xs) c.list-pairs.ensures
    (stands_at (is_pair p.0 p.1) pairs (length pairs - 1) (0, 0) (omega arith) (pair_itself p.0 p.1))
