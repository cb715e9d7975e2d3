use Rattle.plai_terms.specs.Subst.{bound_to}
use Rattle.plai_sld.proofs.Pendings.{distinct_put, both_is}
use Rattle.plai_sld.proofs.pending.both.Goals as goal

pub keep_all-requires : goal.keep_all-requires
keep_all-requires c = distinct_put (bound_to c.args.second.now) c.args.first.now c.as_slice.result.now c.in_ok-pairs.pairs.items c.in_ok-pairs.ensures
    c.as_slice.ensures.pairs c.as_slice.ensures.distinct

pub returns : goal.returns
returns c v below =
    both_is c.args.first.now c.args.second.now c.as_slice.result.now c.as_slice-2.result.now c.in_ok-pairs.pairs.items c.keep_all.new.all.items c.new.result v
    c.new.ensures (c.in_ok-keep_all.ensures.bound v below) c.in_ok-pairs.ensures
    c.as_slice.ensures.pairs c.as_slice-2.ensures.pairs
