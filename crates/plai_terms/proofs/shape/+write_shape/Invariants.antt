use Rattle.plai_terms.proofs.shape.+write_shape.Given as goal

abbrev pub decreases-write_shape : goal.decreases-write_shape
decreases-write_shape l = l.count
