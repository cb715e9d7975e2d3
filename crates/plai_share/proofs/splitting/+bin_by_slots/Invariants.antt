use Rattle.plai_share.proofs.splitting.+bin_by_slots.Given as goal

abbrev pub decreases-bin_by_slots : goal.decreases-bin_by_slots
decreases-bin_by_slots l = l.slots
