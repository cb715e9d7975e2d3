use Rattle.plai_top.proofs.analysis.analyse_all.Goals as goal

pub returns-in-Ground-clause-blocks : goal.returns-in-Ground-clause-blocks
returns-in-Ground-clause-blocks g c = rw c.in-Ground.is c.write_blocks.ensures.blocks

pub returns-in-Share-clause-blocks : goal.returns-in-Share-clause-blocks
returns-in-Share-clause-blocks g c = rw c.in-Share.is c.write_blocks-in-Share.ensures.blocks

pub returns-in-Depth-clause-blocks : goal.returns-in-Depth-clause-blocks
returns-in-Depth-clause-blocks g c = rw c.in-Depth.is (rw c.new-domain.ensures at c.write_blocks-in-Depth.ensures.blocks)

pub returns-in-Ground-clause-worked : goal.returns-in-Ground-clause-worked
returns-in-Ground-clause-worked g c = rw c.in-Ground.is c.write_blocks.ensures.worked

pub returns-in-Share-clause-worked : goal.returns-in-Share-clause-worked
returns-in-Share-clause-worked g c = rw c.in-Share.is c.write_blocks-in-Share.ensures.worked

pub returns-in-Depth-clause-worked : goal.returns-in-Depth-clause-worked
returns-in-Depth-clause-worked g c = rw c.in-Depth.is (rw c.new-domain.ensures at c.write_blocks-in-Depth.ensures.worked)
