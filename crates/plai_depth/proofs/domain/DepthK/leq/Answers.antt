use Rattle.std.proofs.Common.{◌≡◌, map}
use Rattle.plai_depth_laws.specs.OrderTest.{is_under, are_under}
use Rattle.plai_depth_laws.specs.DepthK.{skeletons_of}
use Rattle.plai_depth.proofs.Shapes.{ordered}
use Rattle.plai_depth.proofs.domain.DepthK.leq.Goals as goal

pub returns : goal.returns
returns c =
    let is : c.are_under.result ≡ are_under (map is_under (skeletons_of c.args.a.now)) (skeletons_of c.args.b.now) = cc in
    λ n h g. ordered c.args.self.now.depth n c.args.a.now c.args.b.now c.are_under.result is h g
