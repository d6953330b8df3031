-- Both ends of a link that counts have an LSA.
use Rattle.std.proofs.Common.{ℕ}
use Rattle.routes.specs.Links.{LeadsTo}
use Rattle.routes.specs.Contents.{Contents}
use Rattle.routes.specs.declared.node.Node.{Node}
use Rattle.routes.specs.declared.node.Node.TheVariants.{ANetwork, ARouter}
use Rattle.routes.specs.declared.root.Root.{Root}
use Rattle.candidates.specs.Nodes.{HasLsa}

pub near_end : (contents : Contents) (root : Root) (from to : Node) (price exit : ℕ)
    → LeadsTo contents root from to price exit → HasLsa contents from
near_end contents root (ARouter a) (ARouter b) price exit l = (l.0.its.lsa, l.0.its.its)
near_end contents root (ARouter a) (ANetwork id by) price exit l = (l.0.its.lsa, l.0.its.its)
near_end contents root (ANetwork id by) (ARouter b) price exit l = (l.0.lsa, l.0.its)
near_end contents root (ANetwork id by) (ANetwork other its) price exit l = absurd l

pub far_end : (contents : Contents) (root : Root) (from to : Node) (price exit : ℕ)
    → LeadsTo contents root from to price exit → HasLsa contents to
far_end contents root (ARouter a) (ARouter b) price exit l = (l.1.1.lsa, l.1.1.its)
far_end contents root (ARouter a) (ANetwork id by) price exit l = (l.1.lsa, l.1.its)
far_end contents root (ANetwork id by) (ARouter b) price exit l = (l.1.1.lsa, l.1.1.its)
far_end contents root (ANetwork id by) (ANetwork other its) price exit l = absurd l
