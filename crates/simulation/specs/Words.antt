-- What words stand for.
use Rattle.std.specs.Prelude.{◌≡◌, ◌≤◌, ℕ, Option, Some, None, codes, decimal}
use Rattle.clap.specs.Walk.{Text}
use Rattle.simulated_networks.specs.declared.plan.Scenario.{Scenario}
use Rattle.simulated_networks.specs.declared.plan.Scenario.TheVariants as scenarios
use Rattle.simulated_networks.specs.declared.topology.TopologyShape.{TopologyShape}
use Rattle.simulated_networks.specs.declared.topology.TopologyShape.TheVariants as kinds

abbrev pub topology_word : TopologyShape → Text
topology_word kinds.Grid = codes "grid"
topology_word kinds.Row = codes "row"
topology_word kinds.Ring = codes "ring"
topology_word kinds.FatTree = codes "fat-tree"
topology_word kinds.Random = codes "random"

abbrev pub scenario_word : Scenario → Text
scenario_word scenarios.Start = codes "start"
scenario_word scenarios.Link = codes "link"
scenario_word scenarios.Silent = codes "silent"
scenario_word scenarios.Restart = codes "restart"
scenario_word scenarios.Flap = codes "flap"
scenario_word scenarios.Partition = codes "partition"
scenario_word scenarios.Announce = codes "announce"
scenario_word scenarios.Withdraw = codes "withdraw"
scenario_word scenarios.Storm = codes "storm"

-- what a word means, or what is so if there is none
abbrev pub OrElse : Option Text → Type 0 → (Text → Type 0) → Type 0
OrElse None Usual Means = Usual
OrElse (Some word) Usual Means = Means word

-- a number in decimal, within these
abbrev pub IsNumber : (least most : ℕ) → Text → ℕ → Type 0
IsNumber least most word n = (word ≡ decimal n) × (least ≤ n) × (n ≤ most)
