-- What a link sends without a neighbor, and when nothing is answered.
use Rattle.std.proofs.Common.{◌≡◌, ℕ, sym, ap, ◌∙◌}
use Rattle.std.specs.Prelude.{Option, None, Some}
use Rattle.adjacency.specs.Contents.{Step, no_sends, sent_on}
use Rattle.adjacency.specs.Drafts.{Drafted, drafting}
use Rattle.adjacency.specs.Neighbors.{Neighbor}
use Rattle.adjacency.proofs.Floods.{drafting-none}

-- without a neighbor nothing is sent
pub none_sent : (F : Neighbor → Step) (o : Option Neighbor) (delay : ℕ) (d : Drafted) → o ≡ None
    → d ≡ drafting delay (sent_on F o) d
none_sent F o delay d is =
    drafting-none delay d ∙ ap (λ p. drafting delay (sent_on F p) d) (sym is)

-- a Link State Acknowledgment isn't answered
pub silent : (f : Neighbor → Neighbor) (o : Option Neighbor) (delay : ℕ) (d : Drafted)
    → d ≡ drafting delay (sent_on (λ n. no_sends (f n)) o) d
silent f None delay d = drafting-none delay d
silent f (Some n) delay d = drafting-none delay d
