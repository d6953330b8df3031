-- The draft of what an event sends at an interface.
use Rattle.std.specs.Prelude.{◌≡◌, List}
use Rattle.std.specs.List.{AllByRecursion, filter_map}
use Rattle.words.specs.Numbers.{InterfaceNumber}
use Rattle.adjacency.specs.Drafts.{Drafted, drafting}
pub use Rattle.adjacency.specs.Drafts.{nothing_drafted}
use Rattle.adjacency.specs.Rooms.{HasRoom}
use Rattle.received.specs.Links.{Link}
use Rattle.received.specs.AreaStates.{Send, at_interface}

-- the draft of what is sent at the interface with this number, which is the link's; each content
-- fits into a packet
pub record IsDraftAt (interface : InterfaceNumber) (link : Link) (sends : List Send)
    (draft : Drafted) : Type 0 where
  pub drafted : draft
      ≡ drafting link.interface.delay (filter_map (at_interface interface) sends) nothing_drafted
  pub room : AllByRecursion (λ (s : Send). HasRoom s.content) sends
