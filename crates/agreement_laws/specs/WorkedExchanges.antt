-- Worked examples of what was exchanged in a conversation (RFC 2328, sections 10.6, 10.8 and 13.7).
use Rattle.std.specs.Prelude.{◌≡◌, ℕ, true, nat_lt, List, [], ◌∷◌}
use Rattle.std.specs.List.{Contains}
use Rattle.words.specs.Numbers.{InterfaceNumber}
use Rattle.words.specs.declared.key.Key.{Key}
use Rattle.lsdb.specs.Headers.{Header}
use Rattle.lsdb.specs.Instances.{ListEntry}
use Rattle.packet.specs.declared.model.PacketBody.TheVariants as body
use Rattle.packet.specs.declared.model.Hello.{Hello}
use Rattle.packet.specs.Text.{PacketText}
use Rattle.packet.specs.declared.model.Packet.{Packet}
use Rattle.adjacency.specs.Adjacencies.{initial_description}
use Rattle.adjacency.specs.Descriptions.{young_copies}
use Rattle.received.specs.Links.{Link}
use Rattle.event_rules.specs.declared.model.Out.{Out}
use Rattle.event_rules.specs.Events.{Happens, Run, Step}
use Rattle.event_rules.specs.Routers.{Occurrence, Router}
use Rattle.invariants.specs.InOrder.{AnnouncesItsOwn}
use Rattle.agreement_laws.specs.WorkedAdjacency.{IsNamingHello, lonely}
use Rattle.agreement_laws.specs.WorkedExchange.{reply}
use Rattle.agreement_laws.specs.WorkedRun.{receives}
use Rattle.agreement_laws.specs.WorkedUpdates.{NothingAges}
use Rattle.agreement_laws.specs.Exchanged.{Conversation, Converses, WasExchanged, headers_told}

pub record WorkedExchanges : Type 0 where
  -- a run of a router with one interface: a Hello from a neighbor with a larger Router ID, then its
  -- initial Database Description: each header in the Database Description with which this router
  -- answers is exchanged
  pub described : (r new : Router) (link : Link) (moment later from sequence : ℕ)
      (hello_bytes bytes : List ℕ) (h : Hello) (outs answers : List Out)
      → NothingAges r moment → IsNamingHello r link hello_bytes from h → nat_lt r.id from ≡ true
      → PacketText bytes (record {
        router = from;
        body = body.Description (initial_description sequence);
      })
      → AnnouncesItsOwn (lonely r link)
      → (run : Run (lonely r link)
      (receives moment hello_bytes outs ∷ receives later bytes answers ∷ []) new)
      → NothingAges run.0 later
      → (with_it : Conversation) → Converses 1 with_it new
      → (header : Header)
      → Contains (reply later sequence (young_copies later run.0.area.database)).headers header
      → WasExchanged 1 with_it (record { header = header; at = later }) (lonely r link)
      (receives moment hello_bytes outs ∷ receives later bytes answers ∷ []) new
  -- an event: each header in a packet from the neighbor is exchanged
  pub told : (old new : Router) (step : Step) (interface : InterfaceNumber) (bytes : List ℕ)
      (packet : Packet) → Happens old step.moment step.event step.outs new
      → step.event ≡ Occurrence.Packet interface bytes → PacketText bytes packet
      → (with_it : Conversation) → packet.router ≡ with_it.router → Converses interface with_it new
      → (header : Header) → Contains (headers_told packet.body) header
      → WasExchanged interface with_it (record {
        header = header;
        at = step.moment;
      }) old (step ∷ [])
      new
  -- Hellos and Link State Requests have no headers
  pub hellos : (hello : Hello) → headers_told (body.Hello hello) ≡ []
  pub requests : (keys : List Key) → headers_told (body.Request keys) ≡ []
  -- without an event nothing is exchanged
  pub nothing : (old new : Router) (interface : InterfaceNumber) (with_it : Conversation)
      (entry : ListEntry) → WasExchanged interface with_it entry old [] new → ⊥
  -- what was exchanged counts only while the conversation continues
  pub stands : (old new : Router) (steps : List Step) (interface : InterfaceNumber)
      (with_it : Conversation) (entry : ListEntry)
      → WasExchanged interface with_it entry old steps new → Converses interface with_it new
