-- Worked examples of what was exchanged in a conversation.
use Rattle.std.proofs.Common.{◌≡◌, ℕ, true, nat_lt, List, [], ◌∷◌, Option, None, Some, refl, sym}
use Rattle.std.proofs.Common.{subst}
use Rattle.std.specs.List.{Contains}
use Rattle.lsdb.specs.Headers.{Header}
use Rattle.lsdb.specs.Instances.{ListEntry}
use Rattle.packet.specs.declared.model.PacketBody.TheVariants as body
use Rattle.packet.specs.declared.model.Description.{Description}
use Rattle.packet.specs.declared.model.Hello.{Hello}
use Rattle.packet.specs.declared.model.Packet.{Packet}
use Rattle.packet.specs.Text.{PacketText}
use Rattle.adjacency.specs.Adjacencies.{initial_description}
use Rattle.adjacency.specs.Contents.{Content}
use Rattle.adjacency.specs.Descriptions.{young_copies}
use Rattle.adjacency.specs.declared.state.NeighborState.{NeighborState}
use Rattle.received.specs.Links.{Link, link_at, neighbor_on}
use Rattle.adjacency.specs.Steps.{named_neighbor}
use Rattle.event_rules.specs.declared.model.Out.{Out}
use Rattle.event_rules.specs.Events.{Happens, Run, Step}
use Rattle.event_rules.specs.Packing.{out_of, outs_of}
use Rattle.event_rules.specs.Routers.{Occurrence, Router}
use Rattle.invariants.specs.InOrder.{AnnouncesItsOwn}
use Rattle.invariants.proofs.Known.{router_stays}
use Rattle.invariants.proofs.Taken.{named_first}
use Rattle.agreement_laws.specs.WorkedAdjacency.{IsNamingHello, describes, lonely}
use Rattle.agreement_laws.specs.WorkedExchange.{reply}
use Rattle.agreement_laws.specs.WorkedRun.{receives}
use Rattle.agreement_laws.proofs.WorkedRun.{is_negotiated}
use Rattle.agreement_laws.specs.WorkedUpdates.{NothingAges}
use Rattle.agreement_laws.specs.Exchanged.{Conversation, Converses, GoesOn, IsExchanged}
use Rattle.agreement_laws.specs.Exchanged.{WasExchanged, headers_told}
use Rattle.agreement_laws.specs.WorkedExchanges.{WorkedExchanges}
use Rattle.agreement_laws.proofs.Sent.{goes_out}

-- a neighbor that is shown is at an interface
its_link : (o : Option Link) (from : ℕ) (state : NeighborState) → named_neighbor (neighbor_on o)
    ≡ Some (from, state) → (link : Link) × (o ≡ Some link)
its_link None from state e = absurd cc
its_link (Some link) from state e = (link, refl)

described : (r new : Router) (link : Link) (moment later from sequence : ℕ)
    (hello_bytes bytes : List ℕ) (h : Hello) (outs answers : List Out) → NothingAges r moment
    → IsNamingHello r link hello_bytes from h → nat_lt r.id from ≡ true
    → PacketText bytes (record {
      router = from;
      body = body.Description (initial_description sequence);
    })
    → AnnouncesItsOwn (lonely r link)
    → (run : Run (lonely r link) (receives moment hello_bytes outs ∷ receives later bytes answers
    ∷ []) new) → NothingAges run.0 later
    → (with_it : Conversation) → Converses 1 with_it new → (header : Header)
    → Contains (reply later sequence (young_copies later run.0.area.database)).headers header
    → WasExchanged 1 with_it (record {
      header = header;
      at = later;
    }) (lonely r link)
    (receives moment hello_bytes outs ∷ receives later bytes answers ∷ []) new
described r new link moment later from sequence hello_bytes bytes h outs answers nothing hello
    larger text own run still with_it converses header among =
    let d : Description = reply later sequence (young_copies later run.0.area.database) in
    let worked = is_negotiated r new link moment later from sequence hello_bytes bytes h outs
    answers nothing hello larger text run still in
    let there = its_link (link_at 1 run.0.area.links) from _ worked.1 in
    let sent : Contains (outs_of r.id run.0.area.links (describes d))
    (out_of r.id 1 (body.Description d)) =
    goes_out d r.id (describes d) 1 run.0.area.links there.0 there.1
    (named_first (record {
      interface = 1;
      content = Content.Describes d;
    }) [] (record {
      interface = 1;
      content = Content.Describes d;
    }) refl) in
    let same : r.id ≡ run.0.id = sym (router_stays (lonely r link) moment
    (Occurrence.Packet 1 hello_bytes) outs run.0 run.1 own) in
    let out : Contains answers (out_of run.0.id 1 (body.Description d)) =
    subst (λ id. Contains answers (out_of id 1 (body.Description d))) same
    (subst (λ (os : List Out). Contains os (out_of r.id 1 (body.Description d))) (sym worked.3)
    sent) in
    WasExchanged.Later (lonely r link) run.0 new (receives moment hello_bytes outs)
    (receives later bytes answers ∷ []) run.1
    (WasExchanged.Now run.0 run.2.0 new (receives later bytes answers) [] run.2.1
    (IsExchanged.Described (record { description = d; sent = out; among = among })) refl
    (run.2.2, subst (Converses 1 with_it) run.2.2 converses))

told : (old new : Router) (step : Step) (number : ℕ) (bytes : List ℕ) (packet : Packet)
    → Happens old step.moment step.event step.outs new → step.event ≡ Occurrence.Packet number bytes
    → PacketText bytes packet → (with_it : Conversation) → packet.router ≡ with_it.router
    → Converses number with_it new
    → (header : Header) → Contains (headers_told packet.body) header
    → WasExchanged number with_it (record {
      header = header;
      at = step.moment;
    }) old (step ∷ []) new
told old new step number bytes packet happens is text with_it from converses header among =
    WasExchanged.Now old new new step [] happens (IsExchanged.Told (record {
      bytes = bytes;
      packet = packet;
      is = is;
      text = text;
      from = from;
      told = among;
    })) refl
    (refl, converses)

still_stands : (number : ℕ) (with_it : Conversation) (steps : List Step) (old new : Router)
    → GoesOn number with_it old steps new → Converses number with_it new
still_stands number with_it [] old new goes = subst (Converses number with_it) (sym goes.0) goes.1
still_stands number with_it (s ∷ steps) old new goes =
    still_stands number with_it steps goes.1 new goes.3

nothing : (old new : Router) (number : ℕ) (with_it : Conversation) (entry : ListEntry)
    (steps : List Step) → steps ≡ [] → WasExchanged number with_it entry old steps new → ⊥
nothing old new number with_it entry steps is
    (WasExchanged.Now o m n step rest happens exchanged at goes) = absurd cc
nothing old new number with_it entry steps is (WasExchanged.Later o m n step rest happens was) =
    absurd cc

stands : (number : ℕ) (with_it : Conversation) (entry : ListEntry) (old new : Router)
    (steps : List Step) → WasExchanged number with_it entry old steps new
    → Converses number with_it new
stands number with_it entry old new steps
    (WasExchanged.Now o m n step rest happens exchanged at goes) =
    still_stands number with_it rest m n goes
stands number with_it entry old new steps (WasExchanged.Later o m n step rest happens was) =
    stands number with_it entry m n rest was

pub worked : WorkedExchanges
worked = record {
  described = described;
  told = told;
  hellos = λ hello. refl;
  requests = λ keys. refl;
  nothing = λ old new number with_it entry was. nothing old new number with_it entry [] refl was;
  stands = λ old new steps number with_it entry. stands number with_it entry old new steps;
}
