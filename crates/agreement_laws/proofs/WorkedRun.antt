-- A Hello starts an adjacency, and the exchange follows in the next event.
use Rattle.std.proofs.Common.{◌≡◌, ℕ, ◌==◌, true, cond, Some, refl, sym, ap, subst, ◌∙◌}
use Rattle.std.specs.FinMap as finite
use Rattle.lsdb.specs.Instances.{ListEntry}
use Rattle.lsdb.specs.Keys.{key_cmp}
use Rattle.adjacency.specs.Adjacencies.{initial_description}
use Rattle.adjacency.specs.Descriptions.{Verdict, young_copies}
use Rattle.adjacency.specs.Neighbors.{Neighbor}
use Rattle.adjacency.specs.declared.state.NeighborState.TheVariants.{Exchange}
use Rattle.received.specs.Links.{Link}
use Rattle.event_rules.specs.Events.{Happens}
use Rattle.event_rules.specs.Packing.{outs_of}
use Rattle.event_rules.specs.EventState.{EventState}
use Rattle.event_rules.specs.Routers.{Occurrence, Router, shown_at}
use Rattle.agreement_laws.specs.WorkedAdjacency.{IsJudged, describes}
use Rattle.agreement_laws.specs.WorkedExchange.{in_ex_start, reply}
use Rattle.agreement_laws.specs.WorkedRun.{AnAdjacencyIsNegotiated}
use Rattle.agreement_laws.proofs.WorkedAdjacency.{last_heard, hello_ends, opens_it}
use Rattle.agreement_laws.proofs.WorkedEnds.{ended}
use Rattle.agreement_laws.proofs.WorkedExchange.{negotiates_it}
use Rattle.agreement_laws.specs.WorkedUpdates.{NothingAges}
use Rattle.agreement_laws.proofs.WorkedHello.{opener}

-- the router after the Hello, except for its neighbor
abbrev greeted_by : Router → Link → ℕ → ℕ → Router
greeted_by r link moment from = (ended moment (last_heard r link moment from)).router

pub is_negotiated : AnAdjacencyIsNegotiated
is_negotiated r new link moment later from sequence hello_bytes bytes h outs answers nothing hello
    larger text run still =
    let first = opens_it r run.0 link moment from hello_bytes h outs nothing hello run.1 in
    let q : Router = greeted_by r link moment from in
    let n : Neighbor = opener moment from in
    let none : (finite.len n.requests == 0) ≡ true =
    ap (λ k. k == 0) (finite.len-empty key_cmp ListEntry) in
    let judged : IsJudged q (in_ex_start n) bytes (initial_description sequence)
    Verdict.NegotiatedAsSlave =
    record {
      is_text = text;
      is_other = hello.is_other;
      fits = refl;
      is_judged = ap (λ b. cond b Verdict.NegotiatedAsSlave Verdict.Discarded) larger;
    } in
    let is : q ≡ run.0 = sym (run.1.router
    ∙ ap (λ (p : EventState). p.router)
    (hello_ends r run.0 link moment from hello_bytes h outs nothing hello run.1)) in
    let second = subst
    (λ (s : Router). NothingAges s later
    → Happens s later (Occurrence.Packet 1 bytes) answers run.2.0
    → (shown_at run.2.0 1 ≡ Some (from, Exchange))
    × (answers ≡ outs_of r.id s.area.links
    (describes (reply later sequence (young_copies later s.area.database)))))
    is (λ no_sends happens. negotiates_it q run.2.0 link n later sequence bytes answers no_sends
    judged none happens) still run.2.1 in
    (first.1, first.0, ap (λ s. shown_at s 1) run.2.2 ∙ second.0, second.1)
