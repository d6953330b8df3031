use Rattle.std.proofs.Common.{◌≡◌, map, ap, subst, ◌∙◌}
use Rattle.std.specs.Prelude.{None, Some, IfOk}
use Rattle.adjacency.specs.Floods.{is_any}
use Rattle.lsdb.specs.Copies.{copy_of, lsa_now}
use Rattle.lsdb.specs.Headers.{Header, Lsa}
use Rattle.received.specs.Flooding.{flood_to}
use Rattle.received.specs.AreaStates.{stepped_links, stepping_sends}
use Rattle.area.specs.Doing.{LinksDo}
use Rattle.area.specs.Links.{present}
use Rattle.area.proofs.Installed.{at_once}
use Rattle.area.proofs.flood.flood_received.Goals as goal

pub returns : goal.returns
returns c =
    let m = c.args.moment in
    let lsa = c.args.lsa.now in
    let sender = c.args.incoming in
    let P = map present c.args.links.now in
    let same : lsa_now m (copy_of lsa (record {
      age = c.header-header.result.age;
      stored = m;
      received = Some m;
      sent = None;
    })) ≡ lsa =
    ap (λ (h : Header). lsa_now m (copy_of lsa (record {
      age = h.age;
      stored = m;
      received = Some m;
      sent = None;
    }))) c.header-header.ensures
    ∙ at_once m lsa (Some m) c.requires.age in
    record {
      does = subst (λ (l : Lsa). LinksDo (stepped_links (flood_to m sender l))
          (stepping_sends (flood_to m sender l)) c.args.links.now c.flood_links.new.links
          c.flood_links.result) same c.flood_links.ensures.does;
      sent = subst (λ (l : Lsa). IfOk c.flood_links.result (λ sent. sent
          ≡ is_any (stepping_sends (flood_to m sender l) P))) same c.flood_links.ensures.sent;
    }
