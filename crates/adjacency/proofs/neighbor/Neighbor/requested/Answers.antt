use Rattle.std.proofs.Common.{ap, sym, ◌∙◌}
use Rattle.std.specs.FinMap as finite
use Rattle.lsdb.specs.Copies.{lsa_now}
use Rattle.lsdb.specs.Headers.{key_of}
use Rattle.adjacency.specs.Floods.{request_of}
use Rattle.adjacency.proofs.Neighbors.{requests_nothing_now, requests_now}
use Rattle.adjacency.proofs.neighbor.Neighbor.requested.Goals as goal

pub returns-in-None : goal.returns-in-None
returns-in-None c =
    let lsa = lsa_now c.args.moment c.args.copy.now in
    let req = c.self.inside.requests.present in
    c.in-None.ensures ∙ ap (finite.get req) (c.key.ensures ∙ ap key_of c.header-header.ensures)
    ∙ sym (requests_now c.self.inside.standing c.self.inside.described.present
    c.self.inside.summary.present req c.self.inside.outstanding.present
    c.self.inside.retransmissions.present lsa
    (sym c.is_exchange_or_loading-synchronizing.ensures ∙ c.if-synchronizing.true))
    ∙ ap (λ h. request_of h.present lsa) c.self.view_is

pub returns-in-Some : goal.returns-in-Some
returns-in-Some c =
    let lsa = lsa_now c.args.moment c.args.copy.now in
    let req = c.self.inside.requests.present in
    c.in-Some.ensures ∙ ap (finite.get req) (c.key.ensures ∙ ap key_of c.header-header.ensures)
    ∙ sym (requests_now c.self.inside.standing c.self.inside.described.present
    c.self.inside.summary.present req c.self.inside.outstanding.present
    c.self.inside.retransmissions.present lsa
    (sym c.is_exchange_or_loading-synchronizing.ensures ∙ c.if-synchronizing.true))
    ∙ ap (λ h. request_of h.present lsa) c.self.view_is

pub returns : goal.returns
returns c =
    let lsa = lsa_now c.args.moment c.args.copy.now in
    sym (requests_nothing_now c.self.inside.standing c.self.inside.described.present
    c.self.inside.summary.present c.self.inside.requests.present
    c.self.inside.outstanding.present c.self.inside.retransmissions.present lsa
    (sym c.is_exchange_or_loading-synchronizing.ensures ∙ c.if-synchronizing.false))
    ∙ ap (λ h. request_of h.present lsa) c.self.view_is
