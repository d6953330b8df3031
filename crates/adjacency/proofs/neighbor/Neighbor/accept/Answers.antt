use Rattle.std.proofs.Common.{Some, ap, sym, ◌∙◌, rules}
use Rattle.std.specs.List.{fold}
use Rattle.adjacency.specs.Descriptions.{as_received, master_goes_on, slave_replies, with_request}
use Rattle.adjacency.specs.Descriptions.{with_requests}
use Rattle.adjacency.specs.Views.{neighbor_of}
use Rattle.adjacency.proofs.Exchanges.{accepts_following, accepts_leading, is_master_now, receives}
use Rattle.adjacency.proofs.Exchanges.{wants}
use Rattle.adjacency.proofs.Doing.{sends_after}
use Rattle.adjacency.proofs.neighbor.Neighbor.accept.Goals as goal

pub returns-then-leads : goal.returns-then-leads
returns-then-leads c =
    let s = c.self.inside.standing in
    let des = c.self.inside.described.present in
    let sum = c.self.inside.summary.present in
    let req = c.self.inside.requests.present in
    let out = c.self.inside.outstanding.present in
    let retr = c.self.inside.retransmissions.present in
    let moment = c.args.moment in
    let db = c.args.database.now.present in
    let d = c.args.description.now in
    let n = c.args.self.now.present in
    let got = Some c.as_received-received.result in
    let noted = receives s des sum req out retr got
    ∙ ap (λ r. record (neighbor_of s des sum req out retr) { received = Some r })
    c.as_received-received.ensures
    ∙ ap (λ h. record h.present { received = Some (as_received d) }) c.self.view_is in
    let now = ap (λ r. neighbor_of (record s { received = got }) des sum r out retr)
    (c.in_ok-list_all_more_recent.ensures.ok
    ∙ ap (fold (with_request moment db) req) c.as_slice.ensures)
    ∙ wants (record s { received = got }) des sum req out retr moment db d.headers
    ∙ ap (with_requests moment db d.headers) noted in
    let is = ap (λ h. h.present.is_master) (sym c.self.view_is)
    ∙ sym (is_master_now s des sum req out retr) ∙ c.if-leads.true in
    sends_after c.master_goes_on.result (search rules)
    (ap (master_goes_on moment d) now ∙ accepts_leading moment db d n is) c.master_goes_on.ensures

pub returns : goal.returns
returns c =
    let s = c.self.inside.standing in
    let des = c.self.inside.described.present in
    let sum = c.self.inside.summary.present in
    let req = c.self.inside.requests.present in
    let out = c.self.inside.outstanding.present in
    let retr = c.self.inside.retransmissions.present in
    let moment = c.args.moment in
    let db = c.args.database.now.present in
    let d = c.args.description.now in
    let n = c.args.self.now.present in
    let got = Some c.as_received-received.result in
    let noted = receives s des sum req out retr got
    ∙ ap (λ r. record (neighbor_of s des sum req out retr) { received = Some r })
    c.as_received-received.ensures
    ∙ ap (λ h. record h.present { received = Some (as_received d) }) c.self.view_is in
    let now = ap (λ r. neighbor_of (record s { received = got }) des sum r out retr)
    (c.in_ok-list_all_more_recent.ensures.ok
    ∙ ap (fold (with_request moment db) req) c.as_slice.ensures)
    ∙ wants (record s { received = got }) des sum req out retr moment db d.headers
    ∙ ap (with_requests moment db d.headers) noted in
    let is = ap (λ h. h.present.is_master) (sym c.self.view_is)
    ∙ sym (is_master_now s des sum req out retr) ∙ c.if-leads.false in
    sends_after c.slave_replies.result (search rules)
    (ap (slave_replies moment d) now ∙ accepts_following moment db d n is) c.slave_replies.ensures
