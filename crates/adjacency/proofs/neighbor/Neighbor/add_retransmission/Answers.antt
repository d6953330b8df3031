use Rattle.std.proofs.Common.{◌==◌, cond, ap, ◌∙◌, rules}
use Rattle.std.specs.FinMap as finite
use Rattle.lsdb.specs.Headers.{key_of}
use Rattle.adjacency.specs.Retransmissions.{add_retransmission}
use Rattle.keyed_map.proofs.Helds.{on_ok}
use Rattle.adjacency.specs.Views.{neighbor_of}
use Rattle.adjacency.proofs.Neighbors.{has_retransmission}
use Rattle.adjacency.proofs.neighbor.Neighbor.add_retransmission.Goals as goal

pub returns : goal.returns
returns c =
    let s = c.self.inside.standing in
    let des = c.self.inside.described.present in
    let sum = c.self.inside.summary.present in
    let req = c.self.inside.requests.present in
    let out = c.self.inside.outstanding.present in
    let retr = c.self.inside.retransmissions.present in
    let rest = c.in_ok-remove.ensures.ok ∙ ap (finite.remove retr) c.key.ensures in
    let start = c.timer_start-self-inside.ensures
    ∙ ap (λ b. cond b c.args.moment s.retransmitted_at)
    (c.is_empty-first.ensures ∙ ap (λ m. finite.len m == 0) rest) in
    record {
      ok = on_ok c.insert.result (λ is.
          ap (λ t. neighbor_of (record s {
            retransmitted_at = t;
          }) des sum req out c.insert.new.self.present) start
          ∙ ap (neighbor_of (record s {
            retransmitted_at = cond
                (finite.len (finite.remove retr (key_of c.args.header.now)) == 0)
                c.args.moment s.retransmitted_at;
          }) des sum req out)
          (is ∙ ap (λ k. finite.insert c.remove.new.self.present k (record {
            header = c.args.header.now;
            at = c.args.moment;
          })) c.key-2.ensures
          ∙ ap (λ m. finite.insert m (key_of c.args.header.now) (record {
            header = c.args.header.now;
            at = c.args.moment;
          })) rest)
          ∙ has_retransmission s des sum req out retr c.args.moment c.args.header.now
          ∙ ap (λ h. add_retransmission c.args.moment c.args.header.now h.present) c.self.view_is)
          c.insert.ensures.ok;
      committed = search rules;
    }
