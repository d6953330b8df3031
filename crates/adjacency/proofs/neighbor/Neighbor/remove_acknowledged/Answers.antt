use Rattle.std.proofs.Common.{cond, ap, sym, ◌∙◌, rules, refl}
use Rattle.std.specs.FinMap as finite
use Rattle.lsdb.specs.Headers.{key_of}
use Rattle.keyed_map.proofs.Helds.{on_ok}
use Rattle.adjacency.specs.Retransmissions.{is_entry, remove_retransmission}
use Rattle.adjacency.specs.Views.{neighbor_of}
use Rattle.adjacency.proofs.Neighbors.{lists_now, releases}
use Rattle.adjacency.proofs.neighbor.Neighbor.remove_acknowledged.Goals as goal

pub returns-then-same : goal.returns-then-same
returns-then-same c =
    let s = c.self.inside.standing in
    let des = c.self.inside.described.present in
    let sum = c.self.inside.summary.present in
    let req = c.self.inside.requests.present in
    let out = c.self.inside.outstanding.present in
    let retr = c.self.inside.retransmissions.present in
    let n = c.args.self.now.present in
    let key = key_of c.args.header.now in
    let is = c.is_entry-same.ensures ∙ ap (is_entry c.args.moment c.args.header.now)
    (c.get.ensures ∙ ap (finite.get retr) c.key-key.ensures ∙ lists_now s des sum req out retr key
    ∙ ap (λ h. finite.get h.present.retransmissions key) c.self.view_is) in
    record {
      ok = on_ok c.remove.result (λ gone.
          ap (neighbor_of s des sum req out) (gone ∙ ap (finite.remove retr) c.key-key.ensures)
          ∙ releases s des sum req out retr key
          ∙ ap (λ h. remove_retransmission key h.present) c.self.view_is
          ∙ ap (λ b. cond b (remove_retransmission key n) n) (sym c.if-same.true ∙ is))
          c.remove.ensures.ok;
      committed = search rules;
    }

pub returns : goal.returns
returns c =
    let retr = c.self.inside.retransmissions.present in
    let n = c.args.self.now.present in
    let key = key_of c.args.header.now in
    let is = c.is_entry-same.ensures ∙ ap (is_entry c.args.moment c.args.header.now)
    (c.get.ensures ∙ ap (finite.get retr) c.key-key.ensures
    ∙ lists_now c.self.inside.standing c.self.inside.described.present c.self.inside.summary.present
    c.self.inside.requests.present c.self.inside.outstanding.present retr key
    ∙ ap (λ h. finite.get h.present.retransmissions key) c.self.view_is) in
    record {
      ok = ap (λ b. cond b (remove_retransmission key n) n) (sym c.if-same.false ∙ is);
      committed = refl;
    }
