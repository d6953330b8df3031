use Rattle.std.proofs.Common.{[], ◌∷◌, ap, ◌∙◌, rules}
use Rattle.std.specs.FinSet as set
use Rattle.keyed_map.proofs.Helds.{on_ok}
use Rattle.adjacency.specs.Contents.{Requests}
use Rattle.adjacency.specs.Drafts.{drafting}
use Rattle.adjacency.specs.Requests.{next_request}
use Rattle.adjacency.proofs.Sets.{first_now, keys_none, outstanding_now, requests_out}
use Rattle.adjacency.proofs.neighbor.Neighbor.request_first.Goals as goal

pub put_keys-requires : goal.put_keys-requires
put_keys-requires c =
    keys_none c.self.inside.outstanding.present
    (outstanding_now c.self.inside.standing c.self.inside.described.present
    c.self.inside.summary.present c.self.inside.requests.present
    c.self.inside.outstanding.present c.self.inside.retransmissions.present
    ∙ ap (λ h. h.present.outstanding) c.self.view_is ∙ c.requires)

pub returns : goal.returns
returns c =
    record {
      ok = on_ok c.add_request.result (λ sent.
          requests_out c.self.inside.standing c.self.inside.described.present
          c.self.inside.summary.present c.self.inside.requests.present
          c.self.inside.outstanding.present c.self.inside.retransmissions.present c.args.moment
          c.put_keys.new.keys_set.present c.in_ok-keys.keys.items
          (c.in_ok-put_keys.ensures.ok ∙ ap set.from_list c.deref.ensures.value)
          c.in_ok-keys.ensures
          ∙ ap (λ h. record h.present {
            outstanding = set.from_list (next_request h.present);
            requested_at = c.args.moment;
          }) c.self.view_is) c.add_request.ensures;
      draft = on_ok c.add_request.result (λ sent delay.
          sent delay ∙ ap (λ ks. drafting delay (Requests ks ∷ []) c.args.draft.now)
          (c.from_vec.ensures ∙ c.in_ok-keys.ensures
          ∙ first_now c.self.inside.standing c.self.inside.described.present
          c.self.inside.summary.present c.self.inside.requests.present
          c.self.inside.outstanding.present c.self.inside.retransmissions.present
          ∙ ap (λ h. next_request h.present) c.self.view_is)) c.add_request.ensures;
      committed = search rules;
    }
