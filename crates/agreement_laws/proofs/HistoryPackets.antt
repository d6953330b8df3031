-- The packets of the history, and that their encodings are valid.
use Rattle.std.proofs.Common.{ℕ, ◌^◌, ◌≤◌, ◌<◌, [], ◌∷◌, length, None, Some, arith, rules}
use Rattle.lsa.specs.Origination.{sealed_lsa}
use Rattle.lsdb.specs.Headers.{key_of}
use Rattle.lsdb.specs.Instances.{listed_header_now}
use Rattle.packet.specs.declared.model.PacketBody.{PacketBody}
use Rattle.packet.specs.declared.model.PacketBody.TheVariants as body
use Rattle.packet.specs.declared.model.Description.{Description}
use Rattle.packet.specs.Text.{IsBody, closed_fields, text}
use Rattle.packet.proofs.Patch.{canonical_is_text}
use Rattle.adjacency.specs.Adjacencies.{initial_description}
use Rattle.event_rules.specs.Hellos.{hello_on}
use Rattle.event_rules.specs.Packing.{IsSentText, packet_of}
use Rattle.agreement_laws.proofs.HistoryStart.{link_with}
use Rattle.agreement_laws.proofs.HistoryLeft.{a, answer, b, init, last_one, listed, reply}

encoded : (own : ℕ) (says : PacketBody) → own < 2 ^ 32 → IsBody says
    → length (text closed_fields 0 (packet_of own says)) ≤ 8192 → IsSentText own says
encoded own says router is size =
    canonical_is_text (packet_of own says) (record { router = router; body = is }) size

-- ---- Hellos

pub first_hello : IsSentText 2 (body.Hello (hello_on (link_with b None None)))
first_hello =
    encoded 2 (body.Hello (hello_on (link_with b None None))) (omega arith) (record {
      mask = omega arith;
      hello_interval = omega arith;
      options = omega arith;
      priority = omega arith;
      dead_interval = omega arith;
      neighbors = tt;
    }) (omega arith)

pub second_hello : IsSentText 1 (body.Hello (hello_on (link_with a (Some init) None)))
second_hello =
    encoded 1 (body.Hello (hello_on (link_with a (Some init) None))) (omega arith) (record {
      mask = omega arith;
      hello_interval = omega arith;
      options = omega arith;
      priority = omega arith;
      dead_interval = omega arith;
      neighbors = (omega arith, tt);
    }) (omega arith)

-- ---- Descriptions

without_headers : (own : ℕ) (d : Description) → own < 2 ^ 32 → d.mtu < 2 ^ 16
    → d.options < 2 ^ 8 → d.sequence < 2 ^ 32 → IsSentText own (body.Description (record d {
      headers = [];
    }))
without_headers own d router mtu options sequence =
    encoded own (body.Description (record d { headers = [] })) router (record {
      mtu = mtu;
      options = options;
      sequence = sequence;
      headers = tt;
    }) (omega arith)

pub opening : IsSentText 2 (body.Description (initial_description 3600))
opening =
    without_headers 2 (initial_description 3600) (omega arith) (omega arith) (omega arith)
    (omega arith)

pub own_opening : IsSentText 1 (body.Description (initial_description 0))
own_opening =
    without_headers 1 (initial_description 0) (omega arith) (omega arith) (omega arith)
    (omega arith)

pub replying : IsSentText 1 (body.Description reply)
unfolding sealed_lsa
replying =
    encoded 1 (body.Description reply) (omega arith) (record {
      mtu = omega arith;
      options = omega arith;
      sequence = omega arith;
      headers = (
        record {
          age = omega arith;
          options = omega arith;
          ls_type = omega arith;
          link_state_id = omega arith;
          advertising_router = omega arith;
          sequence = search rules;
          checksum = omega arith;
          length = omega arith;
        },
        tt,
      );
    }) (omega arith)

pub ending : IsSentText 2 (body.Description last_one)
ending = without_headers 2 last_one (omega arith) (omega arith) (omega arith) (omega arith)

pub answering : IsSentText 1 (body.Description answer)
answering = without_headers 1 answer (omega arith) (omega arith) (omega arith) (omega arith)

-- ---- a Link State Request

pub requesting : IsSentText 2 (body.Request (key_of (listed_header_now 0 listed) ∷ []))
unfolding sealed_lsa
requesting =
    encoded 2 (body.Request (key_of (listed_header_now 0 listed) ∷ [])) (omega arith) (
      record {
        ls_type = omega arith;
        link_state_id = omega arith;
        advertising_router = omega arith;
      },
      tt,
    ) (omega arith)
