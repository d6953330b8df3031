-- The complete history.
use Rattle.std.proofs.Common.{◌≡◌, ℕ, List, [], ◌∷◌, None, Some, refl, sym, subst, ◌∙◌, arith}
use Rattle.std.specs.List.{Contains}
use Rattle.std.specs.FinMap as finite
use Rattle.lsdb.specs.Copies.{DatabaseCopy}
use Rattle.lsdb.specs.Headers.{Lsa, key_of}
use Rattle.lsdb.specs.Keys.{key_cmp}
use Rattle.lsdb.specs.Instances.{listed_header_now}
use Rattle.packet.specs.declared.model.PacketBody.TheVariants as body
use Rattle.packet.specs.declared.model.Packet.{Packet}
use Rattle.packet.specs.Text.{canonical}
use Rattle.adjacency.specs.Adjacencies.{initial_description}
use Rattle.event_rules.specs.InstanceIdentities.{identity_of_lsa}
use Rattle.event_rules.specs.Originations.{router_key}
use Rattle.event_rules.specs.Routers.{Occurrence}
use Rattle.invariants.proofs.Taken.{named_first}
use Rattle.invariants.proofs.Lists.{later_is}
use Rattle.agreement_laws.specs.NeighborHistories.{Doing, Ends, HasBegun, IsHistory, Pair, Party}
use Rattle.agreement_laws.specs.NeighborHistories.{Side, TakesEvent, Turn}
use Rattle.agreement_laws.specs.WorkedHistory.{AHistoryMeetsThePremises}
use Rattle.agreement_laws.proofs.HistoryStart.{begins_so, begun, config, copy, found}
use Rattle.agreement_laws.proofs.HistoryLeft as left
use Rattle.agreement_laws.proofs.HistoryLeft.{a, b}
use Rattle.agreement_laws.proofs.HistoryRight as right
use Rattle.agreement_laws.proofs.HistoryPackets as packets
use Rattle.agreement_laws.proofs.HistoryTurns.{next, taken}

abbrev first : ℕ → ℕ → Party
first id address = record { router = begun id address; sent = []; began = 0 }

has_begun : (id address : ℕ) → HasBegun (first id address)
has_begun id address = record {
  config = config id address;
  router = sym (begins_so id address);
  sent = refl;
  began = refl;
}

abbrev ends : Ends
ends = record { left = 1; right = 1 }

-- the bytes that are received encode this packet of the other router
only : (heard : List (List ℕ)) (p : Packet) → Contains heard (canonical p) → (bytes : List ℕ)
    → Occurrence.Packet 1 (canonical p) ≡ Occurrence.Packet 1 bytes → Contains heard bytes
only heard p among bytes is = subst (λ (x : List ℕ). Contains heard x) same among
  where
    same : canonical p ≡ bytes
    same = cc

no_packet : (bytes : List ℕ) → Occurrence.Tick ≡ Occurrence.Packet 1 bytes → ⊥
no_packet bytes is = absurd cc

-- ---- the two, turn by turn

abbrev right_1 : Party
right_1 = next (first 2 b) right.greets_first

abbrev left_2 : Party
left_2 = next (first 1 a) left.heard

abbrev left_3 : Party
left_3 = next left_2 left.greets_with

abbrev right_4 : Party
right_4 = next right_1 right.opened_at_end

abbrev left_5 : Party
left_5 = next left_3 left.replied

abbrev right_6 : Party
right_6 = next right_4 right.led

abbrev left_7 : Party
left_7 = next left_5 left.at_rest

abbrev own_opening : Packet
own_opening = record { router = 1; body = body.Description (initial_description 0) }

abbrev requests : Packet
requests = record {
  router = 2;
  body = body.Request (key_of (listed_header_now 0 left.listed) ∷ []);
}

right_greets : TakesEvent 1 (first 1 a).sent (first 2 b) right_1
right_greets =
    taken (first 1 a).sent (first 2 b) 0 Occurrence.Tick right.greets_first right.greets_first
    right.greets right.greets_end (omega arith) (λ bytes is. absurd (no_packet bytes is)) tt
    ((packets.first_hello, tt), tt)

left_hears : TakesEvent 1 right_1.sent (first 1 a) left_2
left_hears =
    taken right_1.sent (first 1 a) 0 (Occurrence.Packet 1 (canonical left.its_hello)) left.heard
    left.heard (left.its_hello, packets.first_hello, left.hears) left.hears_end (omega arith)
    (only right_1.sent left.its_hello
    (named_first (canonical left.its_hello) [] (canonical left.its_hello) refl)) tt (tt, tt)

left_greets : TakesEvent 1 right_1.sent left_2 left_3
left_greets =
    taken right_1.sent left_2 0 Occurrence.Tick left.greets_with left.greets_with left.greets
    left.greets_end (omega arith) (λ bytes is. absurd (no_packet bytes is)) tt
    ((packets.second_hello, tt), tt)

right_opens : TakesEvent 1 left_3.sent right_1 right_4
right_opens =
    taken left_3.sent right_1 3600 (Occurrence.Packet 1 (canonical right.its_hello)) right.opened
    right.opened_at_end (right.its_hello, packets.second_hello, right.opens) right.opens_end
    (omega arith)
    (only left_3.sent right.its_hello
    (named_first (canonical right.its_hello) [] (canonical right.its_hello) refl)) tt
    ((packets.opening, tt), tt)

left_replies : TakesEvent 1 right_4.sent left_3 left_5
left_replies =
    taken right_4.sent left_3 0 (Occurrence.Packet 1 (canonical left.opens)) left.replied
    left.replied (left.opens, packets.opening, left.replies) left.replies_end (omega arith)
    (only right_4.sent left.opens
    (later_is (canonical left.its_hello) (canonical left.opens ∷ []) (canonical left.opens)
    (named_first (canonical left.opens) [] (canonical left.opens) refl))) tt
    ((packets.own_opening, (packets.replying, tt)), tt)

right_leads : TakesEvent 1 left_5.sent right_4 right_6
right_leads =
    taken left_5.sent right_4 3600 (Occurrence.Packet 1 (canonical right.reply_packet)) right.leads
    right.led (right.reply_packet, packets.replying, right.leads_on) right.leads_end
    (omega arith)
    (only left_5.sent right.reply_packet
    (later_is (canonical right.its_hello)
    (canonical own_opening ∷ canonical right.reply_packet ∷ []) (canonical right.reply_packet)
    (later_is (canonical own_opening) (canonical right.reply_packet ∷ [])
    (canonical right.reply_packet)
    (named_first (canonical right.reply_packet) [] (canonical right.reply_packet) refl)))) tt
    ((packets.ending, (packets.requesting, tt)), tt)

left_finishes : TakesEvent 1 right_6.sent left_5 left_7
left_finishes =
    taken right_6.sent left_5 0 (Occurrence.Packet 1 (canonical left.ends_it)) left.finished
    left.at_rest (left.ends_it, packets.ending, left.finishes) left.finishes_end (omega arith)
    (only right_6.sent left.ends_it
    (later_is (canonical left.its_hello)
    (canonical left.opens ∷ canonical left.ends_it ∷ canonical requests ∷ [])
    (canonical left.ends_it)
    (later_is (canonical left.opens) (canonical left.ends_it ∷ canonical requests ∷ [])
    (canonical left.ends_it)
    (named_first (canonical left.ends_it) (canonical requests ∷ []) (canonical left.ends_it)
    refl)))) tt
    ((packets.answering, tt), tt)

-- ---- in pairs

abbrev pair : Party → Party → Pair
pair l r = record { left = l; right = r }

of_left : (before after other : Party) → TakesEvent 1 other.sent before after
    → Turn ends (pair before other) (pair after other)
of_left before after other t = record { side = Side.Left; does = Doing.Event t; other = refl }

of_right : (before after other : Party) → TakesEvent 1 other.sent before after
    → Turn ends (pair other before) (pair other after)
of_right before after other t = record { side = Side.Right; does = Doing.Event t; other = refl }

abbrev before_all : List Pair
before_all =
    pair left_5 right_6 ∷ pair left_5 right_4 ∷ pair left_3 right_4 ∷ pair left_3 right_1
    ∷ pair left_2 right_1 ∷ pair (first 1 a) right_1 ∷ pair (first 1 a) (first 2 b) ∷ []

whole : IsHistory ends (pair left_7 right_6) before_all
whole = (
  of_left left_5 left_7 right_6 left_finishes,
  (
    of_right right_4 right_6 left_5 right_leads,
    (
      of_left left_3 left_5 right_4 left_replies,
      (
        of_right right_1 right_4 left_3 right_opens,
        (
          of_left left_2 left_3 right_1 left_greets,
          (
            of_left (first 1 a) left_2 right_1 left_hears,
            (
              of_right (first 2 b) right_1 (first 1 a) right_greets,
              (has_begun 1 a, has_begun 2 b),
            ),
          ),
        ),
      ),
    ),
  ),
)

nothing_held : (c : DatabaseCopy) (lsa : Lsa)
    → finite.get (finite.empty {X = DatabaseCopy} {R = key_cmp}) (identity_of_lsa lsa).key ≡ Some c
    → ⊥
nothing_held c lsa is = let no : None ≡ Some c =
    sym (finite.get-empty {X = DatabaseCopy} key_cmp (identity_of_lsa lsa).key) ∙ is in absurd cc

pub met : AHistoryMeetsThePremises
met = record {
  ends = ends;
  now = pair left_7 right_6;
  earlier = before_all;
  history = whole;
  side = Side.Left;
  key = router_key 1;
  at_rest = record {
    neighbor = left.full;
    there = refl;
    full = refl;
    acknowledged = left.owes_nothing;
  };
  copy = copy 1 a;
  there = found 1 a;
  lacks = λ held. nothing_held held.copy (copy 1 a).lsa held.there;
}
