-- What each step of a neighbor keeps of the Descriptions that were sent to it: each of the slave's
-- answers one that was accepted; each of the master's is answered, but for the last one.
use Rattle.std.proofs.Common.{◌≡◌, ℕ, ◌+◌, ◌%◌, ◌^◌, Bool, true, false, cond, not, ◌&&◌, ◌||◌}
use Rattle.std.proofs.Common.{◌⊎◌, inl, inr, List, [], ◌∷◌, ◌++◌, map, Option, None, Some, refl}
use Rattle.std.proofs.Common.{sym, ap, subst, ◌∙◌}
use Rattle.std.specs.Prelude.{◌==◌, nat_lt}
use Rattle.std.specs.List.{Contains}
use Rattle.std.proofs.lemmas.Bool.{eqb-true}
use Rattle.std.proofs.lemmas.List.Elements.{Contains-append_cases}
use Rattle.words.specs.declared.key.Key.{Key}
use Rattle.lsdb.specs.Copies.{Database}
use Rattle.lsdb.specs.Headers.{Header, Lsa}
use Rattle.packet.specs.declared.model.Description.{Description}
use Rattle.adjacency.specs.declared.state.NeighborState.{NeighborState}
use Rattle.adjacency.specs.declared.state.NeighborState.TheVariants.{ExStart, Exchange, Full, Init}
use Rattle.adjacency.specs.declared.state.NeighborState.TheVariants.{Loading}
use Rattle.adjacency.specs.Adjacencies.{after_hello, enter_exstart, initial_description}
use Rattle.adjacency.specs.Adjacencies.{loading_done, mismatch_step, requests_nothing}
use Rattle.adjacency.specs.Adjacencies.{two_way_received, two_way_received_in, with_hello_heard}
use Rattle.adjacency.specs.Contents.{Content, Describes, Requests, Step, Updates, no_sends, then_}
use Rattle.adjacency.specs.Descriptions.{Verdict, accept, act, after_description, announced_more}
use Rattle.adjacency.specs.Descriptions.{as_received, changes_options, exchange_done}
use Rattle.adjacency.specs.Descriptions.{send_description}
use Rattle.adjacency.specs.Descriptions.{exchange_over, expected_sequence, in_state, is_duplicate}
use Rattle.adjacency.specs.Descriptions.{is_empty, is_initial_description, is_kept}
use Rattle.adjacency.specs.Descriptions.{knows_types, master_goes_on, negotiated_neighbor, process}
use Rattle.adjacency.specs.Descriptions.{next_description, repeat, same_flag, slave_replies}
use Rattle.adjacency.specs.Descriptions.{verdict, with_requests, without_old_description}
use Rattle.adjacency.specs.Floods.{flooding, without_satisfied_request}
use Rattle.adjacency.specs.Neighbors.{Neighbor, is_exchange_or_later}
use Rattle.adjacency.specs.Requests.{next_request, request_next, still_outstanding}
use Rattle.adjacency.specs.Retransmissions.{after_acknowledgment}
use Rattle.adjacency.specs.Retransmissions.{describe_again, next_retransmissions}
use Rattle.adjacency.specs.Retransmissions.{request_again, send_again, update_again}
use Rattle.adjacency.proofs.Kept.{chosen}
use Rattle.received.specs.Holds.{Holds}
use Rattle.event_rules.specs.Hellos.{is_foreign}
use Rattle.invariants.proofs.Flooding.{flooding_so}
use Rattle.invariants.proofs.Lists.{of_cons, of_empty}
use Rattle.agreement_laws.specs.Exchanged.{Conversation, conversation_with}
use Rattle.agreement_laws.specs.HeldWasExchanged.{is_exchange_done}
use Rattle.agreement_laws.specs.Answers.{HasRole, IsOpening}
use Rattle.agreement_laws.specs.Accepted.{accepts_description, is_accepting}
use Rattle.agreement_laws.proofs.Lists.{some_same}
use Rattle.agreement_laws.proofs.Accepting.{by_tests}
use Rattle.agreement_laws.proofs.Steps as neighbor_steps

-- ---- flags

other_flag : (a b : Bool) → same_flag a b ≡ false → a ≡ not b
other_flag true true e = absurd cc
other_flag true false e = refl
other_flag false true e = refl
other_flag false false e = absurd cc

-- an opening Description, of a neighbor that leads
opens : (a b c e f : Bool) → ((a && b && c && e) && f) ≡ true → (c ≡ true) × (f ≡ true)
opens true true true true true is = (refl, refl)
opens true true true true false is = absurd cc
opens true true true false f is = absurd cc
opens true true false e f is = absurd cc
opens true false c e f is = absurd cc
opens false b c e f is = absurd cc

-- an answer, to the one that leads
answers : (a b c e : Bool) → (not a && not b && c && e) ≡ true
    → (b ≡ false) × (c ≡ true) × (e ≡ true)
answers false false true true is = (refl, refl, refl)
answers false false true false is = absurd cc
answers false false false e is = absurd cc
answers false true c e is = absurd cc
answers true b c e is = absurd cc

-- ---- verdicts

module _ (V : Verdict → Type 0) where
  in_order : (a b c e f g : Bool) → V Verdict.Discarded → V Verdict.Repeated → V Verdict.Mismatch
      → (c ≡ false → g ≡ true → V Verdict.Accepted)
      → V (cond a Verdict.Discarded (cond b Verdict.Repeated (cond c Verdict.Mismatch
      (cond e Verdict.Mismatch (cond f Verdict.Mismatch
      (cond (not g) Verdict.Mismatch Verdict.Accepted))))))
  in_order true b c e f g x y z w = x
  in_order false true c e f g x y z w = y
  in_order false false true e f g x y z w = z
  in_order false false false true f g x y z w = z
  in_order false false false false true g x y z w = z
  in_order false false false false false false x y z w = z
  in_order false false false false false true x y z w = w refl refl

-- ---- contents

-- it is no Description
abbrev pub IsOther : Content → Type 0
IsOther (Content.SendsHello h) = Unit {0}
IsOther (Content.Describes d) = ⊥
IsOther (Content.Requests keys) = Unit {0}
IsOther (Content.Updates lsa) = Unit {0}
IsOther (Content.Acknowledges h) = Unit {0}

abbrev pub AreOther : List Content → Type 0
AreOther cs = (c : Content) → Contains cs c → IsOther c

pub none_sent : AreOther []
none_sent c k = absurd (of_empty c k)

pub one_other : (x : Content) → IsOther x → AreOther (x ∷ [])
one_other x so c k = by_place (of_cons x [] c k)
  where
    by_place : (x ≡ c) ⊎ Contains [] c → IsOther c
    by_place (inl is) = subst IsOther is so
    by_place (inr none) = absurd (of_empty c none)

pub mapped_other : {X : Type 0} (f : X → Content) → ((x : X) → IsOther (f x)) → (xs : List X)
    → AreOther (map f xs)
mapped_other f so [] c k = absurd (of_empty c k)
mapped_other {X} f so (x ∷ xs) c k =
    by_place (λ j. mapped_other f so xs c j) (of_cons (f x) (map f xs) c k)
  where
    by_place : (Contains (map f xs) c → IsOther c) → (f x ≡ c) ⊎ Contains (map f xs) c
        → IsOther c
    by_place rest (inl is) = subst IsOther is (so x)
    by_place rest (inr j) = rest j

abbrev described_by : Content → Option Description
described_by (Content.SendsHello h) = None
described_by (Content.Describes d) = Some d
described_by (Content.Requests keys) = None
described_by (Content.Updates lsa) = None
described_by (Content.Acknowledges h) = None

-- what is sent is one Description
one_described : (d x : Description) → Contains (Describes d ∷ []) (Describes x) → d ≡ x
one_described d x c = by_place (of_cons (Describes d) [] (Describes x) c)
  where
    by_place : (Describes d ≡ Describes x) ⊎ Contains [] (Describes x) → d ≡ x
    by_place (inl is) = some_same (ap described_by is)
    by_place (inr none) = absurd (of_empty (Describes x) none)

-- ---- one neighbor, of a router with this Router ID

module _ (own : ℕ) (Acc : Description → Type 0) (Began : Conversation → Type 0) where
  abbrev pub Answered : Description → Type 0
  Answered d = (e : Description) × Acc e × (e.sequence ≡ d.sequence) × (e.master ≡ not d.master)

  -- what is so of a Description that was sent, by this router's role and the number
  abbrev pub Right : Bool → Bool → ℕ → Description → Type 0
  Right true done sequence d =
      (d.master ≡ true) × (Answered d ⊎ ((done ≡ false) × (d.sequence ≡ sequence)))
  Right false done sequence d = IsOpening d ⊎ Answered d

  abbrev pub IsRight : Neighbor → Description → Type 0
  IsRight m d = Right m.is_master (is_exchange_done m.state) m.sequence d

  -- the Description that opens the attempt of this number
  abbrev pub Opens : Option ℕ → Description → Type 0
  Opens attempt d =
      (number : ℕ) × (attempt ≡ Some number) × (d ≡ initial_description number)

  -- before Exchange
  abbrev pub Early : Neighbor → Type 0
  Early m =
      (is_exchange_or_later m.state ≡ false)
      × (m.state ≡ ExStart → (m.dd_sequence_start ≡ Some m.sequence)
      × ((d : Description) → m.described ≡ Some d → d ≡ initial_description m.sequence))

  -- from Exchange on, of the Descriptions that were sent
  abbrev pub Going : (Description → Type 0) → Neighbor → Type 0
  Going Said m =
      (is_exchange_or_later m.state ≡ true) × HasRole m.is_master own m.router
      × ((w : Conversation) → Began w → conversation_with m ≡ w)
      × ((d : Description) → m.described ≡ Some d → IsRight m d)
      × ((d : Description) → Said d → IsRight m d)
      × ((d : Description) → Opens m.dd_sequence_start d → IsRight m d)

  abbrev pub Sound : (Description → Type 0) → Neighbor → Type 0
  Sound Said m = (is_foreign own m.router ≡ true) × (Early m ⊎ Going Said m)

  -- said before, or sent in this step
  abbrev pub With : (Description → Type 0) → List Content → Description → Type 0
  With Said cs d = Said d ⊎ Contains cs (Describes d)

  abbrev pub OfStep : (Description → Type 0) → Step → Type 0
  OfStep Said s = Sound (With Said s.sends) s.neighbor

  pub fewer : (S T : Description → Type 0) → ((d : Description) → T d → S d) → (m : Neighbor)
      → Sound S m → Sound T m
  fewer S T so m (f, inl e) = (f, inl e)
  fewer S T so m (f, inr g) = (f, inr (g.0, g.1, g.2, g.3, λ d k. g.4 d (so d k), g.5))

  -- if no Description is sent
  pub quiet : (S : Description → Type 0) (cs : List Content) → AreOther cs → (m : Neighbor)
      → Sound S m → Sound (With S cs) m
  quiet S cs other m h = fewer S (With S cs) by m h
    where
      by : (d : Description) → With S cs d → S d
      by d (inl k) = k
      by d (inr c) = absurd (other (Describes d) c)

  pub nothing : (S : Description → Type 0) (m : Neighbor) → Sound S m → OfStep S (no_sends m)
  nothing S m h = quiet S [] none_sent m h

  -- one step after another
  further : (S : Description → Type 0) (cs ds : List Content) (m : Neighbor)
      → Sound (With (With S cs) ds) m → Sound (With S (cs ++ ds)) m
  further S cs ds m h = fewer (With (With S cs) ds) (With S (cs ++ ds)) by m h
    where
      by_place : (d : Description) → Contains cs (Describes d) ⊎ Contains ds (Describes d)
          → With (With S cs) ds d
      by_place d (inl c) = inl (inr c)
      by_place d (inr c) = inr c

      by : (d : Description) → With S (cs ++ ds) d → With (With S cs) ds d
      by d (inl k) = inl (inl k)
      by d (inr c) = by_place d (Contains-append_cases cs ds (Describes d) c)

  one_more : (S : Description → Type 0) (s : Step) (f : Neighbor → Step) → OfStep S s
      → ((T : Description → Type 0) (m : Neighbor) → Sound T m → OfStep T (f m))
      → OfStep S (then_ s f)
  one_more S s f h keeps =
      further S s.sends (f s.neighbor).sends (f s.neighbor).neighbor
      (keeps (With S s.sends) s.neighbor h)

  -- ---- flooding

  pub flooded : (moment : ℕ) (from : Bool) (lsa : Lsa) (S : Description → Type 0) (m : Neighbor)
      → Sound S m → OfStep S (flooding moment from lsa m)
  flooded moment from lsa S m h =
      let w : Neighbor = without_satisfied_request moment lsa m in
      let so : Sound S w = neighbor_steps.met (Sound S) moment lsa m h h in
      flooding_so (OfStep S) moment m from lsa
      (quiet S (Updates lsa ∷ []) (one_other (Updates lsa) tt) w so) (nothing S w so)
      (nothing S m h)

  -- ---- attempts and Hellos

  entered : (moment : ℕ) (S : Description → Type 0) (m : Neighbor)
      → is_foreign own m.router ≡ true → Sound S (enter_exstart moment m).neighbor
  entered moment S m foreign = (foreign, inl (refl, λ e. (refl, λ d at. sym (some_same at))))

  pub mismatched : (moment : ℕ) (S : Description → Type 0) (m : Neighbor) → Sound S m
      → OfStep S (mismatch_step moment m)
  mismatched moment S m h =
      chosen (OfStep S) (is_exchange_or_later m.state) (enter_exstart moment m) (no_sends m)
      (λ e. entered moment (With S (enter_exstart moment m).sends) m h.0) (λ e. nothing S m h)

  two_way : (moment : ℕ) (S : Description → Type 0) (s : NeighborState) (m : Neighbor) → Sound S m
      → OfStep S (two_way_received_in s moment m)
  two_way moment S Init m h = entered moment (With S (enter_exstart moment m).sends) m h.0
  two_way moment S ExStart m h = nothing S m h
  two_way moment S Exchange m h = nothing S m h
  two_way moment S Loading m h = nothing S m h
  two_way moment S Full m h = nothing S m h

  heard : (moment from : ℕ) → is_foreign own from ≡ true → (S : Description → Type 0)
      → (o : Option Neighbor) → Holds (Sound S) o → Sound S (with_hello_heard from moment o)
  heard moment from foreign S None h = (foreign, inl (refl, λ e. absurd cc))
  heard moment from foreign S (Some m) h = h

  pub helloed : (moment from : ℕ) → is_foreign own from ≡ true → (names : Bool)
      → (S : Description → Type 0) (o : Option Neighbor) → Holds (Sound S) o
      → OfStep S (after_hello moment from names o)
  helloed moment from foreign true S o h =
      let m : Neighbor = with_hello_heard from moment o in
      two_way moment S m.state m (heard moment from foreign S o h)
  helloed moment from foreign false S o h =
      let so : Sound S (with_hello_heard from moment o) = heard moment from foreign S o h in
      (so.0, inl (refl, λ e. absurd cc))

  -- ---- acknowledgments, Loading, Requests and the old Description

  pub acknowledged : (moment : ℕ) (xs : List Header) (S : Description → Type 0) (m : Neighbor)
      → Sound S m → Sound S (after_acknowledgment moment xs m)
  acknowledged moment xs S m h =
      neighbor_steps.acknowledged (Sound S) (λ k n so. so) moment xs m h

  pub filled : (S : Description → Type 0) (m : Neighbor) → Sound S m → Sound S (loading_done m)
  filled S m h = neighbor_steps.filled (Sound S) m still h
    where
      still : Sound S (record m { state = Loading }) → Sound S (record m { state = Full })
      still (f, inl e) = absurd cc
      still (f, inr g) = (f, inr (refl, g.1, g.2, g.3, g.4, g.5))

  pub asked : (moment : ℕ) (S : Description → Type 0) (m : Neighbor) → Sound S m
      → OfStep S (request_next moment m)
  asked moment S m h =
      neighbor_steps.request_so (OfStep S) moment m
      (quiet S (Requests (next_request m) ∷ []) (one_other (Requests (next_request m)) tt) m h)
      (nothing S m h)

  repeated_of : (moment : ℕ) (o : Option Description) (S : Description → Type 0) (m : Neighbor)
      → Sound S (record m { described = o }) → OfStep S (repeat moment (record m { described = o }))
  repeated_of moment None S m h = nothing S (record m { described = None }) h
  repeated_of moment (Some d) S m (f, inl e) = (f, inl e)
  repeated_of moment (Some d) S m (f, inr g) = (f, inr (g.0, g.1, g.2, g.3, by, g.5))
    where
      by : (x : Description) → With S (Describes d ∷ []) x → IsRight m x
      by x (inl k) = g.4 x k
      by x (inr c) = g.3 x (ap (λ (y : Description). Some y) (one_described d x c))

  pub repeated : (moment : ℕ) (S : Description → Type 0) (m : Neighbor) → Sound S m
      → OfStep S (repeat moment m)
  repeated moment S m h = repeated_of moment m.described S m h

  described_so : (moment interval : ℕ) (S : Description → Type 0) (m : Neighbor) → Sound S m
      → OfStep S (describe_again moment interval m)
  described_so moment interval S m h =
      neighbor_steps.describe_again_so (OfStep S) moment m interval (repeated moment S m h)
      (nothing S m h)

  asked_so : (moment interval : ℕ) (S : Description → Type 0) (m : Neighbor) → Sound S m
      → OfStep S (request_again moment interval m)
  asked_so moment interval S m h =
      let keys : List Key = still_outstanding m in
      neighbor_steps.request_again_so (OfStep S) moment m interval
      (quiet S (Requests keys ∷ []) (one_other (Requests keys) tt) m h) (nothing S m h)

  updated : (moment interval : ℕ) (db : Database) (S : Description → Type 0) (m : Neighbor)
      → Sound S m → OfStep S (update_again moment interval db m)
  updated moment interval db S m h =
      let lsas : List Lsa = next_retransmissions moment db m in
      neighbor_steps.update_again_so (OfStep S) moment m interval db
      (quiet S (map Updates lsas) (mapped_other Updates (λ lsa. tt) lsas) m h) (nothing S m h)

  pub again : (moment interval : ℕ) (db : Database) (S : Description → Type 0) (m : Neighbor)
      → Sound S m → OfStep S (send_again moment interval db m)
  again moment interval db S m h =
      one_more S (then_ (describe_again moment interval m) (request_again moment interval))
      (update_again moment interval db)
      (one_more S (describe_again moment interval m) (request_again moment interval)
      (described_so moment interval S m h) (λ T x k. asked_so moment interval T x k))
      (λ T x k. updated moment interval db T x k)

  pub old_description : (moment dead : ℕ) (S : Description → Type 0) (m : Neighbor) → Sound S m
      → Sound S (without_old_description moment dead m)
  old_description moment dead S m h =
      neighbor_steps.old_description (Sound S) moment dead m (λ e. given_up h) h
    where
      given_up : Sound S m → Sound S (record m { described = None })
      given_up (f, inl e) = (f, inl (e.0, λ is. ((e.1 is).0, λ d at. absurd cc)))
      given_up (f, inr g) = (f, inr (g.0, g.1, g.2, λ d at. absurd cc, g.4, g.5))

  -- ---- a Description is accepted

  module _ (moment : ℕ) (db : Database) (d : Description) where
    -- what was sent by the master in Exchange: all but the last one is answered
    abbrev Led : ℕ → Description → Type 0
    Led sequence x = (x.master ≡ true) × (Answered x ⊎ (x.sequence ≡ sequence))

    -- it goes on, or is done
    led_on : (S : Description → Type 0) (v : Neighbor) → is_foreign own v.router ≡ true
        → nat_lt v.router own ≡ true → ((w : Conversation) → Began w → conversation_with v ≡ w)
        → ((x : Description) → v.described ≡ Some x → (x.master ≡ true) × Answered x)
        → ((x : Description) → S x → (x.master ≡ true) × Answered x)
        → ((x : Description) → Opens v.dd_sequence_start x → (x.master ≡ true) × Answered x)
        → OfStep S (master_goes_on moment d (record v { state = Exchange; is_master = true }))
    led_on S v foreign role same last said opened =
        chosen (OfStep S) (announced_more w.described || d.more) more
        (no_sends (exchange_done moment w)) (λ e. goes_on) (λ e. done)
      where
        w : Neighbor
        w = record v { state = Exchange; is_master = true }

        next : Neighbor
        next = record w { sequence = (w.sequence + 1) % 2 ^ 32 }

        more : Step
        more = send_description moment next

        itself : (x : Description) → next_description moment next ≡ x
            → Right true false next.sequence x
        itself x is = subst (Right true false next.sequence) is (refl, inr (refl, refl))

        by_said : (x : Description) → With S more.sends x → Right true false next.sequence x
        by_said x (inl k) = ((said x k).0, inl (said x k).1)
        by_said x (inr c) = itself x (one_described (next_description moment next) x c)

        goes_on : OfStep S more
        goes_on = (
          foreign,
          inr (
            refl,
            role,
            same,
            λ x at. itself x (some_same at),
            by_said,
            λ x k. ((opened x k).0, inl (opened x k).1),
          ),
        )

        over : (st : NeighborState) → is_exchange_or_later st ≡ true → is_exchange_done st ≡ true
            → Sound (With S []) (record w { state = st; exchanged = Some moment })
        over st later is = (
          foreign,
          inr (
            later,
            role,
            same,
            by_last,
            by_done,
            λ x k. ((opened x k).0, inl (opened x k).1),
          ),
        )
          where
            by_last : (x : Description) → w.described ≡ Some x
                → Right true (is_exchange_done st) w.sequence x
            by_last x at = ((last x at).0, inl (last x at).1)

            by_done : (x : Description) → With S [] x
                → Right true (is_exchange_done st) w.sequence x
            by_done x (inl k) = ((said x k).0, inl (said x k).1)
            by_done x (inr c) = absurd (of_empty (Describes x) c)

        done : OfStep S (no_sends (exchange_done moment w))
        done =
            chosen
            (λ (st : NeighborState). Sound (With S []) (record w {
              state = st;
              exchanged = Some moment;
            }))
            (requests_nothing w) Full Loading (λ e. over Full refl refl)
            (λ e. over Loading refl refl)

    as_master : (S : Description → Type 0) (m : Neighbor) → is_foreign own m.router ≡ true
        → nat_lt m.router own ≡ true → ((w : Conversation) → Began w → conversation_with m ≡ w)
        → (knows_types d ≡ true → Acc d) → d.sequence ≡ m.sequence → d.master ≡ false
        → ((x : Description) → m.described ≡ Some x → Led m.sequence x)
        → ((x : Description) → S x → Led m.sequence x)
        → ((x : Description) → Opens m.dd_sequence_start x → Led m.sequence x)
        → OfStep S (accept moment db d (record m { state = Exchange; is_master = true }))
    as_master S m foreign role same acc number from last said opened =
        chosen (OfStep S) (knows_types d)
        (master_goes_on moment d (record v { state = Exchange; is_master = true }))
        (mismatch_step moment n)
        (λ k. led_on S v foreign role same (λ x at. answered k x (last x at))
        (λ x so. answered k x (said x so)) (λ x so. answered k x (opened x so)))
        (λ k. entered moment (With S (enter_exstart moment n).sends) n foreign)
      where
        n : Neighbor
        n = record m { state = Exchange; is_master = true }

        v : Neighbor
        v = with_requests moment db d.headers (record m { received = Some (as_received d) })

        answered : knows_types d ≡ true → (x : Description) → Led m.sequence x
            → (x.master ≡ true) × Answered x
        answered k x (r, inl a) = (r, a)
        answered k x (r, inr e) = (r, (d, acc k, number ∙ sym e, from ∙ sym (ap not r)))

    -- the slave replies, and may be done
    replied : (S : Description → Type 0) (v : Neighbor) → is_foreign own v.router ≡ true
        → nat_lt own v.router ≡ true → ((w : Conversation) → Began w → conversation_with v ≡ w)
        → Acc d → d.master ≡ true → ((x : Description) → S x → IsOpening x ⊎ Answered x)
        → ((x : Description) → Opens v.dd_sequence_start x → IsOpening x ⊎ Answered x)
        → OfStep S (slave_replies moment d (record v { state = Exchange; is_master = false }))
    replied S v foreign role same acc from said opened =
        chosen (OfStep S) (announced_more reply.neighbor.described || d.more) reply
        (record reply { neighbor = exchange_done moment reply.neighbor })
        (λ e. stands Exchange refl reply.neighbor.exchanged)
        (λ e. chosen
        (λ (st : NeighborState). Sound (With S reply.sends)
        (record reply.neighbor { state = st; exchanged = Some moment }))
        (requests_nothing reply.neighbor) Full Loading
        (λ e. stands Full refl (Some moment)) (λ e. stands Loading refl (Some moment)))
      where
        next : Neighbor
        next = record v { state = Exchange; is_master = false; sequence = d.sequence }

        reply : Step
        reply = send_description moment next

        itself : (x : Description) → next_description moment next ≡ x → IsOpening x ⊎ Answered x
        itself x is =
            subst (λ (y : Description). IsOpening y ⊎ Answered y) is (inr (d, acc, refl, from))

        by_said : (x : Description) → With S reply.sends x → IsOpening x ⊎ Answered x
        by_said x (inl k) = said x k
        by_said x (inr c) = itself x (one_described (next_description moment next) x c)

        stands : (st : NeighborState) → is_exchange_or_later st ≡ true → (o : Option ℕ)
            → Sound (With S reply.sends) (record reply.neighbor { state = st; exchanged = o })
        stands st later o =
            (foreign, inr (later, role, same, λ x at. itself x (some_same at), by_said, opened))

    as_slave : (S : Description → Type 0) (m : Neighbor) → is_foreign own m.router ≡ true
        → nat_lt own m.router ≡ true → ((w : Conversation) → Began w → conversation_with m ≡ w)
        → (knows_types d ≡ true → Acc d) → d.master ≡ true
        → ((x : Description) → S x → IsOpening x ⊎ Answered x)
        → ((x : Description) → Opens m.dd_sequence_start x → IsOpening x ⊎ Answered x)
        → OfStep S (accept moment db d (record m { state = Exchange; is_master = false }))
    as_slave S m foreign role same acc from said opened =
        let n : Neighbor = record m { state = Exchange; is_master = false } in
        let v : Neighbor =
        with_requests moment db d.headers (record m { received = Some (as_received d) }) in
        chosen (OfStep S) (knows_types d)
        (slave_replies moment d (record v { state = Exchange; is_master = false }))
        (mismatch_step moment n) (λ k. replied S v foreign role same (acc k) from said opened)
        (λ k. entered moment (With S (enter_exstart moment n).sends) n foreign)

    -- ---- in each state

    abbrev Accepts : Neighbor → Type 0
    Accepts m = is_accepting (verdict own m d) ≡ true → knows_types d ≡ true → Acc d

    in_exchange : (S : Description → Type 0) (role : Bool) (m : Neighbor)
        → Sound S (record m { state = Exchange; is_master = role })
        → Accepts (record m { state = Exchange; is_master = role })
        → OfStep S (process own moment db d (record m { state = Exchange; is_master = role }))
    in_exchange S role m (f, inl e) acc = absurd cc
    in_exchange S role m (f, inr g) acc =
        in_order V (is_duplicate n.received d && n.is_master) (is_duplicate n.received d)
        (same_flag d.master n.is_master) d.init (changes_options n.received d)
        (d.sequence == expected_sequence n)
        (λ e. nothing S n (f, inr g)) (λ e. repeated moment S n (f, inr g))
        (λ e. entered moment (With S (enter_exstart moment n).sends) n f)
        (λ c h e. by_role role g c h (acc (ap is_accepting e))) refl
      where
        n : Neighbor
        n = record m { state = Exchange; is_master = role }

        V : Verdict → Type 0
        V v = verdict own n d ≡ v → OfStep S (act v moment db d n)

        led : (x : Description) → Right true false m.sequence x → Led m.sequence x
        led x (r, inl a) = (r, inl a)
        led x (r, inr k) = (r, inr k.1)

        by_role : (b : Bool) → Going S (record m { state = Exchange; is_master = b })
            → same_flag d.master b ≡ false
            → (d.sequence == expected_sequence (record m { is_master = b })) ≡ true
            → (knows_types d ≡ true → Acc d)
            → OfStep S (accept moment db d (record m { state = Exchange; is_master = b }))
        by_role true k c h so =
            as_master S m f k.1 k.2 so (eqb-true d.sequence m.sequence h)
            (other_flag d.master true c) (λ x at. led x (k.3 x at)) (λ x said. led x (k.4 x said))
            (λ x opened. led x (k.5 x opened))
        by_role false k c h so = as_slave S m f k.1 k.2 so (other_flag d.master false c) k.4 k.5

    -- if only the opening Description was sent
    negotiated : (S : Description → Type 0) (m : Neighbor) → is_foreign own m.router ≡ true
        → ((w : Conversation) → Began w → ⊥) → m.dd_sequence_start ≡ Some m.sequence
        → ((x : Description) → m.described ≡ Some x → x ≡ initial_description m.sequence)
        → ((x : Description) → S x → x ≡ initial_description m.sequence)
        → Accepts (record m { state = ExStart })
        → OfStep S (process own moment db d (record m { state = ExStart }))
    negotiated S m foreign new starts last said acc =
        chosen V follows Verdict.NegotiatedAsSlave
        (cond leads Verdict.NegotiatedAsMaster Verdict.Discarded)
        by_following
        (λ no. chosen V leads Verdict.NegotiatedAsMaster Verdict.Discarded by_leading
        (λ neither e. nothing S n (foreign, inl (refl, λ is. (starts, last))))) refl
      where
        n : Neighbor
        n = record m { state = ExStart }

        V : Verdict → Type 0
        V v = verdict own n d ≡ v → OfStep S (act v moment db d n)

        follows : Bool
        follows = is_initial_description d && nat_lt own n.router

        leads : Bool
        leads = not d.init && not d.master && d.sequence == n.sequence && nat_lt n.router own

        begun : (x : Description) → Opens m.dd_sequence_start x
            → x ≡ initial_description m.sequence
        begun x k = k.2 ∙ ap initial_description (some_same (sym k.1 ∙ starts))

        opened : (x : Description) → x ≡ initial_description m.sequence → IsOpening x
        opened x is =
            subst IsOpening (sym is) (record { master = refl; empty = refl })

        led : (x : Description) → x ≡ initial_description m.sequence → Led m.sequence x
        led x is = subst (Led m.sequence) (sym is) (refl, inr refl)

        by_following : follows ≡ true → V Verdict.NegotiatedAsSlave
        by_following so e =
            let both = opens d.init d.more d.master (is_empty d.headers) (nat_lt own n.router) so in
            as_slave S (negotiated_neighbor false d.sequence moment db n) foreign both.1
            (λ w b. absurd (new w b)) (acc (ap is_accepting e)) both.0
            (λ x k. inl (opened x (said x k))) (λ x k. inl (opened x (begun x k)))

        by_leading : leads ≡ true → V Verdict.NegotiatedAsMaster
        by_leading so e =
            let all = answers d.init d.master (d.sequence == n.sequence) (nat_lt n.router own) so in
            as_master S (negotiated_neighbor true n.sequence moment db n) foreign all.2
            (λ w b. absurd (new w b)) (acc (ap is_accepting e))
            (eqb-true d.sequence n.sequence all.1)
            all.0 (λ x at. led x (last x at)) (λ x k. led x (said x k)) (λ x k. led x (begun x k))

    over : (S : Description → Type 0) (m : Neighbor) → Sound S m
        → OfStep S (act (exchange_over m d) moment db d m)
    over S m h =
        chosen V (is_duplicate m.received d && m.is_master) Verdict.Discarded
        (cond (is_duplicate m.received d && is_kept m.described) Verdict.Repeated Verdict.Mismatch)
        (λ e. nothing S m h)
        (λ e. chosen V (is_duplicate m.received d && is_kept m.described) Verdict.Repeated
        Verdict.Mismatch (λ e. repeated moment S m h) (λ e. mismatched moment S m h))
      where
        V : Verdict → Type 0
        V v = OfStep S (act v moment db d m)

    -- before Exchange nothing was sent in the conversation
    abbrev IsNew : (Description → Type 0) → NeighborState → Type 0
    IsNew S s =
        is_exchange_or_later s ≡ false
        → ((w : Conversation) → Began w → ⊥) × ((x : Description) → S x → ⊥)

    stated : (S : Description → Type 0) (s : NeighborState) (role : Bool) (m : Neighbor)
        → Sound S (record m { state = s; is_master = role }) → IsNew S s
        → Accepts (two_way_received moment (record m { state = s; is_master = role })).neighbor
        → OfStep S (in_state s own moment db d (record m { state = s; is_master = role }))
    stated S Init role m h new acc =
        further S opening.sends (process own moment db d opening.neighbor).sends
        (process own moment db d opening.neighbor).neighbor
        (negotiated (With S opening.sends) opening.neighbor h.0 (new refl).0 refl
        (λ x at. sym (some_same at)) by_said acc)
      where
        opening : Step
        opening = enter_exstart moment (record m { state = Init; is_master = role })

        by_said : (x : Description) → With S opening.sends x
            → x ≡ initial_description opening.neighbor.sequence
        by_said x (inl k) = absurd ((new refl).1 x k)
        by_said x (inr c) = sym (one_described (initial_description opening.neighbor.sequence) x c)
    stated S ExStart role m (f, inl e) new acc =
        negotiated S (record m { is_master = role }) f (new refl).0 (e.1 refl).0 (e.1 refl).1
        (λ x k. absurd ((new refl).1 x k)) acc
    stated S ExStart role m (f, inr g) new acc = absurd cc
    stated S Exchange role m h new acc = in_exchange S role m h acc
    stated S Loading role m h new acc = over S (record m { state = Loading; is_master = role }) h
    stated S Full role m h new acc = over S (record m { state = Full; is_master = role }) h

    pub judged : (S : Description → Type 0) (m : Neighbor) → Sound S m → IsNew S m.state
        → (accepts_description own moment m d ≡ true → Acc d)
        → OfStep S (after_description own moment db d m)
    judged S m h new acc =
        chosen (OfStep S) (nat_lt 8192 d.mtu) (no_sends m) (in_state m.state own moment db d m)
        (λ big. nothing S m h)
        (λ fits. stated S m.state m.is_master m h new
        (λ is knows. acc (by_tests own moment m d (fits, knows, is))))
