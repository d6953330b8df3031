-- How an accepted Description moves the DD sequence numbers.
use Rattle.std.proofs.Common.{◌≡◌, ℕ, ◌+◌, ◌%◌, ◌^◌, Bool, true, false, cond, not, ◌&&◌, ◌||◌, ◌⊎◌}
use Rattle.std.proofs.Common.{inl, inr, List, [], Option, None, Some, refl, sym, ap, subst, ◌∙◌}
use Rattle.std.specs.Prelude.{◌==◌, nat_lt}
use Rattle.std.specs.FinMap as finite
use Rattle.std.proofs.lemmas.Bool.{eq-eqb, eqb-true}
use Rattle.lsdb.specs.Copies.{Database, age_prematurely, install_originated}
use Rattle.lsdb.specs.Headers.{Lsa, lsa_with_age}
use Rattle.packet.specs.declared.model.Description.{Description}
use Rattle.adjacency.specs.declared.state.NeighborState.{NeighborState}
use Rattle.adjacency.specs.declared.state.NeighborState.TheVariants.{Exchange}
use Rattle.adjacency.specs.Adjacencies.{mismatch_step, two_way_received_in}
use Rattle.adjacency.specs.Contents.{Step, no_sends}
use Rattle.adjacency.specs.Descriptions.{Verdict, accept, act, after_description, announced_more}
use Rattle.adjacency.specs.Descriptions.{as_received, changes_options, exchange_done}
use Rattle.adjacency.specs.Descriptions.{send_description}
use Rattle.adjacency.specs.Descriptions.{exchanging, expected_sequence, in_state, is_duplicate}
use Rattle.adjacency.specs.Descriptions.{knows_types, master_goes_on, same_flag, slave_replies}
use Rattle.adjacency.specs.Descriptions.{verdict, verdict_in, with_requests}
use Rattle.adjacency.specs.Neighbors.{Neighbor}
use Rattle.adjacency.specs.Requests.{request_next}
use Rattle.adjacency.proofs.Kept.{chosen}
use Rattle.received.specs.Flooding.{flood_to, is_incoming}
use Rattle.received.specs.Links.{Link, neighbor_at}
use Rattle.received.specs.AreaStates.{AreaState, on_database, only_at, step_on}
use Rattle.event_rules.specs.declared.model.Out.{Out}
use Rattle.event_rules.specs.Endings.{end_event, link_loading_done, start_event}
use Rattle.event_rules.specs.EventState.{EventState, flood_from_nobody, on_area}
use Rattle.event_rules.specs.Events.{Happens}
use Rattle.event_rules.specs.Originations.{new_instance}
use Rattle.event_rules.specs.Packets.{receive_description}
use Rattle.event_rules.specs.Routers.{Occurrence, Router}
use Rattle.event_rules.proofs.Walk.{OfEvent, outcome}
use Rattle.invariants.specs.InOrder.{IsConsistent}
use Rattle.invariants.proofs.Acknowledged.{in_order, order_begun, order_kept}
use Rattle.invariants.proofs.Leaving.{each_kept_at, stepped_kept}
use Rattle.agreement_laws.specs.Exchanged.{conversation_with}
use Rattle.agreement_laws.specs.Accepted.{AcceptsDescription, accepts_description, is_accepting}
use Rattle.agreement_laws.specs.Numbers.{AcceptedDescriptionsMoveNumbers, HasMoved, NumbersMove}
use Rattle.agreement_laws.proofs.ExchangeSteps.{IsSame, same_filled, same_flooded}
use Rattle.agreement_laws.proofs.Accepting.{Passes, is_taken, its_tests}
use Rattle.agreement_laws.proofs.Ending.{Going, IsKeptToEnd, ended}
use Rattle.agreement_laws.proofs.Steps.{asked}
use Rattle.agreement_laws.proofs.AtInterface as interface

-- ---- the step

accepting : (a b c e f g : Bool) → is_accepting
    (cond a Verdict.Discarded (cond b Verdict.Repeated
    (cond c Verdict.Mismatch (cond e Verdict.Mismatch
    (cond f Verdict.Mismatch (cond (not g) Verdict.Mismatch Verdict.Accepted)))))) ≡ true
    → (g ≡ true) × (cond a Verdict.Discarded
    (cond b Verdict.Repeated (cond c Verdict.Mismatch
    (cond e Verdict.Mismatch (cond f Verdict.Mismatch
    (cond (not g) Verdict.Mismatch Verdict.Accepted)))))
    ≡ Verdict.Accepted)
accepting true b c e f g is = absurd cc
accepting false true c e f g is = absurd cc
accepting false false true e f g is = absurd cc
accepting false false false true f g is = absurd cc
accepting false false false false true g is = absurd cc
accepting false false false false false true is = (refl, refl)
accepting false false false false false false is = absurd cc

module _ (own moment : ℕ) (db : Database) (d : Description) (n : Neighbor) (is : n.state ≡ Exchange)
    (accepts : accepts_description own moment n d ≡ true) where
  abbrev Moves : Step → Type 0
  Moves s = NumbersMove n d s.neighbor × (conversation_with s.neighbor ≡ conversation_with n)

  passes : Passes own moment n d
  passes = its_tests own moment n d accepts

  tests : ((d.sequence == expected_sequence n) ≡ true) × (exchanging n d ≡ Verdict.Accepted)
  tests =
      accepting (is_duplicate n.received d && n.is_master) (is_duplicate n.received d)
      (same_flag d.master n.is_master) d.init (changes_options n.received d)
      (d.sequence == expected_sequence n)
      (sym ((λ i. is_accepting (verdict own (two_way_received_in (is i) moment n).neighbor d))
      ∙ (λ i. is_accepting (verdict_in (is i) own n d))) ∙ passes.2)

  expected : d.sequence ≡ expected_sequence n
  expected = eqb-true d.sequence (expected_sequence n) tests.0

  as_master : n.is_master ≡ true → (m : Neighbor) → m.is_master ≡ n.is_master
      → m.received ≡ Some (as_received d)
      → (m.sequence ≡ (n.sequence + 1) % 2 ^ 32) ⊎ (m.sequence ≡ n.sequence) → NumbersMove n d m
  as_master e m role received number = record {
    expected = expected;
    same_role = role;
    received = received;
    slave = λ f. let no : true ≡ false = sym e ∙ f in absurd cc;
    master = λ t. number;
  }

  master : n.is_master ≡ true → (w : Neighbor) → w.is_master ≡ n.is_master → w.sequence ≡ n.sequence
      → w.received ≡ Some (as_received d) → conversation_with w ≡ conversation_with n
      → Moves (master_goes_on moment d w)
  master e w role number received same =
      let more : Step = send_description moment (record w {
        sequence = (w.sequence + 1) % 2 ^ 32;
      }) in
      chosen Moves (announced_more w.described || d.more) more (no_sends (exchange_done moment w))
      (λ c. (
        as_master e more.neighbor role received (inl (ap (λ (k : ℕ). (k + 1) % 2 ^ 32) number)),
        same,
      ))
      (λ c. (as_master e (exchange_done moment w) role received (inr number), same))

  as_slave : n.is_master ≡ false → (m : Neighbor) → m.is_master ≡ n.is_master
      → m.received ≡ Some (as_received d) → m.sequence ≡ d.sequence → NumbersMove n d m
  as_slave e m role received number = record {
    expected = expected;
    same_role = role;
    received = received;
    slave = λ f. number;
    master = λ t. let no : true ≡ false = sym t ∙ e in absurd cc;
  }

  slave : n.is_master ≡ false → (w : Neighbor) → w.is_master ≡ n.is_master → w.received
      ≡ Some (as_received d) → conversation_with w ≡ conversation_with n
      → Moves (slave_replies moment d w)
  slave e w role received same =
      let replied : Step = send_description moment (record w { sequence = d.sequence }) in
      chosen Moves (announced_more replied.neighbor.described || d.more) replied (record replied {
        neighbor = exchange_done moment replied.neighbor;
      })
      (λ c. (as_slave e replied.neighbor role received refl, same))
      (λ c. (as_slave e (exchange_done moment replied.neighbor) role received refl, same))

  is_accepted : Moves (accept moment db d n)
  is_accepted =
      let w : Neighbor = with_requests moment db d.headers (record n {
        received = Some (as_received d);
      }) in
      chosen Moves (knows_types d) (cond w.is_master (master_goes_on moment d w)
      (slave_replies moment d w)) (mismatch_step moment n)
      (λ c. chosen Moves w.is_master (master_goes_on moment d w) (slave_replies moment d w)
      (λ e. master e w refl refl refl refl) (λ e. slave e w refl refl refl))
      (λ c. let no : true ≡ false = sym passes.1 ∙ c in absurd cc)

  pub step_moves : Moves (after_description own moment db d n)
  step_moves =
      chosen Moves (nat_lt 8192 d.mtu) (no_sends n) (in_state n.state own moment db d n)
      (λ big. let no : true ≡ false = sym big ∙ passes.0 in absurd cc)
      (λ fits. subst (λ (s : NeighborState). Moves (in_state s own moment db d n)) (sym is)
      (subst (λ (s : NeighborState). Moves (act (verdict_in s own n d) moment db d n)) (sym is)
      (subst (λ (v : Verdict). Moves (act v moment db d n)) (sym tests.1) is_accepted)))

-- ---- the end of an event leaves it

module _ (own moment number : ℕ) (x : Neighbor) where
  abbrev pub SameThere : Option Neighbor → Type 0
  SameThere None = ⊥
  SameThere (Some m) = IsSame x m

  abbrev StaysSame : AreaState → Type 0
  StaysSame o = SameThere (neighbor_at number o.area.links)

  floods : (lsa : Lsa) (o : AreaState) → StaysSame o → StaysSame (flood_from_nobody moment lsa o)
  floods lsa o h = interface.stepped SameThere number (flood_to moment None lsa) o.area.links
      (λ link m at. same_flooded x moment (is_incoming None number) lsa m at) h

  kept : IsKeptToEnd own moment StaysSame
  kept = record {
    flushes = λ k c o at its h. floods (lsa_with_age 3600 c.lsa)
        (on_database (age_prematurely moment k) o) h;
    originates = λ k says p its wants so h.
        let lsa : Lsa = new_instance k (finite.get p.router.area.database k) says in
        floods lsa (on_database (install_originated moment lsa) (outcome p)) h;
    loaded = λ o h. each_kept_at SameThere SameThere (λ k. k) link_loading_done number
        (λ link at. interface.loaded SameThere (same_filled x) link.neighbor at) o.area.links h;
    requests = λ o h. interface.stepped SameThere number (λ place link m. request_next moment m)
        o.area.links
        (λ link m at. asked (IsSame x) moment m at) h;
  }

  pub stays_same : (old : Router) (after : EventState) → Going own moment StaysSame after
      → StaysSame (outcome (end_event old moment after))
  stays_same = ended own moment StaysSame kept StaysSame (λ o h. h) (λ o h. h)

-- ---- the event

module _ (old : Router) (moment : ℕ) (event : Occurrence) (order : IsConsistent old) (number : ℕ)
    (n : Neighbor) (d : Description) (a : AcceptsDescription old moment event number n d)
    (is : n.state ≡ Exchange) where
  abbrev begins : EventState
  begins = start_event moment old

  abbrev takes : Neighbor → Step
  takes = after_description old.id moment begins.router.area.database d

  abbrev x : Neighbor
  x = (takes n).neighbor

  one_taken : (link : Link) (o : Option Neighbor) → o ≡ Some n
      → SameThere old.id moment number x (step_on (only_at number takes number link) o)
  one_taken link o at =
      subst (λ (m : Option Neighbor). SameThere old.id moment number x
      (step_on (only_at number takes number link) m)) (sym at)
      (subst (λ b. IsSame x (cond b (takes n) (record {
        neighbor = n;
        sends = [];
      })).neighbor) (sym (eq-eqb number number refl))
      (refl, refl, refl, refl, refl))

  abbrev Stays : AreaState → Type 0
  Stays o = SameThere old.id moment number x (neighbor_at number o.area.links)

  goes : Going old.id moment Stays (on_area (receive_description old.id moment number d) begins)
  goes =
      let so : OfEvent (in_order old.id) begins = order_begun old moment order in
      record {
        so = record {
          area = (order_kept old.id).description old.id moment number d (outcome begins) so.area;
          announced = so.announced;
        };
        still = stepped_kept (λ (o : Option Neighbor). o ≡ Some n)
            (SameThere old.id moment number x) (λ e. absurd cc) (only_at number takes) number
            (λ link at. one_taken link link.neighbor at) begins.router.area.links a.there;
      }

  in_law : (new : Router) (o : Option Neighbor) → neighbor_at number new.area.links ≡ o
      → SameThere old.id moment number x o → HasMoved number n d new
  in_law new None at k = absurd k
  in_law new (Some m) at k = by_step
      (step_moves old.id moment begins.router.area.database d n is a.accepted)
    where
      by_step : NumbersMove n d x × (conversation_with x ≡ conversation_with n)
          → HasMoved number n d new
      by_step s = record {
        neighbor = m;
        there = at;
        same = k.0 ∙ s.1;
        moved = record {
          expected = s.0.expected;
          same_role = k.1 ∙ s.0.same_role;
          received = k.3 ∙ s.0.received;
          slave = λ e. k.2 ∙ s.0.slave e;
          master = λ e. either (s.0.master e);
        };
      }
        where
          either : (x.sequence ≡ (n.sequence + 1) % 2 ^ 32) ⊎ (x.sequence ≡ n.sequence)
              → (m.sequence ≡ (n.sequence + 1) % 2 ^ 32) ⊎ (m.sequence ≡ n.sequence)
          either (inl e) = inl (k.2 ∙ e)
          either (inr e) = inr (k.2 ∙ e)

  moved : (outs : List Out) (new : Router) → Happens old moment event outs new
      → HasMoved number n d new
  moved outs new happens =
      in_law new (neighbor_at number new.area.links) refl
      (subst (λ (r : Router). SameThere old.id moment number x (neighbor_at number r.area.links))
      (sym happens.router)
      (stays_same old.id moment number x old happens.after
      (subst (Going old.id moment Stays)
      (sym (is_taken old moment event number n d a happens.after happens.own)) goes)))

pub numbers_move : AcceptedDescriptionsMoveNumbers
numbers_move old moment event outs new happens order number n d a is =
    moved old moment event order number n d a is outs new happens
