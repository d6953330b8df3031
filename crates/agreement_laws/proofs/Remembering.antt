-- A router holds what it has said to its neighbor, unless it has lost it: in each of its turns, and
-- in every history of two neighbors.
use Rattle.std.proofs.Common.{◌≡◌, ℕ, zero, suc, ◌<◌, Bool, cond, ◌&&◌, ◌⊎◌, inl, inr, length, List}
use Rattle.std.proofs.Common.{[], ◌∷◌, ◌++◌, map, Option, None, Some, refl, sym, ap, subst, ◌∙◌}
use Rattle.std.proofs.Common.{arith}
use Rattle.std.specs.Prelude.{slice_get}
use Rattle.std.specs.FinMap as finite
use Rattle.std.specs.List.{AllByRecursion, Contains, filter_map}
use Rattle.words.specs.declared.key.Key.{Key}
use Rattle.lsa.specs.declared.body.LsaBody.{LsaBody}
use Rattle.lsdb.specs.Copies.{DatabaseCopy, age_prematurely, copy_now, install_originated}
use Rattle.lsdb.specs.Copies.{is_aged_out}
use Rattle.lsdb.specs.Headers.{Header, Lsa, key_of, lsa_with_age, lsa_key}
use Rattle.lsdb.specs.Instances.{instance_of}
use Rattle.lsdb.specs.Keys.{ByKey, key_cmp}
use Rattle.packet.specs.declared.model.Packet.{Packet}
use Rattle.packet.specs.Text.{PacketText}
use Rattle.adjacency.specs.Contents.{Content}
use Rattle.adjacency.specs.declared.interface.Interface.{Interface}
use Rattle.adjacency.proofs.Kept.{chosen}
use Rattle.received.specs.Flooding.{flood_to}
use Rattle.received.specs.Links.{Link, link_at}
use Rattle.received.specs.AreaStates.{AreaState, Send, on_database, step_on}
use Rattle.event_rules.specs.declared.model.Config.{Config}
use Rattle.event_rules.specs.Endings.{end_event}
use Rattle.event_rules.specs.EventState.{EventState, flood_from_nobody, on_router}
use Rattle.event_rules.specs.Events.{Happens, Run, Step, initial}
use Rattle.event_rules.specs.InstanceIdentities.{InstanceIdentity, identity_of_header}
use Rattle.event_rules.specs.InstanceIdentities.{identity_of_lsa}
use Rattle.event_rules.specs.Originations.{flush, flush_copy, has_max_sequence, has_room}
use Rattle.event_rules.specs.Originations.{may_originate}
use Rattle.event_rules.specs.Originations.{new_instance, originate, originate_body, postpone}
use Rattle.event_rules.specs.Originations.{router_key}
use Rattle.event_rules.specs.Originations.{wanted_body}
use Rattle.event_rules.specs.Routers.{Router, fresh_link, unannounced_router}
use Rattle.event_rules.proofs.Walk.{outcome}
use Rattle.invariants.specs.InOrder.{IsConsistent}
use Rattle.invariants.specs.Keeping.{IsIdentityInRange}
use Rattle.invariants.specs.Known.{instances_in_content}
use Rattle.invariants.proofs.Acknowledged.{routers_stay_in_order}
use Rattle.invariants.proofs.Known.{named_sends, of_member}
use Rattle.invariants.proofs.Lists.{later_is}
use Rattle.invariants.proofs.Taken.{named_first}
use Rattle.agreement_laws.specs.CopiesClimb.{BecameOf}
use Rattle.agreement_laws.specs.NeighborHistories.{BeginsAnew, Doing, Ends, HasBegun, IsHistory}
use Rattle.agreement_laws.specs.NeighborHistories.{Pair, Party, Side, TakesEvent, Turn, event_of}
use Rattle.agreement_laws.specs.NeighborHistories.{event_taken, interface_of, is_same_side}
use Rattle.agreement_laws.specs.NeighborHistories.{other_side, party, text_at}
use Rattle.agreement_laws.specs.NeighborsAgree.{Forgets, HasForgotten, HoldsAsNew, IsWithout}
use Rattle.agreement_laws.specs.NeighborsAgree.{instances_told}
use Rattle.agreement_laws.specs.SaidIsHeld.{IsAcknowledged, IsOfDatabase, IsReceived, IsToDescribe}
use Rattle.agreement_laws.specs.SaidIsHeld.{SaysWhatIsHeld, Waits, young}
use Rattle.agreement_laws.proofs.Climbing.{copies_climb}
use Rattle.agreement_laws.proofs.Letters.{IsLetter, IsOfSent, letters, told_in}
use Rattle.agreement_laws.proofs.Names.{as_new_on, at_any_age}
use Rattle.agreement_laws.proofs.Runs.{begins_alone}
use Rattle.agreement_laws.proofs.Said.{OnLink, numbered_on}
use Rattle.agreement_laws.proofs.SaidWalk.{said_is_held}

-- ---- lists

each_member : {X : Type 0} (P : X → Type 0) (xs : List X) → ((x : X) → Contains xs x → P x)
    → AllByRecursion P xs
each_member P [] each = tt
each_member P (x ∷ xs) each = (
  each x (named_first x xs x refl),
  each_member P xs (λ y c. each y (later_is x xs y c)),
)

place_within : {X : Type 0} (xs : List X) (i : ℕ) (x : X) → slice_get xs i ≡ Some x → i < length xs
place_within [] i x at = absurd cc
place_within (y ∷ ys) zero x at = omega arith
place_within (y ∷ ys) (suc i) x at = let further : i < length ys = place_within ys i x at in
    omega (arith, further)

-- an element of the first list, or of the second
place_in : {X : Type 0} (xs ys : List X) (i : ℕ) (x : X) → slice_get (xs ++ ys) i ≡ Some x
    → (slice_get xs i ≡ Some x) ⊎ Contains ys x
place_in [] [] i x at = absurd cc
place_in [] (y ∷ ys) zero x at = inr (named_first y ys x cc)
place_in [] (y ∷ ys) (suc i) x at = further (place_in [] ys i x at)
  where
    further : (slice_get [] i ≡ Some x) ⊎ Contains ys x → (slice_get [] (suc i) ≡ Some x)
        ⊎ Contains (y ∷ ys) x
    further (inl nowhere) = absurd cc
    further (inr c) = inr (later_is y ys x c)
place_in (z ∷ zs) ys zero x at = inl at
place_in (z ∷ zs) ys (suc i) x at = place_in zs ys i x at

-- ---- a router since its start

pub record Life (r : Router) : Type 0 where
  pub config : Config
  pub steps : List Step
  pub run : Run (initial config) steps r

run_more : (steps : List Step) (old middle new : Router) (s : Step) → Run old steps middle
    → Happens middle s.moment s.event s.outs new → Run old (steps ++ (s ∷ [])) new
run_more [] old middle new s same happens =
    (new, subst (λ (r : Router). Happens r s.moment s.event s.outs new) same happens, refl)
run_more (t ∷ steps) old middle new s run happens =
    (run.0, run.1, run_more steps run.0 middle new s run.2 happens)

pub life_order : (r : Router) → Life r → IsConsistent r
life_order r life = routers_stay_in_order.run life.config life.steps r life.run

-- ---- at the start there are no delayed acknowledgments

abbrev IsQuiet : Option Link → Type 0
IsQuiet o = OnLink (λ (link : Link). link.acknowledgments ≡ finite.empty) o

module _ (number : ℕ) where
  flooded_quiet : (moment : ℕ) (lsa : Lsa) (o : AreaState) → IsQuiet (link_at number o.area.links)
      → IsQuiet (link_at number (flood_from_nobody moment lsa o).area.links)
  flooded_quiet moment lsa o is =
      numbered_on (λ (link : Link). link.acknowledgments ≡ finite.empty)
      (λ (link : Link). link.acknowledgments ≡ finite.empty)
      (λ (e : ℕ × Link). record e.1 {
        neighbor = step_on (flood_to moment None lsa e.0 e.1) e.1.neighbor;
      }) number (λ link e. e)
      o.area.links is

  flushed_quiet : (moment : ℕ) (key : Key) (c : Option DatabaseCopy) (o : AreaState)
      → IsQuiet (link_at number o.area.links)
      → IsQuiet (link_at number (flush_copy moment key c o).area.links)
  flushed_quiet moment key None o is = is
  flushed_quiet moment key (Some c) o is =
      chosen (λ (p : AreaState). IsQuiet (link_at number p.area.links)) (is_aged_out moment c) o
      (flood_from_nobody moment (lsa_with_age 3600 c.lsa)
      (on_database (age_prematurely moment key) o))
      (λ e. is) (λ e. flooded_quiet moment (lsa_with_age 3600 c.lsa)
      (on_database (age_prematurely moment key) o) is)

  originated_quiet : (may_now : Bool) (moment : ℕ) (key : Key) (says : Option LsaBody)
      (p : EventState) → IsQuiet (link_at number p.router.area.links)
      → IsQuiet (link_at number (originate_body may_now moment key says p).router.area.links)
  originated_quiet may_now moment key None p is = is
  originated_quiet may_now moment key (Some says) p is =
      chosen Quiet (has_max_sequence (finite.get p.router.area.database key)) (flush moment key p)
      (cond (may_now && may_originate moment key p.router) (originate moment key says p)
      (on_router (postpone key) p))
      (λ e. flushed_quiet moment key (finite.get p.router.area.database key) (outcome p) is)
      (λ e. chosen Quiet (may_now && may_originate moment key p.router)
      (originate moment key says p) (on_router (postpone key) p)
      (λ e.
      let lsa : Lsa = new_instance key (finite.get p.router.area.database key) says in
      flooded_quiet moment lsa (on_database (install_originated moment lsa) (outcome p)) is)
      (λ e. is))
    where
      Quiet : EventState → Type 0
      Quiet q = IsQuiet (link_at number q.router.area.links)

fresh_quiet : (is : List Interface) (i : ℕ) → IsQuiet (slice_get (map fresh_link is) i)
fresh_quiet [] i = tt
fresh_quiet (x ∷ is) zero = refl
fresh_quiet (x ∷ is) (suc i) = fresh_quiet is i

quiet_at : (is : List Interface) (number : ℕ) → IsQuiet (link_at number (map fresh_link is))
quiet_at is zero = tt
quiet_at is (suc i) = fresh_quiet is i

nothing_waits : (c : Config) (number : ℕ) (h : Header) → Waits number h (initial c).area.links → ⊥
nothing_waits c number h w =
    let p : EventState = record { router = unannounced_router c; sends = [] } in
    let quiet : IsQuiet (link_at number (initial c).area.links) =
    originated_quiet number (has_room (router_key c.router) p.router) c.start (router_key c.router)
    (wanted_body p.router (router_key c.router)) p (quiet_at c.interfaces number) in
    let its : w.link.acknowledgments ≡ finite.empty = subst IsQuiet w.there quiet in
    let no : None ≡ Some h = sym (finite.get-empty {X = Header} key_cmp w.key)
    ∙ sym (ap (λ (m : ByKey Header). finite.get m w.key) its) ∙ w.waits in absurd cc

-- nor is there a neighbor to which anything is to be described
nothing_is_left : (c : Config) (number : ℕ) (name : InstanceIdentity)
    → IsToDescribe number name (initial c).area.links → ⊥
nothing_is_left c number name (IsToDescribe.Listed n key l at there is) = let no : None ≡ Some n =
    sym (begins_alone c number).0 ∙ at in cc
nothing_is_left c number name (IsToDescribe.Last n d header at there among is) = let no : None
    ≡ Some n = sym (begins_alone c number).0 ∙ at in cc

-- ---- what is kept

pub record Remembers (number : ℕ) (p : Party) (Old : InstanceIdentity → ℕ → Type 0) : Type 0 where
  pub life : Life p.router
  pub told : (text : ℕ) (bytes : List ℕ) → slice_get p.sent text ≡ Some bytes → (packet : Packet)
      → PacketText bytes packet → (name : InstanceIdentity)
      → Contains (instances_told packet.body) name → HoldsAsNew p.router name ⊎ Old name text
  pub waits : (h : Header) → Waits number h p.router.area.links
      → HoldsAsNew p.router (identity_of_header h) ⊎ ((text : ℕ) → Old (identity_of_header h) text)
  pub left : (name : InstanceIdentity) → IsToDescribe number name p.router.area.links
      → HoldsAsNew p.router name ⊎ ((text : ℕ) → Old name text)

module _ (number : ℕ) (Old : InstanceIdentity → ℕ → Type 0) where
  abbrev With : Party → Party → InstanceIdentity → ℕ → Type 0
  With p q name text = Forgets number name text p q ⊎ Old name text

  -- ---- an event

  module _ (heard : List (List ℕ)) (p q : Party) (t : TakesEvent number heard p q)
      (h : Remembers number p Old) where
    abbrev ended : EventState
    ended = end_event p.router t.moment t.happens.after

    order : IsConsistent p.router
    order = life_order p.router h.life

    said : SaysWhatIsHeld p.router t.moment t.event ended.sends q.router
    said = said_is_held p.router t.moment t.event t.outs q.router t.happens order

    lives : Life q.router
    lives = record {
      config = h.life.config;
      steps = h.life.steps ++ (record { moment = t.moment; event = t.event; outs = t.outs } ∷ []);
      run = run_more h.life.steps (initial h.life.config) p.router q.router (record {
        moment = t.moment;
        event = t.event;
        outs = t.outs;
      }) h.life.run t.happens;
    }

    -- what was held is still held, or there is none
    still : (name : InstanceIdentity) → HoldsAsNew p.router name → HoldsAsNew q.router name
        ⊎ IsWithout name.key q.router
    still name has = by_copy (copies_climb p.router t.moment t.event t.outs q.router t.happens order
        name.key has.copy has.there)
      where
        by_copy : BecameOf p.router t.moment t.event (copy_now t.moment has.copy) name.key q.router
            → HoldsAsNew q.router name ⊎ IsWithout name.key q.router
        by_copy (BecameOf.IsHeld c at new) =
            inl (record {
              copy = c;
              there = at;
              as_new = as_new_on (identity_of_lsa c.lsa) (identity_of_lsa has.copy.lsa) name
                  (at_any_age (copy_now t.moment c) (copy_now t.moment has.copy) new) has.as_new;
            })
        by_copy (BecameOf.IsGone last had new aged none off) = inr none

    became : (x : Header) → BecameOf p.router t.moment t.event (instance_of x) (key_of x) q.router
        → HoldsAsNew q.router (identity_of_header x) ⊎ IsWithout (key_of x) q.router
    became x (BecameOf.IsHeld c at new) = inl (record {
      copy = c;
      there = at;
      as_new = at_any_age (copy_now t.moment c) (instance_of x) new;
    })
    became x (BecameOf.IsGone last had new aged none off) = inr none

    as_young : (name : InstanceIdentity) → BecameOf p.router t.moment t.event (young name) name.key
        q.router → HoldsAsNew q.router name ⊎ IsWithout name.key q.router
    as_young name (BecameOf.IsHeld c at new) = inl (record {
      copy = c;
      there = at;
      as_new = at_any_age (copy_now t.moment c) (young name) new;
    })
    as_young name (BecameOf.IsGone last had new aged none off) = inr none

    -- ---- packets

    within : (text : ℕ) (bytes : List ℕ) → slice_get q.sent text ≡ Some bytes → text < length q.sent
    within text bytes at = place_within q.sent text bytes at

    or_forgotten : (name : InstanceIdentity) (text : ℕ) → text < length q.sent
        → HoldsAsNew q.router name ⊎ IsWithout name.key q.router
        → HoldsAsNew q.router name ⊎ With p q name text
    or_forgotten name text lt (inl has) = inl has
    or_forgotten name text lt (inr none) = inr (inl (Forgets.Without none lt))

    old_text : (name : InstanceIdentity) (text : ℕ) → text < length q.sent
        → HoldsAsNew p.router name ⊎ Old name text → HoldsAsNew q.router name ⊎ With p q name text
    old_text name text lt (inl has) = or_forgotten name text lt (still name has)
    old_text name text lt (inr old) = inr (inr old)

    received : (x : Header) → IsReceived p.router t.moment t.event q.router number x
        → (HoldsAsNew q.router (identity_of_header x) ⊎ IsWithout (key_of x) q.router)
        ⊎ ((text : ℕ) → Old (identity_of_header x) text)
    received x (IsReceived.Waited w) = by_old (h.waits x w)
      where
        by_old : HoldsAsNew p.router (identity_of_header x)
            ⊎ ((text : ℕ) → Old (identity_of_header x) text)
            → (HoldsAsNew q.router (identity_of_header x) ⊎ IsWithout (key_of x) q.router)
            ⊎ ((text : ℕ) → Old (identity_of_header x) text)
        by_old (inl has) = inl (still (identity_of_header x) has)
        by_old (inr old) = inr old
    received x (IsReceived.Held b) = inl (became x b)

    of_database : (name : InstanceIdentity)
        → IsOfDatabase p.router t.moment t.event q.router number name
        → (HoldsAsNew q.router name ⊎ IsWithout name.key q.router)
        ⊎ ((text : ℕ) → Old name text)
    of_database name (IsOfDatabase.ToDescribe left) = by_old (h.left name left)
      where
        by_old : HoldsAsNew p.router name ⊎ ((text : ℕ) → Old name text)
            → (HoldsAsNew q.router name ⊎ IsWithout name.key q.router)
            ⊎ ((text : ℕ) → Old name text)
        by_old (inl has) = inl (still name has)
        by_old (inr old) = inr old
    of_database name (IsOfDatabase.Held b) = inl (as_young name b)

    -- a property of what is sent at the interface
    abbrev OfSent : Content → Type 0
    OfSent (Content.SendsHello hello) = Unit {0}
    OfSent (Content.Describes d) = (x : Header) → Contains d.headers x
        → IsOfDatabase p.router t.moment t.event q.router number (identity_of_header x)
    OfSent (Content.Requests keys) = Unit {0}
    OfSent (Content.Updates lsa) = BecameOf p.router t.moment t.event (instance_of lsa.header)
        (lsa_key lsa) q.router × IsIdentityInRange (identity_of_lsa lsa)
    OfSent (Content.Acknowledges x) = IsAcknowledged p.router t.moment t.event q.router number x

    ranged : AllByRecursion (λ (s : Send). AllByRecursion IsIdentityInRange
        (instances_in_content s.content)) ended.sends
    ranged = named_sends IsIdentityInRange ended.sends t.in_range

    all_sent : AllByRecursion (λ (s : Send). s.interface ≡ number → OfSent s.content) ended.sends
    all_sent =
        each_member (λ (s : Send). s.interface ≡ number → OfSent s.content) ended.sends
        (λ s c same. of_content s.interface s.content c same
        (of_member (λ (s : Send). AllByRecursion IsIdentityInRange (instances_in_content s.content))
        ended.sends ranged s c))
      where
        of_content : (n : ℕ) (says : Content) → Contains ended.sends (record {
          interface = n;
          content = says;
        }) → n ≡ number
            → AllByRecursion IsIdentityInRange (instances_in_content says) → OfSent says
        of_content n (Content.SendsHello hello) c same is = tt
        of_content n (Content.Describes d) c same is =
            λ x among. subst (λ m. IsOfDatabase p.router t.moment t.event q.router m
            (identity_of_header x)) same (said.described n d x c among)
        of_content n (Content.Requests keys) c same is = tt
        of_content n (Content.Updates lsa) c same is = (said.updates n lsa c, is.0)
        of_content n (Content.Acknowledges x) c same is =
            subst (λ m. IsAcknowledged p.router t.moment t.event q.router m x) same
            (said.acknowledged n x c)

    abbrev Letter : List ℕ → Type 0
    Letter bytes = IsLetter OfSent number p.router.id ended.sends all_sent bytes

    new_letters : AllByRecursion Letter (filter_map (text_at number) t.outs)
    new_letters =
        subst (λ outs. AllByRecursion Letter (filter_map (text_at number) outs))
        (sym t.happens.sent) (letters OfSent number p.router.id ended.sends all_sent
        p.router.area.links t.texts)

    module _ (text : ℕ) (bytes : List ℕ) (at : slice_get q.sent text ≡ Some bytes) (packet : Packet)
        (written : PacketText bytes packet) where
      of_update : (lsa : Lsa) → OfSent (Content.Updates lsa) → (name : InstanceIdentity)
          → identity_of_lsa lsa ≡ name → HoldsAsNew q.router name ⊎ With p q name text
      of_update lsa so name is =
          subst (λ (n : InstanceIdentity). HoldsAsNew q.router n ⊎ With p q n text) is
          (or_forgotten (identity_of_lsa lsa) text (within text bytes at)
          (became lsa.header so.0))

      by_reason : (x : Header)
          → (HoldsAsNew q.router (identity_of_header x) ⊎ IsWithout (key_of x) q.router)
          ⊎ ((text : ℕ) → Old (identity_of_header x) text)
          → HoldsAsNew q.router (identity_of_header x) ⊎ With p q (identity_of_header x) text
      by_reason x (inl so) = or_forgotten (identity_of_header x) text (within text bytes at) so
      by_reason x (inr old) = inr (inr (old text))

      of_sent : (name : InstanceIdentity) → IsOfSent OfSent (λ lsa so. so.1) packet.body name
          → HoldsAsNew q.router name ⊎ With p q name text
      of_sent name (IsOfSent.OfUpdate lsa so is) = of_update lsa so name is
      of_sent name (IsOfSent.OfDescription d x among so is) =
          subst (λ (n : InstanceIdentity). HoldsAsNew q.router n ⊎ With p q n text) is
          (by_reason x (of_database (identity_of_header x) (so x among)))
      of_sent name (IsOfSent.OfAcknowledgment headers x body among (IsAcknowledged.Received r) is) =
          subst (λ (n : InstanceIdentity). HoldsAsNew q.router n ⊎ With p q n text) is
          (by_reason x (received x r))
      of_sent name (IsOfSent.OfAcknowledgment headers x body among
          (IsAcknowledged.NothingToFlush none aged) is) =
          inr (inl (Forgets.NothingToFlush
          (subst (λ (n : InstanceIdentity). IsWithout n.key p.router) is none) bytes at
          (record {
            packet = packet;
            text = written;
            headers = headers;
            acknowledges = body;
            header = x;
            among = among;
            named = is;
            flushed = aged;
          })))

      told_by : (slice_get p.sent text ≡ Some bytes)
          ⊎ Contains (filter_map (text_at number) t.outs) bytes → (name : InstanceIdentity)
          → Contains (instances_told packet.body) name → HoldsAsNew q.router name
          ⊎ With p q name text
      told_by (inl before) name c = old_text name text (within text bytes at)
          (h.told text bytes before packet written name c)
      told_by (inr sent) name c =
          of_sent name (told_in OfSent (λ lsa so. so.1) number p.router.id ended.sends all_sent
          bytes (of_member Letter (filter_map (text_at number) t.outs) new_letters bytes sent)
          packet written name c)

    waits_for : (x : Header) → Waits number x q.router.area.links
        → HoldsAsNew q.router (identity_of_header x)
        ⊎ ((text : ℕ) → With p q (identity_of_header x) text)
    waits_for x w = by_reason (received x (said.waiting number x w))
      where
        by_reason : (HoldsAsNew q.router (identity_of_header x) ⊎ IsWithout (key_of x) q.router)
            ⊎ ((text : ℕ) → Old (identity_of_header x) text)
            → HoldsAsNew q.router (identity_of_header x)
            ⊎ ((text : ℕ) → With p q (identity_of_header x) text)
        by_reason (inl (inl has)) = inl has
        by_reason (inl (inr none)) = inr (λ text. inl (Forgets.WithoutWaiting none x w refl))
        by_reason (inr old) = inr (λ text. inr (old text))

    left_for : (name : InstanceIdentity) → IsToDescribe number name q.router.area.links
        → HoldsAsNew q.router name ⊎ ((text : ℕ) → With p q name text)
    left_for name left = by_reason (of_database name (said.to_describe number name left))
      where
        by_reason : (HoldsAsNew q.router name ⊎ IsWithout name.key q.router)
            ⊎ ((text : ℕ) → Old name text) → HoldsAsNew q.router name
            ⊎ ((text : ℕ) → With p q name text)
        by_reason (inl (inl has)) = inl has
        by_reason (inl (inr none)) = inr (λ text. inl (Forgets.WithoutDescribed none left))
        by_reason (inr old) = inr (λ text. inr (old text))

    after_event : Remembers number q (With p q)
    after_event = record {
      life = lives;
      told = λ text bytes at packet written name c.
          told_by text bytes at packet written
          (place_in p.sent (filter_map (text_at number) t.outs) text bytes
          (subst (λ (xs : List (List ℕ)). slice_get xs text ≡ Some bytes) t.sent at)) name
          c;
      waits = waits_for;
      left = left_for;
    }

  -- ---- a restart

  after_start : (p q : Party) → BeginsAnew p q → Remembers number p Old
      → Remembers number q (With p q)
  after_start p q b h = record {
    life = record {
      config = b.config;
      steps = [];
      run = b.router;
    };
    told = λ text bytes at packet written name c.
        let lt : text < length q.sent = place_within q.sent text bytes at in
        inr (inl (Forgets.BegunAnew (subst (λ n. text < n) (sym b.began)
        (subst (λ (xs : List (List ℕ)). text < length xs) b.sent lt))));
    waits = λ x w. absurd (nothing_waits b.config number x
        (subst (λ (r : Router). Waits number x r.area.links) b.router w));
    left = λ name l. absurd (nothing_is_left b.config number name
        (subst (λ (r : Router). IsToDescribe number name r.area.links) b.router l));
  }

  -- ---- a turn of the other one

  unchanged : (p q : Party) → q ≡ p → Remembers number p Old → Remembers number q (With p q)
  unchanged p q same h =
      subst (λ (x : Party). Remembers number x (With p x)) (sym same)
      (record {
        life = h.life;
        told = λ text bytes at packet written name c. more name text
            (h.told text bytes at packet written name c);
        waits = λ x w. more_waits (identity_of_header x) (h.waits x w);
        left = λ name l. more_waits name (h.left name l);
      })
    where
      more : (name : InstanceIdentity) (text : ℕ) → HoldsAsNew p.router name ⊎ Old name text
          → HoldsAsNew p.router name ⊎ With p p name text
      more name text (inl has) = inl has
      more name text (inr old) = inr (inr old)

      more_waits : (name : InstanceIdentity)
          → HoldsAsNew p.router name ⊎ ((text : ℕ) → Old name text)
          → HoldsAsNew p.router name ⊎ ((text : ℕ) → With p p name text)
      more_waits name (inl has) = inl has
      more_waits name (inr old) = inr (λ text. inr (old text))

-- ---- histories

abbrev pub step_taken : {number : ℕ} {heard : List (List ℕ)} {p q : Party}
    → TakesEvent number heard p q → Step
step_taken t = record { moment = t.moment; event = t.event; outs = t.outs }

abbrev pub Turns : (ends : Ends) → Side → Pair → Pair → Option Step → Type 0
Turns ends side before now event =
    ((t : TakesEvent (interface_of side ends) (party (other_side side) before).sent
    (party side before) (party side now)) × (event ≡ Some (step_taken t)))
    ⊎ ((event ≡ None) × (BeginsAnew (party side before) (party side now)
    ⊎ (party side now ≡ party side before)))

-- what a turn means for either side
pub turn_of : (ends : Ends) (side : Side) (before now : Pair) (t : Turn ends before now)
    → Turns ends side before now (event_of ends side before now t)
turn_of ends side before now t = by_side t.side side t.does t.other
  where
    by_side : (its side : Side) → (does : Doing (interface_of its ends)
        (party (other_side its) before).sent (party its before) (party its now))
        → party (other_side its) now ≡ party (other_side its) before
        → Turns ends side before now (cond (is_same_side its side) (event_taken does) None)
    by_side Side.Left Side.Left (Doing.Event t) same = inl (t, refl)
    by_side Side.Left Side.Left (Doing.Start b) same = inr (refl, inl b)
    by_side Side.Left Side.Right does same = inr (refl, inr same)
    by_side Side.Right Side.Left does same = inr (refl, inr same)
    by_side Side.Right Side.Right (Doing.Event t) same = inl (t, refl)
    by_side Side.Right Side.Right (Doing.Start b) same = inr (refl, inl b)

first_remembers : (number : ℕ) (p : Party) → HasBegun p → Remembers number p (λ name text. ⊥)
first_remembers number p b = record {
  life = record { config = b.config; steps = []; run = b.router };
  told = λ text bytes at packet written name c.
      let no : None ≡ Some bytes = subst (λ (xs : List (List ℕ)). slice_get xs text ≡ Some bytes)
      b.sent at in absurd cc;
  waits = λ x w. absurd (nothing_waits b.config number x
      (subst (λ (r : Router). Waits number x r.area.links) b.router w));
  left = λ name l. absurd (nothing_is_left b.config number name
      (subst (λ (r : Router). IsToDescribe number name r.area.links) b.router l));
}

pub remembers : (ends : Ends) (side : Side) (now : Pair) (earlier : List Pair)
    (h : IsHistory ends now earlier) → Remembers (interface_of side ends) (party side now)
    (λ (name : InstanceIdentity) (text : ℕ). HasForgotten ends side name text now earlier h)
remembers ends Side.Left now [] h = first_remembers ends.left now.left h.0
remembers ends Side.Right now [] h = first_remembers ends.right now.right h.1
remembers ends side now (before ∷ earlier) h =
    by_turn (event_of ends side before now h.0) (turn_of ends side before now h.0)
    (remembers ends side before earlier h.1)
  where
    by_turn : (event : Option Step) → Turns ends side before now event
        → Remembers (interface_of side ends) (party side before)
        (λ (name : InstanceIdentity) (text : ℕ). HasForgotten ends side name text before earlier
        h.1) → Remembers (interface_of side ends) (party side now)
        (λ (name : InstanceIdentity) (text : ℕ). HasForgotten ends side name text now
        (before ∷ earlier) h)
    by_turn event (inl t) was =
        after_event (interface_of side ends)
        (λ (name : InstanceIdentity) (text : ℕ). HasForgotten ends side name text before earlier
        h.1)
        (party (other_side side) before).sent (party side before) (party side now) t.0 was
    by_turn event (inr (none, inl b)) was =
        after_start (interface_of side ends)
        (λ (name : InstanceIdentity) (text : ℕ). HasForgotten ends side name text before earlier
        h.1)
        (party side before) (party side now) b was
    by_turn event (inr (none, inr same)) was =
        unchanged (interface_of side ends)
        (λ (name : InstanceIdentity) (text : ℕ). HasForgotten ends side name text before earlier
        h.1)
        (party side before) (party side now) same was
