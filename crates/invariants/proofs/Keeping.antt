-- The numbers of all instances that a router holds stay in their ranges, so that the bytes of each
-- LSA that it sends are parsed as that LSA; and so a step keeps what acknowledgments rely on.
use Rattle.std.proofs.Common.{◌≡◌, ◌≢◌, ℕ, ℤ, pos, ◌+ℤ◌, ◌+◌, ◌*◌, ◌-◌, ◌/◌, ◌%◌, ◌<◌, ◌≤◌, ◌^◌}
use Rattle.std.proofs.Common.{Bool, true, false, cond, length, List, [], ◌∷◌, ◌++◌, map, sum}
use Rattle.std.proofs.Common.{Option, None, Some, FitsSigned, refl, sym, ap, subst, ◌∙◌, arith}
use Rattle.std.specs.Prelude.{◌==◌}
use Rattle.std.specs.Int.{w32, cast_unsigned}
use Rattle.std.specs.Ordering.{int_cmp, is_eq}
use Rattle.std.proofs.lemmas.Int.{ints}
use Rattle.std.specs.List.{AllByRecursion, Contains, cons_option, enumerate_from, filter_map}
use Rattle.std.specs.List.{flat_map}
use Rattle.words.specs.Fields.{field, fields}
use Rattle.words.specs.declared.key.Key.{Key}
use Rattle.words.specs.declared.route.External.{External}
use Rattle.lsa.specs.Fletcher.{bytes_but_age, first_check_byte, one_to_255, with_checksum}
use Rattle.lsa.specs.Fletcher.{second_check_byte, without_checksum, weighted_sum}
use Rattle.lsa.specs.Headers.{IsHeader, header_at, header_text}
use Rattle.lsa.specs.Origination.{sealed_lsa, with_header_of_body}
use Rattle.lsa.specs.Reading.{fault_of, lsa_in, lsa_of, read_unless}
use Rattle.lsa.specs.Text.{Parts, body_text, text, type_of}
use Rattle.lsa.specs.declared.body.LsaBody.{LsaBody}
use Rattle.lsa.specs.declared.body.LsaBody.TheVariants as lsa_body
use Rattle.lsa.specs.declared.fault.LsaFault.{LsaFault}
use Rattle.lsa.proofs.Headers.{header-fits, header-reads_back}
use Rattle.lsdb.specs.Copies.{DatabaseCopy}
use Rattle.lsdb.specs.Headers.{Header, Lsa}
use Rattle.packet.specs.declared.model.PacketBody.{PacketBody}
use Rattle.packet.specs.declared.model.PacketBody.TheVariants as body
use Rattle.packet.specs.Text.{IsBody, IsUnparsedLsa}
use Rattle.adjacency.specs.Contents.{Content}
use Rattle.adjacency.proofs.Maps.{IfThere, none_in}
use Rattle.adjacency.proofs.Told.{OfCopy, Telling}
use Rattle.received.specs.Links.{Link}
use Rattle.received.specs.AreaStates.{Send, at_interface}
use Rattle.event_rules.proofs.Rooms.{both, mapped_all, paired_all}
use Rattle.event_rules.proofs.Walk.{OfEvent}
use Rattle.event_rules.specs.declared.model.Config.{Config}
use Rattle.event_rules.specs.declared.model.Out.{Out}
use Rattle.event_rules.specs.Endings.{end_event}
use Rattle.event_rules.specs.Events.{Happens, Run, Step, initial}
use Rattle.event_rules.specs.EventState.{EventState}
use Rattle.event_rules.specs.InstanceIdentities.{InstanceIdentity, identity_of_header}
use Rattle.event_rules.specs.InstanceIdentities.{identity_of_lsa}
use Rattle.event_rules.specs.InstanceIdentities.{instances_advertised, instances_in_update}
use Rattle.event_rules.specs.InstanceIdentities.{instances_received}
use Rattle.event_rules.specs.Originations.{external_key, has_max_sequence, new_instance}
use Rattle.event_rules.specs.Originations.{next_sequence, router_key}
use Rattle.event_rules.specs.Packing.{IsSentText, bodies, out_of, outs_at}
use Rattle.event_rules.specs.Routers.{Occurrence, Router, fresh_link, unannounced_router}
use Rattle.invariants.specs.Worlds.{IsKnown, IsLawfulOut, instances_stored}
use Rattle.invariants.specs.Keeping.{AnnouncesAddress, AreTexts, AreTextsAt, EventsKeepWhatIsKnown}
use Rattle.invariants.specs.Keeping.{HasNumbersInRange, InstancesStayInRange, IsIdentityInRange}
use Rattle.invariants.specs.Keeping.{IsLsaKey}
use Rattle.invariants.specs.Keeping.{KeepsWhatIsKnown}
use Rattle.invariants.specs.InOrder.{AnnouncesItsOwn, IsConsistent}
use Rattle.invariants.specs.NewInstances.{IsNewInstance}
use Rattle.invariants.specs.Known.{Bears, EventsHoldOnlyWhatIsKnown, IsOutOf, IsTextOf}
use Rattle.invariants.specs.Known.{instances_in_content, instances_in_sends}
use Rattle.invariants.specs.TakenOff.{TakesOffWhatIsTold}
use Rattle.invariants.proofs.Acknowledged.{taken_off_was_told}
use Rattle.invariants.proofs.Known.{Enters, IsExplained, Leaves, all_known, all_new, event_leaves}
use Rattle.invariants.proofs.Known.{first_own, held_named, left_all, named_by, named_sends}
use Rattle.invariants.proofs.Known.{new_ones, none_on, of_member, of_members, own_stays}
use Rattle.invariants.proofs.Known.{right_all, router_stays}
use Rattle.invariants.proofs.News.{all_explained}
use Rattle.invariants.proofs.Packed.{at_number, bodies_bear, outs_bear}
use Rattle.invariants.proofs.Told.{IsOwn, first_told, told}

-- ---- an LSA is parsed with the instance that was written, whatever its other header fields

-- the fields that don't identify the instance, as they are encoded
abbrev cut : Header → Header
cut h = record h { age = h.age % 2 ^ 16; options = h.options % 2 ^ 8; length = h.length % 2 ^ 16 }

one_byte : (n : ℕ) → fields ((1, n % 2 ^ 8) ∷ []) ≡ fields ((1, n) ∷ [])
one_byte n =
    let low : n % 2 ^ 8 % 256 ≡ n % 256 = omega arith in
    λ i. low i ∷ []

two_bytes : (n : ℕ) → fields ((2, n % 2 ^ 16) ∷ []) ≡ fields ((2, n) ∷ [])
two_bytes n =
    let high : n % 2 ^ 16 / 256 % 256 ≡ n / 256 % 256 = omega arith in
    let low : n % 2 ^ 16 % 256 ≡ n % 256 = omega arith in
    λ i. high i ∷ low i ∷ []

cut_text : (h : Header) → header_text (cut h) ≡ header_text h
cut_text h = λ i.
    two_bytes h.age i ++ one_byte h.options i
    ++ fields ((1, h.ls_type) ∷ (4, h.link_state_id) ∷ (4, h.advertising_router)
    ∷ (4, cast_unsigned w32 h.sequence) ∷ (2, h.checksum) ∷ []) ++ two_bytes h.length i

cut_is : (h : Header) → IsIdentityInRange (identity_of_header h) → IsHeader (cut h)
cut_is h is = record {
  age = omega arith;
  options = omega arith;
  ls_type = is.key.ls_type;
  link_state_id = is.key.link_state_id;
  advertising_router = is.key.advertising_router;
  sequence = is.sequence;
  checksum = is.checksum;
  length = omega arith;
}

pub name_read : (l : Lsa) → IsIdentityInRange (identity_of_lsa l)
    → identity_of_header (header_at (text l) 0) ≡ identity_of_lsa l
name_read l is =
    let same : header_text (cut l.header) ++ body_text l.body ≡ text l =
    ap (λ t. t ++ body_text l.body) (cut_text l.header) in
    ap (λ bytes. identity_of_header (header_at bytes 0)) (sym same)
    ∙ ap (λ (h : Header). identity_of_header h)
    (header-reads_back (cut l.header) [] (body_text l.body) (cut_is l.header is))

-- ---- what is sent is what is received

module _ (K : InstanceIdentity → Type 0) where
  abbrev Named : InstanceIdentity → Type 0
  Named name = K name × IsIdentityInRange name

  update_tells : (lsas : List (List ℕ)) → AllByRecursion (IsTextOf Named) lsas
      → AllByRecursion K (instances_in_update lsas)
  update_tells [] h = tt
  update_tells (bytes ∷ rest) h = with_first (fault_of bytes) (update_tells rest h.1)
    where
      same : identity_of_lsa h.0.lsa ≡ identity_of_lsa (lsa_of bytes)
      same = sym (ap (λ bs. identity_of_header (header_at bs 0)) h.0.is
          ∙ name_read h.0.lsa h.0.known.1)

      with_first : (o : Option LsaFault) → AllByRecursion K (instances_in_update rest)
          → AllByRecursion K (map identity_of_lsa
          (cons_option (read_unless bytes o) (filter_map lsa_in rest)))
      with_first None more = (subst K same h.0.known.0, more)
      with_first (Some f) more = more

  body_tells : (b : PacketBody) → Bears Named b → AllByRecursion K (instances_advertised b)
  body_tells (body.Hello h) bears = tt
  body_tells (body.Description d) bears = tt
  body_tells (body.Request keys) bears = tt
  body_tells (body.Update lsas) bears = update_tells lsas bears
  body_tells (body.Acknowledgment headers) bears =
      mapped_all identity_of_header (λ h. Named (identity_of_header h)) K (λ h k. k.0) headers bears

-- each packet that is sent is from this router, and each instance in it is known
module _ (old : Router) (event : Occurrence) (originated : List InstanceIdentity)
    (sends : List Send)
  where
    abbrev Known : InstanceIdentity → Type 0
    Known name = Named (IsKnown old event originated) name

    lawful_out : (n : ℕ) (b : PacketBody) → Bears Known b × IsSentText old.id b
        → IsLawfulOut old event originated (out_of old.id n b)
    lawful_out n b so = record {
      packet = record { router = old.id; body = b };
      text = so.1;
      own = refl;
      known = λ name c. of_member (IsKnown old event originated) (instances_advertised b)
          (body_tells (IsKnown old event originated) b so.0) name c;
    }

    pub outs_lawful : AllByRecursion (λ (s : Send). AllByRecursion Known
        (instances_in_content s.content)) sends → (n : ℕ) (links : List Link)
        → AllByRecursion (λ (e : ℕ × Link). AreTextsAt old.id sends e.0 e.1)
        (enumerate_from n links) → AllByRecursion (IsLawfulOut old event originated)
        (flat_map (λ (e : ℕ × Link). outs_at old.id sends e.0 e.1)
        (enumerate_from n links))
    outs_lawful so n [] texts = tt
    outs_lawful so n (link ∷ links) texts =
        let contents : List Content = filter_map (at_interface n) sends in
        both (IsLawfulOut old event originated) (outs_at old.id sends n link)
        (flat_map (λ (e : ℕ × Link). outs_at old.id sends e.0 e.1) (enumerate_from (n + 1) links))
        (mapped_all (out_of old.id n) (λ b. Bears Known b × IsSentText old.id b)
        (IsLawfulOut old event originated) (lawful_out n) (bodies link.interface.delay contents)
        (paired_all (Bears Known) (IsSentText old.id) (bodies link.interface.delay contents)
        (bodies_bear Known link.interface.delay contents
        (at_number (λ c. AllByRecursion Known (instances_in_content c)) n sends so)) texts.0))
        (outs_lawful so (n + 1) links texts.1)

-- ---- the contents of a Link State Update

header_names : (h : Header) → IsHeader h → IsIdentityInRange (identity_of_header h)
header_names h is = record {
  key = record {
    ls_type = is.ls_type;
    link_state_id = is.link_state_id;
    advertising_router = is.advertising_router;
  };
  sequence = is.sequence;
  checksum = is.checksum;
}

update_in_range : (lsas : List (List ℕ)) → AllByRecursion IsUnparsedLsa lsas
    → AllByRecursion IsIdentityInRange (instances_in_update lsas)
update_in_range [] h = tt
update_in_range (bytes ∷ rest) h = with_first (fault_of bytes) (update_in_range rest h.1)
  where
    with_first : (o : Option LsaFault) → AllByRecursion IsIdentityInRange (instances_in_update rest)
        → AllByRecursion IsIdentityInRange (map identity_of_lsa
        (cons_option (read_unless bytes o) (filter_map lsa_in rest)))
    with_first None more = (header_names (header_at bytes 0) (header-fits bytes 0 h.0.bytes), more)
    with_first (Some f) more = more

brought_in_range : (b : PacketBody) → IsBody b → AllByRecursion IsIdentityInRange
    (instances_received b)
brought_in_range (body.Hello h) is = tt
brought_in_range (body.Description d) is = tt
brought_in_range (body.Request keys) is = tt
brought_in_range (body.Update lsas) is = update_in_range lsas is
brought_in_range (body.Acknowledgment headers) is = tt

-- ---- a new instance

kind_in_range : (says : LsaBody) → type_of says < 2 ^ 8
kind_in_range (lsa_body.Router r) = omega arith
kind_in_range (lsa_body.Network n) = omega arith
kind_in_range (lsa_body.NetworkSummary s) = omega arith
kind_in_range (lsa_body.RouterSummary s) = omega arith
kind_in_range (lsa_body.External e) = omega arith

one_in_range : (n : ℕ) → one_to_255 n ≤ 255
one_in_range n =
    let rest : n % 255 ≤ 255 = omega arith in
    by_rest (n % 255 == 0) (n % 255) rest
  where
    by_rest : (b : Bool) (m : ℕ) → m ≤ 255 → cond b 255 m ≤ 255
    by_rest true m le = omega arith
    by_rest false m le = le

first_in_range : (bytes : List ℕ) → first_check_byte bytes ≤ 255
first_in_range bytes = one_in_range
    ((length bytes - 17) * sum (bytes_but_age bytes) + 254 * weighted_sum (bytes_but_age bytes))

second_in_range : (bytes : List ℕ) → second_check_byte bytes ≤ 255
second_in_range bytes = one_in_range
    (254 * (length bytes - 16) * sum (bytes_but_age bytes) + weighted_sum (bytes_but_age bytes))

both_in_range : (x y : ℕ) → x ≤ 255 → y ≤ 255 → x * 256 + (y * 1 + 0) < 65536
both_in_range x y hx hy = omega arith

checksum_in_range : (p : Parts) → field (with_checksum (text (with_header_of_body p))) 16 2 < 2 ^ 16
checksum_in_range p =
    let t = without_checksum (text (with_header_of_body p)) in
    both_in_range (first_check_byte t) (second_check_byte t) (first_in_range t) (second_in_range t)

next_in_range : (z : ℤ) → FitsSigned w32 z → z ≢ pos 0x7fff_ffff → FitsSigned w32 (z +ℤ pos 1)
next_in_range z fits not_last = omega (arith, ints)

sequence_in_range : (key : Key) (copy : Option DatabaseCopy)
    → IfThere (λ k c. IsIdentityInRange (identity_of_lsa c.lsa)) key copy → has_max_sequence copy
    ≡ false
    → FitsSigned w32 (next_sequence copy)
sequence_in_range key None is goes = record { sfits = omega arith }
sequence_in_range key (Some c) is goes =
    next_in_range c.lsa.header.sequence is.sequence
    (λ last.
    let max : has_max_sequence (Some c) ≡ true =
    ap (λ s. is_eq (int_cmp s (pos 0x7fff_ffff))) last in
    let no : true ≡ false = sym max ∙ goes in
    absurd cc)

-- ---- the ranges of the numbers

new_in_range : (key : Key) (copy : Option DatabaseCopy) (says : LsaBody) → IsLsaKey key
    → IfThere (λ k c. IsIdentityInRange (identity_of_lsa c.lsa)) key copy → has_max_sequence copy
    ≡ false
    → IsIdentityInRange (identity_of_lsa (new_instance key copy says))
unfolding sealed_lsa
new_in_range key copy says its there goes = record {
  key = record {
    ls_type = kind_in_range says;
    link_state_id = its.link_state_id;
    advertising_router = its.advertising_router;
  };
  sequence = sequence_in_range key copy there goes;
  checksum = checksum_in_range (record {
    header = record {
      age = 0;
      options = 2;
      ls_type = key.ls_type;
      link_state_id = key.link_state_id;
      advertising_router = key.advertising_router;
      sequence = next_sequence copy;
      checksum = 0;
      length = 0;
    };
    body = says;
  });
}

own_key_in_range : (id : ℕ) → id < 2 ^ 32 → IsLsaKey (router_key id)
own_key_in_range id is = record {
  ls_type = omega arith;
  link_state_id = is;
  advertising_router = is;
}

asked_in_range : (id : ℕ) → id < 2 ^ 32 → (event : Occurrence) → AnnouncesAddress event
    → (tagged : External) (tag : ℕ) (priced : External) (price : ℕ)
    → event ≡ Occurrence.Redistribute tagged tag priced price
    → IsLsaKey (external_key id priced.prefix)
asked_in_range id is event address tagged tag priced price same =
    let lt : priced.prefix.address < 2 ^ 32 = subst AnnouncesAddress same address in
    record { ls_type = omega arith; link_state_id = lt; advertising_router = is }

enters : (old : Router) (event : Occurrence) → AnnouncesAddress event → HasNumbersInRange old
    → Enters IsIdentityInRange IsLsaKey (λ name is. is.key) old event
enters old event address holds = record {
  own = own_key_in_range old.id holds.id;
  held = of_members IsIdentityInRange (instances_stored old) holds.held;
  announced = holds.announced;
  brought = λ number bytes packet is text. brought_in_range packet.body text.is_packet.body;
  asked = λ tagged tag priced price is. asked_in_range old.id holds.id event address tagged tag
      priced price is;
  new = new_in_range;
}

-- ---- an event

module _ (old : Router) (moment : ℕ) (event : Occurrence) (outs : List Out) (new : Router)
    (happens : Happens old moment event outs new)
    (address : AnnouncesAddress event) (own : AnnouncesItsOwn old) (holds : HasNumbersInRange old)
  where
    abbrev p : EventState
    p = end_event old moment happens.after

    leaves : Leaves IsIdentityInRange IsLsaKey (λ name is. is.key) old event p
    leaves = event_leaves IsIdentityInRange IsLsaKey (λ name is. is.key) old moment event outs new
        happens
        own (enters old event address holds)

    pub stays_in_range : HasNumbersInRange new
    stays_in_range =
        let l : Leaves IsIdentityInRange IsLsaKey (λ name is. is.key) old event p = leaves in
        subst HasNumbersInRange (sym happens.router)
        (record {
          id = subst (λ id. id < 2 ^ 32) (sym l.same_router) holds.id;
          held = λ name c. of_member IsIdentityInRange (instances_stored p.router)
              (left_all IsIdentityInRange (instances_stored p.router) (instances_in_sends p.sends)
              l.holds)
              name c;
          announced = l.announced;
        })

    pub sends_in_range : AllByRecursion IsIdentityInRange (instances_in_sends p.sends)
    sends_in_range =
        right_all IsIdentityInRange (instances_stored p.router) (instances_in_sends p.sends)
        leaves.holds

    module _ (order : IsConsistent old) where
      abbrev New : InstanceIdentity → Type 0
      New name = IsNewInstance old moment event new name

      abbrev names : List InstanceIdentity
      names = instances_stored p.router ++ instances_in_sends p.sends

      why : AllByRecursion (IsExplained old event New) names
      why = all_explained old moment event outs new happens order

      pub keeps_what_is_known : TakesOffWhatIsTold old moment event new
          → AreTexts old.id old.area.links p.sends → KeepsWhatIsKnown old moment event outs new
      keeps_what_is_known taken texts =
          let originated : List InstanceIdentity = new_ones old event New names why in
          let known : AllByRecursion (Known old event originated p.sends) names =
          paired_all (IsKnown old event originated) IsIdentityInRange names
          (all_known old event New names why) leaves.holds in
          let stored : AllByRecursion (Known old event originated p.sends)
          (instances_stored p.router) =
          left_all (Known old event originated p.sends) (instances_stored p.router)
          (instances_in_sends p.sends) known in
          let said : AllByRecursion (λ (s : Send). AllByRecursion
          (Known old event originated p.sends)
          (instances_in_content s.content)) p.sends =
          named_sends (Known old event originated p.sends) p.sends
          (right_all (Known old event originated p.sends) (instances_stored p.router)
          (instances_in_sends p.sends) known) in
          let lawful : AllByRecursion (IsLawfulOut old event originated) outs =
          subst (λ os. AllByRecursion (IsLawfulOut old event originated) os) (sym happens.sent)
          (outs_lawful old event originated p.sends said 1 old.area.links texts) in
          record {
            originated = originated;
            keeps = record {
              same_router = router_stays old moment event outs new happens own;
              is_new = λ name c. of_member New originated (all_new old event New names why) name c;
              held = λ name c.
                  (of_member (Known old event originated p.sends) (instances_stored p.router) stored
                  name (subst (λ (r : Router). Contains (instances_stored r) name) happens.router
                  c)).0;
              sent = λ out c. of_member (IsLawfulOut old event originated) outs lawful out c;
              taken = taken;
            };
          }

-- ---- the start, and every run

abbrev of_instances : Config → Telling
of_instances c = named_by IsIdentityInRange IsLsaKey (λ name is. is.key)
    (length (map fresh_link c.interfaces))

first_in_ranges : (c : Config) → c.router < 2 ^ 32 → HasNumbersInRange (initial c)
first_in_ranges c router =
    let start : EventState = record { router = unannounced_router c; sends = [] } in
    let at : OfEvent (told (of_instances c) c.router) start = record {
      area = record {
        copies = none_in (OfCopy (of_instances c));
        links = none_on (of_instances c) c.interfaces;
        few = refl;
        sent = tt;
      };
      announced = (refl, none_in (IsOwn (of_instances c) c.router));
    } in
    let end = first_told (of_instances c) c.router
    (λ key copy says its wants. new_in_range key copy says its.1 wants.0 wants.1)
    (own_key_in_range c.router router) c.start start at in
    let all = held_named IsIdentityInRange IsLsaKey (λ name is. is.key)
    (length (map fresh_link c.interfaces)) (initial c) [] (record {
      copies = end.area.copies;
      links = end.area.links;
      few = end.area.few;
      sent = tt;
    }) in
    record {
      id = subst (λ id. id < 2 ^ 32) (sym end.announced.0) router;
      held = λ name there. of_member IsIdentityInRange (instances_stored (initial c))
          (left_all IsIdentityInRange (instances_stored (initial c)) (instances_in_sends []) all)
          name
          there;
      announced = λ key e is. (subst (IfThere (IsOwn (of_instances c) c.router) key) is
          (end.announced.1 key)).1;
    }

run_in_range : (steps : List Step) (old new : Router)
    → AllByRecursion (λ (s : Step). AnnouncesAddress s.event) steps → Run old steps new
    → AnnouncesItsOwn old → HasNumbersInRange old → HasNumbersInRange new
run_in_range [] old new addresses same own holds = subst HasNumbersInRange (sym same) holds
run_in_range (s ∷ steps) old new addresses run own holds =
    run_in_range steps run.0 new addresses.1 run.2
    (own_stays old s.moment s.event s.outs run.0 run.1 own)
    (stays_in_range old s.moment s.event s.outs run.0 run.1 addresses.0 own holds)

pub instances_stay_in_range : InstancesStayInRange
instances_stay_in_range = record {
  first = first_in_ranges;
  event = stays_in_range;
  run = λ c steps new router addresses run. run_in_range steps (initial c) new addresses run
      (first_own c) (first_in_ranges c router);
}

pub events_keep_what_is_known : EventsKeepWhatIsKnown
events_keep_what_is_known old moment event outs new happens address order holds texts =
    keeps_what_is_known old moment event outs new happens address order.own holds order
    (taken_off_was_told old moment event outs new happens order) texts

-- ---- what is held and sent after an event is known

pub only_what_is_known : EventsHoldOnlyWhatIsKnown
only_what_is_known old moment event outs new happens order =
    let p : EventState = end_event old moment happens.after in
    let names : List InstanceIdentity = instances_stored p.router ++ instances_in_sends p.sends in
    let New : InstanceIdentity → Type 0 = λ name. IsNewInstance old moment event new name in
    let why : AllByRecursion (IsExplained old event New) names =
    all_explained old moment event outs new happens order in
    let originated : List InstanceIdentity = new_ones old event New names why in
    let K : InstanceIdentity → Type 0 = IsKnown old event originated in
    let known : AllByRecursion K names = all_known old event New names why in
    record {
      originated = originated;
      same_router = router_stays old moment event outs new happens order.own;
      is_new = λ name c. of_member New originated (all_new old event New names why) name c;
      held = λ name c.
          of_member K (instances_stored p.router)
          (left_all K (instances_stored p.router) (instances_in_sends p.sends) known) name
          (subst (λ (r : Router). Contains (instances_stored r) name) happens.router c);
      sent = λ out c.
          of_member (IsOutOf K old.id) outs
          (subst (λ os. AllByRecursion (IsOutOf K old.id) os) (sym happens.sent)
          (outs_bear K old.id p.sends (named_sends K p.sends
          (right_all K (instances_stored p.router) (instances_in_sends p.sends) known)) 1
          old.area.links))
          out c;
    }
