-- A property of the contents to be sent is one of the bodies of the packets; so is one of their
-- instances.
use Rattle.std.proofs.Common.{ℕ, ◌+◌, ◌==◌, Bool, true, false, cond, List, [], ◌∷◌, map, Option}
use Rattle.std.proofs.Common.{None, Some, refl}
use Rattle.std.specs.List.{AllByRecursion, cons_option, enumerate_from, filter_map, flat_map}
use Rattle.words.specs.declared.key.Key.{Key}
use Rattle.lsa.specs.Text.{text}
use Rattle.lsdb.specs.Headers.{Header, Lsa, key_of, lsa_key}
use Rattle.packet.specs.declared.model.Description.{Description}
use Rattle.packet.specs.declared.model.Hello.{Hello}
use Rattle.packet.specs.declared.model.PacketBody.{PacketBody}
use Rattle.packet.specs.declared.model.PacketBody.TheVariants as body
use Rattle.adjacency.specs.Contents.{Content}
use Rattle.received.specs.Links.{Link}
use Rattle.received.specs.AreaStates.{Send, at_interface}
use Rattle.invariants.specs.Known.{Bears, IsOutOf, IsTextOf, instances_in_content}
use Rattle.event_rules.specs.InstanceIdentities.{InstanceIdentity}
use Rattle.event_rules.specs.Packing.{acknowledgments, bodies, descriptions}
use Rattle.event_rules.specs.Packing.{first_key, header_size, hellos, in_key_order, lsa_size}
use Rattle.event_rules.specs.Packing.{out_of, outs_at, packed_groups, requests, sent_lsa, update_of}
use Rattle.event_rules.specs.Packing.{updates}
use Rattle.event_rules.proofs.Rooms.{both, mapped_all, order_all, packed_all}

-- what is chosen from each content
chosen_of : {Y : Type 0} (f : Content → Option Y) (R : Content → Type 0) (P : Y → Type 0)
    → ((c : Content) → R c → AllByRecursion P (cons_option (f c) [])) → (cs : List Content)
    → AllByRecursion R cs → AllByRecursion P (filter_map f cs)
chosen_of {Y = Y} f R P each [] p = tt
chosen_of {Y = Y} f R P each (c ∷ cs) p =
    in_front (f c) (each c p.0) (filter_map f cs) (chosen_of f R P each cs p.1)
  where
    in_front : (o : Option Y) → AllByRecursion P (cons_option o []) → (ys : List Y)
        → AllByRecursion P ys → AllByRecursion P (cons_option o ys)
    in_front None q ys r = r
    in_front (Some y) q ys r = (q.0, r)

pub at_number : (R : Content → Type 0) (n : ℕ) (sends : List Send)
    → AllByRecursion (λ (s : Send). R s.content) sends
    → AllByRecursion R (filter_map (at_interface n) sends)
at_number R n [] p = tt
at_number R n (s ∷ sends) p = by_number (s.interface == n) (at_number R n sends p.1)
  where
    by_number : (b : Bool) → AllByRecursion R (filter_map (at_interface n) sends)
        → AllByRecursion R (cons_option (cond b (Some s.content) None)
        (filter_map (at_interface n) sends))
    by_number true rest = (p.0, rest)
    by_number false rest = rest

-- ---- the bodies of packets

-- from contents with the property R come bodies with the property P
pub record Packs (R : Content → Type 0) (P : PacketBody → Type 0) (delay : ℕ) : Type 0 where
  pub hello : (h : Hello) → R (Content.SendsHello h) → P (body.Hello h)
  pub description : (d : Description) → R (Content.Describes d) → P (body.Description d)
  pub request : (keys : List Key) → P (body.Request keys)
  pub update : (lsas : List Lsa) → AllByRecursion (λ l. R (Content.Updates l)) lsas
      → P (update_of delay lsas)
  pub acknowledgment : (headers : List Header)
      → AllByRecursion (λ h. R (Content.Acknowledges h)) headers → P (body.Acknowledgment headers)

module _ (R : Content → Type 0) (P : PacketBody → Type 0) (delay : ℕ) (packs : Packs R P delay)
  where
    abbrev OfLsa : Lsa → Type 0
    OfLsa l = R (Content.Updates l)

    abbrev OfHeader : Header → Type 0
    OfHeader h = R (Content.Acknowledges h)

    of_hello : (c : Content) → R c → AllByRecursion P (cons_option (hellos c) [])
    of_hello (Content.SendsHello h) so = (packs.hello h so, tt)
    of_hello (Content.Describes d) so = tt
    of_hello (Content.Requests keys) so = tt
    of_hello (Content.Updates lsa) so = tt
    of_hello (Content.Acknowledges h) so = tt

    of_description : (c : Content) → R c → AllByRecursion P (cons_option (descriptions c) [])
    of_description (Content.SendsHello h) so = tt
    of_description (Content.Describes d) so = (packs.description d so, tt)
    of_description (Content.Requests keys) so = tt
    of_description (Content.Updates lsa) so = tt
    of_description (Content.Acknowledges h) so = tt

    of_requests : (xs : List (List Key)) → AllByRecursion P (map body.Request xs)
    of_requests [] = tt
    of_requests (x ∷ xs) = (packs.request x, of_requests xs)

    of_update : (c : Content) → R c → AllByRecursion OfLsa (cons_option (updates c) [])
    of_update (Content.SendsHello h) so = tt
    of_update (Content.Describes d) so = tt
    of_update (Content.Requests keys) so = tt
    of_update (Content.Updates lsa) so = (so, tt)
    of_update (Content.Acknowledges h) so = tt

    of_acknowledgment : (c : Content) → R c
        → AllByRecursion OfHeader (cons_option (acknowledgments c) [])
    of_acknowledgment (Content.SendsHello h) so = tt
    of_acknowledgment (Content.Describes d) so = tt
    of_acknowledgment (Content.Requests keys) so = tt
    of_acknowledgment (Content.Updates lsa) so = tt
    of_acknowledgment (Content.Acknowledges h) so = (so, tt)

    pub bodies_pack : (cs : List Content) → AllByRecursion R cs → AllByRecursion P (bodies delay cs)
    bodies_pack cs so =
        let lsas : List Lsa = in_key_order lsa_key (filter_map updates cs) in
        let headers : List Header = in_key_order key_of (filter_map acknowledgments cs) in
        both P _ (map body.Acknowledgment (packed_groups header_size 24 headers))
        (both P _ (map (update_of delay) (packed_groups lsa_size 28 lsas))
        (both P _ (map body.Request (in_key_order first_key (filter_map requests cs)))
        (both P (filter_map hellos cs) (filter_map descriptions cs)
        (chosen_of hellos R P of_hello cs so) (chosen_of descriptions R P of_description cs so))
        (of_requests (in_key_order first_key (filter_map requests cs))))
        (mapped_all (update_of delay) (λ p. AllByRecursion OfLsa p) P packs.update
        (packed_groups lsa_size 28 lsas)
        (packed_all lsa_size 28 OfLsa lsas
        (order_all lsa_key OfLsa (filter_map updates cs)
        (chosen_of updates R OfLsa of_update cs so)))))
        (mapped_all body.Acknowledgment (λ p. AllByRecursion OfHeader p) P packs.acknowledgment
        (packed_groups header_size 24 headers)
        (packed_all header_size 24 OfHeader headers
        (order_all key_of OfHeader (filter_map acknowledgments cs)
        (chosen_of acknowledgments R OfHeader of_acknowledgment cs so))))

-- ---- the instances in packets

module _ (K : InstanceIdentity → Type 0) where
  abbrev LsaInstances : Content → Type 0
  LsaInstances c = AllByRecursion K (instances_in_content c)

  abbrev OfListed : Header → Type 0
  OfListed h = LsaInstances (Content.Acknowledges h)

  headers_bear : (headers : List Header) → AllByRecursion OfListed headers
      → Bears K (body.Acknowledgment headers)
  headers_bear [] so = tt
  headers_bear (h ∷ headers) so = (so.0.0, headers_bear headers so.1)

  pub bodies_bear : (delay : ℕ) (cs : List Content) → AllByRecursion LsaInstances cs
      → AllByRecursion (Bears K) (bodies delay cs)
  bodies_bear delay = bodies_pack LsaInstances (Bears K) delay (record {
    hello = λ h so. tt;
    description = λ d so. tt;
    request = λ keys. tt;
    update = λ lsas so. mapped_all (λ (l : Lsa). text (sent_lsa delay l))
        (λ l. LsaInstances (Content.Updates l)) (IsTextOf K)
        (λ l k. record { lsa = sent_lsa delay l; is = refl; known = k.0 }) lsas so;
    acknowledgment = headers_bear;
  })

  pub outs_bear : (own : ℕ) (sends : List Send)
      → AllByRecursion (λ (s : Send). AllByRecursion K (instances_in_content s.content)) sends
      → (n : ℕ) (links : List Link) → AllByRecursion (IsOutOf K own)
      (flat_map (λ (e : ℕ × Link). outs_at own sends e.0 e.1) (enumerate_from n links))
  outs_bear own sends so n [] = tt
  outs_bear own sends so n (link ∷ links) =
      both (IsOutOf K own) (outs_at own sends n link)
      (flat_map (λ (e : ℕ × Link). outs_at own sends e.0 e.1) (enumerate_from (n + 1) links))
      (mapped_all (out_of own n) (Bears K) (IsOutOf K own) (λ b bears. record {
        interface = n;
        says = b;
        is = refl;
        bears = bears;
      })
      (bodies link.interface.delay (filter_map (at_interface n) sends))
      (bodies_bear link.interface.delay (filter_map (at_interface n) sends)
      (at_number LsaInstances n sends so)))
      (outs_bear own sends so (n + 1) links)
