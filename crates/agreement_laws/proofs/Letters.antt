-- What a router says in the packets that it sends at an interface: the bytes of each encode one
-- packet, whose LSAs were sent there in Link State Updates, and whose acknowledged headers were
-- acknowledged there.
use Rattle.std.proofs.Common.{◌≡◌, ℕ, ◌+◌, Bool, true, false, cond, ◌⊎◌, inl, inr, List, [], ◌∷◌}
use Rattle.std.proofs.Common.{map, Option, None, Some, refl, sym, ap, subst, ◌∙◌}
use Rattle.std.specs.Prelude.{◌==◌}
use Rattle.std.specs.List.{AllByRecursion, Contains, cons_option, enumerate_from, filter_map}
use Rattle.std.specs.List.{flat_map}
use Rattle.std.proofs.lemmas.Bool.{eqb-true}
use Rattle.lsa.specs.Headers.{header_at}
use Rattle.lsa.specs.Reading.{fault_of, lsa_in, lsa_of, read_unless}
use Rattle.lsa.specs.Text.{text}
use Rattle.lsa.specs.declared.fault.LsaFault.{LsaFault}
use Rattle.lsdb.specs.Headers.{Header, Lsa}
use Rattle.packet.specs.declared.model.PacketBody.{PacketBody}
use Rattle.packet.specs.declared.model.PacketBody.TheVariants as body
use Rattle.packet.specs.declared.model.Description.{Description}
use Rattle.packet.specs.declared.model.Packet.{Packet}
use Rattle.packet.specs.Text.{PacketText, canonical}
use Rattle.packet.proofs.Whole.{one_packet}
use Rattle.adjacency.specs.Contents.{Content}
use Rattle.received.specs.Links.{Link}
use Rattle.received.specs.AreaStates.{Send, at_interface}
use Rattle.event_rules.specs.declared.model.Out.{Out}
use Rattle.event_rules.specs.InstanceIdentities.{InstanceIdentity, identity_of_header}
use Rattle.event_rules.specs.InstanceIdentities.{identity_of_lsa}
use Rattle.event_rules.specs.InstanceIdentities.{instances_in_update}
use Rattle.event_rules.specs.Packing.{bodies, out_of, outs_at, outs_of, packet_of}
use Rattle.event_rules.specs.Packing.{sent_lsa, IsSentText}
use Rattle.event_rules.proofs.Rooms.{both, mapped_all, paired_all}
use Rattle.invariants.specs.Keeping.{AreTexts, AreTextsAt, IsIdentityInRange}
use Rattle.invariants.proofs.Known.{of_member}
use Rattle.invariants.proofs.Lists.{later_is, of_cons, of_empty}
use Rattle.invariants.proofs.Taken.{named_first}
use Rattle.invariants.proofs.Packed.{bodies_pack}
use Rattle.invariants.proofs.Keeping.{name_read}
use Rattle.agreement_laws.specs.NeighborHistories.{text_at}
use Rattle.agreement_laws.specs.NeighborsAgree.{instances_told}

-- ---- lists

given_all : {X : Type 0} (A : Type 0) (P : X → Type 0) (xs : List X) → (A → AllByRecursion P xs)
    → AllByRecursion (λ (x : X). A → P x) xs
given_all A P [] f = tt
given_all A P (x ∷ xs) f = ((λ a. (f a).0), given_all A P xs (λ a. (f a).1))

-- ---- the contents of a packet

-- at an interface, if R holds of what is sent there
module _ (R : Content → Type 0) where
  abbrev pub IsTextOfSent : ℕ → List ℕ → Type 0
  IsTextOfSent delay bytes = (lsa : Lsa) × (bytes ≡ text (sent_lsa delay lsa))
      × R (Content.Updates lsa)

  abbrev pub BearsSent : ℕ → PacketBody → Type 0
  BearsSent delay (body.Hello h) = Unit {0}
  BearsSent delay (body.Description d) = R (Content.Describes d)
  BearsSent delay (body.Request keys) = Unit {0}
  BearsSent delay (body.Update lsas) = AllByRecursion (IsTextOfSent delay) lsas
  BearsSent delay (body.Acknowledgment headers) =
      AllByRecursion (λ h. R (Content.Acknowledges h)) headers

  bodies_bear : (delay : ℕ) (cs : List Content) → AllByRecursion R cs
      → AllByRecursion (BearsSent delay) (bodies delay cs)
  bodies_bear delay = bodies_pack R (BearsSent delay) delay (record {
    hello = λ h so. tt;
    description = λ d so. so;
    request = λ keys. tt;
    update = λ lsas so. mapped_all (λ (l : Lsa). text (sent_lsa delay l))
        (λ l. R (Content.Updates l)) (IsTextOfSent delay) (λ l k. (l, refl, k)) lsas so;
    acknowledgment = λ headers so. so;
  })

  -- ---- what is sent at the interface

  module _ (number : ℕ) (own : ℕ) (sends : List Send)
      (so : AllByRecursion (λ (s : Send). s.interface ≡ number → R s.content) sends) where
    at_number : (n : ℕ) → n ≡ number → (xs : List Send)
        → AllByRecursion (λ (s : Send). s.interface ≡ number → R s.content) xs
        → AllByRecursion R (filter_map (at_interface n) xs)
    at_number n same [] h = tt
    at_number n same (s ∷ xs) h = by_number (s.interface == n) refl (at_number n same xs h.1)
      where
        by_number : (b : Bool) → (s.interface == n) ≡ b
            → AllByRecursion R (filter_map (at_interface n) xs)
            → AllByRecursion R (cons_option (cond b (Some s.content) None)
            (filter_map (at_interface n) xs))
        by_number true e rest = (h.0 (eqb-true s.interface n e ∙ same), rest)
        by_number false e rest = rest

    -- bytes of a packet from this router with contents that were sent
    abbrev pub IsLetter : List ℕ → Type 0
    IsLetter bytes = (delay : ℕ) × (b : PacketBody) × BearsSent delay b
        × (bytes ≡ canonical (packet_of own b)) × IsSentText own b

    abbrev OfOut : Out → Type 0
    OfOut out = out.interface ≡ number → IsLetter out.bytes

    outs_so : (n : ℕ) (links : List Link)
        → AllByRecursion (λ (e : ℕ × Link). AreTextsAt own sends e.0 e.1) (enumerate_from n links)
        → AllByRecursion OfOut (flat_map (λ (e : ℕ × Link). outs_at own sends e.0 e.1)
        (enumerate_from n links))
    outs_so n [] texts = tt
    outs_so n (link ∷ links) texts =
        let bs : List PacketBody = bodies link.interface.delay (filter_map (at_interface n) sends)
        in
        both OfOut (outs_at own sends n link)
        (flat_map (λ (e : ℕ × Link). outs_at own sends e.0 e.1) (enumerate_from (n + 1) links))
        (mapped_all (out_of own n) (λ b. (n ≡ number → BearsSent link.interface.delay b)
        × IsSentText own b) OfOut
        (λ b k same. (link.interface.delay, b, k.0 same, refl, k.1)) bs
        (paired_all (λ b. n ≡ number → BearsSent link.interface.delay b) (IsSentText own) bs
        (given_all (n ≡ number) (BearsSent link.interface.delay) bs
        (λ same. bodies_bear link.interface.delay (filter_map (at_interface n) sends)
        (at_number n same sends so))) texts.0))
        (outs_so (n + 1) links texts.1)

    those_at : (outs : List Out) → AllByRecursion OfOut outs
        → AllByRecursion IsLetter (filter_map (text_at number) outs)
    those_at [] h = tt
    those_at (out ∷ outs) h = by_number (out.interface == number) refl (those_at outs h.1)
      where
        by_number : (b : Bool) → (out.interface == number) ≡ b
            → AllByRecursion IsLetter (filter_map (text_at number) outs)
            → AllByRecursion IsLetter (cons_option (cond b (Some out.bytes) None)
            (filter_map (text_at number) outs))
        by_number true e rest = (h.0 (eqb-true out.interface number e), rest)
        by_number false e rest = rest

    pub letters : (links : List Link) → AreTexts own links sends
        → AllByRecursion IsLetter (filter_map (text_at number) (outs_of own links sends))
    letters links texts = those_at (outs_of own links sends) (outs_so 1 links texts)

-- ---- what the bytes say

module _ (R : Content → Type 0) (ranged : (lsa : Lsa) → R (Content.Updates lsa)
    → IsIdentityInRange (identity_of_lsa lsa)) where
  -- an LSA that was sent, or a header that was acknowledged
  pub data IsOfSent (b : PacketBody) (name : InstanceIdentity) : Type 0 where
    OfUpdate : (lsa : Lsa) → R (Content.Updates lsa) → identity_of_lsa lsa ≡ name → IsOfSent b name
    OfDescription : (d : Description) (header : Header) → Contains d.headers header
        → R (Content.Describes d) → identity_of_header header ≡ name → IsOfSent b name
    OfAcknowledgment : (headers : List Header) (header : Header) → b ≡ body.Acknowledgment headers
        → Contains headers header → R (Content.Acknowledges header) → identity_of_header header
        ≡ name → IsOfSent b name

  in_update : (b : PacketBody) (delay : ℕ) (lsas : List (List ℕ)) (name : InstanceIdentity)
      → AllByRecursion (IsTextOfSent R delay) lsas → Contains (instances_in_update lsas) name
      → IsOfSent b name
  in_update b delay [] name h c = absurd (of_empty name c)
  in_update b delay (bytes ∷ rest) name h c =
      by_fault (fault_of bytes) (λ k. in_update b delay rest name h.1 k) c
    where
      same : identity_of_lsa h.0.0 ≡ identity_of_lsa (lsa_of bytes)
      same = sym (ap (λ bs. identity_of_header (header_at bs 0)) h.0.1
          ∙ name_read (sent_lsa delay h.0.0) (ranged h.0.0 h.0.2))

      by_fault : (o : Option LsaFault)
          → (Contains (instances_in_update rest) name → IsOfSent b name)
          → Contains (map identity_of_lsa
          (cons_option (read_unless bytes o) (filter_map lsa_in rest))) name
          → IsOfSent b name
      by_fault None others k = by_place
          (of_cons (identity_of_lsa (lsa_of bytes)) (instances_in_update rest) name k)
        where
          by_place : (identity_of_lsa (lsa_of bytes) ≡ name)
              ⊎ Contains (instances_in_update rest) name → IsOfSent b name
          by_place (inl is) = IsOfSent.OfUpdate h.0.0 h.0.2 (same ∙ is)
          by_place (inr more) = others more
      by_fault (Some f) others k = others k

  header_of : (headers : List Header) (name : InstanceIdentity)
      → Contains (map identity_of_header headers) name → (h : Header) × Contains headers h
      × (identity_of_header h ≡ name)
  header_of [] name c = absurd (of_empty name c)
  header_of (header ∷ headers) name c =
      by_place (λ k. header_of headers name k)
      (of_cons (identity_of_header header) (map identity_of_header headers) name c)
    where
      by_place : (Contains (map identity_of_header headers) name → (h : Header) × Contains headers h
          × (identity_of_header h ≡ name)) → (identity_of_header header ≡ name)
          ⊎ Contains (map identity_of_header headers) name → (h : Header)
          × Contains (header ∷ headers) h × (identity_of_header h ≡ name)
      by_place others (inl is) = (header, named_first header headers header refl, is)
      by_place others (inr k) = let it = others k in (it.0, later_is header headers it.0 it.1, it.2)

  in_body : (delay : ℕ) (b : PacketBody) (name : InstanceIdentity) → BearsSent R delay b
      → Contains (instances_told b) name → IsOfSent b name
  in_body delay (body.Hello h) name bears c = absurd (of_empty name c)
  in_body delay (body.Description d) name bears c = let it = header_of d.headers name c in
      IsOfSent.OfDescription d it.0 it.1 bears it.2
  in_body delay (body.Request keys) name bears c = absurd (of_empty name c)
  in_body delay (body.Update lsas) name bears c =
      in_update (body.Update lsas) delay lsas name bears c
  in_body delay (body.Acknowledgment headers) name bears c =
      let it = header_of headers name c in
      IsOfSent.OfAcknowledgment headers it.0 refl it.1
      (of_member (λ h. R (Content.Acknowledges h)) headers bears it.0 it.1) it.2

  -- the bytes encode no other packet
  pub told_in : (number own : ℕ) (sends : List Send)
      (so : AllByRecursion (λ (s : Send). s.interface ≡ number → R s.content) sends)
      (bytes : List ℕ) → IsLetter R number own sends so bytes → (packet : Packet)
      → PacketText bytes packet → (name : InstanceIdentity)
      → Contains (instances_told packet.body) name → IsOfSent packet.body name
  told_in number own sends so bytes letter packet text name c =
      let b : PacketBody = letter.1 in
      let same : packet_of own b ≡ packet =
      one_packet bytes (packet_of own b) packet
      (subst (λ bs. PacketText bs (packet_of own b)) (sym letter.3) letter.4) text in
      subst (λ (p : Packet). IsOfSent p.body name) same
      (in_body letter.0 b name letter.2
      (subst (λ (p : Packet). Contains (instances_told p.body) name) (sym same) c))
