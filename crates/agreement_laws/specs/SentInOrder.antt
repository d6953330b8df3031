-- What is sent at an interface is in order, in terms of the packets (RFC 2328, sections 13.3 and
-- 13.5).
use Rattle.std.specs.Prelude.{◌≡◌, ◌≤◌, ◌<◌, ℕ, ◌+◌, pos, List, [], ◌∷◌, map}
use Rattle.std.specs.List.{AllByRecursion, filter, filter_map, flat_map}
use Rattle.words.specs.Constants.{largest_packet}
use Rattle.words.specs.declared.key.Key.{Key}
use Rattle.lsa.specs.Text.{text}
use Rattle.lsa.specs.declared.body.LsaBody.{LsaBody}
use Rattle.lsdb.specs.Headers.{Header, Lsa, key_of, lsa_key}
use Rattle.lsdb.specs.Keys.{same_key}
use Rattle.packet.specs.declared.model.PacketBody.{PacketBody}
use Rattle.packet.specs.declared.model.PacketBody.TheVariants as body
use Rattle.packet.specs.declared.model.Description.{Description}
use Rattle.packet.specs.declared.model.Hello.{Hello}
use Rattle.adjacency.specs.Contents.{Content}
use Rattle.event_rules.specs.Packing.{acknowledgments, bodies, sent_lsa, updates}

-- ---- by LS type, then Link State ID, then Advertising Router

pub data IsNoLater (a b : Key) : Type 0 where
  ByType : a.ls_type < b.ls_type → IsNoLater a b
  ById : a.ls_type ≡ b.ls_type → a.link_state_id < b.link_state_id → IsNoLater a b
  ByRouter : a.ls_type ≡ b.ls_type → a.link_state_id ≡ b.link_state_id
      → a.advertising_router ≤ b.advertising_router → IsNoLater a b

-- each is no greater than all after it
abbrev pub AreAscending : {X : Type 0} → (X → Key) → List X → Type 0
AreAscending key [] = Unit {0}
AreAscending key (x ∷ xs) =
    AllByRecursion (λ y. IsNoLater (key x) (key y)) xs × AreAscending key xs

-- the same items in the order of their keys; those with one key stay in their order
pub record AreInOrder {X : Type 0} (key : X → Key) (xs sorted : List X) : Type 0 where
  pub ascending : AreAscending key sorted
  pub same : (k : Key) → filter (λ x. same_key k (key x)) sorted
      ≡ filter (λ x. same_key k (key x)) xs

-- ---- the contents of the packets, in turn

-- the bytes of the LSAs of Link State Updates
abbrev pub lsas_told : PacketBody → List (List ℕ)
lsas_told (body.Hello h) = []
lsas_told (body.Description d) = []
lsas_told (body.Request keys) = []
lsas_told (body.Update texts) = texts
lsas_told (body.Acknowledgment headers) = []

-- the headers of Link State Acknowledgments
abbrev pub headers_told : PacketBody → List Header
headers_told (body.Hello h) = []
headers_told (body.Description d) = []
headers_told (body.Request keys) = []
headers_told (body.Update texts) = []
headers_told (body.Acknowledgment headers) = headers

-- the Link State Updates contain all LSAs that are sent, in the order of their keys
pub record UpdatesAreInOrder (delay : ℕ) (contents : List Content) : Type 0 where
  pub lsas : List Lsa
  pub in_order : AreInOrder lsa_key (filter_map updates contents) lsas
  pub told : flat_map lsas_told (bodies delay contents) ≡ map (λ l. text (sent_lsa delay l)) lsas

-- the Link State Acknowledgments contain all headers that are acknowledged, in the order of their
-- keys
pub record AcknowledgmentsAreInOrder (delay : ℕ) (contents : List Content) : Type 0 where
  pub headers : List Header
  pub in_order : AreInOrder key_of (filter_map acknowledgments contents) headers
  pub told : flat_map headers_told (bodies delay contents) ≡ headers

-- ---- four LSAs

-- an LSA with this key, this age and 36 bytes
abbrev pub lsa_of : ℕ → LsaBody → Key → Lsa
lsa_of age lsa_body key = record {
  header = record {
    age = age;
    options = 2;
    ls_type = key.ls_type;
    link_state_id = key.link_state_id;
    advertising_router = key.advertising_router;
    sequence = pos 5;
    checksum = 0x5429;
    length = 36;
  };
  body = lsa_body;
}

abbrev pub key_named : ℕ → ℕ → ℕ → Key
key_named ls_type id router =
    record { ls_type = ls_type; link_state_id = id; advertising_router = router }

-- the fourth, the second, the third and the first in the order of their keys
abbrev pub arising : LsaBody → List Lsa
arising lsa_body =
    map (lsa_of 10 lsa_body) (key_named 5 1 1 ∷ key_named 1 2 8 ∷ key_named 1 3 1 ∷ key_named 1 2 7
    ∷ [])

-- a second older, by InfTransDelay
abbrev pub told_in_order : LsaBody → List Lsa
told_in_order lsa_body =
    map (lsa_of 11 lsa_body) (key_named 1 2 7 ∷ key_named 1 2 8 ∷ key_named 1 3 1 ∷ key_named 5 1 1
    ∷ [])

pub record WhatIsSentStandsInOrder : Type 0 where
  -- whatever is sent, if each LSA fits into a Link State Update after 28 bytes
  pub lsas : (delay : ℕ) (contents : List Content)
      → AllByRecursion (λ (l : Lsa). 28 + l.header.length ≤ largest_packet)
      (filter_map updates contents)
      → UpdatesAreInOrder delay contents
  pub headers : (delay : ℕ) (contents : List Content)
      → AcknowledgmentsAreInOrder delay contents
  -- four LSAs are in one Link State Update, and their headers in one Link State Acknowledgment
  pub four_lsas : (b : LsaBody) → bodies 1 (map Content.Updates (arising b))
      ≡ body.Update (map text (told_in_order b)) ∷ []
  pub four_headers : (b : LsaBody)
      → bodies 1 (map (λ (l : Lsa). Content.Acknowledges l.header) (arising b))
      ≡ body.Acknowledgment (map (λ (l : Lsa). record l.header { age = 10 }) (told_in_order b)) ∷ []
  -- two with one key stay in their order
  pub one_key : (a b : LsaBody)
      → bodies 1 (map (λ c. Content.Updates (lsa_of 10 c (key_named 1 2 7))) (a ∷ b ∷ []))
      ≡ body.Update (map (λ c. text (lsa_of 11 c (key_named 1 2 7))) (a ∷ b ∷ [])) ∷ []
  -- first Hellos, then Database Descriptions, Link State Requests, Updates and Acknowledgments
  pub kinds : (hello : Hello) (d : Description) (keys : List Key) (lsa : Lsa) (h : Header)
      → bodies 1
      (Content.Acknowledges h ∷ Content.Updates lsa ∷ Content.Requests keys
      ∷ Content.Describes d ∷ Content.SendsHello hello ∷ [])
      ≡ body.Hello hello ∷ body.Description d ∷ body.Request keys
      ∷ body.Update (text (sent_lsa 1 lsa) ∷ []) ∷ body.Acknowledgment (h ∷ []) ∷ []
