-- What is sent at one interface, and its marks.
use Rattle.std.proofs.Common.{◌≡◌, ℕ, ◌+◌, ◌<◌, Bool, true, false, cond, List, [], ◌∷◌, length, map}
use Rattle.std.proofs.Common.{get_or, refl, sym, ap, ◌∙◌, arith}
use Rattle.std.specs.List.{fold}
use Rattle.std.specs.Prelude.{Option, None, Some}
use Rattle.words.specs.declared.key.Key.{Key}
use Rattle.lsdb.specs.Copies.{Database}
use Rattle.adjacency.specs.Adjacencies.{enter_exstart, mismatch_step}
use Rattle.adjacency.specs.Contents as neighbor
use Rattle.adjacency.specs.Contents.{no_sends}
use Rattle.adjacency.specs.Drafts.{Drafted}
use Rattle.adjacency.specs.Neighbors.{Neighbor, is_exchange_or_later}
use Rattle.adjacency.specs.Retransmissions.{remove_retransmission}
use Rattle.received.specs.Links.{Area, Link}
use Rattle.received.specs.AreaStates.{AreaState, Send, marked_database, one_neighbor, only_at}
use Rattle.received.specs.AreaStates.{sends_at, stepped_links, stepping_sends}
use Rattle.area.specs.Kept.{KeptLink, RouterArea}
use Rattle.area.specs.Links.{area_of, present, with_no_sends}
use Rattle.area.proofs.Only.{sends_stepped}

abbrev pub marks : ℕ → Database → List Send → Database
marks moment db sends = fold (λ (d : Database) (s : Send). marked_database moment d s.content) db
    sends

by_state : (moment k : ℕ) (db : Database) (n : Neighbor) (b : Bool)
    → marks moment db (sends_at k (cond b (enter_exstart moment n) (no_sends n)).sends) ≡ db
by_state moment k db n true = refl
by_state moment k db n false = refl

by_neighbor : (moment k : ℕ) (db : Database) (o : Option Neighbor)
    → marks moment db (sends_at k (neighbor.sent_on (mismatch_step moment) o)) ≡ db
by_neighbor moment k db None = refl
by_neighbor moment k db (Some n) = by_state moment k db n (is_exchange_or_later n.state)

-- a mismatch marks nothing
pub mismatch_marks : (ls : List KeptLink) (i k : ℕ) → i < length ls → k ≡ 1 + i
    → (moment : ℕ) (db : Database) → db
    ≡ marks moment db (stepping_sends (only_at k (mismatch_step moment)) (map present ls))
mismatch_marks [] i k lt at moment db = absurd (omega (arith, lt))
mismatch_marks (l ∷ ls) i k lt at moment db =
    let f = mismatch_step moment in
    sym (by_neighbor moment k db (get_or (l ∷ ls) i l).present.neighbor)
    ∙ ap (marks moment db) (sends_stepped (l ∷ ls) i k l l lt at f)

silent : (key : Key) (k : ℕ) (o : Option Neighbor)
    → [] ≡ sends_at k (neighbor.sent_on (λ (n : Neighbor). no_sends (remove_retransmission key n))
    o)
silent key k None = refl
silent key k (Some n) = refl

-- what removes a retransmission sends nothing
pub removal_sends : (ls : List KeptLink) (i k : ℕ) → i < length ls → k ≡ 1 + i → (key : Key)
    → [] ≡ stepping_sends (only_at k (λ (n : Neighbor). no_sends (remove_retransmission key n)))
    (map present ls)
removal_sends [] i k lt at key = absurd (omega (arith, lt))
removal_sends (l ∷ ls) i k lt at key =
    silent key k (get_or (l ∷ ls) i l).present.neighbor
    ∙ sends_stepped (l ∷ ls) i k l l lt at
    (λ (n : Neighbor). no_sends (remove_retransmission key n))

-- ---- only links change

abbrev pub on_links_alone : (List Link → List Link) → (List Link → List Send) → Area → AreaState
on_links_alone after sends a = record {
  area = record { links = after a.links; database = a.database };
  sends = sends a.links;
}

module _ (ls : List KeptLink) (i k : ℕ) (lt : i < length ls) (at : k ≡ 1 + i) (moment : ℕ)
    (d : Database) where
  pub mismatch_alone : on_links_alone (stepped_links (only_at k (mismatch_step moment)))
      (stepping_sends (only_at k (mismatch_step moment))) (area_of ls d)
      ≡ one_neighbor moment k (mismatch_step moment) (with_no_sends (area_of ls d))
  mismatch_alone =
      let f : ℕ → Link → Neighbor → neighbor.Step = only_at k (mismatch_step moment) in
      λ j. record {
        area = record {
          links = stepped_links f (map present ls);
          database = mismatch_marks ls i k lt at moment d j;
        };
        sends = stepping_sends f (map present ls);
      }

  pub removal_alone : (key : Key)
      → on_links_alone
      (stepped_links (only_at k (λ (n : Neighbor). no_sends (remove_retransmission key n))))
      (λ (ms : List Link). []) (area_of ls d)
      ≡ one_neighbor moment k (λ (n : Neighbor). no_sends (remove_retransmission key n))
      (with_no_sends (area_of ls d))
  removal_alone key =
      let f : ℕ → Link → Neighbor → neighbor.Step =
      only_at k (λ (n : Neighbor). no_sends (remove_retransmission key n)) in
      λ j. record {
        area = record {
          links = stepped_links f (map present ls);
          database = marks moment d (removal_sends ls i k lt at key j);
        };
        sends = removal_sends ls i k lt at key j;
      }

-- ---- equal parts

pub area_is : {ls ms : List Link} {d e : Database} → ls ≡ ms → d ≡ e → ◌≡◌ {A = Area} (record {
  links = ls;
  database = d;
}) (record { links = ms; database = e })
area_is ls d i = record { links = ls i; database = d i }

pub router_area_is : {q r : ℕ} {a b s t : Area} {ds es : List Drafted} → q ≡ r → a ≡ b → s ≡ t
    → ds ≡ es → ◌≡◌ {A = RouterArea} (record {
      router = q;
      present = a;
      committed = s;
      drafted = ds;
    }) (record { router = r; present = b; committed = t; drafted = es })
router_area_is own now before drafts i = record {
  router = own i;
  present = now i;
  committed = before i;
  drafted = drafts i;
}
