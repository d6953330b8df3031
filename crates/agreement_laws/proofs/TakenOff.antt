-- What a Link State Acknowledgment removes from a retransmission list.
use Rattle.std.proofs.Common.{◌≡◌, ℕ, Bool, true, false, cond, ◌&&◌, ◌||◌, List, [], ◌∷◌, Option}
use Rattle.std.proofs.Common.{None, Some, refl, sym, ap, ◌∙◌}
use Rattle.std.specs.FinMap as finite
use Rattle.words.specs.declared.key.Key.{Key}
use Rattle.lsdb.specs.Headers.{Header, key_of}
use Rattle.lsdb.specs.Instances.{ListEntry, same_as_listed}
use Rattle.lsdb.specs.Keys.{ByKey, key_cmp, same_key}
use Rattle.lsdb.proofs.Keys.{keys_exact, keys_total}
use Rattle.adjacency.specs.Neighbors.{Neighbor}
use Rattle.adjacency.specs.Retransmissions.{acknowledged_neighbor, after_acknowledgment, is_entry}
use Rattle.adjacency.specs.Retransmissions.{remove_retransmission}
use Rattle.received.proofs.Marks.{tied}
use Rattle.agreement_laws.specs.TakenOff.{AcknowledgmentsTakeOffWhatTheyName, is_named}

-- ---- one header

-- the entry of this key, after that of a header's key is removed, or isn't
abbrev left : Key → Header → Neighbor → Bool → Option ListEntry
left key h n b = finite.get (cond b (remove_retransmission (key_of h) n) n).retransmissions key

removed : (m : ByKey ListEntry) (k key : Key) (b : Bool) → same_key key k ≡ b
    → finite.get (finite.remove m k) key ≡ cond b None (finite.get m key)
removed m k key b e = finite.get-remove keys_total m k key
    ∙ ap (λ c. cond c None (finite.get m key)) e

by_instance : (h : Header) (n : Neighbor) (key : Key) (entry : ListEntry)
    → finite.get n.retransmissions key ≡ Some entry → same_key key (key_of h) ≡ true → (b : Bool)
    → left key h n b ≡ cond b None (Some entry)
by_instance h n key entry there same true = removed n.retransmissions (key_of h) key true same
by_instance h n key entry there same false = there

of_another : (h : Header) (n : Neighbor) (key : Key) → same_key key (key_of h) ≡ false → (b : Bool)
    → left key h n b ≡ finite.get n.retransmissions key
of_another h n key other true = removed n.retransmissions (key_of h) key false other
of_another h n key other false = refl

by_key : (moment : ℕ) (h : Header) (n : Neighbor) (key : Key) (entry : ListEntry)
    → finite.get n.retransmissions key ≡ Some entry → (b : Bool) → same_key key (key_of h) ≡ b
    → finite.get (acknowledged_neighbor moment n h).retransmissions key
    ≡ cond (b && same_as_listed moment h entry) None (Some entry)
by_key moment h n key entry there true same =
    let here : finite.get n.retransmissions (key_of h) ≡ Some entry =
    ap (finite.get n.retransmissions)
    (sym (keys_exact key (key_of h) (tied (key_cmp key (key_of h)) same))) ∙ there in
    ap (λ o. left key h n (is_entry moment h o)) here
    ∙ by_instance h n key entry there same (same_as_listed moment h entry)
by_key moment h n key entry there false other =
    of_another h n key other (is_entry moment h (finite.get n.retransmissions (key_of h))) ∙ there

none_or_none : (b : Bool) (o : Option ListEntry) → o ≡ None → cond b None o ≡ None
none_or_none true o e = refl
none_or_none false o e = e

none_by : (h : Header) (n : Neighbor) (key : Key) → finite.get n.retransmissions key ≡ None
    → (b : Bool) → left key h n b ≡ None
none_by h n key none true = removed n.retransmissions (key_of h) key (same_key key (key_of h)) refl
    ∙ none_or_none (same_key key (key_of h)) (finite.get n.retransmissions key) none
none_by h n key none false = none

-- ---- all of them

abbrev after : ℕ → List Header → Neighbor → Key → Option ListEntry
after moment headers n key = finite.get (after_acknowledgment moment headers n).retransmissions key

none_left : (moment : ℕ) (headers : List Header) (n : Neighbor) (key : Key)
    → finite.get n.retransmissions key ≡ None → after moment headers n key ≡ None
none_left moment [] n key none = none
none_left moment (h ∷ hs) n key none =
    none_left moment hs (acknowledged_neighbor moment n h) key
    (none_by h n key none (is_entry moment h (finite.get n.retransmissions (key_of h))))

by_first : (m : Neighbor) (key : Key) (entry : ListEntry) (result : Option ListEntry)
    (b more : Bool) → finite.get m.retransmissions key ≡ cond b None (Some entry)
    → (finite.get m.retransmissions key ≡ None → result ≡ None)
    → (finite.get m.retransmissions key ≡ Some entry → result ≡ cond more None (Some entry))
    → result ≡ cond (b || more) None (Some entry)
by_first m key entry result true more is gone stays = gone is
by_first m key entry result false more is gone stays = stays is

named_or_left : (moment : ℕ) (headers : List Header) (n : Neighbor) (key : Key) (entry : ListEntry)
    → finite.get n.retransmissions key ≡ Some entry → after moment headers n key
    ≡ cond (is_named moment key entry headers) None (Some entry)
named_or_left moment [] n key entry there = there
named_or_left moment (h ∷ hs) n key entry there =
    let m : Neighbor = acknowledged_neighbor moment n h in
    by_first m key entry (after moment hs m key)
    (same_key key (key_of h) && same_as_listed moment h entry) (is_named moment key entry hs)
    (by_key moment h n key entry there (same_key key (key_of h)) refl)
    (none_left moment hs m key)
    (named_or_left moment hs m key entry)

-- ---- the rest of the neighbor

kept_by : (key : Key) (n : Neighbor) (list : ByKey ListEntry) (b : Bool)
    → record (cond b (remove_retransmission key n) n) { retransmissions = list } ≡ record n {
      retransmissions = list;
    }
kept_by key n list true = refl
kept_by key n list false = refl

all_else : (moment : ℕ) (headers : List Header) (n : Neighbor)
    → after_acknowledgment moment headers n ≡ record n {
      retransmissions = (after_acknowledgment moment headers n).retransmissions;
    }
all_else moment [] n = refl
all_else moment (h ∷ hs) n =
    all_else moment hs (acknowledged_neighbor moment n h)
    ∙ kept_by (key_of h) n (after_acknowledgment moment hs
    (acknowledged_neighbor moment n h)).retransmissions
    (is_entry moment h (finite.get n.retransmissions (key_of h)))

pub taken_off_as_named : AcknowledgmentsTakeOffWhatTheyName
taken_off_as_named = record { entries = named_or_left; no_entry = none_left; all_else = all_else }
