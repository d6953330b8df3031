-- A copy that is settled with a neighbor, in each of its steps except the exchange of Database
-- Descriptions: it stays settled, unless the adjacency is given up, or what removes it from a list
-- settles it from then on.
use Rattle.std.proofs.Common.{◌≡◌, ℕ, Bool, true, false, cond, not, ◌&&◌, ◌⊎◌, inl, inr, List, []}
use Rattle.std.proofs.Common.{◌∷◌, Option, None, Some, is_some, refl, sym, ap, subst, ◌∙◌}
use Rattle.std.specs.FinMap as finite
use Rattle.std.specs.List.{Contains}
use Rattle.words.specs.declared.key.Key.{Key}
use Rattle.lsdb.specs.Copies.{Database}
use Rattle.lsdb.specs.Headers.{Header, Lsa, key_of, lsa_key}
use Rattle.lsdb.specs.Instances.{ListEntry, instance_of, listed_now}
use Rattle.lsdb.specs.Keys.{ByKey, same_key}
use Rattle.lsdb.specs.declared.order.Instance.{Instance}
use Rattle.adjacency.specs.declared.state.NeighborState.TheVariants.{Loading, Full}
use Rattle.adjacency.specs.Adjacencies.{after_hello, loading_done, mismatch_step}
use Rattle.adjacency.specs.Contents.{Step, Updates, no_sends}
use Rattle.adjacency.specs.Descriptions.{without_old_description}
use Rattle.adjacency.specs.Floods.{flooded_in_exchange, flooding, satisfies_request}
use Rattle.adjacency.specs.Floods.{exceeds_request, request_of}
use Rattle.adjacency.specs.Floods.{without_satisfied_request}
use Rattle.adjacency.specs.Neighbors.{Neighbor, is_exchange_or_later, is_exchange_or_loading}
use Rattle.adjacency.specs.Requests.{request_next, requested_entry, without_request}
use Rattle.adjacency.specs.Retransmissions.{acknowledged_neighbor, add_retransmission}
use Rattle.adjacency.specs.Retransmissions.{after_acknowledgment, is_entry, remove_retransmission}
use Rattle.adjacency.specs.Retransmissions.{send_again}
use Rattle.adjacency.proofs.Kept.{chosen}
use Rattle.received.specs.Holds.{Holds}
use Rattle.invariants.proofs.Limits.{tied_key}
use Rattle.invariants.proofs.Lists.{later_is}
use Rattle.invariants.proofs.Owing.{put_other, put_same, removed_other}
use Rattle.invariants.proofs.Taken.{named_first}
use Rattle.agreement_laws.specs.Exchanged.{Conversation, conversation_with}
use Rattle.agreement_laws.specs.Ranks.{is_at_least}
use Rattle.agreement_laws.proofs.Ages.{noted_at_least}
use Rattle.agreement_laws.proofs.Lists.{left_there}
use Rattle.agreement_laws.proofs.Ranks.{not_newer, same_as_new}
use Rattle.agreement_laws.proofs.Steps as steps

-- what was said in a conversation: headers with the moments at which they had their ages
abbrev pub Saying : Type 1
Saying = Conversation → ListEntry → Type 0

module _ (key : Key) (now : ℕ) (Of : ℕ → Type 0) (Said : Saying) where
  -- an instance that is at least as new was said
  abbrev pub Known : Conversation → Instance → Type 0
  Known with_it i = (l : ListEntry) × Said with_it l × (is_at_least (listed_now now l) i ≡ true)

  -- it is still to be described, at least as new
  abbrev pub ToDescribe : ByKey ListEntry → Instance → Type 0
  ToDescribe summary i = (l : ListEntry) × (finite.get summary key ≡ Some l)
      × (key_of l.header ≡ key) × (is_at_least (listed_now now l) i ≡ true)

  abbrev pub Has : ByKey ListEntry → ByKey ListEntry → Conversation → Instance → Type 0
  Has retransmissions summary with_it i = (finite.contains_key retransmissions key ≡ true)
      ⊎ ToDescribe summary i ⊎ Known with_it i

  abbrev pub HasAny : Option Instance → ByKey ListEntry → ByKey ListEntry → Conversation → Type 0
  HasAny None retransmissions summary with_it = Unit {0}
  HasAny (Some i) retransmissions summary with_it = Has retransmissions summary with_it i

  -- what is requested was said
  abbrev pub AreSaid : ByKey ListEntry → Conversation → Type 0
  AreSaid requests with_it = (l : ListEntry) → finite.get requests key ≡ Some l → Said with_it l

  abbrev pub Settled : Option Instance → Neighbor → Type 0
  Settled x m = Of m.router × AreSaid m.requests (conversation_with m)
      × HasAny x m.retransmissions m.summary (conversation_with m)

  abbrev pub Settling : Option Instance → Neighbor → Type 0
  Settling x m = (is_exchange_or_later m.state ≡ false) ⊎ Settled x m

  -- ---- what is gone is settled

  pub gone : (x : Option Instance) (m : Neighbor) → Settling x m → Settling None m
  gone x m (inl before) = inl before
  gone x m (inr h) = inr (h.0, h.1, tt)

  has_by : (x : Option Instance) (t s t' s' : ByKey ListEntry) (w w' : Conversation)
      → ((i : Instance) → x ≡ Some i → Has t s w i → Has t' s' w' i) → HasAny x t s w
      → HasAny x t' s' w'
  has_by None t s t' s' w w' so h = tt
  has_by (Some i) t s t' s' w w' so h = so i refl h

  -- ---- flooding

  met_said : (k : Key) (r : ByKey ListEntry) (w : Conversation) → AreSaid r w
      → AreSaid (finite.remove r k) w
  met_said k r w said l at = said l (left_there r k key l at)

  met_where : (x : Option Instance) (moment : ℕ) (lsa : Lsa) (m : Neighbor) → Settled x m
      → Settled x (without_satisfied_request moment lsa m)
  met_where x moment lsa m h =
      chosen (Settled x) (satisfies_request moment lsa (request_of m lsa))
      (without_request (lsa_key lsa) m) m
      (λ e. (h.0, met_said (lsa_key lsa) m.requests (conversation_with m) h.1, h.2)) (λ e. h)

  added_other : (moment : ℕ) (h : Header) (t s : ByKey ListEntry) (w : Conversation) (i : Instance)
      → same_key key (key_of h) ≡ false → Has t s w i
      → Has (finite.insert (finite.remove t (key_of h)) (key_of h) (record {
        header = h;
        at = moment;
      })) s w i
  added_other moment h t s w i other (inl k) =
      let entry : ListEntry = record { header = h; at = moment } in
      inl (ap is_some (put_other (finite.remove t (key_of h)) (key_of h) key entry other
      ∙ removed_other t (key_of h) key other) ∙ k)
  added_other moment h t s w i other (inr k) = inr k

  released_other : (k : Key) (t s : ByKey ListEntry) (w : Conversation) (i : Instance)
      → same_key key k ≡ false → Has t s w i → Has (finite.remove t k) s w i
  released_other k t s w i other (inl e) = inl (ap is_some (removed_other t k key other) ∙ e)
  released_other k t s w i other (inr e) = inr e

  -- an LSA of another key
  pub flooded_other : (x : Option Instance) (moment : ℕ) (from : Bool) (lsa : Lsa) (m : Neighbor)
      → same_key key (lsa_key lsa) ≡ false → Settling x m
      → Settling x (flooding moment from lsa m).neighbor
  flooded_other x moment from lsa m other (inl before) =
      chosen (λ (s : Step). Settling x s.neighbor) (is_exchange_or_later m.state)
      (flooded_in_exchange moment from lsa m) (no_sends m)
      (λ part. let no : true ≡ false = sym part ∙ before in absurd cc) (λ e. inl before)
  flooded_other x moment from lsa m other (inr h) =
      let w : Neighbor = without_satisfied_request moment lsa m in
      let added : Neighbor = add_retransmission moment lsa.header w in
      let removed : Neighbor = remove_retransmission (lsa_key lsa) w in
      let so : Settled x w = met_where x moment lsa m h in
      steps.flooded (Settling x) moment from lsa m
      (inr (
        so.0,
        so.1,
        has_by x w.retransmissions w.summary added.retransmissions w.summary (conversation_with w)
            (conversation_with w)
            (λ i is k. added_other moment lsa.header w.retransmissions w.summary
            (conversation_with w) i other k) so.2,
      ))
      (inr (
        so.0,
        so.1,
        has_by x w.retransmissions w.summary removed.retransmissions w.summary
            (conversation_with w) (conversation_with w)
            (λ i is k. released_other (lsa_key lsa) w.retransmissions w.summary
            (conversation_with w) i other k) so.2,
      )) (inr h)

  -- if an LSA isn't newer than the request, one at least as new is requested, and so was said
  requested : (lsa : Lsa) (m : Neighbor) → key ≡ lsa_key lsa
      → AreSaid m.requests (conversation_with m) → exceeds_request now lsa (request_of m lsa)
      ≡ false
      → Known (conversation_with m) (instance_of lsa.header)
  requested lsa m same said e = by_choice (is_exchange_or_loading m.state)
      (requested_entry m (lsa_key lsa)) refl e
    where
      by_choice : (b : Bool) (o : Option ListEntry) → requested_entry m (lsa_key lsa) ≡ o
          → exceeds_request now lsa (cond b o None) ≡ false
          → Known (conversation_with m) (instance_of lsa.header)
      by_choice true None at p = absurd cc
      by_choice true (Some l) at p = (
        l,
        said l (subst (λ (k : Key). finite.get m.requests k ≡ Some l) (sym same) at),
        not_newer (instance_of lsa.header) (listed_now now l) p,
      )
      by_choice false o at p = absurd cc

  -- an LSA of this key that isn't from this neighbor: it is on the list, or one at least as new is
  -- requested
  pub flooded_same : (x : Option Instance) (lsa : Lsa) (m : Neighbor) → same_key key (lsa_key lsa)
      ≡ true → Settling x m → Settling (Some (instance_of lsa.header))
      (flooding now false lsa m).neighbor
  flooded_same x lsa m same (inl before) =
      chosen (λ (s : Step). Settling (Some (instance_of lsa.header)) s.neighbor)
      (is_exchange_or_later m.state) (flooded_in_exchange now false lsa m) (no_sends m)
      (λ part. let no : true ≡ false = sym part ∙ before in absurd cc) (λ e. inl before)
  flooded_same x lsa m same (inr h) =
      let w : Neighbor = without_satisfied_request now lsa m in
      let entry : ListEntry = record { header = lsa.header; at = now } in
      let got : Step = record {
        neighbor = add_retransmission now lsa.header w;
        sends = Updates lsa ∷ [];
      } in
      let not_got : Step = no_sends (remove_retransmission (lsa_key lsa) w) in
      let so : Settled x w = met_where x now lsa m h in
      chosen (λ (s : Step). Settling (Some (instance_of lsa.header)) s.neighbor)
      (is_exchange_or_later m.state) (flooded_in_exchange now false lsa m) (no_sends m)
      (λ part. chosen (λ (s : Step). Settling (Some (instance_of lsa.header)) s.neighbor)
      (not false && exceeds_request now lsa (request_of m lsa)) got not_got
      (λ e. inr (
        so.0,
        so.1,
        inl (ap is_some
            (put_same (finite.remove w.retransmissions (lsa_key lsa)) (lsa_key lsa) key entry
            same)),
      ))
      (λ e. inr (
        so.0,
        so.1,
        inr (inr (same_conversation
            (requested lsa m (tied_key key (lsa_key lsa) same) h.1 e))),
      )))
      (λ before. inl before)
    where
      same_conversation : Known (conversation_with m) (instance_of lsa.header)
          → Known (conversation_with (without_satisfied_request now lsa m)) (instance_of lsa.header)
      same_conversation k =
          chosen (λ (n : Neighbor). Known (conversation_with n) (instance_of lsa.header))
          (satisfies_request now lsa (request_of m lsa)) (without_request (lsa_key lsa) m) m
          (λ e. k)
          (λ e. k)

  -- an LSA from this neighbor, which thus has said it
  pub flooded_back : (x : Option Instance) (i : Instance) (lsa : Lsa) (m : Neighbor)
      → (Of m.router → Known (conversation_with m) i) → Settling x m
      → Settling (Some i) (flooding now true lsa m).neighbor
  flooded_back x i lsa m says (inl before) =
      chosen (λ (s : Step). Settling (Some i) s.neighbor) (is_exchange_or_later m.state)
      (flooded_in_exchange now true lsa m) (no_sends m)
      (λ part. let no : true ≡ false = sym part ∙ before in absurd cc) (λ e. inl before)
  flooded_back x i lsa m says (inr h) =
      let so : Settled x (without_satisfied_request now lsa m) = met_where x now lsa m h in
      chosen (λ (s : Step). Settling (Some i) s.neighbor) (is_exchange_or_later m.state)
      (flooded_in_exchange now true lsa m) (no_sends m)
      (λ part. inr (
        so.0,
        so.1,
        inr (inr
            (chosen (λ (n : Neighbor). Known (conversation_with n) i)
            (satisfies_request now lsa (request_of m lsa)) (without_request (lsa_key lsa) m) m
            (λ e. says h.0) (λ e. says h.0))),
      ))
      (λ before. inl before)

  -- ---- attempts and Hellos

  pub mismatched : (x : Option Instance) (moment : ℕ) (m : Neighbor) → Settling x m
      → Settling x (mismatch_step moment m).neighbor
  mismatched x moment m h = steps.mismatched (Settling x) moment m (inl refl) h

  pub helloed : (x : Option Instance) (moment from : ℕ) (names : Bool) (o : Option Neighbor)
      → Holds (Settling x) o → Settling x (after_hello moment from names o).neighbor
  helloed x moment from names o h =
      steps.helloed (Settling x) (λ router attempt heard. inl refl) moment (λ m. inl refl) from
      names o h

  -- ---- acknowledgments: what removes the entry settles it from then on

  -- entries of the key are at least as new as the copy
  abbrev pub IsOfIt : Option Instance → ByKey ListEntry → Type 0
  IsOfIt x t = (l : ListEntry) (i : Instance) → finite.get t key ≡ Some l → x ≡ Some i
      → is_at_least (listed_now now l) i ≡ true

  -- a header that is the same as the entry of its key is that of the copy
  says_it : (x : Option Instance) (h : Header) (t : ByKey ListEntry) (w : Conversation)
      (i : Instance) → x ≡ Some i → IsOfIt x t → key ≡ key_of h
      → is_entry now h (finite.get t (key_of h)) ≡ true → Said w (record {
        header = h;
        at = now;
      }) → Known w i
  says_it x h t w i is of same e said = by_entry (finite.get t (key_of h)) refl e
    where
      by_entry : (o : Option ListEntry) → finite.get t (key_of h) ≡ o → is_entry now h o ≡ true
          → Known w i
      by_entry None at k = absurd cc
      by_entry (Some l) at k =
          let as_new : is_at_least (listed_now now l) i ≡ true =
          of l i (subst (λ (q : Key). finite.get t q ≡ Some l) (sym same) at) is in (
            record {
              header = h;
              at = now;
            },
            said,
            noted_at_least h now i (same_as_new (instance_of h) (listed_now now l) i k
                as_new),
          )

  module _ (x : Option Instance) (w : Conversation) (of_it : Of w.router) where
    acknowledged_one : (h : Header) (m : Neighbor) → conversation_with m ≡ w
        → (key_of h ≡ key → Said w (record { header = h; at = now })) → IsOfIt x m.retransmissions
        → Settled x m → Settled x (acknowledged_neighbor now m h)
        × IsOfIt x (acknowledged_neighbor now m h).retransmissions
    acknowledged_one h m its said of s =
        chosen (λ (n : Neighbor). Settled x n × IsOfIt x n.retransmissions)
        (is_entry now h (finite.get m.retransmissions (key_of h)))
        (remove_retransmission (key_of h) m) m
        (λ e. (
          (
            s.0,
            s.1,
            has_by x m.retransmissions m.summary
                (finite.remove m.retransmissions (key_of h)) m.summary (conversation_with m)
                (conversation_with m) (λ i is k. released e i is k) s.2,
          ),
          λ l i at is. of l i (left_there m.retransmissions (key_of h) key l at) is,
        ))
        (λ e. (s, of))
      where
        by_key : (b : Bool) → same_key key (key_of h) ≡ b
            → is_entry now h (finite.get m.retransmissions (key_of h)) ≡ true → (i : Instance) → x
            ≡ Some i → Has m.retransmissions m.summary (conversation_with m) i
            → Has (finite.remove m.retransmissions (key_of h)) m.summary
            (conversation_with m) i
        by_key true same e i is k =
            let it : key ≡ key_of h = tied_key key (key_of h) same in
            inr (inr (subst (λ (c : Conversation). Known c i) (sym its)
            (says_it x h m.retransmissions w i is of it e (said (sym it)))))
        by_key false other e i is k = released_other (key_of h) m.retransmissions m.summary
            (conversation_with m) i other k

        released : is_entry now h (finite.get m.retransmissions (key_of h)) ≡ true → (i : Instance)
            → x ≡ Some i → Has m.retransmissions m.summary (conversation_with m) i
            → Has (finite.remove m.retransmissions (key_of h)) m.summary (conversation_with m) i
        released e i is k = by_key (same_key key (key_of h)) refl e i is k

    still_its : (h : Header) (m : Neighbor) → conversation_with m ≡ w
        → conversation_with (acknowledged_neighbor now m h) ≡ w
    still_its h m its =
        chosen (λ (n : Neighbor). conversation_with n ≡ w)
        (is_entry now h (finite.get m.retransmissions (key_of h)))
        (remove_retransmission (key_of h) m) m (λ e. its) (λ e. its)

    acknowledged_all : (hs : List Header) (m : Neighbor) → conversation_with m ≡ w
        → ((h : Header) → Contains hs h → key_of h ≡ key → Said w (record { header = h; at = now }))
        → IsOfIt x m.retransmissions → Settled x m → Settled x (after_acknowledgment now hs m)
    acknowledged_all [] m its said of s = s
    acknowledged_all (h ∷ hs) m its said of s =
        let one = acknowledged_one h m its (λ is. said h (named_first h hs h refl) is) of s in
        acknowledged_all hs (acknowledged_neighbor now m h) (still_its h m its)
        (λ g c is. said g (later_is h hs g c) is) one.1 one.0

  early_entry : (h : Header) (m : Neighbor) → is_exchange_or_later m.state ≡ false
      → is_exchange_or_later (acknowledged_neighbor now m h).state ≡ false
  early_entry h m before =
      chosen (λ (n : Neighbor). is_exchange_or_later n.state ≡ false)
      (is_entry now h (finite.get m.retransmissions (key_of h)))
      (remove_retransmission (key_of h) m) m (λ e. before) (λ e. before)

  early_acknowledged : (hs : List Header) (m : Neighbor) → is_exchange_or_later m.state ≡ false
      → is_exchange_or_later (after_acknowledgment now hs m).state ≡ false
  early_acknowledged [] m before = before
  early_acknowledged (h ∷ hs) m before =
      early_acknowledged hs (acknowledged_neighbor now m h) (early_entry h m before)

  pub acknowledged : (x : Option Instance) (hs : List Header) (m : Neighbor)
      → ((h : Header) → Contains hs h → key_of h ≡ key → Of m.router
      → Said (conversation_with m) (record {
        header = h;
        at = now;
      })) → IsOfIt x m.retransmissions
      → Settling x m → Settling x (after_acknowledgment now hs m)
  acknowledged x hs m said of (inl before) = inl (early_acknowledged hs m before)
  acknowledged x hs m said of (inr s) =
      inr (acknowledged_all x (conversation_with m) s.0 hs m refl (λ h c is. said h c is s.0) of s)

  -- the entry of an LSA that this neighbor sent, and that is the same as the copy
  pub implied : (x : Option Instance) (lsa : Lsa) (m : Neighbor)
      → (same_key key (lsa_key lsa) ≡ true → Of m.router → (i : Instance) → x ≡ Some i
      → Known (conversation_with m) i) → Settling x m
      → Settling x (remove_retransmission (lsa_key lsa) m)
  implied x lsa m says (inl before) = inl before
  implied x lsa m says (inr s) =
      inr (
        s.0,
        s.1,
        has_by x m.retransmissions m.summary (finite.remove m.retransmissions (lsa_key lsa))
            m.summary (conversation_with m) (conversation_with m)
            (λ i is k. by_key (same_key key (lsa_key lsa)) refl i is k) s.2,
      )
    where
      by_key : (b : Bool) → same_key key (lsa_key lsa) ≡ b → (i : Instance) → x ≡ Some i
          → Has m.retransmissions m.summary (conversation_with m) i
          → Has (finite.remove m.retransmissions (lsa_key lsa)) m.summary (conversation_with m)
          i
      by_key true same i is k = inr (inr (says same s.0 i is))
      by_key false other i is k = released_other (lsa_key lsa) m.retransmissions m.summary
          (conversation_with m) i other k

  -- ---- Loading, Link State Requests and what is sent again

  pub filled : (x : Option Instance) (m : Neighbor) → Settling x m → Settling x (loading_done m)
  filled x m h = steps.filled (Settling x) m still h
    where
      still : Settling x (record m { state = Loading }) → Settling x (record m { state = Full })
      still (inl e) = absurd cc
      still (inr k) = inr k

  pub asked : (x : Option Instance) (moment : ℕ) (m : Neighbor) → Settling x m
      → Settling x (request_next moment m).neighbor
  asked x moment m h = steps.asked (Settling x) moment m h

  pub again : (x : Option Instance) (moment interval : ℕ) (db : Database) (m : Neighbor)
      → Settling x m → Settling x (send_again moment interval db m).neighbor
  again x moment interval db m h = steps.again (Settling x) moment interval db m h

  pub old_description : (x : Option Instance) (moment dead : ℕ) (m : Neighbor) → Settling x m
      → Settling x (without_old_description moment dead m)
  old_description x moment dead m h =
      steps.old_description (Settling x) moment dead m (λ e. h) h

-- ---- more that was said, and more that is known about the neighbor

module _ (key : Key) (now : ℕ) (Of More : ℕ → Type 0) (Said Added : Saying) (m : Neighbor)
    (of : Of m.router → More m.router)
    (adds : (l : ListEntry) → Said (conversation_with m) l → Added (conversation_with m) l)
  where
    pub known_more : (i : Instance) → Known key now Of Said (conversation_with m) i
        → Known key now More Added (conversation_with m) i
    known_more i k = (k.0, adds k.0 k.1, k.2)

    has_more : (x : Option Instance) → HasAny key now Of Said x m.retransmissions m.summary
        (conversation_with m) → HasAny key now More Added x m.retransmissions m.summary
        (conversation_with m)
    has_more None h = tt
    has_more (Some i) (inl k) = inl k
    has_more (Some i) (inr (inl k)) = inr (inl k)
    has_more (Some i) (inr (inr k)) = inr (inr (known_more i k))

    pub settled_more : (x : Option Instance) → Settled key now Of Said x m
        → Settled key now More Added x m
    settled_more x s = (of s.0, λ l at. adds l (s.1 l at), has_more x s.2)

    pub settling_more : (x : Option Instance) → Settling key now Of Said x m
        → Settling key now More Added x m
    settling_more x (inl before) = inl before
    settling_more x (inr s) = inr (settled_more x s)
