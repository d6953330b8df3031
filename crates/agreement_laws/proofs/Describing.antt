-- A copy that is settled with the neighbor, after a received Database Description: the exchange
-- begins with all copies on one of its lists, what is removed from the Database summary list is
-- described, and what is requested was described by the neighbor.
use Rattle.std.proofs.Common.{◌≡◌, ℕ, ◌%◌, ◌^◌, ◌+◌, Bool, true, false, cond, not, ◌&&◌, ◌||◌, ◌⊎◌}
use Rattle.std.proofs.Common.{inl, inr, List, [], ◌∷◌, ◌++◌, Option, None, Some, is_some, refl, sym}
use Rattle.std.proofs.Common.{ap, subst, ◌∙◌}
use Rattle.std.specs.Prelude.{◌==◌, nat_lt}
use Rattle.std.specs.FinMap as finite
use Rattle.std.specs.List.{Contains, fold}
use Rattle.std.proofs.lemmas.List.Elements.{Contains-append_right}
use Rattle.words.specs.Constants.{max_headers_described}
use Rattle.words.specs.declared.key.Key.{Key}
use Rattle.lsdb.specs.Copies.{Database, DatabaseCopy, copy_header, copy_now, is_aged_out}
use Rattle.lsdb.specs.Copies.{list_entry_of}
use Rattle.lsdb.specs.Headers.{Header, key_of, lsa_key}
use Rattle.lsdb.specs.Instances.{ListEntry, listed_header_now, listed_now}
use Rattle.lsdb.specs.Keys.{ByKey, key_cmp, same_key}
use Rattle.lsdb.specs.declared.order.Instance.{Instance}
use Rattle.packet.specs.declared.model.Description.{Description}
use Rattle.adjacency.specs.declared.state.NeighborState.{NeighborState}
use Rattle.adjacency.specs.declared.state.NeighborState.TheVariants.{Init, ExStart, Exchange}
use Rattle.adjacency.specs.declared.state.NeighborState.TheVariants.{Loading, Full}
use Rattle.adjacency.specs.Adjacencies.{enter_exstart, mismatch_step}
use Rattle.adjacency.specs.Contents.{Content, Describes, Step, no_sends}
use Rattle.adjacency.specs.Descriptions.{Verdict, accept, act, after_description, max_age_copies}
use Rattle.adjacency.specs.Descriptions.{announced_more, as_received, changes_options}
use Rattle.adjacency.specs.Descriptions.{send_description}
use Rattle.adjacency.specs.Descriptions.{exchange_done, exchange_over, expected_sequence, in_state}
use Rattle.adjacency.specs.Descriptions.{is_duplicate, is_initial_description, is_kept}
use Rattle.adjacency.specs.Descriptions.{is_more_recent}
use Rattle.adjacency.specs.Descriptions.{knows_types, master_goes_on, negotiated_neighbor, process}
use Rattle.adjacency.specs.Descriptions.{next_description, repeat, same_flag, slave_replies}
use Rattle.adjacency.specs.Descriptions.{with_request, with_requests, young_copies}
use Rattle.adjacency.specs.Neighbors.{Neighbor, is_exchange_or_later}
use Rattle.adjacency.proofs.Kept.{chosen}
use Rattle.invariants.proofs.Limits.{tied_key}
use Rattle.invariants.proofs.Lists.{later_is}
use Rattle.invariants.proofs.Taken.{named_first}
use Rattle.agreement_laws.specs.Exchanged.{Conversation, conversation_with}
use Rattle.agreement_laws.specs.Ranks.{is_at_least}
use Rattle.agreement_laws.proofs.Ages.{described_at_least, noted_at_least}
use Rattle.agreement_laws.proofs.Lists.{is_listed, left_or_taken, put_there}
use Rattle.agreement_laws.proofs.Ranks.{itself_at_least}
use Rattle.agreement_laws.proofs.Verdicts.{as_slave_or_master, first_two, mismatch_or_accepted}
use Rattle.agreement_laws.proofs.Settling.{AreSaid, Has, HasAny, Known, Saying, Settled, Settling}
use Rattle.agreement_laws.proofs.Settling.{mismatched, settling_more}

-- the instance of a copy, if there is one
abbrev pub instance_at : ℕ → Option DatabaseCopy → Option Instance
instance_at moment None = None
instance_at moment (Some c) = Some (copy_now moment c)

-- what is held for the key
abbrev pub held : ℕ → Key → Database → Option Instance
held moment key db = instance_at moment (finite.get db key)

-- what is sent describes a header of the key, at this moment
abbrev pub IsDescribed : Key → ℕ → List Content → ListEntry → Type 0
IsDescribed key now contents l =
    (d : Description) × Contains contents (Describes d) × Contains d.headers l.header × (l.at ≡ now)
    × (key_of l.header ≡ key)

module _ (key : Key) (now : ℕ) (Of : ℕ → Type 0) (Said : Saying) where
  -- said before, or described in this step
  abbrev pub SaidWith : List Content → Saying
  SaidWith contents with_it l = Said with_it l ⊎ IsDescribed key now contents l

  abbrev pub OfStep : Option Instance → Step → Type 0
  OfStep x s = Settling key now Of (SaidWith s.sends) x s.neighbor

  -- what was settled before the step stays settled with the neighbor
  pub stepped : (x : Option Instance) (s : Step) → Settling key now Of Said x s.neighbor
      → OfStep x s
  stepped x s h = settling_more key now Of Of Said (SaidWith s.sends) s.neighbor (λ o. o)
      (λ l k. inl k) x h

  mismatched_step : (x : Option Instance) (m : Neighbor) → Settling key now Of Said x m
      → OfStep x (mismatch_step now m)
  mismatched_step x m h = stepped x (mismatch_step now m) (mismatched key now Of Said x now m h)

  -- ---- a Database Description is sent

  described : (x : Option Instance) (m : Neighbor) → Settled key now Of Said x m
      → Settled key now Of (SaidWith (send_description now m).sends) x
      (send_description now m).neighbor
  described x m s =
      (s.0, λ l at. inl (s.1 l at), by_copy x s.2)
    where
      taken : (l : ListEntry) (i : Instance) → key_of l.header ≡ key
          → is_at_least (listed_now now l) i ≡ true
          → Contains (next_description now m).headers (listed_header_now now l)
          → Known key now Of (SaidWith (send_description now m).sends) (conversation_with m) i
      taken l i of_key as_new among = (
        record { header = listed_header_now now l; at = now },
        inr (
          next_description now m,
          named_first (Describes (next_description now m)) []
              (Describes (next_description now m)) refl,
          among,
          refl,
          of_key,
        ),
        described_at_least l now i as_new,
      )

      by_place : (l : ListEntry) (i : Instance) → key_of l.header ≡ key
          → is_at_least (listed_now now l) i ≡ true
          → (finite.get (send_description now m).neighbor.summary key ≡ Some l)
          ⊎ Contains (next_description now m).headers (listed_header_now now l)
          → Has key now Of (SaidWith (send_description now m).sends) m.retransmissions
          (send_description now m).neighbor.summary (conversation_with m) i
      by_place l i of_key as_new (inl there) = inr (inl (l, there, of_key, as_new))
      by_place l i of_key as_new (inr among) = inr (inr (taken l i of_key as_new among))

      by_copy : (y : Option Instance) → HasAny key now Of Said y m.retransmissions m.summary
          (conversation_with m) → HasAny key now Of (SaidWith (send_description now m).sends) y
          m.retransmissions (send_description now m).neighbor.summary (conversation_with m)
      by_copy None h = tt
      by_copy (Some i) (inl listed) = inl listed
      by_copy (Some i) (inr (inl k)) =
          by_place k.0 i k.2 k.3 (left_or_taken key now k.0 max_headers_described m.summary k.1)
      by_copy (Some i) (inr (inr k)) = inr (inr (k.0, inl k.1, k.2))

  repeat_of : (x : Option Instance) (o : Option Description) (m : Neighbor)
      → Settled key now Of Said x m → OfStep x (repeat now (record m { described = o }))
  repeat_of x None m s = stepped x (no_sends (record m { described = None })) (inr s)
  repeat_of x (Some d) m s = stepped x (record {
    neighbor = record m {
      described = Some d;
      described_at = now;
    };
    sends = Describes d ∷ [];
  }) (inr s)

  repeated : (x : Option Instance) (m : Neighbor) → Settled key now Of Said x m
      → OfStep x (repeat now m)
  repeated x m s = repeat_of x m.described m s

  master : (x : Option Instance) (d : Description) (m : Neighbor) → Settled key now Of Said x m
      → OfStep x (master_goes_on now d m)
  master x d m s =
      chosen (OfStep x) (announced_more m.described || d.more) (send_description now (record m {
        sequence = (m.sequence + 1) % 2 ^ 32;
      })) (no_sends (exchange_done now m))
      (λ e. inr (described x (record m {
        sequence = (m.sequence + 1) % 2 ^ 32;
      }) s))
      (λ e. stepped x (no_sends (exchange_done now m)) (inr s))

  slave : (x : Option Instance) (d : Description) (m : Neighbor) → Settled key now Of Said x m
      → OfStep x (slave_replies now d m)
  slave x d m s =
      let replied : Step = send_description now (record m { sequence = d.sequence }) in
      let so : Settled key now Of (SaidWith replied.sends) x replied.neighbor =
      described x (record m { sequence = d.sequence }) s in
      chosen (OfStep x) (announced_more replied.neighbor.described || d.more) replied
      (record replied {
        neighbor = exchange_done now replied.neighbor;
      }) (λ e. inr so) (λ e. inr so)

  -- ---- a Database Description is accepted

  -- what is requested, its headers having been described
  requests_said : (db : Database) (w : Conversation) (hs : List Header)
      → ((h : Header) → Contains hs h → key_of h ≡ key → Said w (record { header = h; at = now }))
      → (r : ByKey ListEntry) → AreSaid key now Of Said r w
      → AreSaid key now Of Said (fold (with_request now db) r hs) w
  requests_said db w [] said r h = h
  requests_said db w (g ∷ hs) said r h =
      requests_said db w hs (λ k c is. said k (later_is g hs k c) is) (with_request now db r g)
      (chosen (λ (q : ByKey ListEntry). AreSaid key now Of Said q w) (is_more_recent now db g)
      (finite.insert r (key_of g) (record { header = g; at = now })) r
      (λ e l at. by_place l (put_there r (key_of g) key (record {
        header = g;
        at = now;
      }) l at)) (λ e. h))
    where
      by_place : (l : ListEntry) → ((same_key key (key_of g) ≡ true) × (record {
        header = g;
        at = now;
      } ≡ l)) ⊎ (finite.get r key ≡ Some l) → Said w l
      by_place l (inl it) = subst (Said w) it.1
          (said g (named_first g hs g refl) (sym (tied_key key (key_of g) it.0)))
      by_place l (inr there) = h l there

  module _ (d : Description) where
    abbrev Tells : Neighbor → Type 0
    Tells m = (h : Header) → Contains d.headers h → key_of h ≡ key → Of m.router
        → Said (conversation_with m) (record { header = h; at = now })

    accepted : (x : Option Instance) (db : Database) (m : Neighbor) → Tells m
        → Settled key now Of Said x m → OfStep x (accept now db d m)
    accepted x db m said s =
        let w : Neighbor = with_requests now db d.headers (record m {
          received = Some (as_received d);
        }) in
        let so : Settled key now Of Said x w = (
          s.0,
          requests_said db (conversation_with m) d.headers (λ h c is. said h c is s.0)
              m.requests s.1,
          s.2,
        ) in
        chosen (OfStep x) (knows_types d)
        (cond w.is_master (master_goes_on now d w) (slave_replies now d w))
        (mismatch_step now m)
        (λ e. chosen (OfStep x) w.is_master (master_goes_on now d w) (slave_replies now d w)
        (λ e. master x d w so) (λ e. slave x d w so))
        (λ e. mismatched_step x m (inr s))

    -- ---- the exchange begins

    module _ (db : Database) (own : (c : DatabaseCopy) → finite.get db key ≡ Some c → lsa_key c.lsa
        ≡ key) where
      begun_with : (c : Option DatabaseCopy) → finite.get db key ≡ c → (w : Conversation)
          → HasAny key now Of Said (instance_at now c) (max_age_copies now db)
          (young_copies now db) w
      begun_with None at w = tt
      begun_with (Some c) at w = by_age (is_aged_out now c) refl
        where
          by_age : (b : Bool) → is_aged_out now c ≡ b
              → Has key now Of Said (max_age_copies now db) (young_copies now db) w (copy_now now c)
          by_age true is = inl (ap is_some (is_listed (is_aged_out now) now key c is db at))
          by_age false is =
              inr (inl (
                list_entry_of now c,
                is_listed (λ k. not (is_aged_out now k)) now key c (ap not is) db at,
                own c at,
                noted_at_least (copy_header now c) now (copy_now now c)
                    (itself_at_least (copy_now now c)),
              ))

      negotiated : (b : Bool) (sequence : ℕ) (m : Neighbor) → Of m.router → Tells m
          → AreSaid key now Of Said m.requests (conversation_with m)
          → OfStep (held now key db) (accept now db d (negotiated_neighbor b sequence now db m))
      negotiated b sequence m of said requests =
          accepted (held now key db) db (negotiated_neighbor b sequence now db m) said
          (of, requests, begun_with (finite.get db key) refl (conversation_with m))

      -- ---- verdicts

      abbrev Does : Neighbor → Verdict → Type 0
      Does m v = OfStep (held now key db) (act v now db d m)

      module _ (own_id : ℕ) where
        -- in ExStart, with an empty request list
        negotiating_so : (m : Neighbor) → Of m.router → Tells m
            → AreSaid key now Of Said m.requests (conversation_with m) → m.state ≡ ExStart
            → OfStep (held now key db) (process own_id now db d (record m { state = ExStart }))
        negotiating_so m of said requests is =
            let n : Neighbor = record m { state = ExStart } in
            as_slave_or_master (Does n) (negotiated false d.sequence n of said requests)
            (negotiated true n.sequence n of said requests) (inl refl)
            (is_initial_description d && nat_lt own_id m.router)
            (not d.init && not d.master && d.sequence == m.sequence && nat_lt m.router own_id)

        over : (m : Neighbor) → Settled key now Of Said (held now key db) m
            → OfStep (held now key db) (act (exchange_over m d) now db d m)
        over m s =
            first_two (Does m) (is_duplicate m.received d && m.is_master)
            (is_duplicate m.received d && is_kept m.described) Verdict.Mismatch
            (stepped (held now key db) (no_sends m) (inr s)) (repeated (held now key db) m s)
            (mismatched_step (held now key db) m (inr s))

        further : (first more : List Content) (w : Conversation) (l : ListEntry) → SaidWith more w l
            → SaidWith (first ++ more) w l
        further first more w l (inl k) = inl k
        further first more w l (inr k) =
            inr (k.0, Contains-append_right first more (Describes k.0) k.1, k.2, k.3, k.4)

        none_empty : (l : ListEntry) → finite.get (finite.empty {X = ListEntry} {R = key_cmp}) key
            ≡ Some l → ⊥
        none_empty l at = let no : None ≡ Some l =
            sym (finite.get-empty {X = ListEntry} key_cmp key) ∙ at in absurd cc

        abbrev entered : Neighbor → Neighbor
        entered m = (enter_exstart now (record m { state = Init })).neighbor

        abbrev opening : Neighbor → List Content
        opening m = (enter_exstart now (record m { state = Init })).sends

        -- an attempt that is started in this event
        begun : (m : Neighbor) → Of m.router
            → ((w : Conversation) (h : Header) → Contains d.headers h → key_of h ≡ key → w.router
            ≡ m.router → Said w (record { header = h; at = now }))
            → OfStep (held now key db) (in_state Init own_id now db d (record m { state = Init }))
        begun m of said = more (negotiating_so (entered m) of
            (λ h c is o. said (conversation_with (entered m)) h c is refl)
            (λ l at. absurd (none_empty l at)) refl)
          where
            more : OfStep (held now key db) (process own_id now db d (entered m))
                → Settling key now Of (SaidWith
                (opening m ++ (process own_id now db d (entered m)).sends)) (held now key db)
                (process own_id now db d (entered m)).neighbor
            more h =
                settling_more key now Of Of (SaidWith (process own_id now db d (entered m)).sends)
                (SaidWith (opening m ++ (process own_id now db d (entered m)).sends))
                (process own_id now db d (entered m)).neighbor (λ o. o)
                (λ l k. further (opening m) (process own_id now db d (entered m)).sends
                (conversation_with (process own_id now db d (entered m)).neighbor) l k)
                (held now key db) h

        stated : (st : NeighborState) (m : Neighbor) → Of m.router
            → ((w : Conversation) (h : Header) → Contains d.headers h → key_of h ≡ key → w.router
            ≡ m.router → Said w (record { header = h; at = now }))
            → (is_exchange_or_later st ≡ false
            → AreSaid key now Of Said m.requests (conversation_with m))
            → Settling key now Of Said (held now key db) (record m { state = st })
            → OfStep (held now key db) (in_state st own_id now db d (record m { state = st }))
        stated Init m of said none h = begun m of said
        stated ExStart m of said none h = negotiating_so (record m {
          state = ExStart;
        }) of (λ g c is o. said (conversation_with m) g c is refl) (none refl)
            refl
        stated Exchange m of said none (inl before) = absurd cc
        stated Exchange m of said none (inr s) =
            let n : Neighbor = record m { state = Exchange } in
            first_two (Does n) (is_duplicate m.received d && m.is_master)
            (is_duplicate m.received d) _
            (stepped (held now key db) (no_sends n) (inr s)) (repeated (held now key db) n s)
            (mismatch_or_accepted (Does n) (mismatched_step (held now key db) n (inr s))
            (accepted (held now key db) db n
            (λ g c is o. said (conversation_with m) g c is refl) s)
            (same_flag d.master m.is_master) d.init (changes_options m.received d)
            (not (d.sequence == expected_sequence n)))
        stated Loading m of said none (inl before) = absurd cc
        stated Loading m of said none (inr s) = over (record m { state = Loading }) s
        stated Full m of said none (inl before) = absurd cc
        stated Full m of said none (inr s) = over (record m { state = Full }) s

        -- any Database Description, since before Exchange nothing is requested
        pub after : (m : Neighbor) → Of m.router
            → ((w : Conversation) (h : Header) → Contains d.headers h → key_of h ≡ key → w.router
            ≡ m.router → Said w (record { header = h; at = now }))
            → (is_exchange_or_later m.state ≡ false
            → AreSaid key now Of Said m.requests (conversation_with m))
            → Settling key now Of Said (held now key db) m
            → OfStep (held now key db) (after_description own_id now db d m)
        after m of said none h =
            chosen (OfStep (held now key db)) (nat_lt 8192 d.mtu) (no_sends m)
            (in_state m.state own_id now db d m)
            (λ e. stepped (held now key db) (no_sends m) h) (λ e. stated m.state m of said none h)
