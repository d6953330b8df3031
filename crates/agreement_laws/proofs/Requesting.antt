-- What a Description makes of a request list: an entry stays, unless a header of its key is
-- described; and what is accepted is requested, or isn't newer than the copy.
use Rattle.std.proofs.Common.{◌≡◌, ℕ, ◌%◌, ◌^◌, ◌+◌, Bool, true, false, cond, ◌||◌, ◌⊎◌}
use Rattle.std.proofs.Common.{inl, inr, List, [], ◌∷◌, ◌++◌, Some, refl, sym, ap, subst, ◌∙◌}
use Rattle.std.specs.Prelude.{nat_lt}
use Rattle.std.specs.FinMap as finite
use Rattle.std.specs.List.{AllByRecursion, Contains, fold}
use Rattle.words.specs.declared.key.Key.{Key}
use Rattle.lsdb.specs.Copies.{Database}
use Rattle.lsdb.specs.Headers.{Header, key_of}
use Rattle.lsdb.specs.Instances.{ListEntry, listed_now}
use Rattle.lsdb.specs.Keys.{ByKey, same_key}
use Rattle.lsdb.specs.declared.order.Instance.{Instance}
use Rattle.packet.specs.declared.model.Description.{Description}
use Rattle.adjacency.specs.declared.state.NeighborState.{NeighborState}
use Rattle.adjacency.specs.declared.state.NeighborState.TheVariants.{Init, ExStart, Exchange}
use Rattle.adjacency.specs.declared.state.NeighborState.TheVariants.{Loading, Full}
use Rattle.adjacency.specs.Adjacencies.{mismatch_step, two_way_received, two_way_received_in}
use Rattle.adjacency.specs.Contents.{Step, no_sends}
use Rattle.adjacency.specs.Descriptions.{Verdict, accept, act, after_description, announced_more}
use Rattle.adjacency.specs.Descriptions.{as_received, exchange_done, in_state, is_more_recent}
use Rattle.adjacency.specs.Descriptions.{send_description}
use Rattle.adjacency.specs.Descriptions.{knows_types, master_goes_on, negotiated_neighbor, process}
use Rattle.adjacency.specs.Descriptions.{slave_replies, verdict, with_request, with_requests}
use Rattle.adjacency.specs.Neighbors.{Neighbor, is_exchange_or_later}
use Rattle.adjacency.proofs.Kept.{chosen}
use Rattle.invariants.proofs.Limits.{tied_key}
use Rattle.invariants.proofs.Lists.{later_is}
use Rattle.invariants.proofs.Owing.{put_other, put_same}
use Rattle.invariants.proofs.Taken.{named_first}
use Rattle.invariants.proofs.Leaving.{itself}
use Rattle.agreement_laws.specs.Exchanged.{Conversation, conversation_with}
use Rattle.agreement_laws.specs.Ranks.{RanksFollowTheComparison, is_at_least}
use Rattle.agreement_laws.specs.Accepted.{IsLastOfItsKey, accepts_description, is_accepting}
use Rattle.agreement_laws.proofs.Asking.{Asking, IsAsked, mismatched, repeated}
use Rattle.agreement_laws.proofs.Accepting.{by_tests, its_tests}

-- ---- the request list

-- a header of the key stands among these
abbrev pub HasKey : List Header → Key → Type 0
HasKey hs key = (h : Header) × Contains hs h × (key_of h ≡ key)

module _ (moment : ℕ) (db : Database) (key : Key) (entry : ListEntry) where
  one_kept : (g : Header) (r : ByKey ListEntry) → same_key key (key_of g) ≡ false → finite.get r key
      ≡ Some entry → finite.get (with_request moment db r g) key ≡ Some entry
  one_kept g r other at =
      chosen (λ (q : ByKey ListEntry). finite.get q key ≡ Some entry) (is_more_recent moment db g)
      (finite.insert r (key_of g) (record { header = g; at = moment })) r
      (λ e. put_other r (key_of g) key (record { header = g; at = moment }) other ∙ at) (λ e. at)

  -- if no header is of the key
  all_kept : (hs : List Header) (r : ByKey ListEntry)
      → AllByRecursion (λ (g : Header). same_key key (key_of g) ≡ false) hs → finite.get r key
      ≡ Some entry → finite.get (fold (with_request moment db) r hs) key ≡ Some entry
  all_kept [] r others at = at
  all_kept (g ∷ hs) r others at = all_kept hs (with_request moment db r g) others.1
      (one_kept g r others.0 at)

  -- or one is
  kept_or_told : (hs : List Header) (r : ByKey ListEntry) → finite.get r key ≡ Some entry
      → (finite.get (fold (with_request moment db) r hs) key ≡ Some entry) ⊎ HasKey hs key
  kept_or_told [] r at = inl at
  kept_or_told (g ∷ hs) r at = by_key (λ there. kept_or_told hs (with_request moment db r g) there)
      (same_key key (key_of g)) refl
    where
      more : (finite.get (fold (with_request moment db) (with_request moment db r g) hs) key
          ≡ Some entry) ⊎ HasKey hs key →
          (finite.get (fold (with_request moment db) (with_request moment db r g) hs) key
          ≡ Some entry) ⊎ HasKey (g ∷ hs) key
      more (inl k) = inl k
      more (inr k) = inr (k.0, later_is g hs k.0 k.1, k.2)

      by_key : (finite.get (with_request moment db r g) key ≡ Some entry
          → (finite.get (fold (with_request moment db) (with_request moment db r g) hs) key
          ≡ Some entry) ⊎ HasKey hs key) → (b : Bool) → same_key key (key_of g) ≡ b
          → (finite.get (fold (with_request moment db) (with_request moment db r g) hs) key
          ≡ Some entry) ⊎ HasKey (g ∷ hs) key
      by_key rest true same = inr (g, named_first g hs g refl, sym (tied_key key (key_of g) same))
      by_key rest false other = more (rest (one_kept g r other at))

-- the last header of its key is requested, unless it isn't wanted
last_requested : (moment : ℕ) (db : Database) (h : Header) (before rest : List Header)
    (r : ByKey ListEntry) → AllByRecursion (λ (g : Header). same_key (key_of h) (key_of g) ≡ false)
    rest
    → (finite.get (fold (with_request moment db) r (before ++ h ∷ rest)) (key_of h) ≡ Some (record {
      header = h;
      at = moment;
    })) ⊎ (is_more_recent moment db h ≡ false)
last_requested moment db h [] rest r others = by_test (is_more_recent moment db h) refl
  where
    entry : ListEntry
    entry = record { header = h; at = moment }

    by_test : (b : Bool) → is_more_recent moment db h ≡ b
        → (finite.get (fold (with_request moment db) (with_request moment db r h) rest) (key_of h)
        ≡ Some entry) ⊎ (is_more_recent moment db h ≡ false)
    by_test true e =
        inl (all_kept moment db (key_of h) entry rest (with_request moment db r h) others
        (subst (λ b. finite.get (cond b (finite.insert r (key_of h) entry) r) (key_of h)
        ≡ Some entry) (sym e) (put_same r (key_of h) (key_of h) entry (itself (key_of h)))))
    by_test false e = inr e
last_requested moment db h (g ∷ before) rest r others =
    last_requested moment db h before rest (with_request moment db r g) others

-- ---- a Description that is accepted

module _ (own moment : ℕ) (db : Database) (d : Description) where
  -- its headers were requested, in this neighbor's conversation
  abbrev HasRequested : Neighbor → Step → Type 0
  HasRequested m s = (r : ByKey ListEntry)
      × (s.neighbor.requests ≡ fold (with_request moment db) r d.headers)
      × (conversation_with s.neighbor ≡ conversation_with m)

  accepted : knows_types d ≡ true → (m : Neighbor) → HasRequested m (accept moment db d m)
  accepted known m =
      let w : Neighbor = with_requests moment db d.headers (record m {
        received = Some (as_received d);
      }) in
      let replied : Step = send_description moment (record w { sequence = d.sequence }) in
      chosen (HasRequested m) (knows_types d)
      (cond w.is_master (master_goes_on moment d w) (slave_replies moment d w))
      (mismatch_step moment m)
      (λ e. chosen (HasRequested m) w.is_master (master_goes_on moment d w)
      (slave_replies moment d w)
      (λ e. chosen (HasRequested m) (announced_more w.described || d.more)
      (send_description moment (record w {
        sequence = (w.sequence + 1) % 2 ^ 32;
      })) (no_sends (exchange_done moment w))
      (λ e. (m.requests, refl, refl)) (λ e. (m.requests, refl, refl)))
      (λ e. chosen (HasRequested m) (announced_more replied.neighbor.described || d.more) replied
      (record replied {
        neighbor = exchange_done moment replied.neighbor;
      }) (λ e. (m.requests, refl, refl))
      (λ e. (m.requests, refl, refl))))
      (λ e. let no : true ≡ false = sym known ∙ e in absurd cc)

  by_verdict : knows_types d ≡ true → (m : Neighbor) (v : Verdict) → is_accepting v ≡ true
      → HasRequested m (act v moment db d m)
  by_verdict known m Verdict.Discarded e = absurd cc
  by_verdict known m Verdict.NegotiatedAsSlave e =
      accepted known (negotiated_neighbor false d.sequence moment db m)
  by_verdict known m Verdict.NegotiatedAsMaster e =
      accepted known (negotiated_neighbor true m.sequence moment db m)
  by_verdict known m Verdict.Repeated e = absurd cc
  by_verdict known m Verdict.Accepted e = accepted known m
  by_verdict known m Verdict.Mismatch e = absurd cc

  judged : knows_types d ≡ true → (m : Neighbor) → is_accepting (verdict own m d) ≡ true
      → HasRequested m (process own moment db d m)
  judged known m e = by_verdict known m (verdict own m d) e

  as_it_is : (m : Neighbor) (s : NeighborState) → m.state ≡ s
      → is_accepting (verdict own (two_way_received moment m).neighbor d) ≡ true
      → is_accepting (verdict own (two_way_received_in s moment m).neighbor d) ≡ true
  as_it_is m s is e = subst (λ (x : NeighborState). is_accepting
      (verdict own (two_way_received_in x moment m).neighbor d) ≡ true) is e

  in_it : knows_types d ≡ true → (m : Neighbor) (s : NeighborState) → m.state ≡ s
      → HasRequested (two_way_received_in s moment m).neighbor (process own moment db d m)
      → HasRequested (two_way_received moment m).neighbor (process own moment db d m)
  in_it known m s is = subst (λ (x : NeighborState). HasRequested
      (two_way_received_in x moment m).neighbor
      (process own moment db d m)) (sym is)

  in_its_state : knows_types d ≡ true → (m : Neighbor) (s : NeighborState) → m.state ≡ s
      → is_accepting (verdict own (two_way_received moment m).neighbor d) ≡ true
      → HasRequested (two_way_received moment m).neighbor (in_state s own moment db d m)
  in_its_state known m Init is e = let h = judged known (two_way_received moment m).neighbor e in
      (h.0, h.1, h.2)
  in_its_state known m ExStart is e =
      in_it known m ExStart is (judged known m (as_it_is m ExStart is e))
  in_its_state known m Exchange is e =
      in_it known m Exchange is (judged known m (as_it_is m Exchange is e))
  in_its_state known m Loading is e =
      in_it known m Loading is (judged known m (as_it_is m Loading is e))
  in_its_state known m Full is e = in_it known m Full is (judged known m (as_it_is m Full is e))

  has_requested : (m : Neighbor) → accepts_description own moment m d ≡ true
      → HasRequested (two_way_received moment m).neighbor (after_description own moment db d m)
  has_requested m e =
      let all = its_tests own moment m d e in
      chosen (HasRequested (two_way_received moment m).neighbor) (nat_lt 8192 d.mtu) (no_sends m)
      (in_state m.state own moment db d m)
      (λ big. let no : true ≡ false = sym big ∙ all.0 in absurd cc)
      (λ fits. in_its_state all.1 m m.state refl all.2)

  pub accepted_one : (m : Neighbor) → accepts_description own moment m d ≡ true → (h : Header)
      → IsLastOfItsKey d.headers h → (conversation_with
      (after_description own moment db d m).neighbor
      ≡ conversation_with (two_way_received moment m).neighbor)
      × ((finite.get (after_description own moment db d m).neighbor.requests (key_of h)
      ≡ Some (record { header = h; at = moment })) ⊎ (is_more_recent moment db h ≡ false))
  accepted_one m e h last =
      let r = has_requested m e in
      (r.2, asked r)
    where
      asked : HasRequested (two_way_received moment m).neighbor
          (after_description own moment db d m)
          → (finite.get (after_description own moment db d m).neighbor.requests (key_of h)
          ≡ Some (record { header = h; at = moment })) ⊎ (is_more_recent moment db h ≡ false)
      asked r =
          subst (λ (q : ByKey ListEntry). (finite.get q (key_of h) ≡ Some (record {
            header = h;
            at = moment;
          })) ⊎ (is_more_recent moment db h ≡ false))
          (sym (r.1 ∙ ap (λ (hs : List Header). fold (with_request moment db) r.0 hs) last.is))
          (last_requested moment db h last.before last.rest r.0 last.others)

-- ---- any Description, of a neighbor in Exchange or later

module _ (ranks : RanksFollowTheComparison) (key : Key) (moment : ℕ) (first : Instance)
    (entry : ListEntry) (low : is_at_least (listed_now moment entry) first ≡ true)
    (with_it : Conversation) (May : Type 0) (may : May) (own : ℕ) (db : Database) (d : Description)
  where
    -- a header of the key is taken
    abbrev IsTold : Type 0
    IsTold = (knows_types d ≡ true) × HasKey d.headers key

    abbrev Goes : Neighbor → Type 0
    Goes m = Asking ranks key moment first entry low with_it May m ⊎ IsTold

    abbrev IsIt : Neighbor → Type 0
    IsIt m = IsAsked ranks key moment first entry low with_it May m

    of_it : (m : Neighbor) → IsIt m ⊎ IsTold → Goes m
    of_it m (inl at) = inl (inr at)
    of_it m (inr told) = inr told

    master : (m : Neighbor) → IsIt m ⊎ IsTold → Goes (master_goes_on moment d m).neighbor
    master m h =
        let more : Step = send_description moment (record m {
          sequence = (m.sequence + 1) % 2 ^ 32;
        }) in
        chosen (λ (s : Step). Goes s.neighbor) (announced_more m.described || d.more) more
        (no_sends (exchange_done moment m)) (λ e. of_it more.neighbor h)
        (λ e. of_it (exchange_done moment m) h)

    slave : (m : Neighbor) → IsIt m ⊎ IsTold → Goes (slave_replies moment d m).neighbor
    slave m h =
        let replied : Step = send_description moment (record m { sequence = d.sequence }) in
        chosen (λ (s : Step). Goes s.neighbor) (announced_more replied.neighbor.described || d.more)
        replied (record replied { neighbor = exchange_done moment replied.neighbor })
        (λ e. of_it replied.neighbor h) (λ e. of_it (exchange_done moment replied.neighbor) h)

    mismatch : (m : Neighbor) → IsIt m → Goes (mismatch_step moment m).neighbor
    mismatch m at = inl (mismatched ranks key moment first entry low with_it May may m (inr at))

    any_accepted : (m : Neighbor) → IsIt m → Goes (accept moment db d m).neighbor
    any_accepted m at =
        let w : Neighbor = with_requests moment db d.headers (record m {
          received = Some (as_received d);
        }) in
        let so : knows_types d ≡ true → IsIt w ⊎ IsTold =
        λ knows. its knows at.0 (kept_or_told moment db key entry d.headers m.requests at.1) in
        chosen (λ (s : Step). Goes s.neighbor) (knows_types d)
        (cond w.is_master (master_goes_on moment d w) (slave_replies moment d w))
        (mismatch_step moment m)
        (λ knows. chosen (λ (s : Step). Goes s.neighbor) w.is_master (master_goes_on moment d w)
        (slave_replies moment d w) (λ e. master w (so knows)) (λ e. slave w (so knows)))
        (λ e. mismatch m at)
      where
        its : knows_types d ≡ true → conversation_with m ≡ with_it
            → (finite.get (fold (with_request moment db) m.requests d.headers) key ≡ Some entry)
            ⊎ HasKey d.headers key
            → IsIt (with_requests moment db d.headers (record m {
              received = Some (as_received d);
            })) ⊎ IsTold
        its knows same (inl k) = inl (same, k)
        its knows same (inr told) = inr (knows, told)

    -- by a verdict that accepts it
    abbrev Gone : Verdict → Neighbor → Type 0
    Gone v m = Asking ranks key moment first entry low with_it May m
        ⊎ ((is_accepting v ≡ true) × IsTold)

    by_verdict_told : (v : Verdict) → is_accepting v ≡ true → (m : Neighbor) → Goes m → Gone v m
    by_verdict_told v is m (inl k) = inl k
    by_verdict_told v is m (inr told) = inr (is, told)

    any_verdict : (m : Neighbor) (v : Verdict) → IsIt m → Gone v (act v moment db d m).neighbor
    any_verdict m Verdict.Discarded at = inl (inr at)
    any_verdict m Verdict.NegotiatedAsSlave at =
        by_verdict_told Verdict.NegotiatedAsSlave refl
        (act Verdict.NegotiatedAsSlave moment db d m).neighbor
        (any_accepted (negotiated_neighbor false d.sequence moment db m) at)
    any_verdict m Verdict.NegotiatedAsMaster at =
        by_verdict_told Verdict.NegotiatedAsMaster refl
        (act Verdict.NegotiatedAsMaster moment db d m).neighbor
        (any_accepted (negotiated_neighbor true m.sequence moment db m) at)
    any_verdict m Verdict.Repeated at =
        inl (repeated ranks key moment first entry low with_it May m (inr at))
    any_verdict m Verdict.Accepted at =
        by_verdict_told Verdict.Accepted refl (act Verdict.Accepted moment db d m).neighbor
        (any_accepted m at)
    any_verdict m Verdict.Mismatch at =
        inl (mismatched ranks key moment first entry low with_it May may m (inr at))

    any_state : (s : NeighborState) (m : Neighbor) → is_exchange_or_later s ≡ true → IsIt m
        → Gone (verdict own m d) (in_state s own moment db d m).neighbor
    any_state Init m on at = absurd cc
    any_state ExStart m on at = absurd cc
    any_state Exchange m on at = any_verdict m (verdict own m d) at
    any_state Loading m on at = any_verdict m (verdict own m d) at
    any_state Full m on at = any_verdict m (verdict own m d) at

    stays_put : (s : NeighborState) (m : Neighbor) → is_exchange_or_later s ≡ true
        → (two_way_received_in s moment m).neighbor ≡ m
    stays_put Init m on = absurd cc
    stays_put ExStart m on = refl
    stays_put Exchange m on = refl
    stays_put Loading m on = refl
    stays_put Full m on = refl

    -- it is asked still, or the Description is accepted, with a header of the key
    abbrev pub Accepts : Neighbor → Neighbor → Type 0
    Accepts m x = Asking ranks key moment first entry low with_it May x
        ⊎ ((accepts_description own moment m d ≡ true) × HasKey d.headers key)

    pub any_described : (m : Neighbor) → is_exchange_or_later m.state ≡ true → IsIt m
        → Accepts m (after_description own moment db d m).neighbor
    any_described m on at =
        chosen (λ (s : Step). Accepts m s.neighbor) (nat_lt 8192 d.mtu) (no_sends m)
        (in_state m.state own moment db d m) (λ e. inl (inr at))
        (λ fits. taken fits (any_state m.state m on at))
      where
        taken : nat_lt 8192 d.mtu ≡ false
            → Gone (verdict own m d) (in_state m.state own moment db d m).neighbor
            → Accepts m (in_state m.state own moment db d m).neighbor
        taken fits (inl k) = inl k
        taken fits (inr k) =
            inr (
              by_tests own moment m d (
                fits,
                k.1.0,
                ap (λ (x : Neighbor). is_accepting (verdict own x d)) (stays_put m.state m on)
                    ∙ k.0,
              ),
              k.1.1,
            )
