-- The last header of a key among those of a Description; and whether an LSA of a key was there in
-- an event.
use Rattle.std.proofs.Common.{◌≡◌, ℕ, Bool, true, false, ◌⊎◌, inl, inr, List, [], ◌∷◌}
use Rattle.std.proofs.Common.{Option, None, Some, refl, sym, ap, subst, ◌∙◌}
use Rattle.std.specs.Prelude.{◌==◌}
use Rattle.std.specs.FinMap as finite
use Rattle.std.specs.List.{AllByRecursion, Contains}
use Rattle.std.proofs.lemmas.Bool.{eq-eqb, eqb-true}
use Rattle.words.specs.declared.key.Key.{Key}
use Rattle.lsdb.specs.Copies.{DatabaseCopy}
use Rattle.lsdb.specs.Headers.{Header, Lsa, key_of, lsa_key}
use Rattle.lsdb.specs.Keys.{same_key}
use Rattle.packet.specs.declared.model.Packet.{Packet}
use Rattle.packet.specs.Text.{PacketText}
use Rattle.packet.proofs.Whole.{one_packet}
use Rattle.event_rules.specs.Events.{OwnPart}
use Rattle.event_rules.specs.EventState.{EventState}
use Rattle.event_rules.specs.Routers.{Occurrence, Router}
use Rattle.invariants.specs.NewInstances.{lsas_brought}
use Rattle.invariants.proofs.Known.{of_member}
use Rattle.invariants.proofs.Limits.{tied_key}
use Rattle.invariants.proofs.Lists.{later_is}
use Rattle.invariants.proofs.Taken.{named_first}
use Rattle.invariants.proofs.Leaving.{itself}
use Rattle.agreement_laws.specs.Accepted.{IsLastOfItsKey}
use Rattle.agreement_laws.specs.CopiesClimb.{BringsNone, IsForeignAndAbsent}
use Rattle.agreement_laws.specs.Held.{WasThere}

-- ---- the last of a key

pub record LastOf (key : Key) (hs : List Header) : Type 0 where
  pub header : Header
  pub last : IsLastOfItsKey hs header
  pub among : Contains hs header
  pub of_key : key_of header ≡ key

abbrev Others : Key → List Header → Type 0
Others key hs = AllByRecursion (λ (g : Header). same_key key (key_of g) ≡ false) hs

found : (key : Key) (hs : List Header) → LastOf key hs ⊎ Others key hs
found key [] = inr tt
found key (x ∷ hs) = by_rest (found key hs)
  where
    by_key : Others key hs → (b : Bool) → same_key key (key_of x) ≡ b
        → LastOf key (x ∷ hs) ⊎ Others key (x ∷ hs)
    by_key none true same =
        let its : key ≡ key_of x = tied_key key (key_of x) same in
        inl (record {
          header = x;
          last = record {
            before = [];
            rest = hs;
            is = refl;
            others = subst (λ (k : Key). Others k hs) its none;
          };
          among = named_first x hs x refl;
          of_key = sym its;
        })
    by_key none false other = inr (other, none)

    by_rest : LastOf key hs ⊎ Others key hs → LastOf key (x ∷ hs) ⊎ Others key (x ∷ hs)
    by_rest (inl r) =
        inl (record {
          header = r.header;
          last = record {
            before = x ∷ r.last.before;
            rest = r.last.rest;
            is = ap (λ (l : List Header). x ∷ l) r.last.is;
            others = r.last.others;
          };
          among = later_is x hs r.header r.among;
          of_key = r.of_key;
        })
    by_rest (inr none) = by_key none (same_key key (key_of x)) refl

pub last_of : (key : Key) (hs : List Header) (g : Header) → Contains hs g → key_of g ≡ key
    → LastOf key hs
last_of key hs g among its = by_found (found key hs)
  where
    by_found : LastOf key hs ⊎ Others key hs → LastOf key hs
    by_found (inl r) = r
    by_found (inr none) =
        let other : same_key key (key_of g) ≡ false =
        of_member (λ (x : Header). same_key key (key_of x) ≡ false) hs none g among in
        let same : same_key key (key_of g) ≡ true = ap (same_key key) its ∙ itself key in
        let no : true ≡ false = sym same ∙ other in absurd cc

-- ---- whether one was there

some_brought : (key : Key) (lsas : List Lsa)
    → ((lsa : Lsa) × Contains lsas lsa × (lsa_key lsa ≡ key))
    ⊎ ((lsa : Lsa) → Contains lsas lsa → lsa_key lsa ≡ key → ⊥)
some_brought key lsas = by_scan (scan lsas)
  where
    Some_one : List Lsa → Type 0
    Some_one xs = (lsa : Lsa) × Contains xs lsa × (lsa_key lsa ≡ key)

    None_of : List Lsa → Type 0
    None_of xs = AllByRecursion (λ (l : Lsa). same_key key (lsa_key l) ≡ false) xs

    scan : (xs : List Lsa) → Some_one xs ⊎ None_of xs
    scan [] = inr tt
    scan (x ∷ xs) = by_key (same_key key (lsa_key x)) refl (scan xs)
      where
        by_key : (b : Bool) → same_key key (lsa_key x) ≡ b → Some_one xs ⊎ None_of xs
            → Some_one (x ∷ xs) ⊎ None_of (x ∷ xs)
        by_key true same r =
            inl (x, named_first x xs x refl, sym (tied_key key (lsa_key x) same))
        by_key false other (inl r) = inl (r.0, later_is x xs r.0 r.1, r.2)
        by_key false other (inr none) = inr (other, none)

    by_scan : Some_one lsas ⊎ None_of lsas
        → Some_one lsas ⊎ ((lsa : Lsa) → Contains lsas lsa → lsa_key lsa ≡ key → ⊥)
    by_scan (inl r) = inl r
    by_scan (inr none) =
        inr (λ lsa c its.
        let other : same_key key (lsa_key lsa) ≡ false =
        of_member (λ (l : Lsa). same_key key (lsa_key l) ≡ false) lsas none lsa c in
        let same : same_key key (lsa_key lsa) ≡ true = ap (same_key key) its ∙ itself key in
        let no : true ≡ false = sym same ∙ other in absurd cc)

same_bytes : (i j : ℕ) (a b : List ℕ) → Occurrence.Packet i a ≡ Occurrence.Packet j b → a ≡ b
same_bytes i j a b e = cc

module _ (old : Router) (moment : ℕ) (start after : EventState) (key : Key) where
  abbrev Brings : Occurrence → Type 0
  Brings event = WasThere old event key ⊎ BringsNone event key

  by_event : (event : Occurrence) → OwnPart moment event start after → Brings event
  by_event (Occurrence.Packet number bytes) own =
      by_lsas (some_brought key (lsas_brought own.0.body))
    where
      by_lsas : ((lsa : Lsa) × Contains (lsas_brought own.0.body) lsa × (lsa_key lsa ≡ key))
          ⊎ ((lsa : Lsa) → Contains (lsas_brought own.0.body) lsa → lsa_key lsa ≡ key → ⊥)
          → Brings (Occurrence.Packet number bytes)
      by_lsas (inl r) =
          inl (WasThere.Brought r.0 (record {
            interface = number;
            bytes = bytes;
            packet = own.0;
            is = refl;
            text = own.1;
            among = r.1;
          }) r.2)
      by_lsas (inr none) =
          inr (λ lsa b same.
          let it : own.0 ≡ b.packet =
          one_packet bytes own.0 b.packet own.1
          (subst (λ (its : List ℕ). PacketText its b.packet)
          (sym (same_bytes number b.interface bytes b.bytes b.is)) b.text) in
          none lsa
          (subst (λ (p : Packet). Contains (lsas_brought p.body) lsa) (sym it) b.among) same)
  by_event Occurrence.Tick own =
      inr (λ lsa b same.
      let no : Occurrence.Tick ≡ Occurrence.Packet b.interface b.bytes = b.is in absurd cc)
  by_event (Occurrence.Redistribute tagged tag priced price) own =
      inr (λ lsa b same.
      let no : Occurrence.Redistribute tagged tag priced price
      ≡ Occurrence.Packet b.interface b.bytes = b.is in absurd cc)
  by_event (Occurrence.Withdraw prefix) own =
      inr (λ lsa b same.
      let no : Occurrence.Withdraw prefix ≡ Occurrence.Packet b.interface b.bytes = b.is in
      absurd cc)
  by_event (Occurrence.Install answers) own =
      inr (λ lsa b same.
      let no : Occurrence.Install answers ≡ Occurrence.Packet b.interface b.bytes = b.is in
      absurd cc)
  by_event (Occurrence.LinkDown number) own =
      inr (λ lsa b same.
      let no : Occurrence.LinkDown number ≡ Occurrence.Packet b.interface b.bytes = b.is in
      absurd cc)

  -- one was there, or nothing that could meet a request
  pub there_or_not : (event : Occurrence) → OwnPart moment event start after
      → WasThere old event key ⊎ (IsForeignAndAbsent old key × BringsNone event key)
  there_or_not event own = by_copy (finite.get old.area.database key) refl
    where
      by_brought : finite.get old.area.database key ≡ None
          → (key.advertising_router ≡ old.id → ⊥) → Brings event
          → WasThere old event key ⊎ (IsForeignAndAbsent old key × BringsNone event key)
      by_brought none others (inl r) = inl r
      by_brought none others (inr k) = inr (record { absent = none; others = others }, k)

      by_owner : finite.get old.area.database key ≡ None → (b : Bool)
          → (key.advertising_router == old.id) ≡ b
          → WasThere old event key ⊎ (IsForeignAndAbsent old key × BringsNone event key)
      by_owner none true is = inl (WasThere.Own (eqb-true key.advertising_router old.id is))
      by_owner none false is =
          by_brought none
          (λ e.
          let no : true ≡ false = sym (eq-eqb key.advertising_router old.id e) ∙ is in absurd cc)
          (by_event event own)

      by_copy : (o : Option DatabaseCopy) → finite.get old.area.database key ≡ o
          → WasThere old event key ⊎ (IsForeignAndAbsent old key × BringsNone event key)
      by_copy (Some c) at = inl (WasThere.Before c at)
      by_copy None at = by_owner at (key.advertising_router == old.id) refl
