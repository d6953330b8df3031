-- What is sent at an interface is in order.
use Rattle.std.proofs.Common.{◌≡◌, ◌≤◌, ◌<◌, ℕ, ◌+◌, false, List, [], ◌∷◌, ◌++◌, map, Option, None}
use Rattle.std.proofs.Common.{Some, map-id, refl, sym, ap, ◌∙◌, arith, append-nil}
use Rattle.std.specs.List.{AllByRecursion, cons_option, filter_map, flat_map}
use Rattle.std.specs.Ordering.{MatchOrdering, is_gt, nat_cmp, ordering_then}
use Rattle.std.specs.declared.cmp.Ordering.{Ordering}
use Rattle.std.specs.declared.cmp.Ordering.TheVariants.{Less, Equal, Greater}
use Rattle.std.proofs.lemmas.Cmp.{ranked}
use Rattle.std.proofs.lemmas.List.{map-append}
use Rattle.std.proofs.lemmas.List.Concat.{flat_map-append}
use Rattle.words.specs.declared.key.Key.{Key}
use Rattle.lsa.specs.Text.{text}
use Rattle.lsa.specs.declared.body.LsaBody.{LsaBody}
use Rattle.lsdb.specs.Headers.{Header, Lsa, key_of, lsa_key}
use Rattle.packet.specs.declared.model.PacketBody.{PacketBody}
use Rattle.packet.specs.declared.model.PacketBody.TheVariants as body
use Rattle.packet.specs.declared.model.Description.{Description}
use Rattle.packet.specs.declared.model.Hello.{Hello}
use Rattle.adjacency.specs.Contents.{Content}
use Rattle.event_rules.specs.Packing.{acknowledgments, bodies, descriptions, first_key, header_size}
use Rattle.event_rules.specs.Packing.{hellos, in_key_order, is_after, lsa_size, packed_groups}
use Rattle.event_rules.specs.Packing.{requests}
use Rattle.event_rules.specs.Packing.{sent_lsa, update_of, updates}
use Rattle.event_rules.specs.PackingLaws.{IsAscending}
use Rattle.event_rules.proofs.Packings.{headers_fit, ordered, packs}
use Rattle.event_rules.proofs.Rooms.{order_all}
use Rattle.agreement_laws.specs.SentInOrder.{AreAscending, AreInOrder, IsNoLater}
use Rattle.agreement_laws.specs.SentInOrder.{WhatIsSentStandsInOrder, arising, headers_told, lsa_of}
use Rattle.agreement_laws.specs.SentInOrder.{lsas_told, key_named, told_in_order}
use Rattle.agreement_laws.specs.SentInOrder.IsNoLater.{ByType, ById, ByRouter}

-- ---- the order of keys

by_parts : (r s t : Ordering) (a b : Key)
    → MatchOrdering r (a.ls_type < b.ls_type) (a.ls_type ≡ b.ls_type) (b.ls_type < a.ls_type)
    → MatchOrdering s (a.link_state_id < b.link_state_id) (a.link_state_id ≡ b.link_state_id)
    (b.link_state_id < a.link_state_id)
    → MatchOrdering t (a.advertising_router < b.advertising_router)
    (a.advertising_router ≡ b.advertising_router)
    (b.advertising_router < a.advertising_router)
    → is_gt (ordering_then r (ordering_then s t)) ≡ false → IsNoLater a b
by_parts Less s t a b p q u e = ByType p
by_parts Equal Less t a b p q u e = ById p q
by_parts Equal Equal Less a b p q u e = ByRouter p q (omega (arith, u))
by_parts Equal Equal Equal a b p q u e = ByRouter p q (omega (arith, u))
by_parts Equal Equal Greater a b p q u e = absurd (cc)
by_parts Equal Greater t a b p q u e = absurd (cc)
by_parts Greater s t a b p q u e = absurd (cc)

no_later : (a b : Key) → is_after a b ≡ false → IsNoLater a b
no_later a b e =
    by_parts (nat_cmp a.ls_type b.ls_type) (nat_cmp a.link_state_id b.link_state_id)
    (nat_cmp a.advertising_router b.advertising_router) a b
    (ranked a.ls_type b.ls_type (nat_cmp a.ls_type b.ls_type) refl)
    (ranked a.link_state_id b.link_state_id (nat_cmp a.link_state_id b.link_state_id) refl)
    (ranked a.advertising_router b.advertising_router
    (nat_cmp a.advertising_router b.advertising_router) refl) e

module _ {X : Type 0} (key : X → Key) where
  none_lesser : (x : X) (ys : List X) → AllByRecursion (λ y. is_after (key x) (key y) ≡ false) ys
      → AllByRecursion (λ y. IsNoLater (key x) (key y)) ys
  none_lesser x [] all = tt
  none_lesser x (y ∷ ys) all = (no_later (key x) (key y) all.0, none_lesser x ys all.1)

  ascends : (xs : List X) → IsAscending key xs → AreAscending key xs
  ascends [] up = tt
  ascends (x ∷ xs) up = (none_lesser x xs up.0, ascends xs up.1)

  in_order : (xs : List X) → AreInOrder key xs (in_key_order key xs)
  in_order xs =
      let is = ordered key xs in
      record { ascending = ascends (in_key_order key xs) is.ascending; same = is.same }

-- ---- the contents of packets

module _ {Y : Type 0} (f : PacketBody → List Y) where
  abbrev TellsNothing : Option PacketBody → Type 0
  TellsNothing None = Unit {0}
  TellsNothing (Some b) = f b ≡ []

  none_chosen : (h : Content → Option PacketBody) → ((c : Content) → TellsNothing (h c))
      → (cs : List Content) → flat_map f (filter_map h cs) ≡ []
  none_chosen h none [] = refl
  none_chosen h none (c ∷ cs) = none_first (h c) (none c) (filter_map h cs) (none_chosen h none cs)
    where
      none_first : (o : Option PacketBody) → TellsNothing o → (bs : List PacketBody)
          → flat_map f bs ≡ [] → flat_map f (cons_option o bs) ≡ []
      none_first None e bs rest = rest
      none_first (Some b) e bs rest = ap (λ l. l ++ flat_map f bs) e ∙ rest

  none_mapped : {X : Type 0} (g : X → PacketBody) → ((x : X) → f (g x) ≡ []) → (xs : List X)
      → flat_map f (map g xs) ≡ []
  none_mapped g none [] = refl
  none_mapped g none (x ∷ xs) = ap (λ l. l ++ flat_map f (map g xs)) (none x)
      ∙ none_mapped g none xs

  none_before : (xs ys : List PacketBody) → flat_map f xs ≡ []
      → flat_map f (xs ++ ys) ≡ flat_map f ys
  none_before xs ys none = flat_map-append f xs ys ∙ ap (λ l. l ++ flat_map f ys) none

  none_behind : (xs ys : List PacketBody) → flat_map f ys ≡ []
      → flat_map f (xs ++ ys) ≡ flat_map f xs
  none_behind xs ys none = flat_map-append f xs ys ∙ ap (λ l. flat_map f xs ++ l) none
      ∙ append-nil (flat_map f xs)

  -- each packet contains its list
  each_told : {X : Type 0} (g : List X → PacketBody) (F : X → Y)
      → ((xs : List X) → f (g xs) ≡ map F xs) → (xss : List (List X))
      → flat_map f (map g xss) ≡ map F (flat_map (λ p. p) xss)
  each_told g F is [] = refl
  each_told g F is (xs ∷ xss) = (λ i. is xs i ++ each_told g F is xss i)
      ∙ sym (map-append F xs (flat_map (λ p. p) xss))

  of_hellos : ((h : Hello) → f (body.Hello h) ≡ []) → (c : Content) → TellsNothing (hellos c)
  of_hellos none (Content.SendsHello h) = none h
  of_hellos none (Content.Describes d) = tt
  of_hellos none (Content.Requests keys) = tt
  of_hellos none (Content.Updates lsa) = tt
  of_hellos none (Content.Acknowledges h) = tt

  of_descriptions : ((d : Description) → f (body.Description d) ≡ []) → (c : Content)
      → TellsNothing (descriptions c)
  of_descriptions none (Content.SendsHello h) = tt
  of_descriptions none (Content.Describes d) = none d
  of_descriptions none (Content.Requests keys) = tt
  of_descriptions none (Content.Updates lsa) = tt
  of_descriptions none (Content.Acknowledges h) = tt

-- ---- Link State Updates and Acknowledgments

module _ (delay : ℕ) (cs : List Content) where
  abbrev lsas : List Lsa
  lsas = in_key_order lsa_key (filter_map updates cs)

  abbrev headers : List Header
  headers = in_key_order key_of (filter_map acknowledgments cs)

  abbrev asking : List PacketBody
  asking = map body.Request (in_key_order first_key (filter_map requests cs))

  abbrev updating : List PacketBody
  updating = map (update_of delay) (packed_groups lsa_size 28 lsas)

  abbrev acknowledging : List PacketBody
  acknowledging = map body.Acknowledgment (packed_groups header_size 24 headers)

  -- Hellos, Database Descriptions and Link State Requests contain none
  none_of_three : {Y : Type 0} (f : PacketBody → List Y) → ((h : Hello) → f (body.Hello h) ≡ [])
      → ((d : Description) → f (body.Description d) ≡ [])
      → ((keys : List Key) → f (body.Request keys) ≡ [])
      → flat_map f (filter_map hellos cs ++ filter_map descriptions cs ++ asking) ≡ []
  none_of_three f hello description request =
      none_before f (filter_map hellos cs ++ filter_map descriptions cs) asking
      (none_before f (filter_map hellos cs) (filter_map descriptions cs)
      (none_chosen f hellos (of_hellos f hello) cs)
      ∙ none_chosen f descriptions (of_descriptions f description) cs)
      ∙ none_mapped f body.Request request (in_key_order first_key (filter_map requests cs))

  pub updates_told : AllByRecursion (λ (l : Lsa). 28 + l.header.length ≤ 8192)
      (filter_map updates cs) → flat_map lsas_told (bodies delay cs)
      ≡ map (λ (l : Lsa). text (sent_lsa delay l)) lsas
  updates_told fit =
      none_behind lsas_told (filter_map hellos cs ++ filter_map descriptions cs ++ asking
      ++ updating) acknowledging
      (none_mapped lsas_told body.Acknowledgment (λ hs. refl)
      (packed_groups header_size 24 headers))
      ∙ none_before lsas_told (filter_map hellos cs ++ filter_map descriptions cs ++ asking)
      updating
      (none_of_three lsas_told (λ h. refl) (λ d. refl) (λ keys. refl))
      ∙ each_told lsas_told (update_of delay) (λ (l : Lsa). text (sent_lsa delay l)) (λ ls. refl)
      (packed_groups lsa_size 28 lsas)
      ∙ ap (map (λ (l : Lsa). text (sent_lsa delay l)))
      (packs lsa_size 28 lsas (order_all lsa_key (λ (l : Lsa). 28 + l.header.length ≤ 8192)
      (filter_map updates cs) fit)).all

  pub acknowledgments_told : flat_map headers_told (bodies delay cs) ≡ headers
  acknowledgments_told =
      none_before headers_told (filter_map hellos cs ++ filter_map descriptions cs ++ asking
      ++ updating) acknowledging
      (none_before headers_told (filter_map hellos cs ++ filter_map descriptions cs ++ asking)
      updating
      (none_of_three headers_told (λ h. refl) (λ d. refl) (λ keys. refl))
      ∙ none_mapped headers_told (update_of delay) (λ ls. refl) (packed_groups lsa_size 28 lsas))
      ∙ each_told headers_told body.Acknowledgment (λ h. h) (λ hs. sym (map-id hs))
      (packed_groups header_size 24 headers)
      ∙ map-id (flat_map (λ p. p) (packed_groups header_size 24 headers))
      ∙ (packs header_size 24 headers (headers_fit headers)).all

-- ---- worked

four_lsas_in_order : (b : LsaBody) → bodies 1 (map Content.Updates (arising b))
    ≡ body.Update (map text (told_in_order b)) ∷ []
four_lsas_in_order b = refl

four_headers_in_order : (b : LsaBody)
    → bodies 1 (map (λ (l : Lsa). Content.Acknowledges l.header) (arising b))
    ≡ body.Acknowledgment (map (λ (l : Lsa). record l.header { age = 10 }) (told_in_order b))
    ∷ []
four_headers_in_order b = refl

one_key_in_order : (a b : LsaBody)
    → bodies 1 (map (λ c. Content.Updates (lsa_of 10 c (key_named 1 2 7))) (a ∷ b ∷ []))
    ≡ body.Update (map (λ c. text (lsa_of 11 c (key_named 1 2 7))) (a ∷ b ∷ [])) ∷ []
one_key_in_order a b = refl

kinds_in_order : (hello : Hello) (d : Description) (keys : List Key) (lsa : Lsa) (h : Header)
    → bodies 1 (Content.Acknowledges h ∷ Content.Updates lsa ∷ Content.Requests keys
    ∷ Content.Describes d ∷ Content.SendsHello hello ∷ [])
    ≡ body.Hello hello ∷ body.Description d ∷ body.Request keys
    ∷ body.Update (text (sent_lsa 1 lsa) ∷ []) ∷ body.Acknowledgment (h ∷ []) ∷ []
kinds_in_order hello d keys lsa h = refl

pub sent_in_order : WhatIsSentStandsInOrder
sent_in_order = record {
  lsas = λ delay contents fit. record {
    lsas = in_key_order lsa_key (filter_map updates contents);
    in_order = in_order lsa_key (filter_map updates contents);
    told = updates_told delay contents fit;
  };
  headers = λ delay contents. record {
    headers = in_key_order key_of (filter_map acknowledgments contents);
    in_order = in_order key_of (filter_map acknowledgments contents);
    told = acknowledgments_told delay contents;
  };
  four_lsas = four_lsas_in_order;
  four_headers = four_headers_in_order;
  one_key = one_key_in_order;
  kinds = kinds_in_order;
}
