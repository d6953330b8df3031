-- The bodies of the packets of a draft are those of the contents.
use Rattle.std.proofs.Common.{◌≡◌, ◌≤◌, ℕ, ◌+◌, Bool, true, false, cond, List, [], ◌∷◌, ◌++◌, map}
use Rattle.std.proofs.Common.{length, refl, sym, ap, subst, ◌∙◌, append_assoc, append-nil}
use Rattle.std.proofs.Common.{length-append}
use Rattle.std.specs.List.{AllByRecursion, fold, filter_map}
use Rattle.std.proofs.lemmas.List.{map-append}
use Rattle.words.specs.declared.key.Key.{Key}
use Rattle.lsa.specs.Headers.{header_text}
use Rattle.lsa.specs.Text as lsa_text
use Rattle.lsdb.specs.Headers.{Lsa, key_of, lsa_key}
use Rattle.packet.specs.declared.model.PacketBody.TheVariants as body
use Rattle.adjacency.specs.Contents.{Content}
use Rattle.adjacency.specs.Drafts as drafts
use Rattle.adjacency.specs.Drafts.{Drafted, adds, drafting}
use Rattle.adjacency.specs.Rooms.{HasRoom}
use Rattle.adjacency.specs.declared.draft.Update.{Update}
use Rattle.received.specs.Links.{Link}
use Rattle.received.specs.AreaStates.{Send, at_interface}
use Rattle.event_rules.specs.Packing.{acknowledgments, bodies, descriptions}
use Rattle.event_rules.specs.Packing.{first_key}
use Rattle.event_rules.specs.Packing.{header_size, hellos, in_key_order, is_after, lsa_size}
use Rattle.event_rules.specs.Packing.{packed_groups, insert_by_key, requests, sent_lsa, update_of}
use Rattle.event_rules.specs.Packing.{updates}
use Rattle.event_rules.specs.PackingLaws.{HasPacketRoom}
use Rattle.event_rules.proofs.Rooms.{order_all, ordered_and_packed, there}
use Rattle.router.specs.Bodies.{IsShort, drafted_bodies, text_size, texts, update_bodies}
use Rattle.router.specs.Bodies.{update_key}
use Rattle.router.specs.Drafts.{IsDraftAt, nothing_drafted}
use Rattle.router.proofs.Packs.{packed_map}

-- ---- what a draft has from its contents

module _ (delay : ℕ) {Y : Type 0} (get : Drafted → List Y) (all : List Content → List Y)
    (more : (d : Drafted) (c : Content) (cs : List Content)
    → get (adds delay d c) ++ all cs ≡ get d ++ all (c ∷ cs)) (none : [] ≡ all []) where
  has_all : (cs : List Content) (d : Drafted) → get (fold (adds delay) d cs) ≡ get d ++ all cs
  has_all [] d = sym (append-nil (get d)) ∙ ap (λ ys. get d ++ ys) none
  has_all (c ∷ cs) d = has_all cs (adds delay d c) ∙ more d c cs

module _ (delay : ℕ) where
  one_behind : {X Y : Type 0} (f : X → Y) (xs : List X) (x : X) (ys : List Y)
      → map f (xs ++ x ∷ []) ++ ys ≡ map f xs ++ (f x ∷ ys)
  one_behind f xs x ys = ap (λ zs. zs ++ ys) (map-append f xs (x ∷ []))
      ∙ append_assoc (map f xs) (f x ∷ []) ys

  more_hellos : (d : Drafted) (c : Content) (cs : List Content)
      → map body.Hello (adds delay d c).hellos ++ filter_map hellos cs ≡ map body.Hello d.hellos
      ++ filter_map hellos (c ∷ cs)
  more_hellos d (Content.SendsHello h) cs = one_behind body.Hello d.hellos h (filter_map hellos cs)
  more_hellos d (Content.Describes x) cs = refl
  more_hellos d (Content.Requests x) cs = refl
  more_hellos d (Content.Updates x) cs = refl
  more_hellos d (Content.Acknowledges x) cs = refl

  more_descriptions : (d : Drafted) (c : Content) (cs : List Content)
      → map body.Description (adds delay d c).descriptions ++ filter_map descriptions cs
      ≡ map body.Description d.descriptions ++ filter_map descriptions (c ∷ cs)
  more_descriptions d (Content.SendsHello x) cs = refl
  more_descriptions d (Content.Describes h) cs =
      one_behind body.Description d.descriptions h (filter_map descriptions cs)
  more_descriptions d (Content.Requests x) cs = refl
  more_descriptions d (Content.Updates x) cs = refl
  more_descriptions d (Content.Acknowledges x) cs = refl

  more_requests : (d : Drafted) (c : Content) (cs : List Content)
      → (adds delay d c).requests ++ filter_map requests cs ≡ d.requests
      ++ filter_map requests (c ∷ cs)
  more_requests d (Content.SendsHello x) cs = refl
  more_requests d (Content.Describes x) cs = refl
  more_requests d (Content.Requests keys) cs =
      append_assoc d.requests (keys ∷ []) (filter_map requests cs)
  more_requests d (Content.Updates x) cs = refl
  more_requests d (Content.Acknowledges x) cs = refl

  more_updates : (d : Drafted) (c : Content) (cs : List Content)
      → (adds delay d c).updates ++ map (drafts.update_of delay) (filter_map updates cs) ≡ d.updates
      ++ map (drafts.update_of delay) (filter_map updates (c ∷ cs))
  more_updates d (Content.SendsHello x) cs = refl
  more_updates d (Content.Describes x) cs = refl
  more_updates d (Content.Requests x) cs = refl
  more_updates d (Content.Updates lsa) cs =
      append_assoc d.updates (drafts.update_of delay lsa ∷ [])
      (map (drafts.update_of delay) (filter_map updates cs))
  more_updates d (Content.Acknowledges x) cs = refl

  more_acknowledgments : (d : Drafted) (c : Content) (cs : List Content)
      → (adds delay d c).acknowledgments ++ filter_map acknowledgments cs ≡ d.acknowledgments
      ++ filter_map acknowledgments (c ∷ cs)
  more_acknowledgments d (Content.SendsHello x) cs = refl
  more_acknowledgments d (Content.Describes x) cs = refl
  more_acknowledgments d (Content.Requests x) cs = refl
  more_acknowledgments d (Content.Updates x) cs = refl
  more_acknowledgments d (Content.Acknowledges h) cs =
      append_assoc d.acknowledgments (h ∷ []) (filter_map acknowledgments cs)

-- ---- sorted, and then mapped

module _ {X Y : Type 0} (f : X → Y) (key : Y → Key) where
  put_map : (x : X) (xs : List X) → insert_by_key key (f x) (map f xs)
      ≡ map f (insert_by_key (λ y. key (f y)) x xs)
  put_map x [] = refl
  put_map x (y ∷ ys) = by_test (is_after (key (f x)) (key (f y))) (put_map x ys)
    where
      by_test : (b : Bool) → insert_by_key key (f x) (map f ys)
          ≡ map f (insert_by_key (λ z. key (f z)) x ys)
          → cond b (f y ∷ insert_by_key key (f x) (map f ys)) (f x ∷ (f y ∷ map f ys))
          ≡ map f (cond b (y ∷ insert_by_key (λ z. key (f z)) x ys) (x ∷ (y ∷ ys)))
      by_test true rest = ap (λ zs. f y ∷ zs) rest
      by_test false rest = refl

  order_map : (xs : List X) → in_key_order key (map f xs) ≡ map f (in_key_order (λ y. key (f y)) xs)
  order_map [] = refl
  order_map (x ∷ xs) = ap (λ zs. insert_by_key key (f x) zs) (order_map xs)
      ∙ put_map x (in_key_order (λ y. key (f y)) xs)

map_twice : {X Y Z : Type 0} (g : Y → Z) (f : X → Y) (xs : List X)
    → map g (map f xs) ≡ map (λ x. g (f x)) xs
map_twice g f [] = refl
map_twice g f (x ∷ xs) = ap (λ zs. g (f x) ∷ zs) (map_twice g f xs)

-- ---- Link State Updates

-- the sizes of an LSA that fits
abbrev pub IsSized : Lsa → Type 0
IsSized lsa = (length (lsa_text.text lsa) ≡ lsa_size lsa) × (28 + lsa_size lsa ≤ 8192)

abbrev pub sent_text : ℕ → Lsa → List ℕ
sent_text delay lsa = lsa_text.text (sent_lsa delay lsa)

pub sent_size : (delay : ℕ) (lsa : Lsa) → IsSized lsa
    → text_size (sent_text delay lsa) ≡ lsa_size lsa
sent_size delay lsa is =
    length-append (header_text (sent_lsa delay lsa).header) (lsa_text.body_text lsa.body)
    ∙ sym (length-append (header_text lsa.header) (lsa_text.body_text lsa.body)) ∙ is.0

pub updates_sized : (cs : List Content) → AllByRecursion HasRoom cs
    → AllByRecursion IsSized (filter_map updates cs)
updates_sized [] room = tt
updates_sized (Content.SendsHello x ∷ cs) room = updates_sized cs room.1
updates_sized (Content.Describes x ∷ cs) room = updates_sized cs room.1
updates_sized (Content.Requests x ∷ cs) room = updates_sized cs room.1
updates_sized (Content.Updates lsa ∷ cs) room = (room.0, updates_sized cs room.1)
updates_sized (Content.Acknowledges x ∷ cs) room = updates_sized cs room.1

all_sized : (delay : ℕ) (lsas : List Lsa) → AllByRecursion IsSized lsas
    → AllByRecursion (λ l. text_size (sent_text delay l) ≡ lsa_size l) lsas
all_sized delay [] is = tt
all_sized delay (l ∷ ls) is = (sent_size delay l is.0, all_sized delay ls is.1)

updates_packed : (delay : ℕ) (lsas : List Lsa) → AllByRecursion IsSized lsas
    → update_bodies (map (drafts.update_of delay) lsas)
    ≡ map (update_of delay) (packed_groups lsa_size 28 (in_key_order lsa_key lsas))
updates_packed delay lsas sized =
    let sorted : List Lsa = in_key_order lsa_key lsas in
    let same_texts : texts (in_key_order update_key (map (drafts.update_of delay) lsas))
    ≡ map (sent_text delay) sorted =
    ap texts (order_map (drafts.update_of delay) update_key lsas)
    ∙ map_twice (λ (u : Update). u.text) (drafts.update_of delay) sorted in
    let all : AllByRecursion IsSized sorted = order_all lsa_key IsSized lsas sized in
    ap (λ ts. map body.Update (packed_groups text_size 28 ts)) same_texts
    ∙ ap (λ ps. map body.Update ps) (packed_map (sent_text delay) lsa_size text_size 28 sorted
    (all_sized delay sorted all))
    ∙ map_twice body.Update (λ p. map (sent_text delay) p) (packed_groups lsa_size 28 sorted)

-- ---- the complete draft

drafted_are : (delay : ℕ) (cs : List Content) → AllByRecursion HasRoom cs
    → drafted_bodies (drafting delay cs nothing_drafted) ≡ bodies delay cs
unfolding drafting
drafted_are delay cs room =
    let one = has_all delay (λ d. map body.Hello d.hellos) (filter_map hellos) (more_hellos delay)
    refl cs nothing_drafted in
    let two = has_all delay (λ d. map body.Description d.descriptions) (filter_map descriptions)
    (more_descriptions delay) refl cs nothing_drafted in
    let three = has_all delay (λ d. d.requests) (filter_map requests) (more_requests delay) refl cs
    nothing_drafted in
    let four = has_all delay (λ d. d.updates)
    (λ xs. map (drafts.update_of delay) (filter_map updates xs)) (more_updates delay) refl cs
    nothing_drafted in
    let five = has_all delay (λ d. d.acknowledgments) (filter_map acknowledgments)
    (more_acknowledgments delay) refl cs nothing_drafted in
    let told = ap update_bodies four ∙ updates_packed delay (filter_map updates cs)
    (updates_sized cs room) in
    λ i.
    one i ++ two i ++ map body.Request (in_key_order first_key (three i)) ++ told i
    ++ map body.Acknowledgment (packed_groups header_size 24 (in_key_order key_of (five i)))

pub draft_says : (number : ℕ) (link : Link) (sends : List Send) (d : Drafted)
    → IsDraftAt number link sends d → drafted_bodies d
    ≡ bodies link.interface.delay (filter_map (at_interface number) sends)
draft_says number link sends d is =
    ap drafted_bodies is.drafted ∙ drafted_are link.interface.delay
    (filter_map (at_interface number) sends) (there number sends is.room)

-- the bytes of each fit into a Link State Update
texts_room : (delay : ℕ) (lsas : List Lsa) → AllByRecursion IsSized lsas
    → AllByRecursion IsShort (map (drafts.update_of delay) lsas)
texts_room delay [] is = tt
texts_room delay (l ∷ ls) is = (
  subst (λ n. 28 + n ≤ 8192) (sym (sent_size delay l is.0)) is.0.1,
  texts_room delay ls is.1,
)

pub draft_room : (number : ℕ) (link : Link) (sends : List Send) (d : Drafted)
    → IsDraftAt number link sends d → AllByRecursion IsShort d.updates
unfolding drafting
draft_room number link sends d is =
    let cs : List Content = filter_map (at_interface number) sends in
    let delay : ℕ = link.interface.delay in
    let has = has_all delay (λ e. e.updates)
    (λ xs. map (drafts.update_of delay) (filter_map updates xs)) (more_updates delay) refl cs
    nothing_drafted in
    subst (λ us. AllByRecursion IsShort us) (sym (ap (λ (e : Drafted). e.updates) is.drafted ∙ has))
    (texts_room delay (filter_map updates cs) (updates_sized cs (there number sends is.room)))

pub draft_bodies_room : (number : ℕ) (link : Link) (sends : List Send) (d : Drafted)
    → IsDraftAt number link sends d → AllByRecursion HasPacketRoom (drafted_bodies d)
draft_bodies_room number link sends d is =
    subst (λ bs. AllByRecursion HasPacketRoom bs) (sym (draft_says number link sends d is))
    (ordered_and_packed.bodies link.interface.delay (filter_map (at_interface number) sends)
    (there number sends is.room))

-- ---- encodings

texts_short : (us : List Update) → AllByRecursion IsShort us
    → AllByRecursion (λ t. 28 + text_size t ≤ 8192) (texts us)
texts_short [] short = tt
texts_short (u ∷ us) short = (short.0, texts_short us short.1)

pub sorted_texts_short : (us : List Update) → AllByRecursion IsShort us
    → AllByRecursion (λ t. 28 + text_size t ≤ 8192) (texts (in_key_order update_key us))
sorted_texts_short us short = texts_short (in_key_order update_key us)
    (order_all update_key IsShort us short)
