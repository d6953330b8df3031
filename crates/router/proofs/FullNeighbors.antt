-- The router-LSA, by which neighbors are Full.
use Rattle.std.proofs.Common.{◌≡◌, ◌≤◌, ◌<◌, ℕ, ◌+◌, Bool, true, false, cond, not, List, [], ◌∷◌}
use Rattle.std.proofs.Common.{◌++◌, map, length, get_or, drop, take, Option, None, Some, refl, sym}
use Rattle.std.proofs.Common.{ap, ◌∙◌, arith, append_assoc}
use Rattle.std.specs.List.{flat_map}
use Rattle.std.specs.Cmp.Lexicographic.{slice_cmp}
use Rattle.std.specs.Ordering.{is_eq, nat_cmp}
use Rattle.std.proofs.lemmas.Map.Text.{is_eq-slice_cmp}
use Rattle.std.proofs.lemmas.Slice.Eq.{bytes_eq-Decides}
use Rattle.std.specs.FinMap as finite
use Rattle.std.proofs.lemmas.List.{get_or-map, length-map, take_all, take_more}
use Rattle.lsa.specs.Ranges.{BodyFits}
use Rattle.lsa.specs.Origination.{sealed_lsa}
use Rattle.lsa.specs.Text.{Parts, body_text}
use Rattle.lsa.specs.declared.body.LsaBody.{LsaBody}
use Rattle.lsa.specs.declared.body.LsaBody.TheVariants as body
use Rattle.lsa.specs.declared.body.LinkKind.TheVariants.{PointToPoint}
use Rattle.lsa.specs.declared.body.RouterLink.{RouterLink}
use Rattle.area.specs.Kept.{KeptLink}
use Rattle.adjacency.specs.Drafts.{nothing_drafted}
use Rattle.adjacency.specs.Neighbors.{Neighbor, fresh, is_full}
use Rattle.adjacency.specs.declared.interface.Interface.{Interface}
use Rattle.adjacency.specs.declared.state.NeighborState.TheVariants.{Full}
use Rattle.received.specs.Links.{Link}
use Rattle.event_rules.specs.Endings.{links_differ, same_body}
use Rattle.event_rules.specs.Originations.{links_of, point_to_point, router_body, stub}
use Rattle.area.specs.Links.{present}
use Rattle.area.proofs.Updates.{drop_end, drop_next}
use Rattle.router.specs.Described.{interface_links, described_body, described_links}
use Rattle.router.specs.Described.{full_router_on, full_routers, interfaces}
use Rattle.router.proofs.Links.{router_fits, router_size}

-- ---- the links of all interfaces

abbrev body_of : List RouterLink → LsaBody
body_of rs = body.Router (record { flags = 2; links = rs })

one_described : (l : Link) → interface_links l.interface (full_router_on l.neighbor) ≡ links_of l
one_described l = by_neighbor l.neighbor
  where
    by_neighbor : (o : Option Neighbor)
        → interface_links l.interface (full_router_on o) ≡ point_to_point l.interface o
        ++ stub l.interface ∷ []
    by_neighbor None = refl
    by_neighbor (Some n) = by_state (is_full n.state)
      where
        by_state : (b : Bool) → interface_links l.interface (cond b (Some n.router) None)
            ≡ cond b (record {
              link_id = n.router;
              link_data = l.interface.address;
              kind = PointToPoint;
              metric = l.interface.cost;
              tos = [];
            } ∷ []) [] ++ stub l.interface ∷ []
        by_state true = refl
        by_state false = refl

pub described_all : (ls : List Link)
    → described_links (interfaces ls) (full_routers ls) ≡ flat_map links_of ls
described_all [] = refl
described_all (l ∷ ls) = λ i. one_described l i ++ described_all ls i

pub body_now : (ls : List Link) → described_body (interfaces ls) (full_routers ls) ≡ router_body ls
body_now ls = ap body_of (described_all ls)

pub body_then : (old : List Link) (is : List Interface) (fs : List (Option ℕ)) → interfaces old ≡ is
    → full_routers old ≡ fs → described_body is fs ≡ router_body old
body_then old is fs same full = (λ i. described_body (sym same i) (sym full i)) ∙ body_now old

-- ---- the links fit

abbrev full_neighbor : Option ℕ → Option Neighbor
full_neighbor None = None
full_neighbor (Some router) = Some (record (fresh router None 0) { state = Full })

abbrev link_with : Interface → Option ℕ → Link
link_with i f = record {
  interface = i;
  neighbor = full_neighbor f;
  acknowledgments = finite.empty;
  last_hello_sent = None;
}

abbrev links_with : List Interface → List (Option ℕ) → List KeptLink
links_with [] fs = []
links_with (i ∷ is) [] = []
links_with (i ∷ is) (f ∷ fs) = record {
  present = link_with i f;
  committed = link_with i f;
  drafted = nothing_drafted;
} ∷ links_with is fs

one_with : (i : Interface) (f : Option ℕ) → interface_links i f ≡ links_of (link_with i f)
one_with i None = refl
one_with i (Some router) = refl

all_with : (is : List Interface) (fs : List (Option ℕ))
    → described_links is fs ≡ flat_map links_of (map present (links_with is fs))
all_with [] fs = refl
all_with (i ∷ is) [] = refl
all_with (i ∷ is) (f ∷ fs) = λ k. one_with i f k ++ all_with is fs k

few_with : (is : List Interface) (fs : List (Option ℕ)) → length (links_with is fs) ≤ length is
few_with [] fs = omega arith
few_with (i ∷ is) [] = omega arith
few_with (i ∷ is) (f ∷ fs) = omega (arith, few_with is fs)

says_with : (is : List Interface) (fs : List (Option ℕ))
    → described_body is fs ≡ router_body (map present (links_with is fs))
says_with is fs = ap body_of (all_with is fs)

pub described_fits : (is : List Interface) (fs : List (Option ℕ)) (says : LsaBody)
    → says ≡ described_body is fs → length is ≤ 63 → BodyFits says
described_fits is fs says are few =
    router_fits (links_with is fs) says (are ∙ says_with is fs) (omega (arith, few_with is fs, few))

pub described_size : (is : List Interface) (fs : List (Option ℕ)) (says : LsaBody)
    → says ≡ described_body is fs → length is ≤ 63 → length (body_text says) ≤ 65515
described_size is fs says are few =
    router_size (links_with is fs) says (are ∙ says_with is fs) (omega (arith, few_with is fs, few))

-- ---- one interface after another

pub described_next : (is : List Interface) (fs : List (Option ℕ)) (n : ℕ) (i : Interface)
    (f : Option ℕ) (said longer whole : List RouterLink) → n < length is → length fs ≡ length is
    → i ≡ get_or is n i → f ≡ get_or fs n f → longer ≡ said ++ interface_links i f
    → said ++ described_links (drop n is) (drop n fs) ≡ whole
    → longer ++ described_links (drop (n + 1) is) (drop (n + 1) fs) ≡ whole
described_next is fs n i f said longer whole lt same here full put so_far =
    ap (λ ls. ls ++ described_links (drop (n + 1) is) (drop (n + 1) fs)) put
    ∙ append_assoc said (interface_links i f) (described_links (drop (n + 1) is) (drop (n + 1) fs))
    ∙ ap (λ ls. said ++ ls) (λ k. interface_links (here k) (full k)
    ++ described_links (drop (n + 1) is) (drop (n + 1) fs))
    ∙ ap (λ ls. said ++ ls) (sym (λ k. described_links (drop_next n is i lt k)
    (drop_next n fs f (omega (arith, lt, same)) k)))
    ∙ so_far

append_nothing : {A : Type 0} (xs : List A) → xs ++ [] ≡ xs
append_nothing [] = refl
append_nothing (x ∷ xs) = ap (λ zs. x ∷ zs) (append_nothing xs)

pub described_end : (is : List Interface) (fs : List (Option ℕ)) (n : ℕ)
    (said whole : List RouterLink) → length is ≤ n
    → said ++ described_links (drop n is) (drop n fs) ≡ whole → said ≡ whole
described_end is fs n said whole end so_far =
    sym (append_nothing said) ∙ ap (λ js. said ++ described_links js (drop n fs))
    (sym (drop_end n is end)) ∙ so_far

-- ---- what the code reads at an index

pub interface_here : (links : List KeptLink) (i : ℕ) (link : KeptLink) (x : Interface)
    → i < length links → x ≡ link.present.interface → link ≡ get_or links i link
    → x ≡ get_or (interfaces (map present links)) i x
interface_here links i link x lt is read =
    is
    ∙ ap (λ (k : KeptLink). k.present.interface) read
    ∙ ap (λ (l : Link). l.interface) (sym (get_or-map present links i link link.present lt))
    ∙ sym (get_or-map (λ (l : Link). l.interface) (map present links) i link.present x
    (omega (arith, lt, length-map links present)))

pub count_of : (links : List KeptLink) → length (interfaces (map present links)) ≡ length links
count_of links = length-map (map present links) (λ (l : Link). l.interface)
    ∙ length-map links present

pub sealed_body : (lsa : Parts) → (sealed_lsa lsa).body ≡ lsa.body
unfolding sealed_lsa
sealed_body lsa = refl

-- ---- lists that are compared item by item

pub same_so_far : {A : Type 0} (xs ys : List A) (i : ℕ) (x y : A) → i < length xs
    → length xs ≡ length ys → x ≡ get_or xs i x → y ≡ get_or ys i y → x ≡ y → take i xs ≡ take i ys
    → take (i + 1) xs ≡ take (i + 1) ys
same_so_far xs ys i x y lt all here there same so_far =
    take_more xs i x lt ∙ (λ k. so_far k ++ (sym here ∙ same ∙ there) k ∷ [])
    ∙ sym (take_more ys i y (omega (arith, lt, all)))

pub same_all : {A : Type 0} (xs ys : List A) (i : ℕ) → length xs ≤ i → length xs ≡ length ys
    → take i xs ≡ take i ys → xs ≡ ys
same_all xs ys i end all so_far = sym (take_all i xs end) ∙ so_far
    ∙ take_all i ys (omega (arith, end, all))

-- ---- whether the body has changed

text_itself : (xs : List ℕ) → is_eq (slice_cmp nat_cmp xs xs) ≡ true
text_itself xs = is_eq-slice_cmp xs xs ∙ (bytes_eq-Decides xs xs).1 refl

-- links with the same Full neighbors have the same body
pub none_differ : (old ls : List Link) → interfaces old ≡ interfaces ls
    → full_routers old ≡ full_routers ls → false ≡ links_differ old ls
none_differ old ls same full =
    let says : router_body old ≡ router_body ls =
    sym (body_then old (interfaces ls) (full_routers ls) same full) ∙ body_now ls in
    sym (ap not (ap (λ b. same_body b (router_body ls)) says
    ∙ text_itself (body_text (router_body ls))))

pub differ_by_texts : (old ls : List Link) (before : List (Option ℕ)) (a b : LsaBody) (same : Bool)
    → interfaces old ≡ interfaces ls → full_routers old ≡ before
    → a ≡ described_body (interfaces ls) before
    → b ≡ described_body (interfaces ls) (full_routers ls) → same ≡ same_body a b
    → not same ≡ links_differ old ls
differ_by_texts old ls before a b same alike full left right is =
    ap not (is ∙ (λ i. same_body ((left ∙ body_then old (interfaces ls) before alike full) i)
    ((right ∙ body_now ls) i)))
