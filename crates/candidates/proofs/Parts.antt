-- The links that are added for a node are those of the graph from it.
use Rattle.std.proofs.Common.{◌≡◌, ℕ, inl, inr, List, [], None, Some, refl, sym, ◌∙◌, ap, subst}
use Rattle.std.proofs.Common.{arith}
use Rattle.std.proofs.lemmas.Bool.{cases_eq}
use Rattle.std.proofs.lemmas.Option.{none-some, same_Some}
use Rattle.std.specs.List.{Contains}
use Rattle.lsa.specs.declared.body.LinkKind.{LinkKind}
use Rattle.lsa.specs.declared.body.LinkKind.TheVariants as kinds
use Rattle.lsa.specs.declared.body.NetworkLsa.{NetworkLsa}
use Rattle.lsa.specs.declared.body.RouterLsa.{RouterLsa}
use Rattle.routes.specs.Links.{Counts, IsNetworkLsa, IsRouterLsa, LeadsTo, ListsRouter}
use Rattle.routes.specs.Contents.{Contents}
use Rattle.routes.specs.declared.graph.VertexLink.{VertexLink}
use Rattle.routes.specs.declared.node.Node.{Node}
use Rattle.routes.specs.declared.node.Node.TheVariants.{ANetwork, ARouter}
use Rattle.routes.specs.declared.root.Root.{Root}
use Rattle.routes.proofs.Lists.{of_empty}
use Rattle.candidates.specs.Entries.{AreEntries, HasEntry, IsAdvertisedAs, attached_entry}
use Rattle.candidates.specs.Graphs.{Adds, AreLinksFrom, IsLinkFrom, IsNoDearer, OfEach, StandsAt}
use Rattle.candidates.specs.Links.{IsCheapest, IsOwnTransit, IsToListed, IsToNetwork, IsToRouter}
use Rattle.candidates.specs.Links.{IsToSomeNetwork}
use Rattle.candidates.specs.Nodes.{HasLsa, network_in, network_lsa, router_in, router_lsa}
use Rattle.candidates.specs.declared.entry.AdvertisedLink.{AdvertisedLink}
use Rattle.candidates.specs.declared.entry.EntryKind.{EntryKind}
use Rattle.candidates.specs.declared.entry.EntryKind.TheVariants.{PointToPoint, Transit}
use Rattle.candidates.proofs.KeyNodes.{network_said, router_said}
use Rattle.candidates.proofs.Leads.{near_end}
use Rattle.candidates.proofs.Least.{least_exists}
use Rattle.candidates.proofs.GraphTold.{back_point, back_transit, of_transit, point_back, transit_back}
use Rattle.candidates.proofs.GraphTold.{transit_of}

no_dearer : (link : VertexLink) → IsNoDearer link link
no_dearer link = record { same_end = refl; same_exit = refl; costs = omega arith }

module _ (contents : Contents) (root : Root) (nodes : List Node) where
  -- a node without an LSA has no links
  pub no_links : (from : Node) → (HasLsa contents from → ⊥) → (links : List VertexLink) → links ≡ []
      → AreLinksFrom contents root nodes from links
  no_links from never links none =
      let P : List VertexLink → Type 0 = λ ls. AreLinksFrom contents root nodes from ls in
      subst P (sym none) (record {
        only = λ x among. absurd (of_empty x among);
        each = λ x f. absurd (never (near_end contents root from f.target x.cost x.interface
            f.leads));
      })

  pub no_router : (router : ℕ) (links : List VertexLink) → router_lsa contents router ≡ None
      → links ≡ [] → AreLinksFrom contents root nodes (ARouter router) links
  no_router router links is none = no_links (ARouter router)
      (λ has. none-some has.0 (sym is ∙ ap router_in has.1)) links none

  pub no_network : (id by : ℕ) (links : List VertexLink) → network_lsa contents id by ≡ None
      → links ≡ [] → AreLinksFrom contents root nodes (ANetwork id by) links
  no_network id by links is none = no_links (ANetwork id by)
      (λ has. none-some has.0 (sym is ∙ ap network_in has.1)) links none

module _ (contents : Contents) (root : Root) (nodes : List Node) (entries : List AdvertisedLink)
    (advertised : AreEntries contents nodes entries) where
  -- ---- from a router

  module _ (router : ℕ) (lsa : RouterLsa) (is : router_lsa contents router ≡ Some lsa) where
    its : IsRouterLsa contents router lsa
    its = router_said _ lsa is

    to_router : (x : VertexLink) → OfEach (IsToRouter root nodes entries router) lsa.links x
        → IsLinkFrom contents root nodes (ARouter router) x
    to_router x o =
        let t = o.2 in
        let counts : Counts contents root router kinds.PointToPoint o.0.link_id x.cost x.interface =
        record {
          link = o.0;
          its = record { lsa = lsa; its = its; among = o.1 };
          is_kind = t.is_kind;
          is_id = refl;
          costs = sym t.leads.1;
          not_free = omega (arith, t.leads.1, t.counts);
          by_interface = t.leads.2.by_interface;
          elsewhere = t.leads.2.elsewhere;
        } in
        record {
          target = ARouter o.0.link_id;
          stands = t.stands;
          leads = (counts, point_back contents nodes entries advertised o.0.link_id router t.back);
        }

    module _ (x : VertexLink) (s : IsToSomeNetwork root entries router lsa.links x) (by : ℕ)
        (stands : StandsAt nodes (ANetwork s.entry.id by) s.entry.place)
        (lists : ListsRouter contents s.entry.id by router) where
      abbrev At : ℕ → Type 0
      At k = StandsAt nodes (ANetwork s.entry.id by) k

      own_network : router ≡ root.router → IsLinkFrom contents root nodes (ARouter router) x
      own_network own =
          let o = s.leads.own own in
          let t = o.2 in
          let counts : Counts contents root router kinds.Transit s.entry.id x.cost x.interface =
          record {
            link = o.0;
            its = record { lsa = lsa; its = its; among = o.1 };
            is_kind = t.is_kind;
            is_id = t.is_id;
            costs = sym t.leads.1;
            not_free = omega (arith, t.leads.1, t.counts);
            by_interface = λ _. t.leads.2;
            elsewhere = λ off. absurd (off own);
          } in
          record {
            target = ANetwork s.entry.id by;
            stands = subst At (sym t.leads.0) stands;
            leads = (counts, lists);
          }

      other_network : (router ≡ root.router → ⊥) → IsLinkFrom contents root nodes (ARouter router) x
      other_network off =
          let c = s.leads.other off in
          let h = transit_of contents nodes entries advertised router s.entry.id x.cost c.least.1 in
          let counts : Counts contents root router kinds.Transit s.entry.id x.cost x.interface =
          record {
            link = h.0;
            its = h.1;
            is_kind = h.2;
            is_id = h.3;
            costs = h.4;
            not_free = omega (arith, c.least.0);
            by_interface = λ own. absurd (off own);
            elsewhere = λ _. c.exit;
          } in
          record {
            target = ANetwork s.entry.id by;
            stands = subst At (sym c.same_end) stands;
            leads = (counts, lists);
          }

    to_network : (x : VertexLink) → IsToSomeNetwork root entries router lsa.links x
        → IsLinkFrom contents root nodes (ARouter router) x
    to_network x s =
        let K : EntryKind → Type 0 = λ k. IsAdvertisedAs contents nodes k s.entry in
        let listed = (subst K s.is_kind ((advertised.each s.entry).0 s.among)).0 in
        let R : ℕ → Type 0 = λ r. ListsRouter contents s.entry.id listed.0 r in
        let lists = subst R s.is_router listed.2 in
        elim (cases_eq router root.router) [
          | inl own ↦ own_network x s listed.0 listed.1 lists own
          | inr off ↦ other_network x s
              listed.0 listed.1 lists off
        ]

    module _ (middle links : List VertexLink)
        (a : Adds (OfEach (IsToRouter root nodes entries router) lsa.links) [] middle)
        (b : Adds (IsToSomeNetwork root entries router lsa.links) middle links) where
      abbrev Found : VertexLink → Type 0
      Found x = (other : VertexLink) × Contains links other × IsNoDearer x other

      -- the link of the LSA that it stands for
      among : (kind : LinkKind) (id : ℕ) (x : VertexLink)
          (c : Counts contents root router kind id x.cost x.interface) → Contains lsa.links c.link
      among kind id x c =
          let L : RouterLsa → Type 0 = λ l. Contains l.links c.link in
          subst L (same_Some c.its.lsa lsa (sym (ap router_in c.its.its) ∙ is)) c.its.among

      found_router : (x : VertexLink) (id : ℕ) → StandsAt nodes (ARouter id) x.to
          → LeadsTo contents root (ARouter router) (ARouter id) x.cost x.interface → Found x
      found_router x id stands l =
          let c = l.0 in
          let P : ℕ → Type 0 = λ r. StandsAt nodes (ARouter r) x.to in
          let Q : ℕ → Type 0 = λ r. HasEntry entries r PointToPoint router in
          let t : IsToRouter root nodes entries router c.link x = record {
            is_kind = c.is_kind;
            counts = omega (arith, c.costs, c.not_free);
            stands = subst P (sym c.is_id) stands;
            back = subst Q (sym c.is_id) (back_point contents nodes entries advertised id
                router l.1);
            leads = (
              refl,
              sym c.costs,
              record {
                by_interface = c.by_interface;
                elsewhere = c.elsewhere;
              },
            );
          } in (
            x,
            (b x).1 (inl ((a x).1 (inr (c.link, among kinds.PointToPoint id x c, t)))),
            no_dearer x,
          )

      module _ (x : VertexLink) (id by : ℕ) (stands : StandsAt nodes (ANetwork id by) x.to)
          (l : LeadsTo contents root (ARouter router) (ANetwork id by) x.cost x.interface) where
        listed : Contains entries (attached_entry id x.to router)
        listed = (advertised.each (attached_entry id x.to router)).1 ((by, stands, l.1), refl)

        found_own : router ≡ root.router → Found x
        found_own own =
            let c = l.0 in
            let t : IsOwnTransit root id x.to c.link x = record {
              is_kind = c.is_kind;
              is_id = c.is_id;
              counts = omega (arith, c.costs, c.not_free);
              leads = (refl, sym c.costs, c.by_interface own);
            } in
            let n : IsToNetwork root entries router lsa.links (attached_entry id x.to router) x =
            record {
              own = λ _. (c.link, among kinds.Transit id x c, t);
              other = λ off. absurd (off own);
            } in (
              x,
              (b x).1 (inr (record {
                entry = attached_entry id x.to router;
                among = listed;
                is_router = refl;
                is_kind = refl;
                leads = n;
              })),
              no_dearer x,
            )

        found_other : (router ≡ root.router → ⊥) → Found x
        found_other off =
            let c = l.0 in
            let has = of_transit contents nodes entries advertised router id x.cost
            (c.link, c.its, c.is_kind, c.is_id, c.costs) in
            let m = least_exists router Transit id 1 entries x.cost (omega (arith, c.not_free)) has
            in
            let y : VertexLink = record { to = x.to; cost = m.0; interface = 0 } in
            let cheap : IsCheapest entries router (attached_entry id x.to router) y = record {
              same_end = refl;
              least = m.1;
              exit = refl;
            } in
            let n : IsToNetwork root entries router lsa.links (attached_entry id x.to router) y =
            record { own = λ own. absurd (off own); other = λ _. cheap } in (
              y,
              (b y).1 (inr (record {
                entry = attached_entry id x.to router;
                among = listed;
                is_router = refl;
                is_kind = refl;
                leads = n;
              })),
              record { same_end = refl; same_exit = sym (c.elsewhere off); costs = m.2 },
            )

        found_network : Found x
        found_network = elim (cases_eq router root.router)
            [ inl own ↦ found_own own | inr off ↦ found_other off ]

      found : (x : VertexLink) (target : Node) → StandsAt nodes target x.to
          → LeadsTo contents root (ARouter router) target x.cost x.interface → Found x
      found x (ARouter id) stands l = found_router x id stands l
      found x (ANetwork id by) stands l = found_network x id by stands l

      pub router_links : AreLinksFrom contents root nodes (ARouter router) links
      router_links = record {
        only = λ x p. elim ((b x).0 p) [
          | inl m ↦ elim ((a x).0 m) [ inl none ↦ absurd (of_empty x none) | inr o ↦ to_router x o ]
          | inr s ↦ to_network x s
        ];
        each = λ x f. found x f.target f.stands f.leads;
      }

  -- ---- from a network

  module _ (id by : ℕ) (lsa : NetworkLsa) (is : network_lsa contents id by ≡ Some lsa)
      (links : List VertexLink) (a : Adds (OfEach (IsToListed nodes entries id) lsa.attached) []
      links)
    where
      listed_by : IsNetworkLsa contents id by lsa
      listed_by = network_said _ lsa is

      found_listed : (x : VertexLink) (target : Node) → StandsAt nodes target x.to
          → LeadsTo contents root (ANetwork id by) target x.cost x.interface
          → (other : VertexLink) × Contains links other × IsNoDearer x other
      found_listed x (ARouter router) stands l =
          let L : NetworkLsa → Type 0 = λ n. Contains n.attached router in
          let among = subst L (same_Some l.0.lsa lsa (sym (ap network_in l.0.its) ∙ is)) l.0.among
          in
          let t : IsToListed nodes entries id router x = record {
            stands = stands;
            back = back_transit contents nodes entries advertised router id l.1;
            free = l.2;
            exit = l.3;
          } in
          (x, (a x).1 (inr (router, among, t)), no_dearer x)
      found_listed x (ANetwork other whose) stands l = absurd l

      pub network_links : AreLinksFrom contents root nodes (ANetwork id by) links
      network_links = record {
        only = λ x p. elim ((a x).0 p) [
          | inl none ↦ absurd (of_empty x none)
          | inr o ↦ record {
            target = ARouter o.0;
            stands = o.2.stands;
            leads = (
              record {
                lsa = lsa;
                its = listed_by;
                among = o.1;
              },
              transit_back contents nodes entries advertised o.0 id o.2.back,
              o.2.free,
              o.2.exit,
            );
          }
        ];
        each = λ x f. found_listed x f.target f.stands f.leads;
      }
