-- Ways depend on LSAs of types 1 and 2 alone.
use Rattle.std.proofs.Common.{◌≡◌, ℕ, ◌≤◌, List, [], ◌∷◌, arith, sym, ◌∙◌}
use Rattle.words.specs.declared.key.Key.{Key}
use Rattle.lsa.specs.declared.body.RouterLink.{RouterLink}
use Rattle.lsa.specs.declared.body.LinkKind.{LinkKind}
use Rattle.routes.specs.Laws.{WaysRestOnLinks}
use Rattle.routes.specs.Links.{Counts, HasLink, Leads, LeadsTo, LinksBack, ListsRouter, network_key}
use Rattle.routes.specs.Links.{router_key}
use Rattle.routes.specs.Paths.{IsLeastWalk, IsWalk, IsWay, Step, Way}
use Rattle.routes.specs.Contents.{Contents}
use Rattle.routes.specs.declared.node.Node.{Node}
use Rattle.routes.specs.declared.node.Node.TheVariants.{ANetwork, ARouter}
use Rattle.routes.specs.declared.root.Root.{Root}

-- ---- links

module _ (old new : Contents) (same : (key : Key) → key.ls_type ≤ 2 → old key ≡ new key)
    (root : Root)
  where
    has_link : (router : ℕ) (link : RouterLink) → HasLink old router link → HasLink new router link
    has_link router link h = record {
      lsa = h.lsa;
      its = sym (same (router_key router) (omega arith)) ∙ h.its;
      among = h.among;
    }

    lists : (id by router : ℕ) → ListsRouter old id by router → ListsRouter new id by router
    lists id by router l = record {
      lsa = l.lsa;
      its = sym (same (network_key id by) (omega arith)) ∙ l.its;
      among = l.among;
    }

    counts : (router : ℕ) (kind : LinkKind) (id price exit : ℕ)
        → Counts old root router kind id price exit → Counts new root router kind id price exit
    counts router kind id price exit c = record {
      link = c.link;
      its = has_link router c.link c.its;
      is_kind = c.is_kind;
      is_id = c.is_id;
      costs = c.costs;
      not_free = c.not_free;
      by_interface = c.by_interface;
      elsewhere = c.elsewhere;
    }

    back : (router : ℕ) (kind : LinkKind) (id : ℕ) → LinksBack old router kind id
        → LinksBack new router kind id
    back router kind id l = (l.0, has_link router l.0 l.1, l.2, l.3)

    pub leads : (v w : Node) (price exit : ℕ) → LeadsTo old root v w price exit
        → LeadsTo new root v w price exit
    leads (ARouter a) (ARouter b) price exit l = (counts a _ b price exit l.0, back b _ a l.1)
    leads (ARouter a) (ANetwork id by) price exit l =
        (counts a _ id price exit l.0, lists id by a l.1)
    leads (ANetwork id by) (ARouter b) price exit l = (lists id by b l.0, back b _ id l.1, l.2, l.3)
    leads (ANetwork id by) (ANetwork other its) price exit l = absurd l

-- ---- ways over the same links

module _ {V : Type 0} (P Q : V → Step V → Type 0) (forth : (v : V) (s : Step V) → P v s → Q v s)
    (back : (v : V) (s : Step V) → Q v s → P v s) where
  over : (v : V) (walk : List (Step V)) (w : V) → IsWalk P v walk w → IsWalk Q v walk w
  over v [] w p = p
  over v (s ∷ walk) w p = (forth v s p.0, over s.target walk w p.1)

  under : (v : V) (walk : List (Step V)) (w : V) → IsWalk Q v walk w → IsWalk P v walk w
  under v [] w p = p
  under v (s ∷ walk) w p = (back v s p.0, under s.target walk w p.1)

  least_over : (v : V) (walk : List (Step V)) (w : V) → IsLeastWalk P v walk w
      → IsLeastWalk Q v walk w
  least_over v walk w l = record {
    is_walk = over v walk w l.is_walk;
    least = λ other p. l.least other (under v other w p);
  }

  least_under : (v : V) (walk : List (Step V)) (w : V) → IsLeastWalk Q v walk w
      → IsLeastWalk P v walk w
  least_under v walk w l = record {
    is_walk = under v walk w l.is_walk;
    least = λ other p. l.least other (over v other w p);
  }

  pub way_over : (v w : V) (way : Way) → IsWay P v w way → IsWay Q v w way
  way_over v w way is = record {
    distance = (is.distance.0, least_over v is.distance.0 w is.distance.1, is.distance.2);
    hops = λ i. (
      (λ t. let h = (is.hops i).0 t in (h.0, h.1, least_over v (h.0 ∷ h.1) w h.2, h.3)),
      (λ h. (is.hops i).1 (h.0, h.1, least_under v (h.0 ∷ h.1) w h.2, h.3)),
    );
  }

pub carried : WaysRestOnLinks
carried old new root same from to way is =
    way_over (Leads old root) (Leads new root)
    (λ v s l. leads old new same root v s.target s.cost s.exit l)
    (λ v s l. leads new old (λ key low. sym (same key low)) root v s.target s.cost s.exit l)
    from to way is
