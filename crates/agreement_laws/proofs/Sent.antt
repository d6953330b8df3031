-- A Database Description that is sent at an interface is in a packet of its own there.
use Rattle.std.proofs.Common.{◌≡◌, ℕ, zero, suc, ◌+◌, cond, ◌⊎◌, inl, inr, List, [], ◌∷◌, ◌++◌, map}
use Rattle.std.proofs.Common.{Option, None, Some, refl, sym, ap, subst, ◌∙◌, arith}
use Rattle.std.specs.Prelude.{slice_get}
use Rattle.std.specs.List.{Contains, cons_option, enumerate_from, filter_map, flat_map}
use Rattle.std.proofs.lemmas.Bool.{eq-eqb}
use Rattle.std.proofs.lemmas.List.Elements.{Contains-append_left, Contains-append_right}
use Rattle.lsdb.specs.Headers.{key_of, lsa_key}
use Rattle.packet.specs.declared.model.PacketBody.{PacketBody}
use Rattle.packet.specs.declared.model.PacketBody.TheVariants as body
use Rattle.packet.specs.declared.model.Description.{Description}
use Rattle.adjacency.specs.Contents.{Content}
use Rattle.received.specs.Links.{Link, link_at}
use Rattle.received.specs.AreaStates.{Send, at_interface}
use Rattle.event_rules.specs.Packing.{acknowledgments, bodies, descriptions}
use Rattle.event_rules.specs.Packing.{first_key}
use Rattle.event_rules.specs.Packing.{header_size, hellos, in_key_order, lsa_size, out_of, outs_at}
use Rattle.event_rules.specs.Packing.{outs_of, packed_groups, requests, update_of, updates}
use Rattle.invariants.proofs.Lists.{later_is, of_cons, of_empty}
use Rattle.invariants.proofs.Taken.{named_first}
use Rattle.invariants.proofs.Worlds.{mapped}

one_more : {Y : Type 0} (o : Option Y) (ys : List Y) (y : Y) → Contains ys y
    → Contains (cons_option o ys) y
one_more None ys y c = c
one_more (Some w) ys y c = later_is w ys y c

-- what is chosen from a list comes from one of its elements
filtered : {X Y : Type 0} (f : X → Option Y) (xs : List X) (x : X) (y : Y) → Contains xs x → f x
    ≡ Some y → Contains (filter_map f xs) y
filtered f [] x y c is = absurd (of_empty x c)
filtered {X} {Y} f (z ∷ zs) x y c is = by_place (λ k. filtered f zs x y k is) (of_cons z zs x c)
  where
    by_place : (Contains zs x → Contains (filter_map f zs) y) → (z ≡ x) ⊎ Contains zs x
        → Contains (cons_option (f z) (filter_map f zs)) y
    by_place rest (inl same) = subst (λ (o : Option Y). Contains (cons_option o (filter_map f zs))
        y) (sym (ap f same ∙ is)) (named_first y (filter_map f zs) y refl)
    by_place rest (inr k) = one_more (f z) (filter_map f zs) y (rest k)

module _ (d : Description) where
  among_bodies : (delay : ℕ) (contents : List Content) → Contains contents (Content.Describes d)
      → Contains (bodies delay contents) (body.Description d)
  among_bodies delay contents c =
      let hs : List PacketBody = filter_map hellos contents in
      let ds : List PacketBody = filter_map descriptions contents in
      let rs : List PacketBody = map body.Request
      (in_key_order first_key (filter_map requests contents))
      in
      let us : List PacketBody = map (update_of delay)
      (packed_groups lsa_size 28 (in_key_order lsa_key (filter_map updates contents))) in
      let acks : List PacketBody = map body.Acknowledgment
      (packed_groups header_size 24 (in_key_order key_of (filter_map acknowledgments contents)))
      in
      Contains-append_left (hs ++ ds ++ rs ++ us) acks (body.Description d)
      (Contains-append_left (hs ++ ds ++ rs) us (body.Description d)
      (Contains-append_left (hs ++ ds) rs (body.Description d)
      (Contains-append_right hs ds (body.Description d)
      (filtered descriptions contents (Content.Describes d) (body.Description d) c refl))))

  module _ (own : ℕ) (sends : List Send) where
    at_link : (number : ℕ) (link : Link) → Contains sends (record {
      interface = number;
      content = Content.Describes d;
    })
        → Contains (outs_at own sends number link) (out_of own number (body.Description d))
    at_link number link c =
        let contents : List Content = filter_map (at_interface number) sends in
        mapped (out_of own number) (bodies link.interface.delay contents) (body.Description d)
        (among_bodies link.interface.delay contents
        (filtered (at_interface number) sends (record {
          interface = number;
          content = Content.Describes d;
        }) (Content.Describes d) c
        (ap (λ b. cond b (Some (Content.Describes d)) None) (eq-eqb number number refl))))

    out_from : (k i : ℕ) (xs : List Link) (link : Link) → slice_get xs i ≡ Some link
        → Contains sends (record { interface = k + i; content = Content.Describes d })
        → Contains (flat_map (λ (e : ℕ × Link). outs_at own sends e.0 e.1) (enumerate_from k xs))
        (out_of own (k + i) (body.Description d))
    out_from k i [] link at c = absurd cc
    out_from k zero (x ∷ xs) link at c =
        let e : k + 0 ≡ k = omega arith in
        Contains-append_left (outs_at own sends k x) _ (out_of own (k + 0) (body.Description d))
        (subst (λ m. Contains (outs_at own sends k x) (out_of own m (body.Description d))) (sym e)
        (at_link k x (subst (λ m. Contains sends (record {
          interface = m;
          content = Content.Describes d;
        })) e c)))
    out_from k (suc i) (x ∷ xs) link at c =
        let e : k + suc i ≡ k + 1 + i = omega arith in
        Contains-append_right (outs_at own sends k x) _
        (out_of own (k + suc i) (body.Description d))
        (subst (λ m. Contains (flat_map (λ (g : ℕ × Link). outs_at own sends g.0 g.1)
        (enumerate_from (k + 1) xs)) (out_of own m (body.Description d))) (sym e)
        (out_from (k + 1) i xs link at (subst (λ m. Contains sends (record {
          interface = m;
          content = Content.Describes d;
        })) e c)))

    -- a Database Description that is sent at one of the interfaces is in a packet there
    pub goes_out : (number : ℕ) (links : List Link) (link : Link) → link_at number links ≡ Some link
        → Contains sends (record { interface = number; content = Content.Describes d })
        → Contains (outs_of own links sends) (out_of own number (body.Description d))
    goes_out zero links link at c = absurd cc
    goes_out (suc i) links link at c =
        let e : suc i ≡ 1 + i = omega arith in
        subst (λ m. Contains (outs_of own links sends) (out_of own m (body.Description d))) (sym e)
        (out_from 1 i links link at (subst (λ m. Contains sends (record {
          interface = m;
          content = Content.Describes d;
        })) e c))
