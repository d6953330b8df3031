use Rattle.std.proofs.Common.{◌≡◌, ℕ, List, Option, None, Some, refl, subst, arith}
use Rattle.routes.specs.declared.graph.VertexLink.{VertexLink}
use Rattle.candidates.specs.Graphs.{Adds, OfEach}
use Rattle.candidates.specs.Links.{IsToListed}
use Rattle.candidates.specs.declared.entry.EntryKind.TheVariants.{Transit}
use Rattle.candidates.proofs.Lists.{each_all, each_more, each_none}
use Rattle.candidates.proofs.Steps.{not_listed, pushed_fits, same_neighbor, to_listed}
use Rattle.candidates.proofs.links.add_listed.Goals as goal
use Rattle.candidates.proofs.links.add_listed.Goals.{in-Some+in_ok-push, in_default}

pub loop-router-init : goal.loop-router-init
loop-router-init c = record {
  adds = each_none (IsToListed c.args.area.now.nodes.now c.args.area.now.entries.now c.args.id)
      c.as_slice-router-items.result.now c.args.links.now.items;
  fits = λ all. all;
}

pub loop-router-preserved : goal.loop-router-preserved
loop-router-preserved c =
    let nodes = c.args.area.now.nodes.now in
    let entries = c.args.area.now.entries.now in
    let router = c.router-item.result in
    let Q : ℕ → VertexLink → Type 0 = IsToListed nodes entries c.args.id in
    let items = c.as_slice-router-items.result.now in
    let i = c.loop-router.router-index in
    let first = c.args.links.now.items in
    let old = c.loop-router.links.items in
    let is = λ (o : Option ℕ) (e : c.index_if_linking_back.result ≡ o). same_neighbor nodes entries
    Transit
    router router c.number.result c.args.id c.index_if_linking_back.result o refl c.number.ensures e
    c.index_if_linking_back.ensures in
    record {
      adds = elim c.match-index_if_linking_back.branch [
        | in-Some+in_ok-push w ↦
            rw (w.links-is, w.in_ok-push.ensures.items)
            (each_more Q items i router first old _ c.loop-router-test.true c.router-item.is
            c.loop-router.invariant.adds
            (to_listed nodes entries c.args.id router w.in-Some.to old c.requires.ascend
            (is (Some w.in-Some.to) w.in-Some.is)))
        | in_default w ↦
            rw w.links-is
            (each_more Q items i router first old old c.loop-router-test.true c.router-item.is
            c.loop-router.invariant.adds
            (not_listed nodes entries c.args.id router old (is None w.in_default.is)))
      ];
      fits = elim c.match-index_if_linking_back.branch [
        | in-Some+in_ok-push w ↦ rw (w.links-is, w.in_ok-push.ensures.items)
            (λ all. pushed_fits old (record {
              to = w.in-Some.to;
              cost = 0;
              interface = 0;
            }) (omega arith) (c.loop-router.invariant.fits all))
        | in_default w ↦ rw w.links-is c.loop-router.invariant.fits
      ];
    }

pub returns-clause-adds : goal.returns-clause-adds
returns-clause-adds c =
    let Q : ℕ → VertexLink → Type 0 =
    IsToListed c.args.area.now.nodes.now c.args.area.now.entries.now
    c.args.id in
    let P : List ℕ → Type 0 = λ routers. Adds (OfEach Q routers) c.args.links.now.items
    c.loop-router.links.items in
    subst P c.as_slice-router-items.ensures
    (each_all Q c.as_slice-router-items.result.now c.loop-router.router-index
    c.args.links.now.items c.loop-router.links.items c.loop-router-test.false
    c.loop-router.invariant.adds)
