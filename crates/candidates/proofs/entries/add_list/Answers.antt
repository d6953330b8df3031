use Rattle.std.proofs.Common.{◌≡◌, ℕ, List, sym, ◌∙◌, subst}
use Rattle.candidates.specs.Entries.{attached_entry}
use Rattle.candidates.specs.Graphs.{Adds, OfEach}
use Rattle.candidates.specs.declared.entry.AdvertisedLink.{AdvertisedLink}
use Rattle.candidates.proofs.Lists.{adds_one, each_all, each_more, each_none}
use Rattle.candidates.proofs.entries.add_list.Goals as goal

pub loop-router-init : goal.loop-router-init
loop-router-init c = each_none (λ (router : ℕ) (entry : AdvertisedLink). entry
    ≡ attached_entry c.args.id c.args.place router) c.as_slice-router-items.result.now
    c.args.entries.now.items

pub loop-router-preserved : goal.loop-router-preserved
loop-router-preserved c =
    let Q : ℕ → AdvertisedLink → Type 0 = λ router entry. entry
    ≡ attached_entry c.args.id c.args.place router in
    let router = c.router-item.result in
    let old = c.loop-router.entries.items in
    rw c.in_ok-push.ensures.items
    (each_more Q c.as_slice-router-items.result.now c.loop-router.router-index router
    c.args.entries.now.items old _ c.loop-router-test.true c.router-item.is
    c.loop-router.invariant
    (adds_one (Q router) old c.of_list.result c.of_list.ensures (λ x e. e ∙ sym c.of_list.ensures)))

pub returns : goal.returns
returns c =
    let Q : ℕ → AdvertisedLink → Type 0 = λ router entry. entry
    ≡ attached_entry c.args.id c.args.place router in
    let P : List ℕ → Type 0 = λ routers. Adds (OfEach Q routers) c.args.entries.now.items
    c.loop-router.entries.items in
    subst P c.as_slice-router-items.ensures
    (each_all Q c.as_slice-router-items.result.now c.loop-router.router-index
    c.args.entries.now.items c.loop-router.entries.items c.loop-router-test.false
    c.loop-router.invariant)
