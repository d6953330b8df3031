use Rattle.std.proofs.Common.{◌≡◌, refl, sym, subst}
use Rattle.std.specs.List.{Contains}
use Rattle.candidates.specs.Graphs.{OfEach}
use Rattle.candidates.specs.declared.entry.AdvertisedLink.{AdvertisedLink}
use Rattle.candidates.proofs.Lists.{adds_one, adds_same, each_all, each_more, each_none}
use Rattle.candidates.proofs.entries.push_all.Goals as goal

pub loop-entry-init : goal.loop-entry-init
loop-entry-init c = each_none (λ (one : AdvertisedLink) (entry : AdvertisedLink). entry ≡ one)
    c.args.own.now
    c.args.entries.now.items

pub loop-entry-preserved : goal.loop-entry-preserved
loop-entry-preserved c =
    let Q : AdvertisedLink → AdvertisedLink → Type 0 = λ one entry. entry ≡ one in
    let one = c.entry-item.result in
    let old = c.loop-entry.entries.items in
    rw c.in_ok-push.ensures.items
    (each_more Q c.args.own.now c.loop-entry.entry-index one c.args.entries.now.items old _
    c.loop-entry-test.true c.entry-item.is c.loop-entry.invariant
    (adds_one (Q one) old one refl (λ x e. e)))

pub returns : goal.returns
returns c =
    let Q : AdvertisedLink → AdvertisedLink → Type 0 = λ one entry. entry ≡ one in
    adds_same (OfEach Q c.args.own.now) (λ entry. Contains c.args.own.now entry)
    c.args.entries.now.items c.loop-entry.entries.items
    (λ x o. let P : AdvertisedLink → Type 0 = λ e. Contains c.args.own.now e in
    subst P (sym o.2) o.1)
    (λ x among. (x, among, refl))
    (each_all Q c.args.own.now c.loop-entry.entry-index c.args.entries.now.items
    c.loop-entry.entries.items c.loop-entry-test.false c.loop-entry.invariant)
