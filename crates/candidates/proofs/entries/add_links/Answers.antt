use Rattle.std.proofs.Common.{◌≡◌, List, Some, None, sym, ◌∙◌, subst}
use Rattle.std.proofs.lemmas.Option.{none-some, same_Some}
use Rattle.lsa.specs.declared.body.RouterLink.{RouterLink}
use Rattle.candidates.specs.Entries.{entry_of}
use Rattle.candidates.specs.Graphs.{Adds, OfEach}
use Rattle.candidates.specs.declared.entry.AdvertisedLink.{AdvertisedLink}
use Rattle.candidates.proofs.Lists.{adds_one, each_all, each_more, each_none, each_skip}
use Rattle.candidates.proofs.entries.add_links.Goals as goal
use Rattle.candidates.proofs.entries.add_links.Goals.{in-Some+in_ok-push, in_default}

pub loop-link-init : goal.loop-link-init
loop-link-init c = each_none (λ (link : RouterLink) (entry : AdvertisedLink). entry_of c.args.router
    link
    ≡ Some entry) c.as_slice-link-items.result.now c.args.entries.now.items

pub loop-link-preserved : goal.loop-link-preserved
loop-link-preserved c =
    let Q : RouterLink → AdvertisedLink → Type 0 =
    λ link entry. entry_of c.args.router link ≡ Some entry in
    let items = c.as_slice-link-items.result.now in
    let i = c.loop-link.link-index in
    let link = c.link-item.result in
    let first = c.args.entries.now.items in
    let old = c.loop-link.entries.items in
    elim c.match-of_link.branch [
      | in-Some+in_ok-push w ↦
          let entry = w.in-Some.entry in
          let is : entry_of c.args.router link ≡ Some entry =
          sym c.of_link.ensures ∙ w.in-Some.is in
          rw (w.entries-is, w.in_ok-push.ensures.items)
          (each_more Q items i link first old _ c.loop-link-test.true c.link-item.is
          c.loop-link.invariant (adds_one (Q link) old entry is
          (λ x e. same_Some x entry (sym e ∙ is))))
      | in_default w ↦
          let none : entry_of c.args.router link ≡ None = sym c.of_link.ensures ∙ w.in_default.is in
          rw w.entries-is (each_skip Q items i link first old c.loop-link-test.true c.link-item.is
          (λ x e. none-some x (sym none ∙ e)) c.loop-link.invariant)
    ]

pub returns : goal.returns
returns c =
    let Q : RouterLink → AdvertisedLink → Type 0 =
    λ link entry. entry_of c.args.router link ≡ Some entry in
    let P : List RouterLink → Type 0 = λ links. Adds (OfEach Q links) c.args.entries.now.items
    c.loop-link.entries.items in
    subst P c.as_slice-link-items.ensures
    (each_all Q c.as_slice-link-items.result.now c.loop-link.link-index c.args.entries.now.items
    c.loop-link.entries.items c.loop-link-test.false c.loop-link.invariant)
