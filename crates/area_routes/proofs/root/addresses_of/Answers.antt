use Rattle.std.proofs.Common.{ℕ, ◌∷◌, [], ◌++◌, map, take, ap, sym, ◌∙◌}
use Rattle.std.proofs.lemmas.List.{take_all}
use Rattle.area.specs.Kept.{KeptLink}
use Rattle.area.specs.Links.{present}
use Rattle.area_routes.proofs.Roots.{mapped_more}
use Rattle.area_routes.proofs.root.addresses_of.Goals as goal

abbrev address : KeptLink → ℕ
address k = (present k).interface.address

pub loop-link-preserved : goal.loop-link-preserved
loop-link-preserved c =
    let links = c.args.links.now in
    let n = c.loop-link.link-index in
    c.in_ok-push.ensures.items ∙ ap (λ xs. xs ++ c.address_of.result ∷ []) c.loop-link.invariant
    ∙ ap (λ a. map address (take n links) ++ a ∷ []) c.address_of.ensures
    ∙ sym (mapped_more address links n c.link-item.result c.loop-link-test.true c.link-item.is)

pub returns : goal.returns
returns c = c.loop-link.invariant ∙ ap (map address)
    (take_all c.loop-link.link-index c.args.links.now c.loop-link-test.false)
