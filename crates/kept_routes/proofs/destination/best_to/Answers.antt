use Rattle.std.proofs.Common.{List, ap, subst, sym, ◌∙◌}
use Rattle.std.specs.Prelude.{slice_get}
use Rattle.candidates.specs.Gathering.{Adds, OfEach}
use Rattle.routes.specs.Contents.{contents_at}
use Rattle.routes.specs.declared.offer.Offer.{Offer}
use Rattle.kept_routes.specs.Destinations.{IsBestTo, IsTo}
use Rattle.kept_routes.proofs.Best.{is_best}
use Rattle.kept_routes.proofs.destination.best_to.Goals as goal

pub push_externals_to-requires : goal.push_externals_to-requires
push_externals_to-requires c = c.requires.inner.searchable

pub returns : goal.returns
returns c =
    let contents = contents_at c.args.moment c.args.db.now.present in
    let prefix = c.args.prefix in
    let read = c.first_of.ensures ∙ ap (λ rs. slice_get rs 0) c.deref-2.ensures.value in
    let first = c.push_inner_to.new.offers.items in
    let some = subst (λ (os : List Offer). Adds c.new-offers.result.items first
    (OfEach (IsTo prefix) os)) c.deref.ensures.value c.in_ok-push_inner_to.ensures in
    let inside = subst (λ (os : List Offer). Adds os first
    (OfEach (IsTo prefix) c.args.inner.now.offers.items)) c.new-offers.ensures.items some in
    subst (IsBestTo contents c.args.root.now prefix) (sym read)
    (is_best c.args.moment c.args.db.now.present c.args.root.now c.args.inner.now prefix
    c.requires.inner c.args.keys.now c.requires.keys
    first c.push_externals_to.new.offers.items inside c.in_ok-push_externals_to.ensures
    c.in_ok-routes.routes.items c.in_ok-routes.ensures.routes)
