use Rattle.std.proofs.Common.{◌≡◌, true, false, List, Option, None, Some, set, subst, sym}
use Rattle.std.proofs.Common.{◌∙◌}
use Rattle.std.specs.List.{Contains}
use Rattle.std.specs.Prelude.{IfSome}
use Rattle.std.proofs.lemmas.List.{set-get_or}
use Rattle.std.proofs.lemmas.Option.{get_or_from_slice_get, same_Some}
use Rattle.words.specs.declared.route.Route.{Route}
use Rattle.kept_routes.specs.Placing.{IsPlaced}
use Rattle.kept_routes.proofs.Placed.{stands_there, taken_out, written_over}
use Rattle.kept_routes.proofs.placing.replace.Goals as goal

pub remove-requires : goal.remove-requires
remove-requires c = c.requires.there.within

pub replace-requires : goal.replace-requires
replace-requires c = c.requires.there.within

pub returns-in_ok-remove-in-None-clause-placed : goal.returns-in_ok-remove-in-None-clause-placed
returns-in_ok-remove-in-None-clause-placed c =
    let old = c.args.routes.now in
    let prefix = c.args.prefix in
    let new = c.remove.new.self in
    let placed = subst (λ (ys : List Route). IsPlaced old ys prefix None)
    (sym c.in_ok-remove-in-None.ensures.ok)
    (taken_out old prefix c.requires.ascend c.args.at c.requires.there) in
    subst (λ (o : Option Route). IsPlaced old new prefix o) (sym c.in-None.is) placed

pub returns-in_ok-remove-in-None-clause-stood : goal.returns-in_ok-remove-in-None-clause-stood
returns-in_ok-remove-in-None-clause-stood c on r is = absurd (let no = sym c.in-None.is ∙ is in cc)

pub returns-in_ok-replace-in-Some-clause-placed : goal.returns-in_ok-replace-in-Some-clause-placed
returns-in_ok-replace-in-Some-clause-placed c =
    let old = c.args.routes.now in
    let prefix = c.args.prefix in
    let new = c.replace.new.self in
    let route = c.in-Some.route in
    let its = subst (λ (o : Option Route). IfSome o (λ r. r.prefix ≡ prefix)) c.in-Some.is
    c.requires.its in
    let placed = subst (λ (ys : List Route). IsPlaced old ys prefix (Some route))
    (sym c.in_ok-replace-in-Some.ensures.ok)
    (written_over old prefix c.requires.ascend c.args.at c.requires.there route its) in
    subst (λ (o : Option Route). IsPlaced old new prefix o) (sym c.in-Some.is) placed

pub stands_at-requires : goal.stands_at-requires
stands_at-requires c = c.requires.there.within

pub returns-then-stands_at-clause-placed : goal.returns-then-stands_at-clause-placed
returns-then-stands_at-clause-placed c =
    let old = c.args.routes.now in
    let prefix = c.args.prefix in
    let at = c.args.at in
    let route : Route = c.in-Some.route in
    let its = subst (λ (o : Option Route). IfSome o (λ r. r.prefix ≡ prefix)) c.in-Some.is
    c.requires.its in
    let there = c.stands_at.ensures.0 c.if-stands_at.true in
    let same : set old at route ≡ old =
    subst (λ (x : Route). set old at x ≡ old) (get_or_from_slice_get old at route route there)
    (set-get_or old at route) in
    let placed = subst (λ (ys : List Route). IsPlaced old ys prefix (Some route)) same
    (written_over old prefix c.requires.ascend at c.requires.there route its) in
    subst (λ (o : Option Route). IsPlaced old old prefix o) (sym c.in-Some.is) placed

pub returns-then-stands_at-clause-stood : goal.returns-then-stands_at-clause-stood
returns-then-stands_at-clause-stood c on r is =
    let old = c.args.routes.now in
    let at = c.args.at in
    let route : Route = c.in-Some.route in
    let there = c.stands_at.ensures.0 c.if-stands_at.true in
    let among : Contains old route = (
      at,
      c.requires.there.within,
      get_or_from_slice_get old at route route there,
    ) in
    subst (λ (x : Route). Contains old x) (same_Some route r (sym c.in-Some.is ∙ is)) among

pub returns-then-stands_at-clause-another : goal.returns-then-stands_at-clause-another
returns-then-stands_at-clause-another c off = absurd (let no : true ≡ false = off in cc)

pub returns-in_ok-replace-in-Some-clause-stood : goal.returns-in_ok-replace-in-Some-clause-stood
returns-in_ok-replace-in-Some-clause-stood c on r is =
    absurd (let no : false ≡ true = on in cc)

pub returns-in_ok-remove-in-None-clause-another : goal.returns-in_ok-remove-in-None-clause-another
returns-in_ok-remove-in-None-clause-another c off = absurd (let no : true ≡ false = off in cc)

pub returns-in_ok-replace-in-Some-clause-another : goal.returns-in_ok-replace-in-Some-clause-another
returns-in_ok-replace-in-Some-clause-another c off =
    let old = c.args.routes.now in
    let prefix = c.args.prefix in
    let at = c.args.at in
    let route : Route = c.in-Some.route in
    let its = subst (λ (o : Option Route). IfSome o (λ r. r.prefix ≡ prefix)) c.in-Some.is
    c.requires.its in (
      route,
      c.in-Some.is,
      λ t.
          let there = stands_there old prefix c.requires.ascend at c.requires.there route t its in
          absurd (let no : true ≡ false = sym (c.stands_at.ensures.1 there) ∙ c.if-stands_at.false
          in cc),
    )
