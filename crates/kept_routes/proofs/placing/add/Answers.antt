use Rattle.std.proofs.Common.{◌≡◌, true, false, List, Option, Some, subst, sym, ◌∙◌}
use Rattle.std.specs.Prelude.{IfSome}
use Rattle.words.specs.declared.route.Route.{Route}
use Rattle.kept_routes.specs.Placing.{IsPlaced}
use Rattle.kept_routes.proofs.Placed.{as_it_was, differs, put_in}
use Rattle.kept_routes.proofs.placing.add.Goals as goal

pub returns-in-None-clause-placed : goal.returns-in-None-clause-placed
returns-in-None-clause-placed c =
    let old = c.args.routes.now in
    let prefix = c.args.prefix in
    subst (λ (o : Option Route). IsPlaced old old prefix o) (sym c.in-None.is)
    (as_it_was old prefix c.requires.ascend c.args.at c.requires.gap)

pub returns-in_ok-insert-in-Some-clause-placed : goal.returns-in_ok-insert-in-Some-clause-placed
returns-in_ok-insert-in-Some-clause-placed c =
    let old = c.args.routes.now in
    let prefix = c.args.prefix in
    let new = c.insert.new.self in
    let route = c.in-Some.route in
    let its = subst (λ (o : Option Route). IfSome o (λ r. r.prefix ≡ prefix)) c.in-Some.is
    c.requires.its in
    let placed = subst (λ (ys : List Route). IsPlaced old ys prefix (Some route))
    (sym c.in_ok-insert-in-Some.ensures.ok)
    (put_in old prefix c.requires.ascend c.args.at c.requires.gap route its) in
    subst (λ (o : Option Route). IsPlaced old new prefix o) (sym c.in-Some.is) placed

pub returns-in-None-clause-stood : goal.returns-in-None-clause-stood
returns-in-None-clause-stood c on r is = absurd (let no = sym c.in-None.is ∙ is in cc)

pub returns-in-None-clause-another : goal.returns-in-None-clause-another
returns-in-None-clause-another c off = absurd (let no : true ≡ false = off in cc)

pub returns-in_ok-insert-in-Some-clause-stood : goal.returns-in_ok-insert-in-Some-clause-stood
returns-in_ok-insert-in-Some-clause-stood c on r is = absurd (let no : false ≡ true = on in cc)

pub returns-in_ok-insert-in-Some-clause-another : goal.returns-in_ok-insert-in-Some-clause-another
returns-in_ok-insert-in-Some-clause-another c off =
    let old = c.args.routes.now in
    let prefix = c.args.prefix in
    let route = c.in-Some.route in
    let its = subst (λ (o : Option Route). IfSome o (λ r. r.prefix ≡ prefix)) c.in-Some.is
    c.requires.its in (
      route,
      c.in-Some.is,
      λ t. differs old prefix c.requires.ascend c.args.at c.requires.gap route t
          its,
    )

pub insert-requires : goal.insert-requires
insert-requires c = c.requires.gap.within
