use Rattle.std.proofs.Common.{Vec, Global, List, Option, subst, sym}
use Rattle.std.specs.Prelude.{IfSome}
use Rattle.std.proofs.lemmas.Option.{same_Some}
use Rattle.words.specs.declared.key.Key.{Key}
use Rattle.kept_routes.specs.Destinations.{HaveAllUnder}
use Rattle.kept_routes.proofs.follow.renew.Goals as goal

pub renew_by-requires-clause-keys : goal.renew_by-requires-clause-keys
renew_by-requires-clause-keys c =
    let Has : List Key → Type 0 = HaveAllUnder c.args.db.now.present c.args.prefix in
    subst Has (sym c.deref.ensures.value)
    (subst (λ (o : Option (Vec Key Global)). IfSome o (λ keys. Has keys.items)) c.in-Some.is
    c.in_ok-found.ensures)

pub returns-in_ok-stood-in-Some-clause-renewed : goal.returns-in_ok-stood-in-Some-clause-renewed
returns-in_ok-stood-in-Some-clause-renewed c t = c.in_ok-stood-in-Some.ensures.renewed

pub returns-in_ok-stood-in-Some-clause-among : goal.returns-in_ok-stood-in-Some-clause-among
returns-in_ok-stood-in-Some-clause-among c is =
    c.in_ok-stood-in-Some.ensures.among (same_Some _ _ is)

pub returns-in_ok-stood-in-Some-clause-another : goal.returns-in_ok-stood-in-Some-clause-another
returns-in_ok-stood-in-Some-clause-another c is =
    c.in_ok-stood-in-Some.ensures.another (same_Some _ _ is)

pub returns-in-None-clause-renewed : goal.returns-in-None-clause-renewed
returns-in-None-clause-renewed c t = absurd cc

pub returns-in-None-clause-among : goal.returns-in-None-clause-among
returns-in-None-clause-among c is = absurd cc

pub returns-in-None-clause-another : goal.returns-in-None-clause-another
returns-in-None-clause-another c is = absurd cc
