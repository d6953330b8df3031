use Rattle.std.proofs.Common.{◌≡◌, IfOk, List, Option, ap, subst, ◌∙◌}
use Rattle.std.specs.Prelude.{map}
use Rattle.std.specs.FinMap as finite
use Rattle.words.specs.Numbers.{RouterNumber}
use Rattle.words.specs.declared.key.Key.{Key}
use Rattle.lsa.specs.declared.body.LsaBody.{LsaBody}
use Rattle.area.specs.Kept.{KeptLink}
use Rattle.event_rules.specs.Originations.{router_body}
use Rattle.area.specs.Links.{present}
use Rattle.router.specs.Instances.{next_instance}
use Rattle.router.specs.Described.{described_body, full_routers, interfaces}
use Rattle.router.proofs.FullNeighbors.{body_now}
use Rattle.router.proofs.Links.{router_fits, router_size}
use Rattle.router.proofs.router.router_instance.Goals as goal

said_now : (links : List KeptLink) (full read : List (Option RouterNumber)) (said : LsaBody)
    → said ≡ described_body (interfaces (map present links)) read → read ≡ full
    → full ≡ full_routers (map present links) → said ≡ router_body (map present links)
said_now links full read said is same now =
    is ∙ ap (described_body (interfaces (map present links))) (same ∙ now)
    ∙ body_now (map present links)

pub next_instance-requires-clause-fits : goal.next_instance-requires-clause-fits
next_instance-requires-clause-fits c =
    router_fits c.args.links.now c.in_ok-body.body
    (said_now c.args.links.now _ _ c.in_ok-body.body c.in_ok-body.ensures c.deref.ensures.value
    c.in_ok-full.ensures)
    c.requires

pub next_instance-requires-clause-size : goal.next_instance-requires-clause-size
next_instance-requires-clause-size c =
    router_size c.args.links.now c.in_ok-body.body
    (said_now c.args.links.now _ _ c.in_ok-body.body c.in_ok-body.ensures c.deref.ensures.value
    c.in_ok-full.ensures)
    c.requires

pub returns : goal.returns
returns c =
    let get = λ (k : Key). finite.get c.args.database.now.present k in
    subst (λ k. IfOk c.next_instance.result
    (λ i. i ≡ next_instance k (get k) (router_body (map present c.args.links.now))))
    c.router_key-key.ensures
    (subst (λ s. IfOk c.next_instance.result
    (λ i. i ≡ next_instance c.router_key-key.result (get c.router_key-key.result) s))
    (said_now c.args.links.now _ _ c.in_ok-body.body c.in_ok-body.ensures c.deref.ensures.value
    c.in_ok-full.ensures)
    c.next_instance.ensures)
