use Rattle.std.proofs.Common.{ap, ◌∙◌}
use Rattle.std.specs.FinMap as finite
use Rattle.words.specs.declared.key.Key.{Key}
use Rattle.event_rules.specs.Commands.{is_for}
use Rattle.event_rules.specs.Originations.{external_key}
use Rattle.event_rules.specs.Routers.{Router}
use Rattle.flood.proofs.router_core.Core.wants.Goals as goal

pub returns-in-None : goal.returns-in-None
returns-in-None c =
    let r = c.self.inside.router.present in
    let found = c.in-None.ensures
    ∙ ap (λ m. finite.get m.present c.external_key.result) c.announced.ensures.parts
    ∙ ap (λ (k : Key). finite.get r.announced k)
    (c.external_key.ensures ∙ ap (λ n. external_key n c.args.prefix) c.id.ensures) in
    ap (is_for c.args.prefix) found
    ∙ ap (λ (s : Router). is_for c.args.prefix
    (finite.get s.announced (external_key s.id c.args.prefix))) c.self.view_is

pub returns-in-Some : goal.returns-in-Some
returns-in-Some c =
    let r = c.self.inside.router.present in
    let found = c.in-Some.ensures
    ∙ ap (λ m. finite.get m.present c.external_key.result) c.announced.ensures.parts
    ∙ ap (λ (k : Key). finite.get r.announced k)
    (c.external_key.ensures ∙ ap (λ n. external_key n c.args.prefix) c.id.ensures) in
    c.same_network.ensures ∙ ap (is_for c.args.prefix) found
    ∙ ap (λ (s : Router). is_for c.args.prefix
    (finite.get s.announced (external_key s.id c.args.prefix))) c.self.view_is
