use Rattle.std.proofs.Common.{sym, ap, subst, ◌∙◌}
use Rattle.std.specs.FinMap as finite
use Rattle.words.specs.declared.key.Key.{Key}
use Rattle.keyed_map.proofs.Helds.{after}
use Rattle.event_rules.specs.Commands.{announce}
use Rattle.event_rules.specs.EventState.{on_router}
use Rattle.event_rules.specs.Originations.{external_key}
use Rattle.router.specs.Owned.{AreOwn}
use Rattle.router.proofs.Announced.{insert_own}
use Rattle.router.proofs.Edited.{announces}
use Rattle.router.proofs.Making.{does_same}
use Rattle.router.proofs.state.Router.announce.Goals as goal

pub invariant_of-self : goal.invariant_of-self
invariant_of-self c =
    let id = c.self.inside.id in
    let m = c.self.inside.announced.present in
    let e = c.args.external in
    let k = c.external_key-key.result in (
      c.self.invariant.0,
      c.self.invariant.1,
      after c.insert.result (AreOwn id) c.insert.new.self.present m (finite.insert m k e)
          c.insert.ensures.ok c.insert.ensures.err
          (insert_own id m k e c.self.invariant.2 (record {
            key = c.external_key-key.ensures;
            metric = c.requires.metric;
          })) c.self.invariant.2,
      subst (AreOwn id) (sym c.insert.ensures.committed) c.self.invariant.3,
    )

pub returns : goal.returns
returns c =
    let e = c.args.external in
    does_same c.insert.result
    (λ p is. ap (λ (k : Key). on_router (announce k e) p) (c.external_key-key.ensures
    ∙ ap (λ v. external_key v.present.id e.prefix) c.self.view_is))
    (announces _ c.args.self.now c.insert.result c.self.view_is c.insert.new.self.present
    c.insert.new.self.committed c.insert.ensures.committed c.external_key-key.result e
    c.insert.ensures.ok)
