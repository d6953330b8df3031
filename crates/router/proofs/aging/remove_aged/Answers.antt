use Rattle.std.proofs.Common.{cond, sym, ap, ◌∙◌}
use Rattle.std.specs.FinMap as finite
use Rattle.lsdb.specs.Copies.{max_age_keys}
use Rattle.received.specs.Links.{Area, any_exchange_or_loading}
use Rattle.area.specs.Links.{with_no_sends}
use Rattle.received.specs.AreaStates.{AreaState, on_database}
use Rattle.area.proofs.Doing.{area_rests, area_same}
use Rattle.event_rules.specs.Endings.{remove_aged, stays}
use Rattle.router.specs.Aging.{without_each}
use Rattle.router.proofs.Aged.{aged_leave}
use Rattle.router.proofs.aging.remove_aged.Goals as goal

pub returns-then-synchronizing : goal.returns-then-synchronizing
returns-then-synchronizing c =
    let a : Area = c.args.area.now.present in
    let o : AreaState = with_no_sends a in
    area_rests (λ (x : Area). remove_aged c.args.moment (with_no_sends x)) c.args.area.now _
    (ap (λ b. cond b o (on_database (λ db. finite.retain_keys db (stays c.args.moment a)) o))
    (sym c.if-synchronizing.true ∙ c.any_exchange_or_loading-synchronizing.ensures
    ∙ ap any_exchange_or_loading c.links.ensures.present))

pub returns : goal.returns
returns c =
    let a : Area = c.args.area.now.present in
    let o : AreaState = with_no_sends a in
    let keys = c.deref.ensures.value ∙ c.in_ok-keys.ensures
    ∙ ap (λ d. max_age_keys c.args.moment d.present) c.database.ensures in
    area_same (λ (x : Area). with_no_sends (record x {
      database = without_each x.links x.database c.deref.result.now;
    })) (λ (x : Area). remove_aged c.args.moment (with_no_sends x)) c.args.area.now _
    c.remove_each.result
    (ap (λ ks. with_no_sends (record a { database = without_each a.links a.database ks })) keys
    ∙ ap (λ d. with_no_sends (record a { database = d })) (aged_leave c.args.moment a)
    ∙ ap (λ b. cond b o (on_database (λ db. finite.retain_keys db (stays c.args.moment a)) o))
    (sym c.if-synchronizing.false ∙ c.any_exchange_or_loading-synchronizing.ensures
    ∙ ap any_exchange_or_loading c.links.ensures.present))
    c.remove_each.ensures
