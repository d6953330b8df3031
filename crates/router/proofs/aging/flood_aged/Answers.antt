use Rattle.std.proofs.Common.{◌≡◌, ap, sym, ◌∙◌}
use Rattle.lsdb.specs.Copies.{max_age_keys}
use Rattle.received.specs.Links.{Area}
use Rattle.area.specs.Links.{with_no_sends}
use Rattle.area.proofs.Doing.{area_rests, area_same}
use Rattle.event_rules.specs.Endings.{flood_aged}
use Rattle.router.specs.Aging.{flood_each_new_max_age}
use Rattle.router.proofs.OfAge.{ages_are}
use Rattle.router.proofs.Within.{nothing_ages}
use Rattle.router.proofs.aging.flood_aged.Goals as goal

pub returns : goal.returns
returns c =
    let b = c.args.before in
    let m = c.args.moment in
    let a : Area = c.args.area.now.present in
    let keys = c.deref.ensures.value ∙ c.in_ok-aged.ensures
    ∙ ap (λ d. max_age_keys m d.present) c.database.ensures in
    area_same (flood_each_new_max_age b m c.deref.result.now)
    (λ (x : Area). flood_aged b m (with_no_sends x))
    c.args.area.now _ c.flood_each_new_max_age.result
    (ap (λ ks. flood_each_new_max_age b m ks a) keys ∙ ages_are b m a)
    c.flood_each_new_max_age.ensures

pub returns-then-count : goal.returns-then-count
returns-then-count c =
    let a : Area = c.args.area.now.present in
    let same : c.args.before ≡ c.args.moment = cc in
    area_rests (λ (x : Area). flood_aged c.args.before c.args.moment (with_no_sends x))
    c.args.area.now _
    (sym (nothing_ages c.args.before c.args.moment same (with_no_sends a)))
