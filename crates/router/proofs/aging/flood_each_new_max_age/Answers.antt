use Rattle.std.proofs.Common.{◌+◌, get_or, refl, sym, ap, ◌∙◌, arith}
use Rattle.received.specs.Links.{Area}
use Rattle.received.specs.AreaStates.{AreaState}
use Rattle.area.specs.Drafted.{drafts_with}
use Rattle.area.specs.Links.{flood_new_max_age}
use Rattle.area.proofs.Acknowledged.{from}
use Rattle.router.proofs.Onwards.{from_end, from_next}
use Rattle.area.proofs.Sends.{drafted_none}
use Rattle.area.proofs.Doing.{on_err}
use Rattle.router.specs.Aging.{flood_each_new_max_age}
use Rattle.router.proofs.OfAge.{drafted_after}
use Rattle.router.proofs.aging.flood_each_new_max_age.Goals as goal

pub loop-i-init : goal.loop-i-init
loop-i-init c = record { area = refl; drafts = refl; committed = refl; router = refl }

pub loop-i-preserved : goal.loop-i-preserved
loop-i-preserved c =
    let b = c.args.before in
    let m = c.args.moment in
    let i = c.loop-i.i in
    let keys = c.args.keys.now in
    let key = get_or keys i c.index-keys-i.result in
    let a : Area = c.loop-i.area.present in
    let ds = c.loop-i.area.drafted in
    let p : AreaState = flood_new_max_age b m key a in
    let later = from (i + 1) keys in
    let rest : AreaState = flood_each_new_max_age b m later p.area in
    let does = c.in_ok-flood_new_max_age.ensures in
    let is = does.area ∙ ap (λ k. (flood_new_max_age b m k a).area) c.index-keys-i.is in
    let drafts = does.drafts
    ∙ ap (λ k. drafts_with (flood_new_max_age b m k a).sends a.links ds) c.index-keys-i.is in
    let next = ap (λ ks. flood_each_new_max_age b m ks a)
    (sym (from_next i keys c.index-keys-i.result (omega (arith, c.loop-i-test.true)))) in
    record {
      area = ap (λ x. (flood_each_new_max_age b m later x).area) is ∙ ap (λ o. o.area) next
          ∙ c.loop-i.invariant.area;
      drafts =
          (λ j. drafts_with (flood_each_new_max_age b m later (is j)).sends (is j).links (drafts j))
          ∙ drafted_after b m a ds rest.sends key
          ∙ ap (λ o. drafts_with o.sends a.links ds) next ∙ c.loop-i.invariant.drafts;
      committed = does.committed ∙ c.loop-i.invariant.committed;
      router = does.router ∙ c.loop-i.invariant.router;
    }

pub returns-in_err-flood_new_max_age : goal.returns-in_err-flood_new_max_age
returns-in_err-flood_new_max_age c = record {
  area = on_err c.from_residual.result _ c.from_residual.ensures.0;
  drafts = on_err c.from_residual.result _ c.from_residual.ensures.0;
  committed = c.in_err-flood_new_max_age.ensures.committed ∙ c.loop-i.invariant.committed;
  router = c.in_err-flood_new_max_age.ensures.router ∙ c.loop-i.invariant.router;
}

pub returns : goal.returns
returns c =
    let b = c.args.before in
    let m = c.args.moment in
    let a : Area = c.loop-i.area.present in
    let ds = c.loop-i.area.drafted in
    let end = from_end c.loop-i.i c.args.keys.now
    (omega (arith, c.loop-i-test.false, c.loop-i.auto.i-end)) in
    record {
      area = ap (λ ks. (flood_each_new_max_age b m ks a).area) (sym end) ∙ c.loop-i.invariant.area;
      drafts =
          drafted_none 1 a.links ds
          ∙ ap (λ ks. drafts_with (flood_each_new_max_age b m ks a).sends a.links ds) (sym end)
          ∙ c.loop-i.invariant.drafts;
      committed = c.loop-i.invariant.committed;
      router = c.loop-i.invariant.router;
    }
