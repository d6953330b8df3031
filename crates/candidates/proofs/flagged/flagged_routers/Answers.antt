use Rattle.std.proofs.Common.{◌≡◌, arith, subst}
use Rattle.std.specs.declared.cmp.Ordering.TheVariants.{Less}
use Rattle.words.specs.declared.key.Key.{Key}
use Rattle.lsa.specs.declared.body.LsaBody.{LsaBody}
use Rattle.lsdb.specs.Keys.{key_cmp}
use Rattle.candidates.specs.Borders.{TellsFlags}
use Rattle.candidates.specs.Gathering.{IsOnly}
use Rattle.candidates.proofs.Flags.{all_told, are_close, are_flagged, routers_ascend, told_more}
use Rattle.candidates.proofs.Flags.{told_same}
use Rattle.candidates.proofs.flagged.flagged_routers.Goals as goal
use Rattle.candidates.proofs.flagged.flagged_routers.Goals.{in-Some+in_ok-push, in_default}

pub loop-one-preserved : goal.loop-one-preserved
loop-one-preserved g c =
    let ways = g.W.Ways.ways c.args.ways.now in
    let Q = TellsFlags ways in
    let bodies = c.args.bodies.now in
    let i = c.loop-one.one-index in
    let one = c.one-item.result in
    let same : (c.key.result.now, c.body.result.now) ≡ one =
    λ i. (c.key.ensures i, c.body.ensures i) in
    let its : IsOnly (Q one) c.flagged_at.result =
    subst (λ (x : Key × LsaBody). IsOnly (Q x) c.flagged_at.result) same c.flagged_at.ensures in
    elim c.match-flagged_at.branch [
      | in-Some+in_ok-push w ↦
          let just = subst (λ o. IsOnly (Q one) o) w.in-Some.is its in
          rw (w.routers-is, w.in_ok-push.ensures.items)
          (told_more Q bodies i one c.one-item.is c.loop-one-test.true c.loop-one.routers.items
          c.loop-one.invariant (λ (a : Key × LsaBody) (b : Key × LsaBody). key_cmp a.0 b.0 ≡ Less)
          (routers_ascend ways) c.requires.order w.in-Some.router just)
      | in_default w ↦
          let none = subst (λ o. IsOnly (Q one) o) w.in_default.is its in
          rw w.routers-is (told_same Q bodies i one c.one-item.is c.loop-one-test.true
          c.loop-one.routers.items c.loop-one.invariant none)
    ]

pub returns-clause-flagged : goal.returns-clause-flagged
returns-clause-flagged g c contents have =
    let ways = g.W.Ways.ways c.args.ways.now in
    are_flagged ways contents c.args.bodies.now c.loop-one.routers.items have
    (all_told (TellsFlags ways) c.args.bodies.now c.loop-one.one-index c.loop-one.routers.items
    (omega (arith, c.loop-one-test.false)) c.loop-one.invariant)

pub returns-clause-close : goal.returns-clause-close
returns-clause-close g c =
    let ways = g.W.Ways.ways c.args.ways.now in
    are_close ways c.args.bodies.now c.loop-one.routers.items c.requires.near
    (all_told (TellsFlags ways) c.args.bodies.now c.loop-one.one-index c.loop-one.routers.items
    (omega (arith, c.loop-one-test.false)) c.loop-one.invariant)
