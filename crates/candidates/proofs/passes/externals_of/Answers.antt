use Rattle.std.proofs.Common.{◌≡◌, arith, subst}
use Rattle.words.specs.declared.key.Key.{Key}
use Rattle.lsa.specs.declared.body.LsaBody.{LsaBody}
use Rattle.candidates.specs.Externals.{TellsExternal}
use Rattle.candidates.specs.Gathering.{IsOnly}
use Rattle.candidates.proofs.Told.{all_told, told_more, told_same}
use Rattle.candidates.proofs.passes.externals_of.Goals as goal
use Rattle.candidates.proofs.passes.externals_of.Goals.{in-Some+in_ok-push, in_default}

pub loop-one-preserved : goal.loop-one-preserved
loop-one-preserved c =
    let bodies = c.args.bodies.now in
    let i = c.loop-one.one-index in
    let one = c.one-item.result in
    let same : (c.key.result.now, c.body.result.now) ≡ one =
    λ i. (c.key.ensures i, c.body.ensures i) in
    let its : IsOnly (TellsExternal one) c.advertised_external.result =
    subst (λ (x : Key × LsaBody). IsOnly (TellsExternal x) c.advertised_external.result) same
    c.advertised_external.ensures in
    elim c.match-advertised_external.branch [
      | in-Some+in_ok-push w ↦
          let just = subst (λ o. IsOnly (TellsExternal one) o) w.in-Some.is its in
          rw (w.all-is, w.in_ok-push.ensures.items)
          (told_more bodies i one c.one-item.is c.loop-one-test.true c.loop-one.all.items
          c.loop-one.invariant w.in-Some.advertised just)
      | in_default w ↦
          let none = subst (λ o. IsOnly (TellsExternal one) o) w.in_default.is its in
          rw w.all-is (told_same bodies i one c.one-item.is c.loop-one-test.true
          c.loop-one.all.items c.loop-one.invariant none)
    ]

pub returns : goal.returns
returns c = all_told c.args.bodies.now c.loop-one.one-index c.loop-one.all.items
    (omega (arith, c.loop-one-test.false)) c.loop-one.invariant
