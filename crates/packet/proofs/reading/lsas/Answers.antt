use Rattle.std.proofs.Common.{◌≡◌, ◌+◌, drop, ◌-◌, ◌++◌, arith, take, ap, ◌∙◌}
use Rattle.words.specs.Fields.{field}
use Rattle.packet.specs.Reading.{are_lsas, lsas_of}
use Rattle.packet.proofs.Cuts.{lsas_next, cut_step}
use Rattle.packet.proofs.reading.lsas.Goals as goal

pub behind-rest-requires : goal.behind-rest-requires
behind-rest-requires c =
    let next = lsas_next c.args.count c.loop-i.i c.loop-i.rest.now c.loop-i-test.true
    c.loop-i.invariant.whole in
    omega (arith, next.fits, c.from-size.ensures, c.u16_at.ensures)

pub loop-i-preserved : goal.loop-i-preserved
loop-i-preserved c =
    let old = c.loop-i.rest.now in
    let next = lsas_next c.args.count c.loop-i.i old c.loop-i-test.true c.loop-i.invariant.whole in
    let same : c.from-size.result ≡ field c.loop-i.rest.now 18 2 =
    c.from-size.ensures ∙ c.u16_at.ensures in
    let rest : c.behind-rest.result.now ≡ drop (field c.loop-i.rest.now 18 2) c.loop-i.rest.now =
    c.behind-rest.ensures ∙ ap (λ n. drop n c.loop-i.rest.now) same in
    let lsa : c.in_ok-copied.field-0 ≡ take (field c.loop-i.rest.now 18 2) c.loop-i.rest.now =
    c.in_ok-copied.ensures ∙ c.front.ensures ∙ ap (λ n. take n c.loop-i.rest.now) same in
    record {
      whole = ap (are_lsas (c.args.count - (c.loop-i.i + 1))) rest ∙ next.after;
      all =
          ap (λ r. c.push.new.self.items ++ lsas_of (c.args.count - (c.loop-i.i + 1)) r) rest
          ∙ cut_step c.args.count c.loop-i.i old c.loop-i.lsas.items c.push.new.self.items
          (lsas_of c.args.count c.args.bytes.now) c.in_ok-copied.field-0 c.loop-i-test.true lsa
          c.in_ok-push.ensures.items c.loop-i.invariant.all;
    }
