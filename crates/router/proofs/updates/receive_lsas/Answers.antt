use Rattle.std.proofs.Common.{◌+◌, ◌∷◌, drop, refl, sym, ap, ◌∙◌, arith}
use Rattle.area.proofs.Updates.{drop_next}
use Rattle.router.proofs.Making.{as_many_links, done, refused}
use Rattle.router.proofs.Texts.{goes_further, goes_no_further, goes_to_the_end}
use Rattle.router.proofs.updates.receive_lsas.Goals as goal

pub loop-i-init : goal.loop-i-init
loop-i-init c = record { goes = λ new makes. makes; links = refl; committed = refl }

pub returns-in_err-goes : goal.returns-in_err-goes
returns-in_err-goes c =
    refused c.from_residual.result c.from_residual.ensures.0
    (c.in_err-goes.ensures.does.committed ∙ c.loop-i.invariant.committed)

pub returns-then-not-goes : goal.returns-then-not-goes
returns-then-not-goes c =
    let lsas = c.args.lsas.now in
    let i = c.loop-i.i in
    let split = drop_next i lsas c.index-lsas-i.result (omega (arith, c.loop-i-test.true))
    ∙ ap (λ y. y ∷ drop (i + 1) lsas) (sym (c.as_slice-bytes.ensures ∙ c.index-lsas-i.is)) in
    done _ (goes_no_further c.args.moment c.args.interface lsas c.args.router.now i
    c.as_slice-bytes.result.now c.loop-i.router c.receive_lsa.new.self split
    (sym c.in_ok-goes.ensures.goes_on ∙ c.if-not-goes.true) c.in_ok-goes.ensures.does.makes
    c.loop-i.invariant.goes)

pub loop-i-preserved : goal.loop-i-preserved
loop-i-preserved c =
    let lsas = c.args.lsas.now in
    let i = c.loop-i.i in
    let split = drop_next i lsas c.index-lsas-i.result (omega (arith, c.loop-i-test.true))
    ∙ ap (λ y. y ∷ drop (i + 1) lsas) (sym (c.as_slice-bytes.ensures ∙ c.index-lsas-i.is)) in
    let does = c.in_ok-goes.ensures.does in
    record {
      goes = goes_further c.args.moment c.args.interface lsas c.args.router.now i
          c.as_slice-bytes.result.now c.loop-i.router c.receive_lsa.new.self split
          (sym c.in_ok-goes.ensures.goes_on ∙ c.if-not-goes.false) does.makes
          c.loop-i.invariant.goes;
      links = as_many_links does.makes ∙ c.loop-i.invariant.links;
      committed = does.committed ∙ c.loop-i.invariant.committed;
    }

pub returns : goal.returns
returns c =
    done _ (goes_to_the_end c.args.moment c.args.interface c.args.lsas.now c.args.router.now
    c.loop-i.i
    c.loop-i.router (omega (arith, c.loop-i-test.false, c.loop-i.auto.i-end))
    c.loop-i.invariant.goes)
