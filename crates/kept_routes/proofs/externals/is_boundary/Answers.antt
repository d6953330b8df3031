use Rattle.std.proofs.Common.{◌≡◌, Some, sym, subst, ◌∙◌, ap}
use mathlib.Core.Bool.{false≢true}
use Rattle.std.specs.Prelude.{bit_and, is_some}
use Rattle.lsa.specs.declared.body.LsaBody.TheVariants.{Router}
use Rattle.lsa.specs.declared.body.RouterLsa.{RouterLsa}
use Rattle.routes.specs.Contents.{contents_at}
use Rattle.routes.specs.declared.node.Node.TheVariants.{ARouter}
use Rattle.candidates.specs.Reached.{way_in}
use Rattle.kept_routes.proofs.Named.{the_some}
use Rattle.kept_routes.proofs.externals.is_boundary.Goals as goal

pub returns-then-not-reached : goal.returns-then-not-reached
returns-then-not-reached c = (
  (λ t. absurd cc),
  (λ w. absurd (false≢true (sym c.if-not-reached.true
      ∙ c.is_some-reached.ensures ∙ ap is_some (c.way_to.ensures ∙ w.1.reached)))),
)

pub returns-in-None : goal.returns-in-None
returns-in-None c =
    let contents = contents_at c.args.moment c.args.db.now.present in (
      (λ t. absurd cc),
      (λ w. absurd (c.in-None.ensures w.1.lsa (ap contents c.router_key.ensures ∙ w.1.its))),
    )

pub returns-in-Some : goal.returns-in-Some
returns-in-Some c =
    let contents = contents_at c.args.moment c.args.db.now.present in
    let there = c.is_some-reached.ensures ∙ ap is_some c.way_to.ensures in (
      (λ t.
          let way = the_some (way_in c.args.walk.now.reached (ARouter c.args.router))
          (sym there ∙ c.if-not-reached.false) in (
            way.0,
            record {
              lsa = c.in-Some.lsa.now;
              its = ap contents (sym c.router_key.ensures) ∙ c.in-Some.ensures;
              has_flag = c.has_e.ensures.0 t;
              reached = way.1;
            },
          )),
      (λ w.
          let one : Some (Router c.in-Some.lsa.now) ≡ Some (Router w.1.lsa) =
          sym c.in-Some.ensures ∙ ap contents c.router_key.ensures ∙ w.1.its in
          let same : c.in-Some.lsa.now ≡ w.1.lsa = cc in
          c.has_e.ensures.1 (subst (λ (l : RouterLsa). bit_and l.flags 2 ≡ 2) (sym same)
          w.1.has_flag)),
    )
