use Rattle.std.proofs.Common.{◌≡◌, ◌+◌, ◌<◌, Global, Vec, List, length, get_or, sym, ◌∙◌, ap, subst}
use Rattle.std.proofs.Common.{arith}
use Rattle.std.proofs.lemmas.List.{length-map}
use Rattle.words.specs.declared.route.Route.{Route}
use Rattle.routes.specs.Rows.{row_of}
use Rattle.operator.proofs.Begun.{IsBegun, added, begun, finished, other_prefix, row_at}
use Rattle.operator.proofs.Begun.{same_prefix, skipped}
use Rattle.operator.proofs.lists.routes_of.Goals.{then-len-rows+then-eq+in_ok-push, else-len-rows}
use Rattle.operator.proofs.lists.routes_of.Goals.{else-len-rows-via-then-len-rows+else-eq}
use Rattle.operator.proofs.lists.routes_of.Goals.{else-len-rows-via-else-len-rows}
use Rattle.operator.proofs.lists.routes_of.Goals as goal

pub loop-route-init : goal.loop-route-init
loop-route-init c table of is = subst
    (λ (routes : List Route). IsBegun c.args.candidates.now table routes 0)
    (sym c.in_ok-routes.ensures.items) (begun c.args.candidates.now table of)

pub loop-route-preserved : goal.loop-route-preserved
loop-route-preserved c table of is =
    let candidates = c.args.candidates.now in
    let rows = c.args.rows.now in
    let n = c.loop-route.route-index in
    let route = c.route-item.result in
    let routes = c.loop-route.routes.items in
    let before = c.loop-route.invariant table of is in
    let Now : List Route → Type 0 = λ l. IsBegun candidates table l (n + 1) in
    let less : length rows ≡ length table = ap length is ∙ length-map table row_of in
    elim c.if-len-rows.branch [
      | then-len-rows+then-eq+in_ok-push w ↦
          let k = w.len-then-len-rows.result in
          let here : k ≡ length routes = w.len-then-len-rows.ensures ∙ c.loop-route.routes.ok.0 in
          let within : k < length rows = omega
          (arith, w.if-len-rows.true, c.len.ensures, w.len-then-len-rows.ensures) in
          let row = w.index-rows-len.result in
          let prefix = sym (row_at table rows k route row is within)
          ∙ same_prefix (get_or rows k row).prefix route.prefix (sym w.if-eq.ensures) in
          let items = ap (λ (v : Vec Route Global). v.items) w.routes-is
          ∙ w.in_ok-push.ensures.items in
          subst Now (sym items)
          (added candidates table of routes n route c.loop-route-test.true c.route-item.is before
          (omega (arith, within, here, less))
          (subst (λ i. (get_or table i route).prefix ≡ route.prefix) here prefix))
      | else-len-rows w ↦
          subst (λ (v : Vec Route Global). Now v.items) (sym w.routes-is)
          (skipped candidates table of routes n route c.loop-route-test.true c.route-item.is before
          (λ low prefix. elim w.else-len-rows.branch [
            | else-len-rows-via-then-len-rows+else-eq w' ↦
                let k = w'.len-then-len-rows.result in
                let here : k ≡ length routes =
                w'.len-then-len-rows.ensures ∙ c.loop-route.routes.ok.0 in
                let within : k < length rows = omega (arith, low, here, less) in
                let row = w'.index-rows-len.result in
                other_prefix (get_or rows k row).prefix route.prefix (sym w'.if-eq.ensures)
                (row_at table rows k route row is within
                ∙ subst (λ i. (get_or table i route).prefix ≡ route.prefix) (sym here)
                prefix)
            | else-len-rows-via-else-len-rows w' ↦ absurd
                (omega (
                  arith,
                  w'.if-len-rows.false,
                  low,
                  less,
                  c.len.ensures,
                  c.loop-route.routes.ok.0,
                ))
          ]))
    ]

pub returns : goal.returns
returns c table of is = finished c.args.candidates.now table c.loop-route.routes.items
    c.loop-route.route-index (omega arith) (c.loop-route.invariant table of is)
