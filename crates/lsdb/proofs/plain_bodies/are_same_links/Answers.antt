use Rattle.std.proofs.Common.{◌≡◌, ℕ, ◌<◌, ◌+◌, length, get_or, arith, sym, ◌∙◌, below_more}
use Rattle.std.proofs.lemmas.List.{get_or_default, same_lists}
use Rattle.lsa.specs.declared.body.RouterLink.{RouterLink}
use Rattle.lsdb.proofs.plain_bodies.are_same_links.Goals as goal

pub returns : goal.returns
returns c = λ t.
    same_lists c.args.old.now c.args.new.now c.if-old-new.false
    (λ k d within. c.loop-at.invariant k d (omega (arith, within, c.loop-at-test.false)))

pub loop-at-preserved : goal.loop-at-preserved
loop-at-preserved c = λ k d before.
    let old = c.args.old.now in
    let new = c.args.new.now in
    let at = c.loop-at.at in
    let here : (e : RouterLink) → get_or old at e ≡ get_or new at e = λ e.
    let within : at < length old = c.loop-at-test.true in
    let within_new : at < length new = omega (arith, within, c.if-old-new.false) in
    get_or_default old at e c.index-old-at.result within ∙ sym c.index-old-at.is
    ∙ c.are_one_link.ensures c.if-not-are_one_link.false
    ∙ c.index-new-at.is ∙ get_or_default new at c.index-new-at.result e within_new in
    let all : (j : ℕ) → j < at + 1 → (e : RouterLink) → get_or old j e ≡ get_or new j e =
    below_more _ _ (λ j less e. c.loop-at.invariant j e less) here in
    all k before d
