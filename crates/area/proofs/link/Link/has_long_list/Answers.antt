use Rattle.std.proofs.Common.{◌≡◌, true, false, nat_lt, arith, ap, ◌∙◌, ◌||◌}
use Rattle.std.specs.FinMap as finite
use Rattle.received.specs.Links.{has_long_list, requested_of}
use Rattle.area.proofs.AnyLink.{either_false, either_true}
use Rattle.area.proofs.link.Link.has_long_list.Goals as goal

pub returns-then-requested-gt-MAX_LSAS : goal.returns-then-requested-gt-MAX_LSAS
returns-then-requested-gt-MAX_LSAS c =
    let link = c.args.self.now.present in
    let many : nat_lt 16384 c.requested.result ≡ true = grind (arith, c.if-requested-gt-MAX_LSAS.true) in
    either_true (nat_lt 16384 c.requested.result) (nat_lt 32768 (finite.len link.acknowledgments)) many
    ∙ ap (λ n. nat_lt 16384 n || nat_lt 32768 (finite.len link.acknowledgments)) c.requested.ensures

pub returns-else-requested-gt-MAX_LSAS : goal.returns-else-requested-gt-MAX_LSAS
returns-else-requested-gt-MAX_LSAS c =
    let few : nat_lt 16384 c.requested.result ≡ false = grind (arith, c.if-requested-gt-MAX_LSAS.false) in
    let delayed = c.len.ensures ∙ ap (λ k. finite.len k.present.acknowledgments) c.self.view_is in
    either_false (nat_lt 16384 c.requested.result) (nat_lt 32768 c.len.result) few
    ∙ (λ i. nat_lt 16384 (c.requested.ensures i) || nat_lt 32768 (delayed i))
