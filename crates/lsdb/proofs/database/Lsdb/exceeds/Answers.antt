use Rattle.std.proofs.Common.{◌≡◌, true, false, nat_lt, arith, ap, ◌∙◌}
use Rattle.lsdb.specs.Limits.{exceeds}
use Rattle.lsdb.proofs.Owned.{either_false, either_true, exceeds_counted}
use Rattle.lsdb.proofs.database.Lsdb.exceeds.Goals as goal

pub returns-then-len-gt-MAX_LSAS : goal.returns-then-len-gt-MAX_LSAS
returns-then-len-gt-MAX_LSAS c =
    let all = exceeds_counted c.self.inside.router c.self.inside.copies.present c.len.result
    c.self.inside.externals c.len.ensures c.self.invariant.counted in
    let many : nat_lt 16384 c.len.result ≡ true = grind (arith, c.if-len-gt-MAX_LSAS.true) in
    either_true (nat_lt 16384 c.len.result) (nat_lt 4096 c.self.inside.externals) many
    ∙ all ∙ ap (λ h. exceeds h.router h.present) c.self.view_is

pub returns-else-len-gt-MAX_LSAS : goal.returns-else-len-gt-MAX_LSAS
returns-else-len-gt-MAX_LSAS c =
    let all = exceeds_counted c.self.inside.router c.self.inside.copies.present c.len.result
    c.self.inside.externals c.len.ensures c.self.invariant.counted in
    let few : nat_lt 16384 c.len.result ≡ false = grind (arith, c.if-len-gt-MAX_LSAS.false) in
    either_false (nat_lt 16384 c.len.result) (nat_lt 4096 c.self.inside.externals) few
    ∙ all ∙ ap (λ h. exceeds h.router h.present) c.self.view_is
