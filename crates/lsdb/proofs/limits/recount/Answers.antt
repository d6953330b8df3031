use Rattle.std.proofs.Common.{cond, sym, ◌∙◌, arith}
use Rattle.keyed_map.specs.Slots.{count_after_change}
use Rattle.lsdb.specs.Limits.{is_own_external}
use Rattle.lsdb.proofs.Owned.{count_most}
use Rattle.lsdb.proofs.limits.recount.Goals as goal

-- one more is at most the number of LSAs
pub overflow_add-result : goal.overflow_add-result
overflow_add-result c =
    let own = sym c.is_own_external.ensures ∙ c.if-not-is_own_external.false in
    let n = c.args.externals in
    let more = c.requires
    ∙ (λ i. cond (own i) (count_after_change (c.if-held.false i) (c.if-holds.true i) n) n) in
    omega (
      arith,
      more,
      count_most (is_own_external c.args.router) c.args.copies.now.present,
      c.len-copies.ensures,
    )
