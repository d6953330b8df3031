use Rattle.std.proofs.Common.{◌≡◌, ◌≤◌, ◌<◌, ◌+◌, ◌-◌, false, arith, subst, sym}
use Rattle.lsdb.specs.Copies.{DatabaseCopy, is_aged_out}
use Rattle.lsdb.proofs.Foresight.{young_before}
use Rattle.lsdb.proofs.stored.StoredLsa.young_until.Goals as goal

pub returns : goal.returns
returns c = λ moment before.
    let times = c.self.inside.times in
    let young : times.age < 3600 = subst (λ (x : DatabaseCopy). x.lsa.header.age < 3600)
    (sym c.self.view_is) c.requires in
    let late : c.new.result ≤ times.stored + (3600 - times.age) =
    grind (
      arith,
      c.new.ensures,
      c.saturating_add.ensures,
      c.from.ensures,
      c.count.ensures,
      c.saturating_sub-left.ensures,
    ) in
    subst (λ (x : DatabaseCopy). is_aged_out moment x ≡ false) c.self.view_is
    (young_before times.age times.stored c.new.result moment young late before)
