use Rattle.std.proofs.Common.{◌≡◌, rules}
use Rattle.std.proofs.lemmas.Fn.{always_returns_same}
use Rattle.std.specs.Ordering.{is_lt}
use Rattle.candidates.specs.Entries.{entry_cmp}
use Rattle.candidates.specs.declared.entry.AdvertisedLink.{AdvertisedLink}
use Rattle.candidates.proofs.EntryOrder.{IsPoint, before, beyond, parted}
use Rattle.candidates.proofs.lookups.first_at.Goals as goal

pub returns : goal.returns
returns c =
    let entries = c.args.entries.now in
    let entry = c.args.entry.now in
    let at = c.partition_point.result in
    let point : IsPoint entries entry at =
    c.partition_point.ensures.partitioned (λ (y : AdvertisedLink). is_lt (entry_cmp y entry))
    (always_returns_same _ (λ a r. r ≡ is_lt (entry_cmp a.0.now entry)) _
    (λ a r q k. search rules)) (parted entries entry c.requires) in
    record {
      within = c.partition_point.ensures.bound;
      before = before entries entry at point;
      beyond = beyond entries entry at point;
    }
