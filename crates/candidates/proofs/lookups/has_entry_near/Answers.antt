use Rattle.std.proofs.Common.{◌≡◌, Some, length, slice_get, arith, refl}
use Rattle.std.proofs.lemmas.Option.{slice_get_read}
use Rattle.candidates.proofs.EntryOrder.{has_found}
use Rattle.candidates.proofs.lookups.has_entry_near.Goals as goal

pub returns-then-is_of : goal.returns-then-is_of
returns-then-is_of c =
    let entries = c.args.entries.now in
    let at = c.loop-at.at in
    let found = c.index-entries-at.result in
    let here : slice_get entries at ≡ Some found =
    slice_get_read entries (length entries) at found refl
    (omega (arith, c.few_from-end.ensures, c.loop-at-test.true)) c.index-entries-at.is in
    let same = c.is_of.ensures.0 c.if-is_of.true in (
      (λ t. has_found entries at found c.args.router c.args.kind c.args.id here same.1 same.2
          same.0),
      (λ has. refl),
    )
