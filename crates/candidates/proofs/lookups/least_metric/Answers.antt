use Rattle.std.proofs.Common.{◌≡◌, Some, length, slice_get, arith, refl, sym, ◌∙◌}
use Rattle.std.proofs.lemmas.Bool.{false≢true}
use Rattle.std.proofs.lemmas.Option.{slice_get_read}
use Rattle.candidates.specs.declared.entry.AdvertisedLink.{AdvertisedLink}
use Rattle.candidates.proofs.EntryOrder.{least_beside, none_beside, none_left}
use Rattle.candidates.proofs.lookups.least_metric.Goals as goal

pub returns-then-at-entries : goal.returns-then-at-entries
returns-then-at-entries c =
    let low : AdvertisedLink = record {
      router = c.args.router;
      kind = c.args.kind;
      id = c.args.id;
      metric = c.args.from;
      place = 0;
    } in
    none_left c.args.entries.now c.requires low c.first_at-at.result c.first_at-at.ensures.before
    c.first_at-at.ensures.beyond refl (omega (arith, c.if-at-entries.true))

pub returns-then-is_beside : goal.returns-then-is_beside
returns-then-is_beside c =
    let low : AdvertisedLink = record {
      router = c.args.router;
      kind = c.args.kind;
      id = c.args.id;
      metric = c.args.from;
      place = 0;
    } in
    let entries = c.args.entries.now in
    let at = c.first_at-at.result in
    let found = c.index-entries-at.result in
    let here : slice_get entries at ≡ Some found =
    slice_get_read entries (length entries) at found refl
    (omega (arith, c.if-at-entries.false, c.first_at-at.ensures.within))
    c.index-entries-at.is in
    least_beside entries c.requires low at c.first_at-at.ensures.before c.first_at-at.ensures.beyond
    refl found here (c.is_beside.ensures.0 c.if-is_beside.true)

pub returns-else-is_beside : goal.returns-else-is_beside
returns-else-is_beside c =
    let low : AdvertisedLink = record {
      router = c.args.router;
      kind = c.args.kind;
      id = c.args.id;
      metric = c.args.from;
      place = 0;
    } in
    let entries = c.args.entries.now in
    let at = c.first_at-at.result in
    let found = c.index-entries-at.result in
    let here : slice_get entries at ≡ Some found =
    slice_get_read entries (length entries) at found refl
    (omega (arith, c.if-at-entries.false, c.first_at-at.ensures.within))
    c.index-entries-at.is in
    none_beside entries c.requires low at c.first_at-at.ensures.before c.first_at-at.ensures.beyond
    refl found here (λ t. false≢true (sym c.if-is_beside.false ∙ c.is_beside.ensures.1 t))
