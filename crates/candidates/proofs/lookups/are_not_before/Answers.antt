use Rattle.std.proofs.Common.{◌≡◌, Some, length, slice_get, arith, refl, sym, ◌∙◌}
use Rattle.std.proofs.lemmas.Bool.{false≢true}
use Rattle.std.proofs.lemmas.Option.{slice_get_read, slice_get_within}
use Rattle.candidates.specs.Entries.{entry_cmp}
use Rattle.candidates.proofs.KeyNodes.{lt_false}
use Rattle.candidates.proofs.EntryOrder.{higher_ones}
use Rattle.candidates.proofs.lookups.are_not_before.Goals as goal

pub returns-then-place-entries : goal.returns-then-place-entries
returns-then-place-entries c = λ t k other there high less. omega
    (arith, high, c.if-place-entries.true, slice_get_within c.args.entries.now k other there)

pub returns-then-is_before : goal.returns-then-is_before
returns-then-is_before c = λ t. absurd (false≢true t)

pub returns : goal.returns
returns c = λ t k other there high.
    let entries = c.args.entries.now in
    let at = c.args.place in
    let first = c.index-entries-place.result in
    let here : slice_get entries at ≡ Some first =
    slice_get_read entries (length entries) at first refl
    (omega (arith, c.requires.within, c.if-place-entries.false)) c.index-entries-place.is in
    higher_ones entries c.args.entry.now c.requires.sorted at first here
    (lt_false (entry_cmp first c.args.entry.now)
    (sym c.is_before.ensures ∙ c.if-is_before.false)) k other there high
