use Rattle.std.proofs.Common.{◌≡◌, ◌-◌, ℕ, Some, length, slice_get, arith, refl, sym, ◌∙◌}
use Rattle.std.proofs.lemmas.Option.{slice_get_read}
use Rattle.candidates.specs.Entries.{entry_cmp}
use Rattle.candidates.proofs.KeyNodes.{lt_true}
use Rattle.candidates.proofs.EntryOrder.{lower_ones}
use Rattle.candidates.proofs.lookups.are_before.Goals as goal

pub returns-then-place-gt0 : goal.returns-then-place-gt0
returns-then-place-gt0 c = λ t k other there low.
    let entries = c.args.entries.now in
    let at : ℕ = c.args.place - 1 in
    let last = c.index-entries-last.result in
    let here : slice_get entries at ≡ Some last =
    slice_get_read entries (length entries) at last refl
    (omega (arith, c.requires.within, c.if-place-gt0.true)) c.index-entries-last.is in
    lower_ones entries c.args.entry.now c.requires.sorted at last here
    (lt_true (entry_cmp last c.args.entry.now) (sym c.is_before.ensures ∙ t)) k other there
    (omega (arith, low))

pub returns : goal.returns
returns c = λ t k other there low. absurd (omega (arith, low, c.if-place-gt0.false))
