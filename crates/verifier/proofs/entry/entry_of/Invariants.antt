use Rattle.std.proofs.Common.{◌≡◌, ℕ, get_or}
use Rattle.kinds.specs.declared.state.Kind.TheVariants.{Unknown}
use Rattle.verifier.proofs.Entries.{entry_kinds}
use Rattle.verifier.proofs.entry.entry_of.Given as goal

-- the kinds not written yet are empty
abbrev pub invariant-loop-register : goal.invariant-loop-register
invariant-loop-register g l = (r : ℕ)
    → get_or l.kinds.items r Unknown ≡ get_or entry_kinds r Unknown
