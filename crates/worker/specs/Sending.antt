-- What a transport is given to send.
use Rattle.std.specs.Prelude.{◌≡◌, ℕ, List, [], ◌∷◌}
use Rattle.event_rules.specs.declared.model.Out.{Out}

-- what is said of a transport before and after bytes for an interface were given to it
abbrev pub Gives : (Transport : Type 0) → Type 1
Gives Transport = (before : Transport) → (interface : ℕ) → (bytes : List ℕ) → (after : Transport)
    → Type 0

-- it was given each of these, in their order, and nothing else
abbrev pub IsGivenEach : {Transport : Type 0} → Gives Transport → (before : Transport) → List Out
    → (after : Transport) → Type 0
IsGivenEach gives before [] after = after ≡ before
IsGivenEach {Transport = Transport} gives before (out ∷ outs) after =
    (between : Transport) × gives before out.interface out.bytes between
    × IsGivenEach gives between outs after
