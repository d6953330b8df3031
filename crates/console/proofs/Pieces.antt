-- Texts of several pieces.
use Rattle.std.proofs.Common.{◌≡◌, ℕ, List, ◌++◌, append_assoc, refl}

pub three_pieces : (old first second new a b c : List ℕ) → first ≡ old ++ a → second ≡ first ++ b
    → new ≡ second ++ c → new ≡ old ++ (a ++ (b ++ c))
three_pieces old first second new a b c e f g = rw (g, f, e) (rw (append_assoc, append_assoc) refl)
