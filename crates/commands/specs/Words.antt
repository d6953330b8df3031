-- The words that stand for hooks, contexts and packets.
use Rattle.std.specs.Prelude.{◌≡◌, ◌≢◌, ◌⊎◌, ℕ, List, [], codes, replicate, Ok}
use Rattle.hex.specs.Hex.{decode_of, decode_sized}
pub use Rattle.isa.specs.Hooks.{hook_name}

-- 64 zeros for `-`, else 64 bytes in hex
abbrev pub IsContext : List ℕ → List ℕ → Type 0
IsContext word context = ((word ≡ codes "-") × (context ≡ replicate 64 0))
    ⊎ ((word ≢ codes "-") × (decode_sized word 64 ≡ Ok context))

-- none for `-`, else bytes in hex
abbrev pub IsPacket : List ℕ → List ℕ → Type 0
IsPacket word packet = ((word ≡ codes "-") × (packet ≡ []))
    ⊎ ((word ≢ codes "-") × (decode_of word ≡ Ok packet))
