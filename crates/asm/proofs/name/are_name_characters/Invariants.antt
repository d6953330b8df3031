use Rattle.std.proofs.Common.{◌≡◌, drop}
use Rattle.asm.specs.Names.{are_name_characters}
use Rattle.asm.proofs.name.are_name_characters.Given as goal

-- the bytes before this one may stand in a name
abbrev pub invariant-loop-byte : goal.invariant-loop-byte
invariant-loop-byte l = are_name_characters l.bytes
    ≡ are_name_characters (drop l.byte-index l.bytes)
