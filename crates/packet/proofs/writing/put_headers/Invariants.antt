use Rattle.std.proofs.Common.{◌≡◌, ◌++◌, take}
use Rattle.std.specs.List.{flat_map}
use Rattle.lsa.specs.Headers.{header_text}
use Rattle.packet.proofs.writing.put_headers.Given as goal

abbrev pub invariant-loop-header : goal.invariant-loop-header
invariant-loop-header l = l.out.items ≡ l.fn.out.items
    ++ flat_map header_text (take l.header-index l.headers)
