-- Addresses of the system.
use Rattle.std.specs.Prelude.{ℕ, List, []}
use Rattle.std.specs.Net.Addr.{ipv4_octets}
use Rattle.std.specs.declared.net.ip_addr.IpAddr.{IpAddr}
use Rattle.std.specs.declared.net.ip_addr.IpAddr.TheVariants.{V4, V6}

-- the bytes of an IPv4 address, none of another one
abbrev pub octets : IpAddr → List ℕ
octets (V4 a) = ipv4_octets a
octets (V6 a) = []
