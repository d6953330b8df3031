-- A UDP port that can't be had is that of an interface.
use Rattle.std.proofs.Common.{◌≡◌, ℕ, zero, suc, ◌<◌, List, [], ◌∷◌, length, map, slice_index_or}
use Rattle.std.proofs.Common.{refl, sym, subst, arith}
use Rattle.console.specs.declared.configuration.ConfiguredInterface.{ConfiguredInterface}
use Rattle.worker.specs.declared.sockets.error.SocketError.{SocketError}
use Rattle.worker.specs.declared.sockets.error.SocketError.TheVariants.{Bind}
use Rattle.worker.specs.Wires.{IsRefusalOf, Refused}

udp_port_at : (interfaces : List ConfiguredInterface) (k : ℕ) (d : ConfiguredInterface) (other : ℕ)
    → k < length interfaces → slice_index_or (map (λ configured. configured.udp_port) interfaces) k
    other ≡ (slice_index_or interfaces k d).udp_port
udp_port_at [] k d other lt = absurd (omega arith)
udp_port_at (interface ∷ interfaces) zero d other lt = refl
udp_port_at (interface ∷ interfaces) (suc k) d other lt =
    udp_port_at interfaces k d other (omega arith)

pub refused_at : (refused : Refused) (interfaces : List ConfiguredInterface) (k : ℕ)
    (d : ConfiguredInterface) (error : SocketError) → k < length interfaces
    → error ≡ Bind (slice_index_or interfaces k d).udp_port
    → refused (slice_index_or interfaces k d).udp_port → IsRefusalOf refused interfaces error
refused_at refused interfaces k d error lt same had =
    subst (IsRefusalOf refused interfaces) (sym same)
    (had, (k, lt, udp_port_at interfaces k d (slice_index_or interfaces k d).udp_port lt))
