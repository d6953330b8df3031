-- Which socket belongs to which interface.
use Rattle.std.specs.Prelude.{◌≡◌, ◌⊎◌, ℕ, zero, suc, ◌<◌, List, [], ◌∷◌, Option, Some, None}
use Rattle.std.specs.Prelude.{length, map}
use Rattle.std.specs.Prelude.{slice_get, slice_index_or, IsTrue, MatchOption, SomeIndex}
use Rattle.std.specs.declared.io.Error.{Error}
use Rattle.console.specs.declared.configuration.ConfiguredInterface.{ConfiguredInterface}
use Rattle.worker.specs.declared.sockets.error.SocketError.{SocketError}
use Rattle.worker.specs.declared.sockets.error.SocketError.TheVariants as errors
use Rattle.worker.specs.declared.sockets.wire.Wire.{Wire}
use Rattle.worker.specs.SocketRefusals.{is_passing}

-- the one of the interface of this number: interface 1 has the first
abbrev pub wire_at : {Wire : Type 0} → List Wire → (interface : ℕ) → Option Wire
wire_at wires zero = None
wire_at wires (suc before) = slice_get wires before

-- what is said of a socket that was bound at a UDP port, and of a UDP port that couldn't be had
abbrev pub Bound : (Socket : Type 0) → Type 1
Bound Socket = Socket → (udp_port : ℕ) → Type 0

abbrev pub Refused : Type 1
Refused = (udp_port : ℕ) → Type 0

-- the wire is that of the interface: its socket was bound at the interface's UDP port, and its
-- packets go to the interface's peer
abbrev pub IsBound : {Socket : Type 0} → Bound Socket → ConfiguredInterface → Wire Socket → Type 0
IsBound bound configured wire =
    bound wire.socket configured.udp_port × (wire.peer ≡ configured.peer)

-- so is each of these, in order
abbrev pub AreBound : {Socket : Type 0} → Bound Socket → List ConfiguredInterface
    → List (Wire Socket) → Type 0
AreBound bound [] [] = Unit {0}
AreBound bound (configured ∷ interfaces) (wire ∷ wires) =
    IsBound bound configured wire × AreBound bound interfaces wires
AreBound bound [] (wire ∷ wires) = ⊥
AreBound bound (configured ∷ interfaces) [] = ⊥

-- it names an interface whose UDP port couldn't be had
abbrev pub IsRefusalOf : Refused → List ConfiguredInterface → SocketError → Type 0
IsRefusalOf refused interfaces (errors.Bind udp_port) =
    refused udp_port
    × SomeIndex interfaces (λ k.
    slice_index_or (map (λ configured. configured.udp_port) interfaces) k udp_port ≡ udp_port)
IsRefusalOf refused interfaces other = other ≡ errors.Memory

-- the socket of this interface was handed the bytes, for its peer; if there is no such interface,
-- none was
abbrev pub IsHandedOver : {Socket : Type 0} → (takes : Socket → ℕ → List ℕ → Type 0)
    → List (Wire Socket)
    → (interface : ℕ) → (bytes : List ℕ) → Type 0
IsHandedOver takes wires interface bytes =
    MatchOption (wire_at wires interface) (Unit {0}) (λ wire. takes wire.socket wire.peer bytes)

-- a receive was refused, and the socket is still of use: no datagram was there, or the like
abbrev pub IsNoneThere : {Socket : Type 0} → (refuses : Socket → Error → Type 0) → Socket → Type 0
IsNoneThere refuses socket =
    (error : Error) × refuses socket error × IsTrue (is_passing error)

-- Why a transport hears nothing of a socket: there was no datagram, nor after it has waited; or one
-- came that is lost. The code loses one only where memory lacks for it, which isn't said here.
abbrev pub IsSilent : {Socket : Type 0} → (hands : Socket → List ℕ → Type 0)
    → (refuses : Socket → Error → Type 0) → (waits : Type 0) → Socket → Type 0
IsSilent hands refuses waits socket =
    (IsNoneThere refuses socket × waits) ⊎ ((bytes : List ℕ) × hands socket bytes)

-- what came, if anything did, the socket of this interface gave; if nothing did, that socket was
-- silent, or there is none
abbrev pub IsHeardAt : {Socket : Type 0} → (hands : Socket → List ℕ → Type 0)
    → (refuses : Socket → Error → Type 0) → (waits : Type 0) → List (Wire Socket)
    → (interface : ℕ) → (heard : Option (List ℕ)) → Type 0
IsHeardAt hands refuses waits wires interface None =
    MatchOption (wire_at wires interface) (Unit {0})
    (λ wire. IsSilent hands refuses waits wire.socket)
IsHeardAt hands refuses waits wires interface (Some bytes) =
    MatchOption (wire_at wires interface) ⊥ (λ wire. hands wire.socket bytes)

-- ---- waiting

-- who waits has waited for a second, or until it was woken before
abbrev pub HasWaited : {Ear : Type 0} → (waited : Ear → (seconds : ℕ) → Ear → Type 0)
    → (before after : Option Ear) → Type 0
HasWaited waited None after = Unit {0}
HasWaited waited (Some before) None = ⊥
HasWaited waited (Some before) (Some after) = waited before 1 after

-- it waits at the socket of the interface of this number
abbrev pub IsListening : {Ear Socket : Type 0} → (listens : Ear → Socket → Type 0)
    → List (Wire Socket) → (interface : ℕ) → Option Ear → Type 0
IsListening listens wires interface None = ⊥
IsListening listens wires interface (Some ear) =
    MatchOption (wire_at wires interface) ⊥ (λ wire. listens ear wire.socket)

-- ---- why nobody waits

-- the socket of the interface of this number can't be waited at, or there is none; or memory was
-- refused
abbrev pub IsWhyNoneWaitsAt : {Socket : Type 0} → (fails : Socket → Type 0) → List (Wire Socket)
    → (interface : ℕ) → SocketError → Type 0
IsWhyNoneWaitsAt fails wires interface errors.Wait =
    MatchOption (wire_at wires interface) (Unit {0}) (λ wire. fails wire.socket)
IsWhyNoneWaitsAt fails wires interface (errors.Bind udp_port) = ⊥
IsWhyNoneWaitsAt fails wires interface errors.Memory = Unit {0}

-- one of these sockets can't be waited at, or there are more than the numbers of interfaces; or
-- memory was refused
abbrev pub IsWhyNoneWaits : {Socket : Type 0} → (fails : Socket → Type 0) → List (Wire Socket)
    → SocketError → Type 0
IsWhyNoneWaits fails wires errors.Wait =
    (65535 < length wires)
    ⊎ ((interface : ℕ) × MatchOption (wire_at wires interface) ⊥ (λ wire. fails wire.socket))
IsWhyNoneWaits fails wires (errors.Bind udp_port) = ⊥
IsWhyNoneWaits fails wires errors.Memory = Unit {0}
