-- Why no router runs, as those below tell it.
use Rattle.std.specs.Prelude.{◌≡◌, ◌⊎◌, ℕ, List, map, slice_index_or, SomeIndex}
use Rattle.console.specs.Configurations.{Refuses, Says}
use Rattle.console.specs.declared.configuration.Configured.{Configured}
use Rattle.console.specs.declared.configuration.ConfiguredInterface.{ConfiguredInterface}
use Rattle.console.specs.declared.configuration.ConfigurationError.{ConfigurationError}
use Rattle.console.specs.declared.configuration.ConfigurationError.TheVariants as configuration
use Rattle.hooks.specs.Refusals.{refusal_number}
use Rattle.hooks.specs.declared.error.HookError.{HookError}
use Rattle.hooks.specs.declared.error.HookError.TheVariants as hook_error
use Rattle.worker.specs.declared.sockets.error.SocketError.{SocketError}
use Rattle.worker.specs.declared.sockets.error.SocketError.TheVariants as socket_error
use Rattle.daemon.specs.declared.error.StartError.{StartError}
use Rattle.daemon.specs.declared.error.StartError.TheVariants.{Configuration, Bind, Socket, Hooks}
use Rattle.daemon.specs.declared.error.StartError.TheVariants.{Output, Memory}

abbrev pub of_text : ConfigurationError → StartError
of_text (configuration.Line line) = Configuration line
of_text configuration.Memory = Memory

abbrev pub of_sockets : SocketError → StartError
of_sockets (socket_error.Bind udp_port) = Bind udp_port
of_sockets socket_error.Wait = Socket
of_sockets socket_error.Memory = Memory

abbrev pub of_hooks : HookError → StartError
of_hooks hook_error.Count = Hooks (refusal_number hook_error.Count)
of_hooks hook_error.Places = Hooks (refusal_number hook_error.Places)
of_hooks hook_error.Memory = Memory

-- ---- of a router that a text says

-- Its configuration is said, but it doesn't run over sockets that were had. Here and below
-- `unwritten` says that the output couldn't be written.
abbrev pub IsLaterWhy : (unwritten : Type 0) → StartError → Type 0
IsLaterWhy unwritten (Configuration line) = line ≡ 1
IsLaterWhy unwritten (Bind udp_port) = ⊥
IsLaterWhy unwritten (Hooks number) = (number ≡ 1) ⊎ (number ≡ 3)
IsLaterWhy unwritten Socket = Unit {0}
IsLaterWhy unwritten Output = unwritten
IsLaterWhy unwritten Memory = Unit {0}

-- one of these interfaces is to have its socket at this UDP port
abbrev pub IsUdpPortOf : List ConfiguredInterface → (udp_port : ℕ) → Type 0
IsUdpPortOf interfaces udp_port = SomeIndex interfaces (λ k.
    slice_index_or (map (λ configured. configured.udp_port) interfaces) k udp_port ≡ udp_port)

-- Why no router that this text says runs: the first line that is wrong or missing, or that of the
-- router, if it isn't within the profile; a UDP port of one of its interfaces; no places for those
-- who ask the programs; output that couldn't be written.
abbrev pub IsWhy : (unwritten : Type 0) → (text : List ℕ) → StartError → Type 0
IsWhy unwritten text (Configuration line) =
    Refuses text line ⊎ ((line ≡ 1) × ((configured : Configured) × Says text configured))
IsWhy unwritten text (Bind udp_port) =
    (configured : Configured) × Says text configured × IsUdpPortOf configured.interfaces udp_port
IsWhy unwritten text (Hooks number) =
    ((number ≡ 1) ⊎ (number ≡ 3)) × ((configured : Configured) × Says text configured)
IsWhy unwritten text Socket = (configured : Configured) × Says text configured
IsWhy unwritten text Output = unwritten × ((configured : Configured) × Says text configured)
IsWhy unwritten text Memory = Unit {0}
