-- The status that the program ends with: if no router runs, and after one ran.
use Rattle.std.specs.Prelude.{◌≡◌, ◌⊎◌, ℕ, Bool, List, ◌||◌, if◌then◌else◌, length, map}
use Rattle.std.specs.List.{list_any}
use Rattle.event_rules.specs.Events.{initial}
use Rattle.event_rules.specs.Routers.{Router}
use Rattle.event_rules.specs.declared.model.Config.{Config}
use Rattle.console.specs.Configurations.{Says}
use Rattle.console.specs.declared.configuration.Configured.{Configured}
use Rattle.worker.specs.Ends.{has_failed}
use Rattle.daemon.specs.declared.error.StartError.{StartError}
use Rattle.daemon.specs.declared.error.StartError.TheVariants.{Configuration, Bind, Socket, Hooks}
use Rattle.daemon.specs.declared.error.StartError.TheVariants.{Output, Memory}
use Rattle.daemon.specs.declared.labor.EndedWorker.{EndedWorker}
use Rattle.daemon.specs.declared.ended_router.EndedRouter.{EndedRouter}
use Rattle.daemon.specs.Refusals.{IsWhy}
use Rattle.daemon.specs.Talks.{has_input_failed}

-- 1 refused, 3 a socket or the output, 4 memory
abbrev pub status_of : StartError → ℕ
status_of (Configuration line) = 1
status_of (Hooks number) = 1
status_of (Bind udp_port) = 3
status_of Socket = 3
status_of Output = 3
status_of Memory = 4

-- ---- of a router that ran

abbrev pub any_failed : List EndedWorker → Bool
any_failed workers = list_any (λ (worker : EndedWorker). has_failed worker.end) workers

-- 3 if the transport of a worker or of the console failed, or the input couldn't be read, else 0
abbrev pub status_of_ended : EndedRouter → ℕ
status_of_ended ended =
    if any_failed ended.workers.items || has_failed ended.console
    || has_input_failed ended.ended_console then 3 else 0

-- ---- which router ran

-- A router that began as this one ran, with an `EndedWorker` for each of this number of interfaces.
-- Only `labor::work` makes one, of a worker that lived until it was told to end or its transport
-- failed.
pub record HasRan (origin : Router) (interfaces : ℕ) (ended : EndedRouter) : Type 0 where
  pub began : ended.origin.value ≡ origin
  pub workers : length ended.workers.items ≡ interfaces

-- the router's configuration is what was configured, without UDP ports
abbrev pub IsConfigOf : Configured → Config → Type 0
IsConfigOf configured config =
    (config.router ≡ configured.router)
    × (config.interfaces ≡ map (λ configured. configured.interface) configured.interfaces)

-- one of this configuration ran, over this number of sockets
abbrev pub HasRanOver : (sockets : ℕ) → Configured → EndedRouter → Type 0
HasRanOver sockets configured ended =
    (config : Config) × IsConfigOf configured config × HasRan (initial config) sockets ended

-- one ran whose configuration is said by this text, with a socket for each of its interfaces
abbrev pub HasRanFor : (text : List ℕ) → EndedRouter → Type 0
HasRanFor text ended =
    (configured : Configured) × Says text configured
    × HasRanOver (length configured.interfaces) configured ended

-- the program ends as such a router ran; or, if none did, as the reason says, or as output that
-- couldn't be written when that was told
abbrev pub EndsSo : (unwritten : Type 0) → (text : List ℕ) → (status : ℕ) → Type 0
EndsSo unwritten text status =
    ((ended : EndedRouter) × HasRanFor text ended × (status ≡ status_of_ended ended))
    ⊎ ((error : StartError) × IsWhy unwritten text error
    × ((status ≡ status_of error) ⊎ ((status ≡ 3) × unwritten)))
