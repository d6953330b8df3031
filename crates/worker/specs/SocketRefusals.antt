-- What a call at a socket that the system refused says: that a packet is lost, or that the socket
-- is of no use.
use Rattle.std.specs.Prelude.{ℤ, pos, negsuc, Bool, true, false, Option, Some, None, ◌==◌, ◌||◌}
use Rattle.std.specs.IoError.{error_kind, raw_os_error}
use Rattle.std.specs.declared.io.Error.{Error}
use Rattle.std.specs.declared.io.ErrorKind.{ErrorKind}
use Rattle.std.specs.declared.io.ErrorKind.TheVariants.{WouldBlock, Interrupted, PermissionDenied}
use Rattle.std.specs.declared.io.ErrorKind.TheVariants.{NetworkDown, NetworkUnreachable}
use Rattle.std.specs.declared.io.ErrorKind.TheVariants.{HostUnreachable, ConnectionRefused}
use Rattle.std.specs.declared.io.ErrorKind.TheVariants.{ConnectionReset, AddrNotAvailable, TimedOut}
use Rattle.std.specs.declared.io.ErrorKind.TheVariants.{OutOfMemory, InvalidInput}

-- the reason is the packet's, its way's, or the moment's: a rule of a firewall or of the routes, no
-- way there, nobody there, no memory
abbrev pub is_passing_kind : ErrorKind → Bool
is_passing_kind WouldBlock = true
is_passing_kind Interrupted = true
is_passing_kind PermissionDenied = true
is_passing_kind NetworkDown = true
is_passing_kind NetworkUnreachable = true
is_passing_kind HostUnreachable = true
is_passing_kind ConnectionRefused = true
is_passing_kind ConnectionReset = true
is_passing_kind AddrNotAvailable = true
is_passing_kind TimedOut = true
is_passing_kind OutOfMemory = true
is_passing_kind _ = false

-- so it is at these of the system's numbers, which have no kind: a packet that is too long, a
-- network that was reset, no room in the system's queues, a host that is down
abbrev pub is_passing_number : Option ℤ → Bool
is_passing_number (Some (pos number)) = (number == 90) || (number == 102) || (number == 105) ||
    (number == 112)
is_passing_number (Some (negsuc number)) = false
is_passing_number None = false

-- the socket is of use after that
abbrev pub is_passing : Error → Bool
is_passing error = is_passing_kind (error_kind error) || is_passing_number (raw_os_error error)

-- a route that lets packets vanish refuses a send as an argument that is wrong
abbrev pub is_lost_kind : ErrorKind → Bool
is_lost_kind InvalidInput = true
is_lost_kind _ = false

-- a packet that was to be sent is lost, and the socket is of use after that
abbrev pub is_lost : Error → Bool
is_lost error = is_passing error || is_lost_kind (error_kind error)
