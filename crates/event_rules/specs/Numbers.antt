-- The numbers of the refusals, and the refusal of a packet that can't be parsed.
use Rattle.std.specs.Prelude.{ℕ}
use Rattle.packet.specs.declared.refusal.PacketError.{PacketError}
use Rattle.packet.specs.declared.refusal.PacketError.TheVariants as reading
use Rattle.event_rules.specs.declared.model.ConfigError.{ConfigError}
use Rattle.event_rules.specs.declared.model.ConfigError.TheVariants as configuring
use Rattle.event_rules.specs.declared.model.CoreError.{CoreError}
use Rattle.event_rules.specs.declared.model.CoreError.TheVariants as refusing

abbrev pub config_error_number : ConfigError → ℕ
config_error_number configuring.Interface = 1
config_error_number configuring.Memory = 2

abbrev pub core_error_number : CoreError → ℕ
core_error_number (refusing.BadPacket f) = 1
core_error_number refusing.NoInterface = 2
core_error_number refusing.Clash = 3
core_error_number refusing.ClockBack = 4
core_error_number refusing.Full = 5
core_error_number refusing.Memory = 6

-- the router's error for a packet that can't be parsed
abbrev pub core_error_of : PacketError → CoreError
core_error_of (reading.Fault f) = refusing.BadPacket f
core_error_of reading.Memory = refusing.Memory
