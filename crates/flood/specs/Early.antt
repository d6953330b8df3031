-- Refusals of an event that are determined before anything is allocated: for its moment, or for its
-- interface.
use Rattle.std.specs.Prelude.{if◌then◌else◌, Option, None, Some}
use Rattle.words.specs.Numbers.{Moment}
use Rattle.event_rules.specs.declared.model.CoreError.{CoreError}
use Rattle.event_rules.specs.declared.model.CoreError.TheVariants as error
use Rattle.event_rules.specs.Refusals.{is_clock_back, no_interface}
use Rattle.event_rules.specs.Routers.{Occurrence, Router}

-- for the interface of a packet, or of a link that went down
abbrev pub early_refusal_of : Router → Occurrence → Option CoreError
early_refusal_of old (Occurrence.Packet interface bytes) = no_interface interface old None
early_refusal_of old Occurrence.Tick = None
early_refusal_of old (Occurrence.Redistribute tagged tag priced price) = None
early_refusal_of old (Occurrence.Withdraw prefix) = None
early_refusal_of old (Occurrence.Install answers) = None
early_refusal_of old (Occurrence.LinkDown interface) = no_interface interface old None

-- for the moment, and then for the interface
abbrev pub early_refusal : Router → Moment → Occurrence → Option CoreError
early_refusal old moment event =
    if is_clock_back moment old then Some error.ClockBack else early_refusal_of old event
