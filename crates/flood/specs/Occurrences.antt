-- The event of the router's rules for an event of the code.
use Rattle.std.specs.Prelude.{Bool, true, false}
pub use Rattle.hooks.specs.VetoAnswers.{words_of}
use Rattle.event_rules.specs.Routers.{Occurrence}
use Rattle.flood.specs.declared.event.Event.{Event}
use Rattle.flood.specs.declared.event.Event.TheVariants as event

abbrev pub occurrence_of : Event → Occurrence
occurrence_of (event.Packet interface bytes) = Occurrence.Packet interface bytes
occurrence_of event.Tick = Occurrence.Tick
occurrence_of (event.Redistribute tag price) =
    Occurrence.Redistribute tag.external tag.word price.external price.word
occurrence_of (event.Withdraw prefix) = Occurrence.Withdraw prefix
occurrence_of (event.Install answers) = Occurrence.Install (words_of answers)
occurrence_of (event.LinkDown interface) = Occurrence.LinkDown interface

-- it replaces the programs' answers about routes
abbrev pub is_install : Occurrence → Bool
is_install (Occurrence.Packet interface bytes) = false
is_install Occurrence.Tick = false
is_install (Occurrence.Redistribute tagged tag priced price) = false
is_install (Occurrence.Withdraw prefix) = false
is_install (Occurrence.Install answers) = true
is_install (Occurrence.LinkDown interface) = false
