-- Worked command lines.
use Rattle.std.specs.Prelude.{◌≡◌, List, [], ◌∷◌, ℕ, codes, replicate}
use Rattle.std.specs.Borrow.{Bor}
use Rattle.std.specs.Global.{Vec}
use Rattle.clap.specs.Faults.{fault_of}
use Rattle.clap.specs.Kinds.{Kinds}
use Rattle.clap.specs.Simple.{App}
use Rattle.clap.specs.Walk.{Text}
use Rattle.clap.specs.declared.error.kind.ErrorKind.TheVariants as kinds
use Rattle.commands.specs.CommandLine.{IsCommandLine}
use Rattle.commands.specs.Requests.{Asks}
use Rattle.commands.specs.declared.requests.CommandRequest.{CommandRequest}
use Rattle.commands.specs.declared.requests.CommandRequest.TheVariants as requests
use Rattle.isa.specs.declared.hook.Hook.TheVariants as hooks

-- These words have a mistake of one of these kinds.
abbrev pub Fails : List Text → Kinds → Type 0
Fails words mistakes = (line : App) → IsCommandLine line → fault_of line words ≡ mistakes

abbrev pub AsksFor : List Text → CommandRequest → Type 0
AsksFor words request = (line : App) → IsCommandLine line → Asks line words request

abbrev pub NoWordsGetHelp : Type 0
NoWordsGetHelp = Fails (codes "routerd" ∷ []) (kinds.DisplayHelpOnMissingArgumentOrSubcommand ∷ [])

abbrev pub TooManySeatsFail : Type 0
TooManySeatsFail =
    Fails (codes "routerd" ∷ codes "raw" ∷ codes "count" ∷ codes "adds.bin" ∷ codes "65" ∷ [])
    (kinds.ValueValidation ∷ [])

abbrev pub NoSeatsFail : Type 0
NoSeatsFail =
    Fails (codes "routerd" ∷ codes "raw" ∷ codes "count" ∷ codes "adds.bin" ∷ codes "0" ∷ [])
    (kinds.ValueValidation ∷ [])

abbrev pub UnknownHookFails : Type 0
UnknownHookFails =
    Fails (codes "routerd" ∷ codes "raw" ∷ codes "input" ∷ codes "adds.bin" ∷ codes "2" ∷ [])
    (kinds.InvalidValue ∷ [])

abbrev pub UnknownCommandFails : Type 0
UnknownCommandFails =
    Fails (codes "routerd" ∷ codes "load" ∷ codes "a.o" ∷ [])
    (kinds.UnknownArgument ∷ kinds.InvalidSubcommand ∷ [])

abbrev pub AWordIsMissing : Type 0
AWordIsMissing =
    Fails (codes "routerd" ∷ codes "raw" ∷ codes "count" ∷ codes "adds.bin" ∷ [])
    (kinds.MissingRequiredArgument ∷ [])

abbrev pub AWordTooMany : Type 0
AWordTooMany =
    Fails (codes "routerd" ∷ codes "list" ∷ codes "a" ∷ codes "b" ∷ []) (kinds.UnknownArgument ∷ [])

abbrev pub AFlagFails : Type 0
AFlagFails = Fails (codes "routerd" ∷ codes "list" ∷ codes "-a" ∷ []) (kinds.UnknownArgument ∷ [])

abbrev pub HelpIsShown : Type 0
HelpIsShown = Fails (codes "routerd" ∷ codes "--help" ∷ []) (kinds.DisplayHelp ∷ [])

-- `raw count adds.bin 2`
abbrev pub RawAsks : Type 0
RawAsks = (file : Bor Text) → file.now ≡ codes "adds.bin"
    → AsksFor (codes "routerd" ∷ codes "raw" ∷ codes "count" ∷ codes "adds.bin" ∷ codes "2" ∷ [])
    (requests.Raw hooks.Count file 2)

-- `run a.o - -` asks for a context of 64 zeros and no packet.
abbrev pub RunAsks : Type 0
RunAsks = (object : Bor Text) (packet : Vec ℕ) → object.now ≡ codes "a.o" → packet.items ≡ []
    → AsksFor (codes "routerd" ∷ codes "run" ∷ codes "a.o" ∷ codes "-" ∷ codes "-" ∷ [])
    (requests.Run object (replicate 64 0) packet)

abbrev pub WorkedWords : Type 0
WorkedWords = NoWordsGetHelp × TooManySeatsFail × NoSeatsFail × UnknownHookFails
    × UnknownCommandFails × AWordIsMissing × AWordTooMany × AFlagFails
    × HelpIsShown × RawAsks × RunAsks
