-- Laws of command lines.
use Rattle.std.specs.Prelude.{◌≡◌, ◌≢◌, ◌⊎◌, ⊤, ℕ, List, [], ◌∷◌, codes}
use Rattle.std.specs.Borrow.{Bor}
use Rattle.std.specs.Global.{Vec}
use Rattle.clap.specs.Faults.{fault_of}
use Rattle.clap.specs.Simple.{App, subcommand_of}
use Rattle.clap.specs.Walk.{Text}
use Rattle.clap.specs.declared.error.Error.{Error}
use Rattle.commands.specs.CommandLine.{IsCommandLine}
use Rattle.commands.specs.Requests.{Asks, IsMistake, IsSeats}
use Rattle.commands.specs.Words.{IsContext, IsPacket, hook_name}
use Rattle.commands.specs.declared.requests.CommandRequest.{CommandRequest}
use Rattle.commands.specs.declared.requests.CommandRequest.TheVariants as requests
use Rattle.isa.specs.declared.hook.Hook.{Hook}

-- The same command, with the same texts, numbers and bytes, wherever they are in memory.
abbrev pub SameRequest : CommandRequest → CommandRequest → Type 0
SameRequest (requests.Raw hook file seats) (requests.Raw hook_2 file_2 seats_2) =
    (hook ≡ hook_2) × (file.now ≡ file_2.now) × (seats ≡ seats_2)
SameRequest (requests.Run object context packet) (requests.Run object_2 context_2 packet_2) =
    (object.now ≡ object_2.now) × (context ≡ context_2) × (packet.items ≡ packet_2.items)
SameRequest (requests.Asm source object) (requests.Asm source_2 object_2) =
    (source.now ≡ source_2.now) × (object.now ≡ object_2.now)
SameRequest (requests.List object) (requests.List object_2) = object.now ≡ object_2.now
SameRequest (requests.Verify object) (requests.Verify object_2) = object.now ≡ object_2.now
SameRequest (requests.Route config) (requests.Route config_2) = config.now ≡ config_2.now
SameRequest _ _ = ⊥

abbrev pub WordsMakeOneRequest : Type 0
WordsMakeOneRequest = (line : App) (words : List Text) (request other : CommandRequest)
    → IsCommandLine line
    → Asks line words request → Asks line words other → SameRequest request other

abbrev pub MistakenWordsAskForNothing : Type 0
MistakenWordsAskForNothing = (line : App) (words : List Text) (error : Error)
    (request : CommandRequest)
    → IsMistake line words error → Asks line words request → ⊥

-- A word that is no flag: it doesn't begin with a hyphen (45), or is a single one.
abbrev pub IsPlain : Text → Type 0
IsPlain [] = ⊤
IsPlain (first ∷ rest) = (first ≢ 45) ⊎ (rest ≡ [])

-- Whatever the program's name and the file: these words make this request.
abbrev pub RawIsTaken : Type 0
RawIsTaken = (line : App) (program seats_word : Text) (hook : Hook) (file : Bor Text) (seats : ℕ)
    → IsCommandLine line
    → IsPlain file.now → IsSeats seats_word seats
    → Asks line (program ∷ codes "raw" ∷ hook_name hook ∷ file.now ∷ seats_word ∷ [])
    (requests.Raw hook file seats)

abbrev pub RunIsTaken : Type 0
RunIsTaken =
    (line : App) (program context_word packet_word : Text) (object : Bor Text) (context : List ℕ)
    (packet : Vec ℕ) → IsCommandLine line
    → IsPlain object.now → IsPlain context_word → IsPlain packet_word
    → IsContext context_word context → IsPacket packet_word packet.items
    → Asks line (program ∷ codes "run" ∷ object.now ∷ context_word ∷ packet_word ∷ [])
    (requests.Run object context packet)

abbrev pub AsmIsTaken : Type 0
AsmIsTaken = (line : App) (program : Text) (source object : Bor Text) → IsCommandLine line
    → IsPlain source.now → IsPlain object.now
    → Asks line (program ∷ codes "asm" ∷ source.now ∷ object.now ∷ []) (requests.Asm source object)

abbrev pub ListIsTaken : Type 0
ListIsTaken = (line : App) (program : Text) (object : Bor Text) → IsCommandLine line
    → IsPlain object.now
    → Asks line (program ∷ codes "list" ∷ object.now ∷ []) (requests.List object)

abbrev pub VerifyIsTaken : Type 0
VerifyIsTaken = (line : App) (program : Text) (object : Bor Text) → IsCommandLine line
    → IsPlain object.now
    → Asks line (program ∷ codes "verify" ∷ object.now ∷ []) (requests.Verify object)

abbrev pub RouteIsTaken : Type 0
RouteIsTaken =
    (line : App) (program : Text) (config : Bor Text) → IsCommandLine line → IsPlain config.now
    → Asks line (program ∷ codes "route" ∷ config.now ∷ []) (requests.Route config)

abbrev pub PlainWordsAreTaken : Type 0
PlainWordsAreTaken =
    RawIsTaken × RunIsTaken × AsmIsTaken × ListIsTaken × VerifyIsTaken × RouteIsTaken

-- A line makes the same request of its words, and finds the same mistakes in them, wherever the
-- names of the hooks are in memory.
abbrev pub WhereTheNamesLieChangesNothing : Type 0
WhereTheNamesLieChangesNothing = (line other : App) (words : List Text) → IsCommandLine line
    → IsCommandLine other
    → (fault_of line words ≡ fault_of other words)
    × (subcommand_of line words ≡ subcommand_of other words)
