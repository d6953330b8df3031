-- The requests that the words of a command line make.
use Rattle.std.specs.Prelude.{◌≡◌, ◌⊎◌, ◌≤◌, ℕ, List, [], Option, Some, None, codes}
use Rattle.std.specs.Str.Parse.{IsNumeral, digits_value, without_leading_plus}
use Rattle.clap.specs.Faults.{fault_of}
use Rattle.clap.specs.Kinds.{IsAmong}
use Rattle.clap.specs.Simple.{App, subcommand_of}
use Rattle.clap.specs.Values.{kind_of}
use Rattle.clap.specs.Walk.{Row, Text, first_of, one_of}
use Rattle.clap.specs.declared.error.Error.{Error}
use Rattle.clap.specs.declared.error.kind.ErrorKind.TheVariants as kinds
use Rattle.commands.specs.Words.{IsContext, IsPacket, hook_name}
use Rattle.commands.specs.declared.requests.CommandRequest.{CommandRequest}
use Rattle.commands.specs.declared.requests.CommandRequest.TheVariants as requests

-- the command that makes the request
abbrev pub command_of : CommandRequest → Text
command_of (requests.Raw hook file seats) = codes "raw"
command_of (requests.Run object context packet) = codes "run"
command_of (requests.Asm source object) = codes "asm"
command_of (requests.List object) = codes "list"
command_of (requests.Verify object) = codes "verify"
command_of (requests.Route config) = codes "route"

-- the word with this name
abbrev pub HasWord : List Row → Text → Text → Type 0
HasWord rows name word = first_of name rows ≡ Some word

-- the number of seats, 1 to 64 in decimal digits, that a word spells
abbrev pub IsSeats : Text → ℕ → Type 0
IsSeats word seats = IsNumeral 10 (without_leading_plus word)
    × (seats ≡ digits_value 10 (without_leading_plus word)) × (1 ≤ seats) × (seats ≤ 64)

abbrev pub HasSeats : List Row → ℕ → Type 0
HasSeats rows seats = (word : Text) × (one_of (codes "SEATS") rows ≡ Some word) × IsSeats word seats

-- The words of the request's command are those of the request.
abbrev pub HasWordsOf : List Row → CommandRequest → Type 0
HasWordsOf rows (requests.Raw hook file seats) = HasWord rows (codes "HOOK") (hook_name hook)
    × HasWord rows (codes "FILE") file.now × HasSeats rows seats
HasWordsOf rows (requests.Run object context packet) = HasWord rows (codes "OBJECT") object.now
    × ((word : Text) × HasWord rows (codes "CONTEXT") word × IsContext word context)
    × ((word : Text) × HasWord rows (codes "PACKET") word × IsPacket word packet.items)
HasWordsOf rows (requests.Asm source object) = HasWord rows (codes "SOURCE") source.now
    × HasWord rows (codes "OBJECT") object.now
HasWordsOf rows (requests.List object) = HasWord rows (codes "OBJECT") object.now
HasWordsOf rows (requests.Verify object) = HasWord rows (codes "OBJECT") object.now
HasWordsOf rows (requests.Route config) = HasWord rows (codes "CONFIG") config.now

-- the request that the command with this name makes of its words, if it makes one
abbrev pub MadeBy : Text → List Row → Option CommandRequest → Type 0
MadeBy name rows (Some request) = (command_of request ≡ name) × HasWordsOf rows request
MadeBy name rows None = (request : CommandRequest) → command_of request ≡ name
    → HasWordsOf rows request
    → ⊥

-- A word of this command is wrong, so that it makes no request; or an allocation was refused.
abbrev pub IsWrong : Text → List Row → Error → Type 0
IsWrong name rows error = (kind_of error ≡ kinds.OutOfMemory)
    ⊎ ((kind_of error ≡ kinds.InvalidValue) × MadeBy name rows None)

-- The named command, with its words, makes the request.
abbrev pub Makes : Option (Text × List Row) → CommandRequest → Type 0
Makes named request = (rows : List Row) × (named ≡ Some (command_of request, rows))
    × HasWordsOf rows request

abbrev pub MakesNone : Option (Text × List Row) → Type 0
MakesNone named = (request : CommandRequest) → Makes named request → ⊥

-- The command line takes the words, and the command that they name makes the request of the words
-- with its names.
abbrev pub Asks : App → List Text → CommandRequest → Type 0
Asks line words request = (fault_of line words ≡ []) × Makes (subcommand_of line words) request

-- What is wrong with words that the command line takes: they name no command, or a value is wrong.
abbrev pub IsWrongKind : Option (Text × List Row) → Error → Type 0
IsWrongKind None error = kind_of error ≡ kinds.MissingSubcommand
IsWrongKind (Some named) error = kind_of error ≡ kinds.InvalidValue

abbrev pub IsWrongWord : Option (Text × List Row) → Error → Type 0
IsWrongWord named error = IsWrongKind named error × MakesNone named

-- The command line doesn't take the words, for a reason of this kind (help is one); or they make no
-- request.
abbrev pub IsMistake : App → List Text → Error → Type 0
IsMistake line words error = IsAmong (kind_of error) (fault_of line words)
    ⊎ ((fault_of line words ≡ []) × IsWrongWord (subcommand_of line words) error)

-- A refused allocation is one more reason.
abbrev pub IsRefusal : App → List Text → Error → Type 0
IsRefusal line words error = (kind_of error ≡ kinds.OutOfMemory) ⊎ IsMistake line words error
