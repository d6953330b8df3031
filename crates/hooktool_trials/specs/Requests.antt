-- What the words of a command line ask for.
use Rattle.std.specs.Prelude.{◌≡◌, ◌⊎◌, ℕ, List, [], Option, Some, None, Result, Ok, Err, codes}
use Rattle.clap.specs.Faults.{fault_of}
use Rattle.clap.specs.Kinds.{IsAmong}
use Rattle.clap.specs.Simple.{HasMatchesOf, subcommand_of}
use Rattle.clap.specs.Values.{kind_of}
use Rattle.clap.specs.Walk.{Row, Text, first_of}
use Rattle.clap.specs.declared.error.Error.{Error}
use Rattle.clap.specs.declared.error.kind.ErrorKind.TheVariants as kinds
use Rattle.clap.specs.declared.parser.matches.ArgMatches.{ArgMatches}
use Rattle.isa.specs.Hooks.{hook_name}
use Rattle.isa.specs.declared.hook.Hook.{Hook}
use Rattle.hooktool_trials.specs.CommandLine.{line}
use Rattle.hooktool_trials.specs.Questions.{HasQuestion}
use Rattle.hooktool_trials.specs.Words.{IsTold, OrElse}
use Rattle.hooktool_trials.specs.declared.requests.FuelAsked.{FuelAsked}
use Rattle.hooktool_trials.specs.declared.requests.HooktoolRequest.{HooktoolRequest}
use Rattle.hooktool_trials.specs.declared.requests.HooktoolRequest.TheVariants as requests
use Rattle.hooktool_trials.specs.declared.requests.PlainRequest.{PlainRequest}
use Rattle.hooktool_trials.specs.declared.requests.PlainRequest.TheVariants as plain
use Rattle.hooktool_trials.specs.declared.values.NotRead.{NotRead}
use Rattle.hooktool_trials.specs.declared.values.NotRead.TheVariants as not_read

-- the command that makes the request
abbrev pub plain_command : PlainRequest → Text
plain_command (plain.Annotate hook code object fuel) = codes "annotate"
plain_command (plain.Build file folder hook fuel) = codes "build"
plain_command (plain.Explain object) = codes "explain"
plain_command (plain.Test file) = codes "test"

abbrev pub command_of : HooktoolRequest → Text
command_of (requests.Plain request) = plain_command request
command_of (requests.Try object question) = codes "try"

-- the word under this name
abbrev pub HasWord : List Row → Text → Text → Type 0
HasWord rows name word = first_of name rows ≡ Some word

-- the number under this name, if it is told
abbrev pub HasTold : List Row → (name : Text) → (least most : ℕ) → Option ℕ → Type 0
HasTold rows name least most n =
    OrElse (first_of name rows) (n ≡ None) (λ word. IsTold least most word n)

-- how many turns loops may take, and what is answered once they are used up, each if it is told
abbrev pub HasFuel : List Row → FuelAsked → Type 0
HasFuel rows fuel = HasTold rows (codes "fuel") 1 999999 fuel.turns
    × HasTold rows (codes "fuel-answer") 0 2147483647 fuel.answer

-- the hook that a word names
abbrev pub IsHook : Text → Option Hook → Type 0
IsHook word (Some hook) = word ≡ hook_name hook
IsHook word None = ⊥

abbrev pub HasHook : List Row → Option Hook → Type 0
HasHook rows hook = OrElse (first_of (codes "hook") rows) (hook ≡ None) (λ word. IsHook word hook)

-- The words of the request's command are those of the request.
abbrev pub HasPlainWords : List Row → PlainRequest → Type 0
HasPlainWords rows (plain.Annotate hook code object fuel) =
    HasWord rows (codes "HOOK") (hook_name hook) × HasWord rows (codes "CODE") code.now
    × HasWord rows (codes "OBJECT") object.now × HasFuel rows fuel
HasPlainWords rows (plain.Build file folder hook fuel) =
    HasWord rows (codes "FILE") file.now × HasWord rows (codes "FOLDER") folder.now
    × HasHook rows hook × HasFuel rows fuel
HasPlainWords rows (plain.Explain object) = HasWord rows (codes "OBJECT") object.now
HasPlainWords rows (plain.Test file) = HasWord rows (codes "FILE") file.now

abbrev pub HasWordsOf : List Row → HooktoolRequest → Type 0
HasWordsOf rows (requests.Plain request) = HasPlainWords rows request
HasWordsOf rows (requests.Try object question) =
    HasWord rows (codes "OBJECT") object.now × HasQuestion rows question

-- The command of this name makes this request of its words.
abbrev pub MakesPlain : Text → List Row → PlainRequest → Type 0
MakesPlain name rows request = (plain_command request ≡ name) × HasPlainWords rows request

-- what the command of this name makes of its words, if it makes a request of them
abbrev pub MadeBy : Text → List Row → Option HooktoolRequest → Type 0
MadeBy name rows (Some request) = (command_of request ≡ name) × HasWordsOf rows request
MadeBy name rows None = (request : HooktoolRequest) → command_of request ≡ name
    → HasWordsOf rows request → ⊥

-- The same; or nothing is made, for want of memory.
abbrev pub IsMade : Text → List Row → Result HooktoolRequest NotRead → Type 0
IsMade name rows (Ok request) = MadeBy name rows (Some request)
IsMade name rows (Err (not_read.Meaningless wrong)) = MadeBy name rows None
IsMade name rows (Err not_read.OutOfMemory) = Unit {0}

-- A word of this command is wrong, so that it makes no request; or memory was refused.
abbrev pub IsWrong : Text → List Row → Error → Type 0
IsWrong name rows error = (kind_of error ≡ kinds.OutOfMemory)
    ⊎ ((kind_of error ≡ kinds.InvalidValue) × MadeBy name rows None)

-- A command that was named, with its words, makes the request.
abbrev pub Makes : Option (Text × List Row) → HooktoolRequest → Type 0
Makes named request = (rows : List Row) × (named ≡ Some (command_of request, rows))
    × HasWordsOf rows request

abbrev pub MakesNone : Option (Text × List Row) → Type 0
MakesNone named = (request : HooktoolRequest) → Makes named request → ⊥

-- The command line takes the words, and finds this in them.
abbrev pub IsTaken : List Text → ArgMatches → Type 0
IsTaken words matches = (fault_of line words ≡ []) × HasMatchesOf line words matches

-- The command line takes the words, and the command that they name makes the request of the words
-- under its names.
abbrev pub Asks : List Text → HooktoolRequest → Type 0
Asks words request = (fault_of line words ≡ []) × Makes (subcommand_of line words) request

-- What is wrong with words that the command line takes: no command is named, or one is and a value
-- is wrong.
abbrev pub IsWrongKind : Option (Text × List Row) → Error → Type 0
IsWrongKind None error = kind_of error ≡ kinds.MissingSubcommand
IsWrongKind (Some named) error = kind_of error ≡ kinds.InvalidValue

abbrev pub IsWrongWord : Option (Text × List Row) → Error → Type 0
IsWrongWord named error = IsWrongKind named error × MakesNone named

-- The command line doesn't take the words, for a reason of this kind (help is one); or no request
-- is made of them.
abbrev pub IsMistake : List Text → Error → Type 0
IsMistake words error = IsAmong (kind_of error) (fault_of line words)
    ⊎ ((fault_of line words ≡ []) × IsWrongWord (subcommand_of line words) error)

-- Want of memory is one more reason.
abbrev pub IsRefusal : List Text → Error → Type 0
IsRefusal words error = (kind_of error ≡ kinds.OutOfMemory) ⊎ IsMistake words error
