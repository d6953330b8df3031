-- What is read of words.
use Rattle.std.proofs.Common.{◌≡◌, refl, sym, subst, List, [], Option, Ok, Err, MatchResult, inl}
use Rattle.std.proofs.Common.{inr, true}
use Rattle.std.specs.Prelude.{Result, IfOk, IfErr, ◌⊎◌}
use Rattle.clap.specs.Faults.{fault_of, is_simple_and_free}
use Rattle.clap.specs.Kinds.{FailsBy, HasKind}
use Rattle.clap.specs.Simple.{App, HasMatchesOf, subcommand_of, subcommand_rows_of}
use Rattle.clap.specs.Values.{kind_of}
use Rattle.clap.specs.Walk.{Row, Text}
use Rattle.clap.specs.declared.error.Error.{Error}
use Rattle.clap.specs.declared.error.kind.ErrorKind.TheVariants as kinds
use Rattle.clap.specs.declared.parser.matches.ArgMatches.{ArgMatches}
use Rattle.hooktool_trials.specs.CommandLine.{line}
use Rattle.hooktool_trials.specs.Requests.{Asks, IsRefusal, IsTaken, IsWrongWord, Makes}
use Rattle.hooktool_trials.specs.declared.requests.HooktoolRequest.{HooktoolRequest}

abbrev pub Answers : List Text → Result HooktoolRequest Error → Type 0
Answers words result = MatchResult result (Asks words) (IsRefusal words)

-- ---- of a command that is the line

pub free : (a : App) → a ≡ line → is_simple_and_free a ≡ true
free a own = subst (λ (x : App). is_simple_and_free x ≡ true) (sym own) refl

-- ---- answers

-- a mistake by the rules of command lines
mistaken : (words : List Text) (e : Error) → HasKind (fault_of line words) e → IsRefusal words e
mistaken words e has = elim has [
  | inl memory ↦ inl memory
  | inr among ↦ inr (inl among)
]

-- what a command takes that is the line
pub own_taken : (a : App) (words : List Text) (r : Result ArgMatches Error) → a ≡ line
    → FailsBy (fault_of a words) r → IfOk r (HasMatchesOf a words)
    → MatchResult r (IsTaken words) (IsRefusal words)
own_taken a words (Ok m) own fails has = (
  subst (λ (x : App). fault_of x words ≡ []) own fails,
  subst (λ (x : App). HasMatchesOf x words m) own has,
)
own_taken a words (Err e) own fails has =
    mistaken words e (subst (λ (x : App). HasKind (fault_of x words) e) own fails)

-- what was entered is the subcommand of the words
entered : (words : List Text) (m : ArgMatches) → HasMatchesOf line words m
    → subcommand_rows_of m ≡ subcommand_of line words
entered words m has = (has refl).1

-- a wrong word of the command that is named, or want of memory
wrong_word : (words : List Text) (m : ArgMatches) (e : Error) → HasMatchesOf line words m
    → fault_of line words ≡ [] → (kind_of e ≡ kinds.OutOfMemory)
    ⊎ IsWrongWord (subcommand_rows_of m) e → IsRefusal words e
wrong_word words m e has taken given = elim given [
  | inl memory ↦ inl memory
  | inr wrong ↦ inr (inr (
    taken,
    subst (λ (named : Option (Text × List Row)). IsWrongWord named e)
        (entered words m has) wrong,
  ))
]

-- what is made of the words that were taken, or what is wrong with them
pub read : (words : List Text) (m : ArgMatches) (r : Result HooktoolRequest Error)
    → HasMatchesOf line words m → fault_of line words ≡ [] → IfOk r (Makes (subcommand_rows_of m))
    → IfErr r (λ e. (kind_of e ≡ kinds.OutOfMemory) ⊎ IsWrongWord (subcommand_rows_of m) e)
    → Answers words r
read words m (Ok request) has taken makes wrong = (
  taken,
  subst (λ (named : Option (Text × List Row)). Makes named request) (entered words m has)
      makes,
)
read words m (Err e) has taken makes wrong = wrong_word words m e has taken wrong
