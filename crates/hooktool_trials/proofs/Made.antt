-- Which requests a command makes of its words.
use Rattle.std.proofs.Common.{◌≡◌, ◌≢◌, ◌∙◌, ap, ap₂, sym, subst, true≢false, List, Option, Some}
use Rattle.std.proofs.Common.{None, Ok, Err, codes, slice_index, inl, inr, refl}
use Rattle.std.specs.Borrow.{Bor}
use Rattle.std.specs.Prelude.{Box, IfOk, IfErr, Result, option_map, ◌⊎◌, ◌==◌}
use Rattle.clap.specs.Matches.{found_of}
use Rattle.clap.specs.Simple.{subcommand_rows}
use Rattle.clap.specs.Values.{kind_of}
use Rattle.clap.specs.Walk.{Row, Text, first_of, rows_of}
use Rattle.clap.specs.declared.error.Error.{Error}
use Rattle.clap.specs.declared.error.kind.ErrorKind.TheVariants as kinds
use Rattle.clap.specs.declared.parser.matches.ArgMatches.{ArgMatches}
use Rattle.clap.specs.declared.parser.matches.ArgMatches.TheViews.{out-SubCommand}
use Rattle.clap.specs.declared.parser.matches.SubCommand.{SubCommand}
use Rattle.std.specs.Box.{box_value}
use Rattle.isa.specs.Hooks.{hook_name}
use Rattle.isa.specs.declared.hook.Hook.{Hook}
use Rattle.hooktool_trials.specs.Questions.{HasQuestion}
use Rattle.hooktool_trials.specs.Requests.{HasFuel, HasHook, HasWord, IsMade, IsWrong, IsWrongWord}
use Rattle.hooktool_trials.specs.Requests.{MadeBy, Makes, MakesNone, MakesPlain, command_of}
use Rattle.hooktool_trials.specs.Requests.{plain_command}
use Rattle.hooktool_trials.specs.Words.{ReadsOrLacks}
use Rattle.hooktool_trials.specs.declared.requests.FuelAsked.{FuelAsked}
use Rattle.hooktool_trials.specs.declared.requests.Question.{Question}
use Rattle.hooktool_trials.specs.declared.values.NotRead.{NotRead}
use Rattle.hooktool_trials.specs.declared.values.NotRead.TheVariants as not_read
use Rattle.hooktool_trials.specs.declared.requests.HooktoolRequest.{HooktoolRequest}
use Rattle.hooktool_trials.specs.declared.requests.HooktoolRequest.TheVariants as requests
use Rattle.hooktool_trials.specs.declared.requests.PlainRequest.{PlainRequest}
use Rattle.hooktool_trials.specs.declared.requests.PlainRequest.TheVariants as plain

pub some≢none : {X : Type 0} (x : X) → Some x ≡ None → ⊥
some≢none x e = cc

pub some_is : {X : Type 0} {x y : X} → Some x ≡ Some y → x ≡ y
some_is e = cc

annotate≢build : codes "build" ≡ codes "annotate" → ⊥
annotate≢build e = true≢false (ap (λ (t : Text). slice_index t 0 == 98) e)

build≢explain : codes "explain" ≡ codes "build" → ⊥
build≢explain e = true≢false (ap (λ (t : Text). slice_index t 0 == 101) e)

build≢try : codes "try" ≡ codes "build" → ⊥
build≢try e = true≢false (ap (λ (t : Text). slice_index t 0 == 116) e)

annotate≢explain : codes "explain" ≡ codes "annotate" → ⊥
annotate≢explain e = true≢false (ap (λ (t : Text). slice_index t 0 == 101) e)

annotate≢try : codes "try" ≡ codes "annotate" → ⊥
annotate≢try e = true≢false (ap (λ (t : Text). slice_index t 0 == 116) e)

explain≢try : codes "try" ≡ codes "explain" → ⊥
explain≢try e = true≢false (ap (λ (t : Text). slice_index t 0 == 116) e)

annotate≢test : codes "test" ≡ codes "annotate" → ⊥
annotate≢test e = true≢false (ap (λ (t : Text). slice_index t 0 == 116) e)

build≢test : codes "test" ≡ codes "build" → ⊥
build≢test e = true≢false (ap (λ (t : Text). slice_index t 0 == 116) e)

explain≢test : codes "test" ≡ codes "explain" → ⊥
explain≢test e = true≢false (ap (λ (t : Text). slice_index t 0 == 116) e)

try≢test : codes "test" ≡ codes "try" → ⊥
try≢test e = true≢false (ap (λ (t : Text). slice_index t 1 == 101) e)

pub no_annotate : (rows : List Row)
    → ((hook : Hook) (code object : Text) (fuel : FuelAsked)
    → HasWord rows (codes "HOOK") (hook_name hook) → HasWord rows (codes "CODE") code
    → HasWord rows (codes "OBJECT") object → HasFuel rows fuel → ⊥)
    → (request : PlainRequest) → MakesPlain (codes "annotate") rows request → ⊥
no_annotate rows none (plain.Annotate hook code object fuel) (named, has) =
    none hook code.now object.now fuel has.0 has.1 has.2 has.3
no_annotate rows none (plain.Build file folder hook fuel) (named, has) =
    annotate≢build named
no_annotate rows none (plain.Explain object) (named, has) = annotate≢explain named
no_annotate rows none (plain.Test file) (named, has) = annotate≢test named

pub no_build : (rows : List Row) →
    ((file folder : Text) (hook : Option Hook) (fuel : FuelAsked) → HasWord rows (codes "FILE") file
    → HasWord rows (codes "FOLDER") folder → HasHook rows hook → HasFuel rows fuel → ⊥)
    → (request : PlainRequest) → MakesPlain (codes "build") rows request → ⊥
no_build rows none (plain.Annotate hook code object fuel) (named, has) =
    annotate≢build (sym named)
no_build rows none (plain.Build file folder hook fuel) (named, has) =
    none file.now folder.now hook fuel has.0 has.1 has.2 has.3
no_build rows none (plain.Explain object) (named, has) = build≢explain named
no_build rows none (plain.Test file) (named, has) = build≢test named

pub no_explain : (rows : List Row) → ((object : Text) → HasWord rows (codes "OBJECT") object → ⊥)
    → (request : PlainRequest) → MakesPlain (codes "explain") rows request → ⊥
no_explain rows none (plain.Annotate hook code object fuel) (named, has) =
    annotate≢explain (sym named)
no_explain rows none (plain.Build file folder hook fuel) (named, has) =
    build≢explain (sym named)
no_explain rows none (plain.Explain object) (named, has) = none object.now has
no_explain rows none (plain.Test file) (named, has) = explain≢test named

pub no_test : (rows : List Row) → ((file : Text) → HasWord rows (codes "FILE") file → ⊥)
    → (request : PlainRequest) → MakesPlain (codes "test") rows request → ⊥
no_test rows none (plain.Annotate hook code object fuel) (named, has) =
    annotate≢test (sym named)
no_test rows none (plain.Build file folder hook fuel) (named, has) = build≢test (sym named)
no_test rows none (plain.Explain object) (named, has) = explain≢test (sym named)
no_test rows none (plain.Test file) (named, has) = none file.now has

plain≢try : (request : PlainRequest) → plain_command request ≡ codes "try" → ⊥
plain≢try (plain.Annotate hook code object fuel) named = annotate≢try (sym named)
plain≢try (plain.Build file folder hook fuel) named = build≢try (sym named)
plain≢try (plain.Explain object) named = explain≢try (sym named)
plain≢try (plain.Test file) named = try≢test named

pub no_try : (rows : List Row) → ((object : Text) (question : Question)
    → HasWord rows (codes "OBJECT") object → HasQuestion rows question → ⊥)
    → MadeBy (codes "try") rows None
no_try rows none (requests.Plain request) named has = absurd (plain≢try request named)
no_try rows none (requests.Try object question) named has = none object.now question has.0 has.1

-- a command that takes no question makes no request if it makes none without a question
pub no_plain : (name : Text) (rows : List Row) → name ≢ codes "try"
    → ((request : PlainRequest) → MakesPlain name rows request → ⊥) → MadeBy name rows None
no_plain name rows other none (requests.Plain request) named has = none request (named, has)
no_plain name rows other none (requests.Try object question) named has = other (sym named)

-- without a question there is no request
pub no_question : (rows : List Row) (lack : NotRead) → ReadsOrLacks (HasQuestion rows) (Err lack)
    → IsMade (codes "try") rows (Err lack)
no_question rows (not_read.Meaningless wrong) none =
    no_try rows (λ object question a has. none question has)
no_question rows not_read.OutOfMemory none = tt

-- what the command makes that was named
pub named_makes : (name : Text) (rows : List Row) (request : HooktoolRequest)
    → MadeBy name rows (Some request) → Makes (Some (name, rows)) request
named_makes name rows request made = (rows, ap (λ (t : Text). Some (t, rows)) (sym made.0), made.1)

pub named_makes_none : (name : Text) (rows : List Row) → MadeBy name rows None
    → MakesNone (Some (name, rows))
named_makes_none name rows none request makes =
    let both = some_is makes.1 in
    let names : name ≡ command_of request = ap (λ (p : Text × List Row). p.0) both in
    let same : rows ≡ makes.0 = ap (λ (p : Text × List Row). p.1) both in
    none request (sym names) (rw same makes.2)

-- what a parse entered, read as a reference, and its rows
pub named_rows : {Z : Type 0} (sub : Option (Box SubCommand Z))
    (r : Option (Bor Text × Bor ArgMatches)) (p : Bor Text × Bor ArgMatches) → r ≡ Some p
    → option_map (λ p. p.0.now) r ≡ option_map (λ b. (out-SubCommand (box_value b)).name.now)
    sub → option_map (λ p. rows_of (found_of p.1.now)) r
    ≡ option_map (λ p. p.1) (subcommand_rows sub)
    → subcommand_rows sub ≡ Some (p.0.now, rows_of (found_of p.1.now))
named_rows {Z} sub None p is name rows = absurd (some≢none p (sym is))
named_rows {Z} None (Some q) p is name rows = absurd (some≢none _ name)
named_rows {Z} (Some b) (Some q) p is name rows =
    ap₂ (λ (n : Text) (r : List Row). Some (n, r))
    (sym (some_is name) ∙ ap (λ (x : Bor Text × Bor ArgMatches). x.0.now) (some_is is))
    (sym (some_is rows) ∙ ap (λ (x : Bor Text × Bor ArgMatches). rows_of (found_of x.1.now))
    (some_is is))

-- what is made of the words of the command that was named
pub all_made : (named : Option (Text × List Row)) (name : Text) (rows : List Row)
    (r : Result HooktoolRequest Error) → named ≡ Some (name, rows)
    → IfOk r (λ request. MadeBy name rows (Some request)) → IfOk r (Makes named)
all_made named name rows (Ok request) is made =
    subst (λ (n : Option (Text × List Row)). Makes n request) (sym is)
    (named_makes name rows request made)
all_made named name rows (Err e) is made = tt

pub all_wrong : (named : Option (Text × List Row)) (name : Text) (rows : List Row)
    (r : Result HooktoolRequest Error) → named ≡ Some (name, rows) → IfErr r (IsWrong name rows)
    → IfErr r (λ e. (kind_of e ≡ kinds.OutOfMemory) ⊎ IsWrongWord named e)
all_wrong named name rows (Ok request) is wrong = tt
all_wrong named name rows (Err e) is wrong = elim wrong [
  | inl memory ↦ inl memory
  | inr value ↦ inr (subst (λ (n : Option (Text × List Row)). IsWrongWord n e) (sym is)
      (value.0, named_makes_none name rows value.1))
]

pub none_makes_none : MakesNone None
none_makes_none request makes = some≢none _ (sym makes.1)

-- what there is under a name, read as a reference
pub has_word : (rows : List Row) (name : Text) (word : Bor Text)
    → Rattle.std.specs.Option.option_map (λ (w : Bor Text). w.now) (Some word) ≡ first_of name rows
    → HasWord rows name word.now
has_word rows name word e = sym e

pub has_none : (rows : List Row) (name : Text) → None ≡ first_of name rows → (word : Text)
    → HasWord rows name word → ⊥
has_none rows name none word has = some≢none word (sym has ∙ sym none)

-- the words name no command
pub all_unnamed : (named : Option (Text × List Row)) (e : Error) → named ≡ None
    → (kind_of e ≡ kinds.OutOfMemory) ⊎ (kind_of e ≡ kinds.MissingSubcommand)
    → (kind_of e ≡ kinds.OutOfMemory) ⊎ IsWrongWord named e
all_unnamed named e is kind = elim kind [
  | inl memory ↦ inl memory
  | inr missing ↦ inr (subst (λ (n : Option (Text × List Row)). IsWrongWord n e) (sym is)
      (missing, none_makes_none))
]

-- nothing was entered
pub no_rows : {Z : Type 0} (sub : Option (Box SubCommand Z))
    (r : Option (Bor Text × Bor ArgMatches)) → r ≡ None
    → option_map (λ p. p.0.now) r ≡ option_map (λ b. (out-SubCommand (box_value b)).name.now)
    sub → subcommand_rows sub ≡ None
no_rows {Z} None r is name = refl
no_rows {Z} (Some b) None is name = absurd (some≢none _ (sym name))
no_rows {Z} (Some b) (Some q) is name = absurd (some≢none q is)
