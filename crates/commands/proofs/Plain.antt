-- Words that are no flags go to the names of a command in turn.
use Rattle.std.proofs.Common.{◌≡◌, sym, subst, refl, arith, List, [], ◌∷◌, Option, Some, None, inl}
use Rattle.std.proofs.Common.{inr, codes, false}
use Rattle.std.specs.Prelude.{◌==◌, Bool, true}
use Rattle.std.specs.Borrow.{Bor}
use Rattle.std.specs.Str.{bytes_eq}
use Rattle.clap.proofs.OnLiterals.{clap_on_literals}
use Rattle.clap.specs.Faults.{fault_of}
use Rattle.clap.specs.Lexer.{long_of, short_of}
use Rattle.clap.specs.Simple.{App, subcommand_of}
use Rattle.clap.specs.Walk.{Row, Text}
use Rattle.commands.specs.CommandLine.{IsCommandLine, line_with}
use Rattle.commands.specs.Laws.{IsPlain, ListIsTaken, AsmIsTaken, RouteIsTaken, RunIsTaken}
use Rattle.commands.specs.Laws.{VerifyIsTaken}
use Rattle.commands.specs.Requests.{Asks, HasWord}
use Rattle.commands.specs.declared.requests.CommandRequest.{CommandRequest}
use Rattle.commands.specs.declared.requests.CommandRequest.TheVariants as requests

pub record NoFlag (word : Text) : Type 0 where
  pub not_end : bytes_eq word (45 ∷ 45 ∷ []) ≡ false
  pub not_long : long_of word ≡ None
  pub not_short : short_of word ≡ None

pub no_flag : (word : Text) → IsPlain word → NoFlag word
no_flag [] plain = record { not_end = refl; not_long = refl; not_short = refl }
no_flag (first ∷ rest) (inr alone) = rw alone (go (first == 45) refl)
  where
    go : (hyphen : Bool) → (first == 45) ≡ hyphen → NoFlag (first ∷ [])
    go true e = record { not_end = rw e refl; not_long = rw e refl; not_short = rw e refl }
    go false e = record { not_end = rw e refl; not_long = rw e refl; not_short = rw e refl }
no_flag (first ∷ rest) (inl other) =
    let differs : (first == 45) ≡ false = grind arith in
    record { not_end = rw differs refl; not_long = rw differs refl; not_short = rw differs refl }

abbrev pub rows_in : Option (Text × List Row) → List Row
rows_in None = []
rows_in (Some named) = named.1

-- A request that a line makes with its names anywhere is made by each line.
at_line : (words : List Text) (request : CommandRequest)
    → ((hooks : Bor (List (Bor Text))) → Asks (line_with hooks) words request) → (line : App)
    → IsCommandLine line → Asks line words request
at_line words request asks line own =
    subst (λ (l : App). Asks l words request) (sym own.6) (asks own.0)

abbrev pub rows_of_words : Bor (List (Bor Text)) → List Text → List Row
rows_of_words hooks words = rows_in (subcommand_of (line_with hooks) words)

-- the words are taken, and the command of this name was entered
pub record Taken (hooks : Bor (List (Bor Text))) (name : Text) (words : List Text) : Type 0 where
  pub no_fault : fault_of (line_with hooks) words ≡ []
  pub named : subcommand_of (line_with hooks) words ≡ Some (name, rows_of_words hooks words)

abbrev list_words : Text → Text → List Text
list_words program object = program ∷ codes "list" ∷ object ∷ []

list_taken : (hooks : Bor (List (Bor Text))) (program object : Text) → NoFlag object
    → Taken hooks (codes "list") (list_words program object)
unfolding clap_on_literals
list_taken hooks program object plain = record {
  no_fault = rw (plain.not_end, plain.not_long, plain.not_short) refl;
  named = rw (plain.not_end, plain.not_long, plain.not_short) refl;
}

list_object : (hooks : Bor (List (Bor Text))) (program object : Text) → NoFlag object
    → HasWord (rows_of_words hooks (list_words program object)) (codes "OBJECT") object
unfolding clap_on_literals
list_object hooks program object plain = rw (plain.not_end, plain.not_long, plain.not_short) refl

pub list : ListIsTaken
list line program object own plain =
    at_line (list_words program object.now) (requests.List object) (λ hooks.
    let object_plain = no_flag object.now plain in
    let taken = list_taken hooks program object.now object_plain in (
      taken.no_fault,
      (
        rows_of_words hooks (list_words program object.now),
        taken.named,
        list_object hooks program object.now object_plain,
      ),
    )) line own

abbrev verify_words : Text → Text → List Text
verify_words program object = program ∷ codes "verify" ∷ object ∷ []

verify_taken : (hooks : Bor (List (Bor Text))) (program object : Text) → NoFlag object
    → Taken hooks (codes "verify") (verify_words program object)
unfolding clap_on_literals
verify_taken hooks program object plain = record {
  no_fault = rw (plain.not_end, plain.not_long, plain.not_short) refl;
  named = rw (plain.not_end, plain.not_long, plain.not_short) refl;
}

verify_object : (hooks : Bor (List (Bor Text))) (program object : Text) → NoFlag object
    → HasWord (rows_of_words hooks (verify_words program object)) (codes "OBJECT") object
unfolding clap_on_literals
verify_object hooks program object plain = rw (plain.not_end, plain.not_long, plain.not_short) refl

pub verify : VerifyIsTaken
verify line program object own plain =
    at_line (verify_words program object.now) (requests.Verify object) (λ hooks.
    let object_plain = no_flag object.now plain in
    let taken = verify_taken hooks program object.now object_plain in
    let word = verify_object hooks program object.now object_plain in
    (taken.no_fault, (rows_of_words hooks (verify_words program object.now), taken.named, word)))
    line own

abbrev route_words : Text → Text → List Text
route_words program config = program ∷ codes "route" ∷ config ∷ []

route_taken : (hooks : Bor (List (Bor Text))) (program config : Text) → NoFlag config
    → Taken hooks (codes "route") (route_words program config)
unfolding clap_on_literals
route_taken hooks program config plain = record {
  no_fault = rw (plain.not_end, plain.not_long, plain.not_short) refl;
  named = rw (plain.not_end, plain.not_long, plain.not_short) refl;
}

route_config : (hooks : Bor (List (Bor Text))) (program config : Text) → NoFlag config
    → HasWord (rows_of_words hooks (route_words program config)) (codes "CONFIG") config
unfolding clap_on_literals
route_config hooks program config plain = rw (plain.not_end, plain.not_long, plain.not_short) refl

pub route : RouteIsTaken
route line program config own plain =
    at_line (route_words program config.now) (requests.Route config) (λ hooks.
    let config_plain = no_flag config.now plain in
    let taken = route_taken hooks program config.now config_plain in
    let word = route_config hooks program config.now config_plain in
    (taken.no_fault, (rows_of_words hooks (route_words program config.now), taken.named, word)))
    line own

abbrev asm_words : Text → Text → Text → List Text
asm_words program source object = program ∷ codes "asm" ∷ source ∷ object ∷ []

asm_taken : (hooks : Bor (List (Bor Text))) (program source object : Text) → NoFlag source
    → NoFlag object → Taken hooks (codes "asm") (asm_words program source object)
unfolding clap_on_literals
asm_taken hooks program source object plain more = record {
  no_fault = rw (
    plain.not_end,
    plain.not_long,
    plain.not_short,
    more.not_end,
    more.not_long,
    more.not_short,
  ) refl;
  named = rw (
    plain.not_end,
    plain.not_long,
    plain.not_short,
    more.not_end,
    more.not_long,
    more.not_short,
  ) refl;
}

asm_named : (hooks : Bor (List (Bor Text))) (program source object : Text) → NoFlag source
    → NoFlag object → HasWord (rows_of_words hooks (asm_words program source object))
    (codes "SOURCE") source × HasWord (rows_of_words hooks (asm_words program source object))
    (codes "OBJECT") object
unfolding clap_on_literals
asm_named hooks program source object plain more = (
  rw (plain.not_end, plain.not_long, plain.not_short, more.not_end, more.not_long, more.not_short)
      refl,
  rw (plain.not_end, plain.not_long, plain.not_short, more.not_end, more.not_long, more.not_short)
      refl,
)

pub asm : AsmIsTaken
asm line program source object own plain plain_2 =
    at_line (asm_words program source.now object.now) (requests.Asm source object) (λ hooks.
    let first = no_flag source.now plain in
    let more = no_flag object.now plain_2 in
    let taken = asm_taken hooks program source.now object.now first more in (
      taken.no_fault,
      (
        rows_of_words hooks (asm_words program source.now object.now),
        taken.named,
        asm_named hooks program source.now object.now first more,
      ),
    )) line own

abbrev run_words : Text → Text → Text → Text → List Text
run_words program object context packet = program ∷ codes "run" ∷ object ∷ context ∷ packet ∷ []

run_taken : (hooks : Bor (List (Bor Text))) (program object context packet : Text) → NoFlag object
    → NoFlag context → NoFlag packet → Taken hooks (codes "run")
    (run_words program object context packet)
unfolding clap_on_literals
run_taken hooks program object context packet a b c = record {
  no_fault = rw (
    a.not_end,
    a.not_long,
    a.not_short,
    b.not_end,
    b.not_long,
    b.not_short,
    c.not_end,
    c.not_long,
    c.not_short,
  ) refl;
  named = rw (
    a.not_end,
    a.not_long,
    a.not_short,
    b.not_end,
    b.not_long,
    b.not_short,
    c.not_end,
    c.not_long,
    c.not_short,
  ) refl;
}

run_named : (hooks : Bor (List (Bor Text))) (program object context packet : Text) → NoFlag object
    → NoFlag context → NoFlag packet → HasWord
    (rows_of_words hooks (run_words program object context packet)) (codes "OBJECT") object
    × HasWord (rows_of_words hooks (run_words program object context packet))
    (codes "CONTEXT") context × HasWord
    (rows_of_words hooks (run_words program object context packet)) (codes "PACKET")
    packet
unfolding clap_on_literals
run_named hooks program object context packet a b c = (
  rw (
    a.not_end,
    a.not_long,
    a.not_short,
    b.not_end,
    b.not_long,
    b.not_short,
    c.not_end,
    c.not_long,
    c.not_short,
  ) refl,
  rw (
    a.not_end,
    a.not_long,
    a.not_short,
    b.not_end,
    b.not_long,
    b.not_short,
    c.not_end,
    c.not_long,
    c.not_short,
  ) refl,
  rw (
    a.not_end,
    a.not_long,
    a.not_short,
    b.not_end,
    b.not_long,
    b.not_short,
    c.not_end,
    c.not_long,
    c.not_short,
  ) refl,
)

pub run : RunIsTaken
run line program context_word packet_word object context packet own plain plain_2 plain_3 right
    right_2 =
    at_line (run_words program object.now context_word packet_word)
    (requests.Run object context packet) (λ hooks.
    let a = no_flag object.now plain in
    let b = no_flag context_word plain_2 in
    let c = no_flag packet_word plain_3 in
    let taken = run_taken hooks program object.now context_word packet_word a b c in
    let words = run_named hooks program object.now context_word packet_word a b c in (
      taken.no_fault,
      (
        rows_of_words hooks (run_words program object.now context_word packet_word),
        taken.named,
        (words.0, (context_word, words.1, right), (packet_word, words.2, right_2)),
      ),
    )) line own
