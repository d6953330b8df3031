-- The words of `raw`, if the file is no flag and the others are valid.
use Rattle.std.proofs.Common.{◌≡◌, sym, subst, refl, ℕ, List, [], ◌∷◌, Some, codes, false, true}
use Rattle.std.specs.Prelude.{pos}
use Rattle.std.specs.Borrow.{Bor}
use Rattle.clap.proofs.OnLiterals.{clap_on_literals}
use Rattle.clap.specs.Faults.{fault_of}
use Rattle.clap.specs.Simple.{App}
use Rattle.clap.specs.ValueTests.{accepts}
use Rattle.clap.specs.Walk.{Text, one_of}
use Rattle.clap.specs.declared.builder.value_parser.ValueParser.{ValueParser}
use Rattle.clap.specs.declared.builder.value_parser.ValueParser.TheVariants.{Names, Signed}
use Rattle.commands.proofs.Plain.{NoFlag, Taken, no_flag, rows_of_words}
use Rattle.commands.proofs.PlainSeats.{TakenSeats, taken_seats}
use Rattle.commands.specs.CommandLine.{asm, checked_word, command, hook_names, line_with, list}
use Rattle.commands.specs.CommandLine.{required_word, route, run, verify}
use Rattle.commands.specs.Laws.{RawIsTaken}
use Rattle.commands.specs.Requests.{Asks, HasWord}
use Rattle.commands.specs.Words.{hook_name}
use Rattle.commands.specs.declared.requests.CommandRequest.TheVariants as requests
use Rattle.isa.specs.declared.hook.Hook.{Hook}
use Rattle.isa.specs.declared.hook.Hook.TheVariants as hooks

abbrev raw_words : Text → Text → Text → Text → List Text
raw_words program hook file seats = program ∷ codes "raw" ∷ hook ∷ file ∷ seats ∷ []

-- the name of a hook is no flag, and one of the names that are taken
pub record TakenHook (names : Bor (List (Bor Text))) (hook : Text) : Type 0 where
  pub plain : NoFlag hook
  pub taken : accepts false (Names names) hook ≡ true

taken_hook : (names : Bor (List (Bor Text))) (a b c d : ℕ × ℕ) → names.now ≡ hook_names a b c d
    → (hook : Hook) → TakenHook names (hook_name hook)
taken_hook names a b c d e hooks.Count = record {
  plain = record { not_end = refl; not_long = refl; not_short = refl };
  taken = rw e refl;
}
taken_hook names a b c d e hooks.Tag = record {
  plain = record { not_end = refl; not_long = refl; not_short = refl };
  taken = rw e refl;
}
taken_hook names a b c d e hooks.Price = record {
  plain = record { not_end = refl; not_long = refl; not_short = refl };
  taken = rw e refl;
}
taken_hook names a b c d e hooks.Veto = record {
  plain = record { not_end = refl; not_long = refl; not_short = refl };
  taken = rw e refl;
}

-- the command line, with any parsers for the hook and the seats, so that no proof computes them
abbrev pub line_by : ValueParser → ValueParser → App
line_by hook seats = record (line_with (record { ref_ptr = (0, 0); now = [] })) {
  subs = command (codes "raw") (checked_word (codes "HOOK") hook ∷ required_word (codes "FILE")
      ∷ checked_word (codes "SEATS") seats ∷ [])
      ∷ run ∷ asm ∷ list ∷ verify ∷ route ∷ [];
}

no_fault_by : (by_hook by_seats : ValueParser) (program hook file seats : Text) → NoFlag hook
    → NoFlag file → NoFlag seats → accepts false by_hook hook ≡ true
    → accepts false by_seats seats ≡ true
    → fault_of (line_by by_hook by_seats) (raw_words program hook file seats) ≡ []
unfolding clap_on_literals
no_fault_by by_hook by_seats program hook file seats a b c hook_taken seats_taken =
    rw (a.not_end, a.not_long, a.not_short, b.not_end, b.not_long, b.not_short)
    (rw (c.not_end, c.not_long, c.not_short, hook_taken) (rw seats_taken refl))

raw_taken : (names : Bor (List (Bor Text))) (program hook file seats : Text) → TakenHook names hook
    → NoFlag file → TakenSeats seats → Taken names (codes "raw") (raw_words program hook file seats)
unfolding clap_on_literals
raw_taken names program hook file seats a b c = record {
  no_fault = no_fault_by (Names names) (Signed (pos 1) (pos 64)) program hook file seats a.plain b
      c.plain a.taken c.taken;
  named = rw (
    a.plain.not_end,
    a.plain.not_long,
    a.plain.not_short,
    b.not_end,
    b.not_long,
    b.not_short,
    c.plain.not_end,
    c.plain.not_long,
    c.plain.not_short,
  ) refl;
}

raw_named : (names : Bor (List (Bor Text))) (program hook file seats : Text) → TakenHook names hook
    → NoFlag file → TakenSeats seats → HasWord
    (rows_of_words names (raw_words program hook file seats)) (codes "HOOK") hook
    × HasWord (rows_of_words names (raw_words program hook file seats)) (codes "FILE") file
    × (one_of (codes "SEATS") (rows_of_words names (raw_words program hook file seats))
    ≡ Some seats)
unfolding clap_on_literals
raw_named names program hook file seats a b c = (
  rw (
    a.plain.not_end,
    a.plain.not_long,
    a.plain.not_short,
    b.not_end,
    b.not_long,
    b.not_short,
    c.plain.not_end,
    c.plain.not_long,
    c.plain.not_short,
  ) refl,
  rw (
    a.plain.not_end,
    a.plain.not_long,
    a.plain.not_short,
    b.not_end,
    b.not_long,
    b.not_short,
    c.plain.not_end,
    c.plain.not_long,
    c.plain.not_short,
  ) refl,
  rw (
    a.plain.not_end,
    a.plain.not_long,
    a.plain.not_short,
    b.not_end,
    b.not_long,
    b.not_short,
    c.plain.not_end,
    c.plain.not_long,
    c.plain.not_short,
    c.unsigned,
  ) refl,
)

pub raw : RawIsTaken
raw line program seats_word hook file seats own plain is =
    let a = taken_hook own.0 own.1 own.2 own.3 own.4 own.5 hook in
    let b = no_flag file.now plain in
    let c = taken_seats seats_word seats is in
    let taken = raw_taken own.0 program (hook_name hook) file.now seats_word a b c in
    let words = raw_named own.0 program (hook_name hook) file.now seats_word a b c in
    subst (λ (l : App). Asks l (raw_words program (hook_name hook) file.now seats_word)
    (requests.Raw hook file seats)) (sym own.6) (
      taken.no_fault,
      (
        rows_of_words own.0 (raw_words program (hook_name hook) file.now seats_word),
        taken.named,
        (words.0, words.1, (seats_word, words.2, is)),
      ),
    )
