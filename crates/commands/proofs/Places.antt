-- Two lists of rules that differ only where a parse doesn't look give the same rows.
use Rattle.std.proofs.Common.{◌≡◌, ◌∙◌, ap, ap₂, refl, ℕ, zero, suc, Bool, List, [], ◌∷◌, Option}
use Rattle.std.proofs.Common.{Some, None, fold, length}
use Rattle.std.specs.Prelude.{if◌then◌else◌, drop, encode_utf8, slice_get}
use Rattle.std.specs.Str.{bytes_eq, chars}
use Rattle.clap.specs.Lexer.{long_of, short_of}
use Rattle.clap.specs.Walk.{Held, Names, Outcome, Row, Rule, Step, Text, Waiting, Walk}
use Rattle.clap.specs.Walk.{after_flag, after_step, arg_by_id, arg_by_index, arg_by_long}
use Rattle.clap.specs.Walk.{arg_by_short, attached_value, bundle, bundle_met, bundle_step}
use Rattle.clap.specs.Walk.{done, waits, plain, refused, idle, option, positional, next, trailing}
use Rattle.clap.specs.Walk.{subcommand, value}
use Rattle.clap.specs.Walk.{flag_met, long_met, long_or_other, option_met, option_word, plain_word}
use Rattle.clap.specs.Walk.{reacted, rows_after, settled_rows, short_met}
use Rattle.clap.specs.Walk.{short_or_plain, subcommand_met, subcommand_or_other, takes_values}
use Rattle.clap.specs.Walk.{to_positional, used, walk, walk_from, walked}
use Rattle.clap.specs.Walk.{finished, nothing_held, walked_from, with_default, word_met}

-- all that a parse reads of the rules
pub record SameRows (rules other : List Rule) : Type 0 where
  pub rows : (p : Option (Text × List Text)) (rows : List Row)
      → settled_rows rules p rows ≡ settled_rows other p rows
  pub long : (name : Text) → arg_by_long rules name ≡ arg_by_long other name
  pub short : (x : ℕ) → arg_by_short rules x ≡ arg_by_short other x
  pub word : (id word : Text) (held : Held)
      → option_word (arg_by_id rules id) id word held
      ≡ option_word (arg_by_id other id) id word held
  pub place : (word : Text) (w : Walk) (held : Held)
      → to_positional rules (arg_by_index rules w.position) word w held
      ≡ to_positional other (arg_by_index other w.position) word w held
  pub defaults : (rows : List Row) → fold with_default rows rules ≡ fold with_default rows other

pub reacted_same : (rules other : List Rule) → SameRows rules other
    → (rule : Rule) (values : List Text) (held : Held)
    → reacted rules rule values held ≡ reacted other rule values held
reacted_same rules other same rule values held =
    ap (λ (rows : List Row). record held {
      rows = used rule values rows;
      pending = None;
    }) (same.rows held.pending held.rows)

option_same : (rules other : List Rule) → SameRows rules other
    → (rule : Rule) (v : Option Text) (held : Held)
    → option_met rules rule v held ≡ option_met other rule v held
option_same rules other same rule (Some v) held =
    ap (λ (x : Held). (x, done)) (reacted_same rules other same rule (v ∷ []) held)
option_same rules other same rule None held =
    ap (λ (rows : List Row). (
      record held {
        rows = rows;
        pending = Some (rule.id, []);
      },
      waits rule.id,
    )) (same.rows held.pending held.rows)

flag_same : (rules other : List Rule) → SameRows rules other
    → (rule : Rule) (v : Option Text) (held : Held)
    → flag_met rules rule v held ≡ flag_met other rule v held
flag_same rules other same rule (Some v) held = refl
flag_same rules other same rule None held =
    ap (λ (x : Held). (x, done)) (reacted_same rules other same rule [] held)

long_same : (rules other : List Rule) → SameRows rules other
    → (o : Option Rule) (v : Option Text) (held : Held)
    → long_met rules o v held ≡ long_met other o v held
long_same rules other same None v held = refl
long_same rules other same (Some rule) v held =
    ap₂ (λ (x y : Held × Outcome). if takes_values rule then x else y)
    (option_same rules other same rule v held) (flag_same rules other same rule v held)

short_same : (rules other : List Rule) → SameRows rules other
    → (o : Option Rule) (rest : Text) (held : Held) (f g : Held → Held × Outcome)
    → ((k : Held) → f k ≡ g k) → short_met rules o rest held f ≡ short_met other o rest held g
short_same rules other same None rest held f g e = refl
short_same rules other same (Some rule) rest held f g e =
    ap₂ (λ (x y : Held × Outcome). if takes_values rule then x else y)
    (option_same rules other same rule (attached_value rest) held)
    (e (reacted rules rule [] held) ∙ ap g (reacted_same rules other same rule [] held))

step_same : (rules other : List Rule) → SameRows rules other
    → (o : Option ℕ) (flags : Text) (skip : ℕ) (so_far : Outcome) (held : Held)
    (f g : Text → ℕ → Outcome → Held → Held × Outcome)
    → ((t : Text) (n : ℕ) (x : Outcome) (k : Held) → f t n x k ≡ g t n x k)
    → bundle_step rules o flags skip so_far held f
    ≡ bundle_step other o flags skip so_far held g
step_same rules other same None flags skip so_far held f g e = refl
step_same rules other same (Some x) flags zero so_far held f g e =
    let rest : Text = drop (length (encode_utf8 x)) flags in
    ap (λ (o : Option Rule). short_met rules o rest held (f rest 0 done)) (same.short x)
    ∙ short_same rules other same (arg_by_short other x) rest held (f rest 0 done) (g rest 0 done)
    (e rest 0 done)
step_same rules other same (Some x) flags (suc skip) so_far held f g e =
    e (drop (length (encode_utf8 x)) flags) skip so_far held

bundle_same : (rules other : List Rule) → SameRows rules other
    → (k : ℕ) (flags : Text) (skip : ℕ) (so_far : Outcome) (held : Held)
    → bundle_met rules k flags skip so_far held ≡ bundle_met other k flags skip so_far held
unfolding bundle_met
bundle_same rules other same zero flags skip so_far held = refl
bundle_same rules other same (suc k) flags skip so_far held =
    step_same rules other same (slice_get (chars flags) 0) flags skip so_far held
    (bundle_met rules k) (bundle_met other k) (bundle_same rules other same k)

plain_same : (rules other : List Rule) → SameRows rules other
    → (waiting : Waiting) (word : Text) (held : Held)
    → plain_word rules waiting word held ≡ plain_word other waiting word held
plain_same rules other same idle word held = refl
plain_same rules other same positional word held = refl
plain_same rules other same (option id) word held =
    ap (λ (p : Held × Waiting). (p.0, next p.1)) (same.word id word held)

after_same : (rules other : List Rule) → SameRows rules other
    → (waiting : Waiting) (word : Text) (held : Held) (o : Outcome)
    → after_flag rules waiting word held o ≡ after_flag other waiting word held o
after_same rules other same waiting word held done = refl
after_same rules other same waiting word held (waits id) = refl
after_same rules other same waiting word held plain = plain_same rules other same waiting word held
after_same rules other same waiting word held refused =
    plain_same rules other same waiting word held

flag_word_same : (rules other : List Rule) → SameRows rules other
    → (waiting : Waiting) (word : Text) (p q : Held × Outcome) → p ≡ q
    → after_flag rules waiting word p.0 p.1 ≡ after_flag other waiting word q.0 q.1
flag_word_same rules other same waiting word p q e =
    ap (λ (x : Held × Outcome). after_flag rules waiting word x.0 x.1) e
    ∙ after_same rules other same waiting word q.0 q.1

short_word_same : (rules other : List Rule) → SameRows rules other
    → (waiting : Waiting) (word : Text) (flags : Option Text) (held : Held)
    → short_or_plain rules waiting word flags held
    ≡ short_or_plain other waiting word flags held
short_word_same rules other same waiting word None held =
    plain_same rules other same waiting word held
short_word_same rules other same waiting word (Some flags) held =
    flag_word_same rules other same waiting word (bundle rules flags held) (bundle other flags held)
    (bundle_same rules other same (length flags) flags held.skip plain (record held { skip = 0 }))

long_word_same : (rules other : List Rule) → SameRows rules other
    → (waiting : Waiting) (word : Text) (p : Option (Text × Option Text)) (held : Held)
    → long_or_other rules waiting word p held ≡ long_or_other other waiting word p held
long_word_same rules other same waiting word None held =
    short_word_same rules other same waiting word (short_of word) held
long_word_same rules other same waiting word (Some p) held =
    flag_word_same rules other same waiting word (long_met rules (arg_by_long rules p.0) p.1 held)
    (long_met other (arg_by_long other p.0) p.1 held)
    (ap (λ (o : Option Rule). long_met rules o p.1 held) (same.long p.0)
    ∙ long_same rules other same (arg_by_long other p.0) p.1 held)

other_same : (rules other : List Rule) → SameRows rules other
    → (name : Option Text) (waiting : Waiting) (position : ℕ) (word : Text) (held : Held)
    → subcommand_or_other rules name waiting position word held
    ≡ subcommand_or_other other name waiting position word held
other_same rules other same (Some name) waiting position word held = refl
other_same rules other same None waiting position word held =
    ap (λ (x : Held × Step). if bytes_eq word (45 ∷ 45 ∷ []) then (held, trailing position) else x)
    (long_word_same rules other same waiting word (long_of word) held)

pub word_same : (rules other : List Rule) → SameRows rules other
    → (names : Names) (is_trailing : Bool) (waiting : Waiting) (position : ℕ) (word : Text)
    (held : Held) → word_met rules names is_trailing waiting position word held
    ≡ word_met other names is_trailing waiting position word held
word_same rules other same names is_trailing waiting position word held =
    ap (λ (x : Held × Step). if is_trailing then (held, value) else x)
    (other_same rules other same (subcommand_met names waiting word) waiting position word held)

after_step_same : (rules other : List Rule) → SameRows rules other
    → (word : Text) (w : Walk) (held : Held) (s : Step)
    → after_step rules word w held s ≡ after_step other word w held s
after_step_same rules other same word w held (next waiting) = refl
after_step_same rules other same word w held (trailing position) = refl
after_step_same rules other same word w held (subcommand name) = refl
after_step_same rules other same word w held value = same.place word w held

from_same : (rules other : List Rule) → SameRows rules other
    → (names : Names) (stopped : Option (Text × List Text)) (w : Walk) (word : Text)
    → walked_from rules names stopped w word ≡ walked_from other names stopped w word
from_same rules other same names (Some p) w word = refl
from_same rules other same names None w word =
    ap (λ (met : Held × Step). after_step rules word w met.0 met.1)
    (word_same rules other same names w.is_trailing w.waiting w.position word w.held)
    ∙ after_step_same rules other same word w
    (word_met other names w.is_trailing w.waiting w.position word w.held).0
    (word_met other names w.is_trailing w.waiting w.position word w.held).1

pub walked_same : (rules other : List Rule) → SameRows rules other
    → (names : Names) (w : Walk) (word : Text)
    → walked rules names w word ≡ walked other names w word
unfolding walked
walked_same rules other same names w word = from_same rules other same names w.stopped w word

walk_from_same : (rules other : List Rule) → SameRows rules other
    → (names : Names) (words : List Text) (w : Walk)
    → fold (walked rules names) w words ≡ fold (walked other names) w words
walk_from_same rules other same names [] w = refl
walk_from_same rules other same names (word ∷ rest) w =
    ap (λ (v : Walk). fold (walked rules names) v rest) (walked_same rules other same names w word)
    ∙ walk_from_same rules other same names rest (walked other names w word)

pub walk_same : (rules other : List Rule) → SameRows rules other
    → (names : Names) (held : Held) (words : List Text)
    → walk rules names held words ≡ walk other names held words
walk_same rules other same names held words =
    walk_from_same rules other same names words (walk_from held)

pub finished_same : (rules other : List Rule) → SameRows rules other → (held : Held)
    → finished rules held ≡ finished other held
finished_same rules other same held =
    ap (λ (rows : List Row). fold with_default rows rules) (same.rows held.pending held.rows)
    ∙ same.defaults (settled_rows other held.pending held.rows)

pub rows_same : (rules other : List Rule) → SameRows rules other
    → (names : Names) (words : List Text)
    → rows_after rules names words ≡ rows_after other names words
rows_same rules other same names words =
    ap (λ (w : Walk). finished rules w.held) (walk_same rules other same names nothing_held words)
    ∙ finished_same rules other same (walk other names nothing_held words).held
