-- The question of parts that were read.
use Rattle.std.proofs.Common.{◌≡◌, List, Option, Err, codes, subst, sym}
use Rattle.clap.specs.Walk.{Row, Text, all_of, first_of}
use Rattle.hooktool_trials.specs.Lists.{HasLists}
use Rattle.hooktool_trials.specs.Questions.{HasQuestion, HasRows, HasSettings}
use Rattle.hooktool_trials.specs.Words.{IsNoPacket, IsPacket, OrElse, ReadsOrLacks}
use Rattle.hooktool_trials.specs.declared.requests.PacketSource.{PacketSource}
use Rattle.hooktool_trials.specs.declared.settings.Setting.{Setting}
use Rattle.hooktool_trials.specs.declared.values.NotRead.{NotRead}
use Rattle.hooktool_trials.specs.declared.values.NotRead.TheVariants as not_read
use Rattle.words.specs.declared.route.TableRow.{TableRow}
use Rattle.std.specs.Global.{Vec}

abbrev pub HasPacket : Option Text → PacketSource → Type 0
HasPacket word packet = OrElse word (IsNoPacket packet) (λ w. IsPacket w packet)

-- without a packet there is no question
pub no_packet : (found : List Row) (word : Option Text) (lack : NotRead)
    → word ≡ first_of (codes "packet") found → ReadsOrLacks (HasPacket word) (Err lack)
    → ReadsOrLacks (HasQuestion found) (Err lack)
no_packet found word (not_read.Meaningless wrong) same none = λ question q.
    none question.packet (subst (λ (w : Option Text). HasPacket w question.packet) (sym same)
    q.packet)
no_packet found word not_read.OutOfMemory same none = tt

-- without lists there is none
pub no_lists : (found : List Row) (lack : NotRead) → ReadsOrLacks (HasLists found) (Err lack)
    → ReadsOrLacks (HasQuestion found) (Err lack)
no_lists found (not_read.Meaningless wrong) none = λ question q.
    none (record { rows = question.rows; counters = question.counters; cells = question.cells })
    (record { table = q.table; counters = q.counters; cells = q.cells })
no_lists found not_read.OutOfMemory none = tt

-- without rows there are no lists
pub no_rows : (found : List Row) (words : Option (List Text)) (lack : NotRead)
    → words ≡ all_of (codes "row") found
    → ReadsOrLacks {A = Vec TableRow} (λ rows. HasRows words rows.items) (Err lack)
    → ReadsOrLacks (HasLists found) (Err lack)
no_rows found words (not_read.Meaningless wrong) all none = λ lists has.
    none lists.rows (subst (λ (w : Option (List Text)). HasRows w lists.rows.items) (sym all)
    has.table)
no_rows found words not_read.OutOfMemory all none = tt

pub no_counters : (found : List Row) (words : Option (List Text)) (lack : NotRead)
    → words ≡ all_of (codes "counter") found
    → ReadsOrLacks {A = Vec Setting} (λ them. HasSettings words 256 16777215 them.items) (Err lack)
    → ReadsOrLacks (HasLists found) (Err lack)
no_counters found words (not_read.Meaningless wrong) all none = λ lists has.
    none lists.counters (subst (λ (w : Option (List Text)). HasSettings w 256 16777215
    lists.counters.items) (sym all) has.counters)
no_counters found words not_read.OutOfMemory all none = tt

pub no_cells : (found : List Row) (words : Option (List Text)) (lack : NotRead)
    → words ≡ all_of (codes "cell") found
    → ReadsOrLacks {A = Vec Setting} (λ them. HasSettings words 64 18446744073709551615 them.items)
    (Err lack) → ReadsOrLacks (HasLists found) (Err lack)
no_cells found words (not_read.Meaningless wrong) all none = λ lists has.
    none lists.cells (subst (λ (w : Option (List Text)). HasSettings w 64 18446744073709551615
    lists.cells.items) (sym all) has.cells)
no_cells found words not_read.OutOfMemory all none = tt
