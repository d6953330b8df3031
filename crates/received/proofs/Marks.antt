-- What is sent marks the copies sent in Link State Updates as sent, and changes nothing else.
use Rattle.std.proofs.Common.{◌≡◌, ℕ, Bool, true, false, cond, List, [], ◌∷◌, Option, None, Some}
use Rattle.std.proofs.Common.{refl, sym, ap, ◌∙◌, true≢false}
use Rattle.std.specs.List.{AllByRecursion, fold}
use Rattle.std.specs.FinMap as finite
use Rattle.std.specs.Ordering.{eq_by_cmp, is_eq}
use Rattle.std.specs.declared.cmp.Ordering.{Ordering}
use Rattle.std.specs.declared.cmp.Ordering.TheVariants.{Less, Equal, Greater}
use Rattle.words.specs.declared.key.Key.{Key}
use Rattle.lsdb.specs.Copies.{Database, DatabaseCopy, mark_sent}
use Rattle.lsdb.specs.Headers.{lsa_key}
use Rattle.lsdb.specs.Keys.{key_cmp}
use Rattle.lsdb.proofs.Keys.{keys_total}
use Rattle.adjacency.specs.Contents.{Content}
use Rattle.adjacency.proofs.Maps.{IfThere, OfEntry, entries_in}
use Rattle.received.specs.AreaStates.{Send, marked_database}

pub tied : (o : Ordering) → is_eq o ≡ true → o ≡ Equal
tied Less e = absurd (true≢false (sym e))
tied Equal e = refl
tied Greater e = absurd (true≢false (sym e))

abbrev pub changed_by : Key → (DatabaseCopy → DatabaseCopy) → Database → Option DatabaseCopy
    → Database
changed_by key change db None = db
changed_by key change db (Some c) = finite.insert db key (change c)

abbrev sent_then : ℕ → DatabaseCopy → DatabaseCopy
sent_then moment c = record c { sent = Some moment }

abbrev marks : ℕ → Option DatabaseCopy → Option DatabaseCopy
marks moment None = None
marks moment (Some c) = Some (sent_then moment c)

-- the copy is in the database, whenever it was sent
abbrev pub IsStill : Database → Key → DatabaseCopy → Type 0
IsStill db key c = (sent : Option ℕ) × (finite.get db key ≡ Some (record c { sent = sent }))

pub marked_once : (moment : ℕ) (other key : Key) (c : DatabaseCopy) (db : Database)
    → finite.get db key ≡ Some c → IsStill (mark_sent moment other db) key c
marked_once moment other key c db there = by_found (finite.get db other) refl
  where
    by_same : (d : DatabaseCopy) → finite.get db other ≡ Some d → (b : Bool)
        → eq_by_cmp key_cmp key other ≡ b
        → IsStill (finite.insert db other (sent_then moment d)) key c
    by_same d e true is = (
      Some moment,
      finite.get-insert keys_total db other (sent_then moment d) key
          ∙ ap (λ b. cond b (Some (sent_then moment d)) (finite.get db key)) is
          ∙ ap (marks moment) (sym e ∙ finite.get_tied keys_total db key other
          (tied (key_cmp key other) is) ∙ there),
    )
    by_same d e false is = (
      c.sent,
      finite.get-insert keys_total db other (sent_then moment d) key
          ∙ ap (λ b. cond b (Some (sent_then moment d)) (finite.get db key)) is
          ∙ there,
    )

    by_found : (o : Option DatabaseCopy) → finite.get db other ≡ o
        → IsStill (changed_by other (sent_then moment) db o) key c
    by_found None e = (c.sent, there)
    by_found (Some d) e = by_same d e (eq_by_cmp key_cmp key other) refl

mark_one : (moment : ℕ) (says : Content) (key : Key) (c : DatabaseCopy) (db : Database)
    → finite.get db key ≡ Some c → IsStill (marked_database moment db says) key c
mark_one moment (Content.SendsHello h) key c db there = (c.sent, there)
mark_one moment (Content.Describes d) key c db there = (c.sent, there)
mark_one moment (Content.Requests keys) key c db there = (c.sent, there)
mark_one moment (Content.Updates lsa) key c db there =
    marked_once moment (lsa_key lsa) key c db there
mark_one moment (Content.Acknowledges h) key c db there = (c.sent, there)

pub mark_all : (moment : ℕ) (more : List Send) (key : Key) (c : DatabaseCopy) (db : Database)
    → finite.get db key ≡ Some c → IsStill
    (fold (λ (d : Database) (s : Send). marked_database moment d s.content) db more) key c
mark_all moment [] key c db there = (c.sent, there)
mark_all moment (s ∷ more) key c db there =
    let one : IsStill (marked_database moment db s.content) key c =
    mark_one moment s.content key c db there in
    mark_all moment more key (record c { sent = one.0 }) (marked_database moment db s.content) one.1

-- ---- each copy of a database is there, and still there when others were marked

abbrev pub There : Database → Key → DatabaseCopy → Type 0
There db key c = finite.get db key ≡ Some c

pub all_there : (db : Database) → AllByRecursion (OfEntry (There db)) (finite.entries db)
all_there db = entries_in (There db) db (λ key. found key (finite.get db key) refl)
  where
    found : (key : Key) (o : Option DatabaseCopy) → finite.get db key ≡ o → IfThere (There db) key o
    found key None is = tt
    found key (Some c) is = is

abbrev pub StillThere : Database → (Key × DatabaseCopy) → Type 0
StillThere db e = IsStill db e.0 e.1

pub still_all : (db : Database) (es : List (Key × DatabaseCopy))
    → AllByRecursion (OfEntry (There db)) es → AllByRecursion (StillThere db) es
still_all db [] h = tt
still_all db (e ∷ es) h = ((e.1.sent, h.0), still_all db es h.1)

pub still_marked : (moment : ℕ) (more : List Send) (db : Database) (es : List (Key × DatabaseCopy))
    → AllByRecursion (StillThere db) es → AllByRecursion (StillThere
    (fold (λ (d : Database) (s : Send). marked_database moment d s.content) db more)) es
still_marked moment more db [] h = tt
still_marked moment more db (e ∷ es) h = (
  mark_all moment more e.0 (record e.1 { sent = h.0.0 }) db h.0.1,
  still_marked moment more db es h.1,
)
