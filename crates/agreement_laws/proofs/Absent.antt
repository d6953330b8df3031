-- What isn't in the database stays out of it, until a copy of its key is put there.
use Rattle.std.proofs.Common.{◌≡◌, ℕ, Bool, true, false, List, [], ◌∷◌, Option, None, Some, refl}
use Rattle.std.proofs.Common.{sym, ap, ◌∙◌}
use Rattle.std.specs.FinMap as finite
use Rattle.std.specs.List.{fold}
use Rattle.words.specs.declared.key.Key.{Key}
use Rattle.lsdb.specs.Copies.{Database, DatabaseCopy}
use Rattle.lsdb.specs.Headers.{Lsa, lsa_key}
use Rattle.lsdb.specs.Keys.{same_key}
use Rattle.adjacency.specs.Contents.{Content}
use Rattle.received.specs.AreaStates.{AreaState, Send, marked_database}
use Rattle.received.proofs.Marks.{changed_by}
use Rattle.event_rules.specs.Originations.{new_instance}
use Rattle.invariants.proofs.Limits.{tied_key}
use Rattle.invariants.proofs.Owing.{put_other}
use Rattle.agreement_laws.proofs.Databases.{IsKept, flushed_copy, originated_copy}

module _ (key : Key) where
  abbrev pub IsNone : Database → Type 0
  IsNone db = finite.get db key ≡ None

  pub none_put : (k : Key) (c : DatabaseCopy) (db : Database) → same_key key k ≡ false → IsNone db
      → IsNone (finite.insert db k c)
  none_put k c db other none = put_other db k key c other ∙ none

  -- a copy of another key
  pub another : (k : Key) (c : DatabaseCopy) (db : Database) → finite.get db k ≡ Some c → IsNone db
      → same_key key k ≡ false
  another k c db at none = by_key (same_key key k) refl
    where
      by_key : (b : Bool) → same_key key k ≡ b → same_key key k ≡ false
      by_key true same =
          let no : None ≡ Some c =
          sym none ∙ ap (λ (q : Key). finite.get db q) (tied_key key k same) ∙ at in absurd cc
      by_key false other = other

  pub none_changed : (k : Key) (f : DatabaseCopy → DatabaseCopy) (db : Database)
      (o : Option DatabaseCopy) → finite.get db k ≡ o → IsNone db → IsNone (changed_by k f db o)
  none_changed k f db None at none = none
  none_changed k f db (Some c) at none = none_put k (f c) db (another k c db at none) none

  one_marked : (moment : ℕ) (says : Content) (db : Database) → IsNone db
      → IsNone (marked_database moment db says)
  one_marked moment (Content.SendsHello hello) db none = none
  one_marked moment (Content.Describes d) db none = none
  one_marked moment (Content.Requests keys) db none = none
  one_marked moment (Content.Updates lsa) db none =
      none_changed (lsa_key lsa) (λ c. record c { sent = Some moment }) db
      (finite.get db (lsa_key lsa)) refl none
  one_marked moment (Content.Acknowledges h) db none = none

  -- what is sent marks copies
  pub none_marked : (moment : ℕ) (more : List Send) (db : Database) → IsNone db
      → IsNone (fold (λ (d : Database) (s : Send). marked_database moment d s.content) db more)
  none_marked moment [] db none = none
  none_marked moment (s ∷ more) db none =
      none_marked moment more (marked_database moment db s.content)
      (one_marked moment s.content db none)

  abbrev pub Lacks : AreaState → Type 0
  Lacks o = IsNone o.area.database

  -- if the key isn't the router's own
  pub none_kept : (own moment : ℕ) → (key.advertising_router ≡ own → ⊥) → IsKept own moment IsNone
  none_kept own moment others = record {
    marks = none_marked moment;
    flushes = λ k c db at none. none_changed k (flushed_copy moment) db (finite.get db k) refl none;
    originates = λ k says db its its_key none.
        let lsa : Lsa = new_instance k (finite.get db k) says in
        none_put (lsa_key lsa) (originated_copy moment lsa) db
        (not_its (lsa_key lsa) (ap (λ (q : Key). q.advertising_router) its_key ∙ its)) none;
  }
    where
      not_its : (k : Key) → k.advertising_router ≡ own → same_key key k ≡ false
      not_its k its = by_key (same_key key k) refl
        where
          by_key : (b : Bool) → same_key key k ≡ b → same_key key k ≡ false
          by_key true same = absurd (others
              (ap (λ (q : Key). q.advertising_router) (tied_key key k same) ∙ its))
          by_key false other = other
