-- What was done in rounds, put one after the other.
use Rattle.std.proofs.Common.{◌≡◌, inl, inr, ℕ, zero, suc, List, [], ◌∷◌, ◌++◌, map, Option, Some}
use Rattle.std.proofs.Common.{None, refl, sym, subst, ap, ◌∙◌}
use Rattle.std.proofs.lemmas.List.{append-nil, append_assoc, map-append}
use Rattle.turns.specs.declared.work.Work.TheVariants.{Datagram, Tick}
use Rattle.worker.specs.Lives.{IsHandled, Listens, Lives, Reads, Senses, Standing, Ticks}
use Rattle.own_lsa_laws.specs.Deeds.{Deed, DoesEach, EachMayFollow, IsLookingAfter}
use Rattle.own_lsa_laws.specs.Deeds.{LivesAreDeedsInOrder, MayFollow, given, given_by, heard}
use Rattle.own_lsa_laws.specs.Deeds.{heard_by, last_tick, tick_after}

-- ---- one list after another

then_each : {Transport Clock : Type 0} (senses : Senses Transport Clock)
    (a b c : Standing Transport Clock) (xs ys : List Deed) → DoesEach senses a xs b
    → DoesEach senses b ys c → DoesEach senses a (xs ++ ys) c
then_each senses a b c [] ys same h = subst (λ s. DoesEach senses s ys c) same h
then_each senses a b c (x ∷ xs) ys (between, does, rest) h =
    (between, does, then_each senses between b c xs ys rest h)

last_append : (before : Option ℕ) (xs ys : List Deed) → last_tick before (xs ++ ys)
    ≡ last_tick (last_tick before xs) ys
last_append before [] ys = refl
last_append before (x ∷ xs) ys = last_append (tick_after before x) xs ys

heard_append : (xs ys : List Deed) → heard (xs ++ ys) ≡ heard xs ++ heard ys
heard_append [] ys = refl
heard_append (x ∷ xs) ys = ap (λ l. heard_by x ++ l) (heard_append xs ys)
    ∙ sym (append_assoc (heard_by x) (heard xs) (heard ys))

given_append : (xs ys : List Deed) → given (xs ++ ys) ≡ given xs ++ given ys
given_append [] ys = refl
given_append (x ∷ xs) ys = ap (λ l. given_by x ++ l) (given_append xs ys)
    ∙ sym (append_assoc (given_by x) (given xs) (given ys))

follow_append : (earlier xs ys : List Deed) → EachMayFollow earlier xs
    → EachMayFollow (earlier ++ xs) ys → EachMayFollow earlier (xs ++ ys)
follow_append earlier [] ys h k = subst (λ l. EachMayFollow l ys) (append-nil earlier) k
follow_append earlier (x ∷ xs) ys (first, rest) k = (
  first,
  follow_append (earlier ++ x ∷ []) xs ys rest
      (subst (λ l. EachMayFollow l ys) (sym (append_assoc earlier (x ∷ []) xs)) k),
)

-- ---- what was done so far, and the moment of the last Tick

module _ {Transport Clock : Type 0} (senses : Senses Transport Clock) where
  record Done (start : Standing Transport Clock) (ticked : Option ℕ)
      (now : Standing Transport Clock) : Type 0
    where
      pub deeds : List Deed
      pub does : DoesEach senses start deeds now
      pub follows : EachMayFollow [] deeds
      pub works : given deeds ≡ map (λ bytes. Datagram senses.number bytes) (heard deeds)
      pub last : last_tick None deeds ≡ ticked

  -- more of it
  abbrev done_more : (start : Standing Transport Clock) (ticked : Option ℕ)
      (before : Standing Transport Clock) (next : Option ℕ) (after : Standing Transport Clock)
      (d : Done start ticked before) (more : List Deed) → DoesEach senses before more after
      → EachMayFollow d.deeds more → given more
      ≡ map (λ bytes. Datagram senses.number bytes) (heard more) → last_tick ticked more
      ≡ next → Done start next after
  done_more start ticked before next after d more does follows works last = record {
    deeds = d.deeds ++ more;
    does = then_each senses start before after d.deeds more d.does does;
    follows = follow_append [] d.deeds more d.follows follows;
    works = given_append d.deeds more ∙ ap (λ l. l ++ given more) d.works
        ∙ ap (λ l. map (λ bytes. Datagram senses.number bytes) (heard d.deeds) ++ l) works
        ∙ sym (map-append (λ bytes. Datagram senses.number bytes) (heard d.deeds) (heard more))
        ∙ ap (map (λ bytes. Datagram senses.number bytes)) (sym (heard_append d.deeds more));
    last = last_append None d.deeds more ∙ ap (λ t. last_tick t more) d.last ∙ last;
  }

  -- at the end of a round the worker may look at its clock
  record Rounded (start : Standing Transport Clock) (ticked : Option ℕ)
      (now : Standing Transport Clock)
      : Type 0 where
    pub so_far : Done start ticked now
    pub looks : IsLookingAfter so_far.deeds

  -- whether the clock was looked at alone, or a Tick came of it, whoever listens now may
  record Looked (start : Standing Transport Clock) (ticked : Option ℕ)
      (now : Standing Transport Clock) : Type
      0 where
    pub so_far : Done start ticked now
    pub listens : (heard : Option (List ℕ)) → MayFollow so_far.deeds (Deed.Listens heard)

  ticked_now : (start : Standing Transport Clock) (ticked : Option ℕ)
      (before : Standing Transport Clock) (next : Option ℕ) (after : Standing Transport Clock)
      (d : Done start ticked before) → IsLookingAfter d.deeds
      → Ticks senses ticked before next after → Looked start next after
  ticked_now start ticked before next after d looks t =
      elim t.turn as (λ _. Looked start next after) [
        | inl (same, keeps, is_after) ↦
            record {
              so_far = done_more start ticked before next after d (Deed.Looks t.moment ∷ []) (
                record before {
                  clock = t.shown;
                },
                (t.shown, t.is_shown, refl),
                is_after,
              ) (looks, tt) refl
                  (sym keeps);
              listens = λ heard. inr (
                t.moment,
                (d.deeds, refl),
                last_append None d.deeds (Deed.Looks t.moment ∷ []) ∙ d.last ∙ same,
              );
            }
        | inr (other, (ended, is_next, serves)) ↦
            record {
              so_far = done_more start ticked before next after d
                  (Deed.Looks t.moment ∷ Deed.Gives t.moment Tick ended ∷ []) (
                    record before {
                      clock = t.shown;
                    },
                    (t.shown, t.is_shown, refl),
                    (after, serves, refl),
                  ) (
                    looks,
                    (
                      (
                        (d.deeds, refl),
                        λ e. other
                            (sym d.last ∙ sym (last_append None d.deeds (Deed.Looks t.moment ∷ []))
                            ∙ e),
                      ),
                      tt,
                    ),
                  )
                  refl (sym is_next);
              listens = λ heard. inl (
                t.moment,
                ended,
                (
                  d.deeds ++ Deed.Looks t.moment ∷ [],
                  sym (append_assoc d.deeds (Deed.Looks t.moment ∷ [])
                      (Deed.Gives t.moment Tick ended ∷ [])),
                ),
              );
            }
      ]

  heard_now : (start : Standing Transport Clock) (ticked : Option ℕ)
      (before : Standing Transport Clock) (heard : Option (List ℕ)) (between : Transport)
      (after : Standing Transport Clock) → Looked start ticked before
      → senses.hears before.transport heard between
      → IsHandled senses heard (record before { transport = between }) after
      → Rounded start ticked after
  heard_now start ticked before None between after l is_heard turn = record {
    so_far = done_more start ticked before ticked after l.so_far (Deed.Listens None ∷ []) (
      record before {
        transport = between;
      },
      (between, is_heard, refl),
      turn,
    ) (l.listens None, tt) refl refl;
    looks = inr (inl (None, (l.so_far.deeds, refl)));
  }
  heard_now start ticked before (Some bytes) between after l is_heard
      (moment, shown, ended, is_shown, serves) =
      let hearing = Deed.Listens (Some bytes) in
      let looking = Deed.Looks moment in
      let giving = Deed.Gives moment (Datagram senses.number bytes) ended in
      record {
        so_far = done_more start ticked before ticked after l.so_far
            (hearing ∷ looking ∷ giving ∷ []) (
              record before { transport = between },
              (between, is_heard, refl),
              (
                record before {
                  transport = between;
                  clock = shown;
                },
                (shown, is_shown, refl),
                (after, serves, refl),
              ),
            ) (
              l.listens (Some bytes),
              (
                inr (inl (Some bytes, (l.so_far.deeds, refl))),
                (
                  (
                    l.so_far.deeds,
                    append_assoc l.so_far.deeds (hearing ∷ []) (looking ∷ []),
                  ),
                  tt,
                ),
              ),
            ) refl refl;
        looks = inr (inr (
          moment,
          senses.number,
          bytes,
          ended,
          (
            l.so_far.deeds ++ hearing ∷ looking ∷ [],
            sym (append_assoc l.so_far.deeds (hearing ∷ looking ∷ []) (giving ∷ [])),
          ),
        ));
      }

  listened_now : (start : Standing Transport Clock) (ticked : Option ℕ)
      (before after : Standing Transport Clock) → Looked start ticked before
      → Listens senses before after → Rounded start ticked after
  listened_now start ticked before after l h =
      heard_now start ticked before h.heard h.between after l h.is_heard h.turn

  all_rounds : {Flag : Type 0} (reads : Reads Flag) (begun : Flag)
      (start : Standing Transport Clock) (rounds : ℕ) (ticked : Option ℕ) (flag : Flag)
      (now : Standing Transport Clock) → Lives senses reads begun start rounds ticked flag now
      → Rounded start ticked now
  all_rounds reads begun start zero ticked flag now (none, unread, same) = record {
    so_far = record { deeds = []; does = same; follows = tt; works = refl; last = sym none };
    looks = inl refl;
  }
  all_rounds reads begun start (suc rounds) ticked flag now
      (earlier, unset, then, lives, read, (between, ticks, listens)) =
      let r = all_rounds reads begun start rounds earlier unset then lives in
      listened_now start ticked between now
      (ticked_now start earlier then ticked between r.so_far r.looks ticks) listens

pub in_order : {Transport Clock Flag : Type 0} (senses : Senses Transport Clock)
    (reads : Reads Flag) → LivesAreDeedsInOrder senses reads
in_order senses reads begun flag start now rounds ticked lives =
    let r = all_rounds senses reads begun start rounds ticked flag now lives in
    record {
      deeds = r.so_far.deeds;
      does = r.so_far.does;
      follows = r.so_far.follows;
      looks_next = r.looks;
      works = r.so_far.works;
    }
