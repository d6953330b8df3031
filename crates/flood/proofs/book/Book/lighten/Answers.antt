use Rattle.std.proofs.Common.{◌≡◌, ◌≤◌, ℕ, List, ◌++◌, length, take, drop, sym, subst, ap, ◌∙◌}
use Rattle.flood.specs.declared.book.entry.JournalEntry.{JournalEntry}
use Rattle.flood.specs.Bytes.{bytes_of}
use Rattle.flood.specs.Replay.{BookView, IsInstalledLast, IsLightened, Replays, forgotten_at}
use Rattle.flood.specs.Replay.{start_of}
use Rattle.flood.proofs.Forgotten.{forgotten_bytes, forgotten_length, lightened, lightened_replays}
use Rattle.flood.proofs.Forgotten.{written_back}
use Rattle.flood.proofs.book.Book.lighten.Goals as goal

pub invariant_of-self : goal.invariant_of-self
invariant_of-self g c =
    let kept = c.self.invariant in
    let items : List JournalEntry = c.self.inside.journal.items in
    let place : ℕ = c.in-Some-replace.place in
    let same : take c.self.inside.journal.len
    (c.forget_answers.new.journal ++ drop (length c.forget_answers.new.journal) items)
    ≡ forgotten_at items place =
    written_back items c.deref_mut.result.now c.forget_answers.new.journal c.self.inside.journal.len
    place
    c.deref_mut.ensures.value c.deref_mut.ensures.len c.forget_answers.ensures in
    let light : IsLightened items (forgotten_at items place) =
    lightened items c.in-Some.last place
    (subst (λ (l : List JournalEntry). IsInstalledLast l c.in-Some.last) c.deref.ensures.value
    c.in-Some.ensures) c.if-place-last.true in
    let room : length (forgotten_at items place) ≤ 65536 =
    subst (λ (n : ℕ). n ≤ 65536) (sym (forgotten_length items place)) kept.room in record {
      replays =
          subst (λ (l : List JournalEntry). Replays
          (start_of c.self.inside.start c.self.inside.current) l
          c.self.inside.current) (sym same)
          (lightened_replays items (forgotten_at items place)
          (start_of c.self.inside.start c.self.inside.current) c.self.inside.current light
          kept.replays);
      leads = kept.leads;
      weighed = kept.weighed ∙ sym (forgotten_bytes items place) ∙ ap bytes_of (sym same);
      room = subst (λ (l : List JournalEntry). length l ≤ 65536) (sym same) room;
      few = kept.few;
      counted = kept.counted;
    }

pub returns-then-place-last-clause-journal : goal.returns-then-place-last-clause-journal
returns-then-place-last-clause-journal g c =
    let items : List JournalEntry = c.self.inside.journal.items in
    let place : ℕ = c.in-Some-replace.place in
    let made : List JournalEntry = take c.self.inside.journal.len
    (c.forget_answers.new.journal ++ drop (length c.forget_answers.new.journal) items) in
    let same : made ≡ forgotten_at items place =
    written_back items c.deref_mut.result.now c.forget_answers.new.journal c.self.inside.journal.len
    place
    c.deref_mut.ensures.value c.deref_mut.ensures.len c.forget_answers.ensures in
    subst (λ (v : BookView). IsLightened v.journal made) c.self.view_is
    (subst (λ (l : List JournalEntry). IsLightened items l) (sym same)
    (lightened items c.in-Some.last place
    (subst (λ (l : List JournalEntry). IsInstalledLast l c.in-Some.last) c.deref.ensures.value
    c.in-Some.ensures) c.if-place-last.true))
