use Rattle.std.proofs.Common.{◌≡◌, ◌≤◌, List, [], length, refl, sym, subst, ap, rules}
use Rattle.flood.specs.declared.book.entry.JournalEntry.{JournalEntry}
use Rattle.flood.specs.Bytes.{bytes_of}
use Rattle.flood.specs.Replay.{Replays, start_of}
use Rattle.flood.proofs.book.Book.mark_now.Goals as goal

pub invariant_of-self : goal.invariant_of-self
invariant_of-self g c =
    let kept = c.self.invariant in
    let now = c.self.inside.current in
    let emptied : c.clear.new.self.items ≡ [] = c.clear.ensures.items in
    record {
      replays =
          (let P : List JournalEntry → Type 0 = λ journal. Replays (start_of c.drop_start.new.start now)
          journal now in
          subst P (sym emptied) ([], refl, sym (ap (λ o. start_of o now) c.drop_start.ensures)));
      leads = kept.leads;
      weighed = (let P : List JournalEntry → Type 0 = λ journal. 0 ≡ bytes_of journal in
          subst P (sym emptied) refl);
      room = (let P : List JournalEntry → Type 0 = λ journal. length journal ≤ 65536 in
          subst P (sym emptied) (search rules));
      few = kept.few;
      counted = kept.counted;
    }
