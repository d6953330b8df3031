use Rattle.std.proofs.Common.{◌≡◌, ◌+◌, List, [], None, refl, sym, subst, ap, ◌∙◌, arith}
use Rattle.flood.specs.declared.book.entry.JournalEntry.{JournalEntry}
use Rattle.flood.specs.Replay.{BookView, Replays, entry, start_of}
use Rattle.flood.proofs.Replayed.{leads_on}
use Rattle.flood.proofs.book.Book.take_unnoted.Goals as goal

pub invariant_of-self-2 : goal.invariant_of-self-2
invariant_of-self-2 g c =
    let kept = c.self.invariant in
    let after = c.step.new.self in
    let none : c.drop_start.new.start ≡ None = c.drop_start.ensures in
    let emptied : c.self.inside.journal.items ≡ [] =
    ap (λ (b : BookView). b.journal) (c.self.view_is ∙ c.mark_now.ensures) in
    let same : c.self.inside.taken ≡ c.args.self.now.taken =
    ap (λ (b : BookView). b.taken) (c.self.view_is ∙ c.mark_now.ensures) in record {
      replays =
          (let P : List JournalEntry → Type 0 =
          λ journal. Replays (start_of c.drop_start.new.start after) journal after in
          subst P (sym emptied) ([], refl, sym (ap (λ o. start_of o after) none)));
      leads = leads_on _ c.self.inside.taken c.self.inside.current after
          (entry c.args.moment c.args.event.now) c.in_ok-outs.outs.items kept.leads
          c.in_ok-outs.ensures.refused c.in_ok-outs.ensures.ok;
      weighed = kept.weighed;
      room = kept.room;
      few = omega (arith, same, c.requires.few);
      counted = ap (λ n. n + 1) kept.counted ∙ sym c.add.ensures.total;
    }

pub returns-clause-unnoted : goal.returns-clause-unnoted
returns-clause-unnoted g c = (
  ap (λ o. start_of o c.step.new.self) c.drop_start.ensures,
  ap (λ (b : BookView). b.journal) (c.self.view_is ∙ c.mark_now.ensures),
)
