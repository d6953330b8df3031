use Rattle.std.proofs.Common.{◌≡◌, ◌<◌, ◌^◌, ◌+◌, List, [], ◌∷◌, ◌++◌, Some, length, sym, subst}
use Rattle.std.proofs.Common.{ap, ◌∙◌, arith, rules}
use Rattle.std.proofs.lemmas.List.{length-append}
use Rattle.event_rules.specs.Routers.{Router}
use Rattle.flood.specs.declared.book.entry.JournalEntry.{JournalEntry}
use Rattle.flood.specs.Bytes.{bytes_of, with_event}
use Rattle.flood.specs.Replay.{BookView, Replays, entry, start_of}
use Rattle.flood.proofs.Noted.{where_ok}
use Rattle.flood.proofs.Replayed.{bytes_with, leads_on, replays_on}
use Rattle.flood.proofs.book.Book.attempt.Goals as goal

pub invariant_of-self-in-Ok : goal.invariant_of-self-in-Ok
invariant_of-self-in-Ok g c =
    let kept = c.self.invariant in
    let journal = c.self.inside.journal.items in
    let after = c.step.new.self in
    let from : Router = start_of c.self.inside.start c.self.inside.current in
    let held : c.hold.new.start ≡ Some from =
    where_ok c.hold.result (c.hold.new.start ≡ Some from) (search rules) c.hold.ensures.ok in
    let last = entry c.args.moment c.args.event in
    let grown : c.push_reserved.new.self.items ≡ journal ++ last ∷ [] =
    c.push_reserved.ensures.items ∙ ap (λ l. l ++ last ∷ []) c.reserve.ensures.items in record {
      replays =
          (let P : List JournalEntry → Type 0 =
          λ l. Replays (start_of c.hold.new.start after) l after in
          subst P (sym grown)
          (subst (λ (r : Router). Replays r (journal ++ last ∷ []) after)
          (sym (ap (λ o. start_of o after) held))
          (replays_on from journal _ _ last _ kept.replays c.in-Ok.ensures.ok)));
      leads = leads_on _ c.self.inside.taken c.self.inside.current after last _ kept.leads
          c.in-Ok.ensures.refused c.in-Ok.ensures.ok;
      weighed =
          c.with_event-self-inside.ensures ∙ (ap (λ n. with_event n c.args.event) kept.weighed
          ∙ (sym (bytes_with journal last) ∙ ap bytes_of (sym grown)));
      room =
          (let fits : length journal < 65536 =
          subst (λ (b : BookView). length b.journal < 65536) (sym c.self.view_is) c.requires.room in
          omega (arith, fits, ap length grown, length-append journal (last ∷ [])));
      few =
          (let free : c.self.inside.taken < 2 ^ 63 =
          subst (λ (b : BookView). b.taken < 2 ^ 63) (sym c.self.view_is) c.requires.few in
          omega (arith, free));
      counted = ap (λ n. n + 1) kept.counted ∙ sym c.add.ensures.total;
    }
