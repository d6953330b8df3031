use Rattle.std.proofs.Common.{List, sym, ap, ◌∙◌}
use Rattle.words.specs.declared.key.Key.{Key}
use Rattle.lsdb.specs.Headers.{Header}
use Rattle.adjacency.specs.Contents.{Acknowledges}
use Rattle.adjacency.specs.Drafts.{drafting}
use Rattle.adjacency.proofs.Floods.{drafting-none}
use Rattle.area.proofs.Acknowledged.{drafting-more, named}
use Rattle.area.proofs.link.acknowledgments.draft_headers.Goals as goal

pub loop-header-init : goal.loop-header-init
loop-header-init c = λ delay.
    ap (λ (es : List (Key × Header)). drafting delay (named es) c.args.draft.now)
    (c.into_iter-header-iterator.ensures.into_iter_gives ∙ c.entries-header-items.ensures)

pub loop-header-preserved : goal.loop-header-preserved
loop-header-preserved c = λ delay.
    ap (drafting delay (named c.next.new.self)) (c.in_ok-add_acknowledgment.ensures delay)
    ∙ sym (drafting-more delay (Acknowledges c.in-Some.header.now) (named c.next.new.self)
    c.loop-header.draft)
    ∙ ap (λ (es : List (Key × Header)). drafting delay (named es) c.loop-header.draft)
    (sym c.in-Some.ensures.steps)
    ∙ c.loop-header.invariant delay

pub returns : goal.returns
returns c = λ delay.
    drafting-none delay c.loop-header.draft
    ∙ ap (λ (es : List (Key × Header)). drafting delay (named es) c.loop-header.draft)
    (sym c.in-None.ensures.steps.0)
    ∙ c.loop-header.invariant delay
