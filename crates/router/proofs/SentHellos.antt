-- The Hello of a link.
use Rattle.std.proofs.Common.{◌≡◌, ℕ, true, false, cond, Bool, List, [], ◌∷◌, refl, sym, ap, ◌∙◌}
use Rattle.std.specs.Prelude.{Option, None, Some}
use Rattle.adjacency.specs.Contents.{Content, SendsHello}
use Rattle.adjacency.specs.Drafts.{Drafted, drafting}
use Rattle.adjacency.specs.Neighbors.{Neighbor}
use Rattle.adjacency.specs.Steps.{named_neighbor}
use Rattle.adjacency.proofs.Floods.{drafting-none}
use Rattle.received.specs.Links.{Link}
use Rattle.event_rules.specs.Hellos.{heard_of, hello_is_due, hello_on, with_hello_sent}
use Rattle.event_rules.specs.Ticks.{hello_sent_on}
use Rattle.router.specs.SentHellos.{routers_of}

pub heard_is : (o : Option Neighbor) → routers_of (named_neighbor o) ≡ heard_of o
heard_is None = refl
heard_is (Some n) = refl

abbrev link_by : ℕ → Link → Bool → Link
link_by moment l b = record l { last_hello_sent = cond b (Some moment) l.last_hello_sent }

abbrev sends_by : Link → Bool → List Content
sends_by l b = cond b (SendsHello (hello_on l) ∷ []) []

module _ (moment : ℕ) (l : Link) where
  pub greeted : hello_is_due moment l ≡ true → record l {
    last_hello_sent = Some moment;
  } ≡ with_hello_sent moment l
  greeted is = ap (link_by moment l) (sym is)

  pub silent : hello_is_due moment l ≡ false → l ≡ with_hello_sent moment l
  silent is = ap (link_by moment l) (sym is)

  pub greeting_sent : (delay : ℕ) (d : Drafted) → hello_is_due moment l ≡ true
      → drafting delay (SendsHello (hello_on l) ∷ []) d ≡ drafting delay (hello_sent_on moment l) d
  greeting_sent delay d is = ap (λ b. drafting delay (sends_by l b) d) (sym is)

  pub nothing_sent : (delay : ℕ) (d : Drafted) → hello_is_due moment l ≡ false
      → d ≡ drafting delay (hello_sent_on moment l) d
  nothing_sent delay d is = drafting-none delay d
      ∙ ap (λ b. drafting delay (sends_by l b) d) (sym is)
