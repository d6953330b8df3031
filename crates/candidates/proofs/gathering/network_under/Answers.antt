use Rattle.std.proofs.Common.{◌≡◌, ◌≤◌, Option, Some, None, sym, subst, ◌∙◌}
use Rattle.std.specs.Prelude.{IfSome, IfNone, ℕ}
use Rattle.words.specs.Prefixes.{IsNetwork, IsUnder, Network, mask_of}
use Rattle.routes.specs.Offers.{IsPrefix}
use Rattle.routes.proofs.Prefixes.{one_prefix}
use Rattle.candidates.specs.Gathering.{IsOnly}
use Rattle.candidates.proofs.gathering.network_under.Goals as goal

just : (address mask : ℕ) (found : Option Network)
    → IfSome found (λ network. (mask ≡ mask_of network.length) × IsNetwork network
    × IsUnder address network) → IfNone found
    ((length : ℕ) → length ≤ 32 → mask ≡ mask_of length → ⊥)
    → IsOnly (IsPrefix address mask) found
just address mask None some none = λ p is. none p.length is.0 is.1
just address mask (Some n) some none = λ p. (
  λ is. sym (one_prefix address mask n.length p some.1.1 some.0 is)
      ∙ one_prefix address mask n.length n some.1.1 some.0 (some.1.1, some.0, sym some.2),
  λ e. subst (IsPrefix address mask) (sym e) (some.1.1, some.0, sym some.2),
)

pub returns : goal.returns
returns c = just c.args.address c.args.mask c.under_mask.result c.under_mask.ensures.some
    c.under_mask.ensures.none
