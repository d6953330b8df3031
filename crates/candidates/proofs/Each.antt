-- What the LSAs of a list offer is what those of the database offer, if the list has all of their
-- types.
use Rattle.std.proofs.Common.{◌≤◌, ℕ, List, None, Some, arith}
use Rattle.words.specs.declared.key.Key.{Key}
use Rattle.lsa.specs.declared.body.LsaBody.{LsaBody}
use Rattle.lsdb.specs.Bodies.{AreBodies}
use Rattle.routes.specs.Contents.{Contents}
use Rattle.routes.specs.declared.offer.Offer.{Offer}
use Rattle.routes.specs.declared.root.Root.{Root}
use Rattle.candidates.specs.Bodies.{HaveAll, OfContents}
use Rattle.candidates.specs.Borders.{Tells}
use Rattle.candidates.specs.Externals.{AreExternals, AreAdvertisedBy}
use Rattle.candidates.specs.Gathering.{OfEach}
use Rattle.candidates.specs.Sources.{IsInner}
use Rattle.candidates.specs.Sources.IsInner.{ByNetwork, ByRouter, BySummary}
use Rattle.candidates.specs.Ways.{Ways}
use Rattle.candidates.specs.declared.externals.ExternalAdvertisement.{ExternalAdvertisement}
use Rattle.candidates.specs.declared.flagged.Flagged.{Flagged}

-- ---- which types offer

-- only LSAs of the types up to this one offer something
abbrev pub AreUpTo : ℕ → (Key × LsaBody → Offer → Type 0) → Type 0
AreUpTo last Q = (one : Key × LsaBody) (o : Offer) → Q one o → one.0.ls_type ≤ last

pub inner_up_to : (root : Root) (ways : Ways) (routers : List Flagged)
    → AreUpTo 4 (IsInner root ways routers)
inner_up_to root ways routers one o (ByRouter k) = omega (arith, k.is_type)
inner_up_to root ways routers one o (ByNetwork k) = omega (arith, k.is_type)
inner_up_to root ways routers one o (BySummary k) = omega (arith, k.is_type)

pub told_up_to : (root : Root) (routers : List Flagged) → AreUpTo 4 (Tells root routers)
told_up_to root routers one o k = omega (arith, k.is_type)

-- ---- in both directions

module _ (last : ℕ) (contents : Contents) (bodies : List (Key × LsaBody))
    (have : HaveAll last contents bodies)
    (Q : Key × LsaBody → Offer → Type 0) where
  pub of_said : (o : Offer) → OfEach Q bodies o → OfContents Q contents o
  of_said o ((key, says), among, q) = ((key, says), have.each key says among, q)

  pub of_each : AreUpTo last Q → (o : Offer) → OfContents Q contents o → OfEach Q bodies o
  of_each up o ((key, says), is, q) = ((key, says), have.all key says (up (key, says) o q) is, q)

pub up_to_bodies : (last : ℕ) (contents : Contents) (bodies : List (Key × LsaBody))
    → AreBodies (Some last) contents bodies → HaveAll last contents bodies
up_to_bodies last contents bodies are = record {
  each = λ key says among. ((are.each key says).0 among).1;
  all = λ key says up is. (are.each key says).1 (up, is);
}

-- what the LSAs of a list advertise about external destinations is what those of the database
-- advertise
pub all_external : (contents : Contents) (bodies : List (Key × LsaBody))
    (advertised : List ExternalAdvertisement) → AreBodies None contents bodies
    → AreAdvertisedBy bodies advertised → AreExternals contents advertised
all_external contents bodies advertised are by e = (
  (λ t. let p = (by e).0 t in ((p.0.0, p.0.1), ((are.each p.0.0 p.0.1).0 p.1).1, p.2)),
  (λ p. (by e).1 ((p.0.0, p.0.1), (are.each p.0.0 p.0.1).1 (tt, p.1), p.2)),
)

pub fewer : (most last : ℕ) (contents : Contents) (bodies : List (Key × LsaBody)) → last ≤ most
    → HaveAll most contents bodies → HaveAll last contents bodies
fewer most last contents bodies low have = record {
  each = have.each;
  all = λ key says up is. have.all key says (omega (arith, up, low)) is;
}
