-- Worked examples of two neighbors.
use Rattle.std.proofs.Common.{◌≡◌, ℕ, ◌<◌, ◌≤◌, cond, List, [], ◌∷◌, None, Some, refl, sym, ap}
use Rattle.std.proofs.Common.{subst, ◌∙◌, arith}
use Rattle.std.specs.FinMap as finite
use Rattle.lsdb.specs.Copies.{DatabaseCopy}
use Rattle.lsdb.specs.Headers.{Header}
use Rattle.event_rules.specs.Events.{Step}
use Rattle.event_rules.specs.InstanceIdentities.{InstanceIdentity}
use Rattle.agreement_laws.specs.Exchanged.{Conversation, Converses, Describes}
use Rattle.agreement_laws.specs.NeighborHistories.{Ends, IsHistory, Pair, Party, Side, event_taken}
use Rattle.agreement_laws.specs.NeighborHistories.{interface_of, party}
use Rattle.agreement_laws.specs.NeighborsAgree.{Forgets, InConversation}
use Rattle.agreement_laws.specs.WorkedNeighbors.{WorkedNeighbors}

kept : (number : ℕ) (name : InstanceIdentity) (text : ℕ) (before after : Party)
    (was is : DatabaseCopy) → finite.get before.router.area.database name.key ≡ Some was
    → finite.get after.router.area.database name.key ≡ Some is → after.began ≤ text
    → Forgets number name text before after → ⊥
kept number name text before after was is had has since (Forgets.Without none sent) = let no : None
    ≡ Some is = sym none ∙ has in cc
kept number name text before after was is had has since (Forgets.WithoutWaiting none header w same)
    = let no : None ≡ Some is = sym none ∙ has in cc
kept number name text before after was is had has since (Forgets.WithoutDescribed none left) =
    let no : None ≡ Some is = sym none ∙ has in cc
kept number name text before after was is had has since (Forgets.BegunAnew lt) =
    omega (arith, lt, since)
kept number name text before after was is had has since (Forgets.NothingToFlush none bytes at a) =
    let no : None ≡ Some was = sym none ∙ had in cc

stands : (ends : Ends) (side : Side) (with_it : Conversation) (header : Header) (now : Pair)
    (earlier : List Pair) (h : IsHistory ends now earlier)
    → InConversation ends side with_it
    (λ (own : ℕ) (step : Step). Describes own step.outs (interface_of side ends) header) now
    earlier h → Converses (interface_of side ends) with_it (party side now).router
stands ends side with_it header now [] h k = absurd k
stands ends side with_it header now (before ∷ earlier) h k = k.0

pub worked : WorkedNeighbors
worked = record {
  number = refl;
  lesser_number = refl;
  checksum = refl;
  lesser_checksum = refl;
  same = refl;
  begun_anew = λ number name text before after b lt. Forgets.BegunAnew
      (subst (λ n. text < n) (sym b.began) lt);
  kept = kept;
  nothing_forgotten = λ ends side name text now h k. k;
  nothing_exchanged = λ ends side with_it header now h k. k;
  stands = stands;
  other = λ ends side before after t away. ap (λ b. cond b (event_taken t.does) None) away;
}
