-- Worked cases of what is requested, and of which Descriptions are accepted.
use Rattle.std.proofs.Common.{◌≡◌, ℕ, Bool, true, false, cond, not, ◌&&◌, ◌⊎◌, inl, inr, List, []}
use Rattle.std.proofs.Common.{◌∷◌, Some, refl, ap, subst, ◌∙◌}
use Rattle.std.specs.Prelude.{nat_lt}
use Rattle.std.specs.FinMap as finite
use Rattle.words.specs.declared.key.Key.{Key}
use Rattle.lsdb.specs.Copies.{Database}
use Rattle.lsdb.specs.Headers.{Header, key_of}
use Rattle.lsdb.specs.Instances.{ListEntry}
use Rattle.lsdb.specs.Keys.{ByKey}
use Rattle.lsdb.specs.declared.order.Instance.{Instance}
use Rattle.packet.specs.declared.model.Description.{Description}
use Rattle.adjacency.specs.declared.state.NeighborState.TheVariants.{Full, Loading}
use Rattle.adjacency.specs.Adjacencies.{two_way_received, two_way_received_in}
use Rattle.adjacency.specs.Descriptions.{Verdict, is_duplicate, is_kept, is_more_recent}
use Rattle.adjacency.specs.Descriptions.{knows_types}
use Rattle.adjacency.specs.Descriptions.{verdict, verdict_in, with_request}
use Rattle.adjacency.specs.Neighbors.{Neighbor}
use Rattle.event_rules.specs.Events.{Step}
use Rattle.event_rules.specs.Routers.{Router}
use Rattle.invariants.proofs.Owing.{put_same}
use Rattle.invariants.proofs.Leaving.{itself}
use Rattle.agreement_laws.specs.Accepted.{is_accepting}
use Rattle.agreement_laws.specs.TakenIn.{WasTakenIn}
use Rattle.agreement_laws.specs.WorkedRequests.{WorkedRequests}

abbrev entry : ℕ → Header → ListEntry
entry moment h = record { header = h; at = moment }

later : (moment : ℕ) (db : Database) (n : Neighbor) (h g : Header) → key_of g ≡ key_of h
    → is_more_recent moment db h ≡ true → is_more_recent moment db g ≡ true
    → finite.get (with_request moment db (with_request moment db n.requests h) g) (key_of h)
    ≡ Some (entry moment g)
later moment db n h g same wants too =
    let r : ByKey ListEntry = with_request moment db n.requests h in
    ap (λ b. finite.get (cond b (finite.insert r (key_of g) (entry moment g)) r) (key_of h)) too
    ∙ subst (λ (k : Key). finite.get (finite.insert r (key_of g) (entry moment g)) k
    ≡ Some (entry moment g)) same (put_same r (key_of g) (key_of g) (entry moment g)
    (itself (key_of g)))

unwanted : (moment : ℕ) (db : Database) (n : Neighbor) (h g : Header)
    → is_more_recent moment db h ≡ true → is_more_recent moment db g ≡ false
    → finite.get (with_request moment db (with_request moment db n.requests h) g) (key_of h)
    ≡ Some (entry moment h)
unwanted moment db n h g wants not_g =
    let r : ByKey ListEntry = with_request moment db n.requests h in
    ap (λ b. finite.get (cond b (finite.insert r (key_of g) (entry moment g)) r) (key_of h)) not_g
    ∙ ap (λ b. finite.get (cond b (finite.insert n.requests (key_of h) (entry moment h)) n.requests)
    (key_of h)) wants
    ∙ put_same n.requests (key_of h) (key_of h) (entry moment h) (itself (key_of h))

no_first : (a b c : Bool) → a ≡ true → (not a && b && c) ≡ false
no_first true b c e = refl
no_first false b c e = absurd cc

no_second : (a b c : Bool) → b ≡ false → (not a && b && c) ≡ false
no_second true b c e = refl
no_second false true c e = absurd cc
no_second false false c e = refl

no_third : (a b c : Bool) → c ≡ false → (not a && b && c) ≡ false
no_third true b c e = refl
no_third false true c e = e
no_third false false c e = refl

none_accepts : (a b : Bool) → is_accepting
    (cond a Verdict.Discarded (cond b Verdict.Repeated Verdict.Mismatch)) ≡ false
none_accepts true b = refl
none_accepts false true = refl
none_accepts false false = refl

over : (own moment : ℕ) (n : Neighbor) (d : Description) → (n.state ≡ Loading) ⊎ (n.state ≡ Full)
    → is_accepting (verdict own (two_way_received moment n).neighbor d) ≡ false
over own moment n d (inl is) =
    (λ i. is_accepting (verdict own (two_way_received_in (is i) moment n).neighbor d))
    ∙ (λ i. is_accepting (verdict_in (is i) own n d))
    ∙ none_accepts (is_duplicate n.received d && n.is_master)
    (is_duplicate n.received d && is_kept n.described)
over own moment n d (inr is) =
    (λ i. is_accepting (verdict own (two_way_received_in (is i) moment n).neighbor d))
    ∙ (λ i. is_accepting (verdict_in (is i) own n d))
    ∙ none_accepts (is_duplicate n.received d && n.is_master)
    (is_duplicate n.received d && is_kept n.described)

nothing : (key : Key) (instance : Instance) (old new : Router) (steps : List Step) → steps ≡ []
    → WasTakenIn key instance old steps new → ⊥
nothing key instance old new steps is (WasTakenIn.Now o m n s rest happens became run) = absurd cc
nothing key instance old new steps is (WasTakenIn.Later o m n s rest happens was) = absurd cc

pub worked : WorkedRequests
worked = record {
  later = later;
  unwanted = unwanted;
  last_of_two = λ h g. record { before = h ∷ []; rest = []; is = refl; others = tt };
  too_large = λ own moment n d big. no_first (nat_lt 8192 d.mtu) (knows_types d)
      (is_accepting (verdict own (two_way_received moment n).neighbor d)) big;
  unknown_type = λ own moment n d not_known. no_second (nat_lt 8192 d.mtu) (knows_types d)
      (is_accepting (verdict own (two_way_received moment n).neighbor d)) not_known;
  exchange_over = λ own moment n d state. no_third (nat_lt 8192 d.mtu) (knows_types d)
      (is_accepting (verdict own (two_way_received moment n).neighbor d))
      (over own moment n d state);
  nothing = λ key instance old new was. nothing key instance old new [] refl was;
}
