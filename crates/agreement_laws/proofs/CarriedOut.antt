-- How an LSA of a Link State Update is processed in each of the ten cases.
use Rattle.std.proofs.Common.{◌≡◌, ℕ, cond, List, ◌∷◌, Option, ap, ◌∙◌, append-nil}
use Rattle.std.specs.FinMap as finite
use Rattle.lsdb.specs.Copies.{install_flooded}
use Rattle.lsdb.specs.Headers.{Lsa, lsa_key}
use Rattle.received.specs.Cases.{Case}
use Rattle.received.specs.Updates.{flood_and_install, goes_on, send_copy}
use Rattle.event_rules.specs.EventState.{EventState, on_area}
use Rattle.event_rules.specs.Originations.{originate_or_flush, should_originate, wanted_body}
use Rattle.event_rules.specs.Packets.{after_lsa, after_lsas, after_parsed, case_in}
use Rattle.agreement_laws.specs.CarriedOut.{EachCaseIsCarriedOut, IsInCase, having_sent}
use Rattle.agreement_laws.specs.WorkedFlush.{full}
use Rattle.agreement_laws.specs.WorkedOwn.{loading}

-- by what the first bytes are parsed as
abbrev first_read : ℕ → ℕ → List (List ℕ) → EventState → Option Lsa → EventState
first_read moment number rest p o =
    cond (goes_on (case_in moment number o p))
    (after_lsas moment number rest (after_parsed moment number o p))
    (after_parsed moment number o p)

-- by the case of the first LSA
abbrev first_done : ℕ → ℕ → List (List ℕ) → EventState → Lsa → Case → EventState
first_done moment number rest p lsa case =
    cond (goes_on case) (after_lsas moment number rest (after_lsa case moment number lsa p))
    (after_lsa case moment number lsa p)

done : (moment number : ℕ) (bytes : List ℕ) (rest : List (List ℕ)) (lsa : Lsa) (p : EventState)
    (case : Case) → IsInCase moment number bytes lsa p case
    → after_lsas moment number (bytes ∷ rest) p ≡ first_done moment number rest p lsa case
done moment number bytes rest lsa p case is = ap (first_read moment number rest p) is.is_read
    ∙ ap (first_done moment number rest p lsa) is.is_case

pub carried_out : EachCaseIsCarriedOut
carried_out = record {
  unreadable = λ moment number bytes rest p none. ap (first_read moment number rest p) none;
  nothing_to_flush = λ moment number bytes rest lsa p is. done moment number bytes rest lsa p
      Case.NothingToFlush is;
  too_soon = λ moment number bytes rest lsa p is. done moment number bytes rest lsa p Case.TooSoon
      is;
  duplicate = λ moment number bytes rest lsa p is. done moment number bytes rest lsa p
      Case.Duplicate is;
  sequence_wraps = λ moment number bytes rest lsa p is. done moment number bytes rest lsa p
      Case.SequenceWraps is;
  sent_just_now = λ moment number bytes rest lsa p is. done moment number bytes rest lsa p
      Case.SentJustNow is;
  older = λ moment number bytes rest lsa p c is there.
      done moment number bytes rest lsa p Case.Older is
      ∙ ap (λ o. after_lsas moment number rest (on_area (send_copy moment number o) p)) there;
  newer = λ moment bytes rest lsa r link n sends is foreign.
      let p : EventState = on_area (flood_and_install moment 1 lsa)
      (having_sent sends r link (full n)) in
      done moment 1 bytes rest lsa (having_sent sends r link (full n)) Case.Newer is
      ∙ ap (λ b. after_lsas moment 1 rest
      (cond b (originate_or_flush (should_originate (wanted_body p.router (lsa_key lsa))) moment
      (lsa_key lsa) p) p)) foreign
      ∙ ap (λ ss. after_lsas moment 1 rest (having_sent ss
      (record r { area = record r.area { database = install_flooded moment lsa r.area.database } })
      (record link {
        acknowledgments = finite.insert link.acknowledgments (lsa_key lsa) lsa.header;
      })
      (record (full n) { retransmissions = finite.remove n.retransmissions (lsa_key lsa) })))
      (append-nil sends);
  implied_acknowledgment = λ moment bytes rest lsa r link n sends is.
      done moment 1 bytes rest lsa (having_sent sends r link n) Case.ImpliedAcknowledgment is
      ∙ ap (λ ss. after_lsas moment 1 rest (having_sent ss r link (record n {
        retransmissions = finite.remove n.retransmissions (lsa_key lsa);
      }))) (append-nil sends);
  bad_request = λ moment bytes rest lsa r link n sends is. done moment 1 bytes rest lsa
      (having_sent sends r link (loading n)) Case.BadRequest is;
}
