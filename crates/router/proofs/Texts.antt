-- The LSAs of a Link State Update, in turn.
use Rattle.std.proofs.Common.{◌≡◌, ℕ, ◌+◌, ◌≤◌, Bool, true, false, cond, List, ◌∷◌, drop, length}
use Rattle.std.proofs.Common.{Ok, Err, refl, sym, ap, subst, ◌∙◌}
use Rattle.std.specs.Prelude.{Option, None, Some}
use mathlib.Core.Bool.{false≢true}
use Rattle.lsa.specs.declared.fault.LsaFault.{LsaFault}
use Rattle.lsa.specs.declared.fault.LsaError.TheVariants as errors
use Rattle.lsa.specs.Outcome.{Reads}
use Rattle.lsa.specs.Reading.{lsa_in, read_unless}
use Rattle.lsdb.specs.Headers.{Lsa}
use Rattle.received.specs.Cases.{Case}
use Rattle.received.specs.Updates.{after_case, case_at, goes_on}
use Rattle.event_rules.specs.EventState.{EventState, on_area}
use Rattle.event_rules.specs.Originations.{receive_self_originated}
use Rattle.event_rules.specs.Packets.{after_lsa, after_lsas, after_parsed, case_in}
use Rattle.event_rules.specs.Routers.{Router}
use Rattle.area.specs.Cases.{is_to_be_installed}
use Rattle.area.proofs.Updates.{drop_end}
use Rattle.router.specs.Kept.{KeptRouter}
use Rattle.router.specs.Making.{Makes}
use Rattle.router.proofs.Making.{makes_nothing, makes_same, makes_then}
use Rattle.router.specs.Received.{goes_on_at}

-- ---- what bytes are parsed as

pub reads_lsa : (bytes : List ℕ) (lsa : Lsa) → Reads bytes (Ok lsa) → Some lsa ≡ lsa_in bytes
reads_lsa bytes lsa r = ap (λ (l : Lsa). Some l) r.1 ∙ sym (ap (read_unless bytes) r.0)

pub reads_none : (bytes : List ℕ) (f : LsaFault) → Reads bytes (Err (errors.Fault f))
    → None ≡ lsa_in bytes
reads_none bytes f r = sym (ap (read_unless bytes) r)

-- ---- one LSA

-- after an LSA that is newer the rest of the Link State Update is processed
pub newer_goes_on : (c : Case) → is_to_be_installed c ≡ true → true ≡ goes_on c
newer_goes_on Case.Unreadable is = refl
newer_goes_on Case.NothingToFlush is = refl
newer_goes_on Case.TooSoon is = refl
newer_goes_on Case.Newer is = refl
newer_goes_on Case.BadRequest is = absurd (false≢true is)
newer_goes_on Case.ImpliedAcknowledgment is = refl
newer_goes_on Case.Duplicate is = refl
newer_goes_on Case.SequenceWraps is = refl
newer_goes_on Case.SentJustNow is = refl
newer_goes_on Case.Older is = refl

module _ (moment number : ℕ) (lsa : Lsa) (p : EventState) where
  -- an LSA that was installed is originated again or flushed if it is self-originated
  after_newer : (c : Case) → is_to_be_installed c ≡ true
      → receive_self_originated moment lsa (on_area (after_case c moment number lsa) p)
      ≡ after_lsa c moment number lsa p
  after_newer Case.Unreadable is = absurd (false≢true is)
  after_newer Case.NothingToFlush is = absurd (false≢true is)
  after_newer Case.TooSoon is = absurd (false≢true is)
  after_newer Case.Newer is = refl
  after_newer Case.BadRequest is = absurd (false≢true is)
  after_newer Case.ImpliedAcknowledgment is = absurd (false≢true is)
  after_newer Case.Duplicate is = absurd (false≢true is)
  after_newer Case.SequenceWraps is = absurd (false≢true is)
  after_newer Case.SentJustNow is = absurd (false≢true is)
  after_newer Case.Older is = absurd (false≢true is)

  after_other : (c : Case) → is_to_be_installed c ≡ false
      → on_area (after_case c moment number lsa) p ≡ after_lsa c moment number lsa p
  after_other Case.Unreadable is = refl
  after_other Case.NothingToFlush is = refl
  after_other Case.TooSoon is = refl
  after_other Case.Newer is = absurd (false≢true (sym is))
  after_other Case.BadRequest is = refl
  after_other Case.ImpliedAcknowledgment is = refl
  after_other Case.Duplicate is = refl
  after_other Case.SequenceWraps is = refl
  after_other Case.SentJustNow is = refl
  after_other Case.Older is = refl

module _ (moment number : ℕ) (lsa : Lsa) (c : Case) where
  pub newer_received : {old middle new : KeptRouter} → is_to_be_installed c ≡ true
      → Makes (on_area (after_case c moment number lsa)) old middle
      → Makes (receive_self_originated moment lsa) middle new
      → Makes (after_lsa c moment number lsa) old new
  newer_received is a b =
      makes_same (λ p _. after_newer moment number lsa p c is) (makes_then a b)

  pub other_received : {old new : KeptRouter} → is_to_be_installed c ≡ false
      → Makes (on_area (after_case c moment number lsa)) old new
      → Makes (after_lsa c moment number lsa) old new
  other_received is a = makes_same (λ p _. after_other moment number lsa p c is) a

  pub text_read : {old new : KeptRouter} → c ≡ case_at moment number lsa old.present.area
      → Makes (after_lsa c moment number lsa) old new
      → Makes (after_parsed moment number (Some lsa)) old new
  text_read is a =
      makes_same (λ p here. ap (λ (k : Case). after_lsa k moment number lsa p)
      (is ∙ ap (λ (r : Router). case_at moment number lsa r.area) (sym here))) a

-- bytes that are parsed as this LSA
pub as_read : {old new : KeptRouter} (moment number : ℕ) (lsa : Lsa) (o : Option Lsa)
    → Some lsa ≡ o → Makes (after_parsed moment number (Some lsa)) old new
    → Makes (after_parsed moment number o) old new
as_read {old} {new} moment number lsa o is a =
    subst (λ (x : Option Lsa). Makes (after_parsed moment number x) old new) is a

pub text_skipped : (moment number : ℕ) (r : KeptRouter)
    → Makes (after_parsed moment number None) r r
text_skipped moment number r = makes_same (λ p _. refl) (makes_nothing r)

-- ---- one after another

module _ (moment number : ℕ) where
  goes_here : (o : Option Lsa) (p : EventState) (r : Router) → p.router ≡ r
      → goes_on (case_in moment number o p) ≡ goes_on_at moment number o r
  goes_here None p r is = refl
  goes_here (Some lsa) p r is = ap (λ (q : Router). goes_on (case_at moment number lsa q.area)) is

  after_by : (bytes : List ℕ) (rest : List (List ℕ)) (r : Router) (b : Bool)
      → goes_on_at moment number (lsa_in bytes) r ≡ b → (p : EventState) → p.router ≡ r
      → cond b (after_lsas moment number rest (after_parsed moment number (lsa_in bytes) p))
      (after_parsed moment number (lsa_in bytes) p)
      ≡ after_lsas moment number (bytes ∷ rest) p
  after_by bytes rest r b is p here =
      ap (λ c. cond c (after_lsas moment number rest (after_parsed moment number (lsa_in bytes) p))
      (after_parsed moment number (lsa_in bytes) p))
      (sym (goes_here (lsa_in bytes) p r here ∙ is))

  module _ (lsas : List (List ℕ)) (start : KeptRouter) where
    -- the result of continuing with the rest
    abbrev pub Going : ℕ → KeptRouter → Type 0
    Going i r =
        (new : KeptRouter) → Makes (after_lsas moment number (drop i lsas)) r new
        → Makes (after_lsas moment number lsas) start new

    pub goes_further : (i : ℕ) (bytes : List ℕ) (r middle : KeptRouter)
        → drop i lsas ≡ bytes ∷ drop (i + 1) lsas
        → goes_on_at moment number (lsa_in bytes) r.present ≡ true
        → Makes (after_parsed moment number (lsa_in bytes)) r middle → Going i r
        → Going (i + 1) middle
    goes_further i bytes r middle split is a going new b =
        going new
        (subst (λ xs. Makes (after_lsas moment number xs) r new) (sym split)
        (makes_same (after_by bytes (drop (i + 1) lsas) r.present true is) (makes_then a b)))

    pub goes_no_further : (i : ℕ) (bytes : List ℕ) (r new : KeptRouter)
        → drop i lsas ≡ bytes ∷ drop (i + 1) lsas
        → goes_on_at moment number (lsa_in bytes) r.present ≡ false
        → Makes (after_parsed moment number (lsa_in bytes)) r new → Going i r
        → Makes (after_lsas moment number lsas) start new
    goes_no_further i bytes r new split is a going =
        going new (subst (λ xs. Makes (after_lsas moment number xs) r new) (sym split)
        (makes_same (after_by bytes (drop (i + 1) lsas) r.present false is) a))

    pub goes_to_the_end : (i : ℕ) (r : KeptRouter) → length lsas ≤ i → Going i r
        → Makes (after_lsas moment number lsas) start r
    goes_to_the_end i r all going =
        going r (subst (λ xs. Makes (after_lsas moment number xs) r r)
        (sym (drop_end i lsas all)) (makes_same (λ p _. refl) (makes_nothing r)))
