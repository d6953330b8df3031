-- A refusal that is determined before anything is allocated comes first; if there is none, an
-- allocation may be refused.
use Rattle.std.proofs.Common.{◌≡◌, ℕ, Bool, true, false, Option, None, Some, refl}
use Rattle.std.specs.Prelude.{if◌then◌else◌, Err}
use Rattle.packet.specs.declared.refusal.PacketFault.{PacketFault}
use Rattle.packet.specs.Reading.{fault_of}
use Rattle.event_rules.specs.declared.model.CoreError.{CoreError}
use Rattle.event_rules.specs.declared.model.CoreError.TheVariants as error
use Rattle.event_rules.specs.Refusals.{MayLackMemory, RefusesByRules, bad_packet, clashes}
use Rattle.event_rules.specs.Refusals.{refusal_before_limits}
use Rattle.event_rules.specs.Refusals.{is_clock_back, is_interface}
use Rattle.event_rules.specs.Routers.{Occurrence, Router}
use Rattle.flood.specs.Early.{early_refusal, early_refusal_of}
use Rattle.flood.specs.Parts.{late_refusal}

-- ---- without an early refusal, the first one is a late one

clock_late : (c : Bool) (early whole late : Option CoreError) → (early ≡ None → whole ≡ late)
    → (if c then Some error.ClockBack else early) ≡ None
    → (if c then Some error.ClockBack else whole) ≡ late
clock_late true early whole late m e = absurd cc
clock_late false early whole late m e = m e

there_late : (i : Bool) (late : Option CoreError)
    → (if i then None else Some error.NoInterface) ≡ None
    → (if i then late else Some error.NoInterface) ≡ late
there_late true late e = refl
there_late false late e = absurd cc

pub first_is_late : (old : Router) (moment : ℕ) (o : Occurrence) → early_refusal old moment o ≡ None
    → refusal_before_limits old moment o ≡ late_refusal old o
first_is_late old moment (Occurrence.Packet number bytes) =
    clock_late (is_clock_back moment old) _ _ _
    (there_late (is_interface number old) (bad_packet (fault_of bytes)))
first_is_late old moment Occurrence.Tick =
    clock_late (is_clock_back moment old) None None None (λ _. refl)
first_is_late old moment (Occurrence.Redistribute tagged tag priced price) =
    clock_late (is_clock_back moment old) None _ _ (λ _. refl)
first_is_late old moment (Occurrence.Withdraw prefix) =
    clock_late (is_clock_back moment old) None None None (λ _. refl)
first_is_late old moment (Occurrence.Install answers) =
    clock_late (is_clock_back moment old) None None None (λ _. refl)
first_is_late old moment (Occurrence.LinkDown number) =
    clock_late (is_clock_back moment old) _ _ _ (there_late (is_interface number old) None)

clock_none : (c : Bool) (early : Option CoreError)
    → (if c then Some error.ClockBack else early) ≡ None → early ≡ None
clock_none true early e = absurd cc
clock_none false early e = e

pub none_of_event : (old : Router) (moment : ℕ) (o : Occurrence) → early_refusal old moment o ≡ None
    → early_refusal_of old o ≡ None
none_of_event old moment o = clock_none (is_clock_back moment old) (early_refusal_of old o)

-- ---- so an allocation may be refused

bad_may : (f : Option PacketFault) → MayLackMemory (bad_packet f)
bad_may None = (λ p. absurd cc, λ p. absurd cc)
bad_may (Some f) = (λ p. absurd cc, λ p. absurd cc)

clash_may : (b : Bool) → MayLackMemory (if b then Some error.Clash else None)
clash_may true = (λ p. absurd cc, λ p. absurd cc)
clash_may false = (λ p. absurd cc, λ p. absurd cc)

clock_may : (c : Bool) (early late : Option CoreError) → (early ≡ None → MayLackMemory late)
    → (if c then Some error.ClockBack else early) ≡ None
    → MayLackMemory (if c then Some error.ClockBack else late)
clock_may true early late m e = absurd cc
clock_may false early late m e = m e

there_may : (i : Bool) (late : Option CoreError) → MayLackMemory late
    → (if i then None else Some error.NoInterface) ≡ None
    → MayLackMemory (if i then late else Some error.NoInterface)
there_may true late m e = m
there_may false late m e = absurd cc

none_is_fine : MayLackMemory None
none_is_fine = (λ p. absurd cc, λ p. absurd cc)

pub may_lack_memory : (old : Router) (moment : ℕ) (o : Occurrence)
    → early_refusal old moment o ≡ None → MayLackMemory (refusal_before_limits old moment o)
may_lack_memory old moment (Occurrence.Packet number bytes) =
    clock_may (is_clock_back moment old) _ _
    (there_may (is_interface number old) (bad_packet (fault_of bytes))
    (bad_may (fault_of bytes)))
may_lack_memory old moment Occurrence.Tick =
    clock_may (is_clock_back moment old) None None (λ _. none_is_fine)
may_lack_memory old moment (Occurrence.Redistribute tagged tag priced price) =
    clock_may (is_clock_back moment old) None _ (λ _. clash_may (clashes old tagged priced))
may_lack_memory old moment (Occurrence.Withdraw prefix) =
    clock_may (is_clock_back moment old) None None (λ _. none_is_fine)
may_lack_memory old moment (Occurrence.Install answers) =
    clock_may (is_clock_back moment old) None None (λ _. none_is_fine)
may_lack_memory old moment (Occurrence.LinkDown number) =
    clock_may (is_clock_back moment old) _ _ (there_may (is_interface number old) None none_is_fine)

-- ---- an early refusal is the result

clock_first : (c : Bool) (early late : Option CoreError) (x : CoreError)
    → (early ≡ Some x → late ≡ Some x) → (if c then Some error.ClockBack else early) ≡ Some x
    → (if c then Some error.ClockBack else late) ≡ Some x
clock_first true early late x m e = e
clock_first false early late x m e = m e

there_first : (i : Bool) (late : Option CoreError) (x : CoreError)
    → (if i then None else Some error.NoInterface) ≡ Some x
    → (if i then late else Some error.NoInterface) ≡ Some x
there_first true late x e = absurd cc
there_first false late x e = e

stands_first : (old : Router) (moment : ℕ) (o : Occurrence) (x : CoreError)
    → early_refusal old moment o ≡ Some x → refusal_before_limits old moment o ≡ Some x
stands_first old moment (Occurrence.Packet number bytes) x =
    clock_first (is_clock_back moment old) _ _ x
    (there_first (is_interface number old) (bad_packet (fault_of bytes)) x)
stands_first old moment Occurrence.Tick x =
    clock_first (is_clock_back moment old) None None x (λ e. e)
stands_first old moment (Occurrence.Redistribute tagged tag priced price) x =
    clock_first (is_clock_back moment old) None _ x (λ e. absurd cc)
stands_first old moment (Occurrence.Withdraw prefix) x =
    clock_first (is_clock_back moment old) None None x (λ e. e)
stands_first old moment (Occurrence.Install answers) x =
    clock_first (is_clock_back moment old) None None x (λ e. e)
stands_first old moment (Occurrence.LinkDown number) x =
    clock_first (is_clock_back moment old) _ _ x (there_first (is_interface number old) None x)

full_late : (f : Option PacketFault) → bad_packet f ≡ Some error.Full → ⊥
full_late None e = absurd cc
full_late (Some f) e = absurd cc

full_clash : (b : Bool) → (if b then Some error.Clash else None) ≡ Some error.Full → ⊥
full_clash true e = absurd cc
full_clash false e = absurd cc

-- no reason that is checked before the limits is `Full`
pub never_full : (old : Router) (o : Occurrence) → late_refusal old o ≡ Some error.Full → ⊥
never_full old (Occurrence.Packet number bytes) = full_late (fault_of bytes)
never_full old Occurrence.Tick = λ e. absurd cc
never_full old (Occurrence.Redistribute tagged tag priced price) =
    full_clash (clashes old tagged priced)
never_full old (Occurrence.Withdraw prefix) = λ e. absurd cc
never_full old (Occurrence.Install answers) = λ e. absurd cc
never_full old (Occurrence.LinkDown number) = λ e. absurd cc

full_clock : (c : Bool) (early : Option CoreError) → (early ≡ Some error.Full → ⊥)
    → (if c then Some error.ClockBack else early) ≡ Some error.Full → ⊥
full_clock true early m e = absurd cc
full_clock false early m e = m e

full_there : (i : Bool) → (if i then None else Some error.NoInterface) ≡ Some error.Full → ⊥
full_there true e = absurd cc
full_there false e = absurd cc

early_never_full : (old : Router) (moment : ℕ) (o : Occurrence)
    → early_refusal old moment o ≡ Some error.Full → ⊥
early_never_full old moment (Occurrence.Packet number bytes) =
    full_clock (is_clock_back moment old) _ (full_there (is_interface number old))
early_never_full old moment Occurrence.Tick =
    full_clock (is_clock_back moment old) None (λ e. absurd cc)
early_never_full old moment (Occurrence.Redistribute tagged tag priced price) =
    full_clock (is_clock_back moment old) None (λ e. absurd cc)
early_never_full old moment (Occurrence.Withdraw prefix) =
    full_clock (is_clock_back moment old) None (λ e. absurd cc)
early_never_full old moment (Occurrence.Install answers) =
    full_clock (is_clock_back moment old) None (λ e. absurd cc)
early_never_full old moment (Occurrence.LinkDown number) =
    full_clock (is_clock_back moment old) _ (full_there (is_interface number old))

some_may : (r : Option CoreError) → r ≡ Some error.Memory → MayLackMemory r
some_may None e = absurd cc
some_may (Some x) e = (λ p. absurd cc, λ p. absurd cc)

-- an early reason is the result
pub early_answers : (X : Type 0) (old : Router) (moment : ℕ) (o : Occurrence) (x : CoreError)
    → early_refusal old moment o ≡ Some x
    → RefusesByRules {X = X} old moment o (Err x)
early_answers X old moment o error.Memory e = some_may _ (stands_first old moment o error.Memory e)
early_answers X old moment o (error.BadPacket f) e = stands_first old moment o (error.BadPacket f) e
early_answers X old moment o error.NoInterface e = stands_first old moment o error.NoInterface e
early_answers X old moment o error.Clash e = stands_first old moment o error.Clash e
early_answers X old moment o error.ClockBack e = stands_first old moment o error.ClockBack e
early_answers X old moment o error.Full e = absurd (early_never_full old moment o e)
