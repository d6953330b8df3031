-- How a worker ended, and the program.
use Rattle.std.proofs.Common.{◌≡◌, ℕ, ◌<◌, ◌⊎◌, inl, inr, List, Result, Ok, Err, true, false, refl}
use Rattle.std.proofs.Common.{sym, subst, ◌∙◌, arith}
use Rattle.std.proofs.lemmas.Bool.{ltb-false, ltb-true}
use Rattle.std.specs.Prelude.{◌↔◌, ⊤, IfErr, IfOk, nat_lt}
use Rattle.worker.specs.Ends.{has_failed}
use Rattle.worker.specs.declared.sockets.socket_transports.TransportEnd.{TransportEnd}
use Rattle.worker.specs.declared.serving.Ended.{Ended}
use Rattle.worker.specs.declared.serving.Ended.TheVariants.{Fault, Quit}
use Rattle.console.specs.Configurations.{Refuses, Says}
use Rattle.console.specs.declared.configuration.Configured.{Configured}
use Rattle.console.specs.declared.configuration.ConfiguredInterface.{ConfiguredInterface}
use Rattle.console.specs.declared.configuration.ConfigurationError.{ConfigurationError}
use Rattle.console.specs.declared.configuration.ConfigurationError.TheVariants as configuration
use Rattle.worker.specs.Wires.{IsRefusalOf, IsWhyNoneWaits}
use Rattle.worker.specs.declared.sockets.wire.Wire.{Wire}
use Rattle.worker.specs.declared.sockets.error.SocketError.{SocketError}
use Rattle.worker.specs.declared.sockets.error.SocketError.TheVariants as socket_error
use Rattle.daemon.specs.Lines.{Fails}
use Rattle.daemon.specs.Texts.{HasFailed}
use Rattle.daemon.specs.Refusals.{IsLaterWhy, IsUdpPortOf, IsWhy, of_sockets, of_text}
use Rattle.daemon.specs.Statuses.{EndsSo, HasRanFor, status_of, status_of_ended}
use Rattle.daemon.specs.declared.error.StartError.{StartError}
use Rattle.daemon.specs.declared.error.StartError.TheVariants.{Configuration, Bind, Socket, Hooks}
use Rattle.daemon.specs.declared.error.StartError.TheVariants.{Output, Memory}
use Rattle.daemon.specs.declared.ended_router.EndedRouter.{EndedRouter}

-- what is so of a worker that ended as it was told to is so of one whose transport didn't fail
pub until_told : {A : Type 0} (ended : Ended) (old new : ℕ) (end : TransportEnd)
    → (ended ≡ Quit → A) → ((ended ≡ Fault) ↔ (old < new)) → has_failed end ≡ nat_lt 0 new
    → has_failed end ≡ false → A
until_told Quit old new end lived fault is not = lived refl
until_told Fault old new end lived fault is not =
    absurd (omega (arith, fault.0 refl, ltb-false 0 new (sym is ∙ not)))

-- and what is so of one that ended at a fault is so of one whose transport failed then
pub until_fault : {A : Type 0} (ended : Ended) (old new : ℕ) (end : TransportEnd)
    → (ended ≡ Fault → A) → ((ended ≡ Fault) ↔ (old < new)) → has_failed end ≡ nat_lt 0 new
    → has_failed end ≡ true → old ≡ 0 → A
until_fault ended old new end lived fault is failed none =
    lived (fault.1 (omega (arith, none, ltb-true 0 new (sym is ∙ failed))))

pub ends_so : (unwritten : Type 0) (text : List ℕ) (outcome : Result EndedRouter StartError)
    (status : ℕ) → IfOk outcome (HasRanFor text) → IfErr outcome (IsWhy unwritten text)
    → IfOk outcome (λ ended. status ≡ status_of_ended ended)
    → IfErr outcome (λ error. (status ≡ status_of error) ⊎ ((status ≡ 3) × unwritten))
    → EndsSo unwritten text status
ends_so unwritten text (Ok ended) status has why is told = inl (ended, has, is)
ends_so unwritten text (Err error) status has why is told = inr (error, why, told)

-- ---- why none ran

pub failed_once : {Output : Type 0} (fails : Fails Output) (before after : Output)
    → fails before after → HasFailed fails
failed_once fails before after failed = (before, after, failed)

-- before anything is printed
pub unprinted_why : (unwritten : Type 0) (error : StartError) → IsLaterWhy ⊥ error
    → IsLaterWhy unwritten error
unprinted_why unwritten (Configuration line) is = is
unprinted_why unwritten (Bind udp_port) is = absurd is
unprinted_why unwritten (Hooks number) is = is
unprinted_why unwritten Socket is = tt
unprinted_why unwritten Output is = absurd is
unprinted_why unwritten Memory is = tt

pub unwaited_why : {Socket : Type 0} (unwritten : Type 0) (fails : Socket → Type 0)
    (wires : List (Wire Socket)) (why : SocketError) (error : StartError)
    → IsWhyNoneWaits fails wires why → error ≡ of_sockets why → IsLaterWhy unwritten error
unwaited_why unwritten fails wires (socket_error.Bind udp_port) error is same = absurd is
unwaited_why unwritten fails wires socket_error.Wait error is same =
    subst (IsLaterWhy unwritten) (sym same) tt
unwaited_why unwritten fails wires socket_error.Memory error is same =
    subst (IsLaterWhy unwritten) (sym same) tt

pub later_why : (unwritten : Type 0) (text : List ℕ) (configured : Configured) (error : StartError)
    → Says text configured → IsLaterWhy unwritten error → IsWhy unwritten text error
later_why unwritten text configured (Configuration line) says is = inr (is, (configured, says))
later_why unwritten text configured (Bind udp_port) says is = absurd is
later_why unwritten text configured (Hooks number) says is = (is, (configured, says))
later_why unwritten text configured Socket says is = (configured, says)
later_why unwritten text configured Output says is = (is, (configured, says))
later_why unwritten text configured Memory says is = tt

pub text_why : {X : Type 0} (unwritten : Type 0) (text : List ℕ)
    (read : Result X ConfigurationError) (why : ConfigurationError) (error : StartError)
    → read ≡ Err why
    → ((number : ℕ) → read ≡ Err (configuration.Line number) → Refuses text number)
    → error ≡ of_text why → IsWhy unwritten text error
text_why unwritten text read (configuration.Line number) error is refuses same =
    subst (IsWhy unwritten text) (sym same) (inl (refuses number is))
text_why unwritten text read configuration.Memory error is refuses same =
    subst (IsWhy unwritten text) (sym same) tt

pub socket_why : (unwritten : Type 0) (text : List ℕ) (configured : Configured)
    (interfaces : List ConfiguredInterface) (why : SocketError) (error : StartError)
    → Says text configured → interfaces ≡ configured.interfaces
    → IsRefusalOf (λ _. ⊤) interfaces why → error ≡ of_sockets why → IsWhy unwritten text error
socket_why unwritten text configured interfaces (socket_error.Bind udp_port) error says are is
    same =
    subst (IsWhy unwritten text) (sym same)
    (configured, says, subst (λ l. IsUdpPortOf l udp_port) are is.1)
socket_why unwritten text configured interfaces socket_error.Wait error says are is same =
    subst (IsWhy unwritten text) (sym same) (configured, says)
socket_why unwritten text configured interfaces socket_error.Memory error says are is same =
    subst (IsWhy unwritten text) (sym same) tt
