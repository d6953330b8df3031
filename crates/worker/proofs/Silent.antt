-- What a transport hears, by what its socket gave or refused.
use Rattle.std.proofs.Common.{◌≡◌, inl, inr, ℕ, zero, suc, ◌<◌, ◌≤◌, Bool, true, false, List, []}
use Rattle.std.proofs.Common.{◌∷◌, Option, Some, None, Result, length, slice_get}
use Rattle.std.proofs.Common.{Ok, Err, IfErr, IfNone, IfOk, IfSome, IsErr, IsFalse, IsTrue}
use Rattle.std.proofs.Common.{MatchOption, refl, sym, subst, arith}
use Rattle.std.specs.declared.io.Error.{Error}
use Rattle.worker.specs.declared.transport.SocketFault.{SocketFault}
use Rattle.worker.specs.SocketRefusals.{is_passing}
use Rattle.worker.specs.Wires.{IsHeardAt, IsListening, IsNoneThere, IsSilent, IsWhyNoneWaits}
use Rattle.worker.specs.Wires.{IsWhyNoneWaitsAt, wire_at}
use Rattle.worker.specs.declared.sockets.error.SocketError.{SocketError}
use Rattle.worker.specs.declared.sockets.error.SocketError.TheVariants as errors
use Rattle.worker.specs.declared.sockets.wire.Wire.{Wire}

decided : (b : Bool) → (IsFalse b → false ≡ true) → IsTrue b
decided true h = refl
decided false h = h refl

refused_so : {Socket : Type 0} (refuses : Socket → Error → Type 0) (socket : Socket) (error : Error)
    (result : Result (Option ℕ) SocketFault) → refuses socket error
    → (IsFalse (is_passing error) → IsErr result)
    → IfOk result (λ n. IfNone n (IsNoneThere refuses socket))
refused_so refuses socket error (Ok n) told fault =
    let passing : IsNoneThere refuses socket = (error, told, decided (is_passing error) fault) in
    elim n as (λ n. IfNone n (IsNoneThere refuses socket)) [ None ↦ passing | Some length ↦ tt ]
refused_so refuses socket error (Err f) told fault = tt

pub refused_then : {Socket : Type 0} (refuses : Socket → Error → Type 0) (socket : Socket)
    (outcome : Result ℕ Error) (result : Result (Option ℕ) SocketFault)
    → IfErr outcome (λ error. refuses socket error)
    → IfOk outcome (λ length. result ≡ Ok (Some length))
    → IfErr outcome (λ error. IsFalse (is_passing error) → IsErr result)
    → IfOk result (λ n. IfNone n (IsNoneThere refuses socket))
refused_then refuses socket (Ok length) result told gave fault =
    subst (λ r. IfOk r (λ n. IfNone n (IsNoneThere refuses socket))) (sym gave) tt
refused_then refuses socket (Err error) result told gave fault =
    refused_so refuses socket error result told fault

module _ {Socket : Type 0} (hands : Socket → List ℕ → Type 0) (refuses : Socket → Error → Type 0)
    (waits : Type 0) (wires : List (Wire Socket)) (interface : ℕ) where
  silent_so : (wire : Wire Socket) → Some wire ≡ wire_at wires interface
      → IsSilent hands refuses waits wire.socket
      → IsHeardAt hands refuses waits wires interface None
  silent_so wire is silent = subst (λ w. MatchOption w (Unit {0})
      (λ wire. IsSilent hands refuses waits wire.socket)) is silent

  pub silent_at : (wire : Wire Socket) → Some wire ≡ wire_at wires interface
      → IsNoneThere refuses wire.socket → waits → IsHeardAt hands refuses waits wires interface None
  silent_at wire is none waited = silent_so wire is (inl (none, waited))

  pub no_wire : None ≡ wire_at wires interface → IsHeardAt hands refuses waits wires interface None
  no_wire is = subst (λ w. MatchOption w (Unit {0})
      (λ wire. IsSilent hands refuses waits wire.socket)) is tt

  given_at : (wire : Wire Socket) (bytes : List ℕ) → Some wire ≡ wire_at wires interface
      → hands wire.socket bytes → IsHeardAt hands refuses waits wires interface (Some bytes)
  given_at wire bytes is handed = subst (λ w. MatchOption w ⊥ (λ wire. hands wire.socket bytes)) is
      handed

  pub heard_or_lost : (wire : Wire Socket) (bytes : List ℕ) (heard : Option (List ℕ))
      → Some wire ≡ wire_at wires interface → hands wire.socket bytes
      → IfSome heard (λ datagram. datagram ≡ bytes)
      → IsHeardAt hands refuses waits wires interface heard
  heard_or_lost wire bytes None is handed same = silent_so wire is (inr (bytes, handed))
  heard_or_lost wire bytes (Some datagram) is handed same =
      given_at wire datagram is (subst (λ b. hands wire.socket b) (sym same) handed)

pub ruleset receiving = (heard_or_lost, silent_at, no_wire)

module _ {Ear Socket : Type 0} (listens : Ear → Socket → Type 0) (wires : List (Wire Socket))
    (interface : ℕ) where
  pub listening_at : (wire : Wire Socket) (ear : Ear) → Some wire ≡ wire_at wires interface
      → listens ear wire.socket → IsListening listens wires interface (Some ear)
  listening_at wire ear is h = subst (λ w. MatchOption w ⊥ (λ wire. listens ear wire.socket)) is h

-- ---- why nobody waits

module _ {Socket : Type 0} (fails : Socket → Type 0) (wires : List (Wire Socket))
    (interface : ℕ) where
  pub unwaited_at : (wire : Wire Socket) → Some wire ≡ wire_at wires interface → fails wire.socket
      → IsWhyNoneWaitsAt fails wires interface errors.Wait
  unwaited_at wire is h = subst (λ w. MatchOption w (Unit {0}) (λ wire. fails wire.socket)) is h

  pub no_socket : None ≡ wire_at wires interface
      → IsWhyNoneWaitsAt fails wires interface errors.Wait
  no_socket is = subst (λ w. MatchOption w (Unit {0}) (λ wire. fails wire.socket)) is tt

-- there is a socket
unwaited_there : {Socket : Type 0} (fails : Socket → Type 0) (wires : List (Wire Socket))
    (before : ℕ) → before < length wires
    → MatchOption (slice_get wires before) (Unit {0}) (λ wire. fails wire.socket)
    → MatchOption (slice_get wires before) ⊥ (λ wire. fails wire.socket)
unwaited_there fails [] before there h = absurd (omega (arith, there))
unwaited_there fails (wire ∷ wires) zero there h = h
unwaited_there fails (wire ∷ wires) (suc before) there h =
    unwaited_there fails wires before (omega (arith, there)) h

pub unwaited : {Socket : Type 0} (fails : Socket → Type 0) (wires : List (Wire Socket))
    (interface : ℕ) (error : SocketError) → IsWhyNoneWaitsAt fails wires interface error
    → 0 < interface → interface ≤ length wires → IsWhyNoneWaits fails wires error
unwaited fails wires zero errors.Wait h some within = absurd (omega (arith, some))
unwaited fails wires (suc before) errors.Wait h some within =
    inr (suc before, unwaited_there fails wires before (omega (arith, within)) h)
unwaited fails wires interface (errors.Bind udp_port) h some within = absurd h
unwaited fails wires interface errors.Memory h some within = tt
