-- As many sockets as interfaces, and which router ran over them.
use Rattle.std.proofs.Common.{◌≡◌, ℕ, List, [], ◌∷◌, ◌+◌, length, vec_len, refl, sym, subst, ap}
use Rattle.std.proofs.Common.{◌∙◌, arith}
use Rattle.console.specs.declared.configuration.Configured.{Configured}
use Rattle.console.specs.declared.configuration.ConfiguredInterface.{ConfiguredInterface}
use Rattle.console.specs.Configurations.{Says}
use Rattle.event_rules.specs.Events.{initial}
use Rattle.event_rules.specs.Routers.{Router}
use Rattle.event_rules.specs.declared.model.Config.{Config}
use Rattle.worker.specs.declared.sockets.wire.Wire.{Wire}
use Rattle.worker.specs.Wires.{AreBound, Bound}
use Rattle.daemon.specs.Statuses.{HasRan, HasRanFor, HasRanOver, IsConfigOf}
use Rattle.daemon.specs.declared.ended_router.EndedRouter.{EndedRouter}

as_many : {Socket : Type 0} (bound : Bound Socket) (interfaces : List ConfiguredInterface)
    (wires : List (Wire Socket)) → AreBound bound interfaces wires
    → length wires ≡ length interfaces
as_many bound [] [] h = refl
as_many bound [] (w ∷ wires) h = absurd h
as_many bound (c ∷ interfaces) [] h = absurd h
as_many bound (c ∷ interfaces) (w ∷ wires) h = let rest = as_many bound interfaces wires h.1 in
    omega (arith, rest)

-- bound sockets, and interfaces, by other names
pub bound_still : {Socket : Type 0} (bound : Bound Socket)
    (interfaces same : List ConfiguredInterface) (wires given : List (Wire Socket))
    → interfaces ≡ same → given ≡ wires → AreBound bound interfaces wires
    → AreBound bound same given
bound_still bound interfaces same wires given is handed h =
    subst (λ l. AreBound bound same l) (sym handed) (subst (λ l. AreBound bound l wires) is h)

pub ran_as : (origin : Router) (interfaces seats many : ℕ) (ended : EndedRouter)
    (taken core : Router) → ended.origin.value ≡ taken → taken ≡ core → core ≡ origin
    → vec_len ended.workers ≡ many → many + 1 ≡ seats → seats ≡ interfaces + 1
    → HasRan origin interfaces ended
ran_as origin interfaces seats many ended taken core began then is workers every seated =
    record {
      began = began ∙ then ∙ is;
      workers = omega (arith, workers, every, seated, ended.workers.ok.0);
    }

pub ran_from : (origin first : Router) (interfaces : ℕ) (ended : EndedRouter)
    → HasRan first interfaces ended → first ≡ origin → HasRan origin interfaces ended
ran_from origin first interfaces ended h is = subst (λ o. HasRan o interfaces ended) is h

pub ran_over : (configured : Configured) (config : Config) (sockets transports : ℕ)
    (ended : EndedRouter) → IsConfigOf configured config → HasRan (initial config) transports ended
    → transports ≡ sockets → HasRanOver sockets configured ended
ran_over configured config sockets transports ended is h same =
    (config, is, subst (λ n. HasRan (initial config) n ended) same h)

pub ran_for : {Socket : Type 0} (text : List ℕ) (bound : Bound Socket) (configured : Configured)
    (interfaces : List ConfiguredInterface) (wires given : List (Wire Socket)) (ended : EndedRouter)
    → Says text configured → interfaces ≡ configured.interfaces
    → AreBound bound interfaces wires → given ≡ wires
    → HasRanOver (length given) configured ended → HasRanFor text ended
ran_for text bound configured interfaces wires given ended says same are handed h =
    let many : length given ≡ length configured.interfaces =
    ap length handed ∙ as_many bound interfaces wires are ∙ ap length same in
    (configured, says, subst (λ n. HasRanOver n configured ended) many h)
