-- Wires that were bound, one after the other.
use Rattle.std.proofs.Common.{◌≡◌, ℕ, ◌+◌, ◌<◌, ◌≤◌, List, [], ◌∷◌, ◌++◌, length, take, get_or, sym}
use Rattle.std.proofs.Common.{subst, ap, ◌∙◌, take_all}
use Rattle.std.proofs.lemmas.List.{take_more}
use Rattle.console.specs.declared.configuration.ConfiguredInterface.{ConfiguredInterface}
use Rattle.worker.specs.Wires.{AreBound, Bound, IsBound}
use Rattle.worker.specs.declared.sockets.wire.Wire.{Wire}

module _ {Socket : Type 0} (bound : Bound Socket) where
  and_one : (interfaces : List ConfiguredInterface) (wires : List (Wire Socket))
      (configured : ConfiguredInterface) (wire : Wire Socket) → AreBound bound interfaces wires
      → IsBound bound configured wire
      → AreBound bound (interfaces ++ configured ∷ []) (wires ++ wire ∷ [])
  and_one [] [] configured wire h one = (one, tt)
  and_one [] (w ∷ wires) configured wire h one = absurd h
  and_one (c ∷ interfaces) [] configured wire h one = absurd h
  and_one (c ∷ interfaces) (w ∷ wires) configured wire h one =
      (h.0, and_one interfaces wires configured wire h.1 one)

  pub one_more : (interfaces : List ConfiguredInterface) (k : ℕ) (wires after : List (Wire Socket))
      (configured : ConfiguredInterface) (wire : Wire Socket)
      → AreBound bound (take k interfaces) wires → k < length interfaces
      → configured ≡ get_or interfaces k configured → after ≡ wires ++ wire ∷ []
      → IsBound bound configured wire → AreBound bound (take (k + 1) interfaces) after
  one_more interfaces k wires after configured wire h there item grown one =
      let more : take (k + 1) interfaces ≡ take k interfaces ++ configured ∷ [] =
      take_more interfaces k configured there ∙ ap (λ c. take k interfaces ++ c ∷ []) (sym item) in
      subst (λ l. AreBound bound l after) (sym more)
      (subst (λ l. AreBound bound (take k interfaces ++ configured ∷ []) l) (sym grown)
      (and_one (take k interfaces) wires configured wire h one))

  pub all_bound : (interfaces : List ConfiguredInterface) (k : ℕ) (wires : List (Wire Socket))
      → length interfaces ≤ k → AreBound bound (take k interfaces) wires
      → AreBound bound interfaces wires
  all_bound interfaces k wires most h =
      subst (λ l. AreBound bound l wires) (take_all k interfaces most) h
