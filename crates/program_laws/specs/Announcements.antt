-- The consequences of an answer at `tag` or `price`, however much later, and whatever other routers
-- do: what the router announces about every other destination stays the same.
use Rattle.std.specs.Prelude.{◌≡◌, false, if◌then◌else◌, List, Option, None, Some}
use Rattle.std.specs.List.{filter_map}
use Rattle.std.specs.FinMap as finite
use Rattle.words.specs.Numbers.{RouterNumber}
use Rattle.words.specs.declared.key.Key.{Key}
use Rattle.lsdb.specs.Keys.{same_key}
use Rattle.event_rules.specs.Events.{Run, Step}
use Rattle.event_rules.specs.Originations.{external_key, router_key, wanted_body}
use Rattle.event_rules.specs.Routers.{Occurrence, Router}

-- what the operator asks for in the event, without what programs answer about the destination whose
-- LSA has this key
abbrev pub asked_in : RouterNumber → Key → Occurrence → Option Occurrence
asked_in own key (Occurrence.Packet number bytes) = None
asked_in own key Occurrence.Tick = None
asked_in own key (Occurrence.Redistribute tagged tag priced price) =
    Some (
    if same_key (external_key own priced.prefix) key
    then Occurrence.Redistribute priced 0 priced 0
    else Occurrence.Redistribute tagged tag priced price)
asked_in own key (Occurrence.Withdraw prefix) = Some (Occurrence.Withdraw prefix)
asked_in own key (Occurrence.Install answers) = None
asked_in own key (Occurrence.LinkDown number) = None

-- the same for a run, in order
abbrev pub asked_but : RouterNumber → Key → List Step → List Occurrence
asked_but own key steps = filter_map (λ (s : Step). asked_in own key s.event) steps

-- Two runs of one router, in which the operator asks for the same and programs answer the same,
-- except for the answers about one destination. Whatever packets are received, at whatever moments:
-- at the end it announces the same for every other key, and wants the same body for each of these
-- LSAs.
abbrev pub OtherAnnouncementsStayTheSame : Type 0
OtherAnnouncementsStayTheSame =
    (old : Router) (key : Key) (steps others : List Step) (new next : Router)
    → Run old steps new → Run old others next
    → asked_but old.id key steps ≡ asked_but old.id key others
    → (other : Key) → same_key other key ≡ false
    → (finite.get new.announced other ≡ finite.get next.announced other)
    × (same_key other (router_key old.id) ≡ false → wanted_body new other ≡ wanted_body next other)
