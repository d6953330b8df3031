-- A step of each link, and a step of one link.
use Rattle.std.specs.Prelude.{ℕ, List, [], ◌∷◌, ◌++◌, drop, length, map, Option, None, Some}
use Rattle.std.specs.List.{fold}
use Rattle.words.specs.Numbers.{InterfaceNumber, Moment}
use Rattle.words.specs.declared.key.Key.{Key}
use Rattle.lsdb.specs.Copies.{Database, mark_sent}
use Rattle.adjacency.specs.Contents.{Content, sent_on, step_on}
use Rattle.adjacency.specs.Drafts.{Drafted}
use Rattle.adjacency.specs.Retransmissions.{send_again}
use Rattle.adjacency.specs.declared.draft.Update.{Update}
use Rattle.received.specs.Links.{Link, change_link, link_at}
use Rattle.received.specs.AreaStates.{AreaState, sends_at, sends_of, on_links, sending}
use Rattle.area.specs.Kept.{KeptLink}
use Rattle.area.specs.Links.{with_neighbor}

-- each link takes a step, which reads the database before it, and the copies that they send in Link
-- State Updates are marked as sent
abbrev pub all_links : Moment → (after : Database → Link → Link)
    → (sends : Database → Link → List Content) → AreaState → AreaState
all_links moment after sends o =
    let db : Database = o.area.database in
    sending moment (sends_of (sends db) o.area.links) (on_links (map (after db)) o)

-- what the link sends, if there is one
abbrev pub sent_by : (Link → List Content) → Option Link → List Content
sent_by f None = []
sent_by f (Some link) = f link

-- the link with this number takes a step, which reads the database before it, and the copies that
-- it sends in Link State Updates are marked as sent
abbrev pub one_link : Moment → InterfaceNumber → (after : Database → Link → Link)
    → (sends : Database → Link → List Content) → AreaState → AreaState
one_link moment interface after sends o =
    let db : Database = o.area.database in
    sending moment (sends_at interface (sent_by (sends db) (link_at interface o.area.links)))
    (on_links (change_link interface (after db)) o)

-- ---- what a link retransmits

abbrev pub after_again : Moment → Database → Link → Link
after_again moment db link =
    with_neighbor (step_on (send_again moment link.interface.retransmit_interval db) link.neighbor)
    link

abbrev pub sent_again : Moment → Database → Link → List Content
sent_again moment db link =
    sent_on (send_again moment link.interface.retransmit_interval db) link.neighbor

-- ---- marks of what was sent

abbrev pub key_of_update : Update → Key
key_of_update u = u.key

-- the copies of these keys are marked as sent
abbrev pub mark_each : Moment → Database → List Key → Database
mark_each moment db keys = fold (λ (d : Database) (key : Key). mark_sent moment key d) db keys

abbrev pub update_count : Drafted → ℕ
update_count d = length d.updates

abbrev pub update_count_on : KeptLink → ℕ
update_count_on link = update_count link.drafted

-- the keys of the Link State Updates of each draft after its first ones
abbrev pub keys_behind : List ℕ → List Drafted → List Key
keys_behind [] ds = []
keys_behind (c ∷ cs) [] = []
keys_behind (c ∷ cs) (d ∷ ds) = map key_of_update (drop c d.updates) ++ keys_behind cs ds
