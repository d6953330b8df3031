-- A step of every neighbor, as the definitions of an event say.
use Rattle.std.proofs.Common.{◌≡◌, ℕ, ◌+◌, List, [], ◌∷◌, ◌++◌, map, refl}
use Rattle.std.specs.List.{enumerate_from, flat_map, fold}
use Rattle.std.specs.Prelude.{Option, None, Some}
use Rattle.lsdb.specs.Copies.{Database}
use Rattle.adjacency.specs.Contents.{Content, Step}
use Rattle.adjacency.specs.Contents as neighbor
use Rattle.adjacency.specs.Neighbors.{Neighbor}
use Rattle.received.specs.Links.{Area, Link}
use Rattle.received.specs.AreaStates.{Send, each_neighbor, marked_database, sends_at}
use Rattle.received.specs.AreaStates.{sent_on, step_on}
use Rattle.area.specs.Links.{with_no_sends, with_neighbor}
use Rattle.area.specs.Steps.{all_links}

pub step_is : (f : Neighbor → Step) (o : Option Neighbor) → neighbor.step_on f o ≡ step_on f o
step_is f None = refl
step_is f (Some n) = refl

pub sent_is : (f : Neighbor → Step) (o : Option Neighbor) → neighbor.sent_on f o ≡ sent_on f o
sent_is f None = refl
sent_is f (Some n) = refl

-- the marks of what was sent
abbrev pub marks : ℕ → Database → List Send → Database
marks moment d sends = fold (λ (db : Database) (s : Send). marked_database moment db s.content) d
    sends

-- F is the step of a link's neighbor
module _ (F : Link → Neighbor → Step) where
  abbrev pub after : Link → Link
  after l = with_neighbor (neighbor.step_on (F l) l.neighbor) l

  abbrev pub sends : Link → List Content
  sends l = neighbor.sent_on (F l) l.neighbor

  pub links_are : (n : ℕ) (ls : List Link)
      → map after ls ≡ map (λ (e : ℕ × Link). record e.1
      { neighbor = step_on (F e.1) e.1.neighbor }) (enumerate_from n ls)
  links_are n [] = refl
  links_are n (l ∷ ls) = λ i. with_neighbor (step_is (F l) l.neighbor i) l ∷ links_are (n + 1) ls i

  pub sends_are : (n : ℕ) (ls : List Link)
      → flat_map (λ (e : ℕ × Link). sends_at e.0 (sends e.1)) (enumerate_from n ls)
      ≡ flat_map (λ (e : ℕ × Link). sends_at e.0 (sent_on (F e.1) e.1.neighbor))
      (enumerate_from n ls)
  sends_are n [] = refl
  sends_are n (l ∷ ls) = λ i. sends_at n (sent_is (F l) l.neighbor i) ++ sends_are (n + 1) ls i

-- of every link, by a step that may read the database
pub all_are : (moment : ℕ) (F : Database → Link → Neighbor → Step) (a : Area)
    → all_links moment (λ (d : Database). after (F d)) (λ (d : Database). sends (F d))
    (with_no_sends a)
    ≡ each_neighbor moment (λ number link n. F a.database link n) (with_no_sends a)
all_are moment F a =
    λ i. record {
      area = record {
        links = links_are (F a.database) 1 a.links i;
        database = marks moment a.database (sends_are (F a.database) 1 a.links i);
      };
      sends = sends_are (F a.database) 1 a.links i;
    }
