-- A step at only one interface.
use Rattle.std.proofs.Common.{◌≡◌, ◌≢◌, ℕ, zero, suc, ◌+◌, ◌<◌, ◌==◌, cond, List, [], ◌∷◌, ◌++◌}
use Rattle.std.proofs.Common.{length, map, get_or, set, refl, sym, ap, ◌∙◌, arith}
use Rattle.std.proofs.lemmas.List.{get_or-map, length-map, map-set}
use Rattle.std.specs.List.{enumerate_from, filter_map}
use Rattle.std.specs.Prelude.{Option, None, Some}
use Rattle.adjacency.specs.Contents.{Content, Step, no_sends}
use Rattle.adjacency.specs.Contents as neighbor
use Rattle.adjacency.specs.Drafts.{Drafted, drafting}
use Rattle.adjacency.specs.Neighbors.{Neighbor}
use Rattle.adjacency.proofs.Floods.{drafting-none}
use Rattle.received.specs.Links.{Link, change_link}
use Rattle.received.specs.AreaStates.{sends_at, only_at, sent_on, step_on, stepped_links}
use Rattle.received.specs.AreaStates.{stepping_sends, at_interface}
use Rattle.area.specs.Drafted.{drafts_with, drafted_from}
use Rattle.area.specs.Kept.{KeptLink}
use Rattle.area.specs.Links.{draft_of, present, with_neighbor}
use Rattle.area.proofs.Sends.{append_none, other_number, picked_elsewhere, picked_here}
use Rattle.area.proofs.Sends.{same_number, sends_from}

-- g changes only the item with number k
module _ {L : Type 0} (g : ℕ → L → L) (k : ℕ) (rest : (p : ℕ) (x : L) → p ≢ k → g p x ≡ x) where
  rest_stays : (n : ℕ) (xs : List L) → k < n
      → xs ≡ map (λ (e : ℕ × L). g e.0 e.1) (enumerate_from n xs)
  rest_stays n [] lt = refl
  rest_stays n (x ∷ xs) lt = λ i. sym (rest n x (λ is. absurd (omega (arith, lt, is)))) i
      ∷ rest_stays (n + 1) xs (omega (arith, lt)) i

  pub set_only : (i n : ℕ) (xs : List L) (y d : L) → i < length xs → k ≡ n + i
      → y ≡ g k (get_or xs i d) → set xs i y ≡ map (λ (e : ℕ × L). g e.0 e.1) (enumerate_from n xs)
  set_only i n [] y d lt at is = absurd (omega (arith, lt))
  set_only zero n (x ∷ xs) y d lt at is =
      let same : k ≡ n = omega (arith, at) in
      λ j. (is ∙ ap (λ m. g m x) same) j ∷ rest_stays (n + 1) xs (omega (arith, same)) j
  set_only (suc i) n (x ∷ xs) y d lt at is =
      let away : n ≢ k = λ e. absurd (omega (arith, at, e)) in
      λ j. sym (rest n x away) j ∷ set_only i (n + 1) xs y d (omega (arith, lt)) (omega (arith, at))
      is j

-- S sends only at number k
module _ (S : ℕ → Link → List Content) (k : ℕ) (rest : (p : ℕ) (l : Link) → p ≢ k → S p l ≡ [])
  where
    none_later : (n : ℕ) (ls : List Link) → k < n → sends_from S n ls ≡ []
    none_later n [] lt = refl
    none_later n (l ∷ ls) lt =
        ap (λ cs. sends_at n cs ++ sends_from S (n + 1) ls)
        (rest n l (λ is. absurd (omega (arith, lt, is))))
        ∙ none_later (n + 1) ls (omega (arith, lt))

    pub sends_only : (i n : ℕ) (ls : List Link) (d : Link) → i < length ls → k ≡ n + i
        → sends_from S n ls ≡ sends_at k (S k (get_or ls i d))
    sends_only i n [] d lt at = absurd (omega (arith, lt))
    sends_only zero n (l ∷ ls) d lt at =
        let same : n ≡ k = omega (arith, at) in
        ap (λ ss. sends_at n (S n l) ++ ss) (none_later (n + 1) ls (omega (arith, same)))
        ∙ append_none (sends_at n (S n l)) ∙ ap (λ m. sends_at m (S m l)) same
    sends_only (suc i) n (l ∷ ls) d lt at =
        ap (λ cs. sends_at n cs ++ sends_from S (n + 1) ls)
        (rest n l (λ e. absurd (omega (arith, at, e))))
        ∙ sends_only i (n + 1) ls d (omega (arith, lt)) (omega (arith, at))

-- what is sent at number k changes only its draft
drafts_rest : (k n : ℕ) (cs : List Content) (ls : List Link) (ds : List Drafted) → k < n
    → ds ≡ drafted_from n (sends_at k cs) ls ds
drafts_rest k n cs [] ds lt = refl
drafts_rest k n cs (l ∷ ls) [] lt = refl
drafts_rest k n cs (l ∷ ls) (d ∷ ds) lt =
    let none = picked_elsewhere n k cs (λ is. absurd (omega (arith, lt, is))) in
    λ j. (drafting-none l.interface.delay d ∙ ap (λ zs. drafting l.interface.delay zs d) (sym none))
    j ∷ drafts_rest k (n + 1) cs ls ds (omega (arith, lt)) j

pub drafted_only : (i n k : ℕ) (cs : List Content) (ls : List Link) (ds : List Drafted) (dl : Link)
    (e dd : Drafted) → i < length ls → i < length ds → k ≡ n + i
    → e ≡ drafting (get_or ls i dl).interface.delay cs (get_or ds i dd)
    → set ds i e ≡ drafted_from n (sends_at k cs) ls ds
drafted_only i n k cs [] ds dl e dd lt lt_d at is = absurd (omega (arith, lt))
drafted_only i n k cs (l ∷ ls) [] dl e dd lt lt_d at is = absurd (omega (arith, lt_d))
drafted_only zero n k cs (l ∷ ls) (d ∷ ds) dl e dd lt lt_d at is =
    let same : k ≡ n = omega (arith, at) in
    let all = ap (λ m. filter_map (at_interface m) (sends_at k cs)) (sym same) ∙ picked_here k cs in
    λ j. (is ∙ ap (λ zs. drafting l.interface.delay zs d) (sym all)) j
    ∷ drafts_rest k (n + 1) cs ls ds (omega (arith, same)) j
drafted_only (suc i) n k cs (l ∷ ls) (d ∷ ds) dl e dd lt lt_d at is =
    let none = picked_elsewhere n k cs (λ same. absurd (omega (arith, at, same))) in
    λ j. (drafting-none l.interface.delay d ∙ ap (λ zs. drafting l.interface.delay zs d) (sym none))
    j ∷ drafted_only i (n + 1) k cs ls ds dl e dd (omega (arith, lt)) (omega (arith, lt_d))
    (omega (arith, at)) is j

-- ---- a step of the neighbor on one link

pub step_rests : (f : Neighbor → Step) (k p : ℕ) (l : Link) (o : Option Neighbor) → p ≢ k
    → step_on (only_at k f p l) o ≡ o
step_rests f k p l None ne = refl
step_rests f k p l (Some n) ne = ap (λ b. Some (cond b (f n) (no_sends n)).neighbor)
    (other_number p k ne)

pub step_acts : (f : Neighbor → Step) (k : ℕ) (l : Link) (o : Option Neighbor)
    → neighbor.step_on f o ≡ step_on (only_at k f k l) o
step_acts f k l None = refl
step_acts f k l (Some n) = sym (ap (λ b. Some (cond b (f n) (no_sends n)).neighbor) (same_number k))

pub sent_rests : (f : Neighbor → Step) (k p : ℕ) (l : Link) (o : Option Neighbor) → p ≢ k
    → sent_on (only_at k f p l) o ≡ []
sent_rests f k p l None ne = refl
sent_rests f k p l (Some n) ne = ap (λ b. (cond b (f n) (no_sends n)).sends) (other_number p k ne)

pub sent_acts : (f : Neighbor → Step) (k : ℕ) (l : Link) (o : Option Neighbor)
    → neighbor.sent_on f o ≡ sent_on (only_at k f k l) o
sent_acts f k l None = refl
sent_acts f k l (Some n) = sym (ap (λ b. (cond b (f n) (no_sends n)).sends) (same_number k))

-- the view of the links after one of them changed
shown_set : (ls : List KeptLink) (i : ℕ) (y : KeptLink)
    → map present (set ls i y) ≡ set (map present ls) i y.present
shown_set ls i y = map-set present ls i y

shown_within : (ls : List KeptLink) (i : ℕ) → i < length ls → i < length (map present ls)
shown_within ls i lt = omega (arith, lt, length-map ls present)

drafted_within : (ls : List KeptLink) (i : ℕ) → i < length ls → i < length (map draft_of ls)
drafted_within ls i lt = omega (arith, lt, length-map ls draft_of)

module _ (ls : List KeptLink) (i k : ℕ) (y d : KeptLink) (lt : i < length ls) (at : k ≡ 1 + i)
  where
    shown : get_or (map present ls) i d.present ≡ (get_or ls i d).present
    shown = get_or-map present ls i d d.present lt

    pub links_stepped : (f : Neighbor → Step)
        → y.present ≡ with_neighbor (neighbor.step_on f (get_or ls i d).present.neighbor)
        (get_or ls i d).present → map present (set ls i y)
        ≡ stepped_links (only_at k f) (map present ls)
    links_stepped f is =
        let stepping : ℕ → Link → Link =
        λ p l. with_neighbor (step_on (only_at k f p l) l.neighbor) l in
        let old = (get_or ls i d).present in
        shown_set ls i y
        ∙ set_only stepping k (λ p x ne. ap (λ o. with_neighbor o x)
        (step_rests f k p x x.neighbor ne)) i 1 (map present ls) y.present d.present
        (shown_within ls i lt) at
        (is ∙ ap (λ o. with_neighbor o old) (step_acts f k old old.neighbor)
        ∙ ap (stepping k) (sym shown))

    pub links_changed : (change : Link → Link) → y.present ≡ change (get_or ls i d).present
        → map present (set ls i y) ≡ change_link k change (map present ls)
    links_changed change is =
        let changing : ℕ → Link → Link = λ p l. cond (p == k) (change l) l in
        shown_set ls i y
        ∙ set_only changing k (λ p x ne. ap (λ b. cond b (change x) x) (other_number p k ne)) i 1
        (map present ls) y.present d.present (shown_within ls i lt) at
        (is ∙ ap change (sym shown) ∙ sym
        (ap (λ b. cond b (change (get_or (map present ls) i d.present))
        (get_or (map present ls) i d.present)) (same_number k)))

    pub sends_stepped : (f : Neighbor → Step)
        → sends_at k (neighbor.sent_on f (get_or ls i d).present.neighbor)
        ≡ stepping_sends (only_at k f) (map present ls)
    sends_stepped f =
        let old = (get_or ls i d).present in
        let S : ℕ → Link → List Content = λ p l. sent_on (only_at k f p l) l.neighbor in
        ap (sends_at k) (sent_acts f k old old.neighbor ∙ ap (S k) (sym shown))
        ∙ sym (sends_only S k (λ p l ne. sent_rests f k p l l.neighbor ne) i 1 (map present ls)
        d.present (shown_within ls i lt) at)

    pub drafts_sent : (cs : List Content)
        → y.drafted ≡ drafting (get_or ls i d).present.interface.delay cs (get_or ls i d).drafted
        → map draft_of (set ls i y) ≡ drafts_with (sends_at k cs) (map present ls) (map draft_of ls)
    drafts_sent cs is =
        let drafted : get_or (map draft_of ls) i d.drafted ≡ (get_or ls i d).drafted =
        get_or-map draft_of ls i d d.drafted lt in
        map-set draft_of ls i y
        ∙ drafted_only i 1 k cs (map present ls) (map draft_of ls) d.present y.drafted d.drafted
        (shown_within ls i lt) (drafted_within ls i lt) at
        (is ∙ (λ j. drafting (sym shown j).interface.delay cs (sym drafted j)))
