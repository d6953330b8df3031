-- The drafts of an event are those of what it sends.
use Rattle.std.proofs.Common.{◌≡◌, ℕ, ◌+◌, List, [], ◌∷◌, ◌++◌, refl, sym, ap, ◌∙◌, subst}
use Rattle.std.proofs.Common.{append_assoc, append-nil}
use Rattle.std.specs.List.{AllByRecursion, enumerate_from, flat_map}
use Rattle.adjacency.specs.Drafts.{Drafted}
use Rattle.adjacency.specs.Rooms.{HasRoom}
use Rattle.received.specs.Links.{Link}
use Rattle.received.specs.AreaStates.{Send}
use Rattle.event_rules.specs.declared.model.Out.{Out}
use Rattle.event_rules.specs.Packing.{outs_at}
use Rattle.invariants.specs.Keeping.{AreTextsAt}
use Rattle.area.specs.Drafted.{drafts_with, drafted_from, nothing_at}
use Rattle.router.specs.Drafts.{IsDraftAt}
use Rattle.router.specs.Making.{interfaces_of}
use Rattle.router.proofs.Drafts.{drafted_same}
use Rattle.flood.specs.Drafts.{AreDrafts, AreDraftsFrom}

module _ (sends : List Send) (room : AllByRecursion (λ (s : Send). HasRoom s.content) sends) where
  drafts_from : (n : ℕ) (links : List Link)
      → AreDraftsFrom n links sends (drafted_from n sends links (nothing_at links))
  drafts_from n [] = tt
  drafts_from n (link ∷ links) = (record { drafted = refl; room = room }, drafts_from (n + 1) links)

  -- only the interfaces of the links matter
  pub are_drafts : (links new : List Link) → interfaces_of new ≡ interfaces_of links
      → AreDrafts links sends (drafts_with sends new (nothing_at links))
  are_drafts links new same = record {
    from = subst (AreDraftsFrom 1 links sends)
        (sym (drafted_same sends new links (nothing_at links) same)) (drafts_from 1 links);
  }

-- ---- one draft after another

abbrev outs_from : ℕ → List Send → ℕ → List Link → List Out
outs_from own sends n links = flat_map (λ (e : ℕ × Link). outs_at own sends e.0 e.1)
    (enumerate_from n links)

-- each packet is encoded correctly
abbrev texts_from : ℕ → List Send → ℕ → List Link → Type 0
texts_from own sends n links = AllByRecursion (λ (e : ℕ × Link). AreTextsAt own sends e.0 e.1)
    (enumerate_from n links)

module _ (own : ℕ) (all : List Drafted) where
  -- the packets so far, and those of the drafts from this number on, are all packets
  pub record IsSending (number : ℕ) (outs : List Out) (rest : List Drafted) : Type 0 where
    pub going : (links : List Link) (sends : List Send) → AreDraftsFrom 1 links sends all
        → (left : List Link) × AreDraftsFrom number left sends rest
        × (outs ++ outs_from own sends number left ≡ outs_from own sends 1 links)
        × (texts_from own sends number left → texts_from own sends 1 links)

  pub sending_starts : (outs : List Out) (rest : List Drafted) → outs ≡ [] → rest ≡ all
      → IsSending 1 outs rest
  sending_starts outs rest none same = record {
    going = λ links sends are. (
      links,
      subst (AreDraftsFrom 1 links sends) (sym same) are,
      ap (λ os. os ++ outs_from own sends 1 links) none,
      λ texts. texts,
    );
  }

  split : (number : ℕ) (left : List Link) (sends : List Send) (d : Drafted) (rest : List Drafted)
      → AreDraftsFrom number left sends (d ∷ rest)
      → (link : Link) × (more : List Link) × (left ≡ link ∷ more)
      × IsDraftAt number link sends d × AreDraftsFrom (number + 1) more sends rest
  split number [] sends d rest are = absurd are
  split number (link ∷ more) sends d rest are = (link, more, refl, are.0, are.1)

  pub next_draft : (number : ℕ) (outs : List Out) (before rest : List Drafted) (d : Drafted)
      → IsSending number outs before → before ≡ d ∷ rest → (links : List Link) (sends : List Send)
      → AreDraftsFrom 1 links sends all
      → (link : Link) × (sends : List Send) × IsDraftAt number link sends d
  next_draft number outs before rest d h e links sends are =
      let g = h.going links sends are in
      let s = split number g.0 sends d rest (subst (AreDraftsFrom number g.0 sends) e g.1) in
      (s.0, sends, s.3)

  pub one_sent : (number : ℕ) (outs sent : List Out) (before rest : List Drafted) (d : Drafted)
      → IsSending number outs before → before ≡ d ∷ rest
      → ((link : Link) (sends : List Send) → IsDraftAt number link sends d
      → sent ≡ outs ++ outs_at own sends number link)
      → ((link : Link) (sends : List Send) → IsDraftAt number link sends d
      → AreTextsAt own sends number link) → IsSending (number + 1) sent rest
  one_sent number outs sent before rest d h e put spelled = record {
    going = λ links sends are.
        let g = h.going links sends are in
        let s = split number g.0 sends d rest (subst (AreDraftsFrom number g.0 sends) e g.1) in (
          s.1,
          s.4,
          ap (λ os. os ++ outs_from own sends (number + 1) s.1) (put s.0 sends s.3)
              ∙ append_assoc outs (outs_at own sends number s.0)
              (outs_from own sends (number + 1) s.1)
              ∙ ap (λ ls. outs ++ outs_from own sends number ls) (sym s.2)
              ∙ g.2,
          λ texts. g.3 (subst (λ ls. texts_from own sends number ls) (sym s.2)
              (spelled s.0 sends s.3, texts)),
        );
  }

  none_drafted : (number : ℕ) (left : List Link) (sends : List Send)
      → AreDraftsFrom number left sends [] → left ≡ []
  none_drafted number [] sends are = refl
  none_drafted number (link ∷ left) sends are = absurd are

  pub all_sent : (number : ℕ) (outs : List Out) (rest : List Drafted) → IsSending number outs rest
      → rest ≡ [] → (links : List Link) (sends : List Send) → AreDraftsFrom 1 links sends all
      → outs ≡ outs_from own sends 1 links
  all_sent number outs rest h none links sends are =
      let g = h.going links sends are in
      let left : g.0 ≡ [] = none_drafted number g.0 sends
      (subst (AreDraftsFrom number g.0 sends) none g.1) in
      sym (ap (λ ls. outs ++ outs_from own sends number ls) left ∙ append-nil outs) ∙ g.2

  pub all_spelled : (number : ℕ) (outs : List Out) (rest : List Drafted)
      → IsSending number outs rest → rest ≡ [] → (links : List Link) (sends : List Send)
      → AreDraftsFrom 1 links sends all → texts_from own sends 1 links
  all_spelled number outs rest h none links sends are =
      let g = h.going links sends are in
      let left : g.0 ≡ [] = none_drafted number g.0 sends
      (subst (AreDraftsFrom number g.0 sends) none g.1) in
      g.3 (subst (λ ls. texts_from own sends number ls) (sym left) tt)
