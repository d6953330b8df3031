-- A change of each link, and a step in which each link may send: the start and the invariants of
-- the loops.
use Rattle.std.proofs.Common.{◌≡◌, ℕ, ◌+◌, Bool, false, List, [], ◌∷◌, map, refl, sym, ap, ◌∙◌}
use Rattle.adjacency.specs.Contents.{Content}
use Rattle.adjacency.specs.Drafts.{Drafted, drafting}
use Rattle.received.specs.Links.{Link}
use Rattle.received.specs.AreaStates.{sends_of}
use Rattle.area.specs.Drafted.{drafts_with}
use Rattle.area.specs.Kept.{KeptLink}
use Rattle.area.specs.Links.{draft_of, present}
use Rattle.area.proofs.Finish.{Finishes, finish_counts, finish_drafts, finish_items}
use Rattle.area.proofs.Kept.{mixed}
use Rattle.area.proofs.Sends.{draft_from, drafts_are}

pub changes_begin : {N L : Type 0} (f : N → L) (a : L → L) (ns : List N)
    → mixed f (λ n. a (f n)) 0 ns ≡ map a (map f ns)
changes_begin f a [] = refl
changes_begin f a (n ∷ ns) = ap (λ ls. a (f n) ∷ ls) (changes_begin f a ns)

-- A is the link after the step, S what is sent there
module _ (A : Link → Link) (S : Link → List Content) where
  abbrev pub after : ℕ → Link → Link
  after n l = A l

  abbrev pub sent_at : ℕ → Link → List Content
  sent_at n l = S l

  abbrev pub after_draft : ℕ → Link → Drafted → Drafted
  after_draft n l d = drafting l.interface.delay (S l) d

  -- nothing counts
  abbrev pub counts : ℕ → Link → Bool
  counts n l = false

  items_begin : (n : ℕ) (xs : List KeptLink)
      → finish_items present draft_of after after_draft counts 0 n xs ≡ map A (map present xs)
  items_begin n [] = refl
  items_begin n (x ∷ xs) = ap (λ ls. A (present x) ∷ ls) (items_begin (n + 1) xs)

  drafts_begin : (n : ℕ) (xs : List KeptLink)
      → finish_drafts present draft_of after after_draft counts 0 n xs
      ≡ draft_from sent_at n (map present xs) (map draft_of xs)
  drafts_begin n [] = refl
  drafts_begin n (x ∷ xs) =
      ap (λ zs. after_draft n (present x) (draft_of x) ∷ zs) (drafts_begin (n + 1) xs)

  counts_begin : (n : ℕ) (xs : List KeptLink)
      → finish_counts present draft_of after after_draft counts 0 n xs ≡ false
  counts_begin n [] = refl
  counts_begin n (x ∷ xs) = counts_begin (n + 1) xs

  abbrev pub Steps : ℕ → List KeptLink → List Link → List Drafted → Type 0
  Steps i xs olds drafts =
      Finishes present draft_of after after_draft counts i xs false (map A olds)
      (drafts_with (sends_of S olds) olds drafts) false

  pub begins : (xs : List KeptLink) → Steps 0 xs (map present xs) (map draft_of xs)
  begins xs = record {
    items_is = items_begin 1 xs;
    drafts_is = drafts_begin 1 xs ∙ sym (drafts_are sent_at (map present xs) (map draft_of xs));
    counts_is = counts_begin 1 xs;
  }
