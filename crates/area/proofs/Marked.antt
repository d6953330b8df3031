-- The marks of what all links send are those of the keys that were added to the drafts.
use Rattle.std.proofs.Common.{◌≡◌, ℕ, suc, ◌+◌, ◌<◌, ◌≤◌, List, [], ◌∷◌, ◌++◌, drop, length}
use Rattle.std.proofs.Common.{map, get_or, refl, sym, ap, ◌∙◌, arith}
use Rattle.std.specs.List.{enumerate_from, flat_map}
use Rattle.words.specs.declared.key.Key.{Key}
use Rattle.lsdb.specs.Copies.{Database, mark_sent}
use Rattle.adjacency.specs.Contents.{Content}
use Rattle.adjacency.specs.Drafts.{Drafted, drafting}
use Rattle.received.specs.Links.{Link}
use Rattle.received.specs.AreaStates.{Send, marked_database, sends_at}
use Rattle.area.specs.Kept.{KeptLink}
use Rattle.area.specs.Links.{draft_of}
use Rattle.area.specs.Steps.{key_of_update, keys_behind, mark_each, update_count}
use Rattle.area.specs.Steps.{update_count_on}
use Rattle.area.proofs.Marking.{marks}
use Rattle.area.proofs.Sends.{draft_from}
use Rattle.area.proofs.Updates.{drop_end, drop_next, marks_behind}

pub mark_each-append : (moment : ℕ) (xs ys : List Key) (d : Database)
    → mark_each moment d (xs ++ ys) ≡ mark_each moment (mark_each moment d xs) ys
mark_each-append moment [] ys d = refl
mark_each-append moment (x ∷ xs) ys d = mark_each-append moment xs ys (mark_sent moment x d)

marks-append : (moment : ℕ) (xs ys : List Send) (d : Database)
    → marks moment d (xs ++ ys) ≡ marks moment (marks moment d xs) ys
marks-append moment [] ys d = refl
marks-append moment (x ∷ xs) ys d = marks-append moment xs ys (marked_database moment d x.content)

-- S is what is sent on a link
module _ (moment : ℕ) (S : Link → List Content) where
  abbrev pub sent_at : ℕ → Link → List Content
  sent_at n l = S l

  pub marks_are : (n : ℕ) (ls : List Link) (ds : List Drafted) (d : Database)
      → length ds ≡ length ls → mark_each moment d
      (keys_behind (map update_count ds) (draft_from sent_at n ls ds))
      ≡ marks moment d (flat_map (λ (e : ℕ × Link). sends_at e.0 (S e.1))
      (enumerate_from n ls))
  marks_are n [] [] d all = refl
  marks_are n [] (e ∷ ds) d all = absurd (omega (arith, all))
  marks_are n (l ∷ ls) [] d all = absurd (omega (arith, all))
  marks_are n (l ∷ ls) (e ∷ ds) d all =
      let delay = l.interface.delay in
      let rest = flat_map (λ (e : ℕ × Link). sends_at e.0 (S e.1)) (enumerate_from (n + 1) ls) in
      let keys = keys_behind (map update_count ds) (draft_from sent_at (n + 1) ls ds) in
      mark_each-append moment
      (map key_of_update (drop (length e.updates) (drafting delay (S l) e).updates)) keys d
      ∙ ap (λ b. mark_each moment b keys) (marks_behind moment delay n (S l) d e)
      ∙ marks_are (n + 1) ls ds (marks moment d (sends_at n (S l))) (omega (arith, all))
      ∙ sym (marks-append moment (sends_at n (S l)) rest d)

  pub length-drafts : (n : ℕ) (ls : List Link) (ds : List Drafted) → length ds ≡ length ls
      → length (draft_from sent_at n ls ds) ≡ length ds
  length-drafts n [] ds all = refl
  length-drafts n (l ∷ ls) [] all = refl
  length-drafts n (l ∷ ls) (d ∷ ds) all = ap suc (length-drafts (n + 1) ls ds (omega (arith, all)))

pub counts_on : (ls : List KeptLink)
    → map update_count_on ls ≡ map update_count (map draft_of ls)
counts_on [] = refl
counts_on (l ∷ ls) = ap (λ cs. update_count_on l ∷ cs) (counts_on ls)

-- ---- the loop

pub behind_next : (cs : List ℕ) (ds : List Drafted) (i c : ℕ) (d : Drafted) → i < length cs
    → i < length ds → keys_behind (drop i cs) (drop i ds)
    ≡ map key_of_update (drop (get_or cs i c) (get_or ds i d).updates)
    ++ keys_behind (drop (i + 1) cs) (drop (i + 1) ds)
behind_next cs ds i c d lt lt_d = λ j. keys_behind (drop_next i cs c lt j) (drop_next i ds d lt_d j)

pub behind_end : (cs : List ℕ) (ds : List Drafted) (i : ℕ) → length cs ≤ i
    → keys_behind (drop i cs) (drop i ds) ≡ []
behind_end cs ds i all = ap (λ xs. keys_behind xs (drop i ds)) (drop_end i cs all)
