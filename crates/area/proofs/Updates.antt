-- The marks of what is sent are those of the keys that were added to the draft.
use Rattle.std.proofs.Common.{◌≡◌, ℕ, zero, suc, ◌+◌, ◌<◌, ◌≤◌, List, [], ◌∷◌, ◌++◌, drop, length}
use Rattle.std.proofs.Common.{map, get_or, refl, sym, ap, ◌∙◌, arith, append_assoc}
use Rattle.std.specs.Prelude.{Some}
use Rattle.lsdb.specs.Copies.{Database, mark_sent}
use Rattle.lsdb.specs.Headers.{lsa_key}
use Rattle.adjacency.specs.Contents.{Acknowledges, Content, Describes, Requests, SendsHello}
use Rattle.adjacency.specs.Contents.{Updates}
use Rattle.adjacency.specs.Drafts.{Drafted, adds, drafting, update_of}
use Rattle.adjacency.specs.declared.draft.Update.{Update}
use Rattle.received.specs.Links.{link_at}
use Rattle.received.specs.AreaStates.{sends_at}
use Rattle.area.specs.Kept.{KeptLink}
use Rattle.area.specs.Links.{present}
use Rattle.area.specs.Steps.{key_of_update, mark_each}
use Rattle.area.proofs.Marking.{marks}
use Rattle.area.proofs.Sends.{append_none}
use Rattle.area.proofs.Synchronizing.{shown_get}

-- ---- lists from an index on

drop_step : {X : Type 0} (i : ℕ) (xs : List X) (d : X) → i < length xs
    → drop i xs ≡ get_or xs i d ∷ drop (suc i) xs
drop_step zero [] d lt = absurd (omega (arith, lt))
drop_step zero (x ∷ xs) d lt = refl
drop_step (suc i) [] d lt = absurd (omega (arith, lt))
drop_step (suc i) (x ∷ xs) d lt = drop_step i xs d (omega (arith, lt))

pub drop_next : {X : Type 0} (i : ℕ) (xs : List X) (d : X) → i < length xs
    → drop i xs ≡ get_or xs i d ∷ drop (i + 1) xs
drop_next i xs d lt =
    let next : suc i ≡ i + 1 = omega arith in
    drop_step i xs d lt ∙ ap (λ j. get_or xs i d ∷ drop j xs) next

pub drop_end : {X : Type 0} (i : ℕ) (xs : List X) → length xs ≤ i → drop i xs ≡ []
drop_end zero [] all = refl
drop_end zero (x ∷ xs) all = absurd (omega (arith, all))
drop_end (suc i) [] all = refl
drop_end (suc i) (x ∷ xs) all = drop_end i xs (omega (arith, all))

behind_all : (us : List Update) (more : List Update) → drop (length us) (us ++ more) ≡ more
behind_all [] more = refl
behind_all (u ∷ us) more = behind_all us more

-- what stands in for an item beyond the end doesn't matter
pub same_item : {X : Type 0} (i : ℕ) (xs : List X) (d e : X) → i < length xs
    → get_or xs i d ≡ get_or xs i e
same_item i [] d e lt = absurd (omega (arith, lt))
same_item zero (x ∷ xs) d e lt = refl
same_item (suc i) (x ∷ xs) d e lt = same_item i xs d e (omega (arith, lt))

-- ---- the Link State Updates

-- the Link State Updates among the contents, as a draft has them
abbrev pub updates_of : ℕ → List Content → List Update
updates_of delay [] = []
updates_of delay (SendsHello h ∷ cs) = updates_of delay cs
updates_of delay (Describes d ∷ cs) = updates_of delay cs
updates_of delay (Requests ks ∷ cs) = updates_of delay cs
updates_of delay (Updates lsa ∷ cs) = update_of delay lsa ∷ updates_of delay cs
updates_of delay (Acknowledges h ∷ cs) = updates_of delay cs

updates_drafted : (delay : ℕ) (cs : List Content) (d : Drafted)
    → (drafting delay cs d).updates ≡ d.updates ++ updates_of delay cs
unfolding drafting
updates_drafted delay [] d = sym (append_none d.updates)
updates_drafted delay (SendsHello h ∷ cs) d = updates_drafted delay cs (adds delay d (SendsHello h))
updates_drafted delay (Describes e ∷ cs) d = updates_drafted delay cs (adds delay d (Describes e))
updates_drafted delay (Requests ks ∷ cs) d = updates_drafted delay cs (adds delay d (Requests ks))
updates_drafted delay (Updates lsa ∷ cs) d =
    updates_drafted delay cs (adds delay d (Updates lsa))
    ∙ append_assoc d.updates (update_of delay lsa ∷ []) (updates_of delay cs)
updates_drafted delay (Acknowledges h ∷ cs) d =
    updates_drafted delay cs (adds delay d (Acknowledges h))

new_updates : (delay : ℕ) (cs : List Content) (d : Drafted)
    → drop (length d.updates) (drafting delay cs d).updates ≡ updates_of delay cs
new_updates delay cs d = ap (drop (length d.updates)) (updates_drafted delay cs d)
    ∙ behind_all d.updates (updates_of delay cs)

marks_of : (moment delay n : ℕ) (cs : List Content) (db : Database)
    → marks moment db (sends_at n cs)
    ≡ mark_each moment db (map key_of_update (updates_of delay cs))
marks_of moment delay n [] db = refl
marks_of moment delay n (SendsHello h ∷ cs) db = marks_of moment delay n cs db
marks_of moment delay n (Describes e ∷ cs) db = marks_of moment delay n cs db
marks_of moment delay n (Requests ks ∷ cs) db = marks_of moment delay n cs db
marks_of moment delay n (Updates lsa ∷ cs) db =
    marks_of moment delay n cs (mark_sent moment (lsa_key lsa) db)
marks_of moment delay n (Acknowledges h ∷ cs) db = marks_of moment delay n cs db

-- what was added to the draft
pub marks_behind : (moment delay n : ℕ) (cs : List Content) (db : Database) (d : Drafted)
    → mark_each moment db (map key_of_update
    (drop (length d.updates) (drafting delay cs d).updates)) ≡ marks moment db (sends_at n cs)
marks_behind moment delay n cs db d =
    ap (λ us. mark_each moment db (map key_of_update us)) (new_updates delay cs d)
    ∙ sym (marks_of moment delay n cs db)

-- ---- the link with a number

pub shown_link : (ls : List KeptLink) (i k : ℕ) (d : KeptLink) → i < length ls → k ≡ 1 + i
    → Some (get_or ls i d).present ≡ link_at k (map present ls)
shown_link ls i k d lt at =
    let next : suc i ≡ k = omega (arith, at) in
    shown_get ls i d lt ∙ ap (λ m. link_at m (map present ls)) next
