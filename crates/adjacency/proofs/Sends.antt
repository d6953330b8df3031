-- Contents that are drafted in turn.
use Rattle.std.proofs.Common.{◌≡◌, ℕ, ◌+◌, ◌<◌, List, [], ◌∷◌, ◌++◌, map, length, take, get_or, sym}
use Rattle.std.proofs.Common.{ap, ◌∙◌}
use Rattle.std.proofs.lemmas.List.{map-append, take_more}
use Rattle.std.proofs.lemmas.List.Elements.{filter_map-append}
use Rattle.std.proofs.lemmas.List.Sums.{fold-append}
use Rattle.words.specs.declared.key.Key.{Key}
use Rattle.lsdb.specs.Copies.{Database}
use Rattle.std.specs.FinMap as finite
use Rattle.adjacency.specs.Contents.{Content, Updates}
use Rattle.adjacency.specs.Drafts.{Drafted, adds, drafting}
use Rattle.adjacency.specs.Retransmissions.{lsa_of}
use Rattle.adjacency.specs.Steps.{lsas_of}

pub drafting-append : (delay : ℕ) (xs ys : List Content) (d : Drafted)
    → drafting delay ys (drafting delay xs d) ≡ drafting delay (xs ++ ys) d
unfolding drafting
drafting-append delay xs ys d = sym (fold-append (adds delay) d xs ys)

-- the copy of one more key
pub sent_more : (delay moment : ℕ) (db : Database) (keys : List Key) (i : ℕ) (k : Key) (d : Drafted)
    → i < length keys → drafting delay (map Updates (lsas_of moment db (get_or keys i k ∷ [])))
    (drafting delay (map Updates (lsas_of moment db (take i keys))) d)
    ≡ drafting delay (map Updates (lsas_of moment db (take (i + 1) keys))) d
sent_more delay moment db keys i k d lt =
    drafting-append delay (map Updates (lsas_of moment db (take i keys)))
    (map Updates (lsas_of moment db (get_or keys i k ∷ []))) d
    ∙ ap (λ cs. drafting delay cs d)
    (sym (map-append Updates (lsas_of moment db (take i keys))
    (lsas_of moment db (get_or keys i k ∷ [])))
    ∙ ap (map Updates) (sym (filter_map-append (λ (key : Key). lsa_of moment (finite.get db key))
    (take i keys) (get_or keys i k ∷ []))
    ∙ ap (lsas_of moment db) (sym (take_more keys i k lt))))
