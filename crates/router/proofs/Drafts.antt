-- What is sent later is drafted later, and drafts depend only on the interface of a link.
use Rattle.std.proofs.Common.{◌≡◌, ℕ, ◌+◌, List, [], ◌∷◌, ◌++◌}
use Rattle.std.proofs.Common.{refl, sym, ap, ◌∙◌}
use Rattle.std.specs.List.{filter_map}
use Rattle.adjacency.specs.Contents.{Content}
use Rattle.adjacency.specs.Drafts.{Drafted, adds, drafting}
use Rattle.adjacency.specs.declared.interface.Interface.{Interface}
use Rattle.received.specs.Links.{Link}
use Rattle.received.specs.AreaStates.{Send, at_interface}
use Rattle.area.specs.Drafted.{drafts_with, drafted_from}
use Rattle.area.proofs.Sends.{picked_append}
use Rattle.router.specs.Making.{interfaces_of}

drafting_append : (delay : ℕ) (xs ys : List Content) (d : Drafted)
    → drafting delay ys (drafting delay xs d) ≡ drafting delay (xs ++ ys) d
unfolding drafting
drafting_append delay [] ys d = refl
drafting_append delay (x ∷ xs) ys d = drafting_append delay xs ys (adds delay d x)

pub drafted_append : (n : ℕ) (xs ys : List Send) (ls : List Link) (ds : List Drafted)
    → drafted_from n ys ls (drafted_from n xs ls ds) ≡ drafted_from n (xs ++ ys) ls ds
drafted_append n xs ys [] ds = refl
drafted_append n xs ys (l ∷ ls) [] = refl
drafted_append n xs ys (l ∷ ls) (d ∷ ds) =
    let delay = l.interface.delay in
    let here = drafting_append delay (filter_map (at_interface n) xs)
    (filter_map (at_interface n) ys) d
    ∙ ap (λ cs. drafting delay cs d) (sym (picked_append n xs ys)) in
    λ i. here i ∷ drafted_append (n + 1) xs ys ls ds i

abbrev drafted_by : ℕ → List Send → List Interface → List Drafted → List Drafted
drafted_by n sends [] ds = ds
drafted_by n sends (x ∷ xs) [] = []
drafted_by n sends (x ∷ xs) (d ∷ ds) =
    drafting x.delay (filter_map (at_interface n) sends) d ∷ drafted_by (n + 1) sends xs ds

by_interfaces : (n : ℕ) (sends : List Send) (ls : List Link) (ds : List Drafted)
    → drafted_from n sends ls ds ≡ drafted_by n sends (interfaces_of ls) ds
by_interfaces n sends [] ds = refl
by_interfaces n sends (l ∷ ls) [] = refl
by_interfaces n sends (l ∷ ls) (d ∷ ds) =
    λ i. drafting l.interface.delay (filter_map (at_interface n) sends) d
    ∷ by_interfaces (n + 1) sends ls ds i

pub drafted_same : (sends : List Send) (ls ms : List Link) (ds : List Drafted)
    → interfaces_of ls ≡ interfaces_of ms → drafts_with sends ls ds ≡ drafts_with sends ms ds
drafted_same sends ls ms ds same =
    by_interfaces 1 sends ls ds ∙ ap (λ is. drafted_by 1 sends is ds) same
    ∙ sym (by_interfaces 1 sends ms ds)
