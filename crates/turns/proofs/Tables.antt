-- Beside candidates stand rows of a table, whatever was answered.
use Rattle.std.proofs.Common.{◌≡◌, ◌⊎◌, ◌<◌, ◌≤◌, ◌+◌, ℕ, zero, suc, inl, inr, List, [], ◌∷◌, ◌++◌}
use Rattle.std.proofs.Common.{length, get_or, arith, refl, sym, subst, ◌∙◌}
use Rattle.std.specs.List.{Contains}
use Rattle.std.specs.declared.cmp.Ordering.TheVariants.{Equal, Greater, Less}
use Rattle.std.proofs.lemmas.Cmp.{tied_itself}
use Rattle.words.specs.declared.route.Route.{Route}
use Rattle.words.specs.declared.route.RouteKind.TheVariants.{Intra}
use Rattle.words.specs.declared.route.TableRow.{TableRow}
use Rattle.routes.proofs.Listed.{other_default}
use Rattle.routes.proofs.Lists.{first_is, later_is, of_cons, of_empty}
use Rattle.routes.specs.Tables.{RouteWords}
use Rattle.routes.proofs.LetIn.{AreLetInOf, are_table, left_out, let_in_more, none_yet, whole}
use Rattle.routes.proofs.Ordered.{answers_exact, answers_total}
use Rattle.routes.specs.Orders.{answer_cmp}
use Rattle.routes.specs.Parts.{AreLetIn}
use Rattle.routes.specs.Rows.{rows_of}
use Rattle.area_routes.specs.Offers.{root_by}
use Rattle.routes.specs.Contents.{contents_at}
use Rattle.event_rules.specs.Routers.{Router}
use Rattle.flood.specs.Offers.{AreCandidatesNow, IsOffered}

same_or_not : (a b : Route × ℕ) → (a ≡ b) ⊎ (a ≡ b → ⊥)
same_or_not a b =
    let tied : a ≡ b → answer_cmp a b ≡ Equal =
    λ same. subst (λ x. answer_cmp a x ≡ Equal) same (tied_itself answers_total a) in
    elim (answer_cmp a b) as (λ r. answer_cmp a b ≡ r → (a ≡ b) ⊎ (a ≡ b → ⊥)) [
      | Less ↦ λ is. inr (λ same. absurd (let no : Less ≡ Equal = sym is ∙ tied same in cc))
      | Equal ↦ λ is. inl (answers_exact a b is)
      | Greater ↦ λ is. inr (λ same. absurd (let no : Greater ≡ Equal = sym is ∙ tied same in cc))
    ] refl

among_or_not : (answers : RouteWords) (a : Route × ℕ) → Contains answers a
    ⊎ (Contains answers a → ⊥)
among_or_not [] a = inr (of_empty a)
among_or_not (first ∷ rest) a =
    elim (same_or_not first a) [
      | inl is ↦ inl (subst (Contains (first ∷ rest)) is (first_is first rest))
      | inr other ↦
          elim (among_or_not rest a) [
            | inl later ↦ inl (later_is first rest a later)
            | inr none ↦
                inr (λ t.
                elim (of_cons first rest a t) [
                  | inl is ↦ other is
                  | inr later ↦ none later
                ])
          ]
    ]

-- any route
abbrev some_route : Route
some_route = record {
  prefix = record { address = 0; length = 0 };
  kind = Intra;
  cost = 0;
  distance = 0;
  hops = 0;
  tag = 0;
}

-- those of the first `n` routes that are let in
first_let_in : (answers : RouteWords) (routes : List Route) (n : ℕ) → n ≤ length routes
    → (part : List Route) × AreLetInOf answers routes n part
first_let_in answers routes zero low = ([], none_yet answers routes)
first_let_in answers routes (suc n) low =
    let before = first_let_in answers routes n (omega (arith, low)) in
    let within : n < length routes = omega (arith, low) in
    let route : Route = get_or routes n some_route in
    let here : route ≡ get_or routes n route = other_default routes n some_route route within in
    let next : n + 1 ≡ suc n = omega arith in
    let P : List Route → ℕ → Type 0 = λ part k. AreLetInOf answers routes k part in
    elim (among_or_not answers (route, 0)) [
      | inl ok ↦ (
        before.0 ++ route ∷ [],
        subst (P (before.0 ++ route ∷ [])) next
            (let_in_more answers routes n route within here before.0 ok before.1),
      )
      | inr not ↦ (
        before.0,
        subst (P before.0) next
            (left_out answers routes n route within here before.0 not before.1),
      )
    ]

all_let_in : (answers : RouteWords) (routes : List Route)
    → (part : List Route) × AreLetIn answers routes part
all_let_in answers routes =
    let all = first_let_in answers routes (length routes) (omega arith) in
    (all.0, whole answers routes (length routes) all.0 refl all.1)

pub rows_beside : (r : Router) (candidates : List Route) → AreCandidatesNow r candidates
    → (rows : List TableRow) × IsOffered r candidates rows
rows_beside r candidates are =
    let table = all_let_in r.answers candidates in
    let contents = contents_at r.moment r.area.database in
    let root = root_by r.id r.area.links in (
      rows_of table.0,
      record {
        are_candidates = are;
        table = table.0;
        is_table = are_table r.answers candidates table.0 table.1 contents root are;
        are_rows = refl;
      },
    )
