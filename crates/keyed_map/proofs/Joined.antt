-- The items of pages, in order.
use Rattle.std.proofs.Common.{◌≡◌, ℕ, suc, inl, inr, ◌+◌, ◌-◌, ◌<◌, ◌≤◌, List, [], ◌∷◌, ◌++◌}
use Rattle.std.proofs.Common.{length, length-append, length-drop, length-take, get_or, set, take}
use Rattle.std.proofs.Common.{drop, refl, sym, ap, ◌∙◌, append_assoc, arith}
use Rattle.std.specs.List.{insert, remove}
use Rattle.std.proofs.lemmas.Grind.{flat_map-append}
use Rattle.std.proofs.lemmas.List.{append-nil, drop-append-le, get_or-drop, get_or_append_left}
use Rattle.std.proofs.lemmas.List.{set-append_left, set-append_right, take-append-drop, take_more}
use Rattle.std.proofs.lemmas.Option.{slice_get-get_or, slice_get_cases}
use Rattle.std.proofs.lemmas.List.Concat.{flat_map-cons}
use Rattle.std.proofs.lemmas.List.Edits.{insert-append_left, insert-append_right}
use Rattle.std.proofs.lemmas.List.Edits.{remove-append_left, remove-append_right}
use Rattle.std.proofs.Math.Seq.{drop-append-add, drop-cons, get_or-append_seam, set-append_seam}
use Rattle.std.proofs.Math.Seq.{take-add}
use Rattle.std.specs.Prelude.{Some}
use Rattle.keyed_map.specs.Places.{IsPartFrom, IsPlace, IsThere, joined}

module _ {X : Type 0} where
  -- an item that is alone in its page
  gone : (page behind : List X) (within : ℕ) → within < length page → length page ≡ 1
      → remove (page ++ behind) within ≡ behind
  gone [] behind within has one = absurd (omega (arith, has))
  gone (x ∷ []) behind within has one =
      let first : within ≡ 0 = omega (arith, has) in
      ap (λ n. remove ((x ∷ []) ++ behind) n) first
  gone (x ∷ y ∷ rest) behind within has one = absurd (omega (arith, one))

  -- ---- page by page

  pub joined_append : (before behind : List (List X))
      → joined (before ++ behind) ≡ joined before ++ joined behind
  joined_append before behind = flat_map-append (λ page. page) before behind

  pub joined_one : (page : List X) → joined (page ∷ []) ≡ page
  joined_one page = flat_map-cons (λ p. p) page [] ∙ append-nil page

  pub joined_push : (pages : List (List X)) (page : List X)
      → joined (pages ++ page ∷ []) ≡ joined pages ++ page
  joined_push pages page = joined_append pages (page ∷ [])
      ∙ ap (λ t. joined pages ++ t) (joined_one page)

  pub joined_more : (pages : List (List X)) (i : ℕ) (d : List X) → i < length pages
      → joined (take (i + 1) pages) ≡ joined (take i pages) ++ get_or pages i d
  joined_more pages i d inside = ap (λ t. joined t) (take_more pages i d inside)
      ∙ joined_push (take i pages) (get_or pages i d)

  pub around : (before : List (List X)) (page : List X) (behind : List (List X))
      → joined (before ++ page ∷ behind) ≡ joined before ++ (page ++ joined behind)
  around before page behind = joined_append before (page ∷ behind)
      ∙ ap (λ t. joined before ++ t) (flat_map-cons (λ p. p) page behind)

  pub around_two : (before : List (List X)) (first second : List X) (behind : List (List X))
      → joined (before ++ first ∷ second ∷ behind) ≡ joined before
      ++ ((first ++ second) ++ joined behind)
  around_two before first second behind =
      around before first (second ∷ behind)
      ∙ ap (λ t. joined before ++ (first ++ t)) (flat_map-cons (λ p. p) second behind)
      ∙ ap (λ t. joined before ++ t) (sym (append_assoc first second (joined behind)))

  -- ---- a place

  pub split_at : (pages : List (List X)) (i : ℕ) (d : List X) → i < length pages
      → pages ≡ take i pages ++ get_or pages i d ∷ drop (suc i) pages
  split_at pages i d inside = sym (take-append-drop i pages)
      ∙ ap (λ t. take i pages ++ t) (drop-cons pages i d inside)

  pub is_there : (pages : List (List X)) (at i left : ℕ) (page : List X) → i < length pages
      → page ≡ get_or pages i page → at ≡ length (joined (take i pages)) + left → left < length page
      → IsThere pages at i left
  is_there pages at i left page inside is counts within = record {
    place = record {
      before = take i pages;
      page = page;
      behind = drop (suc i) pages;
      are = split_at pages i page inside
          ∙ ap (λ p. take i pages ++ p ∷ drop (suc i) pages) (sym is);
      is_index =
          let n = length-take i pages in
          omega (arith, inside, n);
      inside = omega (arith, within);
      counts = counts;
    };
    has = within;
  }

  -- the first place
  pub first_place : (pages : List (List X)) → 0 < length pages → IsPlace pages 0 0 0
  first_place [] some = absurd (omega (arith, some))
  first_place (page ∷ behind) some = record {
    before = [];
    page = page;
    behind = behind;
    are = refl;
    is_index = refl;
    inside = omega arith;
    counts = refl;
  }

  -- the place behind an item
  pub next_place : (pages : List (List X)) (at index within : ℕ) → IsThere pages at index within
      → IsPlace pages (at + 1) index (within + 1)
  next_place pages at index within there = record {
    before = there.place.before;
    page = there.place.page;
    behind = there.place.behind;
    are = there.place.are;
    is_index = there.place.is_index;
    inside = omega (arith, there.has);
    counts = omega (arith, there.place.counts);
  }

  module _ (pages : List (List X)) (at index within : ℕ) (place : IsPlace pages at index within)
    where
      pub its_whole : joined pages ≡ joined place.before ++ (place.page ++ joined place.behind)
      its_whole = ap (λ t. joined t) place.are ∙ around place.before place.page place.behind

      pub its_index : index < length pages
      its_index =
          let n = ap length place.are ∙ length-append place.before (place.page ∷ place.behind) in
          omega (arith, n, place.is_index)

      -- its page
      pub its_page : (d : List X) → get_or pages index d ≡ place.page
      its_page d =
          ap (λ t. get_or t index d) place.are
          ∙ ap (λ n. get_or (place.before ++ place.page ∷ place.behind) n d) place.is_index
          ∙ get_or-append_seam place.before place.page place.behind d

      pub its_part : drop at (joined pages) ≡ drop within place.page ++ joined place.behind
      its_part =
          ap (λ t. drop at t) its_whole ∙ ap
          (λ n. drop n (joined place.before ++ (place.page ++ joined place.behind))) place.counts
          ∙ drop-append-add (joined place.before) (place.page ++ joined place.behind) within
          ∙ drop-append-le within place.page (joined place.behind) place.inside

      pub its_length : length (joined pages)
          ≡ at + (length place.page - within) + length (joined place.behind)
      its_length =
          let n = ap length its_whole ∙ length-append (joined place.before)
          (place.page ++ joined place.behind) in
          let m = length-append place.page (joined place.behind) in
          omega (arith, n, m, place.counts, place.inside)

      -- another page in its place
      pub its_other : (other : List X) → joined (set pages index other) ≡ joined place.before
          ++ (other ++ joined place.behind)
      its_other other =
          ap (λ t. joined (set t index other)) place.are
          ∙ ap (λ n. joined (set (place.before ++ place.page ∷ place.behind) n other))
          place.is_index
          ∙ ap (λ t. joined t) (set-append_seam place.before place.page place.behind other)
          ∙ around place.before other place.behind

      here : at - (length (joined place.before)) ≡ within
      here = omega (arith, place.counts)

      low : (length (joined place.before)) ≤ at
      low = omega (arith, place.counts)

      pub set_there : within < length place.page → (x : X)
          → joined (set pages index (set place.page within x)) ≡ set (joined pages) at x
      set_there has x =
          its_other (set place.page within x)
          ∙ ap (λ t. joined place.before ++ t)
          (sym (set-append_left place.page (joined place.behind) within x has))
          ∙ ap (λ n. joined place.before ++ set (place.page ++ joined place.behind) n x) (sym here)
          ∙ sym (set-append_right (joined place.before) (place.page ++ joined place.behind)
          (length (joined place.before)) at x refl low)
          ∙ ap (λ t. set t at x) (sym its_whole)

      in_two : remove (joined pages) at ≡ joined place.before
          ++ remove (place.page ++ joined place.behind) within
      in_two =
          ap (λ t. remove t at) its_whole
          ∙ remove-append_right (joined place.before) (place.page ++ joined place.behind)
          (length (joined place.before)) at refl low
          ∙ ap (λ n. joined place.before ++ remove (place.page ++ joined place.behind) n) here

      pub remove_there : within < length place.page
          → joined (set pages index (remove place.page within)) ≡ remove (joined pages) at
      remove_there has =
          its_other (remove place.page within)
          ∙ ap (λ t. joined place.before ++ t)
          (sym (remove-append_left place.page (joined place.behind) within has))
          ∙ sym in_two

      -- a page with one item goes with it
      pub remove_page : within < length place.page → length place.page ≡ 1
          → joined (remove pages index) ≡ remove (joined pages) at
      remove_page has one =
          let seam = remove-append_right place.before (place.page ∷ place.behind)
          (length place.before) index refl (omega (arith, place.is_index)) in
          let first = ap (λ n. place.before ++ remove (place.page ∷ place.behind) n)
          (let e : index - length place.before ≡ 0 = omega (arith, place.is_index) in e) in
          ap (λ t. joined (remove t index)) place.are ∙ ap (λ t. joined t) (seam ∙ first)
          ∙ joined_append place.before place.behind
          ∙ ap (λ t. joined place.before ++ t)
          (sym (gone place.page (joined place.behind) within has one)) ∙ sym in_two

      pub insert_there : (x : X) → joined (set pages index (insert place.page within x))
          ≡ insert (joined pages) at x
      insert_there x =
          its_other (insert place.page within x)
          ∙ ap (λ t. joined place.before ++ t)
          (sym (insert-append_left place.page (joined place.behind) within x place.inside))
          ∙ ap (λ n. joined place.before ++ insert (place.page ++ joined place.behind) n x)
          (sym here)
          ∙ sym (insert-append_right (joined place.before) (place.page ++ joined place.behind)
          (length (joined place.before)) at x refl low)
          ∙ ap (λ t. insert t at x) (sym its_whole)

  -- ---- a page that becomes two

  pub two_there : (pages : List (List X)) (index : ℕ) (first second : List X) → index < length pages
      → joined (set (insert pages (index + 1) second) index first)
      ≡ joined (set pages index (first ++ second))
  two_there pages index first second inside =
      let before = take index pages in
      let behind = drop (suc index) pages in
      let n : length before ≡ index =
      let m = length-take index pages in
      omega (arith, m, inside) in
      let next : index + 1 ≡ suc index = omega arith in
      let page = get_or pages index first in
      let are : pages ≡ before ++ page ∷ behind = split_at pages index first inside in
      let inserted : insert pages (index + 1) second ≡ before ++ page ∷ second ∷ behind =
      ap (λ t. t ++ second ∷ drop (index + 1) pages) (take_more pages index first inside)
      ∙ ap (λ k. (before ++ page ∷ []) ++ second ∷ drop k pages) next
      ∙ append_assoc before (page ∷ []) (second ∷ behind) in
      ap (λ t. joined (set t index first)) inserted
      ∙ ap (λ k. joined (set (before ++ page ∷ second ∷ behind) k first)) (sym n)
      ∙ ap (λ t. joined t) (set-append_seam before page (second ∷ behind) first)
      ∙ around_two before first second behind
      ∙ sym (around before (first ++ second) behind)
      ∙ ap (λ t. joined t) (sym (set-append_seam before page behind (first ++ second)))
      ∙ ap (λ k. joined (set (before ++ page ∷ behind) k (first ++ second))) n
      ∙ ap (λ t. joined (set t index (first ++ second))) (sym are)

  -- ---- parts

  pub is_part : (items : List X) (at : ℕ) (part behind : List X) → drop at items ≡ part ++ behind
      → 0 < length part → IsPartFrom items at part
  is_part items at part behind are some =
      let sizes = ap length are ∙ length-append part behind in
      let left = length-drop at items in record {
        each = λ k low.
            let bound : at + k < length items = omega (arith, sizes, left, low) in
            elim (slice_get_cases part k).1 [
              | inl (x, inside, is, read) ↦
                  let there = sym (get_or-drop at items k x) ∙ ap (λ t. get_or t k x) are
                  ∙ get_or_append_left part behind x k low ∙ read in
                  is ∙ sym (slice_get-get_or items (at + k) x bound ∙ ap (λ (y : X). Some y) there)
              | inr (past, none) ↦ absurd (omega (arith, past, low))
            ];
        within = λ inside. omega (arith, sizes, left, inside, some);
        some = λ _. some;
      }

  pub no_part : (items : List X) (at : ℕ) → length items ≤ at → IsPartFrom items at []
  no_part items at past = record {
    each = λ k low. absurd (omega (arith, low));
    within = λ inside. omega (arith, inside);
    some = λ inside. absurd (omega (arith, inside, past));
  }

  -- items that are put behind pages, as a page of their own
  pub joined_next : (pages : List (List X)) (page items : List X) (done count : ℕ)
      → joined pages ≡ take done items → page ≡ take count (drop done items)
      → joined (pages ++ page ∷ []) ≡ take (done + count) items
  joined_next pages page items done count made is =
      joined_push pages page ∙ (λ i. made i ++ is i) ∙ sym (take-add done count items)

  module _ (pages : List (List X)) (at index within : ℕ) (there : IsThere pages at index within)
      (page : List X) (is : page ≡ get_or pages index page) where
    its : page ≡ there.place.page
    its = is ∙ its_page pages at index within there.place page

    size : length page ≡ length there.place.page
    size = ap length its

    pub within_page : within < length page
    within_page =
        let has = there.has in
        omega (arith, has, size)

    pub replaced : (x : X) → joined (set pages index (set page within x)) ≡ set (joined pages) at x
    replaced x = ap (λ p. joined (set pages index (set p within x))) its
        ∙ set_there pages at index within there.place there.has x

    pub removed : joined (set pages index (remove page within)) ≡ remove (joined pages) at
    removed = ap (λ p. joined (set pages index (remove p within))) its
        ∙ remove_there pages at index within there.place there.has

    pub removed_page : length page ≡ 1 → joined (remove pages index) ≡ remove (joined pages) at
    removed_page one = remove_page pages at index within there.place there.has (sym size ∙ one)

    pub part_there : IsPartFrom (joined pages) at (drop within page)
    part_there =
        let left = length-drop within page in
        let bound = within_page in
        is_part (joined pages) at (drop within page) (joined there.place.behind)
        (its_part pages at index within there.place
        ∙ ap (λ p. drop within p ++ joined there.place.behind) (sym its))
        (omega (arith, left, bound))

  pub inserted : (pages : List (List X)) (at index within : ℕ)
      (place : IsPlace pages at index within) (page : List X) → page ≡ get_or pages index page
      → (x : X) → joined (set pages index (insert page within x)) ≡ insert (joined pages) at x
  inserted pages at index within place page is x =
      ap (λ p. joined (set pages index (insert p within x)))
      (is ∙ its_page pages at index within place page)
      ∙ insert_there pages at index within place x
