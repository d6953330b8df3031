-- The bodies of the copies of all keys, from a scan of the database.
use Rattle.std.proofs.Common.{◌≡◌, ℕ, ◌≤◌, inl, inr, Bool, true, false, cond, T, List, [], ◌∷◌}
use Rattle.std.proofs.Common.{◌++◌, append_assoc, Some, None, length, get_or, refl, sym, ◌∙◌, ap}
use Rattle.std.proofs.Common.{subst, arith}
use Rattle.std.specs.Prelude.{Option, if◌then◌else◌}
use Rattle.std.proofs.lemmas.Bool.{cases_lt}
use Rattle.std.proofs.lemmas.List.{get_or_append_left, length-append}
use Rattle.std.proofs.lemmas.List.Elements.{Contains-append_cases, Contains-append_left}
use Rattle.std.proofs.lemmas.List.Elements.{Contains-get_or, Contains-push_cases}
use Rattle.std.proofs.lemmas.List.Kept.{AllPairs-cons}
use Rattle.std.proofs.lemmas.Option.{none-some, same_Some}
use Rattle.std.specs.Cmp.{nat_cmp_is}
use Rattle.std.specs.List.{AllPairs, Contains}
use Rattle.std.specs.FinMap as finite
use Rattle.std.specs.FinMap.Entries.{is_sorted}
use Rattle.std.specs.Ordering.{nat_cmp, ordering_then}
use Rattle.std.specs.declared.cmp.Ordering.TheVariants.{Greater, Less}
use Rattle.words.specs.declared.key.Key.{Key}
use Rattle.lsa.specs.declared.body.LsaBody.{LsaBody}
use Rattle.lsdb.specs.Bodies.{AreBodies}
use Rattle.lsdb.specs.Changes.{IsUpTo}
use Rattle.lsdb.specs.Copies.{Database, DatabaseCopy, is_aged_out, contents_of}
use Rattle.lsdb.specs.Keys.{key_cmp}
use Rattle.lsdb.proofs.Entries.{below, entry_found, first_is, found_in, later_is, of_cons}
use Rattle.lsdb.proofs.Entries.{of_empty}
use Rattle.lsdb.proofs.Keys.{first, second}

module _ {X : Type 0} where
  front_pairs : (R : X → X → Type 0) (xs ys : List X) → AllPairs R (xs ++ ys) → AllPairs R xs
  front_pairs R xs ys all i j d lt within =
      let long = length-append xs ys in
      let here : R (get_or (xs ++ ys) i d) (get_or (xs ++ ys) j d) =
      all i j d lt (omega (arith, within, long)) in
      subst (λ b. R (get_or xs i d) b) (get_or_append_left xs ys d j within)
      (subst (λ a. R a (get_or (xs ++ ys) j d))
      (get_or_append_left xs ys d i (omega (arith, lt, within))) here)

types_ascend : (a b : Key) → key_cmp a b ≡ Less → a.ls_type ≤ b.ls_type
types_ascend a b before =
    elim (cases_lt b.ls_type a.ls_type) [
      | inl more ↦
          let greater : Greater ≡ nat_cmp a.ls_type b.ls_type =
          nat_cmp_is a.ls_type b.ls_type Greater more in
          let rest = ordering_then (nat_cmp a.link_state_id b.link_state_id)
          (nat_cmp a.advertising_router b.advertising_router) in
          let no : Greater ≡ Less = ap (λ r. ordering_then r rest) greater ∙ before in
          absurd (cc)
      | inr up ↦ omega (arith, up)
    ]

-- ---- the bodies of copies

-- the bodies of the copies that haven't reached MaxAge
abbrev pub tells : ℕ → List (Key × DatabaseCopy) → List (Key × LsaBody)
tells moment [] = []
tells moment (e ∷ es) = cond (is_aged_out moment e.1) (tells moment es)
    ((e.0, e.1.lsa.body) ∷ tells moment es)

module _ (moment : ℕ) where
  abbrev aged : DatabaseCopy → Bool
  aged c = is_aged_out moment c

  abbrev told : List (Key × DatabaseCopy) → List (Key × LsaBody)
  told es = tells moment es

  -- a copy with that body
  record IsToldBy (es : List (Key × DatabaseCopy)) (x : Key × LsaBody) : Type 0 where
    copy : DatabaseCopy
    among : Contains es (x.0, copy)
    young : aged copy ≡ false
    says : copy.lsa.body ≡ x.1

  told_from : (es : List (Key × DatabaseCopy)) (x : Key × LsaBody) → Contains (told es) x
      → IsToldBy es x
  told_from [] x t = absurd (of_empty x t)
  told_from (e ∷ es) x t =
      let later : IsToldBy es x → IsToldBy (e ∷ es) x = λ by. record {
        copy = by.copy;
        among = later_is e es (x.0, by.copy) by.among;
        young = by.young;
        says = by.says;
      } in
      elim (aged e.1) as (λ b. aged e.1 ≡ b
      → Contains (cond b (told es) ((e.0, e.1.lsa.body) ∷ told es)) x → IsToldBy (e ∷ es) x) [
        | true ↦ λ old u. later (told_from es x u)
        | false ↦ λ young u.
            elim (of_cons (e.0, e.1.lsa.body) (told es) x u) [
              | inl here ↦
                  let same : e.0 ≡ x.0 = ap (λ (y : Key × LsaBody). y.0) here in
                  record {
                    copy = e.1;
                    among = subst (λ k. Contains (e ∷ es) (k, e.1)) same (first_is e es);
                    young = young;
                    says = ap (λ (y : Key × LsaBody). y.1) here;
                  }
              | inr v ↦ later (told_from es x v)
            ]
      ] refl t

  told_all : (es : List (Key × DatabaseCopy)) (key : Key) (c : DatabaseCopy) → Contains es (key, c)
      → aged c ≡ false → Contains (told es) (key, c.lsa.body)
  told_all [] key c t young = absurd (of_empty (key, c) t)
  told_all (e ∷ es) key c t young =
      let P : Bool → Type 0 = λ b. Contains (cond b (told es) ((e.0, e.1.lsa.body) ∷ told es))
      (key, c.lsa.body) in
      elim (of_cons e es (key, c) t) [
        | inl here ↦
            let is : aged e.1 ≡ false = ap (λ (y : Key × DatabaseCopy). aged y.1) here ∙ young in
            subst P (sym is) (subst (λ (y : Key × LsaBody). Contains ((e.0, e.1.lsa.body) ∷ told es)
            y)
            (ap (λ (y : Key × DatabaseCopy). (y.0, y.1.lsa.body)) here)
            (first_is (e.0, e.1.lsa.body) (told es)))
        | inr later ↦
            let rest = told_all es key c later young in
            elim (aged e.1) as P [
              | true ↦ rest
              | false ↦ later_is (e.0, e.1.lsa.body) (told es) (key, c.lsa.body) rest
            ]
      ]

  abbrev Before : Key × LsaBody → Key × LsaBody → Type 0
  Before a b = key_cmp a.0 b.0 ≡ Less

  told_ascend : (es : List (Key × DatabaseCopy)) → T (is_sorted key_cmp es)
      → AllPairs Before (told es)
  told_ascend [] sorted = λ i j d lt within. absurd (omega (arith, within))
  told_ascend (e ∷ es) sorted =
      let rest = told_ascend es (second _ _ sorted) in
      elim (aged e.1) as (λ b. AllPairs Before (cond b (told es) ((e.0, e.1.lsa.body) ∷ told es))) [
        | true ↦ rest
        | false ↦
            AllPairs-cons Before (e.0, e.1.lsa.body) (told es)
            (λ k d within.
            let by = told_from es (get_or (told es) k d) (Contains-get_or (told es) k d within) in
            below e.0 es ((get_or (told es) k d).0, by.copy) (first _ _ sorted) by.among)
            rest
      ]

  told_few : (es : List (Key × DatabaseCopy)) → length (told es) ≤ length es
  told_few [] = omega arith
  told_few (e ∷ es) =
      let rest = told_few es in
      elim (aged e.1) as (λ b. length (cond b (told es) ((e.0, e.1.lsa.body) ∷ told es))
      ≤ length (e ∷ es)) [
        | true ↦ omega (arith, rest)
        | false ↦ omega (arith, rest)
      ]

  -- ---- the bodies of the database

  abbrev spoken : DatabaseCopy → Bool → Option LsaBody
  spoken c b = if b then None else Some c.lsa.body

  young_says : (c : DatabaseCopy) → aged c ≡ false → contents_of moment (Some c) ≡ Some c.lsa.body
  young_says c is = ap (spoken c) is

  old_says : (c : DatabaseCopy) → aged c ≡ true → contents_of moment (Some c) ≡ None
  old_says c is = ap (spoken c) is

  module _ (d : Database) where
    abbrev said : Key → Option LsaBody
    said key = contents_of moment (finite.get d key)

    all_said : (x : Key × LsaBody) → Contains (told (finite.entries d)) x → said x.0 ≡ Some x.1
    all_said x t =
        let by = told_from (finite.entries d) x t in
        ap (contents_of moment) (entry_found d (x.0, by.copy) by.among) ∙ young_says by.copy
        by.young
        ∙ ap (λ (b : LsaBody). Some b) by.says

    all_told : (key : Key) (says : LsaBody) → said key ≡ Some says
        → Contains (told (finite.entries d)) (key, says)
    all_told key says is =
        elim (finite.get d key) as (λ o. finite.get d key ≡ o
        → Contains (told (finite.entries d)) (key, says)) [
          | None ↦ λ none. absurd (none-some says (sym (ap (contents_of moment) none) ∙ is))
          | Some c ↦ λ some.
              elim (aged c) as (λ b. aged c ≡ b → Contains (told (finite.entries d)) (key, says)) [
                | true ↦ λ old. absurd (none-some says
                    (sym (ap (contents_of moment) some ∙ old_says c old) ∙ is))
                | false ↦ λ young.
                    let same : c.lsa.body ≡ says =
                    same_Some c.lsa.body says (sym
                    (ap (contents_of moment) some ∙ young_says c young) ∙ is) in
                    let among = found_in (finite.entries d) key c
                    (sym (finite.get-entries d key) ∙ some) in
                    subst (λ (b : LsaBody). Contains (told (finite.entries d)) (key, b)) same
                    (told_all (finite.entries d) key c among young)
              ] refl
        ] refl

    -- a scan that ended before the first copy that doesn't count
    pub are_bodies : (last : Option ℕ) (done : List (Key × LsaBody))
        (rest : List (Key × DatabaseCopy)) → done ++ told rest ≡ told (finite.entries d)
        → ((x : Key × LsaBody) → Contains done x → IsUpTo last x.0)
        → ((x : Key × DatabaseCopy) → Contains rest x → IsUpTo last x.0 → ⊥)
        → AreBodies last said done
    are_bodies last done rest whole count beyond = record {
      each = λ key says. (
        (λ t. (
          count (key, says) t,
          all_said (key, says)
              (subst (λ xs. Contains xs (key, says)) whole
              (Contains-append_left done (told rest) (key, says) t)),
        )),
        (λ k.
            elim (Contains-append_cases done (told rest) (key, says)
            (subst (λ xs. Contains xs (key, says)) (sym whole) (all_told key says k.1))) [
              | inl t ↦ t
              | inr t ↦ let by = told_from rest (key, says) t in
                  absurd (beyond (key, by.copy) by.among k.0)
            ]),
      );
      ascend = front_pairs Before done (told rest)
          (subst (AllPairs Before) (sym whole)
          (told_ascend (finite.entries d) (finite.entries_sorted d)));
    }

-- ---- the end of a scan

none_left : (last : Option ℕ) (x : Key × DatabaseCopy) → Contains [] x → IsUpTo last x.0 → ⊥
none_left last x t = absurd (of_empty x t)

type_beyond : (last : Option ℕ) (a b : Key) → key_cmp a b ≡ Less → (IsUpTo last a → ⊥)
    → IsUpTo last b → ⊥
type_beyond None a b before not up = not tt
type_beyond (Some n) a b before not up = not (omega (arith, types_ascend a b before, up))

none_beyond : (last : Option ℕ) (e : Key × DatabaseCopy) (es : List (Key × DatabaseCopy))
    → T (is_sorted key_cmp (e ∷ es)) → (IsUpTo last e.0 → ⊥) → (x : Key × DatabaseCopy)
    → Contains (e ∷ es) x → IsUpTo last x.0 → ⊥
none_beyond last e es sorted not x among up =
    elim (of_cons e es x among) [
      | inl here ↦ not (subst (λ (y : Key × DatabaseCopy). IsUpTo last y.0) (sym here) up)
      | inr later ↦ type_beyond last e.0 x.0 (below e.0 es x (first _ _ sorted) later) not up
    ]

-- ---- the scan

-- the bodies so far and those of the copies still to be visited are all bodies
pub record IsWalk (last : Option ℕ) (moment : ℕ) (all ahead : List (Key × DatabaseCopy))
    (done : List (Key × LsaBody)) : Type 0 where
  pub whole : done ++ tells moment ahead ≡ tells moment all
  pub sorted : T (is_sorted key_cmp ahead)
  pub count : (x : Key × LsaBody) → Contains done x → IsUpTo last x.0

module _ (last : Option ℕ) (moment : ℕ) (d : Database) where
  abbrev Walk : List (Key × DatabaseCopy) → List (Key × LsaBody) → Type 0
  Walk ahead done = IsWalk last moment (finite.entries d) ahead done

  pub begins : (ahead : List (Key × DatabaseCopy)) (done : List (Key × LsaBody))
      → ahead ≡ finite.entries d → done ≡ [] → Walk ahead done
  begins ahead done all none = record {
    whole = λ i. none i ++ tells moment (all i);
    sorted = subst (λ es. T (is_sorted key_cmp es)) (sym all) (finite.entries_sorted d);
    count = λ x t. absurd (of_empty x (subst (λ xs. Contains xs x) none t));
  }

  module _ (ahead rest : List (Key × DatabaseCopy)) (done : List (Key × LsaBody)) (key : Key)
      (c : DatabaseCopy) (next : ahead ≡ (key, c) ∷ rest) (walk : Walk ahead done) where
    abbrev tells_next : Bool → List (Key × LsaBody)
    tells_next b = cond b (tells moment rest) ((key, c.lsa.body) ∷ tells moment rest)

    now_tells : (b : Bool) → is_aged_out moment c ≡ b
        → done ++ tells_next b ≡ tells moment (finite.entries d)
    now_tells b is = ap (λ t. done ++ tells_next t) (sym is)
        ∙ ap (λ es. done ++ tells moment es) (sym next) ∙ walk.whole

    still_sorted : T (is_sorted key_cmp rest)
    still_sorted = second _ _ (subst (λ es. T (is_sorted key_cmp es)) next walk.sorted)

    pub passes : is_aged_out moment c ≡ true → Walk rest done
    passes old = record { whole = now_tells true old; sorted = still_sorted; count = walk.count }

    pub tells_one : IsUpTo last key → is_aged_out moment c ≡ false
        → Walk rest (done ++ (key, c.lsa.body) ∷ [])
    tells_one up young = record {
      whole = append_assoc done ((key, c.lsa.body) ∷ []) (tells moment rest)
          ∙ now_tells false young;
      sorted = still_sorted;
      count = λ x t.
          elim (Contains-push_cases done (key, c.lsa.body) x t) [
            | inl old ↦ walk.count x old
            | inr same ↦ subst (λ (y : Key × LsaBody). IsUpTo last y.0) same up
          ];
    }

    pub stops : (IsUpTo last key → ⊥) → AreBodies last
        (λ q. contents_of moment (finite.get d q)) done
    stops beyond =
        are_bodies moment d last done ahead walk.whole walk.count
        (λ x among. none_beyond last (key, c) rest
        (subst (λ es. T (is_sorted key_cmp es)) next walk.sorted) beyond x
        (subst (λ es. Contains es x) next among))

  pub ends : (ahead : List (Key × DatabaseCopy)) (done : List (Key × LsaBody)) → ahead ≡ []
      → Walk ahead done → AreBodies last (λ q. contents_of moment (finite.get d q)) done
  ends ahead done none walk = are_bodies moment d last done ahead walk.whole walk.count
      (λ x among. none_left last x (subst (λ es. Contains es x) none among))

  pub few : (ahead : List (Key × DatabaseCopy)) (done : List (Key × LsaBody)) → Walk ahead done
      → length done ≤ finite.len d
  few ahead done walk =
      let all = tells moment (finite.entries d) in
      let parts : length done ≤ length all =
      omega (arith, length-append done (tells moment ahead), ap length walk.whole) in
      omega (arith, parts, told_few moment (finite.entries d), finite.len-entries d)
