-- The copy of a key that is sent in Link State Updates is marked once, or not at all.
use Rattle.std.proofs.Common.{◌≡◌, ℕ, ◌+◌, Bool, true, false, cond, List, [], ◌∷◌, ◌++◌, refl, sym}
use Rattle.std.proofs.Common.{ap, ◌∙◌}
use Rattle.std.specs.List.{fold}
use Rattle.std.specs.Prelude.{Option, None, Some}
use Rattle.std.specs.Ordering.{eq_by_cmp, is_eq}
use Rattle.std.specs.declared.cmp.Ordering.{Ordering}
use Rattle.std.specs.Cmp.{tied_itself}
use Rattle.std.specs.FinMap as finite
use Rattle.words.specs.declared.key.Key.{Key}
use Rattle.lsdb.specs.Copies.{Database, DatabaseCopy, mark_sent}
use Rattle.lsdb.specs.Headers.{Lsa, lsa_key}
use Rattle.lsdb.specs.Keys.{key_cmp}
use Rattle.lsdb.proofs.Keys.{keys_exact, keys_total}
use Rattle.lsdb.proofs.Copies.{marks, marks_none}
use Rattle.adjacency.specs.Contents.{Content, Updates}
use Rattle.received.specs.Links.{Link}
use Rattle.received.specs.AreaStates.{Send, marked_database, sends_at}
use Rattle.adjacency.specs.Floods.{is_any}
use Rattle.area.proofs.Sends.{sends_from}

over : (b : Bool) (c : DatabaseCopy) (o : Option DatabaseCopy)
    → cond b (Some c) (cond b (Some c) o) ≡ cond b (Some c) o
over true c o = refl
over false c o = refl

-- marking a copy again changes nothing
twice_by : (moment : ℕ) (k : Key) (d : Database) (o : Option DatabaseCopy) → finite.get d k ≡ o
    → mark_sent moment k (mark_sent moment k d) ≡ mark_sent moment k d
twice_by moment k d None is =
    let once : mark_sent moment k d ≡ d = sym (marks_none moment k d is) in
    ap (mark_sent moment k) once
twice_by moment k d (Some c) is =
    let c1 : DatabaseCopy = record c { sent = Some moment } in
    let d1 : Database = finite.insert d k c1 in
    let once : mark_sent moment k d ≡ d1 = sym (marks moment k d c is) in
    let there : finite.get d1 k ≡ Some c1 =
    finite.get-insert keys_total d k c1 k
    ∙ ap (λ (r : Ordering). cond (is_eq r) (Some c1) (finite.get d k))
    (tied_itself keys_total k) in
    let again : mark_sent moment k d1 ≡ finite.insert d1 k c1 = sym (marks moment k d1 c1 there) in
    let same : finite.insert d1 k c1 ≡ d1 =
    finite.same_map keys_total keys_exact (finite.insert d1 k c1) d1 (λ q.
    finite.get-insert keys_total d1 k c1 q
    ∙ ap (cond (eq_by_cmp key_cmp q k) (Some c1)) (finite.get-insert keys_total d k c1 q)
    ∙ over (eq_by_cmp key_cmp q k) c1 (finite.get d q)
    ∙ sym (finite.get-insert keys_total d k c1 q)) in
    ap (mark_sent moment k) once ∙ again ∙ same ∙ sym once

twice : (moment : ℕ) (k : Key) (d : Database)
    → mark_sent moment k (mark_sent moment k d) ≡ mark_sent moment k d
twice moment k d = twice_by moment k d (finite.get d k) refl

module _ (S : ℕ → Link → List Content) (moment : ℕ) (lsa : Lsa)
    (one : (n : ℕ) (l : Link) → S n l ≡ cond (is_any (S n l)) (Updates lsa ∷ []) []) where
  abbrev marks_on : Database → List Send → Database
  marks_on d sends = fold (λ (db : Database) (s : Send). marked_database moment db s.content) d
      sends

  same_either : (b : Bool) (d : Database)
      → cond b (mark_sent moment (lsa_key lsa) (mark_sent moment (lsa_key lsa) d))
      (mark_sent moment (lsa_key lsa) d) ≡ mark_sent moment (lsa_key lsa) d
  same_either true d = twice moment (lsa_key lsa) d
  same_either false d = refl

  by_sent : (n : ℕ) (b : Bool) (rest : List Send) (d : Database)
      → ((e : Database) → marks_on e rest ≡ cond (is_any rest) (mark_sent moment (lsa_key lsa) e) e)
      → marks_on d (sends_at n (cond b (Updates lsa ∷ []) []) ++ rest)
      ≡ cond (is_any (sends_at n (cond b (Updates lsa ∷ []) []) ++ rest))
      (mark_sent moment (lsa_key lsa) d) d
  by_sent n true rest d so = so (mark_sent moment (lsa_key lsa) d) ∙ same_either (is_any rest) d
  by_sent n false rest d so = so d

  -- all links in turn
  pub marks_all : (n : ℕ) (links : List Link) (d : Database)
      → marks_on d (sends_from S n links)
      ≡ cond (is_any (sends_from S n links)) (mark_sent moment (lsa_key lsa) d) d
  marks_all n [] d = refl
  marks_all n (l ∷ ls) d =
      let rest = sends_from S (n + 1) ls in
      ap (λ cs. marks_on d (sends_at n cs ++ rest)) (one n l)
      ∙ by_sent n (is_any (S n l)) rest d (marks_all (n + 1) ls)
      ∙ ap (λ cs. cond (is_any (sends_at n cs ++ rest)) (mark_sent moment (lsa_key lsa) d) d)
      (sym (one n l))
