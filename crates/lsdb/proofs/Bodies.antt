-- LSAs of one LS type whose bytes after their headers are the same have one body.
use Rattle.std.proofs.Common.{◌≡◌, ℕ, ◌≤◌, List, ◌++◌, length, drop, refl, sym, ap, ◌∙◌, arith}
use Rattle.std.proofs.Common.{length-append}
use Rattle.std.proofs.lemmas.List.{drop_at}
use Rattle.lsa.specs.Headers.{header_text}
use Rattle.lsa.specs.Laws.{OneLsa}
use Rattle.lsa.specs.Text.{LsaText, body_text, type_of}
use Rattle.lsdb.specs.Headers.{Lsa}

module _ (xs : List ℕ) (a : Lsa) (at : LsaText xs a) where
  -- an LSA has at least the bytes of its header
  pub long : 20 ≤ length xs
  long =
      let size : length xs ≡ length (header_text a.header ++ body_text a.body) =
      ap length at.spelled in
      let wide : length (header_text a.header) ≡ 20 = refl in
      omega (arith, size, wide, length-append (header_text a.header) (body_text a.body))

  behind : drop 20 xs ≡ body_text a.body
  behind = ap (drop 20) at.spelled ∙ drop_at (header_text a.header) (body_text a.body) 20 refl

module _ (xs ys : List ℕ) (a b : Lsa) (at : LsaText xs a) (bt : LsaText ys b) where
  -- the second bytes also encode the LSA with its header and the body of the first
  exchanged : a.header.ls_type ≡ b.header.ls_type → body_text a.body ≡ body_text b.body
      → LsaText ys (record { header = b.header; body = a.body })
  exchanged types same = record {
    is_lsa = record {
      header = bt.is_lsa.header;
      body = at.is_lsa.body;
      age = bt.is_lsa.age;
      sequence = bt.is_lsa.sequence;
      ls_type = sym types ∙ at.is_lsa.ls_type;
      size = bt.is_lsa.size ∙ ap (λ t. length (header_text b.header ++ t)) (sym same);
    };
    spelled = bt.spelled ∙ ap (λ t. header_text b.header ++ t) (sym same);
    checksum = bt.checksum;
  }

  pub one_body : OneLsa → a.header.ls_type ≡ b.header.ls_type → drop 20 xs ≡ drop 20 ys
      → a.body ≡ b.body
  one_body one types rest =
      let same : body_text a.body ≡ body_text b.body =
      sym (behind xs a at) ∙ rest ∙ behind ys b bt in
      ap (λ (l : Lsa). l.body) (one ys (record {
        header = b.header;
        body = a.body;
      }) b (exchanged types same) bt)

  pub one_type : a.body ≡ b.body → a.header.ls_type ≡ b.header.ls_type
  one_type is = at.is_lsa.ls_type ∙ ap type_of is ∙ sym bt.is_lsa.ls_type

  pub one_rest : a.body ≡ b.body → drop 20 xs ≡ drop 20 ys
  one_rest is = behind xs a at ∙ ap body_text is ∙ sym (behind ys b bt)
