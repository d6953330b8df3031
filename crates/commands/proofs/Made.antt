-- The requests that a command makes of its words.
use Rattle.std.proofs.Common.{◌≡◌, ◌≢◌, ◌∙◌, ap, sym, refl, arith, ℕ, List, [], Option, Some, None}
use Rattle.std.proofs.Common.{codes, inl, inr, slice_index}
use Rattle.clap.specs.Walk.{Row, Text, first_of}
use Rattle.commands.specs.Requests.{HasSeats, HasWord, MadeBy, Makes, MakesNone, command_of}
use Rattle.commands.specs.Words.{IsContext, IsPacket, hook_name}
use Rattle.commands.specs.declared.requests.CommandRequest.{CommandRequest}
use Rattle.commands.specs.declared.requests.CommandRequest.TheVariants as requests
use Rattle.isa.specs.declared.hook.Hook.{Hook}
use Rattle.std.specs.Borrow.{Bor}
use Rattle.std.specs.Prelude.{Bool, Result, Err, Ok, false, replicate, true}
use Rattle.std.specs.Result.{result_ok}
use Rattle.std.specs.Str.{bytes_eq}
use Rattle.std.proofs.Common.{true≢false}
use Rattle.std.proofs.lemmas.Slice.Eq.{bytes_eq-Decides}
use Rattle.hex.specs.Hex.{decode_of, decode_sized}
use Rattle.hex.specs.declared.error.FromHexError.{FromHexError}

pub some≢none : {X : Type 0} (x : X) → Some x ≡ None → ⊥
some≢none x e = cc

pub some_is : {X : Type 0} {x y : X} → Some x ≡ Some y → x ≡ y
some_is e = cc

pub raw≢run : codes "run" ≡ codes "raw" → ⊥
raw≢run e = let bad : ◌≡◌ {A = ℕ} 117 97 = ap (λ (t : List ℕ). slice_index t 1) e in
    absurd (omega arith)

pub raw≢asm : codes "asm" ≡ codes "raw" → ⊥
raw≢asm e = let bad : ◌≡◌ {A = ℕ} 97 114 = ap (λ (t : List ℕ). slice_index t 0) e in
    absurd (omega arith)

pub raw≢list : codes "list" ≡ codes "raw" → ⊥
raw≢list e = let bad : ◌≡◌ {A = ℕ} 108 114 = ap (λ (t : List ℕ). slice_index t 0) e in
    absurd (omega arith)

pub run≢asm : codes "asm" ≡ codes "run" → ⊥
run≢asm e = let bad : ◌≡◌ {A = ℕ} 97 114 = ap (λ (t : List ℕ). slice_index t 0) e in
    absurd (omega arith)

pub run≢list : codes "list" ≡ codes "run" → ⊥
run≢list e = let bad : ◌≡◌ {A = ℕ} 108 114 = ap (λ (t : List ℕ). slice_index t 0) e in
    absurd (omega arith)

pub asm≢list : codes "list" ≡ codes "asm" → ⊥
asm≢list e = let bad : ◌≡◌ {A = ℕ} 108 97 = ap (λ (t : List ℕ). slice_index t 0) e in
    absurd (omega arith)

pub raw≢verify : codes "verify" ≡ codes "raw" → ⊥
raw≢verify e = let bad : ◌≡◌ {A = ℕ} 118 114 = ap (λ (t : List ℕ). slice_index t 0) e in
    absurd (omega arith)

pub run≢verify : codes "verify" ≡ codes "run" → ⊥
run≢verify e = let bad : ◌≡◌ {A = ℕ} 118 114 = ap (λ (t : List ℕ). slice_index t 0) e in
    absurd (omega arith)

pub asm≢verify : codes "verify" ≡ codes "asm" → ⊥
asm≢verify e = let bad : ◌≡◌ {A = ℕ} 118 97 = ap (λ (t : List ℕ). slice_index t 0) e in
    absurd (omega arith)

pub list≢verify : codes "verify" ≡ codes "list" → ⊥
list≢verify e = let bad : ◌≡◌ {A = ℕ} 118 108 = ap (λ (t : List ℕ). slice_index t 0) e in
    absurd (omega arith)

pub raw≢route : codes "route" ≡ codes "raw" → ⊥
raw≢route e = let bad : ◌≡◌ {A = ℕ} 111 97 = ap (λ (t : List ℕ). slice_index t 1) e in
    absurd (omega arith)

pub run≢route : codes "route" ≡ codes "run" → ⊥
run≢route e = let bad : ◌≡◌ {A = ℕ} 111 117 = ap (λ (t : List ℕ). slice_index t 1) e in
    absurd (omega arith)

pub asm≢route : codes "route" ≡ codes "asm" → ⊥
asm≢route e = let bad : ◌≡◌ {A = ℕ} 114 97 = ap (λ (t : List ℕ). slice_index t 0) e in
    absurd (omega arith)

pub list≢route : codes "route" ≡ codes "list" → ⊥
list≢route e = let bad : ◌≡◌ {A = ℕ} 114 108 = ap (λ (t : List ℕ). slice_index t 0) e in
    absurd (omega arith)

pub verify≢route : codes "route" ≡ codes "verify" → ⊥
verify≢route e = let bad : ◌≡◌ {A = ℕ} 114 118 = ap (λ (t : List ℕ). slice_index t 0) e in
    absurd (omega arith)

pub no_raw : (rows : List Row) → ((hook : Hook) (file : Text) (seats : ℕ)
    → HasWord rows (codes "HOOK") (hook_name hook) → HasWord rows (codes "FILE") file
    → HasSeats rows seats → ⊥) → MadeBy (codes "raw") rows None
no_raw rows none (requests.Raw hook file seats) named has =
    none hook file.now seats has.0 has.1 has.2
no_raw rows none (requests.Run object context packet) named has = absurd (raw≢run named)
no_raw rows none (requests.Asm source object) named has = absurd (raw≢asm named)
no_raw rows none (requests.List object) named has = absurd (raw≢list named)
no_raw rows none (requests.Verify object) named has = absurd (raw≢verify named)
no_raw rows none (requests.Route config) named has = absurd (raw≢route named)

pub no_run : (rows : List Row) → ((object context packet : Text) (zeros bytes : List ℕ)
    → HasWord rows (codes "OBJECT") object → HasWord rows (codes "CONTEXT") context
    → HasWord rows (codes "PACKET") packet → IsContext context zeros → IsPacket packet bytes
    → ⊥) → MadeBy (codes "run") rows None
no_run rows none (requests.Raw hook file seats) named has = absurd (raw≢run (sym named))
no_run rows none (requests.Run object context packet) named has =
    none object.now has.1.0 has.2.0 context packet.items has.0 has.1.1 has.2.1 has.1.2 has.2.2
no_run rows none (requests.Asm source object) named has = absurd (run≢asm named)
no_run rows none (requests.List object) named has = absurd (run≢list named)
no_run rows none (requests.Verify object) named has = absurd (run≢verify named)
no_run rows none (requests.Route config) named has = absurd (run≢route named)

pub no_asm : (rows : List Row) → ((source object : Text) → HasWord rows (codes "SOURCE") source
    → HasWord rows (codes "OBJECT") object → ⊥) → MadeBy (codes "asm") rows None
no_asm rows none (requests.Raw hook file seats) named has = absurd (raw≢asm (sym named))
no_asm rows none (requests.Run object context packet) named has = absurd (run≢asm (sym named))
no_asm rows none (requests.Asm source object) named has = none source.now object.now has.0 has.1
no_asm rows none (requests.List object) named has = absurd (asm≢list named)
no_asm rows none (requests.Verify object) named has = absurd (asm≢verify named)
no_asm rows none (requests.Route config) named has = absurd (asm≢route named)

pub no_list : (rows : List Row) → ((object : Text) → HasWord rows (codes "OBJECT") object → ⊥)
    → MadeBy (codes "list") rows None
no_list rows none (requests.Raw hook file seats) named has = absurd (raw≢list (sym named))
no_list rows none (requests.Run object context packet) named has = absurd (run≢list (sym named))
no_list rows none (requests.Asm source object) named has = absurd (asm≢list (sym named))
no_list rows none (requests.List object) named has = none object.now has
no_list rows none (requests.Verify object) named has = absurd (list≢verify named)
no_list rows none (requests.Route config) named has = absurd (list≢route named)

pub no_verify : (rows : List Row) → ((object : Text) → HasWord rows (codes "OBJECT") object → ⊥)
    → MadeBy (codes "verify") rows None
no_verify rows none (requests.Raw hook file seats) named has = absurd (raw≢verify (sym named))
no_verify rows none (requests.Run object context packet) named has = absurd (run≢verify (sym named))
no_verify rows none (requests.Asm source object) named has = absurd (asm≢verify (sym named))
no_verify rows none (requests.List object) named has = absurd (list≢verify (sym named))
no_verify rows none (requests.Verify object) named has = none object.now has
no_verify rows none (requests.Route config) named has = absurd (verify≢route named)

pub no_route : (rows : List Row) → ((config : Text) → HasWord rows (codes "CONFIG") config → ⊥)
    → MadeBy (codes "route") rows None
no_route rows none (requests.Raw hook file seats) named has = absurd (raw≢route (sym named))
no_route rows none (requests.Run object context packet) named has = absurd (run≢route (sym named))
no_route rows none (requests.Asm source object) named has = absurd (asm≢route (sym named))
no_route rows none (requests.List object) named has = absurd (list≢route (sym named))
no_route rows none (requests.Verify object) named has = absurd (verify≢route (sym named))
no_route rows none (requests.Route config) named has = none config.now has

-- a command with another name makes no request
pub no_other : (rows : List Row) (name : Text) → name ≢ codes "raw" → name ≢ codes "run"
    → name ≢ codes "asm" → name ≢ codes "list" → name ≢ codes "verify" → name ≢ codes "route"
    → MadeBy name rows None
no_other rows name raw run asm list verify route (requests.Raw hook file seats) named has =
    raw (sym named)
no_other rows name raw run asm list verify route (requests.Run object context packet) named has =
    run (sym named)
no_other rows name raw run asm list verify route (requests.Asm source object) named has =
    asm (sym named)
no_other rows name raw run asm list verify route (requests.List object) named has = list (sym named)
no_other rows name raw run asm list verify route (requests.Verify object) named has =
    verify (sym named)
no_other rows name raw run asm list verify route (requests.Route config) named has =
    route (sym named)

-- the request of the named command
pub named_makes : (name : Text) (rows : List Row) (request : CommandRequest)
    → MadeBy name rows (Some request) → Makes (Some (name, rows)) request
named_makes name rows request made = (rows, ap (λ (t : Text). Some (t, rows)) (sym made.0), made.1)

pub named_makes_none : (name : Text) (rows : List Row) → MadeBy name rows None
    → MakesNone (Some (name, rows))
named_makes_none name rows none request makes =
    let both = some_is makes.1 in
    let names : name ≡ command_of request = ap (λ (p : Text × List Row). p.0) both in
    let same : rows ≡ makes.0 = ap (λ (p : Text × List Row). p.1) both in
    none request (sym names) (rw same makes.2)

pub none_makes_none : MakesNone None
none_makes_none request makes = some≢none _ (sym makes.1)

-- the word with a name, read as a reference
pub has_word : (rows : List Row) (name : Text) (word : Bor Text)
    → Rattle.std.specs.Option.option_map (λ (w : Bor Text). w.now) (Some word) ≡ first_of name rows
    → HasWord rows name word.now
has_word rows name word e = sym e

pub has_none : (rows : List Row) (name : Text) → None ≡ first_of name rows → (word : Text)
    → HasWord rows name word → ⊥
has_none rows name none word has = some≢none word (sym has ∙ sym none)

-- the context of a word
pub context_is : (word : Text) (made : Option (List ℕ)) (context : List ℕ) → made ≡ Some context
    → (word ≡ codes "-" → made ≡ Some (replicate 64 0))
    → (word ≢ codes "-" → made ≡ result_ok (decode_sized word 64)) → IsContext word context
context_is word made context is dash hex = go (bytes_eq word (codes "-")) refl
  where
    of_ok : (r : Result (List ℕ) FromHexError) → Some context ≡ result_ok r → r ≡ Ok context
    of_ok (Ok x) e = ap Ok (sym (some_is e))
    of_ok (Err x) e = absurd (some≢none context e)

    go : (b : Bool) → bytes_eq word (codes "-") ≡ b → IsContext word context
    go true same =
        let e = (bytes_eq-Decides word (codes "-")).0 same in
        inl (e, some_is (sym is ∙ dash e))
    go false differs =
        let other : word ≢ codes "-" = λ e. true≢false
        (sym ((bytes_eq-Decides word (codes "-")).1 e) ∙ differs) in
        inr (other, of_ok (decode_sized word 64) (sym is ∙ hex other))

-- the packet of a word
pub packet_is : (word packet : List ℕ) → (word ≡ codes "-" → packet ≡ [])
    → (word ≢ codes "-" → decode_of word ≡ Ok packet) → IsPacket word packet
packet_is word packet dash hex = go (bytes_eq word (codes "-")) refl
  where
    go : (b : Bool) → bytes_eq word (codes "-") ≡ b → IsPacket word packet
    go true same =
        let e = (bytes_eq-Decides word (codes "-")).0 same in
        inl (e, dash e)
    go false differs =
        let other : word ≢ codes "-" = λ e. true≢false
        (sym ((bytes_eq-Decides word (codes "-")).1 e) ∙ differs) in
        inr (other, hex other)
