-- Words make at most one request, and none if they have a mistake.
use Rattle.std.proofs.Common.{◌≡◌, ◌∙◌, ap, sym, subst, refl, ℕ, List, [], ◌∷◌, Some, Ok, inl, inr}
use Rattle.std.proofs.Common.{slice_index}
use Rattle.std.specs.Prelude.{◌==◌, Option, Result, if◌then◌else◌}
use Rattle.std.specs.Str.Parse.{digits_value, without_leading_plus}
use Rattle.clap.specs.Kinds.{IsAmong, Kinds}
use Rattle.clap.specs.Values.{kind_of}
use Rattle.clap.specs.Walk.{Row, Text}
use Rattle.clap.specs.declared.error.kind.ErrorKind.{ErrorKind}
use Rattle.commands.proofs.Made.{asm≢list, asm≢verify, list≢verify, raw≢asm, raw≢list, raw≢run}
use Rattle.commands.proofs.Made.{raw≢verify, run≢asm, run≢list, run≢verify, some_is, asm≢route}
use Rattle.commands.proofs.Made.{list≢route, raw≢route, run≢route, verify≢route}
use Rattle.commands.specs.Laws.{MistakenWordsAskForNothing, SameRequest, WordsMakeOneRequest}
use Rattle.commands.specs.Requests.{HasSeats, HasWordsOf, command_of}
use Rattle.commands.specs.Words.{IsContext, IsPacket, hook_name}
use Rattle.commands.specs.declared.requests.CommandRequest.{CommandRequest}
use Rattle.commands.specs.declared.requests.CommandRequest.TheVariants as requests
use Rattle.hex.specs.Hex.{decode_of, decode_sized}
use Rattle.isa.specs.declared.hook.Hook.{Hook}
use Rattle.isa.specs.declared.hook.Hook.TheVariants as hooks

none_among : (kind : ErrorKind) (kinds : Kinds) → kinds ≡ [] → IsAmong kind kinds → ⊥
none_among kind [] e among = among
none_among kind (x ∷ xs) e among = cc

pub mistaken : MistakenWordsAskForNothing
mistaken line words error request mistake asks = elim mistake [
  | inl among ↦ none_among (kind_of error) _ asks.0 among
  | inr wrong ↦ wrong.1.1 request asks.1
]

one_word : {found : Option Text} {a b : Text} → found ≡ Some a → found ≡ Some b → a ≡ b
one_word x y = some_is (sym x ∙ y)

one_seats : (rows : List Row) (a b : ℕ) → HasSeats rows a → HasSeats rows b → a ≡ b
one_seats rows a b x y =
    let same : x.0 ≡ y.0 = some_is (sym x.1 ∙ y.1) in
    x.2.1 ∙ ap (λ t. digits_value 10 (without_leading_plus t)) same ∙ sym y.2.1

ok_is : {E : Type 0} {a b : List ℕ} → ◌≡◌ {A = Result (List ℕ) E} (Ok a) (Ok b) → a ≡ b
ok_is e = cc

one_context : (word other : Text) (a b : List ℕ) → word ≡ other → IsContext word a
    → IsContext other b → a ≡ b
one_context word other a b same x y = elim x [
  | inl p ↦ elim y [
    | inl q ↦ p.1 ∙ sym q.1
    | inr q ↦ absurd (q.0 (sym same ∙ p.0))
  ]
  | inr p ↦ elim y [
    | inl q ↦ absurd (p.0 (same ∙ q.0))
    | inr q ↦ ok_is (sym p.1 ∙ ap (λ t. decode_sized t 64) same ∙ q.1)
  ]
]

one_packet : (word other : Text) (a b : List ℕ) → word ≡ other → IsPacket word a → IsPacket other b
    → a ≡ b
one_packet word other a b same x y = elim x [
  | inl p ↦ elim y [
    | inl q ↦ p.1 ∙ sym q.1
    | inr q ↦ absurd (q.0 (sym same ∙ p.0))
  ]
  | inr p ↦ elim y [
    | inl q ↦ absurd (p.0 (same ∙ q.0))
    | inr q ↦ ok_is (sym p.1 ∙ ap decode_of same ∙ q.1)
  ]
]

one_hook : (a b : Hook) → hook_name a ≡ hook_name b → a ≡ b
one_hook a b e = sym (hook_back a) ∙ ap hook_from e ∙ hook_back b
  where
    -- the first byte distinguishes the names
    hook_from : Text → Hook
    hook_from name = if slice_index name 0 == 99 then hooks.Count else
        (if slice_index name 0 == 116 then hooks.Tag
        else (if slice_index name 0 == 112 then hooks.Price else hooks.Veto))

    hook_back : (hook : Hook) → hook_from (hook_name hook) ≡ hook
    hook_back hooks.Count = refl
    hook_back hooks.Tag = refl
    hook_back hooks.Price = refl
    hook_back hooks.Veto = refl

same_words : (rows : List Row) (a b : CommandRequest) → command_of a ≡ command_of b
    → HasWordsOf rows a → HasWordsOf rows b → SameRequest a b
same_words rows (requests.Raw hook file seats) (requests.Raw hook_2 file_2 seats_2) e x y = (
  one_hook hook hook_2 (one_word x.0 y.0),
  one_word x.1 y.1,
  one_seats rows seats seats_2 x.2 y.2,
)
same_words rows (requests.Run object context packet) (requests.Run object_2 context_2 packet_2) e x
    y = (
      one_word x.0 y.0,
      one_context x.1.0 y.1.0 _ _ (one_word x.1.1 y.1.1) x.1.2 y.1.2,
      one_packet x.2.0 y.2.0 _ _ (one_word x.2.1 y.2.1) x.2.2 y.2.2,
    )
same_words rows (requests.Asm source object) (requests.Asm source_2 object_2) e x y =
    (one_word x.0 y.0, one_word x.1 y.1)
same_words rows (requests.List object) (requests.List object_2) e x y = one_word x y
same_words rows (requests.Verify object) (requests.Verify object_2) e x y = one_word x y
same_words rows (requests.Route config) (requests.Route config_2) e x y = one_word x y
same_words rows (requests.Raw _ _ _) (requests.Run _ _ _) e x y = raw≢run (sym e)
same_words rows (requests.Raw _ _ _) (requests.Asm _ _) e x y = raw≢asm (sym e)
same_words rows (requests.Raw _ _ _) (requests.List _) e x y = raw≢list (sym e)
same_words rows (requests.Raw _ _ _) (requests.Verify _) e x y = raw≢verify (sym e)
same_words rows (requests.Run _ _ _) (requests.Raw _ _ _) e x y = raw≢run e
same_words rows (requests.Run _ _ _) (requests.Asm _ _) e x y = run≢asm (sym e)
same_words rows (requests.Run _ _ _) (requests.List _) e x y = run≢list (sym e)
same_words rows (requests.Run _ _ _) (requests.Verify _) e x y = run≢verify (sym e)
same_words rows (requests.Asm _ _) (requests.Raw _ _ _) e x y = raw≢asm e
same_words rows (requests.Asm _ _) (requests.Run _ _ _) e x y = run≢asm e
same_words rows (requests.Asm _ _) (requests.List _) e x y = asm≢list (sym e)
same_words rows (requests.Asm _ _) (requests.Verify _) e x y = asm≢verify (sym e)
same_words rows (requests.List _) (requests.Raw _ _ _) e x y = raw≢list e
same_words rows (requests.List _) (requests.Run _ _ _) e x y = run≢list e
same_words rows (requests.List _) (requests.Asm _ _) e x y = asm≢list e
same_words rows (requests.List _) (requests.Verify _) e x y = list≢verify (sym e)
same_words rows (requests.Verify _) (requests.Raw _ _ _) e x y = raw≢verify e
same_words rows (requests.Verify _) (requests.Run _ _ _) e x y = run≢verify e
same_words rows (requests.Verify _) (requests.Asm _ _) e x y = asm≢verify e
same_words rows (requests.Verify _) (requests.List _) e x y = list≢verify e
same_words rows (requests.Raw _ _ _) (requests.Route _) e x y = raw≢route (sym e)
same_words rows (requests.Run _ _ _) (requests.Route _) e x y = run≢route (sym e)
same_words rows (requests.Asm _ _) (requests.Route _) e x y = asm≢route (sym e)
same_words rows (requests.List _) (requests.Route _) e x y = list≢route (sym e)
same_words rows (requests.Verify _) (requests.Route _) e x y = verify≢route (sym e)
same_words rows (requests.Route _) (requests.Raw _ _ _) e x y = raw≢route e
same_words rows (requests.Route _) (requests.Run _ _ _) e x y = run≢route e
same_words rows (requests.Route _) (requests.Asm _ _) e x y = asm≢route e
same_words rows (requests.Route _) (requests.List _) e x y = list≢route e
same_words rows (requests.Route _) (requests.Verify _) e x y = verify≢route e

pub one_request : WordsMakeOneRequest
one_request line words request other own asks asks_2 =
    let both = some_is (sym asks.1.1 ∙ asks_2.1.1) in
    let names : command_of request ≡ command_of other = ap (λ (p : Text × List Row). p.0) both in
    let same : asks.1.0 ≡ asks_2.1.0 = ap (λ (p : Text × List Row). p.1) both in
    same_words asks_2.1.0 request other names
    (subst (λ (rows : List Row). HasWordsOf rows request) same asks.1.2) asks_2.1.2
