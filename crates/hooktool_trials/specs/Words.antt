-- What words stand for.
use Rattle.std.specs.Prelude.{◌≡◌, ◌≢◌, ◌<◌, ◌≤◌, ◌^◌, ℕ, List, [], ◌∷◌, ◌++◌, Option, Some, None}
use Rattle.std.specs.Prelude.{Result, Ok, Err}
use Rattle.std.specs.Prelude.{codes, decimal}
use Rattle.clap.specs.Walk.{Text}
use Rattle.hex.specs.Hex.{decode_of}
use Rattle.words.specs.Prefixes.{IsNetwork, Network}
use Rattle.words.specs.Text.{prefix_text}
use Rattle.words.specs.declared.route.ExternalType.{ExternalType}
use Rattle.words.specs.declared.route.ExternalType.TheVariants.{Type1, Type2}
use Rattle.words.specs.declared.route.RouteKind.{RouteKind}
use Rattle.words.specs.declared.route.RouteKind.TheVariants.{Intra, Inter, External1, External2}
use Rattle.words.specs.declared.route.TableRow.{TableRow}
use Rattle.hooktool_trials.specs.declared.requests.PacketSource.{PacketSource}
use Rattle.hooktool_trials.specs.declared.values.NotRead.{NotRead}
use Rattle.hooktool_trials.specs.declared.values.NotRead.TheVariants as not_read
use Rattle.hooktool_trials.specs.declared.requests.PacketSource.TheVariants as packets
use Rattle.hooktool_trials.specs.declared.settings.Setting.{Setting}
use Rattle.hooktool_trials.specs.declared.wrong_words.WrongWord.{WrongWord}

-- What is read has this meaning; if nothing is read, nothing has it.
abbrev pub Reads : {A : Type 0} → (A → Type 0) → Option A → Type 0
Reads {A} Means (Some x) = Means x
Reads {A} Means None = (x : A) → Means x → ⊥

-- The same, and it is told why nothing is read.
abbrev pub ReadsOrTells : {A : Type 0} → (A → Type 0) → Result A WrongWord → Type 0
ReadsOrTells {A} Means (Ok x) = Means x
ReadsOrTells {A} Means (Err wrong) = (x : A) → Means x → ⊥

-- The same; or nothing is read, for want of memory.
abbrev pub ReadsOrLacks : {A : Type 0} → (A → Type 0) → Result A NotRead → Type 0
ReadsOrLacks {A} Means (Ok x) = Means x
ReadsOrLacks {A} Means (Err (not_read.Meaningless wrong)) = (x : A) → Means x → ⊥
ReadsOrLacks {A} Means (Err not_read.OutOfMemory) = Unit {0}

-- what a word means, or what is so if there is none
abbrev pub OrElse : Option Text → Type 0 → (Text → Type 0) → Type 0
OrElse None Usual Means = Usual
OrElse (Some word) Usual Means = Means word

-- a number in decimal, within these
abbrev pub IsNumber : (least most : ℕ) → Text → ℕ → Type 0
IsNumber least most word n = (word ≡ decimal n) × (least ≤ n) × (n ≤ most)

-- the same, of a number that is told
abbrev pub IsTold : (least most : ℕ) → Text → Option ℕ → Type 0
IsTold least most word (Some n) = IsNumber least most word n
IsTold least most word None = ⊥

-- a network: its address, a slash and its length
abbrev pub IsPrefix : Text → Network → Type 0
IsPrefix word network = (word ≡ prefix_text network) × IsNetwork network

-- 0.0.0.0/0
abbrev pub everything : Network
everything = record { address = 0; length = 0 }

abbrev pub type_word : ExternalType → Text
type_word Type1 = codes "1"
type_word Type2 = codes "2"

abbrev pub kind_word : RouteKind → Text
kind_word Intra = codes "intra"
kind_word Inter = codes "inter"
kind_word External1 = codes "ext1"
kind_word External2 = codes "ext2"

-- a row of the table: a network, an equals sign (61) and its cost
abbrev pub IsRow : Text → TableRow → Type 0
IsRow word row = (word ≡ prefix_text row.prefix ++ 61 ∷ decimal row.cost) × IsNetwork row.prefix
    × (row.cost < 2 ^ 32)

-- One list is made of another, each thing of that at its place.
abbrev pub Each : {A : Type 0} {B : Type 0} → (A → B → Type 0) → List A → List B → Type 0
Each {A} {B} Is [] [] = Unit {0}
Each {A} {B} Is (x ∷ xs) (y ∷ ys) = Is x y × Each Is xs ys
Each {A} {B} Is _ _ = ⊥

abbrev pub AreRows : List Text → List TableRow → Type 0
AreRows = Each IsRow

-- the number of a counter or cell, an equals sign (61) and a number
abbrev pub IsSetting : (places most : ℕ) → Text → Setting → Type 0
IsSetting places most word setting =
    (word ≡ decimal setting.index ++ 61 ∷ decimal setting.number) × (setting.index < places)
    × (setting.number ≤ most)

abbrev pub AreSettings : (places most : ℕ) → List Text → List Setting → Type 0
AreSettings places most = Each (IsSetting places most)

-- no packet
abbrev pub IsNoPacket : PacketSource → Type 0
IsNoPacket (packets.Bytes bytes) = bytes.items ≡ []
IsNoPacket (packets.File path) = ⊥

-- the bytes of a file, which is named behind an at sign (64), or bytes in hex
abbrev pub IsPacket : Text → PacketSource → Type 0
IsPacket word (packets.Bytes bytes) =
    ((rest : Text) → word ≢ 64 ∷ rest) × (decode_of word ≡ Ok bytes.items)
IsPacket word (packets.File path) = word ≡ 64 ∷ path.now
