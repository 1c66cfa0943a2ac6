-- What follows from the format, for all bytes and messages.
use Rattle.std.specs.Prelude.{◌≡◌, ℕ, ◌<◌, ◌⊎◌, ◌↔◌, List, [], ◌∷◌, ◌++◌, slice_index, FitsSigned}
use Rattle.site_message.specs.declared.message.Msg.{Msg}
use Rattle.site_message.specs.Wire.{FitsWire}
use Rattle.wire_reader.specs.declared.form.Form.{Form}
use Rattle.wire_reader.specs.declared.form.Form.TheVariants as forms
use Rattle.wire_reader.specs.declared.fault.WireFault.{WireFault}
use Rattle.wire_reader.specs.Format.{width, IsTwo, IsKind, message, spelling, IsSpelling, IsFirstFault}
use Rattle.wire_reader.specs.Numbers.{HoldsNumbers, EachInMessage}

-- each of the numbers is below 256
abbrev pub AreBytes : List ℕ → Type 0
AreBytes bytes = (i : ℕ) → slice_index bytes i < 256

-- bytes spell a message in one of the forms, or have a first fault
abbrev pub BytesHaveOne : Type 0
BytesHaveOne = (bytes : List ℕ) → AreBytes bytes → ((form : Form) × (m : Msg) × IsSpelling form bytes m) ⊎ ((f : WireFault) × IsFirstFault bytes f)

-- they spell one message at most, and that in one form
abbrev pub SpellsOne : Type 0
SpellsOne = (bytes : List ℕ) (form other : Form) (m n : Msg) → IsSpelling form bytes m → IsSpelling other bytes n → (form ≡ other) × (m ≡ n)

-- they have one first fault at most
abbrev pub HasOneFault : Type 0
HasOneFault = (bytes : List ℕ) (f g : WireFault) → IsFirstFault bytes f → IsFirstFault bytes g → f ≡ g

-- and not both
abbrev pub NotBoth : Type 0
NotBoth = (bytes : List ℕ) (form : Form) (m : Msg) (f : WireFault) → IsSpelling form bytes m → IsFirstFault bytes f → ⊥

-- no spelling in either form is a proper prefix of another
abbrev pub NoProperPrefix : Type 0
NoProperPrefix = (form other : Form) (m n : Msg) (rest : List ℕ) → (message form).Has m → (message other).Has n → spelling form m ++ rest ≡ spelling other n → (rest ≡ []) × (form ≡ other) × (m ≡ n)

-- each spelling begins with a kind of its form
abbrev pub BeginsWithKind : Type 0
BeginsWithKind = (form : Form) (m : Msg) → (message form).Has m → (byte : ℕ) × (rest : List ℕ) × (spelling form m ≡ byte ∷ rest) × IsKind form byte

-- no byte is a kind of both forms
abbrev pub NoKindOfBoth : Type 0
NoKindOfBoth = (byte : ℕ) → IsKind forms.One byte → IsKind forms.Two byte → ⊥

-- what form 1 spells form 2 spells too
abbrev pub TwoSpellsAll : Type 0
TwoSpellsAll = (m : Msg) → (message forms.One).Has m → (message forms.Two).Has m

-- a message is one of the form exactly where it can be spelled, its numbers are in the ranges of their types, and its
-- integers have the width of the form, which is form 2 where it has anything of ports and stationary cells
abbrev pub FormatIsWhatFits : Type 0
FormatIsWhatFits = (form : Form) (m : Msg) → (message form).Has m ↔ FitsWire m × HoldsNumbers m × EachInMessage (λ z. FitsSigned (width form) z) (IsTwo form) m
