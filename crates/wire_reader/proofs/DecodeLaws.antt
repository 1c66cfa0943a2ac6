-- What a decoder answers that gives what reading gives.
use Rattle.std.proofs.Common.{◌≡◌, ℕ, List, Result, Ok, Err, subst, ◌⊎◌}
use Rattle.std.specs.Prelude.{IfOk, IfErr}
use Rattle.site_message.specs.declared.message.Msg.{Msg}
use Rattle.site_message.specs.Wire.{FitsWire}
use Rattle.byte_fields.specs.Reading.{whole_at, IsReadAsWhole}
use Rattle.byte_fields.proofs.WholeLaws.{whole_spelled, only_value, fault_first, first_fault}
use Rattle.wire_reader.specs.declared.form.Form.{Form}
use Rattle.wire_reader.specs.declared.fault.WireFault.{WireFault}
use Rattle.wire_reader.specs.declared.fault.WireFault.TheVariants.{Rest, Memory}
use Rattle.wire_reader.specs.Format.{wire, IsSpelling, IsFirstFault}
use Rattle.wire_reader.specs.Reading.{message_at}
use Rattle.wire_reader.proofs.FieldLaws.{IsBytes}
use Rattle.wire_reader.proofs.WholeLaws.{without_form, wire_ends, message_by}
use Rattle.wire_reader.proofs.FitsLaws.{message_fits}

whole_message : (bytes : List ℕ) (m : Msg) → IsBytes bytes → whole_at message_at Rest bytes ≡ Ok m → (form : Form) × IsSpelling form bytes m
whole_message bytes m fits e =
    let s = whole_spelled IsBytes wire without_form message_at Rest message_by wire_ends bytes m fits e in
    (s.0.0, subst (λ (x : Msg). IsSpelling s.0.0 bytes x) s.2 s.1)

pub spelled : (bytes : List ℕ) (r : Result Msg WireFault) → IsBytes bytes → IsReadAsWhole Memory message_at Rest bytes r → IfOk r (λ m. (form : Form) × IsSpelling form bytes m)
spelled bytes (Ok m) fits h = whole_message bytes m fits h
spelled bytes (Err f) fits h = tt

pub fitting : (bytes : List ℕ) (r : Result Msg WireFault) → IsBytes bytes → IsReadAsWhole Memory message_at Rest bytes r → IfOk r (λ m. FitsWire m)
fitting bytes (Ok m) fits h = let s = whole_message bytes m fits h in message_fits s.0 m s.1.0
fitting bytes (Err f) fits h = tt

pub only : (bytes : List ℕ) (r : Result Msg WireFault) → IsReadAsWhole Memory message_at Rest bytes r → (form : Form) (m : Msg) → IsSpelling form bytes m → (r ≡ Ok m) ⊎ (r ≡ Err Memory)
only bytes r h form m s = only_value IsBytes wire without_form message_at Rest message_by wire_ends Memory bytes r h (form, m) s

pub fault : (bytes : List ℕ) (r : Result Msg WireFault) → IsBytes bytes → IsReadAsWhole Memory message_at Rest bytes r → IfErr r (λ f. (f ≡ Memory) ⊎ IsFirstFault bytes f)
fault bytes r fits h = fault_first IsBytes wire without_form message_at Rest message_by wire_ends Memory bytes r fits h

pub first : (bytes : List ℕ) (r : Result Msg WireFault) → IsReadAsWhole Memory message_at Rest bytes r → (f : WireFault) → IsFirstFault bytes f → (r ≡ Err f) ⊎ (r ≡ Err Memory)
first bytes r h f s = first_fault IsBytes wire without_form message_at Rest message_by wire_ends Memory bytes r h f s
