-- All of the bytes: they spell one message in one form, or have one first fault.
use Rattle.std.proofs.Common.{◌≡◌, ℕ, List, [], ◌∷◌, ◌++◌, refl, sym, ap, subst, ◌∙◌, ◌⊎◌, inl, inr}
use Rattle.std.proofs.lemmas.List.{append-nil}
use Rattle.site_message.specs.declared.message.Msg.{Msg}
use Rattle.byte_fields.specs.Field.{EndsAnywhere, IsSpelled, IsFirstFaultOf}
use Rattle.byte_fields.specs.Reading.{Left}
use Rattle.byte_fields.specs.Laws.{Takes, IsReadBy}
use Rattle.byte_fields.proofs.WholeLaws.{one_of, one_value, one_fault, never_both, no_prefix}
use Rattle.wire_reader.specs.declared.form.Form.{Form}
use Rattle.wire_reader.specs.declared.form.Form.TheVariants as forms
use Rattle.wire_reader.specs.declared.fault.WireFault.{WireFault}
use Rattle.wire_reader.specs.declared.fault.WireFault.TheVariants.{Rest}
use Rattle.wire_reader.specs.Format.{IsKind, message, spelling, wire, IsSpelling, IsFirstFault}
use Rattle.wire_reader.specs.Reading.{message_at}
use Rattle.wire_reader.specs.Laws.{BytesHaveOne, SpellsOne, HasOneFault, NotBoth, NoProperPrefix, BeginsWithKind, NoKindOfBoth}
use Rattle.wire_reader.proofs.FieldLaws.{IsBytes}
use Rattle.wire_reader.proofs.MessageLaws.{begins, no_kind_of_both, message_takes, message_again, message_fails, message_failing}

-- of a message in its form, the message
abbrev pub without_form : Form × Msg → Msg
without_form x = x.1

pub wire_ends : EndsAnywhere wire
wire_ends x rest = tt

taken : (form : Form) (at : ℕ) (bytes : List ℕ) (m : Msg) (l : Left) → Takes IsBytes (message form) at bytes m l → Takes IsBytes wire at bytes (form, m) l
taken form at bytes m l t = record { has = t.has; parts = t.parts; place = t.place; ends = tt; rest_fits = t.rest_fits }

pub message_by : IsReadBy IsBytes wire without_form message_at
message_by = record {
  takes = λ at bytes m l fits e. (let t = message_takes at bytes m l fits e in ((t.0, m), taken t.0 at bytes m l t.1, refl));
  again = λ at x rest has ends. message_again x.0 at x.1 rest has;
  fails = message_fails;
  failing = message_failing;
}

-- ---- for all bytes and messages

in_form : (bytes : List ℕ) → ((x : Form × Msg) × IsSpelled wire x bytes) ⊎ ((f : WireFault) × IsFirstFaultOf wire Rest bytes f) → ((form : Form) × (m : Msg) × IsSpelling form bytes m) ⊎ ((f : WireFault) × IsFirstFault bytes f)
in_form bytes (inl s) = inl (s.0.0, s.0.1, s.1)
in_form bytes (inr f) = inr f

pub bytes_have_one : BytesHaveOne
bytes_have_one bytes fits = in_form bytes (one_of IsBytes wire without_form message_at Rest message_by wire_ends bytes fits)

pub begins_with_kind : BeginsWithKind
begins_with_kind = begins

pub kind_of_one : NoKindOfBoth
kind_of_one = no_kind_of_both

-- two forms with a kind of both are one
same_form : (form other : Form) (byte : ℕ) → IsKind form byte → IsKind other byte → form ≡ other
same_form forms.One forms.One byte h k = refl
same_form forms.Two forms.Two byte h k = refl
same_form forms.One forms.Two byte h k = absurd (no_kind_of_both byte h k)
same_form forms.Two forms.One byte h k = absurd (no_kind_of_both byte k h)

-- spellings, of which the one is the front of the other, have one form
one_form : (form other : Form) (m n : Msg) (rest : List ℕ) → (message form).Has m → (message other).Has n → spelling form m ++ rest ≡ spelling other n → form ≡ other
one_form form other m n rest has_m has_n e =
    let a = begins form m has_m in
    let b = begins other n has_n in
    let bytes : a.0 ∷ (a.1 ++ rest) ≡ b.0 ∷ b.1 = sym (ap (λ (z : List ℕ). z ++ rest) a.2) ∙ e ∙ b.2 in
    let same : a.0 ≡ b.0 = cc bytes in
    same_form form other a.0 a.3 (subst (λ (byte : ℕ). IsKind other byte) (sym same) b.3)

pub spells_one : SpellsOne
spells_one bytes form other m n h k = (
  one_form form other m n [] h.0 k.0 (append-nil (spelling form m) ∙ sym h.1 ∙ k.1),
  one_value IsBytes wire without_form message_at Rest message_by wire_ends bytes (form, m) (other, n) h k,
)

pub has_one_fault : HasOneFault
has_one_fault bytes f g h k = one_fault IsBytes wire without_form message_at Rest message_by wire_ends bytes f g h k

pub not_both : NotBoth
not_both bytes form m f h k = never_both IsBytes wire without_form message_at Rest message_by wire_ends bytes (form, m) f h k

pub no_proper_prefix : NoProperPrefix
no_proper_prefix form other m n rest hm hn e =
    let q = no_prefix IsBytes wire without_form message_at Rest message_by wire_ends (form, m) (other, n) rest hm hn e in
    (q.0, one_form form other m n rest hm hn e, q.1)
