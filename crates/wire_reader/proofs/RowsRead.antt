-- The worked faults, each by the values of the fields before it, in both forms.
use Rattle.std.specs.Prelude.{FitsSigned}
use Rattle.std.proofs.Common.{ℕ, zero, suc, ◌≡◌, ◌+◌, ◌<◌, List, get_or, [], ◌∷◌, ◌++◌, pos, refl, inl, inr, arith, IsUtf8, lit<, lit≤}
use Rattle.std.proofs.lemmas.Bool.{false≢true}
use Rattle.std.proofs.lemmas.Str.{is_utf8-from_IsUtf8, IsUtf8-from_ascii}
use Rattle.std.specs.Str.{is_utf8, chars}
use Rattle.tree_node.specs.declared.node.Feature.TheVariants as features
use Rattle.site_message.specs.declared.message.Msg.TheVariants as messages
use Rattle.wire_reader.specs.declared.form.Form.{Form}
use Rattle.wire_reader.specs.declared.form.Form.TheVariants as forms
use Rattle.wire_reader.specs.declared.fault.WireFault.{WireFault}
use Rattle.wire_reader.specs.declared.fault.WireFault.TheVariants.{Short, Kind, Range, Order, Utf8}
use Rattle.wire_reader.specs.Format.{lead, width, name, term, var_name, thread_name, text, feature, message, IsKind, IsFirstFault}
use Rattle.wire_reader.specs.Rows.{var, thread, name_bytes, eight_bytes, sixteen_bytes, atom_bytes, integer_message, record_bytes, first_field, second_field, NothingIsShort, OtherKindIsNone, OtherPlaceIsNone, CutIsShort, OtherSiteIsOut, MoreIsRest, OtherTextIsNone, ExchangedIsOutOfOrder, OtherWidthIsNone}
use Rattle.byte_fields.specs.Field.{IsWithin}

has_one : var_name.Has (var 1 2)
has_one = ((lit< tt, (lit≤ tt, lit≤ tt)), lit< tt)

has_two : var_name.Has (var 2 0)
has_two = ((lit< tt, (lit≤ tt, lit≤ tt)), lit< tt)

has_field : var_name.Has (var 1 5)
has_field = ((lit< tt, (lit≤ tt, lit≤ tt)), lit< tt)

has_thread : thread_name.Has (thread 3 1)
has_thread = ((lit< tt, (lit≤ tt, lit≤ tt)), lit< tt)

-- a byte below 128 is a text
letter : (b : ℕ) → b < 128 → IsUtf8 (b ∷ [])
letter b low = IsUtf8-from_ascii (b ∷ []) each
  where
    each : (i : ℕ) → get_or (b ∷ []) i 0 < 128
    each zero = low
    each (suc i) = lit< tt

has_label : text.Has (102 ∷ [])
has_label = (lit< tt, letter 102 (lit< tt))

has_feature : text.Has (97 ∷ [])
has_feature = (lit< tt, letter 97 (lit< tt))

no_site : IsWithin 1 64 65 → ⊥
no_site h = omega (arith, h.1)

no_text : IsUtf8 (255 ∷ []) → ⊥
unfolding is_utf8 chars
no_text u = false≢true (is_utf8-from_IsUtf8 (255 ∷ []) u)

-- ---- in the form of the first byte

in_one : {first : ℕ} {bytes : List ℕ} {f : WireFault} → IsKind forms.One first → (message forms.One).Fault 0 (first ∷ bytes) f → IsFirstFault (first ∷ bytes) f
in_one k h = inl (inl (k, h))

in_two : {first : ℕ} {bytes : List ℕ} {f : WireFault} → IsKind forms.Two first → (message forms.Two).Fault 0 (first ∷ bytes) f → IsFirstFault (first ∷ bytes) f
in_two k h = inl (inr (inl (k, h)))

in_none : (first : ℕ) → (IsKind forms.One first → ⊥) → (IsKind forms.Two first → ⊥) → IsFirstFault (first ∷ []) (Kind 0)
in_none first one two = inl (inr (inr (one, two, refl)))

pub nothing : NothingIsShort
nothing = inl refl

pub kind : OtherKindIsNone
kind = (
  in_none 0 (λ h. omega (arith, h.0)) (λ h. omega (arith, h.0)),
  in_none 8 (λ h. omega (arith, h.1)) (λ h. omega (arith, h.0)),
  in_none 16 (λ h. omega (arith, h.1)) (λ h. omega (arith, h.0)),
  in_none 29 (λ h. omega (arith, h.1)) (λ h. omega (arith, h.1)),
)

no_home : IsWithin 1 64 0 → ⊥
no_home h = omega (arith, h.0)

has_name : (n : ℕ) → n < 256 → name.Has (2, n)
has_name n small = ((lit< tt, (lit≤ tt, lit≤ tt)), omega (arith, small))

-- a term behind the name of a variable
in_binding : (form : Form) (bytes : List ℕ) (f : WireFault) → (term form).Fault 10 bytes f → (message form).Fault 0 ((lead form + 4) ∷ name_bytes 1 2 ++ bytes) f
in_binding form bytes f h = inr (inr (inr (inl (refl, inr (var 1 2, bytes, has_one, refl, (tt, tt), inl h)))))

pub place : OtherPlaceIsNone
place = (
  in_one (lit≤ tt, lit≤ tt) (in_binding forms.One (6 ∷ name_bytes 1 3 ++ 0 ∷ 0 ∷ []) (Kind 10) (inr (inr (inr (inr (inr (inr (lit< tt, refl)))))))),
  in_two (lit≤ tt, lit≤ tt) (in_binding forms.Two (7 ∷ name_bytes 2 6 ++ 0 ∷ 0 ∷ 0 ∷ []) (Range 20) (inr (inr (inr (inr (inr (inr (inr (inl (refl, inr ((2, 6), 0 ∷ 0 ∷ 0 ∷ [], has_name 6 (lit< tt), refl, (tt, tt), inr (0, 0 ∷ 0 ∷ [], lit< tt, refl, tt, (no_home, refl))))))))))))),
  in_two (lit≤ tt, lit≤ tt) (inr (inr (inr (inr (inr (inr (inr (inr (inr (inl (refl, inl (inr ((2, 6), 65 ∷ name_bytes 2 1 ++ 0 ∷ 0 ∷ [], has_name 6 (lit< tt), refl, (tt, tt), inr (65, name_bytes 2 1 ++ 0 ∷ 0 ∷ [], lit< tt, refl, tt, (no_site, refl))))))))))))))),
)

cut_in : (form : Form) → (message form).Fault 0 ((lead form + 2) ∷ name_bytes 1 2) (Short 10)
cut_in form = inr (inl (refl, inr (var 1 2, [], has_one, refl, (tt, tt), inl (lit< tt, refl))))

pub cut : CutIsShort
cut = (in_one (lit≤ tt, lit≤ tt) (cut_in forms.One), in_two (lit≤ tt, lit≤ tt) (cut_in forms.Two))

site_in : (form : Form) → (message form).Fault 0 ((lead form + 2) ∷ name_bytes 1 2 ++ 65 ∷ []) (Range 10)
site_in form = inr (inl (refl, inr (var 1 2, 65 ∷ [], has_one, refl, (tt, tt), inr (65, [], lit< tt, refl, tt, (no_site, refl)))))

pub other_site : OtherSiteIsOut
other_site = (in_one (lit≤ tt, lit≤ tt) (site_in forms.One), in_two (lit≤ tt, lit≤ tt) (site_in forms.Two))

pub more : MoreIsRest
more = (
  inr ((forms.One, messages.Register (var 1 2) 3), 0 ∷ [], (has_one, (lit< tt, (lit≤ tt, lit≤ tt))), refl, (λ e. omega (arith, e)), refl),
  inr ((forms.Two, messages.Register (var 1 2) 3), 0 ∷ [], (has_one, (lit< tt, (lit≤ tt, lit≤ tt))), refl, (λ e. omega (arith, e)), refl),
)

text_in : (form : Form) → (message form).Fault 0 (atom_bytes (lead form + 3) 255) (Utf8 21)
text_in form =
    inr (inr (inl (refl, inr (var 1 2, name_bytes 3 1 ++ 2 ∷ 1 ∷ 255 ∷ 0 ∷ 0 ∷ [], has_one, refl, (tt, tt), inr (thread 3 1, 2 ∷ 1 ∷ 255 ∷ 0 ∷ 0 ∷ [], has_thread, refl, (tt, tt), inl (inr (inr (inl (refl, inr (255 ∷ [], 0 ∷ 0 ∷ [], lit< tt, refl, tt, (no_text, refl)))))))))))

pub other_text : OtherTextIsNone
other_text = (in_one (lit≤ tt, lit≤ tt) (text_in forms.One), in_two (lit≤ tt, lit≤ tt) (text_in forms.Two))

-- the field 1 behind the field a, whatever the width of its integer
order_in : (form : Form) (field : List ℕ) → FitsSigned (width form) (pos 1)
    → field ++ 0 ∷ 0 ∷ [] ≡ (feature form).spelling (features.Int (pos 1)) ++ (name_bytes 1 4 ++ 0 ∷ 0 ∷ [])
    → (message form).Fault 0 (record_bytes (lead form + 4) second_field field) (Order 26)
order_in form field fits spelled =
    inr (inr (inr (inl (
      refl,
      inr (
        var 2 0,
        3 ∷ 1 ∷ 102 ∷ 2 ∷ second_field ++ field ++ 0 ∷ 0 ∷ [],
        has_two,
        refl,
        (tt, tt),
        inl (inr (inr (inr (inl (
          refl,
          inr (
            102 ∷ [],
            2 ∷ second_field ++ field ++ 0 ∷ 0 ∷ [],
            has_label,
            refl,
            tt,
            inr (
              2,
              second_field ++ field ++ 0 ∷ 0 ∷ [],
              (lit< tt, (lit≤ tt, lit≤ tt)),
              refl,
              tt,
              (
                (features.Atom (97 ∷ []), var 1 5) ∷ [],
                field ++ 0 ∷ 0 ∷ [],
                lit< tt,
                (((has_feature, tt), has_field), tt),
                refl,
                inl (inr (features.Int (pos 1), name_bytes 1 4 ++ 0 ∷ 0 ∷ [], fits, spelled, tt, ((λ e. cc), refl))),
              ),
            ),
          ),
        ))))),
      ),
    ))))

pub exchanged : ExchangedIsOutOfOrder
exchanged = (
  in_one (lit≤ tt, lit≤ tt) (order_in forms.One (first_field (eight_bytes 0 1)) (record { sfits = lit< tt }) refl),
  in_two (lit≤ tt, lit≤ tt) (order_in forms.Two (first_field (sixteen_bytes 0 1)) (record { sfits = lit< tt }) refl),
)

pub other_width : OtherWidthIsNone
other_width = (
  in_two (lit≤ tt, lit≤ tt) (inr (inr (inr (inl (refl, inr (var 1 2, 1 ∷ eight_bytes 0 5 ++ 0 ∷ 0 ∷ [], has_one, refl, (tt, tt), inl (inr (inl (refl, (lit< tt, refl)))))))))),
  inr ((forms.One, integer_message (pos 0)), 0 ∷ 0 ∷ 0 ∷ 0 ∷ 0 ∷ 5 ∷ 0 ∷ 0 ∷ [], (has_one, (record { sfits = lit< tt }, ((lit< tt, (lit≤ tt, lit≤ tt)), tt))), refl, (λ e. omega (arith, e)), refl),
)
