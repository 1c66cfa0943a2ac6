-- Messages are read in each form, and in the form that the first byte tells.
use Rattle.std.proofs.Common.{◌≡◌, ℕ, ◌+◌, ◌-◌, ◌<◌, ◌≤◌, Bool, true, false, cond, eqb, List, [], ◌∷◌, ◌++◌, length, Ok, Err, refl, sym, ap, subst, ◌∙◌, arith, ◌⊎◌, inl, inr, lit<, lit≤}
use Rattle.std.proofs.lemmas.Bool.{cases_lt, eqb-true, eqb-false, lt-ltb, le-ltb}
use Rattle.site_message.specs.declared.message.Msg.{Msg}
use Rattle.site_message.specs.declared.message.Msg.TheVariants as messages
use Rattle.wire_reader.specs.declared.form.Form.{Form}
use Rattle.wire_reader.specs.declared.form.Form.TheVariants as forms
use Rattle.wire_reader.specs.declared.fault.WireFault.{WireFault}
use Rattle.wire_reader.specs.declared.fault.WireFault.TheVariants.{Short, Kind}
use Rattle.byte_fields.specs.Field.{Faults, ◌before◌, IsWithin}
use Rattle.site_message.specs.Wire.{IsRequestOrAnswer}
use Rattle.wire_reader.specs.Format.{lead, IsKind, LaterFault, site, var_name, cell_name, stationary_name, port_name, port_send, port_end, cell_make, cell_ask, cell_old, thread_name, code, variables, term, bundle, spawn, register, bind_request, binding, get_or_forward, put, message, spelling, wire}
use Rattle.byte_fields.specs.Reading.{Left, Read, ◌>>=◌, ◌also◌}
use Rattle.wire_reader.specs.Reading.{byte_at, byte_within_at, var_name_at, cell_name_at, stationary_name_at, port_name_at, port_send_at, port_end_at, cell_make_at, cell_ask_at, cell_old_at, later_body_at, thread_name_at, code_at, variables_at, term_at, bundle_at, spawn_at, register_at, bind_request_at, binding_at, get_at, forward_at, put_at, body_at, form_of, message_at}
use Rattle.byte_fields.specs.Laws.{Takes, IsRead}
use Rattle.byte_fields.proofs.ResultLaws.{failed, err_is, no_ok}
use Rattle.byte_fields.proofs.FieldLaws.{before_read}
use Rattle.wire_reader.proofs.FieldLaws.{IsBytes}
use Rattle.wire_reader.proofs.BaseLaws.{IsBytes-rest, byte_within_read}
use Rattle.wire_reader.proofs.ChoiceLaws.{IsBehind, is_behind, again_behind, takes_if, fails_if, passes}
use Rattle.wire_reader.proofs.FormatLaws.{var_name_read, cell_name_read, stationary_name_read, port_name_read, thread_name_read, code_read, variables_read, term_read, bundle_read}

spawn_read : (form : Form) → IsRead IsBytes (spawn form) (thread_name_at also code_at also variables_at also bundle_at form)
spawn_read form =
    before_read IsBytes thread_name (code before variables before bundle form) thread_name_at (code_at also variables_at also bundle_at form) thread_name_read
    (before_read IsBytes code (variables before bundle form) code_at (variables_at also bundle_at form) code_read
    (before_read IsBytes variables (bundle form) variables_at (bundle_at form) variables_read (bundle_read form)))

register_read : IsRead IsBytes register (var_name_at also byte_within_at 1 64)
register_read = before_read IsBytes var_name site var_name_at (byte_within_at 1 64) var_name_read (byte_within_read 1 64)

term_and_bundle_read : (form : Form) → IsRead IsBytes (term form before bundle form) (term_at form also bundle_at form)
term_and_bundle_read form = before_read IsBytes (term form) (bundle form) (term_at form) (bundle_at form) (term_read form) (bundle_read form)

bind_request_read : (form : Form) → IsRead IsBytes (bind_request form) (var_name_at also thread_name_at also term_at form also bundle_at form)
bind_request_read form =
    before_read IsBytes var_name (thread_name before term form before bundle form) var_name_at (thread_name_at also term_at form also bundle_at form) var_name_read
    (before_read IsBytes thread_name (term form before bundle form) thread_name_at (term_at form also bundle_at form) thread_name_read (term_and_bundle_read form))

binding_read : (form : Form) → IsRead IsBytes (binding form) (var_name_at also term_at form also bundle_at form)
binding_read form = before_read IsBytes var_name (term form before bundle form) var_name_at (term_at form also bundle_at form) var_name_read (term_and_bundle_read form)

get_read : IsRead IsBytes get_or_forward (cell_name_at also byte_within_at 1 64)
get_read = before_read IsBytes cell_name site cell_name_at (byte_within_at 1 64) cell_name_read (byte_within_read 1 64)

put_read : (form : Form) → IsRead IsBytes (put form) (cell_name_at also var_name_at also bundle_at form)
put_read form =
    before_read IsBytes cell_name (var_name before bundle form) cell_name_at (var_name_at also bundle_at form) cell_name_read
    (before_read IsBytes var_name (bundle form) var_name_at (bundle_at form) var_name_read (bundle_read form))

name_and_bundle_read : (form : Form) → IsRead IsBytes (var_name before bundle form) (var_name_at also bundle_at form)
name_and_bundle_read form = before_read IsBytes var_name (bundle form) var_name_at (bundle_at form) var_name_read (bundle_read form)

port_send_read : IsRead IsBytes port_send (port_name_at also thread_name_at also byte_within_at 1 64)
port_send_read =
    before_read IsBytes port_name (thread_name before site) port_name_at (thread_name_at also byte_within_at 1 64) port_name_read
    (before_read IsBytes thread_name site thread_name_at (byte_within_at 1 64) thread_name_read (byte_within_read 1 64))

port_end_read : (form : Form) → IsRead IsBytes (port_end form) (thread_name_at also var_name_at also var_name_at also bundle_at form)
port_end_read form =
    before_read IsBytes thread_name (var_name before var_name before bundle form) thread_name_at (var_name_at also var_name_at also bundle_at form) thread_name_read
    (before_read IsBytes var_name (var_name before bundle form) var_name_at (var_name_at also bundle_at form) var_name_read (name_and_bundle_read form))

cell_make_read : (form : Form) → IsRead IsBytes (cell_make form) (stationary_name_at also var_name_at also bundle_at form)
cell_make_read form = before_read IsBytes stationary_name (var_name before bundle form) stationary_name_at (var_name_at also bundle_at form) stationary_name_read (name_and_bundle_read form)

cell_ask_read : (form : Form) → IsRead IsBytes (cell_ask form) (stationary_name_at also thread_name_at also byte_within_at 1 64 also var_name_at also bundle_at form)
cell_ask_read form =
    before_read IsBytes stationary_name (thread_name before site before var_name before bundle form) stationary_name_at (thread_name_at also byte_within_at 1 64 also var_name_at also bundle_at form) stationary_name_read
    (before_read IsBytes thread_name (site before var_name before bundle form) thread_name_at (byte_within_at 1 64 also var_name_at also bundle_at form) thread_name_read
    (before_read IsBytes site (var_name before bundle form) (byte_within_at 1 64) (var_name_at also bundle_at form) (byte_within_read 1 64) (name_and_bundle_read form)))

cell_old_read : (form : Form) → IsRead IsBytes (cell_old form) (thread_name_at also var_name_at also bundle_at form)
cell_old_read form = before_read IsBytes thread_name (var_name before bundle form) thread_name_at (var_name_at also bundle_at form) thread_name_read (name_and_bundle_read form)

spawn_behind : (form : Form) → IsBehind (message form) (lead form + 1) (spawn_at form) (spawn form).Fault
unfolding spawn_at
spawn_behind form =
    is_behind (message form) (lead form + 1) (spawn form) (thread_name_at also code_at also variables_at also bundle_at form) (λ p. messages.Spawn p.0 p.1.0 p.1.1.0 p.1.1.1) (λ y h. h) (λ y. refl) (spawn_read form) (λ x rest. tt)

register_behind : (form : Form) → IsBehind (message form) (lead form + 2) register_at register.Fault
unfolding register_at
register_behind form = is_behind (message form) (lead form + 2) register (var_name_at also byte_within_at 1 64) (λ p. messages.Register p.0 p.1) (λ y h. h) (λ y. refl) register_read (λ x rest. tt)

bind_request_behind : (form : Form) → IsBehind (message form) (lead form + 3) (bind_request_at form) (bind_request form).Fault
unfolding bind_request_at
bind_request_behind form =
    is_behind (message form) (lead form + 3) (bind_request form) (var_name_at also thread_name_at also term_at form also bundle_at form) (λ p. messages.BindReq p.0 p.1.0 p.1.1.0 p.1.1.1) (λ y h. h) (λ y. refl) (bind_request_read form) (λ x rest. tt)

binding_behind : (form : Form) → IsBehind (message form) (lead form + 4) (binding_at form) (binding form).Fault
unfolding binding_at
binding_behind form =
    is_behind (message form) (lead form + 4) (binding form) (var_name_at also term_at form also bundle_at form) (λ p. messages.Binding p.0 p.1.0 p.1.1) (λ y h. h) (λ y. refl) (binding_read form) (λ x rest. tt)

get_behind : (form : Form) → IsBehind (message form) (lead form + 5) get_at get_or_forward.Fault
unfolding get_at
get_behind form = is_behind (message form) (lead form + 5) get_or_forward (cell_name_at also byte_within_at 1 64) (λ p. messages.Get p.0 p.1) (λ y h. h) (λ y. refl) get_read (λ x rest. tt)

forward_behind : (form : Form) → IsBehind (message form) (lead form + 6) forward_at get_or_forward.Fault
unfolding forward_at
forward_behind form =
    is_behind (message form) (lead form + 6) get_or_forward (cell_name_at also byte_within_at 1 64) (λ p. messages.Forward p.0 p.1) (λ y h. h) (λ y. refl) get_read (λ x rest. tt)

put_behind : (form : Form) → IsBehind (message form) (lead form + 7) (put_at form) (put form).Fault
unfolding put_at
put_behind form = is_behind (message form) (lead form + 7) (put form) (cell_name_at also var_name_at also bundle_at form) (λ p. messages.Put p.0 p.1.0 p.1.1) (λ y h. h) (λ y. refl) (put_read form) (λ x rest. tt)

port_send_behind : IsBehind (message forms.Two) (lead forms.Two + 8) port_send_at port_send.Fault
unfolding port_send_at
port_send_behind = is_behind (message forms.Two) (lead forms.Two + 8) port_send (port_name_at also thread_name_at also byte_within_at 1 64) (λ p. messages.PortSend p.0 p.1.0 p.1.1) (λ y h. (tt, h)) (λ y. refl) port_send_read (λ x rest. tt)

port_end_behind : IsBehind (message forms.Two) (lead forms.Two + 9) (port_end_at forms.Two) (port_end forms.Two).Fault
unfolding port_end_at
port_end_behind =
    is_behind (message forms.Two) (lead forms.Two + 9) (port_end forms.Two) (thread_name_at also var_name_at also var_name_at also bundle_at forms.Two) (λ p. messages.PortEnd p.0 p.1.0 p.1.1.0 p.1.1.1) (λ y h. (tt, h)) (λ y. refl) (port_end_read forms.Two) (λ x rest. tt)

cell_make_behind : IsBehind (message forms.Two) (lead forms.Two + 10) (cell_make_at forms.Two) (cell_make forms.Two).Fault
unfolding cell_make_at
cell_make_behind =
    is_behind (message forms.Two) (lead forms.Two + 10) (cell_make forms.Two) (stationary_name_at also var_name_at also bundle_at forms.Two) (λ p. messages.CellMake p.0 p.1.0 p.1.1) (λ y h. (tt, h)) (λ y. refl) (cell_make_read forms.Two) (λ x rest. tt)

cell_ask_behind : IsBehind (message forms.Two) (lead forms.Two + 11) (cell_ask_at forms.Two) (cell_ask forms.Two).Fault
unfolding cell_ask_at
cell_ask_behind =
    is_behind (message forms.Two) (lead forms.Two + 11) (cell_ask forms.Two) (stationary_name_at also thread_name_at also byte_within_at 1 64 also var_name_at also bundle_at forms.Two)
    (λ p. messages.CellAsk p.0 p.1.0 p.1.1.0 p.1.1.1.0 p.1.1.1.1) (λ y h. (tt, h)) (λ y. refl) (cell_ask_read forms.Two) (λ x rest. tt)

cell_old_behind : IsBehind (message forms.Two) (lead forms.Two + 12) (cell_old_at forms.Two) (cell_old forms.Two).Fault
unfolding cell_old_at
cell_old_behind = is_behind (message forms.Two) (lead forms.Two + 12) (cell_old forms.Two) (thread_name_at also var_name_at also bundle_at forms.Two) (λ p. messages.CellOld p.0 p.1.0 p.1.1) (λ y h. (tt, h)) (λ y. refl) (cell_old_read forms.Two) (λ x rest. tt)

-- ---- messages of one form

-- a message of this form
pub message_in : Form → Left → Read WireFault Msg
message_in form l = do
  first ← byte_at l
  body_at form l.0 (first.0 - lead form) first.1

is_kind : (form : Form) (first k : ℕ) → 0 < k → eqb (first - lead form) k ≡ true → first ≡ lead form + k
is_kind form first k some e = let h = eqb-true (first - lead form) k e in omega (arith, h, some)

no_kind : (form : Form) (first k : ℕ) → eqb (first - lead form) k ≡ false → first ≡ lead form + k → ⊥
no_kind form first k e h = let n = eqb-false (first - lead form) k e in n (omega (arith, h))

takes_kind : (form : Form) (first k : ℕ) (R : Left → Read WireFault Msg) (Fault : Faults WireFault) → 0 < k → IsBehind (message form) (lead form + k) R Fault → (other : Read WireFault Msg) (at : ℕ) (bytes : List ℕ) (x : Msg) (m : Left) → IsBytes bytes
    → (other ≡ Ok (x, m) → Takes IsBytes (message form) at (first ∷ bytes) x m) → cond (eqb (first - lead form) k) (R (at + 1, bytes)) other ≡ Ok (x, m) → Takes IsBytes (message form) at (first ∷ bytes) x m
takes_kind form first k R Fault some here other at bytes x m fits go e =
    takes_if (message form) first (lead form + k) (eqb (first - lead form) k) R Fault here (is_kind form first k some) other at bytes x m fits go e

fails_kind : (form : Form) (first k : ℕ) (R : Left → Read WireFault Msg) (Fault : Faults WireFault) → 0 < k → IsBehind (message form) (lead form + k) R Fault → (other : Read WireFault Msg) (Others : Type 0) (at : ℕ) (bytes : List ℕ) (f : WireFault) → IsBytes bytes
    → ((first ≡ lead form + k → ⊥) → other ≡ Err f → Others) → cond (eqb (first - lead form) k) (R (at + 1, bytes)) other ≡ Err f → ((first ≡ lead form + k) × Fault (at + 1) bytes f) ⊎ Others
fails_kind form first k R Fault some here other Others at bytes f fits go e =
    fails_if (message form) first (lead form + k) (eqb (first - lead form) k) R Fault here (is_kind form first k some) (no_kind form first k) other Others at bytes f fits go e

-- what is read behind a kind
kind_at : (form : Form) (at first k : ℕ) (bytes : List ℕ) → first ≡ lead form + k → body_at form at (first - lead form) (at + 1, bytes) ≡ body_at form at k (at + 1, bytes)
kind_at form at first k bytes h = ap (λ (n : ℕ). body_at form at n (at + 1, bytes)) (omega (arith, h))

-- ---- kinds that form 2 alone has

later_takes : (form : Form) (first at : ℕ) (bytes : List ℕ) (x : Msg) (m : Left) → IsBytes bytes → later_body_at form at (first - lead form) (at + 1, bytes) ≡ Ok (x, m) → Takes IsBytes (message form) at (first ∷ bytes) x m
unfolding later_body_at
later_takes forms.One first at bytes x m fits e = absurd (no_ok (x, m) (Kind at) e)
later_takes forms.Two first at bytes x m fits e =
    takes_kind forms.Two first 8 _ _ (lit< tt) port_send_behind _ at bytes x m fits
    (takes_kind forms.Two first 9 _ _ (lit< tt) port_end_behind _ at bytes x m fits
    (takes_kind forms.Two first 10 _ _ (lit< tt) cell_make_behind _ at bytes x m fits
    (takes_kind forms.Two first 11 _ _ (lit< tt) cell_ask_behind _ at bytes x m fits
    (takes_kind forms.Two first 12 _ _ (lit< tt) cell_old_behind _ at bytes x m fits (λ d. absurd (no_ok (x, m) (Kind at) d))))))
    e

later_fails : (form : Form) (first at : ℕ) (bytes : List ℕ) (f : WireFault) → IsBytes bytes → (IsWithin (lead form + 1) (lead form + 7) first → ⊥) → later_body_at form at (first - lead form) (at + 1, bytes) ≡ Err f → LaterFault form at first bytes f
unfolding later_body_at
later_fails forms.One first at bytes f fits none e = (none, sym (err_is {A = Msg × Left} (Kind at) f e))
later_fails forms.Two first at bytes f fits none e =
    fails_kind forms.Two first 8 _ _ (lit< tt) port_send_behind _ _ at bytes f fits
    (λ n8. fails_kind forms.Two first 9 _ _ (lit< tt) port_end_behind _ _ at bytes f fits
    (λ n9. fails_kind forms.Two first 10 _ _ (lit< tt) cell_make_behind _ _ at bytes f fits
    (λ n10. fails_kind forms.Two first 11 _ _ (lit< tt) cell_ask_behind _ _ at bytes f fits
    (λ n11. fails_kind forms.Two first 12 _ _ (lit< tt) cell_old_behind _ _ at bytes f fits
    (λ n12 d. (λ k. none (k.0, omega (arith, n8, n9, n10, n11, n12, k.1)), sym (err_is {A = Msg × Left} (Kind at) f d)))))))
    e

later_other : (form : Form) (first at : ℕ) (bytes : List ℕ) (f : WireFault) → LaterFault form at first bytes f → (k : ℕ) → 0 < k → k ≤ 7 → first ≡ lead form + k → ⊥
later_other forms.One first at bytes f h k some few e = h.0 (omega (arith, e, some), omega (arith, e, few))
later_other forms.Two first at bytes f (inl h) k some few e = omega (arith, h.0, few, e)
later_other forms.Two first at bytes f (inr (inl h)) k some few e = omega (arith, h.0, few, e)
later_other forms.Two first at bytes f (inr (inr (inl h))) k some few e = omega (arith, h.0, few, e)
later_other forms.Two first at bytes f (inr (inr (inr (inl h)))) k some few e = omega (arith, h.0, few, e)
later_other forms.Two first at bytes f (inr (inr (inr (inr (inl h))))) k some few e = omega (arith, h.0, few, e)
later_other forms.Two first at bytes f (inr (inr (inr (inr (inr h))))) k some few e = h.0 (omega (arith, e, some), omega (arith, e, few))

-- what is read behind such a kind
later_at : (at first k : ℕ) (bytes : List ℕ) → first ≡ lead forms.Two + k → later_body_at forms.Two at (first - lead forms.Two) (at + 1, bytes) ≡ later_body_at forms.Two at k (at + 1, bytes)
later_at at first k bytes h = ap (λ (n : ℕ). later_body_at forms.Two at n (at + 1, bytes)) (omega (arith, h))

later_failing : (form : Form) (first at : ℕ) (bytes : List ℕ) (f : WireFault) → LaterFault form at first bytes f → later_body_at form at (first - lead form) (at + 1, bytes) ≡ Err f
unfolding later_body_at
later_failing forms.One first at bytes f h = ap (λ (g : WireFault). failed g) (sym h.1)
later_failing forms.Two first at bytes f (inl h) = later_at at first 8 bytes h.0 ∙ port_send_behind.failing at bytes f h.1
later_failing forms.Two first at bytes f (inr (inl h)) = later_at at first 9 bytes h.0 ∙ port_end_behind.failing at bytes f h.1
later_failing forms.Two first at bytes f (inr (inr (inl h))) = later_at at first 10 bytes h.0 ∙ cell_make_behind.failing at bytes f h.1
later_failing forms.Two first at bytes f (inr (inr (inr (inl h)))) = later_at at first 11 bytes h.0 ∙ cell_ask_behind.failing at bytes f h.1
later_failing forms.Two first at bytes f (inr (inr (inr (inr (inl h))))) = later_at at first 12 bytes h.0 ∙ cell_old_behind.failing at bytes f h.1
later_failing forms.Two first at bytes f (inr (inr (inr (inr (inr h))))) =
    passes (first - lead forms.Two) 8 _ _ _ (λ e. h.0 (omega (arith, e), omega (arith, e)))
    (passes (first - lead forms.Two) 9 _ _ _ (λ e. h.0 (omega (arith, e), omega (arith, e)))
    (passes (first - lead forms.Two) 10 _ _ _ (λ e. h.0 (omega (arith, e), omega (arith, e)))
    (passes (first - lead forms.Two) 11 _ _ _ (λ e. h.0 (omega (arith, e), omega (arith, e)))
    (passes (first - lead forms.Two) 12 _ _ _ (λ e. h.0 (omega (arith, e), omega (arith, e))) (ap (λ (g : WireFault). failed g) (sym h.1))))))

later_again : (form : Form) (at : ℕ) (x : Msg) (rest : List ℕ) → (message form).Has x → IsRequestOrAnswer x → message_in form (at, (message form).spelling x ++ rest) ≡ Ok (x, (at + length ((message form).spelling x), rest))
unfolding message_in body_at later_body_at port_send_at port_end_at cell_make_at cell_ask_at cell_old_at
later_again forms.Two at (messages.PortSend q t asking) rest has later =
    kind_at forms.Two at (lead forms.Two + 8) 8 (port_send.spelling (q, (t, asking)) ++ rest) refl ∙ again_behind port_send (port_name_at also thread_name_at also byte_within_at 1 64) (λ p. messages.PortSend p.0 p.1.0 p.1.1) (lead forms.Two + 8) at (q, (t, asking)) rest port_send_read has.1 ((tt, tt), ((tt, tt), tt))
later_again forms.Two at (messages.PortEnd t old new es) rest has later =
    kind_at forms.Two at (lead forms.Two + 9) 9 ((port_end forms.Two).spelling (t, (old, (new, es))) ++ rest) refl ∙ again_behind (port_end forms.Two) (thread_name_at also var_name_at also var_name_at also bundle_at forms.Two) (λ p. messages.PortEnd p.0 p.1.0 p.1.1.0 p.1.1.1) (lead forms.Two + 9) at (t, (old, (new, es))) rest (port_end_read forms.Two) has.1 ((tt, tt), ((tt, tt), ((tt, tt), tt)))
later_again forms.Two at (messages.CellMake c x es) rest has later =
    kind_at forms.Two at (lead forms.Two + 10) 10 ((cell_make forms.Two).spelling (c, (x, es)) ++ rest) refl ∙ again_behind (cell_make forms.Two) (stationary_name_at also var_name_at also bundle_at forms.Two) (λ p. messages.CellMake p.0 p.1.0 p.1.1) (lead forms.Two + 10) at (c, (x, es)) rest (cell_make_read forms.Two) has.1 (((tt, tt), tt), ((tt, tt), tt))
later_again forms.Two at (messages.CellAsk c t asking new es) rest has later =
    kind_at forms.Two at (lead forms.Two + 11) 11 ((cell_ask forms.Two).spelling (c, (t, (asking, (new, es)))) ++ rest) refl ∙ again_behind (cell_ask forms.Two) (stationary_name_at also thread_name_at also byte_within_at 1 64 also var_name_at also bundle_at forms.Two) (λ p. messages.CellAsk p.0 p.1.0 p.1.1.0 p.1.1.1.0 p.1.1.1.1) (lead forms.Two + 11) at (c, (t, (asking, (new, es)))) rest (cell_ask_read forms.Two) has.1 (((tt, tt), tt), ((tt, tt), (tt, ((tt, tt), tt))))
later_again forms.Two at (messages.CellOld t x es) rest has later =
    kind_at forms.Two at (lead forms.Two + 12) 12 ((cell_old forms.Two).spelling (t, (x, es)) ++ rest) refl ∙ again_behind (cell_old forms.Two) (thread_name_at also var_name_at also bundle_at forms.Two) (λ p. messages.CellOld p.0 p.1.0 p.1.1) (lead forms.Two + 12) at (t, (x, es)) rest (cell_old_read forms.Two) has.1 ((tt, tt), ((tt, tt), tt))
later_again forms.One at (messages.PortSend q t asking) rest has later = absurd has.0
later_again forms.One at (messages.PortEnd t old new es) rest has later = absurd has.0
later_again forms.One at (messages.CellMake c x es) rest has later = absurd has.0
later_again forms.One at (messages.CellAsk c t asking new es) rest has later = absurd has.0
later_again forms.One at (messages.CellOld t x es) rest has later = absurd has.0
later_again form at (messages.Spawn t c vars es) rest has later = absurd later
later_again form at (messages.Register x asking) rest has later = absurd later
later_again form at (messages.BindReq x t u es) rest has later = absurd later
later_again form at (messages.Binding x u es) rest has later = absurd later
later_again form at (messages.Get c asking) rest has later = absurd later
later_again form at (messages.Forward c next) rest has later = absurd later
later_again form at (messages.Put c x es) rest has later = absurd later

pub message_read : (form : Form) → IsRead IsBytes (message form) (message_in form)
unfolding message_in body_at spawn_at register_at bind_request_at binding_at get_at forward_at put_at
message_read form = record { takes = takes; again = again; fails = fails; failing = failing }
  where
    takes : (at : ℕ) (bytes : List ℕ) (x : Msg) (m : Left) → IsBytes bytes → message_in form (at, bytes) ≡ Ok (x, m) → Takes IsBytes (message form) at bytes x m
    takes at [] x m fits e = absurd (no_ok (x, m) (Short at) e)
    takes at (first ∷ bytes) x m fits e =
        let small = IsBytes-rest first bytes fits in
        takes_kind form first 1 _ _ (lit< tt) (spawn_behind form) _ at bytes x m small
        (takes_kind form first 2 _ _ (lit< tt) (register_behind form) _ at bytes x m small
        (takes_kind form first 3 _ _ (lit< tt) (bind_request_behind form) _ at bytes x m small
        (takes_kind form first 4 _ _ (lit< tt) (binding_behind form) _ at bytes x m small
        (takes_kind form first 5 _ _ (lit< tt) (get_behind form) _ at bytes x m small
        (takes_kind form first 6 _ _ (lit< tt) (forward_behind form) _ at bytes x m small
        (takes_kind form first 7 _ _ (lit< tt) (put_behind form) _ at bytes x m small (λ d. later_takes form first at bytes x m small d)))))))
        e

    again : (at : ℕ) (x : Msg) (rest : List ℕ) → (message form).Has x → Unit {0} → message_in form (at, (message form).spelling x ++ rest) ≡ Ok (x, (at + length ((message form).spelling x), rest))
    again at (messages.Spawn t c vars es) rest has ends =
        kind_at form at (lead form + 1) 1 ((spawn form).spelling (t, (c, (vars, es))) ++ rest) refl ∙ again_behind (spawn form) (thread_name_at also code_at also variables_at also bundle_at form) (λ p. messages.Spawn p.0 p.1.0 p.1.1.0 p.1.1.1) (lead form + 1) at (t, (c, (vars, es))) rest (spawn_read form) has ((tt, tt), (tt, (tt, tt)))
    again at (messages.Register x asking) rest has ends =
        kind_at form at (lead form + 2) 2 (register.spelling (x, asking) ++ rest) refl ∙ again_behind register (var_name_at also byte_within_at 1 64) (λ p. messages.Register p.0 p.1) (lead form + 2) at (x, asking) rest register_read has ((tt, tt), tt)
    again at (messages.BindReq x t u es) rest has ends =
        kind_at form at (lead form + 3) 3 ((bind_request form).spelling (x, (t, (u, es))) ++ rest) refl ∙ again_behind (bind_request form) (var_name_at also thread_name_at also term_at form also bundle_at form) (λ p. messages.BindReq p.0 p.1.0 p.1.1.0 p.1.1.1) (lead form + 3) at (x, (t, (u, es))) rest (bind_request_read form) has ((tt, tt), ((tt, tt), (tt, tt)))
    again at (messages.Binding x u es) rest has ends =
        kind_at form at (lead form + 4) 4 ((binding form).spelling (x, (u, es)) ++ rest) refl ∙ again_behind (binding form) (var_name_at also term_at form also bundle_at form) (λ p. messages.Binding p.0 p.1.0 p.1.1) (lead form + 4) at (x, (u, es)) rest (binding_read form) has ((tt, tt), (tt, tt))
    again at (messages.Get c asking) rest has ends =
        kind_at form at (lead form + 5) 5 (get_or_forward.spelling (c, asking) ++ rest) refl ∙ again_behind get_or_forward (cell_name_at also byte_within_at 1 64) (λ p. messages.Get p.0 p.1) (lead form + 5) at (c, asking) rest get_read has ((tt, (tt, tt)), tt)
    again at (messages.Forward c next) rest has ends =
        kind_at form at (lead form + 6) 6 (get_or_forward.spelling (c, next) ++ rest) refl ∙ again_behind get_or_forward (cell_name_at also byte_within_at 1 64) (λ p. messages.Forward p.0 p.1) (lead form + 6) at (c, next) rest get_read has ((tt, (tt, tt)), tt)
    again at (messages.Put c x es) rest has ends =
        kind_at form at (lead form + 7) 7 ((put form).spelling (c, (x, es)) ++ rest) refl ∙ again_behind (put form) (cell_name_at also var_name_at also bundle_at form) (λ p. messages.Put p.0 p.1.0 p.1.1) (lead form + 7) at (c, (x, es)) rest (put_read form) has ((tt, (tt, tt)), ((tt, tt), tt))
    again at (messages.PortSend q t asking) rest has ends = later_again form at (messages.PortSend q t asking) rest has tt
    again at (messages.PortEnd t old new es) rest has ends = later_again form at (messages.PortEnd t old new es) rest has tt
    again at (messages.CellMake c x es) rest has ends = later_again form at (messages.CellMake c x es) rest has tt
    again at (messages.CellAsk c t asking new es) rest has ends = later_again form at (messages.CellAsk c t asking new es) rest has tt
    again at (messages.CellOld t x es) rest has ends = later_again form at (messages.CellOld t x es) rest has tt

    fails : (at : ℕ) (bytes : List ℕ) (f : WireFault) → IsBytes bytes → message_in form (at, bytes) ≡ Err f → (message form).Fault at bytes f
    fails at [] f fits e = sym (err_is {A = Msg × Left} (Short at) f e)
    fails at (first ∷ bytes) f fits e =
        let small = IsBytes-rest first bytes fits in
        fails_kind form first 1 _ _ (lit< tt) (spawn_behind form) _ _ at bytes f small
        (λ n1. fails_kind form first 2 _ _ (lit< tt) (register_behind form) _ _ at bytes f small
        (λ n2. fails_kind form first 3 _ _ (lit< tt) (bind_request_behind form) _ _ at bytes f small
        (λ n3. fails_kind form first 4 _ _ (lit< tt) (binding_behind form) _ _ at bytes f small
        (λ n4. fails_kind form first 5 _ _ (lit< tt) (get_behind form) _ _ at bytes f small
        (λ n5. fails_kind form first 6 _ _ (lit< tt) (forward_behind form) _ _ at bytes f small
        (λ n6. fails_kind form first 7 _ _ (lit< tt) (put_behind form) _ _ at bytes f small
        (λ n7 d. later_fails form first at bytes f small (λ k. omega (arith, n1, n2, n3, n4, n5, n6, n7, k.0, k.1)) d)))))))
        e

    failing : (at : ℕ) (bytes : List ℕ) (f : WireFault) → (message form).Fault at bytes f → message_in form (at, bytes) ≡ Err f
    failing at [] f h = ap (λ (g : WireFault). failed g) (sym h)
    failing at (first ∷ bytes) f (inl h) = kind_at form at first 1 bytes h.0 ∙ (spawn_behind form).failing at bytes f h.1
    failing at (first ∷ bytes) f (inr (inl h)) = kind_at form at first 2 bytes h.0 ∙ (register_behind form).failing at bytes f h.1
    failing at (first ∷ bytes) f (inr (inr (inl h))) = kind_at form at first 3 bytes h.0 ∙ (bind_request_behind form).failing at bytes f h.1
    failing at (first ∷ bytes) f (inr (inr (inr (inl h)))) = kind_at form at first 4 bytes h.0 ∙ (binding_behind form).failing at bytes f h.1
    failing at (first ∷ bytes) f (inr (inr (inr (inr (inl h))))) = kind_at form at first 5 bytes h.0 ∙ (get_behind form).failing at bytes f h.1
    failing at (first ∷ bytes) f (inr (inr (inr (inr (inr (inl h)))))) = kind_at form at first 6 bytes h.0 ∙ (forward_behind form).failing at bytes f h.1
    failing at (first ∷ bytes) f (inr (inr (inr (inr (inr (inr (inl h))))))) = kind_at form at first 7 bytes h.0 ∙ (put_behind form).failing at bytes f h.1
    failing at (first ∷ bytes) f (inr (inr (inr (inr (inr (inr (inr h))))))) =
        let other : (k : ℕ) → 0 < k → k ≤ 7 → first - lead form ≡ k → ⊥ = λ k some few e. later_other form first at bytes f h k some few (omega (arith, e, some)) in
        passes (first - lead form) 1 _ _ _ (other 1 (lit< tt) (lit≤ tt))
        (passes (first - lead form) 2 _ _ _ (other 2 (lit< tt) (lit≤ tt))
        (passes (first - lead form) 3 _ _ _ (other 3 (lit< tt) (lit≤ tt))
        (passes (first - lead form) 4 _ _ _ (other 4 (lit< tt) (lit≤ tt))
        (passes (first - lead form) 5 _ _ _ (other 5 (lit< tt) (lit≤ tt))
        (passes (first - lead form) 6 _ _ _ (other 6 (lit< tt) (lit≤ tt))
        (passes (first - lead form) 7 _ _ _ (other 7 (lit< tt) (lit≤ tt)) (later_failing form first at bytes f h)))))))

-- ---- messages of either form

-- the first seven kinds are kinds of both forms
early : (form : Form) (k : ℕ) → 0 < k → k ≤ 7 → IsKind form (lead form + k)
early forms.One k some few = (omega (arith, some), omega (arith, few))
early forms.Two k some few = (omega (arith, some), omega (arith, few))

-- the first byte of a spelling is a kind
pub begins : (form : Form) (m : Msg) → (message form).Has m → (byte : ℕ) × (rest : List ℕ) × (spelling form m ≡ byte ∷ rest) × IsKind form byte
begins form (messages.Spawn t c vars es) has = (lead form + 1, (spawn form).spelling (t, (c, (vars, es))), refl, early form 1 (lit< tt) (lit≤ tt))
begins form (messages.Register x asking) has = (lead form + 2, register.spelling (x, asking), refl, early form 2 (lit< tt) (lit≤ tt))
begins form (messages.BindReq x t u es) has = (lead form + 3, (bind_request form).spelling (x, (t, (u, es))), refl, early form 3 (lit< tt) (lit≤ tt))
begins form (messages.Binding x u es) has = (lead form + 4, (binding form).spelling (x, (u, es)), refl, early form 4 (lit< tt) (lit≤ tt))
begins form (messages.Get c asking) has = (lead form + 5, get_or_forward.spelling (c, asking), refl, early form 5 (lit< tt) (lit≤ tt))
begins form (messages.Forward c next) has = (lead form + 6, get_or_forward.spelling (c, next), refl, early form 6 (lit< tt) (lit≤ tt))
begins form (messages.Put c x es) has = (lead form + 7, (put form).spelling (c, (x, es)), refl, early form 7 (lit< tt) (lit≤ tt))
begins forms.One (messages.PortSend q t asking) has = absurd has.0
begins forms.Two (messages.PortSend q t asking) has = (lead forms.Two + 8, port_send.spelling (q, (t, asking)), refl, (omega arith, omega arith))
begins forms.One (messages.PortEnd t old new es) has = absurd has.0
begins forms.Two (messages.PortEnd t old new es) has = (lead forms.Two + 9, (port_end forms.Two).spelling (t, (old, (new, es))), refl, (omega arith, omega arith))
begins forms.One (messages.CellMake c x es) has = absurd has.0
begins forms.Two (messages.CellMake c x es) has = (lead forms.Two + 10, (cell_make forms.Two).spelling (c, (x, es)), refl, (omega arith, omega arith))
begins forms.One (messages.CellAsk c t asking new es) has = absurd has.0
begins forms.Two (messages.CellAsk c t asking new es) has = (lead forms.Two + 11, (cell_ask forms.Two).spelling (c, (t, (asking, (new, es)))), refl, (omega arith, omega arith))
begins forms.One (messages.CellOld t x es) has = absurd has.0
begins forms.Two (messages.CellOld t x es) has = (lead forms.Two + 12, (cell_old forms.Two).spelling (t, (x, es)), refl, (omega arith, omega arith))

pub no_kind_of_both : (byte : ℕ) → IsKind forms.One byte → IsKind forms.Two byte → ⊥
no_kind_of_both byte one two = omega (arith, one.1, two.0)

-- a kind tells its form
form_is : (form : Form) (byte : ℕ) → IsKind form byte → form_of byte ≡ form
unfolding form_of
form_is forms.One byte h = ap (λ (b : Bool). cond b forms.One forms.Two) (lt-ltb byte 16 (omega (arith, h.1)))
form_is forms.Two byte h = ap (λ (b : Bool). cond b forms.One forms.Two) (le-ltb byte 16 (omega (arith, h.0)))

-- bytes are read in the form that the first of them tells
in_form : (at first : ℕ) (bytes : List ℕ) → message_at (at, first ∷ bytes) ≡ message_in (form_of first) (at, first ∷ bytes)
unfolding message_at message_in
in_form at first bytes = refl

-- bytes that begin with a kind of the form are read in it
in_kind : (form : Form) (at first : ℕ) (bytes : List ℕ) → IsKind form first → message_at (at, first ∷ bytes) ≡ message_in form (at, first ∷ bytes)
in_kind form at first bytes h = in_form at first bytes ∙ ap (λ (g : Form). message_in g (at, first ∷ bytes)) (form_is form first h)

pub message_takes : (at : ℕ) (bytes : List ℕ) (x : Msg) (m : Left) → IsBytes bytes → message_at (at, bytes) ≡ Ok (x, m) → (form : Form) × Takes IsBytes (message form) at bytes x m
unfolding message_at
message_takes at [] x m fits e = absurd (no_ok (x, m) (Short at) e)
message_takes at (first ∷ bytes) x m fits e = (form_of first, (message_read (form_of first)).takes at (first ∷ bytes) x m fits (sym (in_form at first bytes) ∙ e))

pub message_again : (form : Form) (at : ℕ) (x : Msg) (rest : List ℕ) → (message form).Has x → message_at (at, spelling form x ++ rest) ≡ Ok (x, (at + length (spelling form x), rest))
message_again form at x rest has =
    let b = begins form x has in
    let bytes = b.1 ++ rest in
    let parts : spelling form x ++ rest ≡ b.0 ∷ bytes = ap (λ (z : List ℕ). z ++ rest) b.2 in
    ap (λ (z : List ℕ). message_at (at, z)) parts
    ∙ in_kind form at b.0 bytes b.3
    ∙ ap (λ (z : List ℕ). message_in form (at, z)) (sym parts)
    ∙ (message_read form).again at x rest has tt

neither : (form : Form) (byte : ℕ) → (IsKind forms.One byte → ⊥) → (IsKind forms.Two byte → ⊥) → IsKind form byte → ⊥
neither forms.One byte one two = one
neither forms.Two byte one two = two

within_cases : (least most n : ℕ) → IsWithin least most n ⊎ (IsWithin least most n → ⊥)
within_cases least most n = elim (cases_lt n least) [
  | inl low ↦ inr (λ h. omega (arith, h.0, low))
  | inr high ↦ elim (cases_lt most n) [
    | inl above ↦ inr (λ h. omega (arith, h.1, above))
    | inr below ↦ inl (high, below)
  ]
]

kind_cases : (byte : ℕ) → IsKind forms.One byte ⊎ IsKind forms.Two byte ⊎ ((IsKind forms.One byte → ⊥) × (IsKind forms.Two byte → ⊥))
kind_cases byte = elim (cases_lt byte 16) [ inl low ↦ one low | inr high ↦ two high ]
  where
    one : byte < 16 → IsKind forms.One byte ⊎ IsKind forms.Two byte ⊎ ((IsKind forms.One byte → ⊥) × (IsKind forms.Two byte → ⊥))
    one low = elim (within_cases 1 7 byte) [
      | inl h ↦ inl h
      | inr h ↦ inr (inr (h, λ k. omega (arith, k.0, low)))
    ]

    two : 16 ≤ byte → IsKind forms.One byte ⊎ IsKind forms.Two byte ⊎ ((IsKind forms.One byte → ⊥) × (IsKind forms.Two byte → ⊥))
    two high = elim (within_cases 17 28 byte) [
      | inl h ↦ inr (inl h)
      | inr h ↦ inr (inr (λ k. omega (arith, k.1, high), h))
    ]

is_early : (form : Form) (first k : ℕ) → (IsKind form first → ⊥) → 0 < k → k ≤ 7 → first ≡ lead form + k → ⊥
is_early form first k none some few e = none (subst (λ (n : ℕ). IsKind form n) (sym e) (early form k some few))

later_kind : (form : Form) (at first : ℕ) (bytes : List ℕ) (f : WireFault) → (IsKind form first → ⊥) → LaterFault form at first bytes f → f ≡ Kind at
later_kind forms.One at first bytes f none h = h.1
later_kind forms.Two at first bytes f none (inl h) = absurd (none (omega (arith, h.0), omega (arith, h.0)))
later_kind forms.Two at first bytes f none (inr (inl h)) = absurd (none (omega (arith, h.0), omega (arith, h.0)))
later_kind forms.Two at first bytes f none (inr (inr (inl h))) = absurd (none (omega (arith, h.0), omega (arith, h.0)))
later_kind forms.Two at first bytes f none (inr (inr (inr (inl h)))) = absurd (none (omega (arith, h.0), omega (arith, h.0)))
later_kind forms.Two at first bytes f none (inr (inr (inr (inr (inl h))))) = absurd (none (omega (arith, h.0), omega (arith, h.0)))
later_kind forms.Two at first bytes f none (inr (inr (inr (inr (inr h))))) = h.1

-- the first fault in the form of the first byte is that in either form
wire_fault : (at first : ℕ) (bytes : List ℕ) (f : WireFault) → (message (form_of first)).Fault at (first ∷ bytes) f → wire.Fault at (first ∷ bytes) f
wire_fault at first bytes f h = elim (kind_cases first) [
  | inl k ↦ inl (k, subst (λ (g : Form). (message g).Fault at (first ∷ bytes) f) (form_is forms.One first k) h)
  | inr (inl k) ↦ inr (inl (k, subst (λ (g : Form). (message g).Fault at (first ∷ bytes) f) (form_is forms.Two first k) h))
  | inr (inr k) ↦ inr (inr (k.0, k.1, only_kind (form_of first) at first bytes f (neither (form_of first) first k.0 k.1) h))
]
  where
    only_kind : (form : Form) (at first : ℕ) (bytes : List ℕ) (f : WireFault) → (IsKind form first → ⊥) → (message form).Fault at (first ∷ bytes) f → f ≡ Kind at
    only_kind form at first bytes f none (inl h) = absurd (is_early form first 1 none (lit< tt) (lit≤ tt) h.0)
    only_kind form at first bytes f none (inr (inl h)) = absurd (is_early form first 2 none (lit< tt) (lit≤ tt) h.0)
    only_kind form at first bytes f none (inr (inr (inl h))) = absurd (is_early form first 3 none (lit< tt) (lit≤ tt) h.0)
    only_kind form at first bytes f none (inr (inr (inr (inl h)))) = absurd (is_early form first 4 none (lit< tt) (lit≤ tt) h.0)
    only_kind form at first bytes f none (inr (inr (inr (inr (inl h))))) = absurd (is_early form first 5 none (lit< tt) (lit≤ tt) h.0)
    only_kind form at first bytes f none (inr (inr (inr (inr (inr (inl h)))))) = absurd (is_early form first 6 none (lit< tt) (lit≤ tt) h.0)
    only_kind form at first bytes f none (inr (inr (inr (inr (inr (inr (inl h))))))) = absurd (is_early form first 7 none (lit< tt) (lit≤ tt) h.0)
    only_kind form at first bytes f none (inr (inr (inr (inr (inr (inr (inr h))))))) = later_kind form at first bytes f none h

pub message_fails : (at : ℕ) (bytes : List ℕ) (f : WireFault) → IsBytes bytes → message_at (at, bytes) ≡ Err f → wire.Fault at bytes f
unfolding message_at
message_fails at [] f fits e = sym (err_is {A = Msg × Left} (Short at) f e)
message_fails at (first ∷ bytes) f fits e = wire_fault at first bytes f ((message_read (form_of first)).fails at (first ∷ bytes) f fits (sym (in_form at first bytes) ∙ e))

later_none : (form : Form) (at first : ℕ) (bytes : List ℕ) (f : WireFault) → (IsKind form first → ⊥) → f ≡ Kind at → LaterFault form at first bytes f
later_none forms.One at first bytes f none same = (none, same)
later_none forms.Two at first bytes f none same = inr (inr (inr (inr (inr (none, same)))))

-- bytes that begin with no kind have this fault
no_kind_fault : (form : Form) (at first : ℕ) (bytes : List ℕ) (f : WireFault) → (IsKind form first → ⊥) → f ≡ Kind at → (message form).Fault at (first ∷ bytes) f
no_kind_fault form at first bytes f none same = inr (inr (inr (inr (inr (inr (inr (later_none form at first bytes f none same)))))))

pub message_failing : (at : ℕ) (bytes : List ℕ) (f : WireFault) → wire.Fault at bytes f → message_at (at, bytes) ≡ Err f
unfolding message_at
message_failing at [] f h = ap (λ (g : WireFault). failed g) (sym h)
message_failing at (first ∷ bytes) f (inl h) = in_kind forms.One at first bytes h.0 ∙ (message_read forms.One).failing at (first ∷ bytes) f h.1
message_failing at (first ∷ bytes) f (inr (inl h)) = in_kind forms.Two at first bytes h.0 ∙ (message_read forms.Two).failing at (first ∷ bytes) f h.1
message_failing at (first ∷ bytes) f (inr (inr h)) =
    in_form at first bytes
    ∙ (message_read (form_of first)).failing at (first ∷ bytes) f (no_kind_fault (form_of first) at first bytes f (neither (form_of first) first h.0 h.1) h.2)
