-- Items that a loop writes one after another, and lists of them that were written.
use Rattle.std.proofs.Common.{◌≡◌, refl, ℕ, zero, suc, ◌+◌, ◌<◌, ◌≤◌, List, [], ◌∷◌, ◌++◌, length, get_or, take, sym, ap, subst, ◌∙◌, append_assoc, arith, ◌%◌, Result, Ok, Err, cond}
use Rattle.std.specs.Prelude.{OnOk}
use Rattle.std.specs.Result.{is_ok}
use Rattle.std.specs.Int.{w8, to_be_bytes}
use Rattle.std.specs.List.{flat_map}
use Rattle.std.proofs.lemmas.List.{take_all}
use Rattle.tree_node.specs.declared.names.VarName.{VarName}
use Rattle.tree_node.specs.declared.names.CellName.{CellName}
use Rattle.tree_node.specs.declared.names.ThreadName.{ThreadName}
use Rattle.tree_node.specs.Each.{Each}
use Rattle.tree_node.specs.Store.{Equation}
use Rattle.wire_reader.specs.declared.fault.WireFault.{WireFault}
use Rattle.wire_reader.specs.declared.form.Form.{Form}
use Rattle.byte_fields.specs.Field.{Field, ◌before◌}
use Rattle.wire_form.specs.Writing.{IsWritten}
use Rattle.wire_reader.specs.Numbers.{IsMobileOr}
use Rattle.site_message.specs.declared.message.Msg.TheVariants as messages
use Rattle.wire_reader.specs.Format.{lead, IsTwo, site, cell_name, stationary_name, thread_name, HasCell, cell_spelling, message, var_name, formals, bundle}

pub each_get : {X : Type 0} (P : X → Type 0) (xs : List X) (i : ℕ) (d : X) → i < length xs → Each P xs → P (get_or xs i d)
each_get P [] i d lt h = absurd (omega (arith, lt))
each_get P (x ∷ xs) zero d lt h = h.0
each_get P (x ∷ xs) (suc i) d lt h = each_get P xs i d (omega (arith, lt)) h.1

-- the first items are written behind what stood there
pub record IsWriting {X : Type 0} (F : Field WireFault X) (start : List ℕ) (xs : List X) (i : ℕ) (out : List ℕ) : Type 0 where
  pub each : Each (λ x. F.Has x) (take i xs)
  pub written : out ≡ start ++ flat_map F.spelling (take i xs)

pub writing_all : {X : Type 0} (F : Field WireFault X) (start : List ℕ) (xs : List X) (i : ℕ) (out : List ℕ) → length xs ≤ i → IsWriting F start xs i out
    → Each (λ x. F.Has x) xs × (out ≡ start ++ flat_map F.spelling xs)
writing_all F start xs i out le w =
    let all = take_all i xs le in
    (subst (λ (ys : List _). Each (λ x. F.Has x) ys) all w.each, w.written ∙ ap (λ (ys : List _). start ++ flat_map F.spelling ys) all)

-- ---- one part after another

-- a tag, and what is written behind it
pub writes_tag : {Y U E : Type 0} (tag : ℕ) (G : Field WireFault Y) (y : Y) (old mid new : List ℕ) (r : Result U E) → mid ≡ old ++ tag ∷ [] → IsWritten G y mid new r
    → OnOk r (G.Has y × (new ≡ old ++ tag ∷ G.spelling y))
writes_tag tag G y old mid new (Ok u) put h = (h.0, h.1 ∙ ap (λ (z : List ℕ). z ++ G.spelling y) put ∙ append_assoc old (tag ∷ []) (G.spelling y))
writes_tag tag G y old mid new (Err e) put h = tt

pub writes_then : {X Y U E : Type 0} (F : Field WireFault X) (G : Field WireFault Y) (x : X) (y : Y) (old mid new : List ℕ) (r : Result U E) → F.Has x × (mid ≡ old ++ F.spelling x)
    → IsWritten G y mid new r → IsWritten (F before G) (x, y) old new r
writes_then F G x y old mid new (Ok u) one h =
    ((one.0, h.0), h.1 ∙ ap (λ (z : List ℕ). z ++ G.spelling y) one.1 ∙ append_assoc old (F.spelling x) (G.spelling y))
writes_then F G x y old mid new (Err e) one h = tt

-- what form 2 alone has
pub later_written : {E U : Type 0} (form : Form) (Has : Type 0) (old new spelled : List ℕ) (r : Result U E) → IsTwo form → OnOk r (Has × (new ≡ old ++ spelled)) → OnOk r ((IsTwo form × Has) × (new ≡ old ++ spelled))
later_written form Has old new spelled (Ok u) two h = ((two, h.0), h.1)
later_written form Has old new spelled (Err e) two h = tt

-- what asks the home of a cell, and its bundle
pub asked_written : {E U : Type 0} (form : Form) (c : CellName) (t : ThreadName) (asking : ℕ) (x : VarName) (es : List Equation) (old mid new : List ℕ) (r : Result U E) → IsTwo form
    → (stationary_name before thread_name before site before var_name).Has (c, (t, (asking, x))) × (mid ≡ old ++ (lead form + 11) ∷ (stationary_name before thread_name before site before var_name).spelling (c, (t, (asking, x))))
    → IsWritten (bundle form) es mid new r → IsWritten (message form) (messages.CellAsk c t asking x es) old new r
asked_written form c t asking x es old mid new (Err e) two one h = tt
asked_written form c t asking x es old mid new (Ok u) two one h = (
  (two, (one.0.0, (one.0.1.0, (one.0.1.1.0, (one.0.1.1.1, h.0))))),
  h.1 ∙ (ap (λ (z : List ℕ). z ++ (bundle form).spelling es) one.1 ∙ (append_assoc old ((lead form + 11) ∷ (stationary_name before thread_name before site before var_name).spelling (c, (t, (asking, x)))) ((bundle form).spelling es)
      ∙ ap (λ (z : List ℕ). old ++ (lead form + 11) ∷ z) joined)),
)
  where
    joined : (stationary_name.spelling c ++ (thread_name.spelling t ++ (site.spelling asking ++ var_name.spelling x))) ++ (bundle form).spelling es
        ≡ stationary_name.spelling c ++ (thread_name.spelling t ++ (site.spelling asking ++ (var_name.spelling x ++ (bundle form).spelling es)))
    joined =
        append_assoc (stationary_name.spelling c) (thread_name.spelling t ++ (site.spelling asking ++ var_name.spelling x)) ((bundle form).spelling es)
        ∙ ap (λ (z : List ℕ). stationary_name.spelling c ++ z)
        (append_assoc (thread_name.spelling t) (site.spelling asking ++ var_name.spelling x) ((bundle form).spelling es)
        ∙ ap (λ (z : List ℕ). thread_name.spelling t ++ z) (append_assoc (site.spelling asking) (var_name.spelling x) ((bundle form).spelling es)))

-- a cell as a value
pub mobile_written : {E U : Type 0} (form : Form) (c : CellName) (old mid new : List ℕ) (r : Result U E) → c.at ≡ 0 → mid ≡ old ++ 5 ∷ [] → IsWritten cell_name c mid new r → OnOk r (HasCell form c c.at × (new ≡ old ++ cell_spelling c c.at))
mobile_written form c old mid new r mobile put h =
    subst (λ (n : ℕ). OnOk r (HasCell form c n × (new ≡ old ++ cell_spelling c n))) (sym mobile) (writes_tag 5 cell_name c old mid new r put h)

pub stationary_written : {E U : Type 0} (form : Form) (c : CellName) (old mid new : List ℕ) (r : Result U E) → (c.at ≡ 0 → ⊥) → IsMobileOr (IsTwo form) c.at → mid ≡ old ++ 7 ∷ [] → IsWritten stationary_name c mid new r → OnOk r (HasCell form c c.at × (new ≡ old ++ cell_spelling c c.at))
stationary_written form c old mid new r some room put h = go c.at some room
  where
    go : (n : ℕ) → (n ≡ 0 → ⊥) → IsMobileOr (IsTwo form) n → OnOk r (HasCell form c n × (new ≡ old ++ cell_spelling c n))
    go zero none m = absurd (none refl)
    go (suc k) none m = later_written form (stationary_name.Has c) old new (7 ∷ stationary_name.spelling c) r m (writes_tag 7 stationary_name c old mid new r put h)

-- all bytes at once
pub writes_bytes : {X A E : Type 0} (F : Field WireFault X) (x : X) (old new bytes : List ℕ) (r : Result A E) → F.Has x → new ≡ cond (is_ok r) (old ++ bytes) old → bytes ≡ F.spelling x
    → IsWritten F x old new r
writes_bytes F x old new bytes (Ok a) has put spelled = (has, put ∙ ap (λ (z : List ℕ). old ++ z) spelled)
writes_bytes F x old new bytes (Err d) has put spelled = tt

-- ---- numbers of one and two bytes

pub byte_is : (n : ℕ) → n < 256 → n ∷ [] ≡ to_be_bytes w8 n
byte_is n small = let whole : n ≡ n % 256 = omega (arith, small) in ap (λ (k : ℕ). k ∷ []) whole

pub put_list : {X : Type 0} (F : Field WireFault X) (old mid new count : List ℕ) (xs : List X) → mid ≡ old ++ count → new ≡ mid ++ flat_map F.spelling xs
    → new ≡ old ++ (count ++ flat_map F.spelling xs)
put_list F old mid new count xs put more = more ∙ ap (λ (z : List ℕ). z ++ flat_map F.spelling xs) put ∙ append_assoc old count (flat_map F.spelling xs)

pub formals_written : (n : ℕ) (old new : List ℕ) → n ≤ 64 → new ≡ old ++ n ∷ [] → formals.Has n × (new ≡ old ++ formals.spelling n)
formals_written n old new most put = ((omega (arith, most), (omega arith, most)), put ∙ ap (λ (z : List ℕ). old ++ z) (byte_is n (omega (arith, most))))
