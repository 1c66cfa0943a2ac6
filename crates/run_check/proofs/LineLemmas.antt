-- What a variable shows as has no newline in it.
use Rattle.std.proofs.Common.{arith, ◌≡◌, ◌∙◌, sym, ap, refl, subst, ℕ, zero, suc, ◌+◌, ◌-◌, List, [], ◌∷◌, ◌++◌, Bool, true, false, cond, Option, Some, None}
use Rattle.std.specs.Prelude.{codes, not, ℤ, pos, negsuc, ◌==◌, ◌/◌, ◌%◌, nat_lt, ◌&&◌, ◌||◌}
use Rattle.std.specs.Fmt.{decimal, digits, digits_onto, digit_glyph}
use Rattle.std.specs.List.{list_all}
use Rattle.std.proofs.lemmas.Bool.{and_parts, and_from, ne_eqb}
use Rattle.tree_node.specs.declared.names.VarName.{VarName}
use Rattle.tree_node.specs.declared.node.Feature.{Feature}
use Rattle.tree_node.specs.declared.node.Feature.TheVariants as feature
use Rattle.tree_node.specs.declared.node.Node.{Node}
use Rattle.tree_node.specs.declared.node.Node.TheVariants as node
use Rattle.tree_node.specs.Store.{Store, node_of}
use Rattle.tree_node.specs.Spelling.{int_text, is_word_byte, is_bare, escaped_text, atom_text, feature_text, proc_text}
use Rattle.tree_node.specs.Shown.{Show, Text, Needs, Walk, Shown, and_then, is_feature, head_and_tail, is_pair, in_brackets, is_cut, show_pair, field_text, show_fields, after_field, show_record, show_rec, show_node, show_option, show_var, shown_within}
use Rattle.world_model.proofs.PutLemmas.{nat_decides}
use Rattle.byte_fields.specs.Text.{is_in_line, IsLine}

-- ---- lists of bytes

pub line_joined : (xs ys : List ℕ) → IsLine xs → IsLine ys → IsLine (xs ++ ys)
line_joined [] ys h k = k
line_joined (x ∷ xs) ys h k =
    let both = and_parts (is_in_line x) (list_all is_in_line xs) h in
    and_from (is_in_line x) (list_all is_in_line (xs ++ ys)) both.0 (line_joined xs ys both.1 k)

line_more : (x : ℕ) (xs : List ℕ) → is_in_line x ≡ true → IsLine xs → IsLine (x ∷ xs)
line_more x xs h k = and_from (is_in_line x) (list_all is_in_line xs) h k

-- ---- numbers

above : (n d : ℕ) → (n + d == 10) ≡ false → is_in_line (n + d) ≡ true
above n d e = ap not e

glyph_line : (upper : Bool) (d : ℕ) → is_in_line (digit_glyph upper d) ≡ true
glyph_line upper d = by (nat_lt d 10) upper
  where
    by : (b u : Bool) → is_in_line (cond b (48 + d) (cond u (55 + d) (87 + d))) ≡ true
    by true u = above 48 d (ne_eqb (48 + d) 10 (λ e. absurd (omega (arith, e))))
    by false true = above 55 d (ne_eqb (55 + d) 10 (λ e. absurd (omega (arith, e))))
    by false false = above 87 d (ne_eqb (87 + d) 10 (λ e. absurd (omega (arith, e))))

digits_line : (k base : ℕ) (upper : Bool) (n : ℕ) (acc : List ℕ) → IsLine acc → IsLine (digits_onto k base upper n acc)
digits_line zero base upper n acc h = h
digits_line (suc k) base upper n acc h = by (n / base == 0) (digits_line k base upper (n / base) (digit_glyph upper (n % base) ∷ acc) more)
  where
    more : IsLine (digit_glyph upper (n % base) ∷ acc)
    more = line_more (digit_glyph upper (n % base)) acc (glyph_line upper (n % base)) h

    by : (b : Bool) → IsLine (digits_onto k base upper (n / base) (digit_glyph upper (n % base) ∷ acc)) → IsLine (cond b (digit_glyph upper (n % base) ∷ acc) (digits_onto k base upper (n / base) (digit_glyph upper (n % base) ∷ acc)))
    by true rest = more
    by false rest = rest

pub decimal_line : (n : ℕ) → IsLine (decimal n)
unfolding digits
decimal_line n = digits_line 64 10 false n [] refl

int_line : (z : ℤ) → IsLine (int_text z)
int_line (pos n) = decimal_line n
int_line (negsuc n) = line_more 126 (decimal (suc n)) refl (decimal_line (suc n))

-- ---- atoms

word_line : (t : List ℕ) → list_all is_word_byte t ≡ true → IsLine t
word_line [] h = refl
word_line (c ∷ cs) h =
    let both = and_parts (is_word_byte c) (list_all is_word_byte cs) h in
    line_more c cs (by (c == 10) refl both.0) (word_line cs both.1)
  where
    by : (b : Bool) → (c == 10) ≡ b → is_word_byte c ≡ true → is_in_line c ≡ true
    by false e k = ap not e
    by true e k = let ten : c ≡ 10 = (nat_decides c 10).0 e in let no : false ≡ true = ap is_word_byte (sym ten) ∙ k in cc

escaped_line : (t : List ℕ) → IsLine (escaped_text t)
escaped_line [] = refl
escaped_line (c ∷ cs) = line_joined (cond (c == 10) (92 ∷ 110 ∷ []) (cond ((c == 39) || (c == 92)) (92 ∷ c ∷ []) (c ∷ []))) (escaped_text cs) (one (c == 10) refl) (escaped_line cs)
  where
    one : (b : Bool) → (c == 10) ≡ b → IsLine (cond b (92 ∷ 110 ∷ []) (cond ((c == 39) || (c == 92)) (92 ∷ c ∷ []) (c ∷ [])))
    one true e = refl
    one false e = two ((c == 39) || (c == 92))
      where
        two : (b : Bool) → IsLine (cond b (92 ∷ c ∷ []) (c ∷ []))
        two true = line_more 92 (c ∷ []) refl (line_more c [] (ap not e) refl)
        two false = line_more c [] (ap not e) refl

atom_line : (t : List ℕ) → IsLine (atom_text t)
atom_line t = by (is_bare t) refl
  where
    by : (b : Bool) → is_bare t ≡ b → IsLine (cond b t (39 ∷ (escaped_text t ++ 39 ∷ [])))
    by true e = let parts = and_parts _ _ e in word_line t (and_parts _ _ parts.1).0
    by false e = line_more 39 (escaped_text t ++ 39 ∷ []) refl (line_joined (escaped_text t) (39 ∷ []) (escaped_line t) refl)

feature_line : (f : Feature) → IsLine (feature_text f)
feature_line (feature.Int z) = int_line z
feature_line (feature.Atom t) = atom_line t

proc_line : (n : ℕ) → IsLine (proc_text n)
proc_line n = line_joined (codes "<P/") (decimal n ++ 62 ∷ []) refl (line_joined (decimal n) (62 ∷ []) (decimal_line n) refl)

-- ---- what is shown

-- the text of a walk, if it has one, has no newline
abbrev Fits : Show → Type 0
Fits (Text text left) = IsLine text
Fits (Needs x) = Unit {0}

abbrev Walks : Walk → Type 0
Walks walk = (level left : ℕ) (x : VarName) → Fits (walk level left x)

then_fits : (w : Show) (next : List ℕ → ℕ → Show) → Fits w → ((text : List ℕ) (left : ℕ) → IsLine text → Fits (next text left)) → Fits (and_then w next)
then_fits (Text text left) next h k = k text left h
then_fits (Needs x) next h k = tt

brackets_line : (b : Bool) (text : List ℕ) → IsLine text → IsLine (in_brackets b text)
brackets_line true text h = line_more 40 (text ++ 41 ∷ []) refl (line_joined text (41 ∷ []) h refl)
brackets_line false text h = h

field_line : (next : ℕ) (f : Feature) (value : List ℕ) → IsLine value → IsLine (field_text next f value)
field_line next f value h = by (is_feature next f)
  where
    by : (b : Bool) → IsLine (cond b value (feature_text f ++ 58 ∷ value))
    by true = h
    by false = line_joined (feature_text f) (58 ∷ value) (feature_line f) (line_more 58 value refl h)

after_line : (one : List ℕ) (fs : List (Feature × VarName)) (others : List ℕ) → IsLine one → IsLine others → IsLine (after_field one fs others)
after_line one [] others h k = h
after_line one (f ∷ fs) others h k = line_joined one (32 ∷ others) h (line_more 32 others refl k)

fields_fit : (walk : Walk) (level left next : ℕ) (fields : List (Feature × VarName)) → Walks walk → Fits (show_fields walk level left next fields)
fields_fit walk level left next [] w = refl
fields_fit walk level left next ((f, x) ∷ fields) w =
    then_fits (walk (level + 1) left x) _ (w (level + 1) left x) (λ value rest h.
    then_fits (show_fields walk level rest (cond (is_feature next f) (next + 1) next) fields) _ (fields_fit walk level rest (cond (is_feature next f) (next + 1) next) fields w) (λ others end k.
    after_line (field_text next f value) fields others (field_line next f value h) k))

pair_fits : (s : Store) (walk : Walk) (level left : ℕ) (x y : VarName) → Walks walk → Fits (show_pair s walk level left x y)
pair_fits s walk level left x y w =
    then_fits (walk (level + 1) left x) _ (w (level + 1) left x) (λ head rest h.
    then_fits (walk level rest y) _ (w level rest y) (λ tail end k.
    line_joined (in_brackets (is_pair (node_of s x) && cond (is_cut (level + 1) left) false true) head) (124 ∷ tail) (brackets_line (is_pair (node_of s x) && cond (is_cut (level + 1) left) false true) head h) (line_more 124 tail refl k)))

record_fits : (walk : Walk) (level left : ℕ) (label : List ℕ) (fields : List (Feature × VarName)) → Walks walk → Fits (show_record walk level left label fields)
record_fits walk level left label fields w =
    then_fits (show_fields walk level left 1 fields) _ (fields_fit walk level left 1 fields w) (λ text rest h.
    line_joined (atom_text label) (40 ∷ (text ++ 41 ∷ [])) (atom_line label) (line_more 40 (text ++ 41 ∷ []) refl (line_joined text (41 ∷ []) h refl)))

rec_fits : (s : Store) (walk : Walk) (level left : ℕ) (label : List ℕ) (fields : List (Feature × VarName)) (o : Option (VarName × VarName)) → Walks walk → Fits (show_rec s walk level left label fields o)
rec_fits s walk level left label fields (Some (x, y)) w = pair_fits s walk level left x y w
rec_fits s walk level left label fields None w = record_fits walk level left label fields w

node_fits : (s : Store) (walk : Walk) (level left : ℕ) (n : Node) → Walks walk → Fits (show_node s walk level left n)
node_fits s walk level left (node.Rec label fields) w = rec_fits s walk level left label fields (head_and_tail (node.Rec label fields)) w
node_fits s walk level left (node.Int z) w = int_line z
node_fits s walk level left (node.Atom t) w = atom_line t
node_fits s walk level left (node.Proc formals code name vars) w = proc_line formals
node_fits s walk level left (node.Cell name) w = refl
node_fits s walk level left (node.Port name) w = refl

var_fits : (depth : ℕ) (s : Store) → Walks (show_var depth s)
var_fits zero s level left x = refl
var_fits (suc depth) s level left x = by (is_cut level left) (some (node_of s x) (var_fits depth s))
  where
    some : (o : Option Node) → Walks (show_var depth s) → Fits (show_option s (show_var depth s) level (left - 1) x o)
    some (Some n) w = node_fits s (show_var depth s) level (left - 1) n w
    some None w = tt

    by : (b : Bool) → Fits (show_option s (show_var depth s) level (left - 1) x (node_of s x)) → Fits (cond b (Text (codes ",,,") left) (show_option s (show_var depth s) level (left - 1) x (node_of s x)))
    by true h = refl
    by false h = h

pub shown_line : (s : Store) (x : VarName) (line : List ℕ) → Shown s x line → IsLine line
unfolding shown_within
shown_line s x line (left, is) = subst Fits is (var_fits 1000 s 1 1000 x)
