-- What a walk writes, part by part.
use Rattle.std.proofs.Common.{arith, ◌≡◌, ◌∙◌, sym, ap, refl, subst, ℕ, zero, suc, ◌+◌, ◌-◌, ◌<◌, List, [], ◌∷◌, ◌++◌, length, append_assoc, append-nil, ◌⊎◌, inl, inr, Bool, true, false, cond, Some, None}
use Rattle.std.specs.Prelude.{Option, codes}
use Rattle.tree_node.specs.declared.names.VarName.{VarName}
use Rattle.tree_node.specs.declared.node.Feature.{Feature}
use Rattle.tree_node.specs.declared.node.Node.{Node}
use Rattle.tree_node.specs.declared.node.Node.TheVariants as node
use Rattle.tree_node.specs.Spelling.{atom_text, feature_text}
use Rattle.tree_node.specs.Store.{Store, node_of}
use Rattle.tree_node.specs.Shown.{Show, Text, Needs, Walk, and_then, is_feature, head_and_tail, in_brackets, is_cut, field_text, after_field, show_var, show_option, show_node, show_rec, show_pair, show_fields}
use Rattle.tree_store.specs.Walk.{text_after, between, has_brackets, head_front, head_back, field_name, gap}

-- one walk and then another, from the nodes that the first leaves
abbrev in_turn : Show → (ℕ → Show) → Show
in_turn w next = and_then w (λ text left. text_after text (next left))

after_append : (a b : List ℕ) (w : Show) → text_after (a ++ b) w ≡ text_after a (text_after b w)
after_append a b (Text text left) = ap (λ (t : List ℕ). Text t left) (append_assoc a b text)
after_append a b (Needs x) = refl

turn_on : (done out : List ℕ) (w : Show) (rest : ℕ) (next : ℕ → Show) → Text out rest ≡ text_after done w → text_after out (next rest) ≡ text_after done (in_turn w next)
turn_on done out (Text text left) rest next e =
    let written : out ≡ done ++ text = cc in
    let nodes : rest ≡ left = cc in
    rw (written, nodes) (after_append done text (next left))
turn_on done out (Needs x) rest next e = cc

turn_needs : (done : List ℕ) (w : Show) (z : VarName) (next : ℕ → Show) → Needs z ≡ text_after done w → Needs z ≡ text_after done (in_turn w next)
turn_needs done (Text text left) z next e = cc
turn_needs done (Needs x) z next e = e

-- a front, a walk and a back
pub framed : (done opened out closed front back : List ℕ) (w : Show) (left : ℕ) → opened ≡ done ++ front → Text out left ≡ text_after opened w → closed ≡ out ++ back → Text closed left ≡ text_after done (between front back w)
framed done opened out closed front back (Text text rest) left p e q =
    let written : out ≡ opened ++ text = cc in
    let nodes : left ≡ rest = cc in
    let lists : closed ≡ done ++ (front ++ (text ++ back)) = q ∙ ap (λ (l : List ℕ). l ++ back) (written ∙ ap (λ (l : List ℕ). l ++ text) p) ∙ simp append_assoc in
    rw (lists, nodes) refl
framed done opened out closed front back (Needs x) left p e q = cc

pub framed_needs : (done opened front back : List ℕ) (w : Show) (z : VarName) → Needs z ≡ text_after opened w → Needs z ≡ text_after done (between front back w)
framed_needs done opened front back (Text text rest) z e = cc
framed_needs done opened front back (Needs x) z e = e

-- the cases of a variable
pub cut_shown : (depth level left : ℕ) (s : Store) (x : VarName) → (depth ≡ 0) ⊎ (is_cut level left ≡ true) → show_var depth s level left x ≡ Text (codes ",,,") left
cut_shown zero level left s x h = refl
cut_shown (suc depth) level left s x (inl e) = absurd (omega arith)
cut_shown (suc depth) level left s x (inr e) = rw e refl

found_shown : (depth d level left : ℕ) (s : Store) (x : VarName) (o : Option Node) → depth ≡ suc d → is_cut level left ≡ false → node_of s x ≡ o →
    show_var depth s level left x ≡ show_option s (show_var d s) level (left - 1) x o
found_shown zero d level left s x o p cut e = absurd (omega arith)
found_shown (suc depth) d level left s x o p cut e =
    let same : depth ≡ d = omega arith in
    subst (λ (k : ℕ). show_var (suc depth) s level left x ≡ show_option s (show_var k s) level (left - 1) x o) same (rw (cut, e) refl)

pub needs_shown : (depth level left : ℕ) (s : Store) (x : VarName) → 0 < depth → is_cut level left ≡ false → node_of s x ≡ None → show_var depth s level left x ≡ Needs x
needs_shown depth level left s x p cut e = found_shown depth (depth - 1) level left s x None (omega arith) cut e

pub node_shown : (depth d level left rest : ℕ) (s : Store) (x : VarName) (n : Node) → depth ≡ d + 1 → left ≡ rest + 1 → is_cut level left ≡ false → node_of s x ≡ Some n →
    show_var depth s level left x ≡ show_node s (show_var d s) level rest n
node_shown depth d level left rest s x n p q cut e =
    let fewer : left - 1 ≡ rest = omega arith in
    subst (λ (k : ℕ). show_var depth s level left x ≡ show_node s (show_var d s) level k n) fewer (found_shown depth d level left s x (Some n) (omega arith) cut e)

-- a list's node: its head, then its tail
ends_shown : (s : Store) (walk : Walk) (level left : ℕ) (n : Node) (h t : VarName) → head_and_tail n ≡ Some (h, t) → show_node s walk level left n ≡ show_pair s walk level left h t
ends_shown s walk level left (node.Rec label fields) h t e = ap (λ (o : Option (VarName × VarName)). show_rec s walk level left label fields o) e
ends_shown s walk level left (node.Int z) h t e = cc
ends_shown s walk level left (node.Atom a) h t e = cc
ends_shown s walk level left (node.Proc formals code name vars) h t e = cc
ends_shown s walk level left (node.Cell name) h t e = cc
ends_shown s walk level left (node.Port name) h t e = cc

bracketed : (b : Bool) (head tail : List ℕ) → in_brackets b head ++ 124 ∷ tail ≡ (head_front b ++ (head ++ head_back b)) ++ tail
bracketed true head tail = simp append_assoc
bracketed false head tail = simp append_assoc

pair_turn : (b : Bool) (w : Show) (next : ℕ → Show) →
    and_then w (λ head rest. and_then (next rest) (λ tail end. Text (in_brackets b head ++ 124 ∷ tail) end)) ≡ in_turn (between (head_front b) (head_back b) w) next
pair_turn b (Needs x) next = refl
pair_turn b (Text head rest) next = go (next rest)
  where
    go : (w : Show) → and_then w (λ tail end. Text (in_brackets b head ++ 124 ∷ tail) end) ≡ text_after (head_front b ++ (head ++ head_back b)) w
    go (Needs x) = refl
    go (Text tail end) = ap (λ (l : List ℕ). Text l end) (bracketed b head tail)

pair_shown : (s : Store) (walk : Walk) (level left : ℕ) (n : Node) (h t : VarName) → head_and_tail n ≡ Some (h, t) →
    show_node s walk level left n ≡ in_turn (between (head_front (has_brackets s level left h)) (head_back (has_brackets s level left h)) (walk (level + 1) left h)) (λ rest. walk level rest t)
pair_shown s walk level left n h t e =
    ends_shown s walk level left n h t e ∙ pair_turn (has_brackets s level left h) (walk (level + 1) left h) (λ rest. walk level rest t)

tail_on : (s : Store) (walk : Walk) (level left rest : ℕ) (n : Node) (h t : VarName) (done out : List ℕ) → head_and_tail n ≡ Some (h, t) →
    Text out rest ≡ text_after done (between (head_front (has_brackets s level left h)) (head_back (has_brackets s level left h)) (walk (level + 1) left h)) →
    text_after out (walk level rest t) ≡ text_after done (show_node s walk level left n)
tail_on s walk level left rest n h t done out e found =
    turn_on done out _ rest (λ rest. walk level rest t) found ∙ ap (text_after done) (sym (pair_shown s walk level left n h t e))

head_needs : (s : Store) (walk : Walk) (level left : ℕ) (n : Node) (h t z : VarName) (done : List ℕ) → head_and_tail n ≡ Some (h, t) →
    Needs z ≡ text_after done (between (head_front (has_brackets s level left h)) (head_back (has_brackets s level left h)) (walk (level + 1) left h)) →
    Needs z ≡ text_after done (show_node s walk level left n)
head_needs s walk level left n h t z done e found =
    turn_needs done _ z (λ rest. walk level rest t) found ∙ ap (text_after done) (sym (pair_shown s walk level left n h t e))

pub list_on : (depth d level left less rest : ℕ) (s : Store) (x h t : VarName) (n : Node) (done out : List ℕ) → depth ≡ d + 1 → left ≡ less + 1 → is_cut level left ≡ false → node_of s x ≡ Some n →
    head_and_tail n ≡ Some (h, t) →
    Text out rest ≡ text_after done (between (head_front (has_brackets s level less h)) (head_back (has_brackets s level less h)) (show_var d s (level + 1) less h)) →
    text_after out (show_var d s level rest t) ≡ text_after done (show_var depth s level left x)
list_on depth d level left less rest s x h t n done out p q cut at ends found =
    tail_on s (show_var d s) level less rest n h t done out ends found ∙ ap (text_after done) (sym (node_shown depth d level left less s x n p q cut at))

pub list_needs : (depth d level left less : ℕ) (s : Store) (x h t z : VarName) (n : Node) (done : List ℕ) → depth ≡ d + 1 → left ≡ less + 1 → is_cut level left ≡ false → node_of s x ≡ Some n →
    head_and_tail n ≡ Some (h, t) →
    Needs z ≡ text_after done (between (head_front (has_brackets s level less h)) (head_back (has_brackets s level less h)) (show_var d s (level + 1) less h)) →
    Needs z ≡ text_after done (show_var depth s level left x)
list_needs depth d level left less s x h t z n done p q cut at ends found =
    head_needs s (show_var d s) level less n h t z done ends found ∙ ap (text_after done) (sym (node_shown depth d level left less s x n p q cut at))

-- a record: its fields between brackets
record_frame : (label : List ℕ) (w : Show) → and_then w (λ text rest. Text (atom_text label ++ 40 ∷ (text ++ 41 ∷ [])) rest) ≡ between (atom_text label ++ 40 ∷ []) (41 ∷ []) w
record_frame label (Needs x) = refl
record_frame label (Text text rest) = ap (λ (l : List ℕ). Text l rest) (sym (append_assoc (atom_text label) (40 ∷ []) (text ++ 41 ∷ [])))

pub record_shown : (s : Store) (walk : Walk) (level left : ℕ) (label : List ℕ) (fields : List (Feature × VarName)) → head_and_tail (node.Rec label fields) ≡ None →
    show_node s walk level left (node.Rec label fields) ≡ between (atom_text label ++ 40 ∷ []) (41 ∷ []) (show_fields walk level left 1 fields)
record_shown s walk level left label fields e =
    ap (λ (o : Option (VarName × VarName)). show_rec s walk level left label fields o) e ∙ record_frame label (show_fields walk level left 1 fields)

-- fields: the first, then the others
name_value : (b : Bool) (f : Feature) (value : List ℕ) → cond b value (feature_text f ++ 58 ∷ value) ≡ cond b [] (feature_text f ++ 58 ∷ []) ++ value
name_value true f value = refl
name_value false f value = sym (append_assoc (feature_text f) (58 ∷ []) value)

field_turn : (next : ℕ) (f : Feature) (more : List (Feature × VarName)) (w : Show) (others : ℕ → Show) → ((rest : ℕ) → more ≡ [] → others rest ≡ Text [] rest) →
    and_then w (λ value rest. and_then (others rest) (λ text end. Text (after_field (field_text next f value) more text) end)) ≡ in_turn (between (field_name next f) (gap more) w) others
field_turn next f more (Needs x) others none = refl
field_turn next f [] (Text value rest) others none =
    let ends : (field_name next f ++ (value ++ [])) ++ [] ≡ field_name next f ++ value = append-nil (field_name next f ++ (value ++ [])) ∙ ap (λ (l : List ℕ). field_name next f ++ l) (append-nil value) in
    let all : field_text next f value ≡ (field_name next f ++ (value ++ [])) ++ [] = name_value (is_feature next f) f value ∙ sym ends in
    rw (none rest refl) (ap (λ (l : List ℕ). Text l rest) all)
field_turn next f (g ∷ gs) (Text value rest) others none = go (others rest)
  where
    go : (w : Show) → and_then w (λ text end. Text (field_text next f value ++ 32 ∷ text) end) ≡ text_after (field_name next f ++ (value ++ 32 ∷ [])) w
    go (Needs x) = refl
    go (Text text end) =
        ap (λ (l : List ℕ). Text l end) (ap (λ (l : List ℕ). l ++ 32 ∷ text) (name_value (is_feature next f) f value) ∙ simp append_assoc)

field_shown : (walk : Walk) (level left next : ℕ) (f : Feature) (x : VarName) (more : List (Feature × VarName)) →
    show_fields walk level left next ((f, x) ∷ more) ≡ in_turn (between (field_name next f) (gap more) (walk (level + 1) left x)) (λ rest. show_fields walk level rest (cond (is_feature next f) (next + 1) next) more)
field_shown walk level left next f x more =
    field_turn next f more (walk (level + 1) left x) (λ rest. show_fields walk level rest (cond (is_feature next f) (next + 1) next) more)
    (λ rest e. ap (λ (fs : List (Feature × VarName)). show_fields walk level rest (cond (is_feature next f) (next + 1) next) fs) e)

pub fields_on : (walk : Walk) (level left next rest : ℕ) (f : Feature) (x : VarName) (fields more : List (Feature × VarName)) (done out : List ℕ) → fields ≡ (f, x) ∷ more →
    Text out rest ≡ text_after done (between (field_name next f) (gap more) (walk (level + 1) left x)) →
    text_after out (show_fields walk level rest (cond (is_feature next f) (next + 1) next) more) ≡ text_after done (show_fields walk level left next fields)
fields_on walk level left next rest f x fields more done out e found =
    turn_on done out _ rest (λ rest. show_fields walk level rest (cond (is_feature next f) (next + 1) next) more) found
    ∙ ap (text_after done) (sym (field_shown walk level left next f x more)) ∙ ap (λ (fs : List (Feature × VarName)). text_after done (show_fields walk level left next fs)) (sym e)

pub field_needs : (walk : Walk) (level left next : ℕ) (f : Feature) (x z : VarName) (fields more : List (Feature × VarName)) (done : List ℕ) → fields ≡ (f, x) ∷ more →
    Needs z ≡ text_after done (between (field_name next f) (gap more) (walk (level + 1) left x)) →
    Needs z ≡ text_after done (show_fields walk level left next fields)
field_needs walk level left next f x z fields more done e found =
    turn_needs done _ z (λ rest. show_fields walk level rest (cond (is_feature next f) (next + 1) next) more) found
    ∙ ap (text_after done) (sym (field_shown walk level left next f x more)) ∙ ap (λ (fs : List (Feature × VarName)). text_after done (show_fields walk level left next fs)) (sym e)

-- a walk with nothing written before it
pub whole_shown : (w : Show) → text_after [] w ≡ w
whole_shown (Text text left) = refl
whole_shown (Needs x) = refl

pub no_fields : (walk : Walk) (level left next : ℕ) (fields : List (Feature × VarName)) (done : List ℕ) → length fields ≡ 0 → Text done left ≡ text_after done (show_fields walk level left next fields)
no_fields walk level left next [] done e = ap (λ (l : List ℕ). Text l left) (sym (append-nil done))
no_fields walk level left next (f ∷ fields) done e = absurd (omega arith)
