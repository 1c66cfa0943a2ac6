-- What a program tells, and what exceptions are made of, is short enough for a message.
use Rattle.std.proofs.Common.{arith, ◌≡◌, sym, refl, subst, ℕ, zero, suc, ◌+◌, ◌≤◌, List, [], ◌∷◌, ◌++◌, length, length-append, map, Bool, true, false, cond}
use Rattle.std.specs.Prelude.{unwrap_or, slice_get, codes, IsUtf8, ◌==◌, ◌||◌}
use Rattle.tree_node.specs.declared.names.VarName.{VarName}
use Rattle.tree_node.specs.declared.names.CodeId.{CodeId}
use Rattle.tree_node.specs.declared.node.Feature.{Feature}
use Rattle.tree_node.specs.declared.node.Feature.TheVariants as feature
use Rattle.tree_node.specs.declared.node.Node.{Node}
use Rattle.tree_node.specs.declared.node.Node.TheVariants as node
use Rattle.tree_node.specs.Each.{Each}
use Rattle.tree_node.specs.Node.{features_of}
use Rattle.tree_node.specs.Spelling.{escaped_text, is_bare, atom_text}
use Rattle.kernel_syntax.specs.declared.stmt.Stmt.{Stmt}
use Rattle.kernel_syntax.specs.declared.stmt.Stmt.TheVariants as stmt
use Rattle.kernel_syntax.specs.Free.{stmt_at, free, without_declared, is_declared}
use Rattle.kernel_syntax.specs.Program.{IsProgram}
use Rattle.kernel_syntax.specs.Texts as words
use Rattle.kernel_syntax.proofs.ShortLemmas.{free_is_few}
use Rattle.site_message.specs.Wire.{FitsText, FitsFeature}
use Rattle.oz_model.specs.declared.outcome.SystemException.{SystemException}
use Rattle.oz_model.specs.declared.outcome.SystemException.TheVariants.{FailureTell, ErrorType, ErrorApply, ErrorArity, ErrorFeature, ErrorOverflow, ErrorZero}
use Rattle.oz_model.specs.Effect.{label_of, reason_of}
use Rattle.oz_model.specs.Outcome.{captured_positions, truth_text}
use Rattle.oz_model.specs.Shapes.{IsToldBy}
use Rattle.oz_model.specs.WellFormed.{HoldsOfTold, IsNode}
use Rattle.oz_model.proofs.NodesWell.{told_nodes}
use Rattle.site_wire.specs.Sending.{IsShort, NodeFits}

-- ---- texts

escaped_long : (t : List ℕ) → length t ≤ length (escaped_text t)
escaped_long [] = omega arith
escaped_long (c ∷ cs) = go (c == 10) ((c == 39) || (c == 92)) (escaped_long cs)
  where
    go : (a b : Bool) → length cs ≤ length (escaped_text cs) → length (c ∷ cs) ≤ length (cond a (92 ∷ 110 ∷ []) (cond b (92 ∷ c ∷ []) (c ∷ [])) ++ escaped_text cs)
    go true b ih = omega (arith, ih)
    go false true ih = omega (arith, ih)
    go false false ih = omega (arith, ih)

spelled_long : (t : List ℕ) → length t ≤ length (atom_text t)
spelled_long t = go (is_bare t)
  where
    go : (b : Bool) → length t ≤ length (cond b t (39 ∷ (escaped_text t ++ 39 ∷ [])))
    go true = omega arith
    go false = let long = escaped_long t in let sum : length (escaped_text t ++ 39 ∷ []) ≡ length (escaped_text t) + 1 = length-append (escaped_text t) (39 ∷ []) in omega (arith, long)

short_text : (t : List ℕ) → words.IsText t → FitsText t
short_text t h = let long = spelled_long t in (omega (arith, long, h.2), h.0)

short_feature : (f : Feature) → words.IsFeature f → FitsFeature f
short_feature (feature.Int z) h = tt
short_feature (feature.Atom t) h = short_text t h

-- a record has the features of its statement
short_features : (fs : List (Feature × VarName)) (fields : List (Feature × ℕ)) → features_of fs ≡ map (λ (f : Feature × ℕ). f.0) fields → Each words.IsFeature (map (λ (f : Feature × ℕ). f.0) fields) → Each (λ (f : Feature × VarName). FitsFeature f.0) fs
short_features [] fields e h = tt
short_features (f ∷ fs) [] e h = cc
short_features (f ∷ fs) (g ∷ fields) e h =
    let whole : ◌≡◌ {A = List Feature} (f.0 ∷ features_of fs) (g.0 ∷ map (λ (q : Feature × ℕ). q.0) fields) = e in
    let first : f.0 ≡ g.0 = cc in
    let rest : features_of fs ≡ map (λ (q : Feature × ℕ). q.0) fields = cc in
    (subst FitsFeature (sym first) (short_feature g.0 h.0), short_features fs fields rest h.1)

utf8_true : IsUtf8 (codes "true")
unfolding lib.Utf8.encode
utf8_true = (codes "true", (refl, refl))

utf8_false : IsUtf8 (codes "false")
unfolding lib.Utf8.encode
utf8_false = (codes "false", (refl, refl))

truth_fits : (b : Bool) → FitsText (truth_text b)
truth_fits true = (omega arith, utf8_true)
truth_fits false = (omega arith, utf8_false)

label_fits : (e : SystemException) → FitsText (label_of e)
unfolding lib.Utf8.encode
label_fits FailureTell = (omega arith, (label_of FailureTell, (refl, refl)))
label_fits ErrorType = (omega arith, (label_of ErrorType, (refl, refl)))
label_fits ErrorApply = (omega arith, (label_of ErrorApply, (refl, refl)))
label_fits ErrorArity = (omega arith, (label_of ErrorArity, (refl, refl)))
label_fits ErrorFeature = (omega arith, (label_of ErrorFeature, (refl, refl)))
label_fits ErrorOverflow = (omega arith, (label_of ErrorOverflow, (refl, refl)))
label_fits ErrorZero = (omega arith, (label_of ErrorZero, (refl, refl)))

reason_fits : (e : SystemException) → FitsText (reason_of e)
unfolding lib.Utf8.encode
reason_fits FailureTell = (omega arith, (reason_of FailureTell, (refl, refl)))
reason_fits ErrorType = (omega arith, (reason_of ErrorType, (refl, refl)))
reason_fits ErrorApply = (omega arith, (reason_of ErrorApply, (refl, refl)))
reason_fits ErrorArity = (omega arith, (reason_of ErrorArity, (refl, refl)))
reason_fits ErrorFeature = (omega arith, (reason_of ErrorFeature, (refl, refl)))
reason_fits ErrorOverflow = (omega arith, (reason_of ErrorOverflow, (refl, refl)))
reason_fits ErrorZero = (omega arith, (reason_of ErrorZero, (refl, refl)))

-- ---- lists of positions

fewer : (first count : ℕ) (ks : List ℕ) → length (without_declared first count ks) ≤ length ks
fewer first count [] = omega arith
fewer first count (k ∷ ks) = go (is_declared first count k) (fewer first count ks)
  where
    go : (b : Bool) → length (without_declared first count ks) ≤ length ks → length (cond b (without_declared first count ks) (k ∷ without_declared first count ks)) ≤ length (k ∷ ks)
    go true ih = omega (arith, ih)
    go false ih = omega (arith, ih)

pub free_short : (p : List Stmt) → IsProgram p → (code : CodeId) → length (free p code) ≤ 65535
free_short p is code = let few = (free_is_few p code is).0 in omega (arith, few)

captured_short : (p : List Stmt) → IsProgram p → (first count : ℕ) (body : CodeId) → length (captured_positions p first count body) ≤ 65535
captured_short p is first count body = let few = free_short p is body in let less = fewer first count (free p body) in omega (arith, few, less)

-- ---- nodes

texts_at : (p : List Stmt) (i : ℕ) → Each words.HasTexts p → words.HasTexts (unwrap_or (slice_get p i) stmt.Skip)
texts_at [] i h = tt
texts_at (st ∷ p) zero h = h.0
texts_at (st ∷ p) (suc i) h = texts_at p i h.1

told_short : (p : List Stmt) → IsProgram p → (code : CodeId) (st : Stmt) (n : Node) → words.HasTexts st → IsToldBy p code st n → IsShort n
told_short p is code (stmt.TellInt left value) n h told = subst IsShort (sym told) tt
told_short p is code (stmt.TellAtom left text) n h told = subst IsShort (sym told) (short_text text h)
told_short p is code (stmt.TellRec left label fields) (node.Rec l fs) h told = (subst FitsText (sym told.0) (short_text label h.0), short_features fs fields told.1 h.1)
told_short p is code (stmt.TellProc left first count body) (node.Proc formals c q vars) h told = let few = captured_short p is first count body in omega (arith, told.2, few)
told_short p is code (stmt.Calc left op a b) (node.Atom text) h told = subst FitsText (sym told.1) (truth_fits told.0)
told_short p is code (stmt.Test left op a b) (node.Atom text) h told = subst FitsText (sym told.1) (truth_fits told.0)
told_short p is code _ (node.Int z) h told = tt
told_short p is code _ (node.Cell c) h told = tt
told_short p is code _ (node.Port c) h told = tt
told_short p is code (stmt.Calc left op a b) (node.Rec l fs) h told = absurd told
told_short p is code (stmt.Test left op a b) (node.Rec l fs) h told = absurd told
told_short p is code (stmt.Calc left op a b) (node.Proc formals c q vars) h told = absurd told
told_short p is code (stmt.Test left op a b) (node.Proc formals c q vars) h told = absurd told
told_short p is code _ _ h told = absurd told

bar_fits : FitsText (codes "|")
unfolding lib.Utf8.encode
bar_fits = (omega arith, (codes "|", (refl, refl)))

pub told_fits : (p : List Stmt) → IsProgram p → HoldsOfTold p (NodeFits p)
told_fits p is = let nodes : HoldsOfTold p (IsNode p) = told_nodes p is.stmts in record {
  told = λ code n told. (nodes.told code n told, told_short p is code (stmt_at p code) n (texts_at p code.0 is.texts) told);
  pairs = λ value rest. (nodes.pairs value rest, (bar_fits, (tt, (tt, tt))));
  records = λ e x. (nodes.records e x, (label_fits e, (tt, tt)));
  reasons = λ e. (nodes.reasons e, reason_fits e);
}
