-- The symbols of a program in its canonical form: the identifier at position n is V and n, each field has its feature, and
-- `proc` statements and pairs are written out.
use Rattle.std.specs.Prelude.{ℕ, zero, suc, ◌+◌, ◌-◌, List, [], ◌∷◌, length, map, Option, Some, None, codes, decimal, ℤ}
use Rattle.tree_node.specs.declared.names.CodeId.{CodeId}
use Rattle.tree_node.specs.declared.node.Feature.{Feature}
use Rattle.tree_node.specs.declared.node.Feature.TheVariants as feature
use Rattle.kernel_syntax.specs.declared.stmt.Stmt.{Stmt}
use Rattle.kernel_syntax.specs.declared.stmt.Stmt.TheVariants as stmt
use Rattle.kernel_syntax.specs.declared.stmt.Pattern.{Pattern}
use Rattle.kernel_syntax.specs.declared.stmt.Pattern.TheVariants as pattern
use Rattle.kernel_syntax.specs.declared.stmt.Selector.{Selector}
use Rattle.kernel_syntax.specs.declared.stmt.Selector.TheVariants as selector
use Rattle.kernel_syntax.specs.Scopes.{stmt_at}
use Rattle.oz_grammar.specs.declared.symbol.Symbol.{Symbol}
use Rattle.oz_grammar.specs.declared.symbol.Symbol.TheVariants as t
use Rattle.kernel_syntax.specs.declared.built_in.BuiltIn.{BuiltIn}
use Rattle.kernel_syntax.specs.declared.built_in.BuiltIn.TheVariants as built
use Rattle.oz_grammar.specs.Grammar.{Identifier, FeatureToken, AtomFeature, IntFeature, Selection, ByVariable, ByFeature, Field, WithFeature, Value, ToVar, Calculates, Tests, Selects, ToInt, ToAtom, ToRecord, IntPattern, AtomPattern, RecordPattern, Plain, Skips, Tells, Calls, Raises, Opening, Locals, ProcValue, Threads, ThreadsAt, Ifs, Cases, plain_text, opening_text, choice_text}
use Rattle.oz_grammar.specs.Grammar as tree
use Rattle.oz_grammar.specs.Table.{code_at}

-- the identifier at a position
abbrev pub name_at : ℕ → Identifier
name_at n = 86 ∷ decimal n

-- so many identifiers from a position on
abbrev pub names_from : ℕ → ℕ → List Identifier
names_from first zero = []
names_from first (suc count) = name_at first ∷ names_from (first + 1) count

-- the name by which a program calls what is built in
abbrev pub built_in_name : BuiltIn → Identifier
built_in_name built.Browse = codes "Browse"
built_in_name built.Wait = codes "Wait"
built_in_name built.NewCell = codes "NewCell"
built_in_name built.Exchange = codes "Exchange"
built_in_name built.NewPort = codes "NewPort"
built_in_name built.Send = codes "Send"
built_in_name built.NewCellAt = codes "NewCellAt"

-- a feature of a row as a text names it
abbrev pub feature_token : Feature → FeatureToken
feature_token (feature.Int z) = IntFeature (Some z)
feature_token (feature.Atom a) = AtomFeature a

-- a field with its feature
abbrev pub field_with_feature : Feature × Identifier → Field
field_with_feature f = WithFeature (feature_token f.0) f.1

-- a field of a record: its feature, and the identifier at its position
abbrev pub slot_field : Feature × ℕ → Field
slot_field slot = field_with_feature (slot.0, name_at slot.1)

-- what stands behind the dot: the identifier at the selector's position, or its feature
abbrev pub selection_of : Selector → Selection
selection_of (selector.Var x) = ByVariable (name_at x)
selection_of (selector.Feature f) = ByFeature (feature_token f)

-- features with the identifiers from a position on
abbrev pub declared_fields : ℕ → List Feature → List Field
declared_fields first [] = []
declared_fields first (f ∷ fs) = field_with_feature (f, name_at first) ∷ declared_fields (first + 1) fs

-- a pattern of a row as a tree: it declares the identifiers from a position on
abbrev pub pattern_tree : ℕ → Pattern → tree.Pattern
pattern_tree first (pattern.Int z) = IntPattern (Some z)
pattern_tree first (pattern.Atom a) = AtomPattern a
pattern_tree first (pattern.Rec label features) = RecordPattern label (declared_fields first features)

-- a tell of the identifier at a position
abbrev pub tell_statement : ℕ → Value → Plain
tell_statement left v = Tells (name_at left) v

-- a call of what is built in, with the identifiers at these positions
abbrev pub calls_built_in : BuiltIn → List ℕ → Plain
calls_built_in b xs = Calls (built_in_name b) (map name_at xs)

-- `thread`, or `thread at` and the site
abbrev pub thread_opening : Option ℤ → Opening
thread_opening None = Threads
thread_opening (Some at) = ThreadsAt (Some at)

-- the first of so many identifiers, and the others
abbrev pub local_opening : ℕ → ℕ → Opening
local_opening first count = Locals (name_at first) (names_from (first + 1) (count - 1))

-- statements one after the other
abbrev pub bodies_symbols : (CodeId → List Symbol → List Symbol) → List CodeId → List Symbol → List Symbol
bodies_symbols body [] rest = rest
bodies_symbols body (c ∷ cs) rest = body c (bodies_symbols body cs rest)

-- a row before what follows, where body gives the symbols of its bodies
abbrev pub row_symbols : (CodeId → List Symbol → List Symbol) → Stmt → List Symbol → List Symbol
row_symbols body (stmt.Seq bodies) rest = bodies_symbols body bodies rest
row_symbols body stmt.Skip rest = plain_text Skips rest
row_symbols body (stmt.Local first count c) rest = opening_text (local_opening first count) (body c (t.End ∷ rest))
row_symbols body (stmt.TellVar left right) rest = plain_text (tell_statement left (ToVar (name_at right))) rest
row_symbols body (stmt.TellInt left value) rest = plain_text (tell_statement left (ToInt (Some value))) rest
row_symbols body (stmt.TellAtom left a) rest = plain_text (tell_statement left (ToAtom a)) rest
row_symbols body (stmt.TellRec left label slots) rest = plain_text (tell_statement left (ToRecord label (map slot_field slots))) rest
row_symbols body (stmt.TellProc left first count c) rest = opening_text (ProcValue (name_at left) (names_from first count)) (body c (t.End ∷ rest))
row_symbols body (stmt.Calc left op a b) rest = plain_text (tell_statement left (Calculates (name_at a) op (name_at b))) rest
row_symbols body (stmt.Test left op a b) rest = plain_text (tell_statement left (Tests (name_at a) op (name_at b))) rest
row_symbols body (stmt.Select left source by) rest = plain_text (tell_statement left (Selects (name_at source) (selection_of by))) rest
row_symbols body (stmt.If subject chosen other) rest = choice_text (Ifs (name_at subject)) (body chosen (t.Else ∷ body other (t.End ∷ rest)))
row_symbols body (stmt.Case subject pattern first chosen other) rest =
    choice_text (Cases (name_at subject) (pattern_tree first pattern)) (body chosen (t.Else ∷ body other (t.End ∷ rest)))
row_symbols body (stmt.Call callee args) rest = plain_text (Calls (name_at callee) (map name_at args)) rest
row_symbols body (stmt.Browse x) rest = plain_text (calls_built_in built.Browse (x ∷ [])) rest
row_symbols body (stmt.Wait x) rest = plain_text (calls_built_in built.Wait (x ∷ [])) rest
row_symbols body (stmt.NewCell content cell) rest = plain_text (calls_built_in built.NewCell (content ∷ cell ∷ [])) rest
row_symbols body (stmt.Exchange cell old new) rest = plain_text (calls_built_in built.Exchange (cell ∷ old ∷ new ∷ [])) rest
row_symbols body (stmt.NewPort stream port) rest = plain_text (calls_built_in built.NewPort (stream ∷ port ∷ [])) rest
row_symbols body (stmt.Send port value) rest = plain_text (calls_built_in built.Send (port ∷ value ∷ [])) rest
row_symbols body (stmt.NewCellAt content cell at) rest = plain_text (calls_built_in built.NewCellAt (content ∷ cell ∷ at ∷ [])) rest
row_symbols body (stmt.Thread at c) rest = opening_text (thread_opening at) (body c (t.End ∷ rest))
row_symbols body (stmt.Try c first handler) rest = t.Try ∷ body c (t.Catch ∷ t.Variable (name_at first) ∷ t.Then ∷ body handler (t.End ∷ rest))
row_symbols body (stmt.Raise x) rest = plain_text (Raises (name_at x)) rest

-- through at most d statements, each within the one before
abbrev pub symbols_within : ℕ → List Stmt → CodeId → List Symbol → List Symbol
symbols_within zero p c rest = rest
symbols_within (suc d) p c rest = row_symbols (symbols_within d p) (stmt_at p c) rest

-- the symbols of a program
unfoldable pub canonical_symbols : List Stmt → List Symbol
canonical_symbols p = symbols_within (length p) p (code_at 0) (t.EndOfText ∷ [])
