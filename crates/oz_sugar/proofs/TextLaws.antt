-- Each text with sugar stands for one program or has one fault, never both.
use Rattle.std.proofs.Common.{◌≡◌, ◌∙◌, ◌⊎◌, inl, inr, ℕ, ◌-◌, List, length, map, take, Option, Some, None, Result, Ok, Err, refl, sym, ap, subst}
use Rattle.std.specs.Prelude.{slice_index, IfOk}
use Rattle.std.proofs.lemmas.List.{length-map}
use Rattle.kernel_syntax.specs.declared.stmt.Stmt.{Stmt}
use Rattle.kernel_syntax.specs.Program.{IsProgram}
use Rattle.kernel_syntax.specs.Sugar.{Statements}
use Rattle.kernel_syntax.specs.SugarView.{statements_in}
use Rattle.kernel_syntax.specs.Surfaces.{SurfaceParts}
use Rattle.oz_lexer.specs.Tokens.{Lexeme}
use Rattle.oz_lexer.specs.Place.{place_of}
use Rattle.oz_lexer.specs.Laws.{TextsDivideOnce}
use Rattle.oz_grammar.specs.declared.fault.TextFault.{TextFault}
use Rattle.oz_grammar.specs.declared.fault.FaultKind.{FaultKind}
use Rattle.oz_grammar.specs.declared.fault.FaultKind.TheVariants.{Deep}
use Rattle.oz_grammar.specs.Symbols.{symbol_of}
use Rattle.oz_grammar.specs.Laws.{AreOneOfBoth}
use Rattle.surface_grammar.specs.Texts as surface
use Rattle.oz_symbols.specs.TextSymbols.{start_of}
use Rattle.oz_parser.specs.declared.error.ParseError.{ParseError}
use Rattle.oz_parser.specs.declared.error.ParseError.TheVariants as errors
use Rattle.oz_parser.specs.ParseAnswers.{IsErrorOf, IsParse, IfFault, IsSurface}
use Rattle.sugar_rows.specs.Put.{Expand, expanded_rows}
use Rattle.oz_sugar.specs.Deep.{deep, IsTooDeep}
use Rattle.oz_sugar.specs.Texts.{Reads, start_at, FaultOf, TextsArePrograms, KernelTextsRead}
use Rattle.oz_sugar.specs.Laws.{KernelExpands}
use Rattle.oz_sugar.proofs.PutFits.{expansions_are_programs}

pub texts_are_programs : surface.TextsFit → TextsArePrograms
texts_are_programs fit text p utf8 r = subst IsProgram (sym r.expands) (expansions_are_programs r.statements (fit text r.statements utf8 r.reads) r.shallow)

pub kernel_texts_read : KernelExpands → KernelTextsRead
kernel_texts_read law text p r =
    let s = law (map symbol_of r.tokens) p r.reads in
    record { statements = s.0; reads = record { tokens = r.tokens; divided = r.divided; reads = s.1 }; shallow = s.2; expands = s.3 }

same_fault : (f g : TextFault) → f.kind ≡ g.kind → ◌≡◌ {A = ℕ × ℕ} (f.line, f.column) (g.line, g.column) → f ≡ g
same_fault f g kinds places =
    ap (λ (k : FaultKind). record { kind = k; line = f.line; column = f.column }) kinds ∙ ap (λ (at : ℕ × ℕ). record { kind = g.kind; line = at.0; column = at.1 }) places

one_left : (q : Statements) (a b : ℕ) → deep q ≡ Some a → deep q ≡ Some b → a ≡ b
one_left q a b e f = cc

never_deep : (q : Statements) (left : ℕ) → deep q ≡ None → deep q ≡ Some left → ⊥
never_deep q left e f = cc

module _ (law : AreOneOfBoth surface.Reads surface.FaultOf) (once : TextsDivideOnce) where
  one_by : (text : List ℕ) (s : Statements) (r : surface.Reads text s) (o : Option ℕ) → deep s ≡ o → ((p : List Stmt) × Reads text p) ⊎ ((f : TextFault) × FaultOf text f)
  one_by text s r None e = inl (expanded_rows s, record { statements = s; reads = r; shallow = e; expands = refl })
  one_by text s r (Some left) e =
      let at : ℕ × ℕ = place_of (take (start_at r.tokens left) text) in
      inr (record { kind = Deep; line = at.0; column = at.1 }, inr (record { statements = s; reads = r; left = left; first = e; kind = refl; place = refl }))

  one_of : (text : List ℕ) → ((s : Statements) × surface.Reads text s) ⊎ ((f : TextFault) × surface.FaultOf text f) → ((p : List Stmt) × Reads text p) ⊎ ((f : TextFault) × FaultOf text f)
  one_of text (inl r) = one_by text r.0 r.1 (deep r.0) refl
  one_of text (inr F) = inr (F.0, inl F.1)

  never_both : (text : List ℕ) (p : List Stmt) (f : TextFault) → Reads text p → FaultOf text f → ⊥
  never_both text p f r (inl F) = law.never_both text r.statements f r.reads F
  never_both text p f r (inr d) = never_deep d.statements d.left (ap deep (law.program text d.statements r.statements d.reads r.reads) ∙ r.shallow) d.first

  one_program : (text : List ℕ) (p q : List Stmt) → Reads text p → Reads text q → p ≡ q
  one_program text p q r s = r.expands ∙ ap expanded_rows (law.program text r.statements s.statements r.reads s.reads) ∙ sym s.expands

  one_fault : (text : List ℕ) (f g : TextFault) → FaultOf text f → FaultOf text g → f ≡ g
  one_fault text f g (inl F) (inl G) = law.fault text f g F G
  one_fault text f g (inl F) (inr e) = absurd (law.never_both text e.statements f e.reads F)
  one_fault text f g (inr d) (inl G) = absurd (law.never_both text d.statements g d.reads G)
  one_fault text f g (inr d) (inr e) =
      let left = one_left e.statements d.left e.left (ap deep (law.program text e.statements d.statements e.reads d.reads) ∙ d.first) e.first in
      let tokens = once text d.reads.tokens e.reads.tokens d.reads.divided e.reads.divided in
      let start : start_at d.reads.tokens d.left ≡ start_at e.reads.tokens e.left = ap (λ (ls : List Lexeme). start_at ls d.left) tokens ∙ ap (start_at e.reads.tokens) left in
      same_fault f g (d.kind ∙ sym e.kind) (d.place ∙ ap (λ (k : ℕ). place_of (take k text)) start ∙ sym e.place)

  pub are_one_of_both : AreOneOfBoth Reads FaultOf
  are_one_of_both = record { one = λ text. one_of text (law.one text); never_both = never_both; program = one_program; fault = one_fault }

-- ---- what is answered

-- what statements of a text are expanded to is what the text stands for, or else they are too deep
pub expanded_is : (text : List ℕ) (s : SurfaceParts) (r : Result (List Stmt) ParseError) → IsSurface text s → IfOk r (Expand (statements_in s.tree)) → IfOk r (λ p. deep (statements_in s.tree) ≡ None) → IfFault r (IsTooDeep s) → IsParse Reads FaultOf text r
expanded_is text s (Ok p) told e shallow fault = record { statements = statements_in s.tree; reads = told.reads; shallow = shallow; expands = e }
expanded_is text s (Err errors.Memory) told e shallow fault = tt
expanded_is text s (Err (errors.Text f)) told e shallow d =
    let tokens = told.reads.tokens in
    let starts : s.starts ≡ map start_of tokens = told.starts tokens told.reads.divided in
    let count : length s.starts ≡ length tokens = ap (λ (xs : List ℕ). length xs) starts ∙ length-map tokens start_of in
    let start : slice_index s.starts (length s.starts - d.left) ≡ start_at tokens d.left = ap (λ (xs : List ℕ). slice_index xs (length s.starts - d.left)) starts ∙ ap (λ (n : ℕ). slice_index (map start_of tokens) (n - d.left)) count in
    inr (record {
      statements = statements_in s.tree;
      reads = told.reads;
      left = d.left;
      first = d.first;
      kind = d.kind;
      place = d.place ∙ ap (λ (k : ℕ). place_of (take k s.text)) start ∙ ap (λ (xs : List ℕ). place_of (take (start_at tokens d.left) xs)) told.same_text;
    })

-- what the grammar refuses is refused
pub refusal_is : (text : List ℕ) (e : ParseError) → IfFault {X = SurfaceParts} (Err e) (surface.FaultOf text) → IsErrorOf FaultOf text e
refusal_is text errors.Memory h = tt
refusal_is text (errors.Text f) h = inl h
