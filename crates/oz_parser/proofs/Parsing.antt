-- Programs and faults of texts.
use Rattle.std.proofs.Common.{◌≡◌, ℕ, zero, suc, ◌-◌, ◌<◌, ◌≤◌, List, [], ◌∷◌, ◌++◌, length, take, map, get_or, true, IsUtf8, None, Result, Ok, Err, refl, sym, subst, ap, ◌∙◌, arith, inl, inr}
use Rattle.std.proofs.lemmas.Bool.{cases_lt}
use Rattle.std.proofs.lemmas.List.{length-map}
use Rattle.tree_node.specs.Each.{Each}
use Rattle.kernel_syntax.specs.declared.stmt.Stmt.{Stmt}
use Rattle.kernel_syntax.specs.Program.{IsProgram}
use Rattle.kernel_syntax.specs.Sugar.{Statements}
use Rattle.kernel_syntax.specs.SugarLimits.{FitsStatements}
use Rattle.oz_lexer.specs.Tokens.{Lexeme, Tokens}
use Rattle.oz_lexer.specs.Place.{place_of}
use Rattle.oz_lexer.proofs.Dividing.{texts_divide, texts_divide_once}
use Rattle.oz_grammar.specs.declared.symbol.Symbol.{Symbol}
use Rattle.oz_grammar.specs.declared.fault.Fault.{Fault}
use Rattle.oz_grammar.specs.declared.fault.TextFault.{TextFault}
use Rattle.oz_grammar.specs.Symbols.{symbol_of, ends_once}
use Rattle.oz_grammar.specs.Points.{start, run}
use Rattle.oz_grammar.specs.Reads.{ReadsSymbols, FaultOfSymbols, FaultIn, Reads}
use Rattle.oz_grammar.specs.Laws.{AreOneOfBoth}
use Rattle.oz_grammar.proofs.ReadLaws as kernel
use Rattle.oz_grammar.proofs.TextLaws.{SymbolLaws, tokens_end, texts_are_programs, are_one_of_both}
use Rattle.oz_phrases.specs.declared.stop.Stop.{Stop}
use Rattle.oz_phrases.specs.declared.stop.Stop.TheVariants as stops
use Rattle.oz_phrases.specs.ReadAnswers.{IsFailure}
use Rattle.oz_symbols.specs.TextSymbols.{start_of, AreSymbols}
use Rattle.surface_grammar.specs.Reading as sugar
use Rattle.surface_grammar.specs.Texts as surface
use Rattle.surface_grammar.specs.Laws as sugar_laws
use Rattle.surface_grammar.proofs.ReadLaws as surface_laws
use Rattle.kernel_check.specs.Runs.{IsFault}
use Rattle.sugar_rows.specs.Put.{expanded_rows, Expand}
use Rattle.sugar_rows.proofs.KernelTexts.{kernel_stands}
use Rattle.oz_parser.specs.declared.error.ParseError.{ParseError}
use Rattle.oz_parser.specs.declared.error.ParseError.TheVariants as errors
use Rattle.oz_parser.specs.ParseAnswers.{IsErrorOf, IsParse, IsAnswer, IsFaultAnswer, IsFaultIn, Stands, IsFaultAt, IsErrorAt}

pub symbols_end : (text : List ℕ) (symbols : List Symbol) (starts : List ℕ) → AreSymbols text symbols starts → ends_once symbols ≡ true
symbols_end text symbols starts a = ap ends_once a.symbols_are ∙ tokens_end text a.tokens a.divided

-- ---- programs

pub reads : (text : List ℕ) (symbols : List Symbol) (starts : List ℕ) (rows : List Stmt) → AreSymbols text symbols starts → ReadsSymbols symbols rows → Reads text rows
reads text symbols starts rows a r = record { tokens = a.tokens; divided = a.divided; reads = subst (λ (xs : List Symbol). ReadsSymbols xs rows) a.symbols_are r }

pub is_program : (text : List ℕ) → IsUtf8 text → (symbols : List Symbol) (starts : List ℕ) (rows : List Stmt) → AreSymbols text symbols starts → ReadsSymbols symbols rows → IsProgram rows
is_program text utf8 symbols starts rows a r = texts_are_programs text rows utf8 (reads text symbols starts rows a r)

pub kernel_refused : (symbols : List Symbol) (stop : Stop) → IsFault stop symbols start → IsFaultIn FaultOfSymbols symbols stop
kernel_refused symbols stops.Memory told = tt
kernel_refused symbols (stops.Fault f) told = kernel.fault_is symbols f told

-- symbols without a fault are a program of the kernel, and one with sugar that stands for it
record KernelTree (symbols : List Symbol) : Type 0 where
  rows : List Stmt
  tree : Statements
  reads : ReadsSymbols symbols rows
  read_as_tree : sugar.program_at symbols ≡ Ok tree
  expands : Expand tree rows

kernel_tree : (symbols : List Symbol) → ends_once symbols ≡ true → run symbols start ≡ None → KernelTree symbols
kernel_tree symbols ends e =
    let p = kernel.is_program symbols ends e in
    let s = kernel_stands symbols p.0 p.1 in
    record { rows = p.0; tree = s.0; reads = p.1; read_as_tree = (surface_laws.reads_programs symbols s.0 ends).1 s.1; expands = s.2 }

tree_is : (s t : Statements) (r : Result Statements Fault) → r ≡ Ok s → r ≡ Ok t → s ≡ t
tree_is s t (Ok u) e f = cc
tree_is s t (Err g) e f = absurd cc

pub kernel_rows : (symbols : List Symbol) (s : Statements) (rows : List Stmt) → ends_once symbols ≡ true → run symbols start ≡ None → sugar.program_at symbols ≡ Ok s → Expand s rows → ReadsSymbols symbols rows
kernel_rows symbols s rows ends e read expands =
    let k = kernel_tree symbols ends e in
    let same : s ≡ k.tree = tree_is s k.tree (sugar.program_at symbols) read k.read_as_tree in
    let all : rows ≡ k.rows = expands ∙ ap expanded_rows same ∙ sym k.expands in
    subst (ReadsSymbols symbols) (sym all) k.reads

refused_tree : (f : Fault) (s : Statements) (r : Result Statements Fault) → r ≡ Ok s → r ≡ Err f → ⊥
refused_tree f s (Ok t) e g = cc
refused_tree f s (Err h) e g = cc

-- no symbols that are a program of the kernel are refused as a program with sugar
pub never_refused : (symbols : List Symbol) (stop : Stop) → ends_once symbols ≡ true → run symbols start ≡ None → IsFailure stop (sugar.program_at symbols) → IsFaultIn FaultOfSymbols symbols stop
never_refused symbols stops.Memory ends e fails = tt
never_refused symbols (stops.Fault f) ends e fails = let k = kernel_tree symbols ends e in absurd (refused_tree f k.tree (sugar.program_at symbols) k.read_as_tree fails)

-- ---- faults

pub each_within : (n : ℕ) (xs : List ℕ) (i : ℕ) → Each (λ (s : ℕ). s ≤ n) xs → i < length xs → get_or xs i 0 ≤ n
each_within n [] i h lt = absurd (omega arith)
each_within n (x ∷ xs) zero h lt = h.0
each_within n (x ∷ xs) (suc i) h lt = each_within n xs i h.1 (omega arith)

pub same_length : (text : List ℕ) (symbols : List Symbol) (starts : List ℕ) → AreSymbols text symbols starts → length starts ≡ length symbols
same_length text symbols starts a =
    ap (λ (xs : List ℕ). length xs) a.starts_are ∙ length-map a.tokens start_of ∙ sym (length-map a.tokens symbol_of) ∙ sym (ap (λ (xs : List Symbol). length xs) a.symbols_are)

-- the token at which so many are left
record Left (tokens : List Lexeme) (left : ℕ) : Type 0 where
  before : List Lexeme
  token : Lexeme
  behind : List Lexeme
  divided : tokens ≡ before ++ token ∷ behind
  place : left ≡ length (token ∷ behind)
  start : get_or (map start_of tokens) (length tokens - left) 0 ≡ token.start

more_left : (x : Lexeme) (xs : List Lexeme) (left : ℕ) → left ≤ length xs → Left xs left → Left (x ∷ xs) left
more_left x xs left le l =
    let n : length (x ∷ xs) - left ≡ suc (length xs - left) = omega arith in
    record {
      before = x ∷ l.before;
      token = l.token;
      behind = l.behind;
      divided = ap (λ (ys : List Lexeme). x ∷ ys) l.divided;
      place = l.place;
      start = rw n l.start;
    }

left_at : (tokens : List Lexeme) (left : ℕ) → 0 < left → left ≤ length tokens → Left tokens left
left_at [] left some le = absurd (omega arith)
left_at (x ∷ xs) left some le =
    elim (cases_lt left (suc (length xs))) [
      | inl lt ↦ more_left x xs left (omega arith) (left_at xs left some (omega arith))
      | inr ge ↦
          let is : left ≡ suc (length xs) = omega arith in
          let z : length (x ∷ xs) - left ≡ 0 = omega arith in
          record { before = []; token = x; behind = xs; divided = refl; place = is; start = rw z refl }
    ]

-- Of a language, by the laws of its symbols.
module _ {Program : Type 0} {are : List Symbol → Program → Type 0} {have : List Symbol → Fault → Type 0} (law : SymbolLaws are have) where
  -- a refusal stands at one of the symbols
  pub refusal_stands : (text : List ℕ) (symbols : List Symbol) (starts : List ℕ) (stop : Stop) → AreSymbols text symbols starts → IsFaultIn have symbols stop → Stands stop (length starts)
  refusal_stands text symbols starts stops.Memory a told = tt
  refusal_stands text symbols starts (stops.Fault f) a told =
      let stands = law.stands symbols f (symbols_end text symbols starts a) told in
      let n = same_length text symbols starts a in
      (stands.0, omega (arith, stands, n))

  at_token : (text : List ℕ) (symbols : List Symbol) (starts : List ℕ) (fault : Fault) (f : TextFault) → AreSymbols text symbols starts → have symbols fault → IsFaultAt text starts fault f → FaultIn have text f
  at_token text symbols starts fault f a applies at =
      let stands = law.stands symbols fault (symbols_end text symbols starts a) applies in
      let n : length starts ≡ length a.tokens = ap (λ (xs : List ℕ). length xs) a.starts_are ∙ length-map a.tokens start_of in
      let m : length symbols ≡ length a.tokens = ap (λ (xs : List Symbol). length xs) a.symbols_are ∙ length-map a.tokens symbol_of in
      let l = left_at a.tokens fault.left stands.0 (let s = stands.1 in omega arith) in
      let there : get_or starts (length starts - fault.left) 0 ≡ l.token.start =
      ap (λ (k : ℕ). get_or starts (k - fault.left) 0) n ∙ ap (λ (xs : List ℕ). get_or xs (length a.tokens - fault.left) 0) a.starts_are ∙ l.start in
      record {
        tokens = a.tokens;
        divided = a.divided;
        fault = fault;
        applies = subst (λ (xs : List Symbol). have xs fault) a.symbols_are applies;
        is_kind = at.kind;
        place = record {
          before = l.before;
          token = l.token;
          behind = l.behind;
          divided = l.divided;
          place = l.place;
          is = at.place ∙ ap (λ (k : ℕ). place_of (take k text)) there;
        };
      }

  -- its error is the text's fault
  pub refusal_is : (text : List ℕ) (symbols : List Symbol) (starts : List ℕ) (stop : Stop) (e : ParseError) → AreSymbols text symbols starts → IsFaultIn have symbols stop → IsErrorAt text starts stop e → IsErrorOf (FaultIn have) text e
  refusal_is text symbols starts stops.Memory e a told at = subst (IsErrorOf (FaultIn have) text) (sym at) tt
  refusal_is text symbols starts (stops.Fault f) errors.Memory a told at = absurd at
  refusal_is text symbols starts (stops.Fault f) (errors.Text g) a told at = at_token text symbols starts f g a told at

-- ---- only these

-- of a language of texts in which each is one program or has one fault: only that is answered, where a text is told of by view
pub only_program : {X Program : Type 0} {is : List ℕ → Program → Type 0} {has : List ℕ → TextFault → Type 0} (law : AreOneOfBoth is has) (told : List ℕ → X → Type 0) (view : X → Program) (text : List ℕ) (r : Result X ParseError)
    → ((x : X) → told text x → is text (view x)) → IsParse told has text r → (p : Program) → is text p → IsAnswer r (λ x. view x ≡ p)
only_program law told view text (Ok x) seen h p given = law.program text (view x) p (seen x h) given
only_program law told view text (Err errors.Memory) seen h p given = tt
only_program law told view text (Err (errors.Text f)) seen h p given = law.never_both text p f given h

pub only_fault : {X Program : Type 0} {is : List ℕ → Program → Type 0} {has : List ℕ → TextFault → Type 0} (law : AreOneOfBoth is has) (told : List ℕ → X → Type 0) (view : X → Program) (text : List ℕ) (r : Result X ParseError)
    → ((x : X) → told text x → is text (view x)) → IsParse told has text r → (f : TextFault) → has text f → IsFaultAnswer r f
only_fault law told view text (Ok x) seen h f fault = law.never_both text (view x) f (seen x h) fault
only_fault law told view text (Err errors.Memory) seen h f fault = tt
only_fault law told view text (Err (errors.Text g)) seen h f fault = law.fault text g f h fault

-- ---- programs with sugar

pub surface_texts : AreOneOfBoth surface.Reads surface.FaultOf
surface_texts = are_one_of_both surface_laws.symbol_laws texts_divide texts_divide_once

-- where reading with sugar is refused, that is the first fault
pub surface_refused : (symbols : List Symbol) (stop : Stop) → IsFailure stop (sugar.program_at symbols) → IsFaultIn sugar_laws.FaultOfSymbols symbols stop
surface_refused symbols stops.Memory fails = tt
surface_refused symbols (stops.Fault f) fails = surface_laws.fault_is symbols f fails

pub surface_reads : (text : List ℕ) (symbols : List Symbol) (starts : List ℕ) (s : Statements) → AreSymbols text symbols starts → sugar.program_at symbols ≡ Ok s → surface.Reads text s
surface_reads text symbols starts s a e = record {
  tokens = a.tokens;
  divided = a.divided;
  reads = (surface_laws.reads_programs (map symbol_of a.tokens) s (tokens_end text a.tokens a.divided)).0 (ap sugar.program_at (sym a.symbols_are) ∙ e);
}

pub surface_fits : (text : List ℕ) → IsUtf8 text → (symbols : List Symbol) (starts : List ℕ) (s : Statements) → AreSymbols text symbols starts → sugar.program_at symbols ≡ Ok s → FitsStatements s 0
surface_fits text utf8 symbols starts s a e = surface_laws.texts_fit text s utf8 (surface_reads text symbols starts s a e)

pub starts_told : (text : List ℕ) (symbols : List Symbol) (starts : List ℕ) → AreSymbols text symbols starts → (tokens : List Lexeme) → Tokens text tokens → starts ≡ map start_of tokens
starts_told text symbols starts a tokens divided = a.starts_are ∙ ap (map start_of) (texts_divide_once text a.tokens tokens a.divided divided)
