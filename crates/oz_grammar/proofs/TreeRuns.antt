-- A derivation is read from the points, with the faults that its check finds.
use Rattle.std.proofs.Common.{◌≡◌, ℕ, List, [], ◌∷◌, ◌++◌, true, Option, refl, ap, ◌∙◌}
use Rattle.oz_grammar.specs.declared.symbol.Symbol.{Symbol}
use Rattle.oz_grammar.specs.declared.symbol.Symbol.TheVariants as t
use Rattle.oz_grammar.specs.declared.symbol.Closer.{Closer}
use Rattle.oz_grammar.specs.declared.symbol.Closer.TheVariants as closer
use Rattle.oz_grammar.specs.declared.fault.Fault.{Fault}
use Rattle.oz_grammar.specs.Grammar.{Plain, Skips, Tells, Calls, Raises, Opening, Locals, ProcValue, ProcNamed, Threads, ThreadsAt, Ifs, Cases, Statement, Simple, Block, Chooses, Tries, Sequence, One, Then, stmt_text, seq_text, closer_symbol, program_text}
use Rattle.oz_grammar.specs.Scoping.{Scope, StmtDerives, SeqDerives, IsDerivation, opening_scope, choice_scope}
use Rattle.oz_grammar.specs.Faults.{deep_fault, fewer}
use Rattle.oz_grammar.specs.Check.{first_fault, check_opening, check_choice, check_stmt, check_seq, check}
use Rattle.oz_grammar.specs.Points.{Stage, First, Later, Point, At, run, start}
use Rattle.oz_grammar.proofs.Heads.{ends_value, opening_stage, plain_run, opening_run, choice_run}

pub ends_closer : (c : Closer) (rest : List Symbol) → ends_value (closer_symbol c ∷ rest) ≡ true
ends_closer closer.End rest = refl
ends_closer closer.Else rest = refl
ends_closer closer.Catch rest = refl
ends_closer closer.EndOfText rest = refl

ends_plain : (s : Plain) (rest : List Symbol) → ends_value (stmt_text (Simple s) rest) ≡ true
ends_plain Skips rest = refl
ends_plain (Tells x v) rest = refl
ends_plain (Calls p xs) rest = refl
ends_plain (Raises x) rest = refl

ends_opening : (o : Opening) (q : Sequence) (rest : List Symbol) → ends_value (stmt_text (Block o q) rest) ≡ true
ends_opening (Locals x xs) q rest = refl
ends_opening (ProcValue x xs) q rest = refl
ends_opening (ProcNamed x xs) q rest = refl
ends_opening Threads q rest = refl
ends_opening (ThreadsAt n) q rest = refl

pub ends_stmt : (s : Statement) (rest : List Symbol) → ends_value (stmt_text s rest) ≡ true
ends_stmt (Simple s) rest = ends_plain s rest
ends_stmt (Block o q) rest = ends_opening o q rest
ends_stmt (Chooses (Ifs x) q r) rest = refl
ends_stmt (Chooses (Cases x p) q r) rest = refl
ends_stmt (Tries q x r) rest = refl

pub ends_seq : (q : Sequence) (rest : List Symbol) → ends_value (seq_text q rest) ≡ true
ends_seq (One s) rest = ends_stmt s rest
ends_seq (Then s q) rest = ends_stmt s (seq_text q rest)

pub closer_run : (c : Closer) (scope : Scope) (d : ℕ) (rest : List Symbol) (σ : List Point) → run (closer_symbol c ∷ rest) (At Later c scope d ∷ σ) ≡ run rest σ
closer_run closer.End scope d rest σ = refl
closer_run closer.Else scope d rest σ = refl
closer_run closer.Catch scope d rest σ = refl
closer_run closer.EndOfText scope d rest σ = refl

mutual
  pub stmt_run : (s : Statement) (stage : Stage) (c : Closer) (scope : Scope) (d : ℕ) (rest : List Symbol) (σ : List Point) → ends_value rest ≡ true → StmtDerives s scope → run (stmt_text s rest) (At stage c scope d ∷ σ) ≡ check_stmt s d scope rest (run rest (At Later c scope d ∷ σ))
  stmt_run (Simple s) stage c scope d rest σ e good = plain_run s stage c scope d rest σ e good
  stmt_run (Block o q) stage c scope d rest σ e good =
      opening_run o stage c scope d (seq_text q (t.End ∷ rest)) σ
      ∙ ap (λ (b : Option Fault). first_fault (deep_fault d) (stmt_text (Block o q) rest) (check_opening o scope (seq_text q (t.End ∷ rest)) b)) (seq_run q (opening_stage o) closer.End (opening_scope o scope) (fewer d) rest (At Later c scope d ∷ σ) good)
  stmt_run (Chooses h q r) stage c scope d rest σ e good =
      choice_run h stage c scope d (seq_text q (t.Else ∷ seq_text r (t.End ∷ rest))) σ
      ∙ ap (λ (b : Option Fault). first_fault (deep_fault d) (stmt_text (Chooses h q r) rest) (check_choice h scope (seq_text q (t.Else ∷ seq_text r (t.End ∷ rest))) b))
      (seq_run q First closer.Else (choice_scope h scope) (fewer d) (seq_text r (t.End ∷ rest)) (At First closer.End scope (fewer d) ∷ At Later c scope d ∷ σ) good.0
      ∙ ap (λ (b : Option Fault). check_seq q (fewer d) (choice_scope h scope) (t.Else ∷ seq_text r (t.End ∷ rest)) b) (seq_run r First closer.End scope (fewer d) rest (At Later c scope d ∷ σ) good.1))
  stmt_run (Tries q x r) stage c scope d rest σ e good =
      ap (λ (b : Option Fault). first_fault (deep_fault d) (stmt_text (Tries q x r) rest) b)
      (seq_run q First closer.Catch scope (fewer d) (t.Variable x ∷ t.Then ∷ seq_text r (t.End ∷ rest)) _ good.0
      ∙ ap (λ (b : Option Fault). check_seq q (fewer d) scope (t.Catch ∷ t.Variable x ∷ t.Then ∷ seq_text r (t.End ∷ rest)) b) (seq_run r First closer.End (scope ++ x ∷ []) (fewer d) rest (At Later c scope d ∷ σ) good.1))

  pub seq_run : (q : Sequence) (stage : Stage) (c : Closer) (scope : Scope) (d : ℕ) (rest : List Symbol) (σ : List Point) → SeqDerives q scope → run (seq_text q (closer_symbol c ∷ rest)) (At stage c scope d ∷ σ) ≡ check_seq q d scope (closer_symbol c ∷ rest) (run rest σ)
  seq_run (One s) stage c scope d rest σ good =
      stmt_run s stage c scope d (closer_symbol c ∷ rest) σ (ends_closer c rest) good
      ∙ ap (λ (b : Option Fault). check_stmt s d scope (closer_symbol c ∷ rest) b) (closer_run c scope d rest σ)
  seq_run (Then s q) stage c scope d rest σ good =
      stmt_run s stage c scope d (seq_text q (closer_symbol c ∷ rest)) σ (ends_seq q (closer_symbol c ∷ rest)) good.0
      ∙ ap (λ (b : Option Fault). check_stmt s d scope (seq_text q (closer_symbol c ∷ rest)) b) (seq_run q Later c scope d rest σ good.1)

-- a derivation of a program has the faults that its check finds
pub program_run : (q : Sequence) → IsDerivation q → run (program_text q) start ≡ check q
program_run q good = seq_run q First closer.EndOfText [] 200 [] [] good
