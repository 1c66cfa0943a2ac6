-- How long texts are.
use Rattle.std.proofs.Common.{◌<◌, ◌≤◌, List, [], ◌∷◌, length, arith}
use Rattle.oz_grammar.specs.declared.symbol.Symbol.{Symbol}
use Rattle.oz_grammar.specs.declared.symbol.Symbol.TheVariants as t
use Rattle.oz_grammar.specs.Grammar.{Identifier, Field, Placed, WithFeature, Value, ToVar, Calculates, Tests, Selects, Pairs, ToInt, ToAtom, ToRecord, Pattern, IntPattern, AtomPattern, RecordPattern, PairPattern, Plain, Skips, Tells, Calls, Raises, Opening, Locals, ProcValue, ProcNamed, Threads, ThreadsAt, Choice, Ifs, Cases, Statement, Simple, Block, Chooses, Tries, Sequence, One, Then, names_text, fields_text, value_text, pattern_text, plain_text, opening_text, choice_text, stmt_text, seq_text}

pub names_longer : (xs : List Identifier) (rest : List Symbol) → length rest ≤ length (names_text xs rest)
names_longer [] rest = omega arith
names_longer (x ∷ xs) rest = let i = names_longer xs rest in omega arith

pub fields_longer : (fs : List Field) (rest : List Symbol) → length rest ≤ length (fields_text fs rest)
fields_longer [] rest = omega arith
fields_longer (Placed x ∷ fs) rest = let i = fields_longer fs rest in omega arith
fields_longer (WithFeature m x ∷ fs) rest = let i = fields_longer fs rest in omega arith

value_longer : (v : Value) (rest : List Symbol) → length rest < length (value_text v rest)
value_longer (ToVar y) rest = omega arith
value_longer (Calculates y o z) rest = omega arith
value_longer (Tests y o z) rest = omega arith
value_longer (Selects y s) rest = omega arith
value_longer (Pairs h u) rest = omega arith
value_longer (ToInt n) rest = omega arith
value_longer (ToAtom a) rest = omega arith
value_longer (ToRecord a fs) rest = let i = fields_longer fs (t.CloseRound ∷ rest) in omega arith

pub pattern_longer : (p : Pattern) (rest : List Symbol) → length rest < length (pattern_text p rest)
pattern_longer (IntPattern n) rest = omega arith
pattern_longer (AtomPattern a) rest = omega arith
pattern_longer (RecordPattern a fs) rest = let i = fields_longer fs (t.CloseRound ∷ rest) in omega arith
pattern_longer (PairPattern h u) rest = omega arith

plain_longer : (s : Plain) (rest : List Symbol) → length rest < length (plain_text s rest)
plain_longer Skips rest = omega arith
plain_longer (Tells x v) rest = let i = value_longer v rest in omega arith
plain_longer (Calls p xs) rest = let i = names_longer xs (t.CloseCurly ∷ rest) in omega arith
plain_longer (Raises x) rest = omega arith

pub opening_longer : (o : Opening) (rest : List Symbol) → length rest < length (opening_text o rest)
opening_longer (Locals x xs) rest = let i = names_longer xs (t.In ∷ rest) in omega arith
opening_longer (ProcValue x xs) rest = let i = names_longer xs (t.CloseCurly ∷ rest) in omega arith
opening_longer (ProcNamed x xs) rest = let i = names_longer xs (t.CloseCurly ∷ rest) in omega arith
opening_longer Threads rest = omega arith
opening_longer (ThreadsAt n) rest = omega arith

pub choice_longer : (h : Choice) (rest : List Symbol) → length rest < length (choice_text h rest)
choice_longer (Ifs x) rest = omega arith
choice_longer (Cases x p) rest = let i = pattern_longer p (t.Then ∷ rest) in omega arith

mutual
  pub stmt_longer : (s : Statement) (rest : List Symbol) → length rest < length (stmt_text s rest)
  stmt_longer (Simple s) rest = plain_longer s rest
  stmt_longer (Block o q) rest = let i = opening_longer o (seq_text q (t.End ∷ rest)) in let j = seq_longer q (t.End ∷ rest) in omega arith
  stmt_longer (Chooses h q r) rest =
      let i = choice_longer h (seq_text q (t.Else ∷ seq_text r (t.End ∷ rest))) in
      let j = seq_longer q (t.Else ∷ seq_text r (t.End ∷ rest)) in
      let k = seq_longer r (t.End ∷ rest) in omega arith
  stmt_longer (Tries q x r) rest =
      let j = seq_longer q (t.Catch ∷ t.Variable x ∷ t.Then ∷ seq_text r (t.End ∷ rest)) in
      let k = seq_longer r (t.End ∷ rest) in omega arith

  pub seq_longer : (q : Sequence) (rest : List Symbol) → length rest < length (seq_text q rest)
  seq_longer (One s) rest = stmt_longer s rest
  seq_longer (Then s q) rest = let i = stmt_longer s (seq_text q rest) in let j = seq_longer q rest in omega arith
