-- The tree of the program of a large run: it is a derivation, and nothing is wrong in it.
use Rattle.std.proofs.Common.{◌≡◌, ◌∙◌, ℕ, zero, suc, ◌+◌, ◌<◌, List, [], ◌∷◌, Option, Some, None, refl, arith}
use Rattle.std.specs.Prelude.{codes, pos}
use Rattle.kernel_syntax.specs.declared.stmt.Op.TheVariants as op
use Rattle.oz_grammar.specs.declared.symbol.Symbol.{Symbol}
use Rattle.oz_grammar.specs.declared.symbol.Symbol.TheVariants as t
use Rattle.oz_grammar.specs.declared.fault.Fault.{Fault}
use Rattle.oz_grammar.specs.Faults.{site_fault}
use Rattle.oz_grammar.specs.Grammar.{Identifier, Value, ToVar, Calculates, Pairs, ToInt, ToAtom, PairPattern, Tells, Calls, Locals, ProcValue, Threads, ThreadsAt, Ifs, Cases, Statement, Simple, Block, Chooses, Sequence, One, Then, seq_text}
use Rattle.oz_grammar.specs.Scoping.{Scope, built_in_at, StmtDerives, SeqDerives, IsDerivation}
use Rattle.oz_grammar.specs.Check.{check, check_stmt, check_seq}

-- ---- the tree

abbrev tells : Identifier → Value → Statement
tells x v = Simple (Tells x v)

abbrev calls : Identifier → List Identifier → Statement
calls p xs = Simple (Calls p xs)

-- P = proc {$ K J S} .. end
abbrev producer : Statement
producer =
    Block (ProcValue (codes "P") (codes "K" ∷ codes "J" ∷ codes "S" ∷ [])) (One (Block (Locals (codes "B") [])
    (Then (tells (codes "B") (Calculates (codes "J") op.Le (codes "Z")))
    (One (Chooses (Ifs (codes "B"))
    (One (tells (codes "S") (ToAtom (codes "nil"))))
    (One (Block (Locals (codes "O") (codes "M" ∷ codes "K1" ∷ codes "J1" ∷ codes "T" ∷ []))
    (Then (calls (codes "Exchange") (codes "C" ∷ codes "O" ∷ codes "M" ∷ []))
    (Then (tells (codes "M") (Calculates (codes "O") op.Add (codes "One")))
    (Then (tells (codes "K1") (Calculates (codes "K") op.Add (codes "One")))
    (Then (tells (codes "J1") (Calculates (codes "J") op.Sub (codes "One")))
    (Then (tells (codes "S") (Pairs (codes "K") (codes "T")))
    (One (calls (codes "P") (codes "K1" ∷ codes "J1" ∷ codes "T" ∷ [])))))))))))))))

-- Q = proc {$ S A D} .. end
abbrev adder : Statement
adder =
    Block (ProcValue (codes "Q") (codes "S" ∷ codes "A" ∷ codes "D" ∷ [])) (One (Chooses (Cases (codes "S") (PairPattern (codes "H") (codes "T")))
    (One (Block (Locals (codes "F") [])
    (Then (tells (codes "F") (Calculates (codes "A") op.Add (codes "H"))) (One (calls (codes "Q") (codes "T" ∷ codes "F" ∷ codes "D" ∷ []))))))
    (One (tells (codes "D") (ToVar (codes "A"))))))

-- R = proc {$ D} .. end
abbrev collector : Statement
collector =
    Block (ProcValue (codes "R") (codes "D" ∷ [])) (One (Block (Locals (codes "O") (codes "M" ∷ []))
    (Then (calls (codes "Exchange") (codes "E" ∷ codes "O" ∷ codes "M" ∷ [])) (One (Block Threads (One (tells (codes "M") (Calculates (codes "O") op.Add (codes "D")))))))))

-- the statements of the first lines, behind their declarations
abbrev pub prepared : Sequence → Sequence
prepared q =
    Then (tells (codes "Z") (ToInt (Some (pos 0)))) (Then (tells (codes "One") (ToInt (Some (pos 1)))) (Then (tells (codes "J") (ToInt (Some (pos 10))))
    (Then (calls (codes "NewCell") (codes "Z" ∷ codes "C" ∷ [])) (Then (calls (codes "NewCell") (codes "Z" ∷ codes "E" ∷ []))
    (Then producer (Then adder (Then collector q)))))))

-- the line of the stream from k on
abbrev pub stream : ℕ → Statement
stream k =
    Block (Locals (codes "K") (codes "S" ∷ codes "D" ∷ []))
    (Then (tells (codes "K") (ToInt (Some (pos k))))
    (Then (Block (ThreadsAt (Some (pos k))) (One (calls (codes "P") (codes "K" ∷ codes "J" ∷ codes "S" ∷ []))))
    (Then (Block (ThreadsAt (Some (pos (k + 1)))) (One (calls (codes "Q") (codes "S" ∷ codes "Z" ∷ codes "D" ∷ []))))
    (One (calls (codes "R") (codes "D" ∷ []))))))

-- those of 1 to n before others
abbrev pub streams_then : ℕ → Sequence → Sequence
streams_then zero q = q
streams_then (suc n) q = streams_then n (Then (stream (suc n)) q)

-- the last line
abbrev pub shown : Statement
shown =
    Block (Locals (codes "T") (codes "V" ∷ []))
    (Then (calls (codes "Exchange") (codes "E" ∷ codes "T" ∷ codes "T" ∷ [])) (Then (calls (codes "Browse") (codes "T" ∷ []))
    (Then (calls (codes "Exchange") (codes "C" ∷ codes "V" ∷ codes "V" ∷ [])) (One (calls (codes "Browse") (codes "V" ∷ []))))))

abbrev pub others : List Identifier
others = codes "E" ∷ codes "Z" ∷ codes "One" ∷ codes "J" ∷ codes "P" ∷ codes "Q" ∷ codes "R" ∷ []

-- the program
abbrev pub large_program : ℕ → Sequence
large_program size = One (Block (Locals (codes "C") others) (prepared (streams_then size (One shown))))

-- what is declared around all but the first statement
abbrev declared : Scope
declared = codes "C" ∷ others

-- ---- it is a derivation

prepared_derives : (q : Sequence) → SeqDerives q declared → SeqDerives (prepared q) declared
unfolding built_in_at
prepared_derives q h = (tt, (tt, (tt, (refl, (refl, ((tt, (tt, (refl, (tt, (tt, (tt, (tt, tt))))))), (((tt, tt), tt), ((refl, tt), h))))))))

stream_derives : (k : ℕ) → StmtDerives (stream k) declared
unfolding built_in_at
stream_derives k = (tt, (tt, (tt, tt)))

streams_derive : (n : ℕ) (q : Sequence) → SeqDerives q declared → SeqDerives (streams_then n q) declared
streams_derive zero q h = h
streams_derive (suc n) q h = streams_derive n (Then (stream (suc n)) q) (stream_derives (suc n), h)

shown_derives : SeqDerives (One shown) declared
unfolding built_in_at
shown_derives = (refl, (refl, (refl, refl)))

pub large_derives : (size : ℕ) → IsDerivation (large_program size)
large_derives size = prepared_derives (streams_then size (One shown)) (streams_derive size (One shown) shown_derives)

-- ---- nothing is wrong in it

site_passes : (k : ℕ) → 0 < k → site_fault (Some (pos k)) ≡ None
site_passes k some = grind arith

prepared_passes : (q : Sequence) (rest : List Symbol) (behind : Option Fault) → check_seq (prepared q) 199 declared rest behind ≡ check_seq q 199 declared rest behind
unfolding built_in_at
prepared_passes q rest behind = refl

stream_passes : (k : ℕ) (rest : List Symbol) (behind : Option Fault) → 0 < k → check_stmt (stream k) 199 declared rest behind ≡ behind
unfolding built_in_at
stream_passes k rest behind some =
    let here = site_passes k some in
    let next = site_passes (k + 1) (omega arith) in
    rw (here, next) refl

streams_pass : (n : ℕ) (q : Sequence) (rest : List Symbol) (behind : Option Fault) → check_seq (streams_then n q) 199 declared rest behind ≡ check_seq q 199 declared rest behind
streams_pass zero q rest behind = refl
streams_pass (suc n) q rest behind = streams_pass n (Then (stream (suc n)) q) rest behind ∙ stream_passes (suc n) (seq_text q rest) (check_seq q 199 declared rest behind) (omega arith)

shown_passes : (rest : List Symbol) (behind : Option Fault) → check_seq (One shown) 199 declared rest behind ≡ behind
unfolding built_in_at
shown_passes rest behind = refl

pub large_passes : (size : ℕ) → check (large_program size) ≡ None
large_passes size =
    prepared_passes (streams_then size (One shown)) (t.End ∷ t.EndOfText ∷ []) None ∙ (streams_pass size (One shown) (t.End ∷ t.EndOfText ∷ []) None ∙ shown_passes (t.End ∷ t.EndOfText ∷ []) None)
