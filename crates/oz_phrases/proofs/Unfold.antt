-- One step of what is read by recursion: fields.
use Rattle.std.proofs.Common.{◌≡◌, ℕ, zero, suc, ◌-◌, ◌<◌, List, ◌∷◌, drop, true, false, Option, Some, None, Result, Ok, Err, refl, sym, ◌∙◌, arith}
use Rattle.std.specs.Prelude.{ℤ}
use Rattle.oz_grammar.specs.declared.symbol.Symbol.{Symbol}
use Rattle.oz_grammar.specs.declared.symbol.Symbol.TheVariants as t
use Rattle.oz_grammar.specs.declared.symbol.Purpose.{Purpose}
use Rattle.oz_grammar.specs.declared.fault.Fault.{Fault}
use Rattle.oz_grammar.specs.Scoping.{Scope, Fields}
use Rattle.oz_grammar.specs.Reading.{◌>>=◌, is_close_round, field_at, fields_at}
use Rattle.oz_phrases.specs.declared.stop.Stop.{Stop}
use Rattle.oz_phrases.specs.declared.stop.Stop.TheVariants as stops
use Rattle.oz_phrases.specs.ReadAnswers.{IsFailure}
use Rattle.oz_phrases.specs.Fields.{numbered_field_of}

pub number_read : (p : Purpose) (scope : Scope) (room : ℕ) (before : Fields) (next : ℕ) (n : Option ℤ) (rest : List Symbol) → field_at p scope room before next (t.Integer n ∷ rest) ≡ numbered_field_of p scope room before next n (t.Integer n ∷ rest) rest
number_read p scope room before next None rest = refl
number_read p scope room before next (Some v) rest = refl

pub fields_round : (p : Purpose) (scope : Scope) (room : ℕ) (before : Fields) (next : ℕ) (symbols : List Symbol) → is_close_round symbols ≡ true → fields_at p scope room before next symbols ≡ Ok (before, drop 1 symbols)
unfolding fields_at
fields_round p scope zero before next symbols e = rw e refl
fields_round p scope (suc room) before next symbols e = rw e refl

pub fields_zero : (p : Purpose) (scope : Scope) (room : ℕ) (before : Fields) (next : ℕ) (symbols : List Symbol) → room ≡ 0 → is_close_round symbols ≡ false → fields_at p scope room before next symbols ≡ (field_at p scope room before next symbols >>= λ m. Ok (m.0, m.2))
unfolding fields_at
fields_zero p scope zero before next symbols z e = rw e refl
fields_zero p scope (suc room) before next symbols z e = absurd cc

pub fields_some : (p : Purpose) (scope : Scope) (room : ℕ) (before : Fields) (next : ℕ) (symbols : List Symbol) → 0 < room → is_close_round symbols ≡ false → fields_at p scope room before next symbols ≡ (field_at p scope room before next symbols >>= λ m. fields_at p scope (room - 1) m.0 m.1 m.2)
unfolding fields_at
fields_some p scope zero before next symbols z e = absurd (omega arith)
fields_some p scope (suc room) before next symbols z e = let m : suc room - 1 ≡ room = omega arith in rw (e, m) refl

pub fields_refused : (e : Stop) (p : Purpose) (scope : Scope) (room : ℕ) (before : Fields) (next : ℕ) (symbols : List Symbol) (all : Result (Fields × List Symbol) Fault) → fields_at p scope room before next symbols ≡ all → is_close_round symbols ≡ false → IsFailure e (field_at p scope room before next symbols) → IsFailure e all
fields_refused stops.Memory p scope room before next symbols all so_far r fails = tt
fields_refused (stops.Fault f) p scope zero before next symbols all so_far r fails =
    let same : fields_at p scope 0 before next symbols ≡ Err f = fields_zero p scope 0 before next symbols refl r ∙ rw fails refl in
    sym so_far ∙ same
fields_refused (stops.Fault f) p scope (suc room) before next symbols all so_far r fails =
    let same : fields_at p scope (suc room) before next symbols ≡ Err f = fields_some p scope (suc room) before next symbols (omega arith) r ∙ rw fails refl in
    sym so_far ∙ same
