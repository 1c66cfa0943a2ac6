-- Reading gives the tree or the first fault of symbols.
use Rattle.std.proofs.Common.{◌≡◌, ◌∙◌, List, map, true, Some, Result, Ok, Err, refl, sym, ap, subst}
use Rattle.kernel_syntax.specs.Sugar.{Statements}
use Rattle.oz_grammar.specs.declared.symbol.Symbol.{Symbol}
use Rattle.oz_grammar.specs.declared.fault.Fault.{Fault}
use Rattle.oz_grammar.specs.Symbols.{symbol_of, ends_once}
use Rattle.oz_grammar.proofs.FaultPlaces.{fault_stands}
use Rattle.oz_grammar.proofs.TextLaws.{EndsHere, none_ends, stands_at, nothing_more, SymbolLaws}
use Rattle.oz_grammar.proofs.TextSymbols.{text_spelled}
use Rattle.surface_grammar.specs.Points.{run, start}
use Rattle.surface_grammar.specs.Reading.{program_at}
use Rattle.surface_grammar.specs.Laws.{ReadsSymbols, FaultOfSymbols, ReadsPrograms, ReadsFaults, OneTree}
use Rattle.surface_grammar.specs.Faults.{surface}
use Rattle.surface_grammar.specs.Texts.{TextsFit}
use Rattle.surface_grammar.proofs.Roles.{look}
use Rattle.surface_grammar.proofs.Ends.{program_ends}
use Rattle.surface_grammar.proofs.Limits.{reads_fit}
use Rattle.surface_grammar.proofs.Derived.{surface_is_read, symbols_have_one, never_both, one_fault, points_tell_faults, points_tell_programs}
use Rattle.surface_grammar.proofs.ReadStatements.{fault_in, program_read}
use Rattle.surface_grammar.proofs.ReadDerived.{program_is}

abbrev Read : Statements → Result Statements Fault
Read s = Ok s

one_value : (s r : Statements) → Read s ≡ Read r → s ≡ r
one_value s r e = cc

is_read : (symbols : List Symbol) (s : Statements) → ReadsSymbols symbols s → program_at symbols ≡ Ok s
is_read symbols s r = ap program_at r.derived ∙ program_is r.program r.derives r.passes ∙ ap Read (sym r.tree)

read_is : (symbols : List Symbol) (s : Statements) → ends_once symbols ≡ true → program_at symbols ≡ Ok s → ReadsSymbols symbols s
read_is symbols s ends e =
    let d = points_tell_programs symbols ends (program_read symbols ∙ ap fault_in e) in
    let same : Read d.0 ≡ Read s = sym (is_read symbols d.0 d.1) ∙ e in
    subst (ReadsSymbols symbols) (one_value d.0 s same) d.1

pub reads_programs : ReadsPrograms
reads_programs symbols s ends = (read_is symbols s ends, is_read symbols s)

pub fault_is : (symbols : List Symbol) (f : Fault) → program_at symbols ≡ Err f → FaultOfSymbols symbols f
fault_is symbols f e = points_tell_faults symbols f (program_read symbols ∙ ap fault_in e)

fault_of : (symbols : List Symbol) (f : Fault) (r : Result Statements Fault) → ends_once symbols ≡ true → program_at symbols ≡ r → FaultOfSymbols symbols f → r ≡ Err f
fault_of symbols f (Ok s) ends e F = absurd (never_both symbols s f (read_is symbols s ends e) F)
fault_of symbols f (Err g) ends e F = ap (λ (h : Fault). Err h) (one_fault symbols g f (fault_is symbols g e) F)

pub reads_faults : ReadsFaults
reads_faults symbols f ends = (fault_is symbols f, λ F. fault_of symbols f (program_at symbols) ends refl F)

pub one_tree : OneTree
one_tree symbols s r a b = one_value s r (sym (is_read symbols s a) ∙ is_read symbols r b)

-- ---- texts

fault_found : (symbols : List Symbol) (f : Fault) → ends_once symbols ≡ true → FaultOfSymbols symbols f → run symbols start ≡ Some f
fault_found symbols f ends F = program_read symbols ∙ ap fault_in (fault_of symbols f (program_at symbols) ends refl F)

pub symbol_laws : SymbolLaws ReadsSymbols FaultOfSymbols
symbol_laws = record {
  some = symbols_have_one;
  never_both = never_both;
  one_program = one_tree;
  one_fault = one_fault;
  stands = λ symbols f ends F. stands_at symbols f (fault_stands surface look surface_is_read EndsHere (record { some = none_ends; none_behind = nothing_more; programs = program_ends }) symbols f ends (fault_found symbols f ends F));
}

pub texts_fit : TextsFit
texts_fit text s utf8 r = reads_fit (map symbol_of r.tokens) s (text_spelled text r.tokens utf8 r.divided) r.reads
