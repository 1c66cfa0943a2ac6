use Rattle.std.proofs.Common.{◌≡◌, List, ℕ, length, Ok, sym, subst, string_bytes, rules}
use Rattle.kernel_syntax.specs.SugarView.{statements_in}
use Rattle.kernel_syntax.specs.Surfaces.{surface_of}
use Rattle.surface_grammar.specs.Reading.{program_at}
use Rattle.surface_grammar.proofs.ReadLaws.{symbol_laws}
use Rattle.oz_parser.specs.ParseAnswers.{IsSurface, Stands, IsErrorAt}
use Rattle.oz_parser.proofs.Parsing.{surface_refused, surface_reads, surface_fits, starts_told, refusal_stands, refusal_is}
use Rattle.oz_parser.proofs.surface.surface.Goals as goal

pub new-requires-clause-fits : goal.new-requires-clause-fits
new-requires-clause-fits c =
    let found : program_at c.args.symbols.now ≡ Ok (statements_in c.in-Ok.tree.items) = search rules in
    surface_fits c.args.text.now c.utf8.text c.args.symbols.now c.args.starts.items (statements_in c.in-Ok.tree.items) c.requires.symbols found

pub error_of-requires-clause-stands : goal.error_of-requires-clause-stands
error_of-requires-clause-stands c =
    subst (λ (starts : List ℕ). Stands c.in-Err.stop (length starts)) (sym c.as_slice.ensures.value)
    (refusal_stands symbol_laws c.args.text.now c.args.symbols.now c.args.starts.items c.in-Err.stop c.requires.symbols (surface_refused c.args.symbols.now c.in-Err.stop (search rules)))

pub returns-in_ok-from_str-in-Ok : goal.returns-in_ok-from_str-in-Ok
returns-in_ok-from_str-in-Ok c =
    let found : program_at c.args.symbols.now ≡ Ok (statements_in c.in-Ok.tree.items) = search rules in
    let copied : string_bytes c.in_ok-from_str-in-Ok.field-0 ≡ c.args.text.now = search rules in
    let told : IsSurface c.args.text.now (surface_of c.in-Ok.tree.items (string_bytes c.in_ok-from_str-in-Ok.field-0) c.args.starts.items) = record {
      reads = surface_reads c.args.text.now c.args.symbols.now c.args.starts.items (statements_in c.in-Ok.tree.items) c.requires.symbols found;
      same_text = copied;
      starts = starts_told c.args.text.now c.args.symbols.now c.args.starts.items c.requires.symbols;
    } in subst (IsSurface c.args.text.now) (sym c.new.ensures) told

pub returns-in-Err : goal.returns-in-Err
returns-in-Err c =
    let at = subst (λ (starts : List ℕ). IsErrorAt c.args.text.now starts c.in-Err.stop c.error_of.result) c.as_slice.ensures.value c.error_of.ensures in
    refusal_is symbol_laws c.args.text.now c.args.symbols.now c.args.starts.items c.in-Err.stop c.error_of.result c.requires.symbols (surface_refused c.args.symbols.now c.in-Err.stop (search rules)) at
