-- Points that stand within fewer declarations are the same under more.
use Rattle.std.proofs.Common.{◌≡◌, ◌∙◌, ℕ, ◌≤◌, List, [], ◌∷◌, ◌++◌, length, map, take, drop, refl, sym, ap, arith, length-append}
use Rattle.std.proofs.lemmas.List.{append-nil, take-append-le, take-append-drop, length-take-le}
use Rattle.std.proofs.Math.Seq.{take-length}
use Rattle.oz_grammar.specs.Scoping.{Scope}
use Rattle.oz_grammar.specs.Points as points
use Rattle.kernel_check.specs.declared.points.Kind.{Kind}
use Rattle.kernel_check.specs.declared.points.Point.{Point}
use Rattle.kernel_check.specs.Seen.{point_of, seen, IsNested}

-- the first of the declarations that stay are the first of those before
taken : (k n : ℕ) (scope more : Scope) → k ≤ n → n ≤ length scope → take k (take n scope ++ more) ≡ take k scope
taken k n scope more within le =
    let some : length (take n scope) ≡ n = length-take-le n scope le in
    let first : k ≤ length (take n scope) = omega (arith, some) in
    take-append-le k (take n scope) more first ∙ sym (take-append-le k (take n scope) (drop n scope) first) ∙ ap (take k) (take-append-drop n scope)

pub nested_more : (m n : ℕ) (ps : List Point) → m ≤ n → IsNested m ps → IsNested n ps
nested_more m n [] le h = tt
nested_more m n (p ∷ ps) le h = (omega (arith, h.0), h.1)

pub same_seen : (n : ℕ) (scope more : Scope) (ps : List Point) → n ≤ length scope → IsNested n ps → map (seen (take n scope ++ more)) ps ≡ map (seen scope) ps
same_seen n scope more [] le h = refl
same_seen n scope more (p ∷ ps) le h =
    let first : seen (take n scope ++ more) p ≡ seen scope p = ap (λ (s : Scope). point_of p.kind (s ++ p.names.items) p.depth) (taken p.around n scope more h.0 le) in
    let rest : map (seen (take n scope ++ more)) ps ≡ map (seen scope) ps = same_seen n scope more ps le (nested_more p.around n ps h.0 h.1) in
    ap (λ (q : points.Point). q ∷ map (seen (take n scope ++ more)) ps) first ∙ ap (λ (qs : List points.Point). seen scope p ∷ qs) rest

-- the declarations that a point leaves have its points within them
pub nested_taken : (n : ℕ) (scope more : Scope) (ps : List Point) → n ≤ length scope → IsNested n ps → IsNested (length (take n scope ++ more)) ps
nested_taken n scope more ps le h =
    let some : length (take n scope) ≡ n = length-take-le n scope le in
    nested_more n (length (take n scope ++ more)) ps (omega (arith, some, length-append (take n scope) more)) h

-- a point within all declarations
pub seen_here : (kind : Kind) (scope more : Scope) (d : ℕ) → point_of kind (take (length scope) scope ++ more) d ≡ point_of kind (scope ++ more) d
seen_here kind scope more d = ap (λ (s : Scope). point_of kind (s ++ more) d) (take-length scope)

pub under_none : (kind : Kind) (scope : Scope) (d : ℕ) → point_of kind (scope ++ []) d ≡ point_of kind scope d
under_none kind scope d = ap (λ (s : Scope). point_of kind s d) (append-nil scope)
