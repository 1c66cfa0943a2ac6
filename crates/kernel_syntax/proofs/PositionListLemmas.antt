-- One list more behind others.
use Rattle.std.proofs.Common.{arith, ◌≡◌, ◌∙◌, ap, refl, ℕ, ◌-◌, List, [], ◌∷◌, ◌++◌, length, take, drop}
use Rattle.std.proofs.Math.Seq.{drop-append_seam, take-length}
use Rattle.std.proofs.lemmas.List.{length-append, length-drop, drop-append-le, take-append-le, map-append}
use Rattle.tree_node.specs.Each.{Each}
use Rattle.kernel_syntax.specs.PositionLists.{list_at, lists_of, IsWithin}

same_list : (xs ys : List ℕ) (span : ℕ × ℕ) → IsWithin xs span → list_at (xs ++ ys) span ≡ list_at xs span
same_list xs ys span within =
    ap (take (span.1 - span.0)) (drop-append-le span.0 xs ys (omega (arith, within.0, within.1)))
    ∙ take-append-le (span.1 - span.0) (drop span.0 xs) ys (omega (arith, length-drop span.0 xs, within.0, within.1))

same_lists : (xs ys : List ℕ) (spans : List (ℕ × ℕ)) → Each (IsWithin xs) spans → lists_of (xs ++ ys) spans ≡ lists_of xs spans
same_lists xs ys [] within = refl
same_lists xs ys (span ∷ spans) within =
    ap (λ (list : List ℕ). list ∷ lists_of (xs ++ ys) spans) (same_list xs ys span within.0)
    ∙ ap (λ (lists : List (List ℕ)). list_at xs span ∷ lists) (same_lists xs ys spans within.1)

last_list : (xs ys : List ℕ) → list_at (xs ++ ys) (length xs, length (xs ++ ys)) ≡ ys
last_list xs ys =
    let count : length (xs ++ ys) - length xs ≡ length ys = omega (arith, length-append xs ys) in
    ap (λ (n : ℕ). take n (drop (length xs) (xs ++ ys))) count
    ∙ ap (take (length ys)) (drop-append_seam xs ys) ∙ take-length ys

pub lists_more : (xs ys : List ℕ) (spans : List (ℕ × ℕ)) → Each (IsWithin xs) spans → lists_of (xs ++ ys) (spans ++ (length xs, length (xs ++ ys)) ∷ []) ≡ lists_of xs spans ++ ys ∷ []
lists_more xs ys spans within =
    map-append (list_at (xs ++ ys)) spans ((length xs, length (xs ++ ys)) ∷ [])
    ∙ ap (λ (lists : List (List ℕ)). lists ++ list_at (xs ++ ys) (length xs, length (xs ++ ys)) ∷ []) (same_lists xs ys spans within)
    ∙ ap (λ (list : List ℕ). lists_of xs spans ++ list ∷ []) (last_list xs ys)
