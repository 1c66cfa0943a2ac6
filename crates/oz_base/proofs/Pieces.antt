-- Lemmas on the fronts of a piece that is written in several calls.
use Rattle.std.proofs.Common.{◌≡◌, ◌∙◌, ◌-◌, ◌+◌, ℕ, List, [], ◌∷◌, ◌++◌, length, take, drop, arith, length-drop, ap, subst, sym, append-nil, append_assoc, Option, Some, None}
use Rattle.std.proofs.KnownBytes.{Appends-trans}
use Rattle.std.proofs.Math.Seq.{take-add}
use Rattle.std.proofs.lemmas.List.{take_all}
use Rattle.std.specs.Io.KnownBytes.{Appends}
use Rattle.oz_base.specs.Streams.{EachPiece, HandsIn, HandsInOnly, IsRestOf}

-- what `&piece[at..]` is
rest_of : (at : ℕ) (piece : List ℕ) → take (length piece - at) (drop at piece) ≡ drop at piece
rest_of at piece = take_all (length piece - at) (drop at piece) (simp length-drop (omega arith))

-- a front was taken, and then a front of the rest
pub fronts_joined : (a b c : Option (List ℕ)) (at n : ℕ) (piece : List ℕ)
    → Appends a b (take at piece) → Appends b c (take n (take (length piece - at) (drop at piece)))
    → Appends a c (take (at + n) piece)
fronts_joined a b c at n piece p q =
    let r : Appends b c (take n (drop at piece)) = subst (λ l. Appends b c (take n l)) (rest_of at piece) q in
    subst (Appends a c) (sym (take-add at n piece)) (Appends-trans a b c _ _ p r)

-- ---- pieces that calls were handed

each_joined : (P : List ℕ → Type 0) (xs ys : List (List ℕ)) → EachPiece P xs → EachPiece P ys → EachPiece P (xs ++ ys)
each_joined P [] ys h g = g
each_joined P (x ∷ xs) ys h g = (h.0, each_joined P xs ys h.1 g)

pub none_handed : (a : Option (List (List ℕ))) (P : List ℕ → Type 0) → HandsInOnly a a P
none_handed None P = tt
none_handed (Some old) P = ([], sym (append-nil old), tt)

pub handed_joined : (a b c : Option (List (List ℕ))) (P : List ℕ → Type 0) → HandsInOnly a b P → HandsInOnly b c P → HandsInOnly a c P
handed_joined None b c P h g = tt
handed_joined (Some old) None c P h g = absurd h
handed_joined (Some old) (Some mid) None P h g = absurd g
handed_joined (Some old) (Some mid) (Some new) P (xs, is, each) (ys, goes, others) =
    (xs ++ ys, goes ∙ (ap (λ (l : List (List ℕ)). l ++ ys) is ∙ append_assoc old xs ys), each_joined P xs ys each others)

-- one call more, with what is left of the piece
pub rest_handed : (a b c : Option (List (List ℕ))) (at : ℕ) (piece : List ℕ)
    → HandsInOnly a b (IsRestOf piece) → HandsIn b c (take (length piece - at) (drop at piece)) → HandsInOnly a c (IsRestOf piece)
rest_handed a b c at piece h g = handed_joined a b c (IsRestOf piece) h (one b c g)
  where
    one : (b c : Option (List (List ℕ))) → HandsIn b c (take (length piece - at) (drop at piece)) → HandsInOnly b c (IsRestOf piece)
    one None c g = tt
    one (Some old) None g = absurd g
    one (Some old) (Some new) g = (take (length piece - at) (drop at piece) ∷ [], g, ((at, rest_of at piece), tt))
