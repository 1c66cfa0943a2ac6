-- Parts written one after the other: the lines of a turn, and the turns of a journal.
use Rattle.std.proofs.Common.{zero, suc, ◌≡◌, ◌∙◌, ◌<◌, ◌≤◌, ◌+◌, ℕ, List, [], ◌∷◌, ◌++◌, length, take, drop, get_or, reverse, append_assoc, arith, ap, sym, subst, refl, Option, add-one, length-append, Result, Ok, Err}
use Rattle.std.specs.List.{flat_map}
use Rattle.std.specs.Io.KnownBytes.{Appends}
use Rattle.std.proofs.KnownBytes.{Appends-trans}
use Rattle.std.proofs.Math.Seq.{take-append-add}
use Rattle.std.proofs.lemmas.List.{take-append-le, take_all, append-nil, reverse-append}
use Rattle.oz_base.specs.Streams.{TakesPiece, TakesFront}
use Rattle.oz_model.specs.Output.{pieces_of}
use Rattle.site_message.specs.declared.turn.Turn.{Turn}
use Rattle.world_model.specs.Schedule.{lines_in}

module _ {X : Type 0} (f : X → List ℕ) where
  -- what was written, the next part, and the rest
  parted : (xs : List X) (i : ℕ) (d : X) → i < length xs
      → flat_map f xs ≡ flat_map f (take i xs) ++ (f (get_or xs i d) ++ flat_map f (drop (suc i) xs))
  parted [] i d lt = absurd (omega arith)
  parted (x ∷ xs) zero d lt = refl
  parted (x ∷ xs) (suc i) d lt =
      ap (λ b. f x ++ b) (parted xs i d (omega arith)) ∙ sym (append_assoc (f x) (flat_map f (take i xs)) _)

  one_more : (xs : List X) (i : ℕ) (d : X) → i < length xs → flat_map f (take (suc i) xs) ≡ flat_map f (take i xs) ++ f (get_or xs i d)
  one_more [] i d lt = absurd (omega arith)
  one_more (x ∷ xs) zero d lt = append-nil (f x)
  one_more (x ∷ xs) (suc i) d lt =
      ap (λ b. f x ++ b) (one_more xs i d (omega arith)) ∙ sym (append_assoc (f x) (flat_map f (take i xs)) _)

  -- one more part was written
  pub part_written : (a b c : Option (List ℕ)) (xs : List X) (i : ℕ) (x : X) → i < length xs → x ≡ get_or xs i x
      → (part : List ℕ) → part ≡ f x → Appends a b (flat_map f (take i xs)) → Appends b c part → Appends a c (flat_map f (take (i + 1) xs))
  part_written a b c xs i x lt is part e p q =
      let last : Appends b c (f (get_or xs i x)) = subst (Appends b c) (e ∙ ap f is) q in
      rw add-one (subst (Appends a c) (sym (one_more xs i x lt)) (Appends-trans a b c _ _ p last))

  -- a front of one part was written, and no more
  pub part_stopped : (a b c : Option (List ℕ)) (xs : List X) (i : ℕ) (x : X) → i < length xs → x ≡ get_or xs i x
      → (part : List ℕ) → part ≡ f x → Appends a b (flat_map f (take i xs)) → TakesFront b c part → TakesFront a c (flat_map f xs)
  part_stopped a b c xs i x lt is part e p (n, less, q) =
      let done = flat_map f (take i xs) in
      let rest = flat_map f (drop (suc i) xs) in
      let whole : flat_map f xs ≡ done ++ (part ++ rest) =
      parted xs i x lt ∙ ap (λ (b : List ℕ). done ++ (b ++ rest)) (ap f (sym is) ∙ sym e) in
      let front : take (length done + n) (flat_map f xs) ≡ done ++ take n part =
      ap (take (length done + n)) whole ∙ (take-append-add done (part ++ rest) n ∙ ap (λ b. done ++ b) (take-append-le n part rest (omega arith))) in
      let size : length (flat_map f xs) ≡ length done + (length part + length rest) =
      ap length whole ∙ (length-append done _ ∙ ap (λ k. length done + k) (length-append part rest)) in
      (length done + n, omega arith, subst (Appends a c) (sym front) (Appends-trans a b c _ _ p q))

  -- all parts were written
  pub all_written : (a b : Option (List ℕ)) (xs : List X) (i : ℕ) → length xs ≤ i → Appends a b (flat_map f (take i xs)) → Appends a b (flat_map f xs)
  all_written a b xs i le p = subst (λ (ys : List X). Appends a b (flat_map f ys)) (take_all i xs le) p

-- ---- lines, and turns

abbrev pub line_piece : List ℕ → List ℕ
line_piece line = line ++ 10 ∷ []

abbrev pub turn_pieces : Turn → List ℕ
turn_pieces e = pieces_of e.lines

pub lines_are : (ls : List (List ℕ)) → flat_map line_piece ls ≡ pieces_of ls
lines_are [] = refl
lines_are (l ∷ ls) = ap (λ b. line_piece l ++ b) (lines_are ls)

pieces_append : (xs ys : List (List ℕ)) → pieces_of (xs ++ ys) ≡ pieces_of xs ++ pieces_of ys
pieces_append [] ys = refl
pieces_append (x ∷ xs) ys = ap (λ b. line_piece x ++ b) (pieces_append xs ys) ∙ sym (append_assoc (line_piece x) (pieces_of xs) (pieces_of ys))

lines_append : (j k : List Turn) → lines_in (j ++ k) ≡ lines_in k ++ lines_in j
lines_append [] k = sym (append-nil (lines_in k))
lines_append (e ∷ j) k = ap (λ ls. ls ++ e.lines) (lines_append j k) ∙ append_assoc (lines_in k) (lines_in j) e.lines

-- the oldest turn's lines come first
pub lines_reverse : (e : Turn) (ts : List Turn) → lines_in (reverse (e ∷ ts)) ≡ e.lines ++ lines_in (reverse ts)
lines_reverse e ts = ap lines_in (reverse-append (e ∷ []) ts) ∙ lines_append (reverse ts) (e ∷ [])

pub turns_are : (ts : List Turn) → flat_map turn_pieces ts ≡ pieces_of (lines_in (reverse ts))
turns_are [] = refl
turns_are (e ∷ ts) =
    ap (λ b. pieces_of e.lines ++ b) (turns_are ts)
    ∙ (sym (pieces_append e.lines (lines_in (reverse ts))) ∙ ap pieces_of (sym (lines_reverse e ts)))

-- all of one piece, and then a second
pub then_piece : {T E : Type 0} (a b c : Option (List ℕ)) (r : Result T E) (xs ys : List ℕ) → Appends a b xs → TakesPiece b c r ys → TakesPiece a c r (xs ++ ys)
then_piece a b c (Ok u) xs ys p q = Appends-trans a b c xs ys p q
then_piece a b c (Err e) xs ys p (n, less, q) = (
  length xs + n,
  simp length-append (omega arith),
  subst (Appends a c) (sym (take-append-add xs ys n)) (Appends-trans a b c xs _ p q),
)
