-- The text that is run is one, where the source tells its bytes.
use Rattle.std.proofs.Common.{◌≡◌, ◌∙◌, ℕ, List, [], ◌++◌, append-nil, Option, Some, None, ap, refl, sym, subst}
use Rattle.std.specs.Io.KnownBytes.{Consumes, IsAtEnd}
use Rattle.run_file.specs.Laws.{SavesOne}
use Rattle.run_file.specs.Saved.{Saved, SavedRun}
use Rattle.oz_words.specs.declared.options.Action.{Action}
use Rattle.oz_words.specs.declared.options.Action.TheVariants as action
use Rattle.oz_runner.specs.Cause.{IsFileOfSource, IsGiven, IsTextOf, ReadsSource, byte_limit, file_limit, text_limit}
use Rattle.oz_runner.specs.OzCall.{Stream}

-- what was given of told bytes is no longer than what was given to their end
front_within : (bytes text front : List ℕ) (after : Option (List ℕ)) → Consumes (Some bytes) after text → IsAtEnd after → Consumes (Some bytes) after front → front ≡ text
front_within bytes text front None h end g = absurd h
front_within bytes text front (Some rest) h end g =
    let h2 : bytes ≡ text ++ [] = h ∙ ap (λ r. text ++ r) end in
    let g2 : bytes ≡ front ++ [] = g ∙ ap (λ r. front ++ r) end in
    sym (append-nil front) ∙ (sym g2 ∙ (h2 ∙ append-nil text))

-- bytes that were given to the end are those that are told, as is any front that was given
pub given_same : (s : Stream) (bytes text front : List ℕ) (limit : ℕ) → s.bytes_before ≡ Some bytes → IsGiven limit s text → Consumes s.bytes_before s.bytes_after front → front ≡ text
given_same s bytes text front limit told h g =
    front_within bytes text front s.bytes_after
    (subst (λ (o : Option (List ℕ)). Consumes o s.bytes_after text) told h.0) h.1
    (subst (λ (o : Option (List ℕ)). Consumes o s.bytes_after front) told g)

-- they are all that the source had
pub told_same : (s : Stream) (told bytes : List ℕ) (limit : ℕ) → s.bytes_before ≡ Some told → IsGiven limit s bytes → told ≡ bytes
told_same s told bytes limit before gave = go s.bytes_after (subst (λ (o : Option (List ℕ)). Consumes o s.bytes_after bytes) before gave.0) gave.1
  where
    go : (after : Option (List ℕ)) → Consumes (Some told) after bytes → IsAtEnd after → told ≡ bytes
    go None h end = absurd h
    go (Some ys) h end = h ∙ (ap (λ l. bytes ++ l) end ∙ append-nil bytes)

-- the bytes that the source gave for the text that is run
pub bytes_of_text : (a : Action) (file : Option SavedRun) (s : Stream) (text : List ℕ) → ReadsSource a → IsTextOf a file s text → (bytes : List ℕ) × IsGiven (byte_limit a) s bytes
bytes_of_text action.Run None s text reads h = (text, h)
bytes_of_text action.Central None s text reads h = (text, h)
bytes_of_text action.Save None s text reads h = (text, h)
bytes_of_text action.Check (Some file) s text reads h = (h.0.0, h.0.1)
bytes_of_text (action.Gen size) file s text reads h = absurd reads
bytes_of_text action.Run (Some file) s text reads h = absurd h
bytes_of_text action.Central (Some file) s text reads h = absurd h
bytes_of_text action.Save (Some file) s text reads h = absurd h
bytes_of_text action.Check None s text reads h = absurd h

-- a source gave one saved run
pub file_same : SavesOne → (s : Stream) (told : (bytes : List ℕ) × (s.bytes_before ≡ Some bytes)) (f g : SavedRun) → IsFileOfSource s f → IsFileOfSource s g → f ≡ g
file_same saves s told f g (one, gave, spells) (two, gives, spelled) =
    saves one f g spells (subst (Saved g) (given_same s told.0 one two file_limit told.1 gave gives.0) spelled)

-- and one text is run
pub text_same : SavesOne → (a : Action) (f g : Option SavedRun) (s : Stream) (text other : List ℕ) → (bytes : List ℕ) × (s.bytes_before ≡ Some bytes)
    → IsTextOf a f s text → IsTextOf a g s other → (f ≡ g) × (text ≡ other)
text_same saves action.Run None None s text other told h g = (refl, given_same s told.0 other text text_limit told.1 g h.0)
text_same saves action.Central None None s text other told h g = (refl, given_same s told.0 other text text_limit told.1 g h.0)
text_same saves action.Save None None s text other told h g = (refl, given_same s told.0 other text text_limit told.1 g h.0)
text_same saves (action.Gen size) None None s text other told h g = (refl, h.0 ∙ sym g.0)
text_same saves action.Check (Some f) (Some g) s text other told h k =
    let same = file_same saves s told f g h.0 k.0 in
    (ap Some same, h.1 ∙ (ap (λ (r : SavedRun). r.text) same ∙ sym k.1))
text_same saves action.Run (Some f) g s text other told h k = absurd h
text_same saves action.Run None (Some g) s text other told h k = absurd k
text_same saves action.Central (Some f) g s text other told h k = absurd h
text_same saves action.Central None (Some g) s text other told h k = absurd k
text_same saves (action.Gen size) (Some f) g s text other told h k = absurd h
text_same saves (action.Gen size) None (Some g) s text other told h k = absurd k
text_same saves action.Save (Some f) g s text other told h k = absurd h
text_same saves action.Save None (Some g) s text other told h k = absurd k
text_same saves action.Check None g s text other told h k = absurd h
text_same saves action.Check (Some f) None s text other told h k = absurd k
