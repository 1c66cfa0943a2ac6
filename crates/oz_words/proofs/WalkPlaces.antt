-- A walk over the words does not depend on where the names of a command's rules lie.
use Rattle.std.proofs.Common.{zero, suc, ◌≡◌, ◌∙◌, ℕ, Bool, true, false, List, [], ◌∷◌, map, Option, Some, None, refl, ap, ap₂, fold}
use Rattle.std.specs.Prelude.{◌&&◌, ◌||◌, if◌then◌else◌, find, option_map, encode_utf8, drop, length, slice_get}
use Rattle.std.specs.Option.{option_map_or}
use Rattle.std.specs.Str.{bytes_eq, chars}
use Rattle.clap.specs.Lexer.{long_of, short_of}
use Rattle.clap.specs.Facts.{parser_of_value}
use Rattle.clap.specs.Values.{reading_of}
use Rattle.clap.specs.Walk.{Text, Rule, Row, Held, Names, Waiting, Step, Outcome, Walk, action_of, values_or_missing, used_as, used, used_by_id, arg_by_id, arg_by_long, arg_by_short, arg_by_index, settled_rows, settled, reacted, option_met, flag_met, long_met, short_met, bundle_step, bundle_met, bundle, option_word, plain_word, after_flag, long_word, short_word, short_or_plain, long_or_other, subcommand_or_other, subcommand_met, word_met, is_pending, takes_values, takes_several, pushed, positional_held, to_positional, after_step, walked_from, walked, walk_from, walk, has_row, default_rows, with_default, finished, rows_after, nothing_held, done, waits, plain, refused, idle, option, positional, next, trailing, subcommand, value, attached_value, is_multiple, next_position}
use Rattle.clap.specs.declared.builder.ValueParser.{ValueParser}
use Rattle.clap.specs.declared.builder.ValueParser.TheVariants as vp
use Rattle.oz_words.specs.Places.{placeless_parser, placeless_rule}

-- ---- searches, choices and folds over mapped lists

-- the rules, whose names lie at no place
abbrev pub bare : List Rule → List Rule
bare = map placeless_rule

pub chosen : {X : Type 0} (b : Bool) (x x' y y' : X) → x' ≡ x → y' ≡ y → (if b then x' else y') ≡ (if b then x else y)
chosen b x x' y y' e f = ap₂ (λ v w. if b then v else w) e f

-- a test that does not see the change finds the same
pub found_mapped : {X : Type 0} (f : X → X) (p q : X → Bool) → ((x : X) → q (f x) ≡ p x) → (xs : List X)
    → find q (map f xs) ≡ option_map f (find p xs)
found_mapped f p q e [] = refl
found_mapped f p q e (x ∷ xs) = go (p x) (q (f x)) (e x) (found_mapped f p q e xs)
  where
    go : (a b : Bool) → b ≡ a → find q (map f xs) ≡ option_map f (find p xs)
        → (if b then Some (f x) else find q (map f xs)) ≡ option_map f (if a then Some x else find p xs)
    go true true is rest = refl
    go false false is rest = rest
    go true false is rest = cc
    go false true is rest = cc

pub folded : {X Y : Type 0} (f g : X → Y → X) → ((x : X) (y : Y) → f x y ≡ g x y) → (x : X) (ys : List Y) → fold f x ys ≡ fold g x ys
folded f g e x [] = refl
folded f g e x (y ∷ ys) = ap (λ z. fold f z ys) (e x y) ∙ folded f g e (g x y) ys

-- what is made of a rule that was found
pub on_found : {Y : Type 0} (F G : Rule → Y) (d : Y) → ((a : Rule) → F (placeless_rule a) ≡ G a) → (o : Option Rule)
    → option_map_or F (option_map placeless_rule o) d ≡ option_map_or G o d
on_found F G d e None = refl
on_found F G d e (Some a) = e a

pub by_id : (c : List Rule) (id : Text) → arg_by_id (bare c) id ≡ option_map placeless_rule (arg_by_id c id)
by_id c id = found_mapped placeless_rule (λ a. bytes_eq a.id id) (λ a. bytes_eq a.id id) (λ a. refl) c

pub by_long : (c : List Rule) (name : Text) → arg_by_long (bare c) name ≡ option_map placeless_rule (arg_by_long c name)
by_long c name = found_mapped placeless_rule _ _ (λ a. refl) c

pub by_short : (c : List Rule) (x : ℕ) → arg_by_short (bare c) x ≡ option_map placeless_rule (arg_by_short c x)
by_short c x = found_mapped placeless_rule _ _ (λ a. refl) c

pub by_index : (c : List Rule) (i : ℕ) → arg_by_index (bare c) i ≡ option_map placeless_rule (arg_by_index c i)
by_index c i = found_mapped placeless_rule _ _ (λ a. refl) c

-- ---- one use of an argument

reading_parser : (p : ValueParser) → reading_of (placeless_parser p) ≡ reading_of p
reading_parser (vp.Names names) = refl
reading_parser p = refl

reading_same : (o : Option ValueParser) → reading_of (parser_of_value (option_map placeless_parser o)) ≡ reading_of (parser_of_value o)
reading_same None = refl
reading_same (Some p) = reading_parser p

used_same : (a : Rule) (values : List Text) (rows : List Row) → used (placeless_rule a) values rows ≡ used a values rows
used_same a values rows = ap (λ how. used_as (action_of a) a.id how (values_or_missing a values) rows) (reading_same a.parser)

used_by_same : (o : Option Rule) (values : List Text) (rows : List Row) → used_by_id (option_map placeless_rule o) values rows ≡ used_by_id o values rows
used_by_same None values rows = refl
used_by_same (Some a) values rows = used_same a values rows

settled_rows_same : (c : List Rule) (p : Option (Text × List Text)) (rows : List Row) → settled_rows (bare c) p rows ≡ settled_rows c p rows
settled_rows_same c None rows = refl
settled_rows_same c (Some p) rows = ap (λ o. used_by_id o p.1 rows) (by_id c p.0) ∙ used_by_same (arg_by_id c p.0) p.1 rows

pub settled_same : (c : List Rule) (h : Held) → settled (bare c) h ≡ settled c h
settled_same c h = ap (λ (rows : List Row). record h { rows = rows; pending = None }) (settled_rows_same c h.pending h.rows)

pub reacted_same : (c : List Rule) (a : Rule) (values : List Text) (h : Held) → reacted (bare c) (placeless_rule a) values h ≡ reacted c a values h
reacted_same c a values h =
    ap (λ (rows : List Row). record h { rows = rows; pending = None })
    (used_same a values (settled (bare c) h).rows ∙ ap (λ (k : Held). used a values k.rows) (settled_same c h))

-- ---- one word

option_met_same : (c : List Rule) (a : Rule) (v : Option Text) (h : Held) → option_met (bare c) (placeless_rule a) v h ≡ option_met c a v h
option_met_same c a (Some v) h = ap (λ (k : Held). (k, done)) (reacted_same c a (v ∷ []) h)
option_met_same c a None h = ap (λ (k : Held). (record k { pending = Some (a.id, []) }, waits a.id)) (settled_same c h)

flag_met_same : (c : List Rule) (a : Rule) (v : Option Text) (h : Held) → flag_met (bare c) (placeless_rule a) v h ≡ flag_met c a v h
flag_met_same c a (Some v) h = refl
flag_met_same c a None h = ap (λ (k : Held). (k, done)) (reacted_same c a [] h)

long_met_same : (c : List Rule) (o : Option Rule) (v : Option Text) (h : Held) → long_met (bare c) (option_map placeless_rule o) v h ≡ long_met c o v h
long_met_same c None v h = refl
long_met_same c (Some a) v h = chosen (takes_values a) _ _ _ _ (option_met_same c a v h) (flag_met_same c a v h)

short_met_same : (c : List Rule) (o : Option Rule) (rest : Text) (h : Held) (f g : Held → Held × Outcome) → ((k : Held) → f k ≡ g k)
    → short_met (bare c) (option_map placeless_rule o) rest h f ≡ short_met c o rest h g
short_met_same c None rest h f g e = refl
short_met_same c (Some a) rest h f g e =
    chosen (takes_values a) _ _ _ _ (option_met_same c a (attached_value rest) h) (ap f (reacted_same c a [] h) ∙ e (reacted c a [] h))

bundle_step_same : (c : List Rule) (x : Option ℕ) (flags : Text) (skip : ℕ) (so_far : Outcome) (h : Held)
    (f g : Text → ℕ → Outcome → Held → Held × Outcome) → ((t : Text) (n : ℕ) (o : Outcome) (k : Held) → f t n o k ≡ g t n o k)
    → bundle_step (bare c) x flags skip so_far h f ≡ bundle_step c x flags skip so_far h g
bundle_step_same c None flags skip so_far h f g e = refl
bundle_step_same c (Some x) flags zero so_far h f g e =
    let rest = drop (length (encode_utf8 x)) flags in
    ap (λ o. short_met (bare c) o rest h (f rest 0 done)) (by_short c x)
    ∙ short_met_same c (arg_by_short c x) rest h (f rest 0 done) (g rest 0 done) (e rest 0 done)
bundle_step_same c (Some x) flags (suc skip) so_far h f g e = e (drop (length (encode_utf8 x)) flags) skip so_far h

bundle_met_same : (c : List Rule) (k : ℕ) (flags : Text) (skip : ℕ) (so_far : Outcome) (h : Held)
    → bundle_met (bare c) k flags skip so_far h ≡ bundle_met c k flags skip so_far h
unfolding bundle_met
bundle_met_same c zero flags skip so_far h = refl
bundle_met_same c (suc k) flags skip so_far h =
    bundle_step_same c (slice_get (chars flags) 0) flags skip so_far h (bundle_met (bare c) k) (bundle_met c k)
    (λ t n o j. bundle_met_same c k t n o j)

option_word_same : (o : Option Rule) (id word : Text) (h : Held) → option_word (option_map placeless_rule o) id word h ≡ option_word o id word h
option_word_same None id word h = refl
option_word_same (Some a) id word h = refl

option_words_same : (c : List Rule) (id word : Text) (h : Held) → option_word (arg_by_id (bare c) id) id word h ≡ option_word (arg_by_id c id) id word h
option_words_same c id word h = ap (λ o. option_word o id word h) (by_id c id) ∙ option_word_same (arg_by_id c id) id word h

plain_word_same : (c : List Rule) (waiting : Waiting) (word : Text) (h : Held) → plain_word (bare c) waiting word h ≡ plain_word c waiting word h
plain_word_same c (option id) word h = ap (λ (r : Held × Waiting). (r.0, next r.1)) (option_words_same c id word h)
plain_word_same c idle word h = refl
plain_word_same c positional word h = refl

after_flag_same : (c : List Rule) (waiting : Waiting) (word : Text) (h : Held) (o : Outcome) → after_flag (bare c) waiting word h o ≡ after_flag c waiting word h o
after_flag_same c waiting word h done = refl
after_flag_same c waiting word h (waits id) = refl
after_flag_same c waiting word h plain = plain_word_same c waiting word h
after_flag_same c waiting word h refused = plain_word_same c waiting word h

long_word_same : (c : List Rule) (waiting : Waiting) (word name : Text) (v : Option Text) (h : Held)
    → long_word (bare c) waiting word name v h ≡ long_word c waiting word name v h
long_word_same c waiting word name v h =
    ap (λ (r : Held × Outcome). after_flag (bare c) waiting word r.0 r.1)
    (ap (λ o. long_met (bare c) o v h) (by_long c name) ∙ long_met_same c (arg_by_long c name) v h)
    ∙ after_flag_same c waiting word (long_met c (arg_by_long c name) v h).0 (long_met c (arg_by_long c name) v h).1

short_word_same : (c : List Rule) (waiting : Waiting) (word flags : Text) (h : Held) → short_word (bare c) waiting word flags h ≡ short_word c waiting word flags h
short_word_same c waiting word flags h =
    ap (λ (r : Held × Outcome). after_flag (bare c) waiting word r.0 r.1) (bundle_met_same c (length flags) flags h.skip plain (record h { skip = 0 }))
    ∙ after_flag_same c waiting word (bundle c flags h).0 (bundle c flags h).1

short_or_plain_same : (c : List Rule) (waiting : Waiting) (word : Text) (flags : Option Text) (h : Held)
    → short_or_plain (bare c) waiting word flags h ≡ short_or_plain c waiting word flags h
short_or_plain_same c waiting word (Some flags) h = short_word_same c waiting word flags h
short_or_plain_same c waiting word None h = plain_word_same c waiting word h

long_or_other_same : (c : List Rule) (waiting : Waiting) (word : Text) (p : Option (Text × Option Text)) (h : Held)
    → long_or_other (bare c) waiting word p h ≡ long_or_other c waiting word p h
long_or_other_same c waiting word (Some p) h = long_word_same c waiting word p.0 p.1 h
long_or_other_same c waiting word None h = short_or_plain_same c waiting word (short_of word) h

subcommand_or_other_same : (c : List Rule) (s : Option Text) (waiting : Waiting) (position : ℕ) (word : Text) (h : Held)
    → subcommand_or_other (bare c) s waiting position word h ≡ subcommand_or_other c s waiting position word h
subcommand_or_other_same c (Some name) waiting position word h = refl
subcommand_or_other_same c None waiting position word h =
    chosen (bytes_eq word (45 ∷ 45 ∷ [])) _ _ _ _ refl (long_or_other_same c waiting word (long_of word) h)

pub word_met_same : (c : List Rule) (names : Names) (is_trailing : Bool) (waiting : Waiting) (position : ℕ) (word : Text) (h : Held)
    → word_met (bare c) names is_trailing waiting position word h ≡ word_met c names is_trailing waiting position word h
word_met_same c names is_trailing waiting position word h =
    chosen is_trailing _ _ _ _ refl (subcommand_or_other_same c (subcommand_met names waiting word) waiting position word h)

-- ---- all the words

positional_held_same : (c : List Rule) (a : Rule) (word : Text) (h : Held) → positional_held (bare c) (placeless_rule a) word h ≡ positional_held c a word h
positional_held_same c a word h =
    ap (pushed a.id word) (chosen (is_pending a h.pending && takes_several a) _ _ _ _ refl (settled_same c h))

to_positional_same : (c : List Rule) (o : Option Rule) (word : Text) (w : Walk) (h : Held)
    → to_positional (bare c) (option_map placeless_rule o) word w h ≡ to_positional c o word w h
to_positional_same c None word w h = refl
to_positional_same c (Some a) word w h = ap (λ (k : Held). record {
  held = k;
  waiting = if is_multiple a then positional else idle;
  position = next_position a w.position;
  is_trailing = w.is_trailing || a.trailing_var_arg;
  stopped = None;
}) (positional_held_same c a word h)

after_step_same : (c : List Rule) (word : Text) (w : Walk) (h : Held) (s : Step) → after_step (bare c) word w h s ≡ after_step c word w h s
after_step_same c word w h (next waiting) = refl
after_step_same c word w h (trailing position) = refl
after_step_same c word w h (subcommand name) = refl
after_step_same c word w h value =
    ap (λ o. to_positional (bare c) o word w h) (by_index c w.position) ∙ to_positional_same c (arg_by_index c w.position) word w h

walked_from_same : (c : List Rule) (names : Names) (stop : Option (Text × List Text)) (w : Walk) (word : Text)
    → walked_from (bare c) names stop w word ≡ walked_from c names stop w word
walked_from_same c names (Some p) w word = refl
walked_from_same c names None w word =
    let met = word_met c names w.is_trailing w.waiting w.position word w.held in
    ap (λ (r : Held × Step). after_step (bare c) word w r.0 r.1) (word_met_same c names w.is_trailing w.waiting w.position word w.held)
    ∙ after_step_same c word w met.0 met.1

pub walked_same : (c : List Rule) (names : Names) (w : Walk) (word : Text) → walked (bare c) names w word ≡ walked c names w word
unfolding walked
walked_same c names w word = walked_from_same c names w.stopped w word

pub walk_same : (c : List Rule) (names : Names) (h : Held) (words : List Text) → walk (bare c) names h words ≡ walk c names h words
walk_same c names h words = folded (walked (bare c) names) (walked c names) (walked_same c names) (walk_from h) words

pub with_default_same : (rows : List Row) (a : Rule) → with_default rows (placeless_rule a) ≡ with_default rows a
with_default_same rows a = ap (λ how. if has_row a.id rows then rows else default_rows a.id how a.defaults rows) (reading_same a.parser)

defaults_same : (rows : List Row) (c : List Rule) → fold with_default rows (bare c) ≡ fold with_default rows c
defaults_same rows [] = refl
defaults_same rows (a ∷ c) = ap (λ r. fold with_default r (bare c)) (with_default_same rows a) ∙ defaults_same (with_default rows a) c

pub finished_same : (c : List Rule) (h : Held) → finished (bare c) h ≡ finished c h
finished_same c h = defaults_same (settled (bare c) h).rows c ∙ ap (λ (k : Held). fold with_default k.rows c) (settled_same c h)

-- the matches are the same
pub rows_same : (c : List Rule) (names : Names) (words : List Text) → rows_after (bare c) names words ≡ rows_after c names words
rows_same c names words =
    ap (λ (w : Walk). finished (bare c) w.held) (walk_same c names nothing_held words)
    ∙ finished_same c (walk c names nothing_held words).held
