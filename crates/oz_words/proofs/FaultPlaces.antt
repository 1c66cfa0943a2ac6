-- What a command refuses does not depend on where the names of its rules lie.
use Rattle.std.proofs.Common.{zero, suc, ◌≡◌, ◌∙◌, ◌+◌, ℕ, Bool, not, List, [], ◌∷◌, map, Option, Some, None, refl, ap, ap₂, min}
use Rattle.std.specs.Prelude.{◌&&◌, ◌||◌, if◌then◌else◌, option_map, encode_utf8, drop, length, slice_get, is_some}
use Rattle.std.specs.List.{list_any}
use Rattle.std.specs.Option.{option_map_or}
use Rattle.std.specs.Borrow.{Bor}
use Rattle.std.specs.Str.{bytes_eq, chars}
use Rattle.clap.specs.Lexer.{long_of, short_of}
use Rattle.clap.specs.Facts.{explicit_source, parser_of_value, unwrap_or_range}
use Rattle.clap.specs.Matches.{count_text}
use Rattle.clap.specs.Kinds.{Kinds, or_else, range_kinds, request_kinds, value_kinds, values_kinds, check_kinds}
use Rattle.clap.specs.Values.{refused_kind, same_text}
use Rattle.clap.specs.Takes.{is_given}
use Rattle.clap.specs.Walk.{Text, Rule, Row, Held, Names, Waiting, Step, Walk, action_of, values_or_missing, count_of, arg_by_id, arg_by_long, arg_by_short, arg_by_index, settled, reacted, takes_values, takes_several, most_values, attached_value, is_pending, subcommand_met, word_met, walked, walk_from, walk, has_row, is_empty, with_default, finished, next, trailing, subcommand, value}
use Rattle.clap.specs.Faults.{values_fault, count_fault, set_fault, repeat_fault, action_fault, use_fault, settle_fault, react_fault, option_fault, long_fault, short_fault, bundle_step_fault, flags_fault, bundle_fault, flag_word_fault, other_fault, word_fault, positional_fault, stray_fault, step_fault, turn_fault, walk_fault, default_fault, defaults_fault, check_fault, level_fault, entered_fault, built_fault}
use Rattle.clap.specs.Simple.{App, Shape, entered, names_of, on_top}
use Rattle.clap.specs.declared.builder.action.ArgAction.{ArgAction}
use Rattle.clap.specs.declared.builder.action.ArgAction.TheVariants as act
use Rattle.clap.specs.declared.builder.ValueParser.{ValueParser}
use Rattle.clap.specs.declared.builder.ValueParser.TheVariants as vp
use Rattle.oz_words.specs.Places.{placeless, placeless_parser, placeless_rule}
use Rattle.oz_words.proofs.WalkPlaces.{bare, chosen, on_found, by_id, by_long, by_short, by_index, settled_same, reacted_same, word_met_same, walked_same, walk_same, with_default_same, finished_same}

-- ---- the values of a use

-- a test of the names does not see where they lie
any_same : (p : Text → Bool) (xs : List (Bor Text)) → list_any (λ (n : Bor Text). p n.now) (map placeless (map (λ (n : Bor Text). n.now) xs)) ≡ list_any (λ (n : Bor Text). p n.now) xs
any_same p [] = refl
any_same p (x ∷ xs) = ap (λ b. p x.now || b) (any_same p xs)

value_parser_same : (case : Bool) (p : ValueParser) (t : Text) → value_kinds case (placeless_parser p) t ≡ value_kinds case p t
value_parser_same case (vp.Names names) t =
    ap (λ b. if b then [] else refused_kind (vp.Names names) ∷ []) (any_same (λ name. same_text case name t) names.now)
value_parser_same case p t = refl

value_same : (case : Bool) (o : Option ValueParser) (t : Text)
    → value_kinds case (parser_of_value (option_map placeless_parser o)) t ≡ value_kinds case (parser_of_value o) t
value_same case None t = refl
value_same case (Some p) t = value_parser_same case p t

values_kinds_same : (case : Bool) (o : Option ValueParser) (ts : List Text)
    → values_kinds case (parser_of_value (option_map placeless_parser o)) ts ≡ values_kinds case (parser_of_value o) ts
values_kinds_same case o [] = refl
values_kinds_same case o (t ∷ ts) = ap₂ or_else (value_same case o t) (values_kinds_same case o ts)

values_same : (a : Rule) (values : List Text) → values_fault (placeless_rule a) values ≡ values_fault a values
values_same a values = values_kinds_same a.ignore_case a.parser values

count_same : (a : Rule) (values : List Text) (rows : List Row) → count_fault (placeless_rule a) values rows ≡ count_fault a values rows
count_same a [] rows = value_same a.ignore_case a.parser (count_text (min (count_of a.id rows + 1) 255))
count_same a (v ∷ vs) rows = values_same a (v ∷ vs)

set_same : (again : Bool) (a : Rule) (values : List Text) (rows : List Row) → set_fault again (placeless_rule a) values rows ≡ set_fault again a values rows
set_same again a values rows = ap (or_else (repeat_fault again a.id rows)) (values_same a values)

action_same : (act : ArgAction) (again : Bool) (a : Rule) (values : List Text) (rows : List Row)
    → action_fault act again (placeless_rule a) values rows ≡ action_fault act again a values rows
action_same act.Set again a values rows = set_same again a values rows
action_same act.SetTrue again a values rows = set_same again a values rows
action_same act.SetFalse again a values rows = set_same again a values rows
action_same act.Append again a values rows = values_same a values
action_same act.Count again a values rows = count_same a values rows
action_same other again a values rows = refl

use_same : (again : Bool) (a : Rule) (values : List Text) (rows : List Row) → use_fault again (placeless_rule a) values rows ≡ use_fault again a values rows
use_same again a values rows =
    ap (or_else (range_kinds (unwrap_or_range a.range).start_inclusive (most_values a) (length values))) (action_same (action_of a) again a (values_or_missing a values) rows)

-- ---- the walk

settle_at : (c : List Rule) (again : Bool) (rows : List Row) (pending : Option (Text × List Text))
    → option_map_or (λ p. option_map_or (λ a. use_fault again a p.1 rows) (arg_by_id (bare c) p.0) []) pending []
    ≡ option_map_or (λ p. option_map_or (λ a. use_fault again a p.1 rows) (arg_by_id c p.0) []) pending []
settle_at c again rows None = refl
settle_at c again rows (Some p) =
    ap (λ o. option_map_or (λ a. use_fault again a p.1 rows) o []) (by_id c p.0)
    ∙ on_found _ _ [] (λ a. use_same again a p.1 rows) (arg_by_id c p.0)

settle_same : (c : List Rule) (again : Bool) (h : Held) → settle_fault (bare c) again h ≡ settle_fault c again h
settle_same c again h = settle_at c again h.rows h.pending

react_same : (c : List Rule) (again : Bool) (a : Rule) (values : List Text) (h : Held)
    → react_fault (bare c) again (placeless_rule a) values h ≡ react_fault c again a values h
react_same c again a values h =
    ap₂ or_else (settle_same c again h)
    (use_same again a values (settled (bare c) h).rows ∙ ap (λ (k : Held). use_fault again a values k.rows) (settled_same c h))

option_same : (c : List Rule) (again : Bool) (a : Rule) (v : Option Text) (h : Held)
    → option_fault (bare c) again (placeless_rule a) v h ≡ option_fault c again a v h
option_same c again a (Some v) h = react_same c again a (v ∷ []) h
option_same c again a None h = settle_same c again h

long_same : (c : List Rule) (again : Bool) (o : Option Rule) (v : Option Text) (h : Held)
    → long_fault (bare c) again (option_map placeless_rule o) v h ≡ long_fault c again o v h
long_same c again None v h = refl
long_same c again (Some a) v h =
    chosen (takes_values a) _ _ _ _ (option_same c again a v h) (chosen (is_some v) _ _ _ _ refl (react_same c again a [] h))

short_same : (c : List Rule) (again : Bool) (o : Option Rule) (rest : Text) (h : Held) (f g : Held → Kinds) → ((k : Held) → f k ≡ g k)
    → short_fault (bare c) again (option_map placeless_rule o) rest h f ≡ short_fault c again o rest h g
short_same c again None rest h f g e = refl
short_same c again (Some a) rest h f g e =
    chosen (takes_values a) _ _ _ _ (option_same c again a (attached_value rest) h)
    (ap₂ or_else (react_same c again a [] h) (ap f (reacted_same c a [] h) ∙ e (reacted c a [] h)))

bundle_step_same : (c : List Rule) (again : Bool) (x : Option ℕ) (flags : Text) (skip : ℕ) (h : Held)
    (f g : Text → ℕ → Held → Kinds) → ((t : Text) (n : ℕ) (k : Held) → f t n k ≡ g t n k)
    → bundle_step_fault (bare c) again x flags skip h f ≡ bundle_step_fault c again x flags skip h g
bundle_step_same c again None flags skip h f g e = refl
bundle_step_same c again (Some x) flags zero h f g e =
    let rest = drop (length (encode_utf8 x)) flags in
    ap (λ o. short_fault (bare c) again o rest h (f rest 0)) (by_short c x)
    ∙ short_same c again (arg_by_short c x) rest h (f rest 0) (g rest 0) (e rest 0)
bundle_step_same c again (Some x) flags (suc skip) h f g e = e (drop (length (encode_utf8 x)) flags) skip h

flags_same : (c : List Rule) (again : Bool) (k : ℕ) (flags : Text) (skip : ℕ) (h : Held)
    → flags_fault (bare c) again k flags skip h ≡ flags_fault c again k flags skip h
unfolding flags_fault
flags_same c again zero flags skip h = refl
flags_same c again (suc k) flags skip h =
    bundle_step_same c again (slice_get (chars flags) 0) flags skip h (flags_fault (bare c) again k) (flags_fault c again k)
    (λ t n j. flags_same c again k t n j)

bundles_same : (c : List Rule) (again : Bool) (o : Option Text) (h : Held)
    → option_map_or (λ flags. bundle_fault (bare c) again flags h) o [] ≡ option_map_or (λ flags. bundle_fault c again flags h) o []
bundles_same c again None h = refl
bundles_same c again (Some flags) h = flags_same c again (length flags) flags h.skip (record h { skip = 0 })

flag_word_same : (c : List Rule) (again : Bool) (o : Option (Text × Option Text)) (word : Text) (h : Held)
    → flag_word_fault (bare c) again o word h ≡ flag_word_fault c again o word h
flag_word_same c again (Some p) word h =
    ap (λ o. long_fault (bare c) again o p.1 h) (by_long c p.0) ∙ long_same c again (arg_by_long c p.0) p.1 h
flag_word_same c again None word h = bundles_same c again (short_of word) h

-- the shape, whose names lie at no place
abbrev bare_shape : Shape → Shape
bare_shape s = record s { rules = bare s.rules }

other_same : (s : Shape) (o : Option Text) (word : Text) (h : Held) → other_fault (bare_shape s) o word h ≡ other_fault s o word h
other_same s (Some name) word h = refl
other_same s None word h =
    chosen (bytes_eq word (45 ∷ 45 ∷ [])) _ _ _ _ refl (flag_word_same s.rules s.args_override_self (long_of word) word h)

word_same : (s : Shape) (names : Names) (is_trailing : Bool) (waiting : Waiting) (word : Text) (h : Held)
    → word_fault (bare_shape s) names is_trailing waiting word h ≡ word_fault s names is_trailing waiting word h
word_same s names is_trailing waiting word h = chosen is_trailing _ _ _ _ refl (other_same s (subcommand_met names waiting word) word h)

positional_same : (c : List Rule) (again : Bool) (a : Rule) (h : Held)
    → positional_fault (bare c) again (placeless_rule a) h ≡ positional_fault c again a h
positional_same c again a h = chosen (is_pending a h.pending && takes_several a) _ _ _ _ refl (settle_same c again h)

step_same : (s : Shape) (position : ℕ) (h : Held) (step : Step) → step_fault (bare_shape s) position h step ≡ step_fault s position h step
step_same s position h (next waiting) = refl
step_same s position h (trailing place) = refl
step_same s position h (subcommand name) = refl
step_same s position h value =
    ap (λ o. option_map_or (λ a. positional_fault (bare s.rules) s.args_override_self a h) o (stray_fault s)) (by_index s.rules position)
    ∙ on_found _ _ (stray_fault s) (λ a. positional_same s.rules s.args_override_self a h) (arg_by_index s.rules position)

turn_same : (s : Shape) (names : Names) (w : Walk) (word : Text) → turn_fault (bare_shape s) names w word ≡ turn_fault s names w word
turn_same s names w word =
    chosen (is_some w.stopped) _ _ _ _ refl
    (ap₂ or_else (word_same s names w.is_trailing w.waiting word w.held)
    (ap (λ (met : Held × Step). step_fault (bare_shape s) w.position met.0 met.1) (word_met_same s.rules names w.is_trailing w.waiting w.position word w.held)
    ∙ step_same s w.position (word_met s.rules names w.is_trailing w.waiting w.position word w.held).0 (word_met s.rules names w.is_trailing w.waiting w.position word w.held).1))

walk_fault_same : (s : Shape) (names : Names) (w : Walk) (words : List Text) → walk_fault (bare_shape s) names w words ≡ walk_fault s names w words
unfolding walk_fault
walk_fault_same s names w [] = refl
walk_fault_same s names w (word ∷ rest) =
    ap₂ or_else (turn_same s names w word)
    (ap (λ (v : Walk). walk_fault (bare_shape s) names v rest) (walked_same s.rules names w word)
    ∙ walk_fault_same s names (walked s.rules names w word) rest)

-- ---- after the walk

default_same : (rows : List Row) (a : Rule) → default_fault rows (placeless_rule a) ≡ default_fault rows a
default_same rows a =
    chosen (has_row a.id rows || is_empty a.defaults) _ _ _ _ refl (ap (or_else (request_kinds (action_of a))) (values_same a a.defaults))

defaults_same : (rows : List Row) (c : List Rule) → defaults_fault rows (bare c) ≡ defaults_fault rows c
unfolding defaults_fault
defaults_same rows [] = refl
defaults_same rows (a ∷ c) =
    ap₂ or_else (default_same rows a)
    (ap (λ (r : List Row). defaults_fault r (bare c)) (with_default_same rows a) ∙ defaults_same (with_default rows a) c)

wanting_same : (rows : List Row) (c : List Rule)
    → list_any (λ (a : Rule). a.required && not (is_given a.id rows)) (bare c) ≡ list_any (λ (a : Rule). a.required && not (is_given a.id rows)) c
wanting_same rows [] = refl
wanting_same rows (a ∷ c) = ap (λ b. (a.required && not (is_given a.id rows)) || b) (wanting_same rows c)

check_same : (s : Shape) (rows : List Row) (has_subcommand : Bool) → check_fault (bare_shape s) rows has_subcommand ≡ check_fault s rows has_subcommand
check_same s rows has_subcommand =
    ap (λ b. check_kinds
    (not has_subcommand && (s.arg_required_else_help && not (list_any (λ (r : Row). explicit_source r.source) rows)))
    (not has_subcommand && s.subcommand_required)
    (not (s.subcommand_negates_reqs && has_subcommand) && b)) (wanting_same rows s.rules)

end_same : (s : Shape) (h : Held) (has_subcommand : Bool)
    → or_else (settle_fault (bare s.rules) s.args_override_self h) (or_else (defaults_fault (settled (bare s.rules) h).rows (bare s.rules))
    (check_fault (bare_shape s) (finished (bare s.rules) h) has_subcommand))
    ≡ or_else (settle_fault s.rules s.args_override_self h) (or_else (defaults_fault (settled s.rules h).rows s.rules)
    (check_fault s (finished s.rules h) has_subcommand))
end_same s h has_subcommand =
    ap₂ or_else (settle_same s.rules s.args_override_self h)
    (ap₂ or_else (defaults_same (settled (bare s.rules) h).rows s.rules ∙ ap (λ (k : Held). defaults_fault k.rows s.rules) (settled_same s.rules h))
    (check_same s (finished (bare s.rules) h) has_subcommand ∙ ap (λ (r : List Row). check_fault s r has_subcommand) (finished_same s.rules h)))

level_same : (s : Shape) (names : Names) (h : Held) (words : List Text) (has_subcommand : Bool) (below : Kinds)
    → level_fault (bare_shape s) names h words has_subcommand below ≡ level_fault s names h words has_subcommand below
level_same s names h words has_subcommand below =
    ap₂ or_else (walk_fault_same s names (walk_from h) words)
    (ap (or_else below)
    (ap (λ (w : Walk). or_else (settle_fault (bare s.rules) s.args_override_self w.held) (or_else (defaults_fault (settled (bare s.rules) w.held).rows (bare s.rules))
    (check_fault (bare_shape s) (finished (bare s.rules) w.held) has_subcommand))) (walk_same s.rules names h words)
    ∙ end_same s (walk s.rules names h words).held has_subcommand))

-- a command that is built refuses the same words, wherever the names of its rules lie
pub built_same : (a : App) (h : Held) (words : List Text) → built_fault (on_top bare_shape a) h words ≡ built_fault a h words
built_same a h words =
    ap (λ (w : Walk). level_fault (bare_shape a.top) (names_of a) h words (is_some (entered a w.stopped)) (entered_fault a w.stopped))
    (walk_same a.top.rules (names_of a) h words)
    ∙ level_same a.top (names_of a) h words
    (is_some (entered a (walk a.top.rules (names_of a) h words).stopped)) (entered_fault a (walk a.top.rules (names_of a) h words).stopped)
