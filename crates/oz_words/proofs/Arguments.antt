-- What a parse by the command gives for each of its arguments.
use Rattle.std.proofs.Common.{zero, suc, ◌≡◌, ◌∙◌, ◌<◌, ◌⊎◌, ℕ, Bool, true, false, List, [], ◌∷◌, length, map, Option, Some, None, refl, sym, ap, subst, arith, inl, inr, codes, not, is_some, true≢false}
use Rattle.std.specs.Prelude.{if◌then◌else◌}
use Rattle.std.proofs.lemmas.Slice.Eq.{bytes_eq-Decides}
use Rattle.std.specs.List.{list_any, slice_index_or}
use Rattle.std.specs.Str.{bytes_eq}
use Rattle.std.specs.Borrow.{Bor}
use Rattle.std.proofs.lemmas.List.{get_or-map, length-map}
use Rattle.clap.specs.Facts.{args_of, least_values}
use Rattle.clap.specs.Built.{IsPlain, IsParsedFrom}
use Rattle.clap.specs.Matches.{found_of, one_text}
use Rattle.clap.specs.Values.{Accepts, read_as, reading_of}
use Rattle.clap.specs.Walk.{Rule, is_simple_arg, is_free_arg, rule_of, texts}
use Rattle.clap.specs.Simple.{App, app_of, is_simple}
use Rattle.clap.specs.Faults.{is_simple_and_free}
use Rattle.clap.proofs.OnLiterals.{clap_on_literals}
use Rattle.clap.specs.declared.builder.ArgAction.TheVariants.{Set}
use Rattle.clap.specs.declared.builder.Arg.{Arg}
use Rattle.clap.specs.declared.builder.Command.{Command}
use Rattle.clap.specs.declared.builder.Command.TheViews.{out-Command}
use Rattle.clap.specs.declared.builder.ValueParser.{ValueParser}
use Rattle.clap.specs.declared.parser.ArgMatches.{ArgMatches}
use Rattle.clap.proofs.WalkLemmas.{both, list_any-map}
use Rattle.clap.proofs.SimpleLemmas.{is_false, is_nil, plain_fields}
use Rattle.oz_words.specs.Places.{placeless_names}
use Rattle.oz_words.specs.Command.{AreActions, action_names, oz_app, sites_option, workers_option, steps_option, messages_option, number_rule, numbers_of, seeds, seed_rule, sizes, size_rule, action_rule, action_values}
use Rattle.oz_words.specs.Matches.{HasValue, HasNumber, MayHaveSeed, MayHaveSize}
use Rattle.oz_words.proofs.DefaultValues.{IsOwn, defaulted_reads, optional_reads}

is_none : {X : Type 0} (o : Option X) → not (is_some o) ≡ true → o ≡ None
is_none None e = refl
is_none (Some x) e = absurd (true≢false (sym e))

-- what a simple and free rule says of its argument
record Plain (a : Arg) : Type 0 where
  overrides : a.overrides.items ≡ []
  ifs : a.default_vals_ifs.items ≡ []
  groups : a.groups.items ≡ []
  delimiter : a.val_delim ≡ None
  exclusive : a.exclusive ≡ false
  conflicts : a.conflicts.items ≡ []

plain_of : (a : Arg) → is_simple_arg a ≡ true → is_free_arg a ≡ true → Plain a
plain_of a simple free =
    let p = both _ _ simple in
    let q = both _ _ p.1 in
    let r = both _ _ q.1 in
    let s = both _ _ r.1 in
    let t = both _ _ free in
    let u = both _ _ t.1 in
    record {
      overrides = is_nil _ p.0;
      ifs = is_nil _ q.0;
      groups = is_nil _ r.0;
      delimiter = is_none _ s.0;
      exclusive = is_false _ t.0;
      conflicts = is_nil _ u.0;
    }

some_texts : (xs : List (Bor (List ℕ))) (t : List ℕ) → texts xs ≡ t ∷ [] → 0 < length xs
some_texts [] t e = cc
some_texts (x ∷ xs) t e = omega arith

-- a rule of the command's kind
record IsKind (r : Rule) (q : ValueParser) : Type 0 where
  simple : r.is_simple ≡ true
  free : r.is_free ≡ true
  action : r.action ≡ Some Set
  range : r.range ≡ None
  parser : r.parser ≡ Some q
  case : r.ignore_case ≡ false

abbrev rules_of : Bor (List (Bor (List ℕ))) → List Rule
rules_of names = number_rule sites_option ∷ number_rule workers_option ∷ number_rule steps_option ∷ number_rule messages_option ∷ seed_rule ∷ action_rule names ∷ size_rule sizes ∷ []

-- two texts with a different letter
differ : (a b : List ℕ) → bytes_eq a b ≡ false → a ≡ b → ⊥
differ a b other same = true≢false (sym ((bytes_eq-Decides a b).1 same) ∙ other)

-- what holds of each of the seven places
each_of : (P : ℕ → Type 0) → P 0 → P 1 → P 2 → P 3 → P 4 → P 5 → P 6 → (k : ℕ) → k < 7 → P k
each_of P a b c d e f g zero lt = a
each_of P a b c d e f g (suc zero) lt = b
each_of P a b c d e f g (suc (suc zero)) lt = c
each_of P a b c d e f g (suc (suc (suc zero))) lt = d
each_of P a b c d e f g (suc (suc (suc (suc zero)))) lt = e
each_of P a b c d e f g (suc (suc (suc (suc (suc zero))))) lt = f
each_of P a b c d e f g (suc (suc (suc (suc (suc (suc zero)))))) lt = g
each_of P a b c d e f g (suc (suc (suc (suc (suc (suc (suc k))))))) lt = absurd (omega arith)

-- the place of the argument with this name
abbrev place_of : List ℕ → ℕ
place_of id =
    if bytes_eq id (codes "sites") then 0
    else if bytes_eq id (codes "workers") then 1
    else if bytes_eq id (codes "steps") then 2
    else if bytes_eq id (codes "messages") then 3
    else if bytes_eq id (codes "seed") then 4
    else if bytes_eq id (codes "action") then 5
    else 6

module _ (c : Command) (names : Bor (List (Bor (List ℕ)))) (is : app_of c ≡ oz_app names) where
  rules : map rule_of (args_of c) ≡ rules_of names
  rules = ap (λ (a : App). a.top.rules) is

  count : length (args_of c) ≡ 7
  count = sym (length-map (args_of c) rule_of) ∙ ap length rules

  below : (k : ℕ) → k < 7 → k < length (args_of c)
  below k lt = omega (arith, count)

  rule_at : (k : ℕ) (d : Arg) → k < 7 → rule_of (slice_index_or (args_of c) k d) ≡ slice_index_or (rules_of names) k (rule_of d)
  rule_at k d lt = sym (get_or-map rule_of (args_of c) k d (rule_of d) (below k lt)) ∙ ap (λ l. slice_index_or l k (rule_of d)) rules

  kind_at : (k : ℕ) (e : Rule) → k < 7 → (q : ValueParser) × IsKind (slice_index_or (rules_of names) k e) q
  kind_at k e lt =
      each_of (λ i. (q : ValueParser) × IsKind (slice_index_or (rules_of names) i e) q)
      (_, record { simple = refl; free = refl; action = refl; range = refl; parser = refl; case = refl })
      (_, record { simple = refl; free = refl; action = refl; range = refl; parser = refl; case = refl })
      (_, record { simple = refl; free = refl; action = refl; range = refl; parser = refl; case = refl })
      (_, record { simple = refl; free = refl; action = refl; range = refl; parser = refl; case = refl })
      (_, record { simple = refl; free = refl; action = refl; range = refl; parser = refl; case = refl })
      (_, record { simple = refl; free = refl; action = refl; range = refl; parser = refl; case = refl })
      (_, record { simple = refl; free = refl; action = refl; range = refl; parser = refl; case = refl })
      k lt

  plain_at : (k : ℕ) (d : Arg) → k < 7 → Plain (slice_index_or (args_of c) k d)
  plain_at k d lt =
      let kind = (kind_at k (rule_of d) lt).1 in
      let at = rule_at k d lt in
      plain_of _ (ap (λ (r : Rule). r.is_simple) at ∙ kind.simple) (ap (λ (r : Rule). r.is_free) at ∙ kind.free)

  is_plain : IsPlain c
  is_plain = (
    λ k d lt. let p = plain_at k d (omega (arith, count)) in (p.exclusive, p.conflicts, p.overrides, p.groups),
    (plain_fields c (ap (λ (a : App). a.top.is_plain) is)).groups,
  )

  id_at : (k : ℕ) (d : Arg) → k < 7 → (slice_index_or (args_of c) k d).id.now ≡ (slice_index_or (rules_of names) k (rule_of d)).id
  id_at k d lt = ap (λ (r : Rule). r.id) (rule_at k d lt)

  place_at : (k : ℕ) (x : Rule) → k < 7 → place_of (slice_index_or (rules_of names) k x).id ≡ k
  place_at k x lt = each_of (λ i. place_of (slice_index_or (rules_of names) i x).id ≡ i) refl refl refl refl refl refl refl k lt

  distinct : (j k : ℕ) (x y : Rule) → j < 7 → k < 7
      → bytes_eq (slice_index_or (rules_of names) j x).id (slice_index_or (rules_of names) k y).id ≡ true → j ≡ k
  distinct j k x y l m e =
      let same : (slice_index_or (rules_of names) j x).id ≡ (slice_index_or (rules_of names) k y).id = (bytes_eq-Decides _ _).0 e in
      sym (place_at j x l) ∙ (ap place_of {x = (slice_index_or (rules_of names) j x).id} {y = (slice_index_or (rules_of names) k y).id} same ∙ place_at k y m)

  -- the id is neither empty nor one that building adds
  own_id : (k : ℕ) (x : Rule) → k < 7 → (((slice_index_or (rules_of names) k x).id ≡ []) → ⊥)
      × (((slice_index_or (rules_of names) k x).id ≡ codes "help") → ⊥) × (((slice_index_or (rules_of names) k x).id ≡ codes "version") → ⊥)
  own_id k x lt =
      each_of (λ i. (((slice_index_or (rules_of names) i x).id ≡ []) → ⊥)
      × (((slice_index_or (rules_of names) i x).id ≡ codes "help") → ⊥) × (((slice_index_or (rules_of names) i x).id ≡ codes "version") → ⊥))
      ((λ e. cc), differ _ _ refl, differ _ _ refl) ((λ e. cc), differ _ _ refl, differ _ _ refl) ((λ e. cc), differ _ _ refl, differ _ _ refl)
      ((λ e. cc), differ _ _ refl, differ _ _ refl) ((λ e. cc), differ _ _ refl, differ _ _ refl) ((λ e. cc), differ _ _ refl, differ _ _ refl)
      ((λ e. cc), differ _ _ refl, differ _ _ refl)
      k lt

  -- what is read of the argument at this place where its entry has a value
  abbrev Reads : ArgMatches → List ℕ → ValueParser → Type 0
  Reads m id q = (t : List ℕ) × (one_text (found_of m) id ≡ Some (read_as (reading_of q) t)) × Accepts false q t

  -- what a parse says of the argument at this place
  facts_at : (m : ArgMatches) → IsParsedFrom c m → (k : ℕ) (d : Arg) → k < 7 → (q : ValueParser)
      → (slice_index_or (rules_of names) k (rule_of d)).parser ≡ Some q → IsOwn c k d q
  facts_at m p k d lt q parser =
      let at = rule_at k d lt in
      let kind = (kind_at k (rule_of d) lt).1 in
      let plain = plain_at k d lt in
      let id = id_at k d lt in
      let own = own_id k (rule_of d) lt in
      let range : (slice_index_or (args_of c) k d).num_vals ≡ None = ap (λ (r : Rule). r.range) at ∙ kind.range in
      record {
        below = below k lt;
        set = ap (λ (r : Rule). r.action) at ∙ kind.action;
        undivided = plain.delimiter;
        least = rw (range, least_values) (omega arith);
        unique = λ j e low same. distinct j k (rule_of e) (rule_of d) (omega (arith, count)) lt (rw (← id_at j e (omega (arith, count)), ← id) same);
        named = λ e. own.0 (sym id ∙ e);
        own = λ auto. elim auto [ inl h ↦ own.1 (sym id ∙ h) | inr h ↦ own.2 (sym id ∙ h) ];
        parser = ap (λ (r : Rule). r.parser) at ∙ parser;
      }

  -- by the rules
  by_rule : (m : ArgMatches) (k : ℕ) (d : Arg) → k < 7 → (q : ValueParser)
      → (t : List ℕ) × (one_text (found_of m) (slice_index_or (args_of c) k d).id.now ≡ Some (read_as (reading_of q) t)) × Accepts (slice_index_or (args_of c) k d).ignore_case q t
      → Reads m (slice_index_or (rules_of names) k (rule_of d)).id q
  by_rule m k d lt q got =
      let at = rule_at k d lt in
      let kind = (kind_at k (rule_of d) lt).1 in (
        got.0,
        subst (λ (w : List ℕ). one_text (found_of m) w ≡ Some (read_as (reading_of q) got.0)) (id_at k d lt) got.1,
        subst (λ (b : Bool). Accepts b q got.0) (ap (λ (r : Rule). r.ignore_case) at ∙ kind.case) got.2,
      )

  globals : (out-Command c).has_globals ≡ false
  globals = (plain_fields c (ap (λ (a : App). a.top.is_plain) is)).globals

  -- an argument with a default has a value that its parser took
  reads_at : (m : ArgMatches) → IsParsedFrom c m → (k : ℕ) (d : Arg) → k < 7 → (q : ValueParser)
      → (slice_index_or (rules_of names) k (rule_of d)).parser ≡ Some q
      → (t : List ℕ) → (slice_index_or (rules_of names) k (rule_of d)).defaults ≡ t ∷ []
      → Reads m (slice_index_or (rules_of names) k (rule_of d)).id q
  reads_at m p k d lt q parser t default =
      let at = rule_at k d lt in
      let plain = plain_at k d lt in
      by_rule m k d lt q
      (defaulted_reads c m p is_plain globals k d q (facts_at m p k d lt q parser)
      (plain.ifs, some_texts _ t (ap (λ (r : Rule). r.defaults) at ∙ default)))

  -- an argument without one may have no value
  may_read_at : (m : ArgMatches) → IsParsedFrom c m → (k : ℕ) (d : Arg) → k < 7 → (q : ValueParser)
      → (slice_index_or (rules_of names) k (rule_of d)).parser ≡ Some q
      → (one_text (found_of m) (slice_index_or (rules_of names) k (rule_of d)).id ≡ None) ⊎ Reads m (slice_index_or (rules_of names) k (rule_of d)).id q
  may_read_at m p k d lt q parser =
      elim (optional_reads c m p is_plain globals k d q (facts_at m p k d lt q parser)) [
        | inl none ↦ inl (subst (λ (w : List ℕ). one_text (found_of m) w ≡ None) (id_at k d lt) none)
        | inr got ↦ inr (by_rule m k d lt q got)
      ]

  first_arg : (xs : List Arg) → 0 < length xs → Arg
  first_arg [] lt = absurd (omega arith)
  first_arg (x ∷ xs) lt = x

  some_arg : Arg
  some_arg = first_arg (args_of c) (below 0 (omega arith))

  pub sites_number : (m : ArgMatches) → IsParsedFrom c m → HasNumber m sites_option
  sites_number m p = reads_at m p 0 some_arg (omega arith) (numbers_of sites_option) refl _ refl

  pub workers_number : (m : ArgMatches) → IsParsedFrom c m → HasNumber m workers_option
  workers_number m p = reads_at m p 1 some_arg (omega arith) (numbers_of workers_option) refl _ refl

  pub steps_number : (m : ArgMatches) → IsParsedFrom c m → HasNumber m steps_option
  steps_number m p = reads_at m p 2 some_arg (omega arith) (numbers_of steps_option) refl _ refl

  pub messages_number : (m : ArgMatches) → IsParsedFrom c m → HasNumber m messages_option
  messages_number m p = reads_at m p 3 some_arg (omega arith) (numbers_of messages_option) refl _ refl

  pub action_value : AreActions names.now → (m : ArgMatches) → IsParsedFrom c m → HasValue m (codes "action") (action_values (placeless_names action_names))
  action_value are m p =
      let value = reads_at m p 5 some_arg (omega arith) (action_values names) refl _ refl in
      (value.0, value.1, is_one_of value.0 value.2)
    where
      is_one_of : (t : List ℕ) → Accepts false (action_values names) t → Accepts false (action_values (placeless_names action_names)) t
      is_one_of t passed =
          ap (λ ts. list_any (λ (name : List ℕ). bytes_eq name t) ts) (sym are)
          ∙ (sym (list_any-map (λ (name : List ℕ). bytes_eq name t) (λ (name : Bor (List ℕ)). name.now) names.now) ∙ passed)

  pub size_value : (m : ArgMatches) → IsParsedFrom c m → MayHaveSize m
  size_value m p = may_read_at m p 6 some_arg (omega arith) sizes refl

  pub seed_value : (m : ArgMatches) → IsParsedFrom c m → MayHaveSeed m
  seed_value m p = may_read_at m p 4 some_arg (omega arith) seeds refl

-- the command is one whose matches and faults are known
pub simple_and_free : (names : Bor (List (Bor (List ℕ)))) → is_simple_and_free (oz_app names) ≡ true
unfolding clap_on_literals
simple_and_free names = refl

pub simple : (names : Bor (List (Bor (List ℕ)))) → is_simple (oz_app names) ≡ true
unfolding clap_on_literals
simple names = refl
