-- An argument with a default has a value after each parse that succeeds, which its parser took.
use Rattle.std.proofs.Common.{zero, suc, ◌≡◌, ◌∙◌, ◌<◌, ◌≤◌, ◌⊎◌, ℕ, Bool, true, false, List, [], ◌∷◌, length, Option, Some, None, refl, sym, ap, subst, inl, inr, arith}
use Rattle.std.specs.List.{All, slice_index_or}
use Rattle.std.specs.Str.{bytes_eq}
use Rattle.std.specs.Prelude.{option_map, slice_get, find}
use Rattle.std.specs.Borrow.{Bor}
use Rattle.std.proofs.lemmas.List.Elements.{All-get_or}
use Rattle.std.proofs.lemmas.Slice.Eq.{bytes_eq-Decides}
use Rattle.clap.specs.Facts.{args_of, Entry, EntryPasses, HasIn, HasReading, IsCountArg, AllowsNone, PassesArg, WantsDefault, least_values, parser_of_value}
use Rattle.clap.specs.Built.{IsPlain, IsParsedFrom, IsAuto, SameRules}
use Rattle.clap.specs.Matches.{found_of, matched_of, one_text}
use Rattle.clap.specs.Values.{Accepts, read_as, reading_of}
use Rattle.clap.specs.declared.builder.ArgAction.TheVariants.{Set, Count}
use Rattle.clap.specs.declared.builder.Arg.{Arg}
use Rattle.clap.specs.declared.builder.Command.{Command}
use Rattle.clap.specs.declared.builder.Command.TheViews.{out-Command}
use Rattle.clap.specs.declared.builder.value_parser.Reading.{Reading}
use Rattle.clap.specs.declared.builder.ValueParser.{ValueParser}
use Rattle.clap.specs.declared.parser.ArgMatches.{ArgMatches}
use Rattle.clap.specs.declared.parser.matches.Found.{Found}
use Rattle.clap.specs.declared.parser.matches.MatchedArg.{MatchedArg}
use Rattle.clap.proofs.CallerLemmas.{default_present, entry_by_id, same_rules_by_id}

-- an entry with the id is found
matched_in : (xs : List Entry) (id : List ℕ) → HasIn xs id → (x : MatchedArg) × (option_map (λ (e : Entry). e.1) (find (λ (e : Entry). bytes_eq e.0.now id) xs) ≡ Some x)
matched_in [] id h = absurd (omega (arith, h.1))
matched_in (e ∷ es) id h = go (bytes_eq e.0.now id) refl (λ rest. matched_in es id rest) h
  where
    go : (b : Bool) → bytes_eq e.0.now id ≡ b
        → (HasIn es id → (x : MatchedArg) × (option_map (λ (d : Entry). d.1) (find (λ (d : Entry). bytes_eq d.0.now id) es) ≡ Some x))
        → HasIn (e ∷ es) id → (x : MatchedArg) × (option_map (λ (d : Entry). d.1) (find (λ (d : Entry). bytes_eq d.0.now id) (e ∷ es)) ≡ Some x)
    go true is rest k = (e.1, rw is refl)
    go false is rest (zero, lt, at) =
        let yes : bytes_eq e.0.now id ≡ true = at e in
        let no : false ≡ true = rw is at yes in
        cc
    go false is rest (suc j, lt, at) =
        let found = rest (j, omega (arith, lt), at) in
        (found.0, rw is found.1)

-- the first of some values, of which all are so
front_of : (P : Bor (List ℕ) → Type 0) (vs : List (Bor (List ℕ))) → 0 < length vs → All P vs → (v : Bor (List ℕ)) × (slice_get vs 0 ≡ Some v) × P v
front_of P [] lt all = absurd (omega (arith, lt))
front_of P (v ∷ vs) lt all = (v, refl, All-get_or P (v ∷ vs) 0 v (omega arith) all)

value_text : (f : Found) (id : List ℕ) (x : MatchedArg) (how : Reading) (v : Bor (List ℕ)) → matched_of f id ≡ Some x → x.reading ≡ how
    → slice_get x.vals.items 0 ≡ Some v → one_text f id ≡ Some (read_as how v.now)
value_text f id x how v found is first = rw (found, is, first) refl

-- the argument of place k of a command, as building and parsing left it
module _ (c : Command) (m : ArgMatches) (p : IsParsedFrom c m) (plain : IsPlain c) (globals : (out-Command c).has_globals ≡ false) (a : Arg)
    (rules : (j : ℕ) (x : Arg) → j < length (args_of p.built) → slice_index_or (args_of p.built) j x ≡ x → bytes_eq x.id.now a.id.now ≡ true → SameRules a x)
    (named : a.id.now ≡ [] → ⊥) (set : a.action ≡ Some Set) (undivided : a.val_delim ≡ None) (least : 1 ≤ least_values a) (q : ValueParser) (parser : a.value_parser ≡ Some q) where
  no_count : IsCountArg p.built a.id.now → ⊥
  no_count any =
      let same = rules any.0 any.1 any.2 any.3 any.4.0 in
      let is_set : any.1.action ≡ Some Set = same.action Set set in
      let bad : Set ≡ Count = rw is_set at any.4.1 in
      cc

  no_allowance : AllowsNone p.built a.id.now → ⊥
  no_allowance any =
      let same = rules any.0 any.1 any.2 any.3 any.4.0 in
      elim any.4.1 [
        | inl none ↦
            let some : 1 ≤ least_values any.1 = same.least set least in
            omega (arith, none)
        | inr divided ↦
            let bad : false ≡ true = rw (same.val_delim, undivided) at divided in
            cc
      ]

  read_by : (how : Reading) → HasReading p.built a.id.now how → how ≡ reading_of q
  read_by how any =
      let same = rules any.0 any.1 any.2 any.3 any.4.0 in
      sym any.4.1 ∙ ap (λ (o : Option ValueParser). reading_of (parser_of_value o)) (same.parser q parser)

  taken_by : (t : List ℕ) → PassesArg p.built a.id.now t → Accepts a.ignore_case q t
  taken_by t any =
      let same = rules any.0 any.1 any.2 any.3 any.4.0 in
      let by_q : Accepts any.1.ignore_case q t =
      subst (λ (o : Option ValueParser). Accepts any.1.ignore_case (parser_of_value o) t) (same.parser q parser) any.4.1 in
      subst (λ (b : Bool). Accepts b q t) same.ignore_case by_q

  -- the entry of the argument has a first value, which is read and was taken as the parser says
  of_entry : (x : MatchedArg) (e : Entry) → matched_of (found_of m) a.id.now ≡ Some x → e.1 ≡ x → e.0.now ≡ a.id.now → EntryPasses p.built e
      → (t : List ℕ) × (one_text (found_of m) a.id.now ≡ Some (read_as (reading_of q) t)) × Accepts a.ignore_case q t
  of_entry x e found is id passes =
      let no_group : e.1.is_group ≡ true → ⊥ = λ g. elim (passes.3 g) [
        | inl empty ↦ named (sym id ∙ empty)
        | inr some ↦ let none : 0 < 0 = rw (p.from.plain plain).1 at some in omega (arith, none)
      ] in
      let filled : 0 < length e.1.vals.items = elim passes.1 [
        | inl group ↦ absurd (no_group group.0)
        | inr (inl some) ↦ some
        | inr (inr (inl counts)) ↦ absurd (no_count (subst (λ (w : List ℕ). IsCountArg p.built w) id counts.1))
        | inr (inr (inr none)) ↦ absurd (no_allowance (subst (λ (w : List ℕ). AllowsNone p.built w) id none))
      ] in
      let how : e.1.reading ≡ reading_of q = elim passes.4 [
        | inl group ↦ absurd (no_group group)
        | inr reading ↦ read_by e.1.reading (subst (λ (w : List ℕ). HasReading p.built w e.1.reading) id reading)
      ] in
      let all : All (λ (v : Bor (List ℕ)). PassesArg p.built e.0.now v.now) e.1.vals.items = elim passes.0 [
        | inl group ↦ absurd (no_group group)
        | inr values ↦ values
      ] in
      let front = front_of (λ (v : Bor (List ℕ)). PassesArg p.built e.0.now v.now) e.1.vals.items filled all in (
        front.0.now,
        value_text (found_of m) a.id.now x (reading_of q) front.0 found (ap (λ (y : MatchedArg). y.reading) (sym is) ∙ how) (ap (λ (y : MatchedArg). slice_get y.vals.items 0) (sym is) ∙ front.1),
        taken_by front.0.now (subst (λ (w : List ℕ). PassesArg p.built w front.0.now) id front.2),
      )

-- the argument at place k takes one value by this parser, and its id is its own
pub record IsOwn (c : Command) (k : ℕ) (d : Arg) (q : ValueParser) : Type 0 where
  pub below : k < length (args_of c)
  pub set : (slice_index_or (args_of c) k d).action ≡ Some Set
  pub undivided : (slice_index_or (args_of c) k d).val_delim ≡ None
  pub least : 1 ≤ least_values (slice_index_or (args_of c) k d)
  pub unique : (j : ℕ) (e : Arg) → j < length (args_of c) → bytes_eq (slice_index_or (args_of c) j e).id.now (slice_index_or (args_of c) k d).id.now ≡ true → j ≡ k
  pub named : (slice_index_or (args_of c) k d).id.now ≡ [] → ⊥
  pub own : IsAuto (slice_index_or (args_of c) k d) → ⊥
  pub parser : (slice_index_or (args_of c) k d).value_parser ≡ Some q

module _ (c : Command) (m : ArgMatches) (p : IsParsedFrom c m) (plain : IsPlain c) (globals : (out-Command c).has_globals ≡ false)
    (k : ℕ) (d : Arg) (q : ValueParser) (is : IsOwn c k d q) where
  abbrev a : Arg
  a = slice_index_or (args_of c) k d

  -- what an entry of the argument says
  abbrev pub Reads : Type 0
  Reads = (t : List ℕ) × (one_text (found_of m) a.id.now ≡ Some (read_as (reading_of q) t)) × Accepts a.ignore_case q t

  of_match : (x : MatchedArg) → matched_of (found_of m) a.id.now ≡ Some x → Reads
  of_match x found =
      let parsed = p.parsed (p.from.globals ∙ globals) in
      let entry = entry_by_id (EntryPasses p.built) (found_of m).entries.items a.id.now x parsed.values found in
      of_entry c m p plain globals a (same_rules_by_id c m p k d is.below is.unique is.own) is.named is.set is.undivided is.least q is.parser x entry.0 found entry.1
      ((bytes_eq-Decides _ _).0 entry.2) entry.3

  -- an argument with a default has a value
  pub defaulted_reads : WantsDefault a → Reads
  defaulted_reads wants =
      let matched = matched_in (found_of m).entries.items a.id.now (default_present c m p globals k d is.below wants) in
      of_match matched.0 matched.1

  -- another one has none, or one that its parser took
  pub optional_reads : (one_text (found_of m) a.id.now ≡ None) ⊎ Reads
  optional_reads = go (matched_of (found_of m) a.id.now) refl
    where
      go : (o : Option MatchedArg) → matched_of (found_of m) a.id.now ≡ o → (one_text (found_of m) a.id.now ≡ None) ⊎ Reads
      go None none = inl (rw none refl)
      go (Some x) found = inr (of_match x found)
