-- The reading functions read as the points do: arguments and fields, over readers of values.
use Rattle.std.proofs.Common.{◌≡◌, ◌∙◌, ℕ, zero, suc, ◌+◌, ◌<◌, ◌≤◌, List, [], ◌∷◌, ◌++◌, length, drop, Bool, true, false, cond, Option, Some, None, Result, Ok, Err, ℤ, refl, sym, ap, subst, arith}
use Rattle.std.proofs.lemmas.Bool.{lt-ltb}
use Rattle.std.specs.Prelude.{◌||◌, nat_lt}
use Rattle.std.specs.Ordering.{is_lt}
use Rattle.tree_node.specs.declared.node.Feature.{Feature}
use Rattle.tree_node.specs.Node.{feature_cmp}
use Rattle.tree_node.specs.Goal.{equal_feature}
use Rattle.tree_node.proofs.BoolLemmas.{exchange}
use Rattle.kernel_syntax.specs.declared.sugar.Field.{Field}
use Rattle.kernel_syntax.specs.Sugar.{Value, Values}
use Rattle.oz_grammar.specs.declared.symbol.Symbol.{Symbol}
use Rattle.oz_grammar.specs.declared.symbol.Symbol.TheVariants as t
use Rattle.oz_grammar.specs.declared.fault.Fault.{Fault}
use Rattle.oz_grammar.specs.declared.fault.FaultKind.{FaultKind}
use Rattle.oz_grammar.specs.declared.fault.FaultKind.TheVariants.{Wide, Twice}
use Rattle.oz_grammar.specs.declared.fault.What.{What}
use Rattle.oz_grammar.specs.declared.fault.What.TheVariants as what
use Rattle.oz_grammar.specs.Grammar.{AtomFeature, IntFeature}
use Rattle.oz_grammar.specs.Scoping.{Scope, feature_of, place_feature, with_field}
use Rattle.oz_grammar.specs.Faults.{or_else, where_so, room_fault, fewer, fault_here, mismatch}
use Rattle.oz_grammar.specs.Check.{first_fault}
use Rattle.oz_grammar.specs.Reading.{◌>>=◌, fault_or, close_at, is_close_round}
use Rattle.oz_grammar.specs.Table.{features_in}
use Rattle.surface_grammar.specs.Points.{Whole, Point, ValueOf, FieldOf, Wanted, next_primary, value_fault, is_given, given_fault, argument_fault, behind_placed, run}
use Rattle.surface_grammar.specs.Points as points
use Rattle.surface_grammar.specs.Trees.{with_last}
use Rattle.surface_grammar.specs.Reading.{Read, wanted_at, is_close, arguments_at, FieldsSoFar, with_one, named_at, placed_at, field_at, fields_at, value_with}
use Rattle.surface_grammar.proofs.Starts.{is_no_colon, is_first, first_whole, begins_by, then_both, argument_next, argument_wrong_is, field_begins}
use Rattle.surface_grammar.proofs.ReadSteps.{IsReadFrom, any, bind}
use Rattle.surface_grammar.proofs.ReadValues.{ValueBegins, begins_part, begins_choice, ReadsValues, value_here}

-- ---- a value whose holder has something wrong is a fault

-- reading gives a fault
abbrev pub Fails : {X : Type 0} → Result X Fault → Type 0
Fails r = (f : Fault) × (r ≡ Err f)

-- what is read, and the same fault behind what failed
pub failed : {X Y : Type 0} (n : ℕ) (symbols : List Symbol) (points : List Point) (r : Read X) (P : X × List Symbol → Type 0) (on : X → List Point) (f : X × List Symbol → Read Y) (Q : Y × List Symbol → Type 0) (behind : Y → List Point) → Fails r → IsReadFrom n symbols points r P on → IsReadFrom n symbols points (r >>= f) Q behind
failed n symbols points (Ok x) P on f Q behind h a = absurd cc
failed n symbols points (Err e) P on f Q behind h a = record { reads = a.reads; good = tt }

full_value : (d : ℕ) (scope : Scope) (kind : FaultKind) (w : What) (symbols : List Symbol) → Fails (value_with d scope (Some kind) w symbols)
full_value d scope kind w [] = (_, refl)
full_value d scope kind w (t.Variable x ∷ rest) = (_, refl)
full_value d scope kind w (t.Integer None ∷ rest) = (_, refl)
full_value zero scope kind w (t.Integer (Some i) ∷ rest) = (_, refl)
full_value (suc d) scope kind w (t.Integer (Some i) ∷ rest) = (_, refl)
full_value zero scope kind w (t.Atom a ∷ rest) = (_, refl)
full_value (suc d) scope kind w (t.Atom a ∷ rest) = (_, refl)
full_value zero scope kind w (t.OpenCurly ∷ rest) = (_, refl)
full_value (suc d) scope kind w (t.OpenCurly ∷ rest) = (_, refl)
full_value zero scope kind w (t.Proc ∷ rest) = (_, refl)
full_value (suc d) scope kind w (t.Proc ∷ rest) = (_, refl)
full_value zero scope kind w (t.Fun ∷ rest) = (_, refl)
full_value (suc d) scope kind w (t.Fun ∷ rest) = (_, refl)
full_value zero scope kind w (t.OpenRound ∷ rest) = (_, refl)
full_value (suc d) scope kind w (t.OpenRound ∷ rest) = (_, refl)
full_value zero scope kind w (t.If ∷ rest) = (_, refl)
full_value (suc d) scope kind w (t.If ∷ rest) = (_, refl)
full_value zero scope kind w (t.Case ∷ rest) = (_, refl)
full_value (suc d) scope kind w (t.Case ∷ rest) = (_, refl)
full_value d scope kind w (s ∷ rest) = (_, refl)

-- ---- arguments

argument_begins : (scope : Scope) (d nth most : ℕ) (symbols : List Symbol) (σ : List Point) (s : Symbol) (rest : List Symbol) (inside : List Point) → symbols ≡ s ∷ rest → is_first s ≡ true → next_primary Whole scope d s ≡ Some inside
    → run (s ∷ rest) (points.Arguments scope d nth most ∷ σ) ≡ first_fault (value_fault scope d (argument_fault nth most) s) (s ∷ rest) (run rest (inside ++ (points.Arguments scope d (nth + 1) most ∷ σ)))
argument_begins scope d nth most symbols σ s rest inside e first k =
    begins_by (points.Arguments scope d nth most) σ s rest (value_fault scope d (argument_fault nth most) s) (inside ++ (points.Arguments scope d (nth + 1) most ∷ σ))
    (argument_next scope d nth most s σ first ∙ then_both (next_primary Whole scope d s) (points.Arguments scope d (nth + 1) most ∷ []) σ inside k) (argument_wrong_is scope d nth most s rest σ first)

argument_refuses : (scope : Scope) (d nth most : ℕ) (symbols : List Symbol) (σ : List Point) → is_close symbols ≡ false → begins_choice symbols ≡ false → begins_part symbols ≡ false → run symbols (points.Arguments scope d nth most ∷ σ) ≡ Some (fault_here (mismatch what.ValueOrClose symbols) symbols)
argument_refuses scope d nth most [] σ o c e = refl
argument_refuses scope d nth most (t.CloseCurly ∷ rest) σ o c e = absurd cc
argument_refuses scope d nth most (t.Variable x ∷ rest) σ o c e = absurd cc
argument_refuses scope d nth most (t.Integer i ∷ rest) σ o c e = absurd cc
argument_refuses scope d nth most (t.Atom a ∷ rest) σ o c e = absurd cc
argument_refuses scope d nth most (t.OpenCurly ∷ rest) σ o c e = absurd cc
argument_refuses scope d nth most (t.Proc ∷ rest) σ o c e = absurd cc
argument_refuses scope d nth most (t.Fun ∷ rest) σ o c e = absurd cc
argument_refuses scope d nth most (t.OpenRound ∷ rest) σ o c e = absurd cc
argument_refuses scope d nth most (t.If ∷ rest) σ o c e = absurd cc
argument_refuses scope d nth most (t.Case ∷ rest) σ o c e = absurd cc
argument_refuses scope d nth most (s ∷ rest) σ o c e = refl

argument_at : (scope : Scope) (d nth most : ℕ) (symbols : List Symbol) (σ : List Point) → is_close symbols ≡ false → ValueBegins symbols (points.Arguments scope d nth most ∷ σ) scope d (argument_fault nth most) what.ValueOrClose (points.Arguments scope d (nth + 1) most ∷ σ)
argument_at scope d nth most symbols σ o = record {
  ifs = λ rest e. refl;
  cases = λ rest e. refl;
  part = λ c. record { begins = argument_begins scope d nth most symbols σ; refuses = argument_refuses scope d nth most symbols σ o c };
}

-- one more of so many has room, or not
pub argument_room : (nth room most : ℕ) → nth + room ≡ most → argument_fault nth most ≡ room_fault room
argument_room nth zero most e = let same : nat_lt nth most ≡ false = search (arith, e) in rw same refl
argument_room nth (suc room) most e = let lt : nth < most = omega (arith, e) in let same : nat_lt nth most ≡ true = lt-ltb nth most lt in rw same refl

close_reads : (scope : Scope) (d nth most : ℕ) (symbols : List Symbol) (σ : List Point) → is_close symbols ≡ true → run symbols (points.Arguments scope d nth most ∷ σ) ≡ run (drop 1 symbols) σ
close_reads scope d nth most (t.CloseCurly ∷ rest) σ e = refl
close_reads scope d nth most symbols σ e = absurd cc

drop_le : (n : ℕ) (symbols : List Symbol) → length symbols ≤ n + 1 → length (drop 1 symbols) ≤ n
drop_le n [] le = omega arith
drop_le n (s ∷ rest) le = omega (arith, le)

closed_read : {X : Type 0} (n : ℕ) (x : X) (symbols : List Symbol) (points σ : List Point) → run symbols points ≡ run (drop 1 symbols) σ → length symbols ≤ n + 1 → IsReadFrom n symbols points (Ok (x, drop 1 symbols)) any (λ y. σ)
closed_read n x symbols points σ e le = record { reads = e; good = (drop_le n symbols le, tt) }

argument_read : (d : ℕ) (r : ReadsValues d) (scope : Scope) (nth room most n : ℕ) (symbols : List Symbol) (σ : List Point) → nth + room ≡ most → is_close symbols ≡ false → length symbols ≤ n + 1
    → IsReadFrom n symbols (points.Arguments scope d nth most ∷ σ) (value_with d scope (room_fault room) what.ValueOrClose symbols) any (λ x. points.Arguments scope d (nth + 1) most ∷ σ)
argument_read d r scope nth room most n symbols σ e o le =
    subst (λ (h : Option FaultKind). IsReadFrom n symbols (points.Arguments scope d nth most ∷ σ) (value_with d scope h what.ValueOrClose symbols) any (λ x. points.Arguments scope d (nth + 1) most ∷ σ)) (argument_room nth room most e)
    (r.value scope (argument_fault nth most) what.ValueOrClose n symbols (points.Arguments scope d nth most ∷ σ) (points.Arguments scope d (nth + 1) most ∷ σ) (argument_at scope d nth most symbols σ o) refl le)

pub arguments_read : (room d : ℕ) (r : ReadsValues d) (scope : Scope) (nth most : ℕ) (before : Values) (n : ℕ) (symbols : List Symbol) (σ : List Point) → nth + room ≡ most → length symbols ≤ n + 1
    → IsReadFrom n symbols (points.Arguments scope d nth most ∷ σ) (arguments_at (value_with d) scope room before symbols) any (λ x. σ)
unfolding arguments_at
arguments_read zero d r scope nth most before n symbols σ e le =
    let chosen : (b : Bool) → is_close symbols ≡ b → IsReadFrom n symbols (points.Arguments scope d nth most ∷ σ) (cond b (Ok (before, drop 1 symbols)) (value_with d scope (room_fault zero) what.ValueOrClose symbols >>= λ v. Ok (before, v.1))) any (λ x. σ) = elim [
      | true ↦ λ o. closed_read n before symbols (points.Arguments scope d nth most ∷ σ) σ (close_reads scope d nth most symbols σ o) le
      | false ↦ λ o. failed n symbols (points.Arguments scope d nth most ∷ σ) (value_with d scope (room_fault zero) what.ValueOrClose symbols) any (λ x. points.Arguments scope d (nth + 1) most ∷ σ) (λ v. Ok (before, v.1)) any (λ x. σ) (full_value d scope Wide what.ValueOrClose symbols) (argument_read d r scope nth zero most n symbols σ e o le)
    ] in chosen (is_close symbols) refl
arguments_read (suc room) d r scope nth most before n symbols σ e le =
    let chosen : (b : Bool) → is_close symbols ≡ b → IsReadFrom n symbols (points.Arguments scope d nth most ∷ σ) (cond b (Ok (before, drop 1 symbols)) (value_with d scope (room_fault (suc room)) what.ValueOrClose symbols >>= λ v. arguments_at (value_with d) scope room (with_last before v.0) v.1)) any (λ x. σ) = elim [
      | true ↦ λ o. closed_read n before symbols (points.Arguments scope d nth most ∷ σ) σ (close_reads scope d nth most symbols σ o) le
      | false ↦ λ o. bind n symbols (points.Arguments scope d nth most ∷ σ) (value_with d scope (room_fault (suc room)) what.ValueOrClose symbols) any (λ x. points.Arguments scope d (nth + 1) most ∷ σ) (λ v. arguments_at (value_with d) scope room (with_last before v.0) v.1) any (λ x. σ) (argument_read d r scope nth (suc room) most n symbols σ e o le)
          (λ v l g. arguments_read room d r scope (nth + 1) most (with_last before v.0) n v.1 σ (omega (arith, e)) (omega (arith, l)))
    ] in chosen (is_close symbols) refl

-- ---- arguments of what is built in

wanted_begins : (scope : Scope) (d k : ℕ) (symbols : List Symbol) (σ : List Point) (s : Symbol) (rest : List Symbol) (inside : List Point) → symbols ≡ s ∷ rest → is_first s ≡ true → next_primary Whole scope d s ≡ Some inside
    → run (s ∷ rest) (Wanted scope d (suc k) ∷ σ) ≡ first_fault (value_fault scope d None s) (s ∷ rest) (run rest (inside ++ (Wanted scope d k ∷ σ)))
wanted_begins scope d k symbols σ s rest inside e first n =
    begins_by (Wanted scope d (suc k)) σ s rest (value_fault scope d None s) (inside ++ (Wanted scope d k ∷ σ)) (then_both (points.next_value scope d s) (Wanted scope d k ∷ []) σ inside (first_whole scope d s first ∙ n)) refl

wanted_refuses : (scope : Scope) (d k : ℕ) (symbols : List Symbol) (σ : List Point) → begins_choice symbols ≡ false → begins_part symbols ≡ false → run symbols (Wanted scope d (suc k) ∷ σ) ≡ Some (fault_here (mismatch what.Value symbols) symbols)
wanted_refuses scope d k [] σ c e = refl
wanted_refuses scope d k (t.Variable x ∷ rest) σ c e = absurd cc
wanted_refuses scope d k (t.Integer i ∷ rest) σ c e = absurd cc
wanted_refuses scope d k (t.Atom a ∷ rest) σ c e = absurd cc
wanted_refuses scope d k (t.OpenCurly ∷ rest) σ c e = absurd cc
wanted_refuses scope d k (t.Proc ∷ rest) σ c e = absurd cc
wanted_refuses scope d k (t.Fun ∷ rest) σ c e = absurd cc
wanted_refuses scope d k (t.OpenRound ∷ rest) σ c e = absurd cc
wanted_refuses scope d k (t.If ∷ rest) σ c e = absurd cc
wanted_refuses scope d k (t.Case ∷ rest) σ c e = absurd cc
wanted_refuses scope d k (s ∷ rest) σ c e = refl

wanted_value : (scope : Scope) (d k : ℕ) (symbols : List Symbol) (σ : List Point) → ValueBegins symbols (Wanted scope d (suc k) ∷ σ) scope d None what.Value (Wanted scope d k ∷ σ)
wanted_value scope d k symbols σ = record {
  ifs = λ rest e. refl;
  cases = λ rest e. refl;
  part = λ c. record { begins = wanted_begins scope d k symbols σ; refuses = wanted_refuses scope d k symbols σ c };
}

wanted_closed : (scope : Scope) (d n : ℕ) (before : Values) (symbols : List Symbol) (σ : List Point) → length symbols ≤ n + 1 → IsReadFrom n symbols (Wanted scope d zero ∷ σ) (close_at symbols >>= λ rest. Ok (before, rest)) any (λ x. σ)
wanted_closed scope d n before [] σ le = record { reads = refl; good = tt }
wanted_closed scope d n before (t.CloseCurly ∷ rest) σ le = record { reads = refl; good = (omega (arith, le), tt) }
wanted_closed scope d n before (s ∷ rest) σ le = record { reads = refl; good = tt }

pub wanted_read : (k d : ℕ) (r : ReadsValues d) (scope : Scope) (before : Values) (n : ℕ) (symbols : List Symbol) (σ : List Point) → length symbols ≤ n + 1 → IsReadFrom n symbols (Wanted scope d k ∷ σ) (wanted_at (value_with d) scope k before symbols) any (λ x. σ)
unfolding wanted_at
wanted_read zero d r scope before n symbols σ le = wanted_closed scope d n before symbols σ le
wanted_read (suc k) d r scope before n symbols σ le =
    bind n symbols (Wanted scope d (suc k) ∷ σ) (value_with d scope None what.Value symbols) any (λ x. Wanted scope d k ∷ σ) (λ v. wanted_at (value_with d) scope k (with_last before v.0) v.1) any (λ x. σ)
    (r.value scope None what.Value n symbols (Wanted scope d (suc k) ∷ σ) (Wanted scope d k ∷ σ) (wanted_value scope d k symbols σ) refl le) (λ v l g. wanted_read k d r scope (with_last before v.0) n v.1 σ (omega (arith, l)))

-- ---- fields

-- these features are those of the fields
abbrev pub Same : List Feature → FieldsSoFar → Type 0
Same before m = (f : Feature) → is_given before f ≡ is_given (features_in m.0) f

given_slot : (f : Feature) (p : Field) (slots : List (Feature × Field)) (g : Feature) → is_given (features_in (with_field f p slots)) g ≡ (equal_feature f g || is_given (features_in slots) g)
given_slot f p [] g = refl
given_slot f p ((h, q) ∷ slots) g =
    let chosen : (b : Bool) → is_given (features_in (cond b ((f, p) ∷ (h, q) ∷ slots) ((h, q) ∷ with_field f p slots))) g ≡ (equal_feature f g || (equal_feature h g || is_given (features_in slots) g)) = elim [
      | true ↦ refl
      | false ↦ ap (λ (b : Bool). equal_feature h g || b) (given_slot f p slots g) ∙ exchange (equal_feature h g) (equal_feature f g) (is_given (features_in slots) g)
    ] in chosen (is_lt (feature_cmp f h))

pub same_more : (before : List Feature) (m : FieldsSoFar) (f : Feature) (v : Value) (nth : ℕ) → Same before m → Same (f ∷ before) (with_one f v nth m)
same_more before m f v nth same g = ap (λ (b : Bool). equal_feature f g || b) (same g) ∙ sym (given_slot f _ m.0 g)

pub same_fault : (room : ℕ) (before : List Feature) (m : FieldsSoFar) (f : Feature) → Same before m → given_fault room before f ≡ given_fault room (features_in m.0) f
same_fault room before m f same = ap (λ (b : Bool). or_else (room_fault room) (where_so b Twice)) (same f)

-- a field begins with a feature
abbrev begins_named : List Symbol → Bool
begins_named (t.Atom a ∷ t.Colon ∷ rest) = true
begins_named (t.Integer i ∷ t.Colon ∷ rest) = true
begins_named symbols = false

field_refuses : (scope : Scope) (d room : ℕ) (before : List Feature) (nth : ℕ) (symbols : List Symbol) (σ : List Point) → is_close_round symbols ≡ false → begins_choice symbols ≡ false → begins_part symbols ≡ false
    → run symbols (FieldOf scope d room before nth ∷ σ) ≡ Some (fault_here (mismatch what.FieldOrBracket symbols) symbols)
field_refuses scope d room before nth [] σ o c e = refl
field_refuses scope d room before nth (t.CloseRound ∷ rest) σ o c e = absurd cc
field_refuses scope d room before nth (t.Variable x ∷ rest) σ o c e = absurd cc
field_refuses scope d room before nth (t.Integer i ∷ rest) σ o c e = absurd cc
field_refuses scope d room before nth (t.Atom a ∷ rest) σ o c e = absurd cc
field_refuses scope d room before nth (t.OpenCurly ∷ rest) σ o c e = absurd cc
field_refuses scope d room before nth (t.Proc ∷ rest) σ o c e = absurd cc
field_refuses scope d room before nth (t.Fun ∷ rest) σ o c e = absurd cc
field_refuses scope d room before nth (t.OpenRound ∷ rest) σ o c e = absurd cc
field_refuses scope d room before nth (t.If ∷ rest) σ o c e = absurd cc
field_refuses scope d room before nth (t.Case ∷ rest) σ o c e = absurd cc
field_refuses scope d room before nth (s ∷ rest) σ o c e = refl

no_colon_atom : (a : List ℕ) (rest : List Symbol) → begins_named (t.Atom a ∷ rest) ≡ false → is_no_colon rest ≡ true
no_colon_atom a [] e = refl
no_colon_atom a (t.Colon ∷ rest) e = absurd cc
no_colon_atom a (s ∷ rest) e = refl

no_colon_integer : (i : Option ℤ) (rest : List Symbol) → begins_named (t.Integer i ∷ rest) ≡ false → is_no_colon rest ≡ true
no_colon_integer i [] e = refl
no_colon_integer i (t.Colon ∷ rest) e = absurd cc
no_colon_integer i (s ∷ rest) e = refl

plain_begins : (scope : Scope) (d room : ℕ) (before : List Feature) (nth : ℕ) (s : Symbol) (rest : List Symbol) (σ inside : List Point) → begins_named (s ∷ rest) ≡ false → is_first s ≡ true → next_primary Whole scope d s ≡ Some inside
    → run (s ∷ rest) (FieldOf scope d room before nth ∷ σ) ≡ first_fault (value_fault scope d (given_fault room before (place_feature nth)) s) (s ∷ rest) (run rest (inside ++ (behind_placed scope d room before nth ++ σ)))
plain_begins scope d room before nth (t.Atom a) rest σ inside c e n = field_begins scope d room before nth (t.Atom a) rest σ inside e (no_colon_atom a rest c) n
plain_begins scope d room before nth (t.Integer i) rest σ inside c e n = field_begins scope d room before nth (t.Integer i) rest σ inside e (no_colon_integer i rest c) n
plain_begins scope d room before nth (t.Variable x) rest σ inside c e n =
    begins_by (FieldOf scope d room before nth) σ (t.Variable x) rest (value_fault scope d (given_fault room before (place_feature nth)) (t.Variable x)) (inside ++ (behind_placed scope d room before nth ++ σ))
    (then_both (next_primary Whole scope d (t.Variable x)) (behind_placed scope d room before nth) σ inside n) refl
plain_begins scope d room before nth t.OpenCurly rest σ inside c e n =
    begins_by (FieldOf scope d room before nth) σ t.OpenCurly rest (value_fault scope d (given_fault room before (place_feature nth)) t.OpenCurly) (inside ++ (behind_placed scope d room before nth ++ σ))
    (then_both (next_primary Whole scope d t.OpenCurly) (behind_placed scope d room before nth) σ inside n) refl
plain_begins scope d room before nth t.Proc rest σ inside c e n =
    begins_by (FieldOf scope d room before nth) σ t.Proc rest (value_fault scope d (given_fault room before (place_feature nth)) t.Proc) (inside ++ (behind_placed scope d room before nth ++ σ))
    (then_both (next_primary Whole scope d t.Proc) (behind_placed scope d room before nth) σ inside n) refl
plain_begins scope d room before nth t.Fun rest σ inside c e n =
    begins_by (FieldOf scope d room before nth) σ t.Fun rest (value_fault scope d (given_fault room before (place_feature nth)) t.Fun) (inside ++ (behind_placed scope d room before nth ++ σ))
    (then_both (next_primary Whole scope d t.Fun) (behind_placed scope d room before nth) σ inside n) refl
plain_begins scope d room before nth t.OpenRound rest σ inside c e n =
    begins_by (FieldOf scope d room before nth) σ t.OpenRound rest (value_fault scope d (given_fault room before (place_feature nth)) t.OpenRound) (inside ++ (behind_placed scope d room before nth ++ σ))
    (then_both (next_primary Whole scope d t.OpenRound) (behind_placed scope d room before nth) σ inside n) refl
plain_begins scope d room before nth s rest σ inside c e n = absurd cc

field_value : (scope : Scope) (d room : ℕ) (before : List Feature) (nth : ℕ) (symbols : List Symbol) (σ : List Point) → is_close_round symbols ≡ false → begins_named symbols ≡ false
    → ValueBegins symbols (FieldOf scope d room before nth ∷ σ) scope d (given_fault room before (place_feature nth)) what.FieldOrBracket (FieldOf scope d (fewer room) (place_feature nth ∷ before) (nth + 1) ∷ σ)
field_value scope d room before nth symbols σ o bare = record {
  ifs = λ rest e. refl;
  cases = λ rest e. refl;
  part = λ c. record {
    begins = λ s rest inside e first k. plain_begins scope d room before nth s rest σ inside (subst (λ (xs : List Symbol). begins_named xs ≡ false) e bare) first k;
    refuses = field_refuses scope d room before nth symbols σ o c;
  };
}

placed_read : (d : ℕ) (r : ReadsValues d) (scope : Scope) (room : ℕ) (before : List Feature) (m : FieldsSoFar) (n : ℕ) (symbols : List Symbol) (σ : List Point) → Same before m → is_close_round symbols ≡ false → begins_named symbols ≡ false → length symbols ≤ n + 1
    → IsReadFrom n symbols (FieldOf scope d room before m.2 ∷ σ) (value_with d scope (given_fault room (features_in m.0) (place_feature m.2)) what.FieldOrBracket symbols) any (λ v. FieldOf scope d (fewer room) (place_feature m.2 ∷ before) (m.2 + 1) ∷ σ)
placed_read d r scope room before m n symbols σ same o bare le =
    subst (λ (h : Option FaultKind). IsReadFrom n symbols (FieldOf scope d room before m.2 ∷ σ) (value_with d scope h what.FieldOrBracket symbols) any (λ v. FieldOf scope d (fewer room) (place_feature m.2 ∷ before) (m.2 + 1) ∷ σ)) (same_fault room before m (place_feature m.2) same)
    (r.value scope (given_fault room before (place_feature m.2)) what.FieldOrBracket n symbols (FieldOf scope d room before m.2 ∷ σ) (FieldOf scope d (fewer room) (place_feature m.2 ∷ before) (m.2 + 1) ∷ σ) (field_value scope d room before m.2 symbols σ o bare) refl le)

-- fields behind a field: those behind this one are read from its point
abbrev pub FieldsRead : ℕ → ℕ → Type 0
FieldsRead d room =
    (scope : Scope) (before : List Feature) (m : FieldsSoFar) (n : ℕ) (symbols : List Symbol) (σ : List Point) → Same before m → length symbols ≤ n + 1
    → IsReadFrom n symbols (FieldOf scope d room before m.2 ∷ σ) (fields_at (value_with d) scope room m symbols) any (λ x. σ)

round_reads : (scope : Scope) (d room : ℕ) (before : List Feature) (nth : ℕ) (symbols : List Symbol) (σ : List Point) → is_close_round symbols ≡ true → run symbols (FieldOf scope d room before nth ∷ σ) ≡ run (drop 1 symbols) σ
round_reads scope d room before nth (t.CloseRound ∷ rest) σ e = refl
round_reads scope d room before nth symbols σ e = absurd cc

-- a field of this feature, behind whose colon rest stands
named_read : (d : ℕ) (r : ReadsValues d) (scope : Scope) (room : ℕ) (before : List Feature) (m : FieldsSoFar) (f : Feature) (n : ℕ) (s : Symbol) (rest : List Symbol) (σ : List Point) → Same before m → length rest ≤ n
    → run (s ∷ t.Colon ∷ rest) (FieldOf scope d room before m.2 ∷ σ) ≡ first_fault (given_fault room before f) (s ∷ t.Colon ∷ rest) (run rest (ValueOf scope d ∷ FieldOf scope d (fewer room) (f ∷ before) m.2 ∷ σ))
    → (on : FieldsSoFar × List Symbol → Read FieldsSoFar) → ((x : FieldsSoFar × List Symbol) → length x.1 ≤ n → Same (f ∷ before) x.0 → x.0.2 ≡ m.2 → IsReadFrom n x.1 (FieldOf scope d (fewer room) (f ∷ before) m.2 ∷ σ) (on x) any (λ y. σ))
    → IsReadFrom n (s ∷ t.Colon ∷ rest) (FieldOf scope d room before m.2 ∷ σ) (named_at (value_with d) scope room m f (s ∷ t.Colon ∷ rest) rest >>= on) any (λ y. σ)
named_read d r scope room before m f n s rest σ same le e on next =
    let w : given_fault room before f ≡ given_fault room (features_in m.0) f = same_fault room before m f same in
    chosen (given_fault room (features_in m.0) f) (e ∙ ap (λ (k : Option FaultKind). first_fault k (s ∷ t.Colon ∷ rest) (run rest (ValueOf scope d ∷ FieldOf scope d (fewer room) (f ∷ before) m.2 ∷ σ))) w)
  where
    value : IsReadFrom n rest (ValueOf scope d ∷ FieldOf scope d (fewer room) (f ∷ before) m.2 ∷ σ) (value_with d scope None what.Value rest) any (λ x. FieldOf scope d (fewer room) (f ∷ before) m.2 ∷ σ)
    value = value_here d r scope n rest (FieldOf scope d (fewer room) (f ∷ before) m.2 ∷ σ) refl (omega (arith, le))

    both : (q : Read Value) → IsReadFrom n rest (ValueOf scope d ∷ FieldOf scope d (fewer room) (f ∷ before) m.2 ∷ σ) q any (λ x. FieldOf scope d (fewer room) (f ∷ before) m.2 ∷ σ)
        → IsReadFrom n rest (ValueOf scope d ∷ FieldOf scope d (fewer room) (f ∷ before) m.2 ∷ σ) ((q >>= λ v. Ok (with_one f v.0 m.2 m, v.1)) >>= on) any (λ y. σ)
    both (Ok v) a = let l = next (with_one f v.0 m.2 m, v.1) a.good.0 (same_more before m f v.0 m.2 same) refl in record { reads = a.reads ∙ l.reads; good = l.good }
    both (Err g) a = record { reads = a.reads; good = tt }

    chosen : (k : Option FaultKind) → run (s ∷ t.Colon ∷ rest) (FieldOf scope d room before m.2 ∷ σ) ≡ first_fault k (s ∷ t.Colon ∷ rest) (run rest (ValueOf scope d ∷ FieldOf scope d (fewer room) (f ∷ before) m.2 ∷ σ))
        → IsReadFrom n (s ∷ t.Colon ∷ rest) (FieldOf scope d room before m.2 ∷ σ) (fault_or k (s ∷ t.Colon ∷ rest) (value_with d scope None what.Value rest >>= λ v. Ok (with_one f v.0 m.2 m, v.1)) >>= on) any (λ y. σ)
    chosen None e = let l = both (value_with d scope None what.Value rest) value in record { reads = e ∙ l.reads; good = l.good }
    chosen (Some kind) e = record { reads = e; good = tt }

-- what is read of a field without a feature, and then more
placed_then : (d : ℕ) (r : ReadsValues d) (scope : Scope) (room : ℕ) (before : List Feature) (m : FieldsSoFar) (n : ℕ) (symbols : List Symbol) (σ : List Point) → Same before m → is_close_round symbols ≡ false → begins_named symbols ≡ false → length symbols ≤ n + 1
    → (on : FieldsSoFar × List Symbol → Read FieldsSoFar)
    → ((x : FieldsSoFar × List Symbol) → length x.1 ≤ n → Same (place_feature m.2 ∷ before) x.0 → x.0.2 ≡ m.2 + 1 → IsReadFrom n x.1 (FieldOf scope d (fewer room) (place_feature m.2 ∷ before) (m.2 + 1) ∷ σ) (on x) any (λ y. σ))
    → IsReadFrom n symbols (FieldOf scope d room before m.2 ∷ σ) (placed_at (value_with d) scope room m symbols >>= on) any (λ y. σ)
placed_then d r scope room before m n symbols σ same o bare le on next = both (value_with d scope (given_fault room (features_in m.0) (place_feature m.2)) what.FieldOrBracket symbols) (placed_read d r scope room before m n symbols σ same o bare le)
  where
    both : (q : Read Value) → IsReadFrom n symbols (FieldOf scope d room before m.2 ∷ σ) q any (λ x. FieldOf scope d (fewer room) (place_feature m.2 ∷ before) (m.2 + 1) ∷ σ)
        → IsReadFrom n symbols (FieldOf scope d room before m.2 ∷ σ) ((q >>= λ v. Ok (with_one (place_feature m.2) v.0 (m.2 + 1) m, v.1)) >>= on) any (λ y. σ)
    both (Ok v) a = let l = next (with_one (place_feature m.2) v.0 (m.2 + 1) m, v.1) a.good.0 (same_more before m (place_feature m.2) v.0 (m.2 + 1) same) refl in record { reads = a.reads ∙ l.reads; good = l.good }
    both (Err g) a = record { reads = a.reads; good = tt }

-- the fields behind one, whose point has the place of the next
more_fields : (d room : ℕ) (rest : FieldsRead d room) (scope : Scope) (before : List Feature) (nth n : ℕ) (σ : List Point) (x : FieldsSoFar × List Symbol) → length x.1 ≤ n → Same before x.0 → x.0.2 ≡ nth
    → IsReadFrom n x.1 (FieldOf scope d room before nth ∷ σ) (fields_at (value_with d) scope room x.0 x.1) any (λ y. σ)
more_fields d room rest scope before nth n σ x le same e =
    subst (λ (k : ℕ). IsReadFrom n x.1 (FieldOf scope d room before k ∷ σ) (fields_at (value_with d) scope room x.0 x.1) any (λ y. σ)) e (rest scope before x.0 n x.1 σ same (omega (arith, le)))

abbrev AsField : Feature → ℕ → FieldsSoFar → Value × List Symbol → Read FieldsSoFar
AsField f nth m v = Ok (with_one f v.0 nth m, v.1)

abbrev Kept : FieldsSoFar × List Symbol → Read FieldsSoFar
Kept x = Ok (x.0, x.1)

full_field : (d : ℕ) (r : ReadsValues d) (scope : Scope) (before : List Feature) (m : FieldsSoFar) (n : ℕ) (symbols : List Symbol) (σ : List Point) → Same before m → is_close_round symbols ≡ false → begins_named symbols ≡ false → length symbols ≤ n + 1
    → IsReadFrom n symbols (FieldOf scope d zero before m.2 ∷ σ) (placed_at (value_with d) scope zero m symbols >>= Kept) any (λ y. σ)
full_field d r scope before m n symbols σ same o bare le = both (value_with d scope (Some Wide) what.FieldOrBracket symbols) (full_value d scope Wide what.FieldOrBracket symbols) (placed_read d r scope zero before m n symbols σ same o bare le)
  where
    both : (q : Read Value) → Fails q → IsReadFrom n symbols (FieldOf scope d zero before m.2 ∷ σ) q any (λ x. FieldOf scope d zero (place_feature m.2 ∷ before) (m.2 + 1) ∷ σ)
        → IsReadFrom n symbols (FieldOf scope d zero before m.2 ∷ σ) ((q >>= AsField (place_feature m.2) (m.2 + 1) m) >>= Kept) any (λ y. σ)
    both (Ok v) h a = absurd cc
    both (Err g) h a = record { reads = a.reads; good = tt }

-- where there is no room, a field is a fault
no_room : (d : ℕ) (r : ReadsValues d) (scope : Scope) (before : List Feature) (m : FieldsSoFar) (n : ℕ) (symbols : List Symbol) (σ : List Point) → Same before m → is_close_round symbols ≡ false → length symbols ≤ n + 1
    → IsReadFrom n symbols (FieldOf scope d zero before m.2 ∷ σ) (field_at (value_with d) scope zero m symbols >>= Kept) any (λ y. σ)
no_room d r scope before m n (t.CloseRound ∷ rest) σ same o le = absurd cc
no_room d r scope before m n (t.Atom a ∷ t.Colon ∷ rest) σ same o le = record { reads = refl; good = tt }
no_room d r scope before m n (t.Integer None ∷ t.Colon ∷ rest) σ same o le = record { reads = refl; good = tt }
no_room d r scope before m n (t.Integer (Some i) ∷ t.Colon ∷ rest) σ same o le = record { reads = refl; good = tt }
no_room d r scope before m n [] σ same o le = full_field d r scope before m n [] σ same o refl le
no_room d r scope before m n (s ∷ rest) σ same o le = full_field d r scope before m n (s ∷ rest) σ same o refl le

field_then : (d room : ℕ) (r : ReadsValues d) (rest : FieldsRead d room) (scope : Scope) (before : List Feature) (m : FieldsSoFar) (n : ℕ) (symbols : List Symbol) (σ : List Point) → Same before m → is_close_round symbols ≡ false → length symbols ≤ n + 1
    → IsReadFrom n symbols (FieldOf scope d (suc room) before m.2 ∷ σ) (field_at (value_with d) scope (suc room) m symbols >>= λ x. fields_at (value_with d) scope room x.0 x.1) any (λ y. σ)
field_then d room r more scope before m n (t.CloseRound ∷ rest) σ same o le = absurd cc
field_then d room r more scope before m n (t.Atom a ∷ t.Colon ∷ rest) σ same o le =
    named_read d r scope (suc room) before m (feature_of (AtomFeature a)) n (t.Atom a) rest σ same (omega (arith, le)) refl _ (λ x l s e. more_fields d room more scope (feature_of (AtomFeature a) ∷ before) m.2 n σ x l s e)
field_then d room r more scope before m n (t.Integer None ∷ t.Colon ∷ rest) σ same o le = record { reads = refl; good = tt }
field_then d room r more scope before m n (t.Integer (Some i) ∷ t.Colon ∷ rest) σ same o le =
    named_read d r scope (suc room) before m (feature_of (IntFeature (Some i))) n (t.Integer (Some i)) rest σ same (omega (arith, le)) refl _ (λ x l s e. more_fields d room more scope (feature_of (IntFeature (Some i)) ∷ before) m.2 n σ x l s e)
field_then d room r more scope before m n [] σ same o le = placed_then d r scope (suc room) before m n [] σ same o refl le _ (λ x l s e. more_fields d room more scope (place_feature m.2 ∷ before) (m.2 + 1) n σ x l s e)
field_then d room r more scope before m n (s ∷ rest) σ same o le = placed_then d r scope (suc room) before m n (s ∷ rest) σ same o refl le _ (λ x l s e. more_fields d room more scope (place_feature m.2 ∷ before) (m.2 + 1) n σ x l s e)

pub fields_read : (room d : ℕ) (r : ReadsValues d) → FieldsRead d room
unfolding fields_at
fields_read zero d r scope before m n symbols σ same le =
    let chosen : (b : Bool) → is_close_round symbols ≡ b → IsReadFrom n symbols (FieldOf scope d zero before m.2 ∷ σ) (cond b (Ok (m, drop 1 symbols)) (field_at (value_with d) scope zero m symbols >>= Kept)) any (λ y. σ) = elim [
      | true ↦ λ o. closed_read n m symbols (FieldOf scope d zero before m.2 ∷ σ) σ (round_reads scope d zero before m.2 symbols σ o) le
      | false ↦ λ o. no_room d r scope before m n symbols σ same o le
    ] in chosen (is_close_round symbols) refl
fields_read (suc room) d r scope before m n symbols σ same le =
    let chosen : (b : Bool) → is_close_round symbols ≡ b → IsReadFrom n symbols (FieldOf scope d (suc room) before m.2 ∷ σ) (cond b (Ok (m, drop 1 symbols)) (field_at (value_with d) scope (suc room) m symbols >>= λ x. fields_at (value_with d) scope room x.0 x.1)) any (λ y. σ) = elim [
      | true ↦ λ o. closed_read n m symbols (FieldOf scope d (suc room) before m.2 ∷ σ) σ (round_reads scope d (suc room) before m.2 symbols σ o) le
      | false ↦ λ o. field_then d room r (fields_read room d r) scope before m n symbols σ same o le
    ] in chosen (is_close_round symbols) refl
