-- The longest token without quotes at the front of a text.
use Rattle.std.proofs.Common.{◌≡◌, ℕ, zero, suc, ◌+◌, ◌-◌, ◌<◌, List, [], ◌∷◌, ◌++◌, length, take, drop, Bool, true, false, cond, eqb, None, refl, sym, subst, ◌∙◌, arith}
use Rattle.std.specs.Prelude.{◌||◌}
use Rattle.std.specs.Char.{is_ascii_lowercase, is_ascii_uppercase, is_ascii_digit}
use Rattle.std.specs.List.{prefix_len, list_all}
use Rattle.std.proofs.lemmas.List.Sums.{prefix_len-le-length}
use Rattle.std.proofs.lemmas.List.{length-take, take-append-drop}
use Rattle.std.proofs.lemmas.List.Folds.{list_all-append}
use Rattle.tree_node.specs.Spelling.{is_word_byte}
use Rattle.oz_lexer.specs.Spelling.{are_digits, token_kind_of}
use Rattle.oz_lexer.specs.Faults.{IsLongestToken}
use Rattle.oz_lexer.specs.Scan.{is_one_byte_sign, is_two_byte_sign, sign_length, minus_length, token_length, token_kind}
use Rattle.oz_lexer.proofs.Signs.{behind_sign}
use Rattle.oz_lexer.proofs.TokenBytes.{behind_first, spelled}
use Rattle.std.proofs.Math.Bool.{and-false}

-- ---- how far a token reaches

all_run : (p : ℕ → Bool) (xs : List ℕ) → list_all p (take (prefix_len p xs) xs) ≡ true
all_run p [] = refl
all_run p (x ∷ xs) =
    let chosen : (b : Bool) → p x ≡ b → list_all p (take (cond b (1 + prefix_len p xs) 0) (x ∷ xs)) ≡ true = elim [
      | true ↦ λ e. let n : 1 + prefix_len p xs ≡ suc (prefix_len p xs) = omega arith in rw (n, e) (all_run p xs)
      | false ↦ λ e. refl
    ] in chosen (p x) refl

-- what stands behind a run does not go on with it
run_ends : (p : ℕ → Bool) (xs more behind : List ℕ) → drop (prefix_len p xs) xs ≡ more ++ behind → 0 < length more → list_all p more ≡ false
run_ends p xs [] behind e some = absurd (omega arith)
run_ends p [] (m ∷ ms) behind e some = absurd cc
run_ends p (x ∷ xs) (m ∷ ms) behind e some =
    let chosen : (b : Bool) → p x ≡ b → drop (cond b (1 + prefix_len p xs) 0) (x ∷ xs) ≡ (m ∷ ms) ++ behind → 0 < length (m ∷ ms) → list_all p (m ∷ ms) ≡ false = elim [
      | true ↦ λ t e some. let n : 1 + prefix_len p xs ≡ suc (prefix_len p xs) = omega arith in run_ends p xs (m ∷ ms) behind (rw n at e) some
      | false ↦ λ f e some. let first : x ≡ m = cc in let no : p m ≡ false = subst (λ (n : ℕ). p n ≡ false) first f in rw no refl
    ] in chosen (p x) refl e some

run_stops : (p : ℕ → Bool) (xs more behind : List ℕ) → drop (prefix_len p xs) xs ≡ more ++ behind → 0 < length more → list_all p (take (prefix_len p xs) xs ++ more) ≡ false
run_stops p xs more behind e some = list_all-append p (take (prefix_len p xs) xs) more ∙ rw (run_ends p xs more behind e some) (and-false (list_all p (take (prefix_len p xs) xs)))

are_digits_all : (xs : List ℕ) → 0 < length xs → are_digits xs ≡ list_all is_ascii_digit xs
are_digits_all [] some = absurd (omega arith)
are_digits_all (x ∷ xs) some = refl

are_digits_none : (xs : List ℕ) → list_all is_ascii_digit xs ≡ false → are_digits xs ≡ false
are_digits_none [] e = refl
are_digits_none (x ∷ xs) e = e

-- what may stand behind a first byte: of these bytes n - 1, and no more; nothing where n is 0
pub record Reach (test : List ℕ → Bool) (cs : List ℕ) (n : ℕ) : Type 0 where
  pub taken : 0 < n → test (take (n - 1) cs) ≡ true
  pub stops : (more behind : List ℕ) → 0 < n → drop (n - 1) cs ≡ more ++ behind → 0 < length more → test (take (n - 1) cs ++ more) ≡ false
  pub none : (bytes rest : List ℕ) → n ≡ 0 → cs ≡ bytes ++ rest → test bytes ≡ false

run_reach : (p : ℕ → Bool) (cs : List ℕ) → Reach (list_all p) cs (prefix_len p cs + 1)
run_reach p cs =
    let n : prefix_len p cs + 1 - 1 ≡ prefix_len p cs = omega arith in
    record {
      taken = λ some. rw n (all_run p cs);
      stops = λ more behind some e long. rw n (run_stops p cs more behind (rw n at e) long);
      none = λ bytes rest e is. absurd (omega arith);
    }

no_digits : (cs bytes rest : List ℕ) → prefix_len is_ascii_digit cs ≡ 0 → cs ≡ bytes ++ rest → are_digits bytes ≡ false
no_digits cs [] rest e is = refl
no_digits [] (b ∷ bs) rest e is = absurd cc
no_digits (c ∷ cs) (b ∷ bs) rest e is =
    let first : c ≡ b = cc in
    let chosen : (t : Bool) → is_ascii_digit c ≡ t → cond t (1 + prefix_len is_ascii_digit cs) 0 ≡ 0 → are_digits (b ∷ bs) ≡ false = elim [
      | true ↦ λ t n. absurd (omega arith)
      | false ↦ λ f n. let no : is_ascii_digit b ≡ false = subst (λ (d : ℕ). is_ascii_digit d ≡ false) first f in rw no refl
    ] in chosen (is_ascii_digit c) refl e

digits_reach : (cs : List ℕ) → Reach are_digits cs (minus_length (prefix_len is_ascii_digit cs))
digits_reach cs =
    let k : ℕ = prefix_len is_ascii_digit cs in
    let bound = prefix_len-le-length is_ascii_digit cs in
    let chosen : (b : Bool) → eqb (prefix_len is_ascii_digit cs) 0 ≡ b → Reach are_digits cs (cond b 0 (prefix_len is_ascii_digit cs + 1)) = elim [
      | true ↦ λ e. let zero_ : prefix_len is_ascii_digit cs ≡ 0 = grind arith in record {
        taken = λ some. absurd (omega arith);
        stops = λ more behind some. absurd (omega arith);
        none = λ bytes rest z is. no_digits cs bytes rest zero_ is;
      }
      | false ↦ λ e.
          let some_ : 0 < prefix_len is_ascii_digit cs = grind arith in
          let n : prefix_len is_ascii_digit cs + 1 - 1 ≡ prefix_len is_ascii_digit cs = omega arith in
          record {
            taken = λ some. rw n (are_digits_all (take (prefix_len is_ascii_digit cs) cs) (omega (arith, length-take (prefix_len is_ascii_digit cs) cs)) ∙ all_run is_ascii_digit cs);
            stops = λ more behind some d long. rw n (are_digits_none (take (prefix_len is_ascii_digit cs) cs ++ more) (run_stops is_ascii_digit cs more behind (rw n at d) long));
            none = λ bytes rest z is. absurd (omega arith);
          }
    ] in chosen (eqb (prefix_len is_ascii_digit cs) 0) refl

no_more : (more behind : List ℕ) → [] ≡ more ++ behind → 0 < length more → ⊥
no_more [] behind e some = omega arith
no_more (m ∷ ms) behind e some = cc

-- three bytes and more are no sign
three : (b c : ℕ) (more : List ℕ) → 0 < length more → behind_sign b (c ∷ more) ≡ false
three b c [] some = absurd (omega arith)
three b c (m ∷ ms) some = refl

-- the next byte makes no longer sign
other_two : (b c : ℕ) (cs more behind : List ℕ) → is_two_byte_sign b c ≡ false → c ∷ cs ≡ more ++ behind → 0 < length more → behind_sign b more ≡ false
other_two b c cs [] behind e is some = absurd (omega arith)
other_two b c cs (m ∷ []) behind e is some = let first : c ≡ m = cc in subst (λ (x : ℕ). is_two_byte_sign b x ≡ false) first e
other_two b c cs (m ∷ n ∷ ms) behind e is some = refl

no_sign_at : (b c : ℕ) (cs bytes rest : List ℕ) → is_two_byte_sign b c ≡ false → is_one_byte_sign b ≡ false → c ∷ cs ≡ bytes ++ rest → behind_sign b bytes ≡ false
no_sign_at b c cs [] rest two one is = one
no_sign_at b c cs (m ∷ ms) rest two one is = other_two b c cs (m ∷ ms) rest two is (omega arith)

no_sign_end : (b : ℕ) (bytes rest : List ℕ) → is_one_byte_sign b ≡ false → [] ≡ bytes ++ rest → behind_sign b bytes ≡ false
no_sign_end b [] rest one is = one
no_sign_end b (m ∷ ms) rest one is = absurd cc

sign_reach : (b : ℕ) (cs : List ℕ) → Reach (behind_sign b) cs (sign_length b cs)
sign_reach b [] =
    let chosen : (t : Bool) → is_one_byte_sign b ≡ t → Reach (behind_sign b) [] (cond t 1 0) = elim [
      | true ↦ λ e. record { taken = λ some. e; stops = λ more behind some d long. absurd (no_more more behind d long); none = λ bytes rest z is. absurd (omega arith) }
      | false ↦ λ e. record { taken = λ some. absurd (omega arith); stops = λ more behind some. absurd (omega arith); none = λ bytes rest z is. no_sign_end b bytes rest e is }
    ] in chosen (is_one_byte_sign b) refl
sign_reach b (c ∷ cs) =
    let chosen : (u t : Bool) → is_two_byte_sign b c ≡ u → is_one_byte_sign b ≡ t → Reach (behind_sign b) (c ∷ cs) (cond u 2 (cond t 1 0)) = elim [
      | true ↦ λ t two one. record { taken = λ some. two; stops = λ more behind some d long. three b c more long; none = λ bytes rest z is. absurd (omega arith) }
      | false ↦ elim [
        | true ↦ λ two one. record { taken = λ some. one; stops = λ more behind some d long. other_two b c cs more behind two d long; none = λ bytes rest z is. absurd (omega arith) }
        | false ↦ λ two one. record { taken = λ some. absurd (omega arith); stops = λ more behind some. absurd (omega arith); none = λ bytes rest z is. no_sign_at b c cs bytes rest two one is }
      ]
    ] in chosen (is_two_byte_sign b c) (is_one_byte_sign b) refl refl

reach : (b : ℕ) (cs : List ℕ) → Reach (behind_first b) cs (token_length b cs)
reach b cs = choose (is_ascii_uppercase b || is_ascii_lowercase b) (is_ascii_digit b) (eqb b 126)
  where
    choose : (u d m : Bool) → Reach (λ xs. cond u (list_all is_word_byte xs) (cond d (list_all is_ascii_digit xs) (cond m (are_digits xs) (behind_sign b xs)))) cs
        (cond u (prefix_len is_word_byte cs + 1) (cond d (prefix_len is_ascii_digit cs + 1) (cond m (minus_length (prefix_len is_ascii_digit cs)) (sign_length b cs))))
    choose true d m = run_reach is_word_byte cs
    choose false true m = run_reach is_ascii_digit cs
    choose false false true = digits_reach cs
    choose false false false = sign_reach b cs

-- ---- of a text

front_is : (b : ℕ) (cs : List ℕ) (n : ℕ) → 0 < n → take n (b ∷ cs) ≡ b ∷ take (n - 1) cs
front_is b cs zero h = absurd (omega arith)
front_is b cs (suc n) h = let e : suc n - 1 ≡ n = omega arith in rw e refl

behind_is : (b : ℕ) (cs : List ℕ) (n : ℕ) → 0 < n → drop n (b ∷ cs) ≡ drop (n - 1) cs
behind_is b cs zero h = absurd (omega arith)
behind_is b cs (suc n) h = let e : suc n - 1 ≡ n = omega arith in rw e refl

-- so many bytes are the longest token
pub is_longest : (b : ℕ) (cs : List ℕ) → eqb b 39 ≡ false → 0 < token_length b cs → IsLongestToken (b ∷ cs) (token_kind b (take (token_length b cs) (b ∷ cs))) (take (token_length b cs) (b ∷ cs)) (drop (token_length b cs) (b ∷ cs))
is_longest b cs quote some =
    let r = reach b cs in
    record {
      is = sym (take-append-drop (token_length b cs) (b ∷ cs));
      spells = rw (front_is b cs (token_length b cs) some) (spelled b (take (token_length b cs - 1) cs) quote ∙ rw (r.taken some) refl);
      longest = λ more behind e long.
          let back : drop (token_length b cs - 1) cs ≡ more ++ behind = sym (behind_is b cs (token_length b cs) some) ∙ e in
          rw (front_is b cs (token_length b cs) some) (spelled b (take (token_length b cs - 1) cs ++ more) quote ∙ rw (r.stops more behind some back long) refl);
    }

-- where they are none, no token begins
pub no_token : (b : ℕ) (cs bytes rest : List ℕ) → eqb b 39 ≡ false → token_length b cs ≡ 0 → b ∷ cs ≡ bytes ++ rest → token_kind_of bytes ≡ None
unfolding token_kind_of
no_token b cs [] rest quote zero_ is = refl
no_token b cs (c ∷ bytes) rest quote zero_ is =
    let first : b ≡ c = cc in
    let others : cs ≡ bytes ++ rest = cc in
    let r = reach b cs in
    subst (λ (x : ℕ). token_kind_of (x ∷ bytes) ≡ None) first (spelled b bytes quote ∙ rw (r.none bytes rest zero_ others) refl)
