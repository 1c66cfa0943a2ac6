-- Keys that are put again, and keys each once.
use Rattle.std.proofs.Common.{arith, ◌≡◌, ◌≢◌, ◌∙◌, sym, ap, refl, subst, ℕ, suc, ◌+◌, ◌<◌, Bool, true, false, cond, nat_eq, List, [], ◌∷◌, ◌++◌, length, take, get_or, ◌⊎◌, inl, inr, None, Some}
use Rattle.std.specs.Prelude.{Contains, IsSome}
use Rattle.std.specs.Global.{Vec}
use Rattle.std.specs.List.{list_any}
use Rattle.std.specs.Map.{lookup}
use Rattle.std.proofs.Math.Seq.{take-suc}
use Rattle.std.proofs.lemmas.List.Elements.{Contains-append_left, Contains-push, Contains-push_cases}
use Rattle.std.proofs.lemmas.Bool.Decides.{eqb_tells}
use Rattle.indexmap.specs.IndexSet.{insert_key}
use Rattle.indexmap.proofs.CallerLemmas.{Contains-insert_key}
use Rattle.slab.specs.Slab.{get, with_value}
use Rattle.slab.proofs.SlabLemmas.{Updates-with_value}
use Rattle.tree_node.specs.declared.names.VarName.{VarName}
use Rattle.tree_node.specs.Store.{equal_var}
use Rattle.tree_node.proofs.ClassLemmas.{same_name_decides}
use Rattle.waiting_keys.specs.Keys.{IsQueuedAgain, keys_among, with_key}
use Rattle.waiting_keys.specs.Waiting.{queue_of, queues_of, IsFiled}
use Rattle.waiting_keys.proofs.WaitLemmas.{Numbers, Queues, keys_by, keys_found, others_kept, queues_same}

-- the one has what the other has
abbrev pub HaveSame : List ℕ → List ℕ → Type 0
HaveSame xs ys = (j : ℕ) → (Contains xs j → Contains ys j) × (Contains ys j → Contains xs j)

module _ (eq : ℕ → ℕ → Bool) (same : (x y : ℕ) → eq x y ≡ true → x ≡ y) where
  insert_kept : (ks : List ℕ) (k j : ℕ) → Contains ks j → Contains (insert_key eq ks k) j
  insert_kept ks k j h = go (list_any (eq k) ks)
    where
      go : (b : Bool) → Contains (cond b ks (ks ++ k ∷ [])) j
      go true = h
      go false = Contains-append_left ks (k ∷ []) j h

  insert_only : (ks : List ℕ) (k j : ℕ) → Contains (insert_key eq ks k) j → Contains ks j ⊎ (k ≡ j)
  insert_only ks k j h = go (list_any (eq k) ks) h
    where
      go : (b : Bool) → Contains (cond b ks (ks ++ k ∷ [])) j → Contains ks j ⊎ (k ≡ j)
      go true g = inl g
      go false g = Contains-push_cases ks k j g

  pub once_next : (ks xs : List ℕ) (i d : ℕ) → HaveSame ks (take i xs) → i < length xs → HaveSame (insert_key eq ks (get_or xs i d)) (take (i + 1) xs)
  once_next ks xs i d h within = subst (λ (l : List ℕ). HaveSame (insert_key eq ks (get_or xs i d)) l) (sym whole) (λ j. (there j, back j))
    where
      whole : take (i + 1) xs ≡ take i xs ++ get_or xs i d ∷ []
      whole = let one : i + 1 ≡ suc i = omega arith in subst (λ (n : ℕ). take n xs ≡ take i xs ++ get_or xs i d ∷ []) (sym one) (take-suc xs i d within)

      there : (j : ℕ) → Contains (insert_key eq ks (get_or xs i d)) j → Contains (take i xs ++ get_or xs i d ∷ []) j
      there j g = go (insert_only ks (get_or xs i d) j g)
        where
          go : Contains ks j ⊎ (get_or xs i d ≡ j) → Contains (take i xs ++ get_or xs i d ∷ []) j
          go (inl old) = Contains-append_left (take i xs) (get_or xs i d ∷ []) j ((h j).0 old)
          go (inr e) = subst (λ (n : ℕ). Contains (take i xs ++ get_or xs i d ∷ []) n) e (Contains-push (take i xs) (get_or xs i d))

      back : (j : ℕ) → Contains (take i xs ++ get_or xs i d ∷ []) j → Contains (insert_key eq ks (get_or xs i d)) j
      back j g = go (Contains-push_cases (take i xs) (get_or xs i d) j g)
        where
          go : Contains (take i xs) j ⊎ (get_or xs i d ≡ j) → Contains (insert_key eq ks (get_or xs i d)) j
          go (inl old) = insert_kept ks (get_or xs i d) j ((h j).1 old)
          go (inr e) = subst (λ (n : ℕ). Contains (insert_key eq ks (get_or xs i d)) n) e (Contains-insert_key eq same ks (get_or xs i d))

pub same_itself : (xs : List ℕ) → HaveSame xs xs
same_itself xs j = ((λ k. k), (λ k. k))

pub again_same : (xs : List ℕ) (key : ℕ) → IsQueuedAgain xs key xs
again_same xs key = record { kept = λ j h. h; only = λ j h. inl h }

-- a key behind a queue that has the same as the one before
pub again_pushed : (xs ys : List ℕ) (key : ℕ) → HaveSame ys xs → IsQueuedAgain xs key (ys ++ key ∷ [])
again_pushed xs ys key same = record { kept = λ j h. Contains-append_left ys (key ∷ []) j ((same j).1 h); only = λ j h. go j (Contains-push_cases ys key j h) }
  where
    go : (j : ℕ) → Contains ys j ⊎ (key ≡ j) → Contains xs j ⊎ (j ≡ key)
    go j (inl h) = inl ((same j).0 h)
    go j (inr e) = inr (sym e)

pub again_shorter : (xs ys : List ℕ) (key : ℕ) → HaveSame ys xs → IsQueuedAgain xs key ys
again_shorter xs ys key same = record { kept = λ j h. (same j).1 h; only = λ j h. inl ((same j).0 h) }

-- the keys of a variable stand in the queue of its number, and those of the others stay
pub queued_again : (es : Numbers) (q w : Queues) (x : VarName) (n key : ℕ) → IsFiled es q → lookup (equal_var x) es ≡ Some n → IsQueuedAgain (queue_of (get q n)) key (queue_of (get w n)) →
    ((m : ℕ) → m ≢ n → get w m ≡ get q m) → (y : VarName) → IsQueuedAgain (keys_among (queues_of q es) y) key (keys_among (queues_of w es) y)
queued_again es q w x n key filed p again others y = go (equal_var x y) refl
  where
    go : (b : Bool) → equal_var x y ≡ b → IsQueuedAgain (keys_among (queues_of q es) y) key (keys_among (queues_of w es) y)
    go true e =
        let at : lookup (equal_var y) es ≡ Some n = subst (λ (z : VarName). lookup (equal_var z) es ≡ Some n) ((same_name_decides x y).0 e) p in
        subst (λ (l : List ℕ). IsQueuedAgain l key (keys_among (queues_of w es) y)) (sym (keys_found q es y ∙ ap (keys_by q) at))
        (subst (λ (l : List ℕ). IsQueuedAgain (queue_of (get q n)) key l) (sym (keys_found w es y ∙ ap (keys_by w) at)) again)
    go false e =
        subst (λ (l : List ℕ). IsQueuedAgain (keys_among (queues_of q es) y) key l) (sym (keys_found w es y ∙ others_kept es q w x y n filed p others e ∙ sym (keys_found q es y)))
        (again_same (keys_among (queues_of q es) y) key)

pub there_again : (es : Numbers) (w : Queues) (x : VarName) (n key : ℕ) → lookup (equal_var x) es ≡ Some n → Contains (queue_of (get w n)) key → Contains (keys_among (queues_of w es) x) key
there_again es w x n key p h = subst (λ (l : List ℕ). Contains l key) (sym (keys_found w es x ∙ ap (keys_by w) p)) h

-- where the key is the last of its variable, nothing changes if its queue stays
pub nothing_put : (es : Numbers) (q w : Queues) (x : VarName) (n key : ℕ) → lookup (equal_var x) es ≡ Some n → ((ks : List ℕ) → queue_of (get q n) ≡ ks ++ key ∷ [] → queue_of (get w n) ≡ queue_of (get q n)) →
    ((m : ℕ) → m ≢ n → get w m ≡ get q m) → (ks : List ℕ) → keys_among (queues_of q es) x ≡ ks ++ key ∷ [] → queues_of w es ≡ queues_of q es
nothing_put es q w x n key p last others ks e = queues_same es q w (λ m. go m (eqb_tells m n))
  where
    stays : queue_of (get w n) ≡ queue_of (get q n)
    stays = last ks (sym (keys_found q es x ∙ ap (keys_by q) p) ∙ e)

    go : (m : ℕ) → ((nat_eq m n ≡ true) × (m ≡ n)) ⊎ ((nat_eq m n ≡ false) × (m ≢ n)) → queue_of (get w m) ≡ queue_of (get q m)
    go m (inl here) = subst (λ (k : ℕ). queue_of (get w k) ≡ queue_of (get q k)) (sym here.1) stays
    go m (inr there) = ap queue_of (others m there.1)

-- a variable without a queue has no last key
pub no_last : (es : Numbers) (q : Queues) (x : VarName) (ks : List ℕ) (key : ℕ) → lookup (equal_var x) es ≡ None → keys_among (queues_of q es) x ≢ ks ++ key ∷ []
no_last es q x ks key none e = go ks (sym (keys_found q es x ∙ ap (keys_by q) none) ∙ e)
  where
    go : (l : List ℕ) → [] ≢ l ++ key ∷ []
    go [] h = cc
    go (k ∷ l) h = cc

-- a key that was put is there, and the others stay
pub added_there : (old new : VarName → List ℕ) (x : VarName) (key : ℕ) → ((y : VarName) → new y ≡ with_key old x key y) → Contains (new x) key
added_there old new x key h = subst (λ (l : List ℕ). Contains l key) (sym (h x ∙ ap (λ (b : Bool). cond b (old x ++ key ∷ []) (old x)) ((same_name_decides x x).1 refl))) (Contains-push (old x) key)

-- a queue that is changed where it stands
pub queue_changed : (q : Queues) (n key : ℕ) (old new : Vec ℕ) → IsSome (get q n) → get q n ≡ Some old → IsQueuedAgain old.items key new.items → IsQueuedAgain (queue_of (get q n)) key (queue_of (get (with_value q n new) n))
queue_changed q n key old new some e h =
    subst (λ (l : List ℕ). IsQueuedAgain l key (queue_of (get (with_value q n new) n))) (sym (ap queue_of e))
    (subst (λ (l : List ℕ). IsQueuedAgain old.items key l) (sym (ap queue_of (Updates-with_value q n new some).changed)) h)
