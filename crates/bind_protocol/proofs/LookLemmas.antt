-- Look-ups by name after a change, and what a site knows after each row.
use Rattle.std.proofs.Common.{arith, ◌≡◌, ◌≢◌, ◌∙◌, ℕ, zero, suc, ◌-◌, ◌≤◌, List, [], ◌∷◌, ◌++◌, length, refl, sym, ap, Bool, true, false, cond}
use Rattle.std.specs.Prelude.{Option, Some, None, slice_set}
use Rattle.std.specs.Map.{lookup}
use Rattle.indexmap.specs.IndexMap.{insert_entry}
use Rattle.tree_node.specs.declared.names.VarName.{VarName}
use Rattle.tree_node.specs.declared.node.Term.{Term}
use Rattle.tree_node.specs.Store.{equal_var}
use Rattle.tree_node.proofs.ClassLemmas.{same_name_decides, same_name_refl}
use Rattle.proxy_table.specs.Proxies.{Proxy, entry_of}
use Rattle.variable_owner.specs.declared.owners.Owner.{Owner}
use Rattle.variable_owner.specs.Owners.{owner_of, with_owner}
use Rattle.bind_protocol.specs.Records.{Records, is_own, knowledge, owner_knows}
use Rattle.bind_protocol.specs.World.{records_at}
use Rattle.bind_protocol.proofs.ListLemmas.{set_here, set_other, get_there}
use Rattle.tree_node.proofs.NameLemmas.{differ}

-- an entry put in, or put last
pub in_here : {V : Type 0} (es : List (VarName × V)) (x : VarName) (v : V) → lookup (equal_var x) (insert_entry equal_var es x v) ≡ Some v
in_here [] x v = rw (same_name_refl x) refl
in_here {V} ((z, r) ∷ es) x v = go (equal_var x z) refl (in_here es x v)
  where
    go : (b : Bool) → equal_var x z ≡ b → lookup (equal_var x) (insert_entry equal_var es x v) ≡ Some v → lookup (equal_var x) (cond (equal_var x z) ((z, v) ∷ es) ((z, r) ∷ insert_entry equal_var es x v)) ≡ Some v
    go true q ih = rw (q, q) refl
    go false q ih = rw (q, q) ih

pub in_other : {V : Type 0} (es : List (VarName × V)) (x y : VarName) (v : V) → y ≢ x → lookup (equal_var y) (insert_entry equal_var es x v) ≡ lookup (equal_var y) es
in_other [] x y v h = rw (differ y x h) refl
in_other {V} ((z, r) ∷ es) x y v h = go (equal_var x z) refl (in_other es x y v h)
  where
    go : (b : Bool) → equal_var x z ≡ b → lookup (equal_var y) (insert_entry equal_var es x v) ≡ lookup (equal_var y) es →
        lookup (equal_var y) (cond (equal_var x z) ((z, v) ∷ es) ((z, r) ∷ insert_entry equal_var es x v)) ≡ lookup (equal_var y) ((z, r) ∷ es)
    go true q ih =
        let same : x ≡ z = (same_name_decides x z).0 q in
        let differs : equal_var y z ≡ false = differ y z (λ e. h (e ∙ sym same)) in
        rw (q, differs) refl
    go false q ih = rw q (ap (λ (o : Option V). cond (equal_var y z) (Some r) o) ih)

pub last_here : {V : Type 0} (es : List (VarName × V)) (x : VarName) (v : V) → lookup (equal_var x) es ≡ None → lookup (equal_var x) (es ++ (x, v) ∷ []) ≡ Some v
last_here [] x v e = rw (same_name_refl x) refl
last_here {V} ((z, r) ∷ es) x v e = go (equal_var x z) refl e (λ k. last_here es x v k)
  where
    go : (b : Bool) → equal_var x z ≡ b → cond b (Some r) (lookup (equal_var x) es) ≡ None → (lookup (equal_var x) es ≡ None → lookup (equal_var x) (es ++ (x, v) ∷ []) ≡ Some v) →
        cond (equal_var x z) (Some r) (lookup (equal_var x) (es ++ (x, v) ∷ [])) ≡ Some v
    go true q k ih = cc
    go false q k ih = rw q (ih k)

pub last_other : {V : Type 0} (es : List (VarName × V)) (x y : VarName) (v : V) → y ≢ x → lookup (equal_var y) (es ++ (x, v) ∷ []) ≡ lookup (equal_var y) es
last_other [] x y v h = rw (differ y x h) refl
last_other {V} ((z, r) ∷ es) x y v h = ap (λ (o : Option V). cond (equal_var y z) (Some r) o) (last_other es x y v h)

-- an owner's part changes
pub owner_here : (b : Records) (x : VarName) (o : Owner) → is_own b x ≡ true → knowledge (record b { owners = with_owner b.owners x o }) x ≡ owner_knows (Some o)
owner_here b x o own = rw own (ap owner_knows (in_here b.owners x o))

pub owner_other : (b : Records) (x y : VarName) (o : Owner) → y ≢ x → knowledge (record b { owners = with_owner b.owners x o }) y ≡ knowledge b y
owner_other b x y o h = ap (λ (p : Option Owner). cond (is_own b y) (owner_knows p) (entry_of b.proxies y)) (in_other b.owners x y o h)

-- a proxy changes
pub proxy_here : (b : Records) (x : VarName) (es : List Proxy) (v : Option Term) → is_own b x ≡ false → entry_of es x ≡ Some v → knowledge (record b { proxies = es }) x ≡ Some v
proxy_here b x es v own e = rw own e

pub proxy_other : (b : Records) (y : VarName) (es : List Proxy) → entry_of es y ≡ entry_of b.proxies y → knowledge (record b { proxies = es }) y ≡ knowledge b y
proxy_other b y es e = ap (λ (p : Option (Option Term)). cond (is_own b y) (owner_knows (owner_of b.owners y)) p) e

-- the records of a site exchanged
pub put_here : (bs : List Records) (i : ℕ) (b : Records) → 1 ≤ i → i ≤ length bs → records_at (slice_set bs (i - 1) b) i ≡ Some b
put_here bs zero b low high = absurd (omega arith)
put_here bs (suc k) b low high =
    let e : suc k - 1 ≡ k = omega arith in
    rw e (set_here bs k b (omega arith))

pub put_other : (bs : List Records) (i j : ℕ) (b : Records) → 1 ≤ i → j ≢ i → records_at (slice_set bs (i - 1) b) j ≡ records_at bs j
put_other bs zero j b low h = absurd (omega arith)
put_other bs (suc k) zero b low h = refl
put_other bs (suc k) (suc j) b low h =
    let e : suc k - 1 ≡ k = omega arith in
    rw e (set_other bs k j b (λ same. h (ap suc same)))

pub site_there : (bs : List Records) (i : ℕ) → 1 ≤ i → i ≤ length bs → (b : Records) × (records_at bs i ≡ Some b)
site_there bs zero low high = absurd (omega arith)
site_there bs (suc k) low high = get_there bs k (omega arith)
