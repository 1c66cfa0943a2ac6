-- What a site knows of an own variable and of a name owned elsewhere, by what is kept of them.
use Rattle.std.proofs.Common.{arith, ◌≡◌, ◌∙◌, sym, ap, refl, eq-eqb, ℕ, List, [], ◌∷◌, ◌++◌, length, map, Some, None, Bool, true, false}
use Rattle.std.proofs.lemmas.List.{append-nil}
use Rattle.std.specs.Prelude.{◌↔◌, Option, Result, Ok, Err, OnOk, IsTrue, is_some}
use Rattle.tree_node.specs.declared.names.VarName.{VarName}
use Rattle.tree_node.specs.declared.node.Term.{Term}
use Rattle.site_message.specs.declared.message.Sent.{Sent}
use Rattle.proxy_table.specs.Proxies.{Proxy, entry_of, after_bound}
use Rattle.variable_owner.specs.declared.owners.Owner.{Owner}
use Rattle.variable_owner.specs.declared.owners.Owner.TheVariants.{Open, Bound}
use Rattle.variable_owner.specs.Owners.{owner_of, binding_of}
use Rattle.bind_protocol.specs.Records.{Records, is_own, knowledge, owner_knows}
use Rattle.bind_protocol.proofs.LookLemmas.{in_here, proxy_here}

-- a name owned elsewhere that was met together with its term is known to be bound to it
pub met_with_term : {A E : Type 0} (r : Result A E) (b : Records) (x : VarName) (t : Term) (es : List Proxy) → is_own b x ≡ false → OnOk r (es ≡ after_bound b.proxies x t) → OnOk r (knowledge (record b { proxies = es }) x ≡ Some (Some t))
met_with_term (Ok a) b x t es own e = proxy_here b x es (Some t) own (ap (λ (l : List Proxy). entry_of l x) e ∙ in_here b.proxies x (Some t))
met_with_term (Err a) b x t es own e = tt

-- ---- a variable of the site's own

pub own_here : (b : Records) (x : VarName) → x.site ≡ b.site → knowledge b x ≡ owner_knows (owner_of b.owners x)
own_here b x own = rw (eq-eqb x.site b.site own) refl

pub own_nothing : (b : Records) (x : VarName) (made : Bool) → x.site ≡ b.site → (IsTrue made ↔ IsTrue (is_some (owner_of b.owners x))) → made ≡ false → knowledge b x ≡ None
own_nothing b x made own same absent = own_here b x own ∙ go (owner_of b.owners x) same
  where
    go : (o : Option Owner) → (IsTrue made ↔ IsTrue (is_some o)) → owner_knows o ≡ None
    go None h = refl
    go (Some o) h = let present : made ≡ true = h.1 refl in cc

pub own_unbound : (b : Records) (x : VarName) (made : Bool) → x.site ≡ b.site → (IsTrue made ↔ IsTrue (is_some (owner_of b.owners x))) → made ≡ true → None ≡ binding_of (owner_of b.owners x) → knowledge b x ≡ Some None
own_unbound b x made own same present none = own_here b x own ∙ go (owner_of b.owners x) same none
  where
    go : (o : Option Owner) → (IsTrue made ↔ IsTrue (is_some o)) → None ≡ binding_of o → owner_knows o ≡ Some None
    go None h e = let there : false ≡ true = h.0 present in cc
    go (Some (Open ks)) h e = refl
    go (Some (Bound t)) h e = cc

pub own_bound : (b : Records) (x : VarName) (t : Term) → x.site ≡ b.site → Some t ≡ binding_of (owner_of b.owners x) → knowledge b x ≡ Some (Some t)
own_bound b x t own e = own_here b x own ∙ go (owner_of b.owners x) e
  where
    go : (o : Option Owner) → Some t ≡ binding_of o → owner_knows o ≡ Some (Some t)
    go None h = cc
    go (Some (Open ks)) h = cc
    go (Some (Bound r)) h = let same : r ≡ t = cc in ap (λ (z : Term). Some (Some z)) same

-- ---- a name that is owned elsewhere

pub other_known : (b : Records) (x : VarName) (k : Option (Option Term)) → is_own b x ≡ false → k ≡ entry_of b.proxies x → knowledge b x ≡ k
other_known b x k other e = rw other (sym e)

-- ---- nobody is told

pub none_told : (out : List Sent) (f : ℕ → Sent) (ks : List ℕ) → length ks ≡ 0 → out ≡ out ++ map f ks
none_told out f [] e = sym (append-nil out)
none_told out f (k ∷ ks) e = absurd (omega (arith, e))
