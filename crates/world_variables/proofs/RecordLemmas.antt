-- What a site knows after its records changed.
use Rattle.std.proofs.Common.{arith, ◌≡◌, ap, refl, ℕ, [], ◌⊎◌, inl, inr, Some, None}
use Rattle.std.specs.Prelude.{Option, Contains}
use Rattle.tree_node.specs.declared.names.VarName.{VarName}
use Rattle.tree_node.specs.declared.node.Term.{Term}
use Rattle.variable_owner.specs.declared.owners.Owner.{Owner}
use Rattle.variable_owner.specs.declared.owners.Owner.TheVariants.{Open, Bound}
use Rattle.variable_owner.specs.Owners.{owner_of, sites_of}
use Rattle.bind_protocol.specs.Records.{Records, knowledge, owner_knows, IsKnown, sites_in}
use Rattle.bind_protocol.specs.Rows.{after_meet}
use Rattle.bind_protocol.proofs.LearnLemmas.{own_is, meet_case}
use Rattle.bind_protocol.specs.Learn.{MeetCase}

pub bound_knows : (b : Records) (x : VarName) (t : Term) → x.site ≡ b.site → owner_of b.owners x ≡ Some (Bound t) → knowledge b x ≡ Some (Some t)
bound_knows b x t own e = rw (own_is b x own) (ap owner_knows e)

-- who is registered is registered for an own unbound variable
pub registered_open : (b : Records) (x : VarName) (k : ℕ) → x.site ≡ b.site → Contains (sites_in b x) k → knowledge b x ≡ Some None
registered_open b x k own h = rw (own_is b x own) (go (owner_of b.owners x) refl h)
  where
    go : (p : Option Owner) → owner_of b.owners x ≡ p → Contains (sites_of p) k → owner_knows p ≡ Some None
    go None e q = absurd (none q)
      where
        none : Contains [] k → ⊥
        none (i, below, is) = absurd (omega arith)
    go (Some (Open ks)) e q = refl
    go (Some (Bound t)) e q = absurd (none q)
      where
        none : Contains [] k → ⊥
        none (i, below, is) = absurd (omega arith)

-- a name that is met is known afterwards, or its own site's
pub met_known : (b : Records) (x : VarName) → IsKnown (after_meet b x) x ⊎ (x.site ≡ b.site)
met_known b x = go (meet_case b x)
  where
    go : MeetCase b x → IsKnown (after_meet b x) x ⊎ (x.site ≡ b.site)
    go (inl (same, none, inl own)) = inr own
    go (inl (same, none, inr known)) = inl (rw same known)
    go (inr (l, none, elsewhere, sends, owners)) = inl (rw l.here refl)
