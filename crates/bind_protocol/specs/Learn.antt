-- What a site knows after each row of the protocol.
use Rattle.std.specs.Prelude.{◌≡◌, ◌≢◌, ◌⊎◌, ℕ, [], ◌∷◌, Option, Some, None, Contains}
use Rattle.tree_node.specs.declared.names.VarName.{VarName}
use Rattle.tree_node.specs.declared.node.Term.{Term}
use Rattle.bind_protocol.specs.Records.{Records, knowledge, IsKnown, sites_in}
use Rattle.bind_protocol.specs.Rows.{after_make, after_meet, meet_sends, register, after_register, after_ask, after_binding, after_want}

-- it is the same site; what is known of x becomes this, and of other names nothing changes
pub record HasLearned (b c : Records) (x : VarName) (o : Option (Option Term)) : Type 0 where
  pub site : c.site ≡ b.site
  pub here : knowledge c x ≡ o
  pub others : (y : VarName) → y ≢ x → knowledge c y ≡ knowledge b y

-- nothing else is known afterwards; who was registered is, and the site k of an unbound variable
pub record HasRegistered (b c : Records) (x : VarName) (k : ℕ) : Type 0 where
  pub site : c.site ≡ b.site
  pub same : (y : VarName) → knowledge c y ≡ knowledge b y
  pub listed : (y : VarName) (i : ℕ) → Contains (sites_in b y) i → Contains (sites_in c y) i
  pub joined : knowledge b x ≡ Some None → Contains (sites_in c x) k

-- a name that is met is the site's own or was known, and nothing is sent; or it is owned elsewhere and new, and a
-- Register goes to its owner
abbrev pub MeetCase : Records → VarName → Type 0
MeetCase b x =
    ((after_meet b x ≡ b) × (meet_sends b x ≡ []) × ((x.site ≡ b.site) ⊎ IsKnown b x))
    ⊎ (HasLearned b (after_meet b x) x (Some None) × (knowledge b x ≡ None) × (x.site ≢ b.site) × (meet_sends b x ≡ register x b.site ∷ []) × ((after_meet b x).owners ≡ b.owners))

-- what each row teaches. A bind that a thread wants of another's variable teaches nothing
pub record RowsTeach : Type 0 where
  pub make : (b : Records) (x : VarName) → x.site ≡ b.site → HasLearned b (after_make b x) x (Some None)
  pub meet : (b : Records) (x : VarName) → MeetCase b x
  pub register : (b : Records) (x : VarName) (k : ℕ) → x.site ≡ b.site → HasRegistered b (after_register b x k) x k
  pub ask : (b : Records) (x : VarName) (t : Term) → x.site ≡ b.site → knowledge b x ≡ Some None → HasLearned b (after_ask b x t) x (Some (Some t))
  pub late : (b : Records) (x : VarName) (t r : Term) → x.site ≡ b.site → knowledge b x ≡ Some (Some r) → HasLearned b (after_ask b x t) x (Some (Some r))
  pub binding : (b : Records) (x : VarName) (t : Term) → x.site ≢ b.site → HasLearned b (after_binding b x t) x (Some (Some t))
  pub want : (b : Records) (x : VarName) (t : Term) → x.site ≡ b.site → knowledge b x ≡ Some None → HasLearned b (after_want b x t) x (Some (Some t))
  pub request : (b : Records) (x : VarName) (t : Term) → x.site ≢ b.site → after_want b x t ≡ b

-- what is known stays known
pub record KnownStays : Type 0 where
  pub make : (b : Records) (x y : VarName) → IsKnown b y → IsKnown (after_make b x) y
  pub meet : (b : Records) (x y : VarName) → IsKnown b y → IsKnown (after_meet b x) y
  pub ask : (b : Records) (x : VarName) (t : Term) (y : VarName) → IsKnown b y → IsKnown (after_ask b x t) y
  pub binding : (b : Records) (x : VarName) (t : Term) (y : VarName) → IsKnown b y → IsKnown (after_binding b x t) y
  pub want : (b : Records) (x : VarName) (t : Term) (y : VarName) → IsKnown b y → IsKnown (after_want b x t) y
