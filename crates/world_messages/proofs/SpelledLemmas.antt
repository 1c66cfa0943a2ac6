-- In every run each message can be spelled, and the names of cells, procedures and threads are of sites: the law of what one
-- site sends, for each of them.
use Rattle.std.proofs.Common.{arith, ◌≡◌, sym, refl, subst, ℕ, ◌<◌, ◌≤◌, List, [], ◌∷◌, ◌⊎◌, inl, inr, Bool, true, false, cond, Some}
use Rattle.std.specs.Prelude.{◌==◌}
use Rattle.std.proofs.lemmas.Bool.{cases_lt}
use Rattle.tree_node.specs.declared.names.VarName.{VarName}
use Rattle.tree_node.specs.declared.names.ThreadName.{ThreadName}
use Rattle.tree_node.specs.declared.names.Name.{Name}
use Rattle.tree_node.specs.declared.names.Name.TheVariants as name
use Rattle.tree_node.specs.declared.node.Feature.{Feature}
use Rattle.tree_node.specs.declared.node.Node.TheVariants as node
use Rattle.tree_node.specs.declared.node.Term.{Term}
use Rattle.tree_node.specs.declared.node.Term.TheVariants as term
use Rattle.tree_node.specs.Each.{Each}
use Rattle.tree_node.specs.Names.{EachOfTerm, EachOfEquation, EachOfStack}
use Rattle.tree_node.specs.Order.{site_of}
use Rattle.tree_node.specs.Store.{Equation}
use Rattle.tree_node.proofs.EachLemmas.{each_append}
use Rattle.kernel_syntax.specs.declared.stmt.Stmt.{Stmt}
use Rattle.kernel_syntax.specs.Program.{IsProgram}
use Rattle.site_message.specs.declared.message.Msg.{Msg}
use Rattle.site_message.specs.declared.message.Msg.TheVariants as msg
use Rattle.site_message.specs.declared.message.Sent.{Sent}
use Rattle.site_message.specs.declared.turn.Turn.{Turn}
use Rattle.site_message.specs.Journal.{sent_of}
use Rattle.site_message.specs.Story.{own}
use Rattle.site_message.specs.Wire.{FitsTerm, FitsEquation, FitsWire}
use Rattle.oz_model.proofs.NameLemmas.{Each-weaker, EachOfEquation-weaker, EachOfItem-weaker}
use Rattle.site_model.specs.Site.{Site, ThreadState, initial_site, thread_state}
use Rattle.site_model.specs.Fit.{EachOfMsg}
use Rattle.site_model.specs.Run.{WorldRun, IsSiteIn}
use Rattle.site_wire.specs.Sending.{CanBeSpelled, IsOfSites, SiteFits}
use Rattle.site_wire.proofs.RunLemmas.{start_fits, run_fits, sites_send_what_fits}
use Rattle.world_model.specs.World.{Sites}
use Rattle.world_model.proofs.PutLemmas.{nat_decides}
use Rattle.world_messages.specs.Unfit.{OnOthers}
use Rattle.world_messages.proofs.UnfitLemmas.{outside}

-- a name that is no variable is of a site from 1 on
abbrev pub IsOfSite : Name → Type 0
IsOfSite = OnOthers (λ (x : Name). 1 ≤ site_of x)

pub record Named (s : Site) : Type 0 where
  pub equations : Each (EachOfEquation IsOfSite) s.equations
  pub stacks : (m : ThreadName) (v : ThreadState) → thread_state s m ≡ Some v → IsOfSite (name.Thread m) × EachOfStack IsOfSite v.0

abbrev pub NamedIn : List Turn → Sites → Type 0
NamedIn j f = ((i : ℕ) → Named (f i)) × Each (λ (m : Sent). EachOfMsg IsOfSite m.msg) (sent_of j)

-- ---- names of what fits

of_site : (x : Name) → IsOfSites x → IsOfSite x
of_site (name.Var x) h = tt
of_site (name.Cell x) h = h.0.0
of_site (name.Proc x) h = h.0
of_site (name.Port x) h = h.0
of_site (name.Thread x) h = h.0

named_of : (p : List Stmt) (i : ℕ) (s : Site) → SiteFits p i s → Named s
named_of p i s h = record {
  equations = Each-weaker _ _ (EachOfEquation-weaker IsOfSites IsOfSite of_site) s.equations h.equations.names;
  stacks = λ m v at. (let t = h.threads.each m v at in (t.name.0, Each-weaker _ _ (EachOfItem-weaker IsOfSites IsOfSite of_site) v.0 t.stack.names));
}

any_vars : (xs : List VarName) → Each (λ (x : VarName). IsOfSite (name.Var x)) xs
any_vars [] = tt
any_vars (x ∷ xs) = (tt, any_vars xs)

any_fields : (fs : List (Feature × VarName)) → Each (λ (f : Feature × VarName). IsOfSite (name.Var f.1)) fs
any_fields [] = tt
any_fields (f ∷ fs) = (tt, any_fields fs)

term_named : (t : Term) → FitsTerm t → EachOfTerm IsOfSite t
term_named (term.Var x) h = tt
term_named (term.Node (node.Int i)) h = tt
term_named (term.Node (node.Atom text)) h = tt
term_named (term.Node (node.Rec label fields)) h = any_fields fields
term_named (term.Node (node.Proc formals code q vars)) h = (h.0.0, any_vars vars)
term_named (term.Node (node.Cell c)) h = h.0.0
term_named (term.Node (node.Port c)) h = h.0

rows_named : (es : List Equation) → Each FitsEquation es → Each (EachOfEquation IsOfSite) es
rows_named [] h = tt
rows_named (e ∷ es) h = ((tt, term_named e.1 h.0.1), rows_named es h.1)

msg_named : (m : Msg) → FitsWire m → EachOfMsg IsOfSite m
msg_named (msg.Spawn th code vars es) h = (h.0.0, any_vars vars, rows_named es h.2.1)
msg_named (msg.Register x k) h = tt
msg_named (msg.BindReq x th t es) h = (tt, h.1.0, term_named t h.2, rows_named es h.3.1)
msg_named (msg.Binding x t es) h = (tt, term_named t h.1, rows_named es h.2.1)
msg_named (msg.Get c k) h = h.0.0.0
msg_named (msg.Forward c k) h = h.0.0.0
msg_named (msg.Put c v es) h = (h.0.0.0, tt, rows_named es h.2.1)
msg_named (msg.PortSend q th k) h = (h.0.0, h.1.0)
msg_named (msg.PortEnd th old new es) h = (h.0.0, tt, tt, rows_named es h.3.1)
msg_named (msg.CellMake c v es) h = (h.0.0, tt, rows_named es h.3.1)
msg_named (msg.CellAsk c th k v es) h = (h.0.0, h.2.0, tt, rows_named es h.5.1)
msg_named (msg.CellOld th v es) h = (h.0.0, tt, rows_named es h.2.1)

messages_named : (ms : List Sent) → CanBeSpelled ms → Each (λ (m : Sent). EachOfMsg IsOfSite m.msg) ms
messages_named [] h = tt
messages_named (m ∷ ms) h = (msg_named m.msg h.0, messages_named ms h.1)

-- ---- runs

abbrev Spell : List Turn → Type 0
Spell es = Each (λ (e : Turn). CanBeSpelled e.sent) es

-- where each site sends what can be spelled, all that is sent can be
all_spelled : (n : ℕ) (j : List Turn) → Each (IsSiteIn n) j → ((i : ℕ) → 1 ≤ i → i ≤ n → Spell (own i j)) → CanBeSpelled (sent_of j)
all_spelled n [] sites h = tt
all_spelled n (e ∷ j) sites h = each_append (λ (m : Sent). FitsWire m.msg) (sent_of j) e.sent (all_spelled n j sites.1 before) here
  where
    here : CanBeSpelled e.sent
    here = (subst (λ (b : Bool). Spell (cond b (e ∷ own e.site j) (own e.site j))) ((nat_decides e.site e.site).1 refl) (h e.site sites.0.0 sites.0.1)).0

    before : (i : ℕ) → 1 ≤ i → i ≤ n → Spell (own i j)
    before i low high = go (e.site == i) (h i low high)
      where
        go : (b : Bool) → Spell (cond b (e ∷ own i j) (own i j)) → Spell (own i j)
        go true k = k.1
        go false k = k

module _ (p : List Stmt) (is : IsProgram p) (n limit : ℕ) (many : n ≤ 64) (short : limit ≤ 256) (j : List Turn) (f : Sites) (run : WorldRun p n limit j f) where
  pub spelled : CanBeSpelled (sent_of j)
  spelled = all_spelled n j run.sites (λ i low high. sites_send_what_fits p n limit i j (f i) is many short low high (run.runs i))

  -- a site of the world keeps what fits, and others are as at the start
  site_named : (i : ℕ) → Named (f i)
  site_named i = go (cases_lt 0 i) (cases_lt n i)
    where
      apart : (1 ≤ i × i ≤ n → ⊥) → Named (f i)
      apart h = subst Named (sym (outside p n limit j f run i h)) (named_of p i (initial_site p n i) (start_fits p is n i many))

      go : (0 < i) ⊎ (i ≤ 0) → (n < i) ⊎ (i ≤ n) → Named (f i)
      go (inl low) (inl beyond) = apart (λ h. omega (arith, beyond, h.1))
      go (inr zero) k = apart (λ h. omega (arith, zero, h.0))
      go (inl low) (inr high) =
          let least : 1 ≤ i = omega (arith, low) in
          named_of p i (f i) (run_fits p is n limit short i (least, omega (arith, high, many)) many j (f i) (run.runs i)).0

  pub named_in : NamedIn j f
  named_in = (site_named, messages_named (sent_of j) spelled)
