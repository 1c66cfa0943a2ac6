-- The parts of a world, as one of its sites does something.
use Rattle.std.proofs.Common.{◌≡◌, sym, subst, ℕ, List, [], ◌++◌, Some, None, append-nil}
use Rattle.std.specs.Prelude.{◌≢◌}
use Rattle.tree_node.specs.declared.names.VarName.{VarName}
use Rattle.tree_node.specs.declared.names.Name.{Name}
use Rattle.tree_node.specs.declared.names.Name.TheVariants as name
use Rattle.tree_node.specs.declared.names.NameKind.{NameKind}
use Rattle.tree_node.specs.declared.node.Term.{Term}
use Rattle.tree_node.specs.declared.pick.Pick.{Pick}
use Rattle.tree_node.specs.Names.{EachOfEquation}
use Rattle.tree_node.specs.Order.{IsLower}
use Rattle.tree_node.specs.State.{State}
use Rattle.tree_node.specs.Store.{Store}
use Rattle.kernel_syntax.specs.declared.stmt.Stmt.{Stmt}
use Rattle.bind_protocol.specs.Records.{Records, knowledge}
use Rattle.bind_protocol.specs.Rows.{after_meet, meet_sends, after_ask}
use Rattle.site_model.specs.Site.{Site, Threads, Counters}
use Rattle.site_model.specs.Transition.{Transition, with_messages, with_pick, and_then}
use Rattle.site_model.specs.Variables.{with_site_equation, own_bind}
use Rattle.site_model.specs.Unit.{with_fresh_names}
use Rattle.site_model.specs.Unit as Unit
use Rattle.site_model.specs.Variables as Learn
use Rattle.oz_model.specs.Effect as Effect
use Rattle.world_model.specs.World.{World, Sites, Mail, put, at_put, after_transition, mail_from, eqs, records, threads, counters}
use Rattle.world_model.specs.Names.{IsMade}
use Rattle.world_model.specs.Matches.{PartsMatch}
use Rattle.world_model.proofs.PutLemmas.{at_here, at_own, field_put}
use Rattle.world_model.proofs.MailLemmas.{acts_after}
use Rattle.world_variables.proofs.MeetLemmas.{meet_parts}
use Rattle.world_variables.proofs.TellLemmas.{with_equation, bind_parts}
use Rattle.world_variables.proofs.MakeLemmas.{makes_parts}
use Rattle.world_variables.specs.Laws.{PartsIn}

-- from the parts by function to those of the sites
pub to_put : (p : List Stmt) (here : ℕ → Name → Type 0) (f : Sites) (i : ℕ) (s : Site) (mail : Mail) (c : State) →
    PartsMatch p here (at_put (eqs f) i s.equations) (at_put (records f) i s.records) (at_put (threads f) i s.threads) (at_put (counters f) i s.counters) mail c →
    PartsMatch p here (eqs (put f i s)) (records (put f i s)) (threads (put f i s)) (counters (put f i s)) mail c
to_put p here f i s mail c h =
    subst (λ (e : ℕ → Store). PartsMatch p here e (records (put f i s)) (threads (put f i s)) (counters (put f i s)) mail c) (sym (field_put (λ (t : Site). t.equations) f i s))
    (subst (λ (r : ℕ → Records). PartsMatch p here (at_put (eqs f) i s.equations) r (threads (put f i s)) (counters (put f i s)) mail c) (sym (field_put (λ (t : Site). t.records) f i s))
    (subst (λ (ts : ℕ → Threads). PartsMatch p here (at_put (eqs f) i s.equations) (at_put (records f) i s.records) ts (counters (put f i s)) mail c) (sym (field_put (λ (t : Site). t.threads) f i s))
    (subst (λ (m : ℕ → Counters). PartsMatch p here (at_put (eqs f) i s.equations) (at_put (records f) i s.records) (at_put (threads f) i s.threads) m mail c) (sym (field_put (λ (t : Site). t.counters) f i s)) h)))

-- nothing is sent
pub unsent : (p : List Stmt) (here : ℕ → Name → Type 0) (f : Sites) (i : ℕ) (s : Site) (mail : Mail) (k : ℕ) (c : State) →
    PartsMatch p here (at_put (eqs f) i s.equations) (at_put (records f) i s.records) (at_put (threads f) i s.threads) (at_put (counters f) i s.counters) mail c →
    PartsMatch p here (eqs (put f i s)) (records (put f i s)) (threads (put f i s)) (counters (put f i s)) (mail ++ mail_from k []) c
unsent p here f i s mail k c h = subst (λ (m : Mail). PartsMatch p here (eqs (put f i s)) (records (put f i s)) (threads (put f i s)) (counters (put f i s)) m c) (sym (append-nil mail)) (to_put p here f i s mail c h)

-- one part after another
pub acts_then : (p : List Stmt) (here : ℕ → Name → Type 0) (w : World) (i : ℕ) (d : Transition) (f : Site → Transition) (c : State) →
    PartsIn p here (after_transition (after_transition w i d) i (f ((after_transition w i d).sites i))) c → PartsIn p here (after_transition w i (and_then d f)) c
acts_then p here w i d f c h =
    subst (λ (v : World). PartsIn p here v c) (sym (acts_after w i d (f d.site)))
    (subst (λ (s : Site). PartsIn p here (after_transition (after_transition w i d) i (f s)) c) (at_here w.sites i d.site) h)

module _ (p : List Stmt) (here : ℕ → Name → Type 0) where
  pub makes_row : (w : World) (c : State) (i : ℕ) (k : Pick) (ks : List NameKind) → PartsIn p here w c → PartsIn p here (after_transition w i (with_pick (with_fresh_names ks (w.sites i)) k)) c
  makes_row w c i k ks h =
      unsent p here w.sites i (with_fresh_names ks (w.sites i)) w.mail w.sent c
      (rw (at_own (eqs w.sites) i, at_own (threads w.sites) i) (subst (λ (o : ℕ). PartsMatch p here (eqs w.sites) (at_put (records w.sites) i (Learn.after_makes (records w.sites i) (Effect.vars_among (Unit.next_names o (counters w.sites i) ks)))) (threads w.sites) (at_put (counters w.sites) i (Unit.counters_after (counters w.sites i) ks)) w.mail c) (sym (h.kept i).site)
      (makes_parts p here (eqs w.sites) (threads w.sites) w.mail c i ks (records w.sites) (counters w.sites) h)))

  pub bind_row : (w : World) (c : State) (limit i : ℕ) (x : VarName) (t : Term) → x.site ≡ i → x.site ≢ 0 → knowledge (records w.sites i) x ≡ Some None → IsLower t x → EachOfEquation (here i) (x, t) → EachOfEquation (IsMade (counters w.sites)) (x, t) →
      PartsIn p here w c → PartsIn p here (after_transition w i (own_bind limit x t (w.sites i))) (with_equation c x t)
  bind_row w c limit i x t own real unbound low names was h =
      to_put p here w.sites i (with_site_equation (w.sites i) x t (after_ask (w.sites i).records x t)) (w.mail ++ mail_from w.sent (own_bind limit x t (w.sites i)).sent) (with_equation c x t)
      (rw (at_own (counters w.sites) i) (bind_parts p here (eqs w.sites) (records w.sites) (threads w.sites) (counters w.sites) w.mail c h limit w.sent i x t own real unbound low names was))

  -- one name is met
  abbrev pub meets_one : VarName → Site → Transition
  meets_one x s = with_messages (record s { records = after_meet s.records x }) (meet_sends s.records x)

  pub meet_row : (w : World) (c : State) (i : ℕ) (x : VarName) → IsMade (counters w.sites) (name.Var x) → PartsIn p here w c → PartsIn p here (after_transition w i (meets_one x (w.sites i))) c
  meet_row w c i x real h =
      to_put p here w.sites i (record (w.sites i) { records = after_meet (w.sites i).records x }) (w.mail ++ mail_from w.sent (meet_sends (w.sites i).records x)) c
      (rw (at_own (eqs w.sites) i, at_own (threads w.sites) i, at_own (counters w.sites) i)
      (meet_parts p here (eqs w.sites) (records w.sites) (threads w.sites) (counters w.sites) w.mail c h i w.sent x real))
