-- Units that end in waiting: for the node of a class, for any of several variables, and for the answer of an owner elsewhere.
use Rattle.std.proofs.Common.{◌≡◌, refl, ℕ, List, [], ◌∷◌, ◌++◌, Some}
use Rattle.std.specs.Prelude.{Contains, ◌≢◌}
use Rattle.tree_node.specs.declared.names.VarName.{VarName}
use Rattle.tree_node.specs.declared.names.ThreadName.{ThreadName}
use Rattle.tree_node.specs.declared.names.Name.{Name}
use Rattle.tree_node.specs.declared.names.Name.TheVariants as name
use Rattle.tree_node.specs.declared.node.Term.{Term}
use Rattle.tree_node.specs.Assoc.{value_of}
use Rattle.tree_node.specs.Compare.{Pair, Open, compared}
use Rattle.tree_node.specs.Each.{Each}
use Rattle.tree_node.specs.Names.{EachOfEquation}
use Rattle.tree_node.specs.State.{Stack, State, equal_thread}
use Rattle.tree_node.specs.Store.{Equation, Same, IsFree}
use Rattle.kernel_syntax.specs.declared.stmt.Stmt.{Stmt}
use Rattle.site_message.specs.declared.message.Msg.TheVariants as msg
use Rattle.oz_model.specs.Need.{Waits, WaitsAny, stack_need}
use Rattle.oz_model.proofs.NameLemmas.{Each-weaker}
use Rattle.bind_protocol.specs.Rows.{request}
use Rattle.thread_roster.specs.declared.mode.Mode.TheVariants.{Runs}
use Rattle.thread_roster.specs.declared.mode.Mode.TheVariants as site
use Rattle.site_model.specs.Transition.{without_output, with_messages}
use Rattle.site_model.specs.Bundle.{with_own_bundle, bundle_of}
use Rattle.site_model.specs.Unit.{with_mode}
use Rattle.site_model.proofs.BundleLemmas.{bundle_known}
use Rattle.world_model.specs.World.{World, after_transition, mail_from, eqs, records, threads, counters}
use Rattle.world_model.specs.Names.{IsHere, IsMade}
use Rattle.world_model.specs.Matches.{HasAllowedBind}
use Rattle.world_model.proofs.PutLemmas.{at_own}
use Rattle.world_model.proofs.MailLemmas.{sent_to}
use Rattle.world_variables.proofs.TellLemmas.{each_of}
use Rattle.world_variables.proofs.ModeLemmas.{mode_parts, ask_parts}
use Rattle.world_variables.proofs.RowLemmas.{to_put, unsent}
use Rattle.world_variables.specs.Laws.{PartsIn}

module _ (p : List Stmt) (hereF : ℕ → Name → Type 0) (w : World) (c : State) (i : ℕ) (n : ThreadName) (st : Stack) (h : PartsIn p hereF w c) (at : value_of equal_thread (threads w.sites i) n ≡ Some (st, Runs)) where
  pub need_row : (x z : VarName) → i ≢ 0 → stack_need p (eqs w.sites i) st ≡ Waits x → Same (eqs w.sites i) x z → PartsIn p hereF (after_transition w i (without_output (with_mode n st (site.Needs z) (w.sites i)))) c
  need_row x z real need same =
      unsent p hereF w.sites i (with_mode n st (site.Needs z) (w.sites i)) w.mail w.sent c
      (rw (at_own (eqs w.sites) i, at_own (records w.sites) i, at_own (counters w.sites) i)
      (mode_parts p hereF (eqs w.sites) (records w.sites) (threads w.sites) (counters w.sites) w.mail c h i n st (site.Needs z) at (real, (x, need, same))))

  pub wait_any_row : (q : Pair) (xs : List VarName) → stack_need p (eqs w.sites i) st ≡ WaitsAny q → compared (eqs w.sites i) q ≡ Open xs → ((x : VarName) → Contains xs x → IsFree (eqs w.sites i) x × IsHere (records w.sites i) x) →
      PartsIn p hereF (after_transition w i (without_output (with_mode n st (site.WaitsAny xs) (w.sites i)))) c
  wait_any_row q xs need open_on each =
      unsent p hereF w.sites i (with_mode n st (site.WaitsAny xs) (w.sites i)) w.mail w.sent c
      (rw (at_own (eqs w.sites) i, at_own (records w.sites) i, at_own (counters w.sites) i)
      (mode_parts p hereF (eqs w.sites) (records w.sites) (threads w.sites) (counters w.sites) w.mail c h i n st (site.WaitsAny xs) at ((q, need, open_on), each)))

  pub ask_row : (limit : ℕ) (u : VarName) (t : Term) → IsFree (eqs w.sites i) u → IsHere (records w.sites i) u → IsHere (records w.sites u.site) u → HasAllowedBind p (eqs w.sites i) st u t → EachOfEquation (IsMade (counters w.sites)) (u, t) → IsMade (counters w.sites) (name.Thread n) →
      PartsIn p hereF (after_transition w i (with_messages (with_mode n st (site.Waits u) (w.sites i)) (with_own_bundle limit (w.sites i).equations (request u t n) ∷ []))) c
  ask_row limit u t free is owner wants was named =
      to_put p hereF w.sites i (with_mode n st (site.Waits u) (w.sites i)) (w.mail ++ mail_from w.sent (sent_to u.site (msg.BindReq u n t bundle) ∷ [])) c
      (rw (at_own (eqs w.sites) i, at_own (records w.sites) i, at_own (counters w.sites) i)
      (ask_parts p hereF (eqs w.sites) (records w.sites) (threads w.sites) (counters w.sites) w.mail c h i n st (site.Waits u) at w.sent u t bundle refl free is owner wants carried
      (was.0, named, was.1, each_of (EachOfEquation (IsMade (counters w.sites))) c.equations h.centred.all.0 bundle carried)))
    where
      bundle : List Equation
      bundle = bundle_of limit (w.sites i).equations (msg.BindReq u n t [])

      carried : Each (Contains c.equations) bundle
      carried = Each-weaker (Contains (w.sites i).equations) (Contains c.equations) (h.knowledge.known i) bundle (bundle_known limit (w.sites i).equations (msg.BindReq u n t []))
