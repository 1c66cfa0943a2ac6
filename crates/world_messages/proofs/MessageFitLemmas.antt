-- What messages make of a fitting site, and what it sends; whole turns.
use Rattle.std.proofs.Common.{arith, ◌≡◌, ◌≢◌, ◌∙◌, sym, ap, refl, subst, ℕ, ◌<◌, ◌≤◌, List, [], ◌∷◌, ◌++◌, ◌⊎◌, inl, inr, Bool, true, false, cond, Some, None}
use Rattle.std.specs.Prelude.{Option, Contains, is_some, unwrap_or, ◌==◌}
use Rattle.std.specs.Map.{lookup}
use Rattle.std.proofs.lemmas.List.Elements.{Contains-append_left, Contains-append_right, Contains-append_cases}
use Rattle.tree_node.specs.declared.names.VarName.{VarName}
use Rattle.tree_node.specs.declared.names.CellName.{CellName}
use Rattle.tree_node.specs.declared.names.PortName.{PortName}
use Rattle.tree_node.specs.declared.names.Name.TheVariants as name
use Rattle.tree_node.specs.declared.names.NameKind.TheVariants as kind
use Rattle.tree_node.specs.declared.names.ThreadName.{ThreadName}
use Rattle.tree_node.specs.declared.node.Term.{Term}
use Rattle.tree_node.specs.declared.node.Term.TheVariants as term
use Rattle.tree_node.specs.Each.{Each, AreDistinct}
use Rattle.tree_node.specs.Goal.{equal_port}
use Rattle.tree_node.specs.Names.{EachOfEquation}
use Rattle.tree_node.specs.State.{Stack, equal_thread}
use Rattle.tree_node.specs.Store.{Store, Equation}
use Rattle.tree_node.proofs.ClassLemmas.{Contains-cons_cases, Contains-head, Contains-tail}
use Rattle.kernel_syntax.specs.declared.stmt.Stmt.{Stmt}
use Rattle.kernel_syntax.specs.Program.{IsProgram}
use Rattle.site_message.specs.declared.message.Msg.{Msg}
use Rattle.site_message.specs.declared.message.Msg.TheVariants as msg
use Rattle.site_message.specs.declared.message.Sent.{Sent}
use Rattle.variable_owner.specs.Owners.{owner_of}
use Rattle.variable_owner.specs.declared.owners.Owner.{Owner}
use Rattle.variable_owner.specs.declared.owners.Owner.TheVariants.{Open, Bound}
use Rattle.oz_model.specs.WellFormed.{IsNode, IsNodeOf}
use Rattle.oz_model.specs.Need.{variable_kinds}
use Rattle.oz_model.specs.Effect.{CellChange, Exchanged, PortChange, stack_effect, tell_item}
use Rattle.oz_model.specs.Effect as change
use Rattle.thread_machine.specs.Fits.{TermFits, StackFits, EquationsFit}
use Rattle.thread_machine.specs.Fits as fits
use Rattle.thread_machine.specs.Effects.{CellFits}
use Rattle.thread_machine.proofs.KeepLemmas.{tell_fits}
use Rattle.bind_protocol.specs.Records.{Records, is_own, knowledge, owner_knows, IsKnown}
use Rattle.bind_protocol.specs.Rows.{sent_message, register, after_register, register_sends, after_binding, meet_sends, after_meet, meets_send, after_meets}
use Rattle.proxy_table.specs.Proxies.{entry_of}
use Rattle.token_chain.specs.declared.token.Token.TheVariants.{Here}
use Rattle.site_model.specs.Requests.{Answer, NewEnd, OldContent, answered_stack, send_stack, after_answer, next_var, old_end, with_new_end, with_early, with_home_content, port_send_row, cell_ask_row, serve_request, serve_early}
use Rattle.site_model.specs.Site.{Site, ThreadState, HomeRecord, EarlyRequest, Counters, thread_state, cell_record, port_end, home_record}
use Rattle.site_model.specs.Unit.{with_fresh_names}
use Rattle.thread_roster.specs.declared.mode.Mode.{Mode}
use Rattle.thread_roster.specs.declared.mode.Mode.TheVariants.{Runs}
use Rattle.site_model.specs.Bundle.{with_own_bundle, with_own_bundles, message_bundle, message_vars}
use Rattle.site_model.specs.Transition.{Transition, without_output, with_messages, with_pick, and_then}
use Rattle.site_model.specs.Variables.{with_new_equation, with_known_equation, with_known_equations, own_bind, opening}
use Rattle.site_model.specs.Cells.{step_pick, exchange_stack, leave_row, serving, after_exchange, content_after_exchange, put_row}
use Rattle.site_model.specs.Messages.{birth, register_row, bind_request_row, message_row, reception, bind_pick}
use Rattle.site_model.specs.Fit.{CodesFit, IsFit, IsKnownName}
use Rattle.world_model.specs.Claims.{EndOf, ContentOf, Asks}
use Rattle.world_model.specs.Matches.{IsExchange}
use Rattle.world_model.proofs.PutLemmas.{nat_decides}
use Rattle.world_model.proofs.MailLemmas.{nothing}
use Rattle.world_messages.specs.Fitting.{HasHomeIn, MessageHomes, ThreadFits, TermsFit, NamesKnown, KeepsFit, SiteFits, MsgFits, AllFit, TokenWaits, AreServed, IsSending, IsExchanging, AreTaking, own_threads, HeardWaits}
use Rattle.world_messages.proofs.SaidLemmas.{said_known}
use Rattle.world_messages.proofs.HomeRowLemmas.{told_all_same, answer_cases, serve_rest}
use Rattle.world_messages.proofs.KeepFitLemmas.{keeps_grow, keeps_end}
use Rattle.world_messages.proofs.TermLemmas.{IsMore, IsFitFor, term_fits, terms_grow, terms_learn, terms_start, terms_place}
use Rattle.world_messages.proofs.KnownLemmas.{Goes, Grows, MeetsAll, register_goes, binding_goes, meets_all, without_bind}
use Rattle.world_messages.proofs.EffectLemmas.{EffectIsFit, step_is_fit}
use Rattle.site_model.specs.Turn.{IsReception, SiteTurn}
use Rattle.world_messages.proofs.SiteFitLemmas.{FitsOn, becomes_fits, fits_then, carried, makes_fits, bindings_fit, learn_names, binds_fits, thread_with, all_append, all_grow, new_then}
use Rattle.world_model.proofs.KeyLemmas.{with_there}
use Rattle.world_messages.proofs.UnitFitLemmas.{leave_fits, forward_fits, get_fits, home_fits, content_fits, content_stack, end_stack, early_fits, units_fits, msg_homes, msg_vars}
use Rattle.tree_node.proofs.NameLemmas.{same_thread_decides}
use Rattle.tree_node.proofs.OrderLemmas.{Each-member}

module _ (p : List Stmt) (is : IsProgram p) (n limit : ℕ) (some : 1 ≤ n) (i : ℕ) (R : VarName → Type 0) (mine : (x : VarName) → x.site ≡ i → R x) where
  still : (known : List VarName) (s : Site) → SiteFits p n i known s → FitsOn p n i R known (without_output s)
  still known s h = becomes_fits p is n limit i R known s h

  sends_fits : (known : List VarName) (s : Site) (ms : List Sent) → SiteFits p n i known s → AllFit p n known ms → FitsOn p n i R known (with_messages s ms)
  sends_fits known s ms h g = record { more = known; grows = λ x c. c; new = λ x c. inl c; site = h; sent = g }

  -- ---- a message is opened

  -- a site is told of a variable, whose terms fit more variables than it knows yet
  told_both : (known more : List VarName) (s : Site) (x : VarName) (t : Term) → IsFitFor p n more x t → NamesKnown i known more s.records s.counters s.equations → TermsFit p n more s.equations s.threads s.cell_records →
      NamesKnown i known more (with_known_equation s x t).records (with_known_equation s x t).counters (with_known_equation s x t).equations × TermsFit p n more (with_known_equation s x t).equations (with_known_equation s x t).threads (with_known_equation s x t).cell_records × ((with_known_equation s x t).records.site ≡ s.records.site) × ((with_known_equation s x t).counters ≡ s.counters)
  told_both known more s x t f h g = go (is_own s.records x) refl (knowledge s.records x) refl
    where
      abbrev_goal : Site → Type 0
      abbrev_goal u = NamesKnown i known more u.records u.counters u.equations × TermsFit p n more u.equations u.threads u.cell_records × (u.records.site ≡ s.records.site) × (u.counters ≡ s.counters)

      same : abbrev_goal s
      same = (h, g, refl, refl)

      other : is_own s.records x ≡ false → abbrev_goal (with_new_equation s x t)
      other q =
          let b : Goes s.records (after_binding s.records x t) x (Some t) = binding_goes s.records x t (λ (e : x.site ≡ s.records.site). let yes : is_own s.records x ≡ true = (nat_decides x.site s.records.site).1 e in cc) in
          (learn_names p is n limit i R known more s.records (after_binding s.records x t) s.counters s.equations x t b f.0 h, terms_learn p n more s.equations s.threads s.cell_records x t f g, b.site, refl)

      go : (c : Bool) → is_own s.records x ≡ c → (o : Option (Option Term)) → knowledge s.records x ≡ o → abbrev_goal (with_known_equation s x t)
      go true q o k = rw (k, q) same
      go false q None k = rw (k, q) (other q)
      go false q (Some None) k = rw (k, q) (other q)
      go false q (Some (Some r)) k = rw (k, q) same

  told_all_both : (known more : List VarName) (es : List Equation) (s : Site) → Each (λ (e : Equation). IsFitFor p n more e.0 e.1) es → NamesKnown i known more s.records s.counters s.equations → TermsFit p n more s.equations s.threads s.cell_records →
      NamesKnown i known more (with_known_equations s es).records (with_known_equations s es).counters (with_known_equations s es).equations × TermsFit p n more (with_known_equations s es).equations (with_known_equations s es).threads (with_known_equations s es).cell_records × ((with_known_equations s es).records.site ≡ s.records.site) × ((with_known_equations s es).counters ≡ s.counters)
  told_all_both known more [] s f h g = (h, g, refl, refl)
  told_all_both known more (e ∷ es) s f h g =
      let one = told_both known more s e.0 e.1 f.0 h g in
      let rest = told_all_both known more es (with_known_equation s e.0 e.1) f.1 one.0 one.1 in
      (rest.0, rest.1, rest.2 ∙ one.2, rest.3 ∙ one.3)

  rows_for : (known : List VarName) (es : List Equation) → Each (EachOfEquation (fits.IsKnown known)) es → Each (λ (e : Equation). IsNodeOf (IsNode p) e.1) es → Each (EachOfEquation (HasHomeIn n)) es → Each (λ (e : Equation). IsFitFor p n known e.0 e.1) es
  rows_for known [] h g q = tt
  rows_for known (e ∷ es) h g q = ((h.0.0, h.0.1, term_fits p is e.1 g.0, g.0, q.0.1), rows_for known es h.1 g.1 q.1)

  bundle_rows : (known : List VarName) (m : Msg) → MsgFits p n known m → Each (λ (e : Equation). IsFitFor p n known e.0 e.1) (message_bundle m)
  bundle_rows known (msg.Spawn th code vars es) h = rows_for known es h.0.2 h.1.1.1 h.2.1
  bundle_rows known (msg.Register x k) h = tt
  bundle_rows known (msg.BindReq x th t es) h = rows_for known es h.0.3 h.1.1.1 h.2.1
  bundle_rows known (msg.Binding x t es) h = rows_for known es h.0.2 h.1.1.1 h.2.1
  bundle_rows known (msg.Get d k) h = tt
  bundle_rows known (msg.Forward d k) h = tt
  bundle_rows known (msg.Put d v es) h = rows_for known es h.0.2 h.1.1.1 h.2.1
  bundle_rows known (msg.PortSend q th k) h = tt
  bundle_rows known (msg.PortEnd th old new es) h = rows_for known es h.0.3 h.1.1.1 h.2.1
  bundle_rows known (msg.CellMake d v es) h = rows_for known es h.0.2 h.1.1.1 h.2.1
  bundle_rows known (msg.CellAsk d th k v es) h = rows_for known es h.0.3 h.1.1.1 h.2.1
  bundle_rows known (msg.CellOld th v es) h = rows_for known es h.0.2 h.1.1.1 h.2.1

  -- Registers for names that are known
  registers_fit : (known : List VarName) (xs : List VarName) (b : Records) → ((x : VarName) → Contains xs x → Contains known x) → AllFit p n known (meets_send b xs)
  registers_fit known [] b f = tt
  registers_fit known (x ∷ xs) b f = all_append p n known (meet_sends b x) (meets_send (after_meet b x) xs) (one (is_own b x) (is_some (entry_of b.proxies x))) (registers_fit known xs (after_meet b x) (λ y c. f y (Contains-tail x y xs c)))
    where
      one : (c d : Bool) → AllFit p n known (cond c [] (cond d [] (register x b.site ∷ [])))
      one true d = tt
      one false true = tt
      one false false = ((f x (Contains-head x xs), (tt, (tt, tt)), (tt, tt)), tt)

  -- the variables of the message that are the site's own were made
  abbrev pub OwnsMade : Site → Msg → Type 0
  OwnsMade s m = (x : VarName) → Contains (message_vars m) x → x.site ≡ s.records.site → x.num < s.counters.vars

  pub record OpensFit (known : List VarName) (m : Msg) (s : Site) : Type 0 where
    pub grows : IsMore known (message_vars m ++ known)
    pub message : MsgFits p n (message_vars m ++ known) m
    pub site : SiteFits p n i (message_vars m ++ known) (opening m s).site
    pub sent : AllFit p n (message_vars m ++ known) (opening m s).sent
    pub number : (opening m s).site.records.site ≡ s.records.site

  pub opens_fits : (known : List VarName) (m : Msg) (s : Site) → CodesFit p m → MessageHomes n m → OwnsMade s m → SiteFits p n i known s → OpensFit known m s
  opens_fits known m s codes placed own h = go (told_all_both known (message_vars m ++ known) (message_bundle m) s (bundle_rows (message_vars m ++ known) m said) names_before (terms_grow p n known (message_vars m ++ known) s.equations s.threads s.cell_records more h.terms))
    where
      more : IsMore known (message_vars m ++ known)
      more x c = Contains-append_right (message_vars m) known x c

      names_before : NamesKnown i known (message_vars m ++ known) s.records s.counters s.equations
      names_before = record { site = h.names.site; here = h.names.here; within = λ x k. more x (h.names.within x k); own = h.names.own; counted = h.names.counted; bound = h.names.bound }

      said : MsgFits p n (message_vars m ++ known) m
      said = (said_known (message_vars m ++ known) m (λ x c. Contains-append_left (message_vars m) known x c), codes, placed)

      go : NamesKnown i known (message_vars m ++ known) (with_known_equations s (message_bundle m)).records (with_known_equations s (message_bundle m)).counters (with_known_equations s (message_bundle m)).equations × TermsFit p n (message_vars m ++ known) (with_known_equations s (message_bundle m)).equations (with_known_equations s (message_bundle m)).threads (with_known_equations s (message_bundle m)).cell_records × ((with_known_equations s (message_bundle m)).records.site ≡ s.records.site) × ((with_known_equations s (message_bundle m)).counters ≡ s.counters) →
          OpensFit known m s
      go (names, terms, number, made) = met (meets_all (message_vars m) (with_known_equations s (message_bundle m)).records)
        where
          met : MeetsAll (with_known_equations s (message_bundle m)).records (after_meets (with_known_equations s (message_bundle m)).records (message_vars m)) (message_vars m) → OpensFit known m s
          met all = record {
            grows = more;
            message = said;
            site = record {
              names = record {
                site = all.grows.site ∙ names.site;
                here = λ x c. here x (Contains-append_cases (message_vars m) known x c);
                within = λ x k. within x (all.from x k);
                own = λ x mine low. all.grows.keeps x (names.own x mine low);
                counted = λ x mine c. count x mine (Contains-append_cases (message_vars m) known x c);
                bound = λ x t e. names.bound x t (all.grows.bound x t e);
              };
              terms = terms;
              keeps = keeps_told;
              sites = ap (λ (c : Counters). c.sites) made ∙ h.sites;
            };
            sent = registers_fit (message_vars m ++ known) (message_vars m) (with_known_equations s (message_bundle m)).records (λ x c. Contains-append_left (message_vars m) known x c);
            number = all.grows.site ∙ number;
          }
            where
              here : (x : VarName) → Contains (message_vars m) x ⊎ Contains known x → IsKnown (after_meets (with_known_equations s (message_bundle m)).records (message_vars m)) x
              here x (inl c) = all.met x c (λ mine. names.own x (mine ∙ names.site) (subst (λ (k : Counters). x.num < k.vars) (sym made) (own x c (mine ∙ number))))
              here x (inr c) = all.grows.keeps x (names.here x c)

              within : (x : VarName) → IsKnown (with_known_equations s (message_bundle m)).records x ⊎ Contains (message_vars m) x → Contains (message_vars m ++ known) x
              within x (inl k) = names.within x k
              within x (inr c) = Contains-append_left (message_vars m) known x c

              count : (x : VarName) → x.site ≡ i → Contains (message_vars m) x ⊎ Contains known x → x.num < (with_known_equations s (message_bundle m)).counters.vars
              count x mine (inl c) = subst (λ (k : Counters). x.num < k.vars) (sym made) (own x c (mine ∙ sym h.names.site))
              count x mine (inr c) = names.counted x mine c

              keeps_told : KeepsFit (message_vars m ++ known) (with_known_equations s (message_bundle m)).ports (with_known_equations s (message_bundle m)).homes
              keeps_told =
                  subst (λ (hs : List (CellName × HomeRecord)). KeepsFit (message_vars m ++ known) (with_known_equations s (message_bundle m)).ports hs) (sym (told_all_same (λ (t : Site). t.homes) (λ t x r. refl) (message_bundle m) s))
                  (subst (λ (ps : List (PortName × VarName)). KeepsFit (message_vars m ++ known) ps s.homes) (sym (told_all_same (λ (t : Site). t.ports) (λ t x r. refl) (message_bundle m) s)) (keeps_grow known (message_vars m ++ known) s.ports s.homes more h.keeps))

  -- ---- the rows

  asked_fits : (known : List VarName) (x : VarName) (t : Term) (th : ThreadName) (s : Site) → x.site ≡ s.records.site → IsFitFor p n known x t → SiteFits p n i known s → FitsOn p n i R known (bind_request_row limit x t th s)
  asked_fits known x t th s own f h = go (knowledge s.records x) refl
    where
      bound_now : FitsOn p n i R known (and_then (with_pick s (bind_pick th x t)) (own_bind limit x t))
      bound_now = let b = binds_fits p is n limit i R known x t s own f h in record { more = known; grows = λ x c. c; new = λ x c. inl c; site = b.0; sent = b.1 }

      go : (o : Option (Option Term)) → knowledge s.records x ≡ o → FitsOn p n i R known (bind_request_row limit x t th s)
      go None q = rw q (still known s h)
      go (Some None) q = rw q bound_now
      go (Some (Some r)) q = rw q (still known s h)

  row_of : (known : List VarName) (s : Store) (x : VarName) (t : Term) → Contains s (x, t) → EquationsFit p known s → Each (λ (e : Equation). IsNodeOf (IsNode p) e.1) s → Each (EachOfEquation (HasHomeIn n)) s → IsFitFor p n known x t
  row_of known s x t at h g q =
      let names = Each-member (EachOfEquation (fits.IsKnown known)) s (x, t) h.names at in
      (names.0, names.1, Each-member (λ (e : Equation). TermFits p e.1) s (x, t) h.terms at, Each-member (λ (e : Equation). IsNodeOf (IsNode p) e.1) s (x, t) g at, (Each-member (EachOfEquation (HasHomeIn n)) s (x, t) q at).1)

  registered_fits : (known : List VarName) (x : VarName) (k : ℕ) (s : Site) → x.site ≡ s.records.site → Contains known x → SiteFits p n i known s → FitsOn p n i R known (register_row limit x k s)
  registered_fits known x k s own at h = record { more = known; grows = λ x c. c; new = λ x c. inl c; site = now; sent = answer (owner_of s.records.owners x) refl }
    where
      goes : Goes s.records (after_register s.records x k) x None
      goes = register_goes s.records x k own

      g : Grows s.records (after_register s.records x k)
      g = without_bind s.records (after_register s.records x k) x goes

      from : (y : VarName) → IsKnown s.records y ⊎ (y ≡ x) → Contains known y
      from y (inl h0) = h.names.within y h0
      from y (inr e) = subst (Contains known) (sym e) at

      now : SiteFits p n i known (record s { records = after_register s.records x k })
      now = record {
        names = record { site = g.site ∙ h.names.site; here = λ y c. g.keeps y (h.names.here y c); within = λ y k. from y (goes.from y k); own = λ y mine low. g.keeps y (h.names.own y mine low); counted = h.names.counted; bound = λ y t e. h.names.bound y t (g.bound y t e) };
        terms = h.terms;
        keeps = h.keeps;
        sites = h.sites;
      }

      answer : (o : Option Owner) → owner_of s.records.owners x ≡ o → AllFit p n known (with_own_bundles limit s.equations (register_sends s.records x k))
      answer None q = rw q tt
      answer (Some (Open ks)) q = rw q tt
      answer (Some (Bound t)) q =
          let own_is : is_own s.records x ≡ true = (nat_decides x.site s.records.site).1 own in
          let knows : knowledge s.records x ≡ Some (Some t) = rw own_is (ap owner_knows q) in
          rw q (bindings_fit p is n limit i R known s.equations x t (k ∷ []) h.terms.equations h.terms.nodes h.terms.homes (row_of known s.equations x t (h.names.bound x t knows) h.terms.equations h.terms.nodes h.terms.homes))

  told_keeps : (known : List VarName) (e : Equation) (s : Site) → KeepsFit known s.ports s.homes → KeepsFit known (with_known_equation s e.0 e.1).ports (with_known_equation s e.0 e.1).homes
  told_keeps known e s h =
      subst (λ (hs : List (CellName × HomeRecord)). KeepsFit known (with_known_equation s e.0 e.1).ports hs) (sym (told_all_same (λ (t : Site). t.homes) (λ t x r. refl) (e ∷ []) s))
      (subst (λ (ps : List (PortName × VarName)). KeepsFit known ps s.homes) (sym (told_all_same (λ (t : Site). t.ports) (λ t x r. refl) (e ∷ []) s)) h)

  learns_fits : (known : List VarName) (x : VarName) (t : Term) (s : Site) → IsFitFor p n known x t → SiteFits p n i known s → SiteFits p n i known (with_known_equation s x t)
  learns_fits known x t s f h =
      let b = told_both known known s x t f h.names h.terms in record {
        names = b.0;
        terms = b.1;
        keeps = told_keeps known (x, t) s h.keeps;
        sites = ap (λ (c : Counters). c.sites) b.3 ∙ h.sites;
      }

  -- ---- the token comes

  stands_on : (s : Site) (c : CellName) (th o : ThreadName) (v : VarName) → th ≢ o → thread_state (after_exchange p th v s) o ≡ thread_state s o
  stands_on s c th o v other = go (thread_state s th) refl
    where
      go : (q : Option ThreadState) → thread_state s th ≡ q → thread_state (after_exchange p th v s) o ≡ thread_state s o
      go None e = rw e refl
      go (Some st) e = rw e (with_there equal_thread same_thread_decides s.threads th o _ other)

  same_equations : (s : Site) (c : CellName) (th : ThreadName) (v : VarName) → (after_exchange p th v s).equations ≡ s.equations
  same_equations s c th v = go (thread_state s th) refl
    where
      go : (q : Option ThreadState) → thread_state s th ≡ q → (after_exchange p th v s).equations ≡ s.equations
      go None e = rw e refl
      go (Some st) e = rw e refl

  -- one thread exchanges
  record Served (known : List VarName) (s : Site) (c : CellName) (th : ThreadName) (v : VarName) : Type 0 where
    site : SiteFits p n i known (after_exchange p th v s)
    content : Contains known (content_after_exchange p th v s)

  one_served : (known : List VarName) (s : Site) (c : CellName) (th : ThreadName) (v : VarName) → SiteFits p n i known s → Contains known v → ((st : Stack) (m : Mode) → thread_state s th ≡ Some (st, m) → IsExchange p s.equations st c) → Served known s c th v
  one_served known s c th v h hv w = go (thread_state s th) refl
    where
      go : (q : Option ThreadState) → thread_state s th ≡ q → Served known s c th v
      go None e = record { site = rw e h; content = rw e hv }
      go (Some (st, m)) e = with_effect (w st m e)
        where
          f : ThreadFits p n known st
          f = h.terms.stacks th (st, m) e

          with_effect : IsExchange p s.equations st c → Served known s c th v
          with_effect (new, told, need, cell) =
              let k : EffectIsFit p n known (stack_effect p s.equations [] None st) = step_is_fit p n known s.equations st [] [] is f h.terms.equations h.terms.nodes h.terms.homes need tt tt tt in
              let names : CellFits known (Exchanged c new told) = subst (CellFits known) cell k.fits.cell in
              let stack : StackFits p known (tell_item told (term.Var v) ∷ (stack_effect p s.equations [] None st).stack) = tell_fits p known told (term.Var v) (stack_effect p s.equations [] None st).stack names.1 hv tt k.fits.stack in
              let both : ThreadFits p n known (tell_item told (term.Var v) ∷ (stack_effect p s.equations [] None st).stack) = record { some = λ (q : tell_item told (term.Var v) ∷ (stack_effect p s.equations [] None st).stack ≡ []). cc; stack = stack; nodes = ((((tt, tt), tt), tt), k.nodes.1); homes = ((((omega arith, omega arith), tt), tt), k.homes.stack) } in
              record {
                site = rw e (rw cell (record { names = h.names; terms = thread_with p is n limit i R known s.equations s.threads s.cell_records th (tell_item told (term.Var v) ∷ (stack_effect p s.equations [] None st).stack) Runs both h.terms; keeps = h.keeps; sites = h.sites }));
                content = rw e (rw cell names.0);
              }

  serves_fits : (known : List VarName) (c : CellName) (ns : List ThreadName) (v : VarName) (s : Site) → SiteFits p n i known s → Contains known v → AreServed p c ns s → FitsOn p n i R known (serving p c ns v s)
  serves_fits known c [] v s h hv w = still known _ (record {
    names = h.names;
    terms = terms_place p n known s.equations s.threads s.cell_records c (record { held = record (cell_record s c).held { token = Here v; waiting = 0 }; queue = [] }) (λ u e. subst (Contains known) (same v u e) hv) h.terms;
    keeps = h.keeps;
    sites = h.sites;
  })
    where
      same : (v w : VarName) → Here v ≡ Here w → v ≡ w
      same v w e = cc
  serves_fits known c (th ∷ ns) v s h hv (apart, w) = go (one_served known s c th v h hv (w th (Contains-head th ns))) (λ u g k l. serves_fits known c ns u (after_exchange p th v s) g k l)
    where
      rest : AreServed p c ns (after_exchange p th v s)
      rest = (apart.1, λ o at st m e. subst (λ (q : Store). IsExchange p q st c) (sym (same_equations s c th v)) (w o (Contains-tail th o ns at) st m (sym (stands_on s c th o v (Each-member (λ (y : ThreadName). th ≢ y) ns o apart.0 at)) ∙ e)))

      go : Served known s c th v → ((u : VarName) → SiteFits p n i known (after_exchange p th v s) → Contains known u → AreServed p c ns (after_exchange p th v s) → FitsOn p n i R known (serving p c ns u (after_exchange p th v s))) → FitsOn p n i R known (serving p c (th ∷ ns) v s)
      go one ih = let k : FitsOn p n i R known (serving p c ns (content_after_exchange p th v s) (after_exchange p th v s)) = ih (content_after_exchange p th v s) one.site one.content rest in record { more = k.more; grows = k.grows; new = k.new; site = k.site; sent = k.sent }

  comes_fits : (known : List VarName) (c : CellName) (v : VarName) (s : Site) → SiteFits p n i known s → Contains known v → AreServed p c (cell_record s c).queue s → FitsOn p n i R known (put_row p limit c v s)
  comes_fits known c v s h hv w = fits_then p is n limit i R known (serving p c (cell_record s c).queue v s) (leave_row limit c) (serves_fits known c (cell_record s c).queue v s h hv w) (λ more g k. leave_fits p is n limit some i R mine more c (serving p c (cell_record s c).queue v s).site k)

  -- ---- a thread is answered

  -- what the answer brings is known, and the thread asks for such a thing
  abbrev FitsAnswer : List VarName → Answer → ThreadName → Site → Type 0
  FitsAnswer known (NewEnd old new) th s = (Contains known old × Contains known new) × IsSending p th s
  FitsAnswer known (OldContent v) th s = Contains known v × IsExchanging p th s

  answered_fits : (known : List VarName) (th : ThreadName) (a : Answer) (s : Site) (st : Stack) (m : Mode) → FitsAnswer known a th s → thread_state s th ≡ Some (st, m) → SiteFits p n i known s → ThreadFits p n known (answered_stack p s a st)
  answered_fits known th (NewEnd old new) s st m k at h = go (k.1 st m at)
    where
      f : ThreadFits p n known st
      f = h.terms.stacks th (st, m) at

      go : (q : PortName) × Asks p s.equations st (EndOf q) → ThreadFits p n known (answered_stack p s (NewEnd old new) st)
      go (q, asks) =
          let e : EffectIsFit p n known (stack_effect p s.equations (name.Var new ∷ []) None st) = step_is_fit p n known s.equations st (variable_kinds 1) (name.Var new ∷ []) is f h.terms.equations h.terms.nodes h.terms.homes asks.0 (tt, tt) (k.0.1, tt) (omega arith, tt) in
          let b = end_stack p is n limit some i R mine known old (stack_effect p s.equations (name.Var new ∷ []) None st).port (stack_effect p s.equations (name.Var new ∷ []) None st).stack e.fits.port (λ r x y is0. k.0.0) (e.fits.stack, e.nodes.1, e.homes.stack) in
          record { some = filled_end (asks.1.1 new); stack = b.0; nodes = b.1; homes = b.2 }
        where
          filled : (x : PortChange) (su : Stack) → x ≡ change.Sent q asks.1.0 new → send_stack old x su ≡ [] → ⊥
          filled x su e g = let no : send_stack old (change.Sent q asks.1.0 new) su ≡ [] = subst (λ (r : PortChange). send_stack old r su ≡ []) e g in cc

          filled_end : (stack_effect p s.equations (name.Var new ∷ []) None st).port ≡ change.Sent q asks.1.0 new → answered_stack p s (NewEnd old new) st ≢ []
          filled_end e g = filled (stack_effect p s.equations (name.Var new ∷ []) None st).port (stack_effect p s.equations (name.Var new ∷ []) None st).stack e g
  answered_fits known th (OldContent v) s st m k at h = go (k.1 st m at)
    where
      f : ThreadFits p n known st
      f = h.terms.stacks th (st, m) at

      go : (c : CellName) × (new : VarName) × Asks p s.equations st (ContentOf c new) → ThreadFits p n known (answered_stack p s (OldContent v) st)
      go (c, new, asks) =
          let e : EffectIsFit p n known (stack_effect p s.equations [] None st) = step_is_fit p n known s.equations st [] [] is f h.terms.equations h.terms.nodes h.terms.homes asks.0 tt tt tt in
          let b = content_stack p is n limit some i R mine known v (stack_effect p s.equations [] None st).cell (stack_effect p s.equations [] None st).stack e.fits.cell (λ a x y is0. k.0) (e.fits.stack, e.nodes.1, e.homes.stack) in
          record { some = filled_content; stack = b.0; nodes = b.1; homes = b.2 }
        where
          filled : (x : CellChange) (su : Stack) → x ≡ Exchanged c new asks.1 → exchange_stack v x su ≡ [] → ⊥
          filled x su e g = let no : exchange_stack v (Exchanged c new asks.1) su ≡ [] = subst (λ (r : CellChange). exchange_stack v r su ≡ []) e g in cc

          filled_content : answered_stack p s (OldContent v) st ≢ []
          filled_content g = filled (stack_effect p s.equations [] None st).cell (stack_effect p s.equations [] None st).stack asks.2 g

  answer_fits : (known : List VarName) (th : ThreadName) (a : Answer) (s : Site) → FitsAnswer known a th s → SiteFits p n i known s → SiteFits p n i known (after_answer p th a s)
  answer_fits known th a s k h = go (thread_state s th) refl
    where
      go : (o : Option ThreadState) → thread_state s th ≡ o → SiteFits p n i known (after_answer p th a s)
      go None e = rw e h
      go (Some w) e = rw e (record { names = h.names; terms = thread_with p is n limit i R known s.equations s.threads s.cell_records th (answered_stack p s a w.0) Runs (answered_fits known th a s w.0 w.1 k e h) h.terms; keeps = h.keeps; sites = h.sites })

  -- ---- requests are served

  -- the end of a port moves, and the new one is made
  sent_fits : (known : List VarName) (q : PortName) (th : ThreadName) (k : ℕ) (end : VarName) (s : Site) → port_end s q ≡ Some end → SiteFits p n i known s → FitsOn p n i R known (port_send_row limit q th k s)
  sent_fits known q th k end s has h = record {
    more = next_var s ∷ known;
    grows = λ x c. Contains-tail (next_var s) x known c;
    new = λ x c. new x (Contains-cons_cases (next_var s) x known c);
    site = moved;
    sent = (carried p is n limit i R (next_var s ∷ known) s.equations (msg.PortEnd th (old_end s q) (next_var s) []) moved.terms.equations moved.terms.nodes moved.terms.homes ((tt, old, Contains-head (next_var s) known, tt), (tt, (tt, tt)), (tt, tt)), tt);
  }
    where
      new : (x : VarName) → (next_var s ≡ x) ⊎ Contains known x → Contains known x ⊎ R x
      new x (inl e) = inr (subst R e (mine (next_var s) h.names.site))
      new x (inr c) = inl c

      made : SiteFits p n i (next_var s ∷ known) (with_fresh_names (kind.Var ∷ []) s)
      made = makes_fits p is n limit i R known (kind.Var ∷ []) s h

      moved : SiteFits p n i (next_var s ∷ known) (with_new_end q s)
      moved = record { names = made.names; terms = made.terms; keeps = keeps_end (next_var s ∷ known) s.ports s.homes q (next_var s) (Contains-head (next_var s) known) made.keeps; sites = made.sites }

      old : Contains (next_var s ∷ known) (old_end s q)
      old = Contains-tail (next_var s) (old_end s q) known (subst (λ (o : Option VarName). Contains known (unwrap_or o (record { site = 0; num = 0 }))) (sym has) (h.keeps.ends q end has))

  serve_fits : (known : List VarName) (c : CellName) (r : EarlyRequest) (v : VarName) (s : Site) → Contains known v → Contains known r.new → (r.asking ≡ s.records.site → IsExchanging p r.thread s) → SiteFits p n i known s → FitsOn p n i R known (serve_request p limit c r v s)
  serve_fits known c r v s hv hn takes h = go (r.asking == s.records.site) refl
    where
      kept : SiteFits p n i known (with_home_content c r.new s)
      kept = content_fits p is n limit some i R mine known s c r.new hn h

      go : (b : Bool) → (r.asking == s.records.site) ≡ b → FitsOn p n i R known (cond b (with_pick (after_answer p r.thread (OldContent v) (with_home_content c r.new s)) (step_pick r.thread [] None))
          (and_then (with_pick (with_home_content c r.new s) (step_pick r.thread [] None)) (λ t. with_messages t (with_own_bundle limit t.equations (sent_message r.asking (msg.CellOld r.thread v [])) ∷ []))))
      go true e = record { more = known; grows = λ x c. c; new = λ x c. inl c; site = answer_fits known r.thread (OldContent v) (with_home_content c r.new s) (hv, takes ((nat_decides r.asking s.records.site).0 e)) kept; sent = tt }
      go false e = record { more = known; grows = λ x c. c; new = λ x c. inl c; site = kept; sent = (carried p is n limit i R known s.equations (msg.CellOld r.thread v []) h.terms.equations h.terms.nodes h.terms.homes ((tt, hv, tt), (tt, (tt, tt)), (tt, tt)), tt) }

  -- another thread of the site goes on to exchange
  served_takes : (c : CellName) (r : EarlyRequest) (v : VarName) (s : Site) (th : ThreadName) → (r.asking ≡ s.records.site → r.thread ≢ th) → IsExchanging p th s → IsExchanging p th (serve_request p limit c r v s).site
  served_takes c r v s th other takes = go (r.asking == s.records.site) refl
    where
      Goal : Site → Type 0
      Goal t = (st : Stack) (m : Mode) → thread_state t th ≡ Some (st, m) → (b : CellName) × (new : VarName) × Asks p s.equations st (ContentOf b new)

      stood : (r.asking == s.records.site) ≡ true → Goal (after_answer p r.thread (OldContent v) (with_home_content c r.new s))
      stood e st m at = by (answer_cases p r.thread (OldContent v) (with_home_content c r.new s) th (st, m) at)
        where
          by : ((r.thread ≡ th) × (m ≡ Runs)) ⊎ (thread_state s th ≡ Some (st, m)) → (b : CellName) × (new : VarName) × Asks p s.equations st (ContentOf b new)
          by (inl k) = absurd (other ((nat_decides r.asking s.records.site).0 e) k.0)
          by (inr k) = takes st m k

      told : (b : Bool) → (r.asking == s.records.site) ≡ b → Goal (cond b (with_pick (after_answer p r.thread (OldContent v) (with_home_content c r.new s)) (step_pick r.thread [] None))
          (and_then (with_pick (with_home_content c r.new s) (step_pick r.thread [] None)) (λ t. with_messages t (with_own_bundle limit t.equations (sent_message r.asking (msg.CellOld r.thread v [])) ∷ [])))).site
      told true e = stood e
      told false e = takes

      go : (b : Bool) → (r.asking == s.records.site) ≡ b → IsExchanging p th (serve_request p limit c r v s).site
      go b e st m at = subst (λ (q : Store). (a : CellName) × (new : VarName) × Asks p q st (ContentOf a new)) (sym (serve_rest p limit c r v s).equations) (told (r.asking == s.records.site) refl st m at)

  -- the site's own threads among those that asked
  own_here : (k : ℕ) (r : EarlyRequest) (rs : List EarlyRequest) → r.asking ≡ k → own_threads k (r ∷ rs) ≡ r.thread ∷ own_threads k rs
  own_here k r rs e = rw ((nat_decides r.asking k).1 e) refl

  own_there : (k : ℕ) (r : EarlyRequest) (rs : List EarlyRequest) (th : ThreadName) → Contains (own_threads k rs) th → Contains (own_threads k (r ∷ rs)) th
  own_there k r rs th at = go (r.asking == k)
    where
      go : (b : Bool) → Contains (cond b (r.thread ∷ own_threads k rs) (own_threads k rs)) th
      go true = Contains-tail r.thread th (own_threads k rs) at
      go false = at

  own_distinct : (k : ℕ) (r : EarlyRequest) (rs : List EarlyRequest) → AreDistinct (own_threads k (r ∷ rs)) → AreDistinct (own_threads k rs)
  own_distinct k r rs h = go (r.asking == k) h
    where
      go : (b : Bool) → AreDistinct (cond b (r.thread ∷ own_threads k rs) (own_threads k rs)) → AreDistinct (own_threads k rs)
      go true h = h.1
      go false h = h

  all_served : (known : List VarName) (c : CellName) (rs : List EarlyRequest) (v : VarName) (s : Site) → Contains known v → ((r : EarlyRequest) → Contains rs r → Contains known r.new) → AreTaking p (own_threads s.records.site rs) s → SiteFits p n i known s → FitsOn p n i R known (serve_early p limit c v rs s)
  all_served known c [] v s hv news takes h = still known _ (home_fits p is n limit some i R mine known s c (record { content = Some v; early = [] }) (λ w e. subst (Contains known) (same v w e) hv) (λ r at. absurd (nothing r at)) h)
    where
      same : (v w : VarName) → ◌≡◌ {A = Option VarName} (Some v) (Some w) → v ≡ w
      same v w e = cc
  all_served known c (r ∷ rs) v s hv news (apart, takes) h =
      fits_then p is n limit i R known (serve_request p limit c r v s) (serve_early p limit c r.new rs)
      (serve_fits known c r v s hv (news r (Contains-head r rs)) (λ own. takes r.thread (subst (λ (ns : List ThreadName). Contains ns r.thread) (sym (own_here s.records.site r rs own)) (Contains-head r.thread (own_threads s.records.site rs)))) h)
      (λ more g k. all_served more c rs r.new (serve_request p limit c r v s).site (g r.new (news r (Contains-head r rs))) (λ q at. g q.new (news q (Contains-tail r q rs at))) rest k)
    where
      other : (th : ThreadName) → Contains (own_threads s.records.site rs) th → r.asking ≡ s.records.site → r.thread ≢ th
      other th at own = Each-member (λ (y : ThreadName). r.thread ≢ y) (own_threads s.records.site rs) th (subst AreDistinct (own_here s.records.site r rs own) apart).0 at

      rest : AreTaking p (own_threads (serve_request p limit c r v s).site.records.site rs) (serve_request p limit c r v s).site
      rest = subst (λ (b : Records). AreTaking p (own_threads b.site rs) (serve_request p limit c r v s).site) (sym (serve_rest p limit c r v s).records)
          (own_distinct s.records.site r rs apart, λ th at. served_takes c r v s th (other th at) (takes th (own_there s.records.site r rs th at)))

  asked_home : (known : List VarName) (c : CellName) (r : EarlyRequest) (s : Site) → Contains known r.new → r.asking ≢ s.records.site → SiteFits p n i known s → FitsOn p n i R known (cell_ask_row p limit c r s)
  asked_home known c r s hn other h = go (home_record s c).content refl
    where
      go : (o : Option VarName) → (home_record s c).content ≡ o → FitsOn p n i R known (cell_ask_row p limit c r s)
      go None e = rw e (still known (with_early c r s) (early_fits p is n limit some i R mine known c r s hn h))
      go (Some v) e = rw e (serve_fits known c r v s (h.keeps.contents c v e) hn (λ own. absurd (other own)) h)

  -- ---- messages

  -- the variables of the message are owned where they have to be
  abbrev pub IsPlacedAt : Site → Msg → Type 0
  IsPlacedAt s (msg.Register x k) = x.site ≡ s.records.site
  IsPlacedAt s (msg.BindReq x th t bundle) = x.site ≡ s.records.site
  IsPlacedAt s (msg.PortSend q th k) = (end : VarName) × (port_end s q ≡ Some end)
  IsPlacedAt s (msg.CellAsk c th k v bundle) = k ≢ s.records.site
  IsPlacedAt s m = Unit {0}

  takes_fits : (known : List VarName) (m : Msg) (s : Site) → MsgFits p n known m → IsPlacedAt s m → TokenWaits p m s → SiteFits p n i known s → FitsOn p n i R known (message_row p limit m s)
  takes_fits known (msg.Spawn th code vars es) s f own w h = still known _ (record { names = h.names; terms = terms_start p n known s.equations s.threads s.cell_records (birth th code vars) f.1.0.0 f.1.0.1 f.0.1 h.terms; keeps = h.keeps; sites = h.sites })
  takes_fits known (msg.Register x k) s f own w h = registered_fits known x k s own f.0 h
  takes_fits known (msg.BindReq x th t es) s f own w h = asked_fits known x t th s own (f.0.0, f.0.2, term_fits p is t f.1.1.0, f.1.1.0, f.2.0) h
  takes_fits known (msg.Binding x t es) s f own w h = still known (with_known_equation s x t) (learns_fits known x t s (f.0.0, f.0.1, term_fits p is t f.1.1.0, f.1.1.0, f.2.0) h)
  takes_fits known (msg.Get c k) s f own w h = get_fits p is n limit some i R mine known c k s h
  takes_fits known (msg.Forward c k) s f own w h = forward_fits p is n limit some i R mine known c k s h
  takes_fits known (msg.Put c v es) s f own w h = comes_fits known c v s h f.0.1 w
  takes_fits known (msg.PortSend q th k) s f own w h = sent_fits known q th k own.0 s own.1 h
  takes_fits known (msg.PortEnd th old new es) s f own w h = still known (after_answer p th (NewEnd old new) s) (answer_fits known th (NewEnd old new) s ((f.0.1, f.0.2), w) h)
  takes_fits known (msg.CellMake c v es) s f own w h = all_served known c (home_record s c).early v s f.0.1 (λ r at. h.keeps.early c r at) w h
  takes_fits known (msg.CellAsk c th k v es) s f own w h = asked_home known c (record { thread = th; asking = k; new = v }) s f.0.2 own h
  takes_fits known (msg.CellOld th v es) s f own w h = still known (after_answer p th (OldContent v) s) (answer_fits known th (OldContent v) s (f.0.1, w) h)

  is_placed : (s t : Site) (m : Msg) → t.records.site ≡ s.records.site → t.ports ≡ s.ports → IsFit p n s m → IsPlacedAt t m
  is_placed s t (msg.Register x k) e ports fit = fit.takes.0 ∙ sym e
  is_placed s t (msg.BindReq x th r bundle) e ports fit = fit.takes.1.0 ∙ sym e
  is_placed s t (msg.Spawn a b c d) e ports fit = tt
  is_placed s t (msg.Binding a b c) e ports fit = tt
  is_placed s t (msg.Get a b) e ports fit = tt
  is_placed s t (msg.Forward a b) e ports fit = tt
  is_placed s t (msg.Put a b c) e ports fit = tt
  is_placed s t (msg.PortSend q th k) e ports fit = (fit.takes.1, subst (λ (ps : List (PortName × VarName)). lookup (equal_port q) ps ≡ Some fit.takes.1) (sym ports) fit.takes.2)
  is_placed s t (msg.PortEnd a b c d) e ports fit = tt
  is_placed s t (msg.CellMake a b c) e ports fit = tt
  is_placed s t (msg.CellAsk c th k v bundle) e ports fit = λ own. fit.sites.2 (own ∙ e)
  is_placed s t (msg.CellOld a b c) e ports fit = tt

  pub receives_fits : (known : List VarName) (m : Msg) (s : Site) → ((x : VarName) → Contains (message_vars m) x → R x) → IsFit p n s m → TokenWaits p m (opening m s).site → SiteFits p n i known s → FitsOn p n i R known (reception p limit m s)
  receives_fits known m s met fit w h = go (opens_fits known m s fit.codes (msg_homes p is n limit some i R mine (IsKnownName n s) (λ x k. k.2) m fit.names) (λ x c own. (msg_vars p is n limit some i R mine (IsKnownName n s) m fit.names x c).3 own) h)
    where
      go : OpensFit known m s → FitsOn p n i R known (reception p limit m s)
      go o = last (takes_fits (message_vars m ++ known) m (opening m s).site o.message (is_placed s (opening m s).site m o.number (told_all_same (λ (u : Site). u.ports) (λ u x r. refl) (message_bundle m) s) fit) w o.site)
        where
          said_or : (x : VarName) → Contains (message_vars m) x ⊎ Contains known x → Contains known x ⊎ R x
          said_or x (inl c) = inr (met x c)
          said_or x (inr c) = inl c

          last : FitsOn p n i R (message_vars m ++ known) (message_row p limit m (opening m s).site) → FitsOn p n i R known (reception p limit m s)
          last k = record {
            more = k.more;
            grows = λ x c. k.grows x (o.grows x c);
            new = new_then R known (message_vars m ++ known) k.more (λ x c. said_or x (Contains-append_cases (message_vars m) known x c)) k.new;
            site = k.site;
            sent = all_append p n k.more (opening m s).sent _ (all_grow p n (message_vars m ++ known) k.more (opening m s).sent k.grows o.sent) k.sent;
          }

  -- ---- turns

  abbrev pub MeetsAs : Option Msg → Type 0
  MeetsAs None = Unit {0}
  MeetsAs (Some m) = (x : VarName) → Contains (message_vars m) x → R x

  pub turn_fits : (known : List VarName) (m : Option Msg) (s : Site) (d : Transition) → MeetsAs m → HeardWaits p m s → SiteFits p n i known s → SiteTurn p n limit s m d → FitsOn p n i R known d
  turn_fits known m s d met w h (ths, few, (heard, rest, first, units, e)) = go (heard_fits m met w first)
    where
      heard_fits : (m : Option Msg) → MeetsAs m → HeardWaits p m s → IsReception p n limit m s heard → FitsOn p n i R known heard
      heard_fits None met w e = subst (FitsOn p n i R known) (sym e) (still known s h)
      heard_fits (Some m) met w (inl e) = subst (FitsOn p n i R known) (sym e.1) (receives_fits known m s met e.0 w h)
      heard_fits (Some m) met w (inr e) = subst (FitsOn p n i R known) (sym e.1) (still known s h)

      go : FitsOn p n i R known heard → FitsOn p n i R known d
      go f = last (units_fits p is n limit some i R mine ths f.more heard.site rest f.site units)
        where
          last : FitsOn p n i R f.more rest → FitsOn p n i R known d
          last k = subst (FitsOn p n i R known) (sym e) (record {
            more = k.more;
            grows = λ x c. k.grows x (f.grows x c);
            new = new_then R known f.more k.more f.new k.new;
            site = k.site;
            sent = all_append p n k.more heard.sent rest.sent (all_grow p n f.more k.more heard.sent k.grows f.sent) k.sent;
          })
