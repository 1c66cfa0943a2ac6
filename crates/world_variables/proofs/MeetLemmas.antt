-- Names that are met, and registrations.
use Rattle.std.proofs.Common.{◌≡◌, ◌∙◌, sym, ap, refl, subst, ℕ, List, [], ◌∷◌, ◌++◌, ◌⊎◌, inl, inr, Some, None, append-nil}
use Rattle.std.specs.Prelude.{Option, Contains, ◌≢◌, ◌↔◌, is_some, IsTrue}
use Rattle.tree_node.specs.declared.names.VarName.{VarName}
use Rattle.tree_node.specs.declared.names.Name.{Name}
use Rattle.tree_node.specs.declared.names.Name.TheVariants as name
use Rattle.tree_node.specs.declared.node.Term.{Term}
use Rattle.tree_node.specs.State.{State}
use Rattle.tree_node.specs.Store.{Store}
use Rattle.tree_node.proofs.ClassLemmas.{Contains-cons_cases, Contains-head}
use Rattle.kernel_syntax.specs.declared.stmt.Stmt.{Stmt}
use Rattle.site_message.specs.declared.message.Msg.{Msg}
use Rattle.site_message.specs.declared.message.Msg.TheVariants as msg
use Rattle.site_message.specs.declared.message.Sent.{Sent}
use Rattle.bind_protocol.specs.Records.{Records, knowledge, IsKnown, sites_in}
use Rattle.bind_protocol.specs.Rows.{after_meet, meet_sends, register}
use Rattle.site_model.specs.Site.{Threads, Counters}
use Rattle.site_model.specs.Fit as Fit
use Rattle.world_model.specs.World.{Mail, IsOnItsWay, at_put, mail_from}
use Rattle.world_model.specs.Names.{IsHere, IsMade, KnownAreMade}
use Rattle.world_model.specs.Matches.{IsTold, PartsMatch}
use Rattle.world_model.proofs.PutLemmas.{at_all, at_own}
use Rattle.world_model.proofs.MailLemmas.{nothing, sent_to, Posts, posts}
use Rattle.world_variables.proofs.AlikeLemmas.{knowledge_posts, told_posts, addressed_posts, said_posts, waiting_posts, placed_posts, Wider, kept_wider, addressed_wider, told_wider, waiting_wider}
use Rattle.bind_protocol.proofs.RowCountLemmas.{name_cases}
use Rattle.bind_protocol.proofs.LearnLemmas.{meet_case}
use Rattle.bind_protocol.specs.Learn.{HasLearned, MeetCase}

-- a site knows one more name, unbound
pub learns_wider : (records : ℕ → Records) (i : ℕ) (b : Records) (x : VarName) → HasLearned (records i) b x (Some None) → knowledge (records i) x ≡ None →
    ((y : VarName) (k : ℕ) → Contains (sites_in (records i) y) k → Contains (sites_in b y) k) → Wider records (at_put records i b)
learns_wider records i b x l none listed = record {
  site = at_all records i b (λ j (o : Records). o.site ≡ (records j).site) l.site (λ j other. refl);
  known = at_all records i b (λ j (o : Records). (y : VarName) → IsKnown (records j) y → IsKnown o y) (λ y h. known y (name_cases y x) h) (λ j other y h. h);
  bound = at_all records i b (λ j (o : Records). (y : VarName) (t : Term) → knowledge o y ≡ Some (Some t) → knowledge (records j) y ≡ Some (Some t)) (λ y t h. bound y t (name_cases y x) h) (λ j other y t h. h);
  held = at_all records i b (λ j (o : Records). (y : VarName) (t : Term) → knowledge (records j) y ≡ Some (Some t) → knowledge o y ≡ Some (Some t)) (λ y t h. held y t (name_cases y x) h) (λ j other y t h. h);
  listed = at_all records i b (λ j (o : Records). (y : VarName) (k : ℕ) → Contains (sites_in (records j) y) k → Contains (sites_in o y) k) listed (λ j other y k h. h);
}
  where
    known : (y : VarName) → (y ≡ x) ⊎ (y ≢ x) → IsKnown (records i) y → IsKnown b y
    known y (inl e) h = subst (λ (z : VarName). IsKnown b z) (sym e) (rw l.here refl)
    known y (inr other) h = rw (l.others y other) h

    bound : (y : VarName) (t : Term) → (y ≡ x) ⊎ (y ≢ x) → knowledge b y ≡ Some (Some t) → knowledge (records i) y ≡ Some (Some t)
    bound y t (inl e) h =
        let unbound : knowledge b y ≡ Some None = rw e l.here in
        let both : Some None ≡ Some (Some t) = sym unbound ∙ h in cc
    bound y t (inr other) h = sym (l.others y other) ∙ h

    held : (y : VarName) (t : Term) → (y ≡ x) ⊎ (y ≢ x) → knowledge (records i) y ≡ Some (Some t) → knowledge b y ≡ Some (Some t)
    held y t (inl e) h =
        let unknown : knowledge (records i) y ≡ None = rw e none in
        let both : None ≡ Some (Some t) = sym unknown ∙ h in cc
    held y t (inr other) h = l.others y other ∙ h

module _ (p : List Stmt) (here : ℕ → Name → Type 0) (eqs : ℕ → Store) (records : ℕ → Records) (threads : ℕ → Threads) (made : ℕ → Counters) (mail : Mail) (s : State) (parts : PartsMatch p here eqs records threads made mail s) where
  made_here : (x : VarName) → IsMade made (name.Var x) → IsHere (records x.site) x
  made_here x (inl zero) = inl zero
  made_here x (inr h) = inr ((parts.makers.own x.site x refl).0 h)

  -- site i meets x, which was made
  pub meet_parts : (i k : ℕ) (x : VarName) → IsMade made (name.Var x) →
      PartsMatch p here eqs (at_put records i (after_meet (records i) x)) threads made (mail ++ mail_from k (meet_sends (records i) x)) s
  meet_parts i k x real = go (meet_case (records i) x)
    where
      go : MeetCase (records i) x → PartsMatch p here eqs (at_put records i (after_meet (records i) x)) threads made (mail ++ mail_from k (meet_sends (records i) x)) s
      go (inl (same, none, known)) = rw (same, none, at_own records i, append-nil mail) parts
      go (inr (l, none, elsewhere, sends, owners)) = rw sends new
        where
          b : Records
          b = after_meet (records i) x

          more : Mail
          more = mail ++ mail_from k (register x (records i).site ∷ [])

          out : List Sent
          out = register x (records i).site ∷ []

          wide : Wider records (at_put records i b)
          wide = learns_wider records i b x l none (λ y o h. rw owners h)

          sent : Posts mail more out
          sent = posts mail k out

          only : (to : ℕ) (m : Msg) → Contains out (sent_to to m) → (to ≡ x.site) × (m ≡ msg.Register x (records i).site)
          only to m h = one (Contains-cons_cases _ _ [] h)
            where
              one : (register x (records i).site ≡ sent_to to m) ⊎ Contains [] (sent_to to m) → (to ≡ x.site) × (m ≡ msg.Register x (records i).site)
              one (inl e) = (sym (ap (λ (o : Sent). o.to) e), sym (ap (λ (o : Sent). o.msg) e))
              one (inr q) = absurd (nothing _ q)

          told : (j : ℕ) (y : VarName) → knowledge (at_put records i b j) y ≡ Some None → y.site ≢ j → IsTold (at_put records i b) more j y
          told = at_all records i b (λ j (o : Records). (y : VarName) → knowledge o y ≡ Some None → y.site ≢ j → IsTold (at_put records i b) more j y)
              (λ y unbound other. at_i y unbound other (name_cases y x)) (λ j other y unbound far. old j y (parts.told j y unbound far))
            where
              old : (j : ℕ) (y : VarName) → IsTold records mail j y → IsTold (at_put records i b) more j y
              old j y h = told_wider records (at_put records i b) wide more j y (told_posts mail more out sent records j y h)

              at_i : (y : VarName) → knowledge b y ≡ Some None → y.site ≢ i → (y ≡ x) ⊎ (y ≢ x) → IsTold (at_put records i b) more i y
              at_i y unbound far (inr other) = old i y (parts.told i y (sym (l.others y other) ∙ unbound) far)
              at_i y unbound far (inl e) =
                  let site : (records i).site ≡ i = (parts.kept i).site in
                  let posted = sent.new x.site (msg.Register x (records i).site) (Contains-head _ []) in
                  inr (inl (posted.0, subst (λ (z : VarName). IsOnItsWay more posted.0 z.site (msg.Register z i)) (sym e) (subst (λ (o : ℕ). IsOnItsWay more posted.0 x.site (msg.Register x o)) site posted.1)))

          new : PartsMatch p here eqs (at_put records i b) threads made more s
          new = record {
            knowledge = knowledge_posts mail more out sent eqs s.equations (λ to m h. rw (only to m h).1 tt) parts.knowledge;
            kept = kept_wider records (at_put records i b) wide eqs parts.kept;
            placed = placed_posts mail more out sent p threads s.threads (λ to n code vars bundle h. let e = (only to _ h).1 in cc) parts.placed;
            told = told;
            addressed = addressed_wider records (at_put records i b) wide more
                (addressed_posts mail more out sent records (λ to m h. rw (only to m h).1 ((only to m h).0, made_here x real)) parts.addressed);
            waiting = waiting_wider records (at_put records i b) wide p eqs threads more s.equations
                (waiting_posts mail more out sent p eqs records threads s.equations (λ to y t n bundle h. let e = (only to _ h).1 in cc) parts.waiting);
            homes = parts.homes;
            centred = parts.centred;
            makers = makers;
            said = said_posts mail more out sent made (λ to m h. rw (only to m h).1 real) parts.said;
          }
            where
              makers : KnownAreMade (at_put records i b) made
              makers = record {
                own = at_all records i b (λ j (o : Records). (y : VarName) → y.site ≡ j → Fit.IsBelowCounter (made j) (name.Var y) ↔ IsKnown o y)
                    (λ y at. own y at (name_cases y x)) (λ j other y at. parts.makers.own j y at);
                met = at_all records i b (λ j (o : Records). (y : VarName) → IsKnown o y → IsMade made (name.Var y)) (λ y h. met y h (name_cases y x)) (λ j other y h. parts.makers.met j y h);
              }
                where
                  own : (y : VarName) → y.site ≡ i → (y ≡ x) ⊎ (y ≢ x) → Fit.IsBelowCounter (made i) (name.Var y) ↔ IsKnown b y
                  own y at (inl e) = absurd (elsewhere (sym (ap (λ (z : VarName). z.site) e) ∙ at ∙ sym (parts.kept i).site))
                  own y at (inr other) = rw (l.others y other) (parts.makers.own i y at)

                  met : (y : VarName) → IsKnown b y → (y ≡ x) ⊎ (y ≢ x) → IsMade made (name.Var y)
                  met y h (inl e) = subst (λ (z : VarName). IsMade made (name.Var z)) (sym e) real
                  met y h (inr other) = parts.makers.met i y (subst (λ (o : Option (Option Term)). IsTrue (is_some o)) (l.others y other) h)
