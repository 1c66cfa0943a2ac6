-- How the run of a site goes on as the journal grows.
use Rattle.std.proofs.Common.{◌≡◌, ℕ, ◌≤◌, List, [], ◌∷◌, ◌++◌, length, cond, Bool, true, false, eqb, ne_eqb, Option, Some, None, refl, sym, ap, ◌∙◌, subst, arith, le_refl}
use Rattle.std.specs.Prelude.{slice_get}
use Rattle.kernel_syntax.specs.declared.stmt.Stmt.{Stmt}
use Rattle.site_message.specs.declared.message.Msg.{Msg}
use Rattle.site_message.specs.declared.message.Sent.{Sent}
use Rattle.site_message.specs.declared.turn.Turn.{Turn}
use Rattle.site_message.specs.Journal.{sent_of}
use Rattle.site_message.specs.Story.{own}
use Rattle.message_book.specs.Book.{AreSites, IsSiteOf}
use Rattle.book_lock.specs.Rule.{IsContinuation, Each}
use Rattle.site_model.specs.Site.{Site, initial_site}
use Rattle.site_model.specs.Run.{SiteRun, IsSiteIn, delivered_message, message_of}
use Rattle.site_core.specs.Site.{message_in, number_in}
use Rattle.site_message.proofs.JournalLemmas.{sent_later, sent_more}
use Rattle.site_model.proofs.RunLemmas.{run_skip}

-- ---- messages

sent_with : (o : Option Sent) (m : Msg) → message_of o ≡ Some m → (s : Sent) × (o ≡ Some s) × (message_of (Some s) ≡ Some m)
sent_with None m e = absurd (cc)
sent_with (Some s) m e = (s, refl, e)

-- a message that was taken keeps its number
pub message_later : (old new : List Turn) (o : Option (ℕ × Msg)) → IsContinuation new old → delivered_message old (number_in o) ≡ message_in o → delivered_message new (number_in o) ≡ message_in o
message_later old new None on h = refl
message_later old new (Some x) on h =
    let t = sent_later on.0 old in
    let s = sent_with (slice_get (sent_of old) x.0) x.1 h in
    ap (λ l. message_of (slice_get l x.0)) (ap sent_of on.1 ∙ t.1) ∙ (ap message_of (sent_more (sent_of old) t.0 x.0 s.0 s.1) ∙ s.2)

-- ---- runs

own_step : (k : ℕ) (e : Turn) (j : List Turn) (n : ℕ) (b : Bool) → eqb e.site k ≡ b → n ≤ length (own k j) → n ≤ length (own k (e ∷ j))
own_step k e j n true is h = rw is (omega arith)
own_step k e j n false is h = rw is h

own_longer : (k : ℕ) (more j : List Turn) → length (own k j) ≤ length (own k (more ++ j))
own_longer k [] j = le_refl (length (own k j))
own_longer k (e ∷ more) j = own_step k e (more ++ j) (length (own k j)) (eqb e.site k) refl (own_longer k more j)

module _ (p : List Stmt) (n limit k : ℕ) where
  more_step : (e : Turn) (more j : List Turn) (s : Site) (b : Bool) → eqb e.site k ≡ b → own k (e ∷ (more ++ j)) ≡ own k j → (own k (more ++ j) ≡ own k j → SiteRun p n limit k (more ++ j) s) → SiteRun p n limit k (e ∷ (more ++ j)) s
  more_step e more j s true is same rest =
      let first : own k (e ∷ (more ++ j)) ≡ e ∷ own k (more ++ j) = ap (λ b. cond b (e ∷ own k (more ++ j)) (own k (more ++ j))) is in
      let long = ap length (sym first ∙ same) in
      let least = own_longer k more j in
      absurd (omega arith)
  more_step e more j s false is same rest =
      let others : own k (e ∷ (more ++ j)) ≡ own k (more ++ j) = ap (λ b. cond b (e ∷ own k (more ++ j)) (own k (more ++ j))) is in
      run_skip p n limit k e (more ++ j) s is (rest (sym others ∙ same))

  run_more : (more j : List Turn) (s : Site) → own k (more ++ j) ≡ own k j → SiteRun p n limit k j s → SiteRun p n limit k (more ++ j) s
  run_more [] j s same run = run
  run_more (e ∷ more) j s same run = more_step e more j s (eqb e.site k) refl same (λ others. run_more more j s others run)

  -- a longer journal in which the site has no new entry
  pub run_later : (old new : List Turn) (s : Site) → IsContinuation new old → own k new ≡ own k old → SiteRun p n limit k old s → SiteRun p n limit k new s
  run_later old new s on same run = subst (λ j. SiteRun p n limit k j s) (sym on.1) (run_more on.0 old s (ap (own k) (sym on.1) ∙ same) run)

  -- a site without entries
  pub run_none : (m : ℕ) (j : List Turn) → AreSites m j → (IsSiteOf m k → ⊥) → SiteRun p n limit k j (initial_site p n k)
  run_none m [] are no_site = refl
  run_none m (e ∷ j) are no_site = run_skip p n limit k e j (initial_site p n k) (ne_eqb e.site k (λ is. no_site (subst (IsSiteOf m) is are.0))) (run_none m j are.1 no_site)

-- each turn is of a site 1 to n
pub each_site : (n : ℕ) (j : List Turn) → AreSites n j → Each (IsSiteIn n) j
each_site n [] are = tt
each_site n (e ∷ j) are = (are.0, each_site n j are.1)
