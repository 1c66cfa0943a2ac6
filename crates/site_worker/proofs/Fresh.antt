-- New hosts.
use Rattle.std.proofs.Common.{◌≡◌, ℕ, ◌≤◌, List, [], true, false, refl, sym, ap, ◌∙◌, subst, arith}
use Rattle.atomic_table.specs.Seated.{TableId}
use Rattle.tree_node.specs.Each.{Each}
use Rattle.kernel_syntax.specs.Program.{IsProgram}
use Rattle.site_message.specs.declared.turn.Turn.{Turn}
use Rattle.site_message.specs.declared.story.NoSeat.{NoSeat}
use Rattle.site_message.specs.Story.{own, hand}
use Rattle.message_book.specs.Book.{IsSiteOf}
use Rattle.book_lock.specs.declared.lock.SiteSeat.{SiteSeat}
use Rattle.book_lock.specs.Seats.{last_seen, IsOutsideOf}
use Rattle.site_model.specs.Site.{Site, initial_site}
use Rattle.site_core.specs.Site.{SiteState}
use Rattle.site_worker.specs.declared.host.Host.{Host}
use Rattle.site_worker.specs.Inside.{book_sites, book_steps}
use Rattle.site_worker.specs.Host.{IsHost, IsNewSeat, IsRunTo, state_of, sight, sites_of, program_of}

off : false ≡ true → ⊥
off e = cc

no_entries : (h : Host) (es : List Turn) → es ≡ [] → IsRunTo h es (initial_site (program_of h) (sites_of h) h.number)
no_entries h es none = subst (λ (es : List Turn). IsRunTo h es (initial_site (program_of h) (sites_of h) h.number)) (sym none) refl

-- a new site with its new seat
pub new_host : (t : TableId) (h : Host) (v : SiteState NoSeat) (x : SiteSeat) → h.site ≡ record { program = v.program; sites = v.sites; state = v.state; order = v.order; spent = v.spent; seat = x }
    → v.state ≡ initial_site v.program v.sites x.site → v.spent ≡ false → h.number ≡ x.site → h.spent ≡ false → IsProgram v.program → v.sites ≤ 64 → IsNewSeat t v.sites x → IsHost t h
new_host t h v x is start fresh mine live real few new =
    let seat : h.site.seat ≡ x = ap (λ (w : SiteState SiteSeat). w.seat) is in
    let program : program_of h ≡ v.program = ap (λ (w : SiteState SiteSeat). w.program) is in
    let sites : sites_of h ≡ v.sites = ap (λ (w : SiteState SiteSeat). w.sites) is in
    let none : (sight h).entries ≡ [] = ap (λ (z : SiteSeat). (last_seen z).entries) seat ∙ new.3 in
    let state : state_of h ≡ initial_site (program_of h) (sites_of h) h.number =
    ap (λ (w : SiteState SiteSeat). w.state) is ∙ (start ∙ (λ i. initial_site (sym program i) (sym sites i) (sym mine i))) in
    let run = no_entries h (sight h).entries none in
    record {
      seated = record {
        outside = subst (IsOutsideOf t) (sym seat) new.0;
        seat = mine ∙ ap (λ (z : SiteSeat). z.site) (sym seat);
        site = ap (λ (s : Site). s.records.site) state;
        sites = ap (λ (z : SiteSeat). book_sites (last_seen z)) seat ∙ (new.2 ∙ sym sites);
        range = subst (λ (z : ℕ × ℕ). IsSiteOf z.0 z.1) (λ i. (sym sites i, sym mine i)) new.1;
        most = subst (λ (n : ℕ). n ≤ 64) (sym sites) few;
        limit = subst (λ (z : SiteSeat). book_steps (last_seen z) ≤ 1000000000) (sym seat) new.5;
        program = subst IsProgram (sym program) real;
      };
      state = initial_site (program_of h) (sites_of h) h.number;
      run = run;
      live = λ _. (
        record { run = run; state = state; live = ap (λ (w : SiteState SiteSeat). w.spent) is ∙ fresh },
        subst (λ (k : ℕ). hand k (sight h).hands ≡ []) (sym mine) (ap (λ (z : SiteSeat). hand x.site (last_seen z).hands) seat ∙ new.4),
      );
      over = λ yes. absurd (off (sym live ∙ yes));
      steps = omega arith;
      within = subst (λ (es : List Turn). Each (λ (e : Turn). e.steps ≤ book_steps (sight h)) (own h.number es)) (sym none) tt;
    }
