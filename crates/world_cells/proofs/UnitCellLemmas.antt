-- Cells in a step of a thread: one is made, or exchanged where its token is.
use Rattle.std.proofs.Common.{◌≡◌, ◌∙◌, sym, ap, refl, ℕ, List, [], ◌∷◌, Some, None, option_to_list}
use Rattle.std.specs.Map.{lookup}
use Rattle.tree_node.specs.declared.names.VarName.{VarName}
use Rattle.tree_node.specs.declared.names.CellName.{CellName}
use Rattle.tree_node.specs.declared.names.NameKind.{NameKind}
use Rattle.tree_node.specs.declared.pick.Pick.{Pick}
use Rattle.tree_node.specs.Assoc.{value_of, with_value}
use Rattle.tree_node.specs.Goal.{equal_cell}
use Rattle.kernel_syntax.specs.declared.stmt.Stmt.{Stmt}
use Rattle.oz_model.specs.Effect.{CellChange, Stays, Made, Exchanged, Effect}
use Rattle.oz_model.proofs.ExchangeLemmas.{put_here, put_there}
use Rattle.token_chain.specs.declared.token.Token.TheVariants.{Here}
use Rattle.token_chain.specs.Holding.{here_with}
use Rattle.token_chain.specs.Rows.{reply_without_mail}
use Rattle.token_chain.proofs.MoveLemmas.{making_starts, exchange_keeps, tokens_have_contents}
use Rattle.site_model.specs.Site.{Site, CellRecord, cell_record_in, cell_record, last_asker}
use Rattle.site_model.specs.Transition.{Transition, with_pick, and_then, with_lines}
use Rattle.site_model.specs.Variables.{own_binds}
use Rattle.site_model.specs.Unit.{with_fresh_names, birth_row, after_cell, after_effect, step_row}
use Rattle.world_model.specs.World.{World, after_transition}
use Rattle.site_model.proofs.CellKeyLemmas.{entry_here, entry_other, place_here, place_other}
use Rattle.world_cells.proofs.ReplyLemmas.{Answers, Manages}
use Rattle.world_cells.proofs.ChainLemmas.{CellsAt, NowhereAt, ChainAt, none_came, row_cells, cells_stay, last_put, last_same}
use Rattle.world_cells.proofs.FrameLemmas.{NoCells, AreOfNone, silent_list, weightless, none_append, begins_nothing, bears_nothing}
use Rattle.oz_model.proofs.KindLemmas.{cell_same, cells_differ}

module _ (p : List Stmt) (n limit : ℕ) (k : Pick) (kinds : List NameKind) (e : Effect) (s : Site) where
  abbrev pub begun : Transition
  begun = and_then (with_pick (with_fresh_names kinds s) k) (own_binds limit e.adds)

  abbrev stepped : Transition
  stepped = step_row p n limit k kinds e s

  pub begins : NoCells s begun
  begins = begins_nothing limit k kinds e.adds s

  abbrev before_birth : Transition
  before_birth = and_then begun (λ t. with_lines (option_to_list e.line) (after_effect k.thread e t))

  born : NoCells before_birth.site (birth_row p n limit e.born before_birth.site)
  born = bears_nothing p n limit e.born before_birth.site

  pub step_places : stepped.site.cell_records ≡ (after_cell e.cell begun.site).cell_records
  step_places = born.cell_records

  pub step_managers : stepped.site.managers ≡ (after_cell e.cell begun.site).managers
  step_managers = born.managers

  pub step_silent : AreOfNone stepped.sent
  step_silent = none_append before_birth.sent _ (none_append begun.sent [] begins.silent tt) born.silent

  -- no cell changes
  pub stays_nothing : e.cell ≡ Stays → NoCells s stepped
  stays_nothing is = record {
    cell_records = step_places ∙ ap (λ (c : CellChange). (after_cell c begun.site).cell_records) is ∙ begins.cell_records;
    managers = step_managers ∙ ap (λ (c : CellChange). (after_cell c begun.site).managers) is ∙ begins.managers;
    site = born.site ∙ same_site e.cell ∙ begins.site;
    silent = step_silent;
  }
    where
      same_site : (c : CellChange) → (after_cell c begun.site).records.site ≡ begun.site.records.site
      same_site Stays = refl
      same_site (Made c v) = refl
      same_site (Exchanged c new told) = refl

  -- one is exchanged
  pub exchanged_answers : (c : CellName) (new told : VarName) → e.cell ≡ Exchanged c new told → Answers c (reply_without_mail (record (cell_record s c).held { token = Here new })) s stepped
  exchanged_answers c new told is = record {
    held = ap (λ (q : CellRecord). q.held) (at c ∙ place_here begun.site.cell_records c _) ∙ ap (λ (q : CellRecord). record q.held { token = Here new }) (was c);
    others = λ b h. at b ∙ place_other begun.site.cell_records c b _ h ∙ was b;
    sent = λ m. silent_list c stepped.sent step_silent m;
    silent = λ b h m. silent_list b stepped.sent step_silent m;
    kinds = λ g f u. weightless c g f u stepped.sent step_silent;
    no_kinds = λ b h g f u. weightless b g f u stepped.sent step_silent;
  }
    where
      was : (b : CellName) → cell_record begun.site b ≡ cell_record s b
      was b = ap (λ (qs : List (CellName × CellRecord)). cell_record_in qs b) begins.cell_records

      at : (b : CellName) → cell_record stepped.site b ≡ cell_record (after_cell (Exchanged c new told) begun.site) b
      at b = ap (λ (qs : List (CellName × CellRecord)). cell_record_in qs b) (step_places ∙ ap (λ (x : CellChange). (after_cell x begun.site).cell_records) is)

  pub exchanged_managers : (c : CellName) (new told : VarName) → e.cell ≡ Exchanged c new told → stepped.site.managers ≡ s.managers
  exchanged_managers c new told is = step_managers ∙ ap (λ (x : CellChange). (after_cell x begun.site).managers) is ∙ begins.managers

  -- one is made
  pub made_answers : (c : CellName) (v : VarName) → e.cell ≡ Made c v → Answers c (reply_without_mail (here_with v)) s stepped
  made_answers c v is = record {
    held = ap (λ (q : CellRecord). q.held) (at c ∙ place_here begun.site.cell_records c _);
    others = λ b h. at b ∙ place_other begun.site.cell_records c b _ h ∙ was b;
    sent = λ m. silent_list c stepped.sent step_silent m;
    silent = λ b h m. silent_list b stepped.sent step_silent m;
    kinds = λ g f u. weightless c g f u stepped.sent step_silent;
    no_kinds = λ b h g f u. weightless b g f u stepped.sent step_silent;
  }
    where
      was : (b : CellName) → cell_record begun.site b ≡ cell_record s b
      was b = ap (λ (qs : List (CellName × CellRecord)). cell_record_in qs b) begins.cell_records

      at : (b : CellName) → cell_record stepped.site b ≡ cell_record (after_cell (Made c v) begun.site) b
      at b = ap (λ (qs : List (CellName × CellRecord)). cell_record_in qs b) (step_places ∙ ap (λ (x : CellChange). (after_cell x begun.site).cell_records) is)

  pub made_manages : (c : CellName) (v : VarName) → e.cell ≡ Made c v → Manages c (Some s.records.site) s stepped
  made_manages c v is = record {
    here = at c ∙ entry_here begun.site.managers c begun.site.records.site ∙ ap Some begins.site;
    others = λ b h. at b ∙ entry_other begun.site.managers c b begun.site.records.site h ∙ ap (lookup (equal_cell b)) begins.managers;
  }
    where
      at : (b : CellName) → last_asker stepped.site b ≡ last_asker (after_cell (Made c v) begun.site) b
      at b = ap (lookup (equal_cell b)) (step_managers ∙ ap (λ (x : CellChange). (after_cell x begun.site).managers) is)

-- ---- in the world

module _ (p : List Stmt) (n limit : ℕ) (k : Pick) (kinds : List NameKind) (e : Effect) (w : World) (i : ℕ) (cells : List (CellName × VarName)) (all : CellsAt w.sites w.mail cells) where
  abbrev unit_deed : Transition
  unit_deed = step_row p n limit k kinds e (w.sites i)

  -- a step that leaves cells alone
  pub stays_cells : e.cell ≡ Stays → CellsAt (after_transition w i unit_deed).sites (after_transition w i unit_deed).mail cells
  stays_cells is =
      let q = stays_nothing p n limit k kinds e (w.sites i) is in
      cells_stay w i unit_deed w.mail cells (λ b. ap (λ (qs : List (CellName × CellRecord)). cell_record_in qs b) q.cell_records) (λ b. ap (lookup (equal_cell b)) q.managers)
      (λ b m. silent_list b unit_deed.sent q.silent m) (λ b m. refl) all

  -- the token is here, with the content that the machine's cell has, and the exchange changes both
  pub exchange_cells : (c : CellName) (new told u v : VarName) → e.cell ≡ Exchanged c new told → (cell_record (w.sites i) c).held.token ≡ Here u → value_of equal_cell cells c ≡ Some v →
      (u ≡ v) × CellsAt (after_transition w i unit_deed).sites (after_transition w i unit_deed).mail (with_value equal_cell cells c new)
  exchange_cells c new told u v is here value =
      let chain : ChainAt w.sites w.mail c v = all.chains c v value in
      let l = exchanged_managers p n limit k kinds e (w.sites i) c new told is in (
        (tokens_have_contents chain.0 _ _ v u i chain.2 here).0,
        row_cells w w.mail i c [] cells (with_value equal_cell cells c new) unit_deed _ all (none_came c w.mail) (λ b d m. refl) (exchanged_answers p n limit k kinds e (w.sites i) c new told is)
            (λ b d. ap (lookup (equal_cell b)) l) (λ b d. put_there cells c b new (cells_differ c b (λ x. d (sym x)))) new (put_here cells c v new value)
            (λ replies. (chain.0, last_same w.sites i unit_deed.site c (ap (lookup (equal_cell c)) l) ∙ chain.1, exchange_keeps chain.0 _ _ _ _ v u new i chain.2 here replies)),
      )

  -- a cell is made
  pub made_cells : (c : CellName) (v : VarName) → e.cell ≡ Made c v → c.site ≡ i → (w.sites i).records.site ≡ i → value_of equal_cell cells c ≡ None →
      CellsAt (after_transition w i unit_deed).sites (after_transition w i unit_deed).mail ((c, v) ∷ cells)
  made_cells c v is at number none =
      let nowhere : NowhereAt w.sites w.mail c = all.others c none in
      let m = made_manages p n limit k kinds e (w.sites i) c v is in
      row_cells w w.mail i c [] cells ((c, v) ∷ cells) unit_deed _ all (none_came c w.mail) (λ b d m. refl) (made_answers p n limit k kinds e (w.sites i) c v is) m.others
      (λ b d. rw (cells_differ c b (λ x. d (sym x))) refl) v (rw (cell_same c) refl)
      (λ replies. (i, last_put w.sites i unit_deed.site c (sym at) ∙ m.here ∙ ap Some number, making_starts _ _ _ _ i v nowhere.away nowhere.quiet replies))
