-- A transition of a site, in a part of a turn: the site afterwards, its picks, the messages that it sent and the lines that
-- it printed.
use Rattle.std.specs.Prelude.{ℕ, List, [], ◌∷◌, ◌++◌}
use Rattle.tree_node.specs.declared.pick.Pick.{Pick}
use Rattle.site_message.specs.declared.message.Sent.{Sent}
use Rattle.site_model.specs.Site.{Site}

-- what a site does: its state afterwards, the picks that it made, the messages that it sent and the lines that it printed, in order
pub record Transition : Type 0 where
  pub site : Site
  pub picks : List Pick
  pub sent : List Sent
  pub lines : List (List ℕ)

-- to this site, and nothing else
abbrev pub without_output : Site → Transition
without_output s = record { site = s; picks = []; sent = []; lines = [] }

-- to this site, with these messages
abbrev pub with_messages : Site → List Sent → Transition
with_messages s ms = record { site = s; picks = []; sent = ms; lines = [] }

-- to this site, with this pick
abbrev pub with_pick : Site → Pick → Transition
with_pick s k = record { site = s; picks = k ∷ []; sent = []; lines = [] }

-- to this site, with these lines
abbrev pub with_lines : List (List ℕ) → Site → Transition
with_lines lines s = record { site = s; picks = []; sent = []; lines = lines }

-- one transition and then another
abbrev pub sequence : Transition → Transition → Transition
sequence d e = record { site = e.site; picks = d.picks ++ e.picks; sent = d.sent ++ e.sent; lines = d.lines ++ e.lines }

-- a transition, and then the one that the site makes there
abbrev pub and_then : Transition → (Site → Transition) → Transition
and_then d f = sequence d (f d.site)
