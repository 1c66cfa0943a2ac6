-- What a site knows stays known.
use Rattle.std.specs.Prelude.{ℕ, List}
use Rattle.kernel_syntax.specs.declared.stmt.Stmt.{Stmt}
use Rattle.site_message.specs.declared.turn.Turn.{Turn}
use Rattle.oz_model.specs.Answers.{IsPartOf}
use Rattle.site_model.specs.Site.{Site}
use Rattle.site_model.specs.Run.{IsEntry}

-- whatever its entry does, a site has after it each equation that it had before
abbrev pub EquationsStay : Type 0
EquationsStay =
    (p : List Stmt) (n limit : ℕ) (j : List Turn) (e : Turn) (old new : Site) → IsEntry p n limit j e old new → IsPartOf old.equations new.equations
