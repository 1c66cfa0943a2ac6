-- How many messages on variables there are in a run: each site asks once for each variable that it met, and is told once.
use Rattle.std.specs.Prelude.{◌≡◌, ℕ, ◌≤◌, List}
use Rattle.tree_node.specs.declared.names.VarName.{VarName}
use Rattle.kernel_syntax.specs.declared.stmt.Stmt.{Stmt}
use Rattle.site_message.specs.declared.turn.Turn.{Turn}
use Rattle.site_message.specs.Journal.{sent_of}
use Rattle.site_model.specs.Site.{Site}
use Rattle.site_model.specs.Run.{WorldRun}
use Rattle.bind_protocol.specs.Lawful.{register_count, binding_count}

-- in every run each site sends at most one Register for a variable, and is sent at most one Binding
abbrev pub OncePerSite : Type 0
OncePerSite =
    (p : List Stmt) (n limit : ℕ) (j : List Turn) (f : ℕ → Site) → WorldRun p n limit j f → (i : ℕ) (x : VarName) →
    (register_count x i (sent_of j) ≤ 1) × (binding_count x i (sent_of j) ≤ 1)

-- and none for its own
abbrev pub NoneOfOwn : Type 0
NoneOfOwn =
    (p : List Stmt) (n limit : ℕ) (j : List Turn) (f : ℕ → Site) → WorldRun p n limit j f → (i : ℕ) (x : VarName) → i ≡ x.site →
    (register_count x i (sent_of j) ≡ 0) × (binding_count x i (sent_of j) ≡ 0)
