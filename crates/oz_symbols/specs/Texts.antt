-- Texts that are made once, by how they are spelled.
use Rattle.std.specs.Prelude.{◌≡◌, ℕ, List}
use Rattle.std.specs.Borrow.{Bor}
use Rattle.tree_node.specs.Each.{Each}

-- texts, each with the bytes that spell it
abbrev pub Entries : Type 0
Entries = List (Bor (List ℕ) × List ℕ)

-- each is the text that is spelled so
abbrev pub AreSpelled : Entries → Type 0
AreSpelled entries = Each (λ (e : Bor (List ℕ) × List ℕ). e.1 ≡ e.0.now) entries
