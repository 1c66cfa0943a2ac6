-- What the tests of a site tell.
use Rattle.std.proofs.Common.{◌≡◌, sym, refl, ℕ, Bool, false, None, Some}
use Rattle.std.specs.Prelude.{◌↔◌, IsTrue}
use Rattle.tree_node.specs.declared.names.VarName.{VarName}
use Rattle.tree_node.specs.declared.names.CellName.{CellName}
use Rattle.token_chain.specs.declared.token.Token.{Token}
use Rattle.token_chain.specs.declared.token.Token.TheVariants.{Away, Asked, Here}
use Rattle.token_chain.specs.Holding.{IsHere, CanFollow}
use Rattle.site_cells.specs.Tables.{CellTables, CanPassOn, last_asker_in, record_of}

here_of : (t : Token) → IsHere t → (v : VarName) × (t ≡ Here v)
here_of (Here v) h = (v, refl)
here_of Away h = absurd h
here_of Asked h = absurd h

is_here : (t : Token) → (v : VarName) × (t ≡ Here v) → IsHere t
is_here t (v, e) = rw e tt

-- a token that is here has a content
pub has_content : (b : Bool) (t : Token) → IsTrue b ↔ IsHere t → IsTrue b ↔ ((v : VarName) × (t ≡ Here v))
has_content b t e = ((λ h. here_of t (e.0 h)), (λ h. e.1 (is_here t h)))

-- this site is the one that asked last
pub passes_on : (t : CellTables) (c : CellName) (a : ℕ) (b : Bool) → Some a ≡ last_asker_in t c → a ≡ t.site → IsTrue b ↔ CanFollow (record_of t c).held → IsTrue b ↔ CanPassOn t c (last_asker_in t c)
passes_on t c a b e own test = rw (sym e) ((λ h own. test.0 h), (λ h. test.1 (h own)))

-- nobody asked
pub passes_none : (t : CellTables) (c : CellName) → None ≡ last_asker_in t c → IsTrue false ↔ CanPassOn t c (last_asker_in t c)
passes_none t c e = rw (sym e) ((λ h. cc), (λ h. absurd h))
