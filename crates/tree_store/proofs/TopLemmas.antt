-- Entries of classes, as searches find them.
use Rattle.std.proofs.Common.{arith, ◌≡◌, ◌∙◌, sym, ap, refl, [], ◌∷◌, length}
use Rattle.tree_node.specs.declared.names.VarName.{VarName}
use Rattle.tree_store.specs.declared.links.ClassEntry.{ClassEntry}
use Rattle.tree_store.specs.Links.{ClassEntries, AreClasses, singleton, entry_in}

-- where no variable was linked each is alone
pub none_linked : (es : ClassEntries) (x : VarName) → length es ≡ 0 → singleton x ≡ entry_in es x
none_linked [] x e = refl
none_linked (f ∷ es) x e = absurd (omega (arith, e))

-- .. and the end of its class
pub none_ends : (es : ClassEntries) (x : VarName) → length es ≡ 0 → (root : VarName → VarName) → AreClasses root (entry_in es) → root x ≡ x
none_ends [] x e root h = h.end x refl
none_ends (f ∷ es) x e root h = absurd (omega (arith, e))

-- the entry of a variable that is its own parent is its parent's
pub top_entry : (forest : ClassEntries) (at : VarName) (entry : ClassEntry) → entry ≡ entry_in forest at → entry.parent ≡ at → entry ≡ entry_in forest entry.parent
top_entry forest at entry here is = here ∙ ap (entry_in forest) (sym is)
