-- Equal states of a site.
use Rattle.std.proofs.Common.{◌≡◌, ℕ, List, [], ◌∷◌, ◌++◌, ap, refl}
use Rattle.tree_node.specs.declared.names.VarName.{VarName}
use Rattle.tree_node.specs.declared.names.CellName.{CellName}
use Rattle.tree_node.specs.declared.names.PortName.{PortName}
use Rattle.tree_node.specs.Store.{Store}
use Rattle.bind_protocol.specs.Records.{Records}
use Rattle.site_model.specs.Site.{Site, CellRecord, HomeRecord, Counters, Threads}
pub use Rattle.std.proofs.lemmas.List.{append-nil as nil_right}

pub same_site : {a b : Store} {c d : Records} {e f : List (CellName × ℕ)} {g h : List (CellName × CellRecord)} {ps qs : List (PortName × VarName)} {i j : Threads} {hs gs : List (CellName × HomeRecord)} {k l : Counters} {m n o q : ℕ} →
    a ≡ b → c ≡ d → e ≡ f → g ≡ h → ps ≡ qs → i ≡ j → hs ≡ gs → k ≡ l → m ≡ n → o ≡ q →
    ◌≡◌ {A = Site} (record { equations = a; records = c; managers = e; cell_records = g; ports = ps; threads = i; homes = hs; counters = k; ended = m; steps = o })
    (record { equations = b; records = d; managers = f; cell_records = h; ports = qs; threads = j; homes = gs; counters = l; ended = n; steps = q })
same_site ab cd ef gh pq ij hg kl mn oq = cc

pub joined : {X : Type 0} (xs ys zs : List X) → (xs ++ ys) ++ zs ≡ xs ++ (ys ++ zs)
joined [] ys zs = refl
joined {X} (x ∷ xs) ys zs = ap (λ (l : List X). x ∷ l) (joined xs ys zs)
