-- Bundles do not count: messages with their bundles are counted as they were without.
use Rattle.std.proofs.Common.{arith, ◌≡◌, ap, refl, ℕ, ◌+◌, List, [], ◌∷◌}
use Rattle.tree_node.specs.declared.names.VarName.{VarName}
use Rattle.tree_node.specs.Store.{Store}
use Rattle.site_message.specs.declared.message.Msg.{Msg}
use Rattle.site_message.specs.declared.message.Msg.TheVariants as msg
use Rattle.site_message.specs.declared.message.Sent.{Sent}
use Rattle.bind_protocol.specs.Records.{Records}
use Rattle.bind_protocol.specs.World.{is_register, is_binding}
use Rattle.bind_protocol.specs.Lawful.{register_count, binding_count}
use Rattle.bind_protocol.specs.Count.{KeepsCounts}
use Rattle.bind_protocol.proofs.ListLemmas.{one, count_cons}
use Rattle.bind_protocol.proofs.GoOnLemmas.{counts_join}
use Rattle.site_model.specs.Bundle.{with_own_bundle, with_own_bundles}

filled_register : (limit : ℕ) (s : Store) (x : VarName) (i to : ℕ) (m : Msg) → is_register x i (with_own_bundle limit s (record { to = to; msg = m })) ≡ is_register x i (record { to = to; msg = m })
filled_register limit s x i to (msg.Register y k) = refl
filled_register limit s x i to (msg.BindReq a b c d) = refl
filled_register limit s x i to (msg.Binding a b c) = refl
filled_register limit s x i to (msg.Spawn a b c d) = refl
filled_register limit s x i to (msg.Get a b) = refl
filled_register limit s x i to (msg.Forward a b) = refl
filled_register limit s x i to (msg.Put a b c) = refl
filled_register limit s x i to (msg.PortSend a b c) = refl
filled_register limit s x i to (msg.PortEnd a b c d) = refl
filled_register limit s x i to (msg.CellMake a b c) = refl
filled_register limit s x i to (msg.CellAsk a b c d e) = refl
filled_register limit s x i to (msg.CellOld a b c) = refl

filled_binding : (limit : ℕ) (s : Store) (x : VarName) (i to : ℕ) (m : Msg) → is_binding x i (with_own_bundle limit s (record { to = to; msg = m })) ≡ is_binding x i (record { to = to; msg = m })
filled_binding limit s x i to (msg.Register y k) = refl
filled_binding limit s x i to (msg.BindReq a b c d) = refl
filled_binding limit s x i to (msg.Binding a b c) = refl
filled_binding limit s x i to (msg.Spawn a b c d) = refl
filled_binding limit s x i to (msg.Get a b) = refl
filled_binding limit s x i to (msg.Forward a b) = refl
filled_binding limit s x i to (msg.Put a b c) = refl
filled_binding limit s x i to (msg.PortSend a b c) = refl
filled_binding limit s x i to (msg.PortEnd a b c d) = refl
filled_binding limit s x i to (msg.CellMake a b c) = refl
filled_binding limit s x i to (msg.CellAsk a b c d e) = refl
filled_binding limit s x i to (msg.CellOld a b c) = refl

filled_registers : (limit : ℕ) (s : Store) (ms : List Sent) (x : VarName) (i : ℕ) → register_count x i (with_own_bundles limit s ms) ≡ register_count x i ms
filled_registers limit s [] x i = refl
filled_registers limit s (m ∷ ms) x i =
    let ih : register_count x i (with_own_bundles limit s ms) ≡ register_count x i ms = filled_registers limit s ms x i in
    let e : register_count x i (with_own_bundles limit s (m ∷ ms)) ≡ one (is_register x i (with_own_bundle limit s m)) + register_count x i (with_own_bundles limit s ms) = count_cons (is_register x i) (with_own_bundle limit s m) (with_own_bundles limit s ms) in
    let f : register_count x i (m ∷ ms) ≡ one (is_register x i m) + register_count x i ms = count_cons (is_register x i) m ms in
    let g : one (is_register x i (with_own_bundle limit s m)) ≡ one (is_register x i m) = ap one (filled_register limit s x i m.to m.msg) in
    omega arith

filled_bindings : (limit : ℕ) (s : Store) (ms : List Sent) (x : VarName) (i : ℕ) → binding_count x i (with_own_bundles limit s ms) ≡ binding_count x i ms
filled_bindings limit s [] x i = refl
filled_bindings limit s (m ∷ ms) x i =
    let ih : binding_count x i (with_own_bundles limit s ms) ≡ binding_count x i ms = filled_bindings limit s ms x i in
    let e : binding_count x i (with_own_bundles limit s (m ∷ ms)) ≡ one (is_binding x i (with_own_bundle limit s m)) + binding_count x i (with_own_bundles limit s ms) = count_cons (is_binding x i) (with_own_bundle limit s m) (with_own_bundles limit s ms) in
    let f : binding_count x i (m ∷ ms) ≡ one (is_binding x i m) + binding_count x i ms = count_cons (is_binding x i) m ms in
    let g : one (is_binding x i (with_own_bundle limit s m)) ≡ one (is_binding x i m) = ap one (filled_binding limit s x i m.to m.msg) in
    omega arith

pub counts_filled : (limit : ℕ) (s : Store) (b c : Records) (h o : List Sent) → KeepsCounts b c h o → KeepsCounts b c h (with_own_bundles limit s o)
counts_filled limit s b c h o k = counts_join.alike b c h o (with_own_bundles limit s o) (record { registers = λ i x. filled_registers limit s o x i; bindings = λ i x. filled_bindings limit s o x i }) k
