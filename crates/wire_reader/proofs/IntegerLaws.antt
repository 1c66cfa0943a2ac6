-- A property of each integer of a message.
use Rattle.std.proofs.Common.{ℕ, zero, suc, List, [], ◌∷◌, ℤ, arith, pos, negsuc}
use Rattle.std.specs.Prelude.{FitsSigned}
use Rattle.std.specs.Int.{w64, w128}
use Rattle.tree_node.specs.declared.node.Feature.{Feature}
use Rattle.tree_node.specs.declared.node.Feature.TheVariants as features
use Rattle.tree_node.specs.declared.node.Node.TheVariants as nodes
use Rattle.tree_node.specs.declared.node.Term.{Term}
use Rattle.tree_node.specs.declared.node.Term.TheVariants as terms
use Rattle.tree_node.specs.Each.{Each}
use Rattle.tree_node.specs.Store.{Equation}
use Rattle.site_message.specs.declared.message.Msg.{Msg}
use Rattle.site_message.specs.declared.message.Msg.TheVariants as messages
use Rattle.wire_reader.specs.declared.form.Form.TheVariants as forms
use Rattle.wire_reader.specs.Numbers.{IsMobileOr, EachInFeature, EachInField, EachInTerm, EachInEquation, EachInBundle, EachInMessage, HasRoom}
use Rattle.wire_reader.specs.Format.{IsTwo}
use Rattle.tree_node.proofs.EnvLemmas.{each_more}

-- ---- a property that follows from another

feature_more : (P Q : ℤ → Type 0) → ((z : ℤ) → P z → Q z) → (f : Feature) → EachInFeature P f → EachInFeature Q f
feature_more P Q more (features.Int z) h = more z h
feature_more P Q more (features.Atom t) h = tt

mobile_more : (R S : Type 0) → (R → S) → (n : ℕ) → IsMobileOr R n → IsMobileOr S n
mobile_more R S and zero h = tt
mobile_more R S and (suc k) h = and h

term_more : (P Q : ℤ → Type 0) (R S : Type 0) → ((z : ℤ) → P z → Q z) → (R → S) → (t : Term) → EachInTerm P R t → EachInTerm Q S t
term_more P Q R S more and (terms.Var x) h = tt
term_more P Q R S more and (terms.Node (nodes.Int z)) h = more z h
term_more P Q R S more and (terms.Node (nodes.Atom t)) h = tt
term_more P Q R S more and (terms.Node (nodes.Rec label fields)) h = each_more (EachInField P) (EachInField Q) fields (λ x k. feature_more P Q more x.0 k) h
term_more P Q R S more and (terms.Node (nodes.Proc n c p vars)) h = tt
term_more P Q R S more and (terms.Node (nodes.Cell c)) h = mobile_more R S and c.at h
term_more P Q R S more and (terms.Node (nodes.Port q)) h = and h

bundle_more : (P Q : ℤ → Type 0) (R S : Type 0) → ((z : ℤ) → P z → Q z) → (R → S) → (es : List Equation) → EachInBundle P R es → EachInBundle Q S es
bundle_more P Q R S more and es h = each_more (EachInEquation P R) (EachInEquation Q S) es (λ e k. term_more P Q R S more and e.1 k) h

pub message_more : (P Q : ℤ → Type 0) (R S : Type 0) → ((z : ℤ) → P z → Q z) → (R → S) → (m : Msg) → EachInMessage P R m → EachInMessage Q S m
message_more P Q R S more and (messages.Spawn t c vars es) h = bundle_more P Q R S more and es h
message_more P Q R S more and (messages.Register x asking) h = tt
message_more P Q R S more and (messages.BindReq x t u es) h = (term_more P Q R S more and u h.0, bundle_more P Q R S more and es h.1)
message_more P Q R S more and (messages.Binding x u es) h = (term_more P Q R S more and u h.0, bundle_more P Q R S more and es h.1)
message_more P Q R S more and (messages.Get c asking) h = tt
message_more P Q R S more and (messages.Forward c next) h = tt
message_more P Q R S more and (messages.Put c x es) h = bundle_more P Q R S more and es h
message_more P Q R S more and (messages.PortSend q t asking) h = and h
message_more P Q R S more and (messages.PortEnd t old new es) h = (and h.0, bundle_more P Q R S more and es h.1)
message_more P Q R S more and (messages.CellMake c x es) h = (and h.0, bundle_more P Q R S more and es h.1)
message_more P Q R S more and (messages.CellAsk c t asking new es) h = (and h.0, bundle_more P Q R S more and es h.1)
message_more P Q R S more and (messages.CellOld t x es) h = (and h.0, bundle_more P Q R S more and es h.1)

-- ---- form 2 has room for each

each_of : {X : Type 0} (P : X → Type 0) → ((x : X) → P x) → (xs : List X) → Each P xs
each_of P all [] = tt
each_of P all (x ∷ xs) = (all x, each_of P all xs)

feature_room : (f : Feature) → EachInFeature (HasRoom forms.Two) f
feature_room (features.Int z) = tt
feature_room (features.Atom t) = tt

mobile_room : (n : ℕ) → IsMobileOr (IsTwo forms.Two) n
mobile_room zero = tt
mobile_room (suc k) = tt

term_room : (t : Term) → EachInTerm (HasRoom forms.Two) (IsTwo forms.Two) t
term_room (terms.Var x) = tt
term_room (terms.Node (nodes.Int z)) = tt
term_room (terms.Node (nodes.Atom t)) = tt
term_room (terms.Node (nodes.Rec label fields)) = each_of (EachInField (HasRoom forms.Two)) (λ x. feature_room x.0) fields
term_room (terms.Node (nodes.Proc n c p vars)) = tt
term_room (terms.Node (nodes.Cell c)) = mobile_room c.at
term_room (terms.Node (nodes.Port q)) = tt

bundle_room : (es : List Equation) → EachInBundle (HasRoom forms.Two) (IsTwo forms.Two) es
bundle_room es = each_of (EachInEquation (HasRoom forms.Two) (IsTwo forms.Two)) (λ e. term_room e.1) es

pub always_room : (m : Msg) → EachInMessage (HasRoom forms.Two) (IsTwo forms.Two) m
always_room (messages.Spawn t c vars es) = bundle_room es
always_room (messages.Register x asking) = tt
always_room (messages.BindReq x t u es) = (term_room u, bundle_room es)
always_room (messages.Binding x u es) = (term_room u, bundle_room es)
always_room (messages.Get c asking) = tt
always_room (messages.Forward c next) = tt
always_room (messages.Put c x es) = bundle_room es
always_room (messages.PortSend q t asking) = tt
always_room (messages.PortEnd t old new es) = (tt, bundle_room es)
always_room (messages.CellMake c x es) = (tt, bundle_room es)
always_room (messages.CellAsk c t asking new es) = (tt, bundle_room es)
always_room (messages.CellOld t x es) = (tt, bundle_room es)

-- ---- an integer of 64 bits is one of 128

pub wider : (z : ℤ) → FitsSigned w64 z → FitsSigned w128 z
wider (pos n) h = record { sfits = omega (arith, h.sfits) }
wider (negsuc n) h = record { sfits = omega (arith, h.sfits) }
