-- The variables in a message, and the known equations that travel with it: its bundle.
use Rattle.std.specs.Prelude.{ℕ, zero, suc, List, [], ◌∷◌, ◌++◌, length, map, take, Bool, ◌&&◌, ◌||◌, ◌==◌, nat_lt, if◌then◌else◌, option_to_list}
use Rattle.std.specs.List.{list_any}
use Rattle.tree_node.specs.declared.names.VarName.{VarName}
use Rattle.tree_node.specs.declared.node.Term.{Term}
use Rattle.tree_node.specs.Assoc.{value_of}
use Rattle.tree_node.specs.Store.{Store, Equation, equal_var}
use Rattle.site_message.specs.declared.message.Msg.{Msg}
use Rattle.site_message.specs.declared.message.Msg.TheVariants as msg
use Rattle.site_message.specs.declared.message.Sent.{Sent}
use Rattle.site_message.specs.Vars.{vars_of}

-- how many equations a message of a run carries at most
abbrev pub bundle_limit : ℕ
bundle_limit = 256

-- ---- which equations

-- the variables that occur in these terms
abbrev pub vars_of_terms : List Term → List VarName
vars_of_terms [] = []
vars_of_terms (t ∷ ts) = vars_of t ++ vars_of_terms ts

-- the terms of the variables that have an equation of their own
abbrev pub known_terms : Store → List VarName → List Term
known_terms s [] = []
known_terms s (x ∷ xs) = option_to_list (value_of equal_var s x) ++ known_terms s xs

-- breadth first, through so many equations: the variables, then those of their terms, and on
abbrev pub reachable_vars : ℕ → Store → List VarName → List VarName
reachable_vars zero s xs = xs
reachable_vars (suc d) s xs = xs ++ reachable_vars d s (vars_of_terms (known_terms s xs))

-- each once, where it stands first. The first list has those that came before
abbrev pub distinct_vars : List VarName → List VarName → List VarName
distinct_vars seen [] = []
distinct_vars seen (x ∷ xs) =
    if list_any (equal_var x) seen then distinct_vars seen xs else x ∷ distinct_vars (x ∷ seen) xs

-- the equations of these variables, in their order
abbrev pub known_equations : Store → List VarName → List Equation
known_equations s [] = []
known_equations s (x ∷ xs) = map (λ (t : Term). (x, t)) (option_to_list (value_of equal_var s x)) ++ known_equations s xs

-- the equations reached from these variables. None lies behind more of them than there are
abbrev pub reachable_equations : Store → List VarName → List Equation
reachable_equations s xs = known_equations s (distinct_vars [] (reachable_vars (length s) s xs))

-- the order of names: by their sites, then by their numbers
abbrev pub is_below : VarName → VarName → Bool
is_below a b = nat_lt a.site b.site || ((a.site == b.site) && nat_lt a.num b.num)

-- an equation among those whose names ascend
abbrev pub insert_ascending : Equation → List Equation → List Equation
insert_ascending e [] = e ∷ []
insert_ascending e (d ∷ ds) = if is_below d.0 e.0 then d ∷ insert_ascending e ds else e ∷ d ∷ ds

-- the equations in the order of their variables
abbrev pub ascending : List Equation → List Equation
ascending [] = []
ascending (e ∷ es) = insert_ascending e (ascending es)

-- the first equations reached from these variables, at most so many, in the order of their names
abbrev pub bundle_from : ℕ → Store → List VarName → List Equation
bundle_from limit s xs = ascending (take limit (reachable_equations s xs))

-- ---- messages

-- the variables from which the bundle of a message is reached: a new thread's, those of a term, a cell's content
abbrev pub bundle_roots : Msg → List VarName
bundle_roots (msg.Spawn thread code vars bundle) = vars
bundle_roots (msg.BindReq x thread t bundle) = vars_of t
bundle_roots (msg.Binding x t bundle) = vars_of t
bundle_roots (msg.Put c content bundle) = content ∷ []
bundle_roots (msg.PortEnd thread old new bundle) = old ∷ new ∷ []
bundle_roots (msg.CellMake c content bundle) = content ∷ []
bundle_roots (msg.CellAsk c thread asking new bundle) = new ∷ []
bundle_roots (msg.CellOld thread content bundle) = content ∷ []
bundle_roots _ = []

-- the bundle of a message from a site with these equations
abbrev pub bundle_of : ℕ → Store → Msg → List Equation
bundle_of limit s m = bundle_from limit s (bundle_roots m)

-- the message with these equations as its bundle; a Register, a Get and a Forward have none
abbrev pub with_bundle : List Equation → Msg → Msg
with_bundle es (msg.Spawn thread code vars bundle) = msg.Spawn thread code vars es
with_bundle es (msg.BindReq x thread t bundle) = msg.BindReq x thread t es
with_bundle es (msg.Binding x t bundle) = msg.Binding x t es
with_bundle es (msg.Put c content bundle) = msg.Put c content es
with_bundle es (msg.PortEnd thread old new bundle) = msg.PortEnd thread old new es
with_bundle es (msg.CellMake c content bundle) = msg.CellMake c content es
with_bundle es (msg.CellAsk c thread asking new bundle) = msg.CellAsk c thread asking new es
with_bundle es (msg.CellOld thread content bundle) = msg.CellOld thread content es
with_bundle es m = m

-- the message with its bundle from a site with these equations
abbrev pub with_own_bundle : ℕ → Store → Sent → Sent
with_own_bundle limit s m = record m { msg = with_bundle (bundle_of limit s m.msg) m.msg }

-- these messages, each with its bundle from the site's equations
abbrev pub with_own_bundles : ℕ → Store → List Sent → List Sent
with_own_bundles limit s ms = map (with_own_bundle limit s) ms

-- the equations that a message carries
abbrev pub message_bundle : Msg → List Equation
message_bundle (msg.Spawn thread code vars bundle) = bundle
message_bundle (msg.BindReq x thread t bundle) = bundle
message_bundle (msg.Binding x t bundle) = bundle
message_bundle (msg.Put c content bundle) = bundle
message_bundle (msg.PortEnd thread old new bundle) = bundle
message_bundle (msg.CellMake c content bundle) = bundle
message_bundle (msg.CellAsk c thread asking new bundle) = bundle
message_bundle (msg.CellOld thread content bundle) = bundle
message_bundle _ = []

-- the variables of equations: of each the one on the left and those of its term
abbrev pub vars_of_equations : List Equation → List VarName
vars_of_equations [] = []
vars_of_equations (e ∷ es) = (e.0 ∷ vars_of e.1) ++ vars_of_equations es

-- the variables of a message outside its bundle
abbrev pub body_vars : Msg → List VarName
body_vars (msg.Spawn thread code vars bundle) = vars
body_vars (msg.Register x asking) = x ∷ []
body_vars (msg.BindReq x thread t bundle) = x ∷ vars_of t
body_vars (msg.Binding x t bundle) = x ∷ vars_of t
body_vars (msg.Put c content bundle) = content ∷ []
body_vars (msg.PortEnd thread old new bundle) = old ∷ new ∷ []
body_vars (msg.CellMake c content bundle) = content ∷ []
body_vars (msg.CellAsk c thread asking new bundle) = new ∷ []
body_vars (msg.CellOld thread content bundle) = content ∷ []
body_vars _ = []

-- the variables of a message
abbrev pub message_vars : Msg → List VarName
message_vars m = body_vars m ++ vars_of_equations (message_bundle m)
