-- Worked examples of the other statements: a procedure, a case, a handler, a cell, a port, a thread, exceptions of the system, and tests.
use Rattle.std.specs.Prelude.{◌≡◌, pos, List, [], ◌∷◌, ◌++◌, Option, Some, None, codes}
use Rattle.tree_node.specs.declared.names.CellName.{CellName}
use Rattle.tree_node.specs.declared.names.PortName.{PortName}
use Rattle.tree_node.specs.declared.names.ProcName.{ProcName}
use Rattle.tree_node.specs.declared.names.ThreadName.{ThreadName}
use Rattle.tree_node.specs.declared.names.Name.TheVariants as name
use Rattle.tree_node.specs.declared.node.Feature.TheVariants as feature
use Rattle.tree_node.specs.declared.node.Node.TheVariants as node
use Rattle.tree_node.specs.declared.node.Term.TheVariants as term
use Rattle.tree_node.specs.declared.pick.Pick.{Pick}
use Rattle.tree_node.specs.Store.{Equation}
use Rattle.tree_node.specs.Rows.{v, holds}
use Rattle.kernel_syntax.specs.declared.stmt.Op.TheVariants.{Add}
use Rattle.kernel_syntax.specs.declared.stmt.TestOp.TheVariants.{Equal, NotEqual}
use Rattle.kernel_syntax.specs.declared.stmt.Pattern.TheVariants as pattern
use Rattle.kernel_syntax.specs.declared.stmt.Stmt.{Stmt}
use Rattle.kernel_syntax.specs.declared.stmt.Stmt.TheVariants.{Seq, Skip, Local, TellVar, TellInt, TellRec, TellProc, Calc, Test, If, Case, Call, Browse, NewCell, Exchange, NewPort, Send, Thread, Try, Raise}
use Rattle.oz_model.specs.Run.{first_thread, exchanges, contents_given, sends, ends_given}
use Rattle.oz_model.specs.Rows.{code, new, pick, plain, RunsTo}

-- a tell, the bind of its pair, the pair that is then equal, and the end of its goal block
abbrev pub tell_picks : Equation → List Pick
tell_picks e = plain ∷ pick [] (Some e) ∷ plain ∷ plain ∷ []

-- the first procedure of site 1
abbrev pub first_proc : ProcName
first_proc = record { site = 1; num = 0 }

-- its first cell
abbrev pub first_cell : CellName
first_cell = record { site = 1; at = 0; num = 0 }

-- its first port
abbrev pub first_port : PortName
first_port = record { site = 1; num = 0 }

-- its second thread; the first is the one that runs the program
abbrev pub second_thread : ThreadName
second_thread = record { site = 1; num = 1 }

-- local P X Z in proc {P Y} Y = Z end {P X} Z = 7 {Browse X} end
abbrev pub calls : List Stmt
calls =
    Local 0 3 (code 1) ∷ Seq (code 2 ∷ code 4 ∷ code 5 ∷ code 6 ∷ []) ∷ TellProc 0 3 1 (code 3) ∷ TellVar 3 2
    ∷ Call 0 (1 ∷ []) ∷ TellInt 2 (pos 7) ∷ Browse 1 ∷ []

-- the procedure holds Z's variable, and X's stands for its formal Y
abbrev pub call_picks : List Pick
call_picks =
    pick (new 0 ∷ new 1 ∷ new 2 ∷ []) None ∷ plain
    ∷ pick (name.Proc first_proc ∷ []) None ∷ pick [] (Some (holds 0 (node.Proc 1 (code 2) first_proc (v 2 ∷ [])))) ∷ plain ∷ plain
    ∷ plain ∷ tell_picks (v 1, term.Var (v 2)) ++ tell_picks (holds 2 (node.Int (pos 7))) ++ plain ∷ []

-- it prints 7, and its thread ends
abbrev pub ProcedureIsCalled : Type 0
ProcedureIsCalled = RunsTo calls call_picks (codes "7" ∷ []) 1 0

-- local X H in X = f(H) H = 3 case X of f(Y) then {Browse Y} else skip end end
abbrev pub matches : List Stmt
matches =
    Local 0 2 (code 1) ∷ Seq (code 2 ∷ code 3 ∷ code 4 ∷ []) ∷ TellRec 0 (codes "f") ((feature.Int (pos 1), 1) ∷ [])
    ∷ TellInt 1 (pos 3) ∷ Case 0 (pattern.Rec (codes "f") (feature.Int (pos 1) ∷ [])) 2 (code 5) (code 6) ∷ Browse 2 ∷ Skip ∷ []

-- X is told the record and H the 3; then the case takes its branch, where Y is H's variable, and that prints
abbrev pub case_picks : List Pick
case_picks =
    pick (new 0 ∷ new 1 ∷ []) None ∷ plain ∷ tell_picks (holds 0 (node.Rec (codes "f") ((feature.Int (pos 1), v 1) ∷ [])))
    ++ tell_picks (holds 1 (node.Int (pos 3))) ++ plain ∷ plain ∷ []

-- it prints 3, and its thread ends
abbrev pub FieldIsMatched : Type 0
FieldIsMatched = RunsTo matches case_picks (codes "3" ∷ []) 1 0

-- local X in X = 5 try raise X end catch Y then {Browse Y} end end
abbrev pub catches : List Stmt
catches =
    Local 0 1 (code 1) ∷ Seq (code 2 ∷ code 3 ∷ []) ∷ TellInt 0 (pos 5) ∷ Try (code 4) 1 (code 5) ∷ Raise 0 ∷ Browse 1 ∷ []

-- X is told the 5; then the mark is set, the exception goes to its handler, and that prints
abbrev pub catch_picks : List Pick
catch_picks = pick (new 0 ∷ []) None ∷ plain ∷ tell_picks (holds 0 (node.Int (pos 5))) ++ plain ∷ plain ∷ plain ∷ []

-- it prints 5, and its thread ends
abbrev pub HandlerHasException : Type 0
HandlerHasException = RunsTo catches catch_picks (codes "5" ∷ []) 1 0

-- local C A B X in A = 1 {NewCell A C} {Exchange C X B} {Browse X} end
abbrev pub exchanges_once : List Stmt
exchanges_once =
    Local 0 4 (code 1) ∷ Seq (code 2 ∷ code 3 ∷ code 4 ∷ code 5 ∷ []) ∷ TellInt 1 (pos 1) ∷ NewCell 1 0 ∷ Exchange 0 3 2
    ∷ Browse 3 ∷ []

-- A is told the 1, the cell is made and told to C, its old content is told to X, and X is printed
abbrev pub exchange_picks : List Pick
exchange_picks =
    pick (new 0 ∷ new 1 ∷ new 2 ∷ new 3 ∷ []) None ∷ plain ∷ tell_picks (holds 1 (node.Int (pos 1)))
    ++ pick (name.Cell first_cell ∷ []) None ∷ pick [] (Some (holds 0 (node.Cell first_cell))) ∷ plain ∷ plain
    ∷ tell_picks (v 3, term.Var (v 1)) ++ plain ∷ []

-- the old content is A's variable and goes to X, and the new one is B's
pub record ContentIsExchanged : Type 0 where
  pub runs : RunsTo exchanges_once exchange_picks (codes "1" ∷ []) 1 0
  pub given : contents_given exchanges_once exchange_picks first_cell ≡ v 1 ∷ []
  pub pairs : exchanges exchanges_once exchange_picks first_cell ≡ (v 1, v 2) ∷ []

-- local S P A in A = 1 {NewPort S P} {Send P A} case S of H|T then {Browse H} else skip end end
abbrev pub sends_once : List Stmt
sends_once =
    Local 0 3 (code 1) ∷ Seq (code 2 ∷ code 3 ∷ code 4 ∷ code 5 ∷ []) ∷ TellInt 2 (pos 1) ∷ NewPort 0 1 ∷ Send 1 2
    ∷ Case 0 (pattern.Rec (codes "|") (feature.Int (pos 1) ∷ feature.Int (pos 2) ∷ [])) 3 (code 6) (code 7) ∷ Browse 3 ∷ Skip ∷ []

-- A is told the 1, the port is made and told to P, its end is told the pair of A and a fresh variable, and the first of the pair is printed
abbrev pub send_picks : List Pick
send_picks =
    pick (new 0 ∷ new 1 ∷ new 2 ∷ []) None ∷ plain ∷ tell_picks (holds 2 (node.Int (pos 1)))
    ++ pick (name.Port first_port ∷ []) None ∷ pick [] (Some (holds 1 (node.Port first_port))) ∷ plain ∷ plain
    ∷ pick (new 3 ∷ []) None
    ∷ pick [] (Some (holds 0 (node.Rec (codes "|") ((feature.Int (pos 1), v 2) ∷ (feature.Int (pos 2), v 3) ∷ [])))) ∷ plain ∷ plain
    ∷ plain ∷ plain ∷ []

-- the old end is S's variable, and the new one is fresh
pub record PairIsSent : Type 0 where
  pub runs : RunsTo sends_once send_picks (codes "1" ∷ []) 1 0
  pub given : ends_given sends_once send_picks first_port ≡ v 0 ∷ []
  pub ends : sends sends_once send_picks first_port ≡ record { thread = first_thread; old = v 0; new = v 3 } ∷ []

-- local X in thread X = 1 end {Browse X} end
abbrev pub spawns : List Stmt
spawns = Local 0 1 (code 1) ∷ Seq (code 2 ∷ code 4 ∷ []) ∷ Thread None (code 3) ∷ TellInt 0 (pos 1) ∷ Browse 0 ∷ []

-- the other thread goes
abbrev pub other : Option Equation → Pick
other bind = record { thread = second_thread; fresh = []; bind = bind }

-- the new thread tells X and ends, then the first goes on
abbrev pub thread_picks : List Pick
thread_picks =
    pick (new 0 ∷ []) None ∷ plain ∷ pick (name.Thread second_thread ∷ []) None ∷ other None
    ∷ other (Some (holds 0 (node.Int (pos 1)))) ∷ other None ∷ other None ∷ plain ∷ []

-- it prints 1, and both threads end
abbrev pub ThreadIsMade : Type 0
ThreadIsMade = RunsTo spawns thread_picks (codes "1" ∷ []) 2 0

-- local X Y Z in X = 170141183460469231731687303715884105727 Y = 1 Z = X + Y end
abbrev pub adds : List Stmt
adds =
    Local 0 3 (code 1) ∷ Seq (code 2 ∷ code 3 ∷ code 4 ∷ []) ∷ TellInt 0 (pos 170141183460469231731687303715884105727) ∷ TellInt 1 (pos 1)
    ∷ Calc 2 Add 0 1 ∷ []

-- X and Y are told, then the sum raises an exception, which is reported
abbrev pub overflow_picks : List Pick
overflow_picks =
    pick (new 0 ∷ new 1 ∷ new 2 ∷ []) None ∷ plain ∷ tell_picks (holds 0 (node.Int (pos 170141183460469231731687303715884105727)))
    ++ tell_picks (holds 1 (node.Int (pos 1))) ++ pick (new 3 ∷ new 4 ∷ []) None ∷ plain ∷ []

-- it prints the exception that nobody caught, and its thread ends
abbrev pub OverflowIsRaised : Type 0
OverflowIsRaised = RunsTo adds overflow_picks (codes "uncaught error(overflow)" ∷ []) 1 0

-- local X in X = 1 if X then skip else skip end end
abbrev pub tests_integer : List Stmt
tests_integer = Local 0 1 (code 1) ∷ Seq (code 2 ∷ code 3 ∷ []) ∷ TellInt 0 (pos 1) ∷ If 0 (code 4) (code 5) ∷ Skip ∷ Skip ∷ []

-- X is told, then the test raises an exception, which is reported
abbrev pub integer_test_picks : List Pick
integer_test_picks =
    pick (new 0 ∷ []) None ∷ plain ∷ tell_picks (holds 0 (node.Int (pos 1))) ++ pick (new 1 ∷ new 2 ∷ []) None ∷ plain ∷ []

-- it prints the exception that nobody caught, and its thread ends
abbrev pub IntegerIsNoTruth : Type 0
IntegerIsNoTruth = RunsTo tests_integer integer_test_picks (codes "uncaught error(type)" ∷ []) 1 0

-- local X Y in Y = X == X {Browse Y} end
abbrev pub compares : List Stmt
compares = Local 0 2 (code 1) ∷ Seq (code 2 ∷ code 3 ∷ []) ∷ Test 1 Equal 0 0 ∷ Browse 1 ∷ []

-- the truth is told to Y, and Y is printed
abbrev pub equal_picks : List Pick
equal_picks = pick (new 0 ∷ new 1 ∷ []) None ∷ plain ∷ tell_picks (holds 1 (node.Atom (codes "true"))) ++ plain ∷ []

-- a variable is equal to itself, bound or not: it prints true, and its thread ends
abbrev pub SameIsEqual : Type 0
SameIsEqual = RunsTo compares equal_picks (codes "true" ∷ []) 1 0

-- local X Y Z in Z = X \= Y end
abbrev pub compares_unbound : List Stmt
compares_unbound = Local 0 3 (code 1) ∷ Test 2 NotEqual 0 1 ∷ []

-- the declaration alone
abbrev pub open_picks : List Pick
open_picks = pick (new 0 ∷ new 1 ∷ new 2 ∷ []) None ∷ []

-- the thread waits for X or Y: nothing is printed, and it lives
abbrev pub ComparisonIsAwaited : Type 0
ComparisonIsAwaited = RunsTo compares_unbound open_picks [] 0 1
