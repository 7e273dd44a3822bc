-- What commands of the program say.
use Rattle.std.specs.Prelude.{ℕ, List, Option, Some, None}
use Rattle.law_texts.specs.Lexicon.{Name}
use Rattle.law_texts.specs.Reading.{Expressions, Leaf, Node, Nil, Cons}
use Rattle.std.specs.Rc.{rc_str_bytes}
use Rattle.law_scripts.specs.Script as script
use Rattle.law_scripts.specs.Script.{Command as Stated}
use Rattle.law_scripts.specs.Written.{option_command}
use Rattle.smt_sexpr.specs.View.{plain}
use Rattle.smt_mini.specs.declared.command.Command.{Command}
use Rattle.smt_mini.specs.declared.command.Command.TheVariants.{DeclareOption, DeclareConst, DefineFun, Assert, SetLogic, SetOption}
use Rattle.smt_mini.specs.declared.command.Command.TheVariants.{CheckSat, GetModel, Reset, Exit, Push, Pop}

-- what a command says
abbrev pub plain_command : Command → Stated
plain_command DeclareOption = option_command
plain_command (DeclareConst n sort) = script.DeclareConst (rc_str_bytes n.now) (plain sort.now)
plain_command (DefineFun n sort body) = script.DefineFun (rc_str_bytes n.now) (plain sort.now) (plain body.now)
plain_command (Assert e) = script.Assert (plain e.now)
plain_command (SetLogic l) = script.SetLogic (rc_str_bytes l.now)
plain_command (SetOption o v) = script.SetOption o.now (plain v.now)
plain_command CheckSat = script.CheckSat
plain_command GetModel = script.GetModel
plain_command Reset = script.Reset
plain_command Exit = script.Exit
plain_command Push = script.Push
plain_command Pop = script.Pop

-- the name of a definition, and what stands behind the empty brackets that follow it
abbrev pub signature_of : Expressions → Option (List ℕ × Expressions)
signature_of (Cons (Leaf (Name n)) (Cons (Node Nil) es)) = Some (n, es)
signature_of es = None
