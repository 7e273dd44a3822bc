-- Texts as the spellings of expressions.
use Rattle.std.specs.Prelude.{◌≡◌, List, map}
use Rattle.std.specs.Rc.{rc_str_bytes}
use Rattle.std.specs.declared.alloc.Global.{Global}
use Rattle.std.specs.declared.rc.RcStr.{RcStr}
use Rattle.law_texts.specs.Reading.{Expression}
use Rattle.law_lines.specs.Spelling.{spelled}

-- a text is the spelling of an expression
abbrev pub IsSpelled : Expression → RcStr Global → Type 0
IsSpelled expression text = rc_str_bytes text ≡ spelled expression

-- texts are the spellings of expressions, in order
abbrev pub AreSpelled : List Expression → List (RcStr Global) → Type 0
AreSpelled es texts = map rc_str_bytes texts ≡ map spelled es
