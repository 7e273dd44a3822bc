-- The texts of a call: those of its arguments, and behind them that of its function.
use Rattle.std.proofs.Common.{◌≡◌, List, [], ◌∷◌, ◌++◌, refl, ap}
use Rattle.std.specs.Rc.{rc_str_bytes}
use Rattle.std.specs.declared.alloc.Global.{Global}
use Rattle.std.specs.declared.rc.RcStr.{RcStr}
use Rattle.law_texts.specs.Reading.{Expression}
use Rattle.law_lines.specs.Spelling.{spelled}
use Rattle.smt_spelling.specs.Spelled.{AreSpelled}

-- the last of several texts, and the others
pub record SplitLast (es : List Expression) (others : List (RcStr Global)) (last : RcStr Global) : Type 0 where
  pub rest : List Expression
  pub function : Expression
  pub whole : es ≡ rest ++ function ∷ []
  pub rest_spelled : AreSpelled rest others
  pub function_spelled : rc_str_bytes last ≡ spelled function

pub split_last : (es : List Expression) (others : List (RcStr Global)) (last : RcStr Global) → AreSpelled es (others ++ last ∷ []) → SplitLast es others last
split_last [] [] last h = absurd (cc)
split_last [] (x ∷ others) last h = absurd (cc)
split_last (e ∷ []) [] last h = record { rest = []; function = e; whole = refl; rest_spelled = refl; function_spelled = cc }
split_last (e ∷ f ∷ es) [] last h = absurd (cc)
split_last (e ∷ es) (x ∷ others) last h =
    let one : rc_str_bytes x ≡ spelled e = cc in
    let more = split_last es others last (cc) in
    record { rest = e ∷ more.rest; function = more.function; whole = ap (λ l. e ∷ l) more.whole; rest_spelled = λ i. one i ∷ more.rest_spelled i; function_spelled = more.function_spelled }
