-- The declaration of a function, by the texts of its two sorts.
use Rattle.std.proofs.Common.{◌≡◌, ℕ, List, [], ◌∷◌, get_or, length, take, refl, sym, ◌∙◌, append-nil, arith}
use Rattle.std.specs.Rc.{rc_str_bytes}
use Rattle.std.specs.declared.alloc.Global.{Global}
use Rattle.std.specs.declared.rc.RcStr.{RcStr}
use Rattle.law_texts.specs.LineTexts.{declare_fun_text, spaced}
use Rattle.law_texts.specs.SharedTexts.{texts}
use Rattle.law_texts.specs.Reading.{Expression}
use Rattle.law_lines.specs.Line.{spelled_lines}
use Rattle.law_lines.specs.LineForms.{function_declaration}
use Rattle.law_lines.specs.Spelling.{spelled}
use Rattle.smt_spelling.specs.Spelled.{AreSpelled}

-- two texts, and what they spell
pub record TwoSpelled (es : List Expression) (sorts : List (RcStr Global)) : Type 0 where
  pub argument : Expression
  pub output : Expression
  pub whole : es ≡ argument ∷ output ∷ []
  pub front : spaced (texts (take 1 sorts)) ≡ spelled argument
  pub last : (d : RcStr Global) → rc_str_bytes (get_or sorts 1 d) ≡ spelled output

pub two_spelled : (es : List Expression) (sorts : List (RcStr Global)) → length sorts ≡ 2 → AreSpelled es sorts → TwoSpelled es sorts
two_spelled es [] two h = absurd (omega (arith, two))
two_spelled es (x ∷ []) two h = absurd (omega (arith, two))
two_spelled es (x ∷ y ∷ z ∷ sorts) two h = absurd (omega (arith, two))
two_spelled [] (x ∷ y ∷ []) two h = absurd (cc)
two_spelled (a ∷ []) (x ∷ y ∷ []) two h = absurd (cc)
two_spelled (a ∷ b ∷ e ∷ es) (x ∷ y ∷ []) two h = absurd (cc)
two_spelled (a ∷ b ∷ []) (x ∷ y ∷ []) two h =
    let first : rc_str_bytes x ≡ spelled a = cc in
    record { argument = a; output = b; whole = refl; front = append-nil (rc_str_bytes x) ∙ first; last = λ d. cc }

-- the bytes of the declaration
pub declaration_spelled : (name n front last : List ℕ) (argument output : Expression) → name ≡ n → front ≡ spelled argument → last ≡ spelled output → declare_fun_text name front last ≡ spelled_lines (function_declaration n argument output)
declaration_spelled name n front last argument output p q r = (λ i. declare_fun_text (p i) (q i) (r i)) ∙ sym (append-nil (declare_fun_text n (spelled argument) (spelled output)))
