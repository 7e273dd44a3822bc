-- The texts of patterns and of sets.
use Rattle.std.proofs.Common.{◌≡◌, ℕ, ◌≤◌, Bool, true, false, ◌&&◌, List, [], ◌∷◌, ◌++◌, length, map, refl, sym, ap, ◌∙◌, append-nil, arith}
use Rattle.std.specs.Prelude.{codes, encode_utf8}
use Rattle.std.specs.List.{join_by, list_all}
use Rattle.std.specs.Str.{IsUtf8, chars}
use Rattle.std.proofs.lemmas.Str.{chars_past_char, chars-nil}
use Rattle.std.specs.Rc.{rc_str_bytes}
use Rattle.std.specs.declared.alloc.Global.{Global}
use Rattle.std.specs.declared.rc.RcStr.{RcStr}
use Rattle.std.proofs.lemmas.List.{map-append}
use Rattle.law_terms.specs.Plain.{PatternPart}
use Rattle.law_terms.specs.TypeValues.{is_code_point}
use Rattle.law_texts.specs.Reading.{Expression}
use Rattle.law_scripts.specs.WrittenStrings.{part_expr, pattern_expr}
use Rattle.law_scripts.specs.Script.{name}
use Rattle.law_lines.specs.LineForms.{empty_set, set_body}
use Rattle.law_lines.specs.Spelling.{spelled}
use Rattle.law_texts.specs.SharedTexts.{texts}
use Rattle.smt_spelling.specs.Spelled.{AreSpelled}
use Rattle.smt_spelling.proofs.Bracketed.{bracketed}

-- one text more, and one expression more
pub spelled_more : (es : List Expression) (e : Expression) (ts us : List (RcStr Global)) (t : RcStr Global) → AreSpelled es ts → us ≡ ts ++ t ∷ [] → rc_str_bytes t ≡ spelled e → AreSpelled (es ++ e ∷ []) us
spelled_more es e ts us t shown more same =
    ap (map rc_str_bytes) more ∙ map-append rc_str_bytes ts (t ∷ []) ∙ (λ i. shown i ++ same i ∷ []) ∙ sym (map-append spelled es (e ∷ []))

-- what is written of a pattern's parts, two at least
pub joined : (ps : List PatternPart) (ts : List (RcStr Global)) → AreSpelled (map part_expr ps) ts → 2 ≤ length ts
    → codes "(" ++ (codes "re.++" ++ (codes " " ++ (join_by (λ x. x) (codes " ") (texts ts) ++ codes ")"))) ≡ spelled (pattern_expr ps)
joined (p ∷ q ∷ ps) ts shown long = bracketed (codes "re.++") (name (codes "re.++")) (texts ts) (map part_expr (p ∷ q ∷ ps)) refl shown
joined [] [] shown long = absurd (omega (arith, long))
joined [] (t ∷ ts) shown long = absurd (cc)
joined (p ∷ []) [] shown long = absurd (omega (arith, long))
joined (p ∷ []) (t ∷ []) shown long = absurd (omega (arith, long))
joined (p ∷ []) (t ∷ u ∷ ts) shown long = absurd (cc)

-- of one part that one alone
pub alone : (ps : List PatternPart) (t : RcStr Global) → AreSpelled (map part_expr ps) (t ∷ []) → rc_str_bytes t ≡ spelled (pattern_expr ps)
alone (p ∷ []) t shown = cc
alone [] t shown = absurd (cc)
alone (p ∷ q ∷ ps) t shown = absurd (cc)

-- a set by its elements, one at least
pub set_spelled : (sort : Expression) (es : List Expression) (ts us : List (RcStr Global)) (empty : RcStr Global) → AreSpelled es ts → 1 ≤ length ts → us ≡ ts ++ empty ∷ [] → rc_str_bytes empty ≡ spelled (empty_set sort)
    → codes "(" ++ (codes "set.insert" ++ (codes " " ++ (join_by (λ x. x) (codes " ") (texts us) ++ codes ")"))) ≡ spelled (set_body sort es)
set_spelled sort (e ∷ es) ts us empty shown long more same =
    bracketed (codes "set.insert") (name (codes "set.insert")) (texts us) ((e ∷ es) ++ empty_set sort ∷ []) refl (spelled_more (e ∷ es) (empty_set sort) ts us empty shown more same)
set_spelled sort [] [] us empty shown long more same = absurd (omega (arith, long))
set_spelled sort [] (x ∷ ts) us empty shown long more same = absurd (cc)

-- ---- a character alone

pub chars_alone : (bs : List ℕ) (c : ℕ) → IsUtf8 bs → bs ≡ encode_utf8 c → chars bs ≡ c ∷ []
chars_alone bs c text same = chars_past_char bs [] c text (same ∙ sym (append-nil (encode_utf8 c))) ∙ ap (λ l. c ∷ l) chars-nil

pub allowed_alone : (cs : List ℕ) (c : ℕ) → cs ≡ c ∷ [] → list_all is_code_point cs ≡ is_code_point c
allowed_alone cs c same = ap (list_all is_code_point) same ∙ both (is_code_point c)
  where
    both : (b : Bool) → b && true ≡ b
    both true = refl
    both false = refl
