-- A node's own lines, by the texts of its parts.
use Rattle.std.proofs.Common.{◌≡◌, ℕ, true, List, [], ◌∷◌, drop, get_or, length, ◌≤◌, refl, sym, ap, ◌∙◌, subst, arith, Option, Some, None, Result}
use Rattle.std.specs.Rc.{rc_str_bytes}
use Rattle.std.specs.declared.alloc.Global.{Global}
use Rattle.std.specs.declared.rc.RcStr.{RcStr}
use Rattle.law_texts.specs.Reading.{Expression}
use Rattle.law_terms.specs.Plain.{PlainTerm}
use Rattle.law_terms.specs.Nodes.{Meaning, TermMeaning}
use Rattle.law_terms.specs.Parts.{label_in, parts_in}
use Rattle.law_lines.specs.Lines.{Enums, Written, made_of, ◌>>=◌}
use Rattle.law_lines.specs.NameTables.{Tables}
use Rattle.law_lines.specs.Spelling.{spelled}
use Rattle.smt_spelling.specs.NodeEntries.{enter_by, entered_by, entry_by, head_in, inline_by, is_built, own_lines, rendering_in, written_parts}
use Rattle.smt_spelling.specs.Entries.{SaysInline}
use Rattle.smt_spelling.specs.NodeLines.{encode_meanings, name_in}
use Rattle.smt_spelling.specs.NodeTexts.{IsText}
use Rattle.smt_encode.specs.Stopped.{WritesOwn}
use Rattle.smt_spelling.specs.Spelled.{AreSpelled, IsSpelled}
use Rattle.smt_encode.specs.declared.writer.Writer.{Writer}
use Rattle.smt_spelling.proofs.Built.{inline_headless}
use Rattle.smt_spelling.proofs.Stated.{stated}

-- an inline text is stated
pub says_some : (o : Option Expression) (text : RcStr Global) → SaysInline o (Some text) → (e : Expression) × (o ≡ Some e) × (rc_str_bytes text ≡ spelled e)
says_some (Some e) text h = (e, refl, h)
says_some None text h = absurd h

pub says_none : (o : Option Expression) → SaysInline o None → o ≡ None
says_none None h = refl
says_none (Some e) h = absurd h

-- the text of what has no entry, by the texts of its parts
pub inline_stated : (enums : Enums) (m : Meaning) (s : Tables) (text : RcStr Global) (es : List Expression) → is_built (label_in m) ≡ true → name_in s m ≡ None
    → encode_meanings enums (written_parts (rendering_in m) (parts_in m)) s ≡ made_of es s → SaysInline (inline_by (label_in m) es) (Some text) → IsText enums s m (rc_str_bytes text)
inline_stated enums m s text es built none parts says =
    let (e, is, spells) = says_some (inline_by (label_in m) es) text says in
    (e, stated enums m s built (inline_headless (label_in m) es e is) none ∙ ap (λ w. w >>= λ es u. own_lines enums m es u) parts ∙ ap (λ o. elim o [ Some e ↦ made_of e s | None ↦ entered_by enums (label_in m) (rendering_in m) m es s ]) is, spells)

-- its own lines are none
pub inline_lines : (enums : Enums) (m : Meaning) (s : Tables) (es : List Expression) (e : Expression) → inline_by (label_in m) es ≡ Some e → own_lines enums m es s ≡ made_of e s
inline_lines enums m s es e is = ap (λ o. elim o [ Some e ↦ made_of e s | None ↦ entered_by enums (label_in m) (rendering_in m) m es s ]) is

-- the own lines of a term that gets a name
pub entry_lines_are : (enums : Enums) (t : PlainTerm) (s : Tables) (sort : Expression) (es : List Expression) → inline_by (label_in (TermMeaning t)) (sort ∷ es) ≡ None
    → own_lines enums (TermMeaning t) (sort ∷ es) s ≡ enter_by (entry_by enums (label_in (TermMeaning t)) (rendering_in (TermMeaning t)) (head_in t s) sort es) t sort s
entry_lines_are enums t s sort es is = ap (λ o. elim o [ Some e ↦ made_of e s | None ↦ entered_by enums (label_in (TermMeaning t)) (rendering_in (TermMeaning t)) (TermMeaning t) (sort ∷ es) s ]) is

-- the first of several texts, and the others
pub record Split (es : List Expression) (first : RcStr Global) (others : List (RcStr Global)) : Type 0 where
  pub sort : Expression
  pub rest : List Expression
  pub whole : es ≡ sort ∷ rest
  pub sort_spelled : rc_str_bytes first ≡ spelled sort
  pub rest_spelled : AreSpelled rest others

pub split : (es : List Expression) (first : RcStr Global) (others : List (RcStr Global)) → AreSpelled es (first ∷ others) → Split es first others
split [] first others h = absurd (cc)
split (e ∷ es) first others h = record { sort = e; rest = es; whole = refl; sort_spelled = cc; rest_spelled = cc }

-- the first is taken off
pub taken_off : {A : Type 0} (xs others : List A) (x : A) → 1 ≤ length xs → x ≡ get_or xs 0 x → others ≡ drop 1 xs → xs ≡ x ∷ others
taken_off [] others x h is rest = absurd (omega (arith, h))
taken_off (y ∷ xs) others x h is rest = sym (λ i. is i ∷ rest i)

-- a term is written by its entry
pub entry_written : {S E : Type 0} (contents : S → Option (List ℕ)) (old new : Writer S) (enums : Enums) (m : Meaning) (t : PlainTerm) (es : List Expression) (s : Tables) (first : RcStr Global) (others : List (RcStr Global)) (result : Result (RcStr Global) E)
    → m ≡ TermMeaning t → AreSpelled es (first ∷ others) → inline_by (label_in m) es ≡ None
    → ((e : Expression) (rest : List Expression) → rc_str_bytes first ≡ spelled e → AreSpelled rest others → WritesOwn contents None old new (enter_by (entry_by enums (label_in m) (rendering_in m) (head_in t s) e rest) t e s) IsSpelled result)
    → WritesOwn contents None old new (own_lines enums m es s) IsSpelled result
entry_written contents old new enums m t es s first others result is shown none writes =
    let p = split es first others shown in
    let whole : own_lines enums m es s ≡ enter_by (entry_by enums (label_in m) (rendering_in m) (head_in t s) p.sort p.rest) t p.sort s =
    ap (λ l. own_lines enums m l s) p.whole
    ∙ ap (λ k. own_lines enums k (p.sort ∷ p.rest) s) is
    ∙ entry_lines_are enums t s p.sort p.rest (ap (λ k. inline_by (label_in k) (p.sort ∷ p.rest)) (sym is) ∙ ap (inline_by (label_in m)) (sym p.whole) ∙ none)
    ∙ ap (λ k. enter_by (entry_by enums (label_in k) (rendering_in k) (head_in t s) p.sort p.rest) t p.sort s) (sym is) in
    subst (λ (w : Written Expression). WritesOwn contents None old new w IsSpelled result) (sym whole) (writes p.sort p.rest p.sort_spelled p.rest_spelled)
