-- A whole script: the declaration of `Option`, the terms' lines, and an assertion for each term.
use Rattle.std.proofs.Common.{◌≡◌, ℕ, Bool, false, zero, suc, ◌+◌, ◌<◌, List, [], ◌∷◌, ◌++◌, length, take, get_or, map, refl, sym, ap, ◌∙◌, subst, append-nil, add-one, arith, Option, Result, Ok, Err}
use Rattle.std.specs.Prelude.{OnOk}
use Rattle.std.specs.Io.KnownBytes.{append_known}
use Rattle.std.specs.Rc.{rc_str_bytes}
use Rattle.std.specs.declared.alloc.Global.{Global}
use Rattle.std.specs.declared.rc.RcStr.{RcStr}
use Rattle.std.proofs.lemmas.List.{map-append}
use Rattle.law_terms.specs.Plain.{PlainTerm, terms}
use Rattle.law_texts.specs.Reading.{Expression}
use Rattle.law_lines.specs.Line.{Line, Assert, spelled_lines}
use Rattle.law_lines.specs.Lines.{Enums, beginning, encode, encode_terms, option_line}
use Rattle.law_lines.specs.NameTables.{Tables, no_names}
use Rattle.law_lines.specs.Spelling.{spelled}
use Rattle.law_lines.specs.Text.{text}
use Rattle.smt_spelling.specs.Names.{enums_under}
use Rattle.smt_encode.specs.Steps.{Wrote}
use Rattle.smt_spelling.specs.Spelled.{AreSpelled}
use Rattle.smt_encode.specs.declared.writer.Writer.{Writer}
use Rattle.smt_encode.proofs.Lines.{wrote_then}

-- the expression that a text spells, behind those before it
pub record Spells (es : List Expression) (i : ℕ) (text : RcStr Global) : Type 0 where
  pub expression : Expression
  pub spells : rc_str_bytes text ≡ spelled expression
  pub behind : take (i + 1) es ≡ take i es ++ expression ∷ []

one_on : (e : Expression) (es : List Expression) (i : ℕ) (x : Expression) → take (i + 1) es ≡ take i es ++ x ∷ [] → take (suc i + 1) (e ∷ es) ≡ (e ∷ take i es) ++ x ∷ []
one_on e es i x h = rw add-one (ap (λ xs. e ∷ xs) (ap (λ n. take n es) (sym (add-one i)) ∙ h))

pub spelled_at : (es : List Expression) (texts : List (RcStr Global)) (i : ℕ) (text : RcStr Global) → AreSpelled es texts → i < length texts → text ≡ get_or texts i text → Spells es i text
spelled_at es [] i text p l e = absurd (omega (arith, l))
spelled_at [] (t ∷ ts) i text p l e = absurd (cc)
spelled_at (e ∷ es) (t ∷ ts) zero text p l q = record { expression = e; spells = ap (λ (x : RcStr Global). rc_str_bytes x) q ∙ cc; behind = refl }
spelled_at (e ∷ es) (t ∷ ts) (suc i) text p l q =
    let s = spelled_at es ts i text (cc) (omega (arith, l)) q in
    record { expression = s.expression; spells = s.spells; behind = one_on e es i s.expression s.behind }

module _ {S : Type 0} {contents : S → Option (List ℕ)} where
  -- one assertion more
  pub asserted : {old mid new : Writer S} (es : List Expression) (i : ℕ) (e : Expression) (s : Tables) → take (i + 1) es ≡ take i es ++ e ∷ []
      → Wrote contents old mid (map Assert (take i es)) s → Wrote contents mid new (Assert e ∷ []) s → Wrote contents old new (map Assert (take (i + 1) es)) s
  asserted {old} {mid} {new} es i e s behind p q =
      subst (λ (ls : List Line). Wrote contents old new ls s) (sym (ap (map Assert) behind ∙ map-append Assert (take i es) (e ∷ []))) (wrote_then p q)

  -- the three parts of a script
  pub scripted : {old opened mid : Writer S} (new : Writer S) (begun : Bool) (enums : Enums) (ts : List PlainTerm) (s : Tables) → Wrote contents old opened (beginning begun) s
      → Wrote contents opened mid (encode_terms enums (terms ts) s).lines (encode_terms enums (terms ts) s).tables
      → Wrote contents mid new (map Assert (encode_terms enums (terms ts) s).made) (encode_terms enums (terms ts) s).tables
      → Wrote contents old new (beginning begun ++ (encode enums ts s).lines) (encode enums ts s).tables
  scripted new begun enums ts s head lines p = wrote_then head (wrote_then lines p)

-- the lines of a whole script are its text
text_is : (enums : Enums) (ts : List PlainTerm) → spelled_lines (option_line ∷ (encode enums ts no_names).lines) ≡ text enums ts
text_is enums ts = ap spelled_lines (sym (append-nil (option_line ∷ (encode enums ts no_names).lines)))

-- where the lines of a whole script were written, its text was
pub text_written : {S : Type 0} {contents : S → Option (List ℕ)} {old new : Writer S} {s : Tables} (begun : Bool) (enums : Enums) (ts : List PlainTerm) → begun ≡ false → Wrote contents old new (beginning begun ++ (encode enums ts no_names).lines) s
    → contents new.script ≡ append_known (contents old.script) (text enums ts)
text_written {contents = contents} {old} begun enums ts fresh w =
    w.contents_are ∙ ap (λ (b : Bool). append_known (contents old.script) (spelled_lines (beginning b ++ (encode enums ts no_names).lines))) fresh ∙ ap (append_known (contents old.script)) (text_is enums ts)

-- the lines of a whole script over these tables, with the names behind it
abbrev script_of : {S : Type 0} → (S → Option (List ℕ)) → Writer S → Writer S → Bool → Enums → List PlainTerm → Tables → Type 0
script_of contents old new begun enums ts s = Wrote contents old new (beginning begun ++ (encode enums ts s).lines) (encode enums ts s).tables

-- what was written by a writer that has the same sink and the same enum types
pub wrote_here : {S T E : Type 0} (contents : S → Option (List ℕ)) (old mid new : Writer S) (begun : Bool) (ts : List PlainTerm) (s : Tables) (result : Result T E) → old.script ≡ mid.script → enums_under mid.names ≡ enums_under old.names → OnOk result (script_of contents mid new begun (enums_under mid.names) ts s) → OnOk result (script_of contents old new begun (enums_under old.names) ts s)
wrote_here contents old mid new begun ts s (Ok x) same enums w =
    subst (λ (e : Enums). script_of contents old new begun e ts s) enums (record { names = w.names; contents_are = w.contents_are ∙ ap (λ k. append_known (contents k) (spelled_lines (beginning begun ++ (encode (enums_under mid.names) ts s).lines))) (sym same) })
wrote_here contents old mid new begun ts s (Err e) same enums w = tt
