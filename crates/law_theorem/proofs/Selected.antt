-- Which selectors the expressions of a script apply.
use Rattle.std.proofs.Common.{◌≡◌, ℕ, Bool, true, false, ◌&&◌, cond, List, [], ◌∷◌, ◌++◌, map, refl, sym, ap, ◌∙◌, Option, Some, None}
use Rattle.std.specs.Prelude.{bytes_eq, codes, take, drop}
use Rattle.law_terms.specs.Plain.{BitVecLiteral, BoolLiteral, EntityLiteral, ExtensionLiteral, StringLiteral, PlainTerm, Application, NoneTerm, LiteralTerm, RecordTerm, SetTerm, SomeTerm, VariableTerm}
use Rattle.law_texts.specs.Lexicon.{is_digit, some_all, number_in}
use Rattle.law_texts.specs.Reading.{Expression}
use Rattle.law_scripts.specs.Script.{BitLiteral, Unformed, assertions_of, name}
use Rattle.law_scripts.specs.Sorts.{Entries, entries, sort_in}
use Rattle.law_scripts.specs.Value.{Selection, shape_selection, selections, selections_in}
use Rattle.law_scripts.specs.Numerals.{numbered}
use Rattle.law_lines.specs.Lines.{bits}
use Rattle.law_lines.specs.NameTables.{Tables, name_of_term}
use Rattle.law_lines.specs.Entries.{text_or_nothing}
use Rattle.law_lines.specs.TermTexts.{named_text, text_of}
use Rattle.law_theorem.specs.Headline.{AreTexts}
use Rattle.law_theorem.specs.FittingStates.{AssertionsSelectNothing}

module _ (here : Entries) where
  literal_selects : (b : Bool) (w n : ℕ) (sort : Option Expression) → shape_selection here (cond b (BitLiteral w n) Unformed) sort ++ [] ≡ []
  literal_selects true w n sort = refl
  literal_selects false w n sort = refl

  pub bits_select : (w n : ℕ) → selections here (bits w n) ≡ []
  bits_select w n =
      let m : List ℕ = numbered (codes "bv") n in
      literal_selects (bytes_eq (take 2 m) (codes "bv") && some_all is_digit (drop 2 m)) w (number_in 10 (drop 2 m)) (sort_in here (name m))

  named_selects : (o : Option (List ℕ)) → selections here (text_or_nothing (named_text o)) ≡ []
  named_selects (Some n) = refl
  named_selects None = refl

  -- what stands for a term applies no selector
  pub text_selects : (s : Tables) (t : PlainTerm) → selections here (text_or_nothing (text_of s t)) ≡ []
  text_selects s (LiteralTerm (BitVecLiteral w n)) = bits_select w n
  text_selects s (LiteralTerm (BoolLiteral true)) = refl
  text_selects s (LiteralTerm (BoolLiteral false)) = refl
  text_selects s (LiteralTerm (StringLiteral x)) = refl
  text_selects s (LiteralTerm (EntityLiteral type id)) = named_selects (name_of_term s (LiteralTerm (EntityLiteral type id)))
  text_selects s (LiteralTerm (ExtensionLiteral x)) = named_selects (name_of_term s (LiteralTerm (ExtensionLiteral x)))
  text_selects s (Application op ts type) = named_selects (name_of_term s (Application op ts type))
  text_selects s (NoneTerm type) = named_selects (name_of_term s (NoneTerm type))
  text_selects s (RecordTerm x) = named_selects (name_of_term s (RecordTerm x))
  text_selects s (SetTerm t ts) = named_selects (name_of_term s (SetTerm t ts))
  text_selects s (SomeTerm t) = named_selects (name_of_term s (SomeTerm t))
  text_selects s (VariableTerm id type) = named_selects (name_of_term s (VariableTerm id type))

  texts_select : (s : Tables) (ts : List PlainTerm) → selections_in here (map (λ t. text_or_nothing (text_of s t)) ts) ≡ []
  texts_select s [] = refl
  texts_select s (t ∷ ts) = ap (λ (l : List Selection). l ++ selections_in here (map (λ t. text_or_nothing (text_of s t)) ts)) (text_selects s t) ∙ texts_select s ts

-- expressions that are texts are these
listed : (s : Tables) (ts : List PlainTerm) (es : List Expression) → AreTexts s ts es → es ≡ map (λ t. text_or_nothing (text_of s t)) ts
listed s [] [] h = refl
listed s [] (e ∷ es) h = absurd h
listed s (t ∷ ts) [] h = absurd h
listed s (t ∷ ts) (e ∷ es) h = let a = ap text_or_nothing h.0 in let b = listed s ts es h.1 in λ i. sym a i ∷ b i

pub assertions_select_nothing : AssertionsSelectNothing
assertions_select_nothing enums x state f = ap (selections_in (entries state)) (listed x.tables x.terms (assertions_of state) f.assertions) ∙ texts_select (entries state) x.tables x.terms
