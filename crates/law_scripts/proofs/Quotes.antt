-- What is written of code points is read as these.
use Rattle.std.proofs.Common.{◌≡◌, ℕ, true, List, [], ◌∷◌, ◌++◌, map, refl, sym, ap, ◌∙◌, subst, Option, Some}
use Rattle.std.specs.Prelude.{codes}
use Rattle.std.specs.List.{flat_map, list_all}
use Rattle.std.proofs.lemmas.Bool.{and_parts, and_from}
use Rattle.law_texts.specs.Lexicon.{Text}
use Rattle.law_texts.specs.Reading.{Leaf, Expression, expressions}
use Rattle.law_texts.proofs.QuotedTexts.{undoubled, characters_are, all_read, all_plain}
use Rattle.law_scripts.specs.Written.{ReadsAs, between_quotes}
use Rattle.law_scripts.specs.WrittenStrings.{quoted, TextsWrite, part_text, part_expr, pattern_text, pattern_expr, PatternsWrite}
use Rattle.law_scripts.proofs.Lines.{strings_write, names_write}
use Rattle.law_scripts.proofs.Laid.{groups_write}
use Rattle.law_scripts.specs.Script.{group, name, pattern, pattern_part, pattern_parts}
use Rattle.law_texts.specs.Options.{◌>>=◌}
use Rattle.law_scripts.specs.CommandLines.{Part, AreWritten}
use Rattle.law_terms.specs.Plain.{PatternPart, Character, Wildcard}
use Rattle.law_terms.specs.TypeValues.{is_code_point}
use Rattle.law_terms.specs.Faults.{is_pattern_part}

pub texts_write : TextsWrite
texts_write cs h =
    subst (λ (t : List ℕ). ReadsAs (codes "\"" ++ (t ++ codes "\"")) (Leaf (Text cs))) (sym (characters_are cs))
    (subst (λ (t : List ℕ). ReadsAs (between_quotes (flat_map undoubled cs)) (Leaf (Text t))) (all_read cs h) (strings_write (flat_map undoubled cs) (all_plain cs h)))

-- ---- patterns

abbrev part : PatternPart → Part
part p = record { text = part_text p; expr = part_expr p }

part_writes : (p : PatternPart) → is_pattern_part p ≡ true → ReadsAs (part_text p) (part_expr p)
part_writes (Character c) h =
    groups_write (codes "str.to_re") (name (codes "str.to_re")) (record { text = quoted (c ∷ []); expr = Leaf (Text (c ∷ [])) } ∷ []) []
    (names_write (codes "str.to_re") refl) (texts_write (c ∷ []) (and_from (is_code_point c) true h refl), tt) refl
part_writes Wildcard h =
    groups_write (codes "re.*") (name (codes "re.*")) (record { text = codes "re.allchar"; expr = name (codes "re.allchar") } ∷ []) []
    (names_write (codes "re.*") refl) (names_write (codes "re.allchar") refl, tt) refl

parts_write : (ps : List PatternPart) → list_all is_pattern_part ps ≡ true → AreWritten (map part ps)
parts_write [] h = tt
parts_write (p ∷ ps) h = let q = and_parts (is_pattern_part p) (list_all is_pattern_part ps) h in (part_writes p q.0, parts_write ps q.1)

part_exprs : (ps : List PatternPart) → map (λ p. p.expr) (map part ps) ≡ map part_expr ps
part_exprs [] = refl
part_exprs (p ∷ ps) = ap (λ (es : List Expression). part_expr p ∷ es) (part_exprs ps)

part_is : (p : PatternPart) → pattern_part (part_expr p) ≡ Some (p ∷ [])
part_is (Character c) = refl
part_is Wildcard = refl

parts_are : (ps : List PatternPart) → pattern_parts (expressions (map part_expr ps)) ≡ Some ps
parts_are [] = refl
parts_are (p ∷ ps) =
    ap (λ (o : Option (List PatternPart)). o >>= λ x. pattern_parts (expressions (map part_expr ps)) >>= λ y. Some (x ++ y)) (part_is p)
    ∙ ap (λ (o : Option (List PatternPart)). o >>= λ y. Some (p ∷ y)) (parts_are ps)

many : (p q : PatternPart) (ps : List PatternPart) → pattern (pattern_expr (p ∷ q ∷ ps)) ≡ pattern_parts (expressions (map part_expr (p ∷ q ∷ ps)))
many (Character c) q ps = refl
many Wildcard q ps = refl

alone_is : (p : PatternPart) → pattern (part_expr p) ≡ Some (p ∷ [])
alone_is (Character c) = refl
alone_is Wildcard = refl

pub patterns_write : PatternsWrite
patterns_write [] h = (groups_write (codes "str.to_re") (name (codes "str.to_re")) (record { text = codes "\"\""; expr = Leaf (Text []) } ∷ []) [] (names_write (codes "str.to_re") refl) (texts_write [] refl, tt) refl, refl)
patterns_write (p ∷ []) h = (part_writes p (and_parts (is_pattern_part p) true h).0, alone_is p)
patterns_write (p ∷ q ∷ ps) h = (
  subst (λ (es : List Expression). ReadsAs (pattern_text (p ∷ q ∷ ps)) (group (name (codes "re.++") ∷ es))) (part_exprs (p ∷ q ∷ ps))
      (groups_write (codes "re.++") (name (codes "re.++")) (map part (p ∷ q ∷ ps)) [] (names_write (codes "re.++") refl) (parts_write (p ∷ q ∷ ps) h) refl),
  many p q ps ∙ parts_are (p ∷ q ∷ ps),
)
