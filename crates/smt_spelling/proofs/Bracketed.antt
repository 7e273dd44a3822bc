-- The text of an application is the spelling of its expression.
use Rattle.std.proofs.Common.{◌≡◌, ℕ, List, [], ◌∷◌, ◌++◌, map, refl, sym, ap, ◌∙◌, append_assoc}
use Rattle.std.specs.Prelude.{codes}
use Rattle.std.specs.List.{flat_map, join_by}
use Rattle.law_texts.specs.Reading.{Expression, expressions}
use Rattle.law_scripts.specs.Script.{group}
use Rattle.law_lines.specs.Spelling.{spelled, spelled_others, spelled_operands}

others_spelled : (es : List Expression) → flat_map (λ x. codes " " ++ x) (map spelled es) ≡ spelled_others (expressions es)
others_spelled [] = refl
others_spelled (e ∷ es) = append_assoc (codes " ") (spelled e) (flat_map (λ x. codes " " ++ x) (map spelled es)) ∙ ap (λ t. codes " " ++ (spelled e ++ t)) (others_spelled es)

operands_spelled : (es : List Expression) → codes " " ++ join_by (λ x. x) (codes " ") (map spelled es) ≡ spelled_operands (expressions es)
operands_spelled [] = refl
operands_spelled (e ∷ es) = ap (λ t. codes " " ++ (spelled e ++ t)) (others_spelled es)

-- the head and the operands between brackets, a space between each two
pub bracketed : (head : List ℕ) (h : Expression) (texts : List (List ℕ)) (es : List Expression) → head ≡ spelled h → texts ≡ map spelled es
    → codes "(" ++ (head ++ (codes " " ++ (join_by (λ x. x) (codes " ") texts ++ codes ")"))) ≡ spelled (group (h ∷ es))
bracketed head h texts es p q =
    let e : codes " " ++ (join_by (λ x. x) (codes " ") texts ++ codes ")") ≡ spelled_operands (expressions es) ++ codes ")" =
    sym (append_assoc (codes " ") (join_by (λ x. x) (codes " ") texts) (codes ")")) ∙ ap (λ t. (codes " " ++ join_by (λ x. x) (codes " ") t) ++ codes ")") q ∙ ap (λ t. t ++ codes ")") (operands_spelled es) in
    ap (λ t. codes "(" ++ (head ++ t)) e ∙ ap (λ t. codes "(" ++ (t ++ (spelled_operands (expressions es) ++ codes ")"))) p ∙ ap (λ t. codes "(" ++ t) (sym (append_assoc (spelled h) (spelled_operands (expressions es)) (codes ")")))
