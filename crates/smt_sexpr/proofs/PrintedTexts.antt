-- What is printed of expressions, taken one at a time.
use Rattle.std.proofs.Common.{ℕ, ◌≡◌, ◌≤◌, List, [], ◌∷◌, ◌++◌, ◌∙◌, ap, sym, refl, append-nil, append_assoc, map, drop, length}
use Rattle.std.proofs.lemmas.List.{drop_all}
use Rattle.law_texts.specs.Reading.{expressions}
use Rattle.smt_sexpr.specs.Printed.{expression_text, expression_texts}
use Rattle.smt_sexpr.specs.View.{plain}
use Rattle.smt_sexpr.specs.declared.expression.SExpr.{SExpr}

-- one text more is written behind its gap
pub next_text : (done gap text left left' whole : List ℕ) → left ≡ (gap ++ text) ++ left' → done ++ left ≡ whole → ((done ++ gap) ++ text) ++ left' ≡ whole
next_text done gap text left left' whole e h =
    let f : done ++ ((gap ++ text) ++ left') ≡ whole = ap (λ l. done ++ l) (sym e) ∙ h in
    simp append_assoc (simp append_assoc at f)

-- no text is left
pub no_text : {X : Type 0} (written_of : List X → List ℕ) → written_of [] ≡ []
    → (done whole : List ℕ) (xs : List X) (i : ℕ) → length xs ≤ i → done ++ written_of (drop i xs) ≡ whole → done ≡ whole
no_text written_of none done whole xs i past before =
    sym (append-nil done) ∙ ap (λ l. done ++ l) (sym (ap written_of (drop_all i xs past) ∙ none)) ∙ before

-- what an expression prints
abbrev pub printed_expression : SExpr → List ℕ
printed_expression e = expression_text (plain e)

pub texts_of_expressions : (es : List SExpr) → map printed_expression es ≡ expression_texts (expressions (map plain es))
texts_of_expressions [] = refl
texts_of_expressions (e ∷ es) = ap (λ l. printed_expression e ∷ l) (texts_of_expressions es)
