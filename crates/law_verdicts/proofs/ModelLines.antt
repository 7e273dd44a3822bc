-- The lines of a model that the machine shows are the only model that can be read there.
use Rattle.std.proofs.Common.{◌≡◌, ℕ, Bool, true, false, ◌&&◌, List, [], ◌∷◌, ◌++◌, refl, sym, ap, ◌∙◌, subst, append_assoc}
use Rattle.std.specs.Prelude.{codes, bytes_eq}
use Rattle.std.specs.List.{AllByRecursion, concat, list_all}
use Rattle.std.proofs.lemmas.Bool.{and_from, and_parts, false≢true}
use Rattle.std.proofs.lemmas.List.Folds.{list_all-append}
use Rattle.law_scripts.specs.Script.{Builds, Constant, Defined, Entry, Function, Selects, State, names_of}
use Rattle.law_scripts.specs.Sorts.{bool_sort, same_sort}
use Rattle.law_scripts.specs.Written.{is_name}
use Rattle.law_verdicts.specs.FirstModel.{constants_in, constants_of}
use Rattle.law_verdicts.specs.Fragment.{is_formula}
use Rattle.law_verdicts.specs.Machine.{model_text, truth_line, truth_lines}
use Rattle.law_lines.specs.TermTexts.{bool_name}
use Rattle.smt_solve.specs.Answers.{StripsTo, closing, opening}
use Rattle.smt_solve.specs.Link.{IsLine}
use Rattle.smt_solve.specs.Model.{AreInner}
use Rattle.law_verdicts.specs.Honesty.{AreModelLines}
use Rattle.law_verdicts.proofs.Bytes.{Blanks, NoneIsFeed, Says, free, free_append, inner_is_not_closing, is_free, line_is, name_is_free, not_closing, not_opening, says_alone}
use Rattle.law_verdicts.proofs.Small.{HasTruths, any, is_small_entry}

-- ---- the constants of a script of the fragment have names without line feeds

abbrev are_free : List (List ℕ) → Bool
are_free ns = list_all is_free ns

constants_are_free : (ds : List (List ℕ × Entry)) → list_all is_small_entry ds ≡ true → are_free (constants_in ds) ≡ true
constants_are_free [] h = refl
constants_are_free ((n, Constant sort) ∷ older) h =
    let p = and_parts (is_name n && same_sort sort bool_sort) (list_all is_small_entry older) h in
    let named = name_is_free n (and_parts (is_name n) (same_sort sort bool_sort) p.0).0 in
    list_all-append is_free (constants_in older) (n ∷ []) ∙ and_from (are_free (constants_in older)) (are_free (n ∷ [])) (constants_are_free older p.1) (and_from (is_free n) true named refl)
constants_are_free ((n, Defined sort body) ∷ older) h = constants_are_free older (and_parts (is_formula any body) (list_all is_small_entry older) h).1
constants_are_free ((n, Function argument sort) ∷ older) h = absurd (false≢true h)
constants_are_free ((n, Builds d ps place fields) ∷ older) h = constants_are_free older (and_parts (bytes_eq d (codes "Option")) (list_all is_small_entry older) h).1
constants_are_free ((n, Selects d ps c place field) ∷ older) h = constants_are_free older h

-- ---- the line of a constant

-- without its line feed
abbrev line_body : List ℕ → Bool → List ℕ
line_body n b = codes "  (define-fun " ++ (n ++ (codes " () Bool " ++ (bool_name b ++ codes ")")))

body_free : (n : List ℕ) (b : Bool) → is_free n ≡ true → is_free (line_body n b) ≡ true
body_free n true h = free_append n (codes " () Bool true)") h refl
body_free n false h = free_append n (codes " () Bool false)") h refl

line_then : (n : List ℕ) (b : Bool) (rest : List ℕ) → truth_line n b ++ rest ≡ line_body n b ++ 10 ∷ rest
line_then n true rest = ap (λ t. codes "  (define-fun " ++ t) (append_assoc n (codes " () Bool true)\n") rest ∙ sym (append_assoc n (codes " () Bool true)") (10 ∷ rest)))
line_then n false rest = ap (λ t. codes "  (define-fun " ++ t) (append_assoc n (codes " () Bool false)\n") rest ∙ sym (append_assoc n (codes " () Bool false)") (10 ∷ rest)))

-- it is not the last line of a model
not_last : (n : List ℕ) (b : Bool) (last : List ℕ) → StripsTo last closing → last ≡ line_body n b ++ 10 ∷ [] → ⊥
not_last n b last s e = not_closing _ (subst (λ t. Says Blanks t closing) e (says_alone last closing s))

-- ---- the lines of a model

-- What is read of a model behind its first line: lines that are not `)`, the line `)`, and what comes then.
record Ends (inner : List (List ℕ)) (last rest bytes : List ℕ) : Type 0 where
  lines : AllByRecursion IsLine (inner ++ last ∷ [])
  between : AreInner inner
  closes : StripsTo last closing
  whole : bytes ≡ concat (inner ++ last ∷ []) ++ rest

-- the last line
at_last : (last rest more next : List ℕ) → Ends [] last rest (more ++ 10 ∷ next) → NoneIsFeed more → (last ≡ more ++ 10 ∷ []) × (next ≡ rest)
at_last last rest more next e f = line_is last more rest next e.lines.0 f (e.whole ∙ append_assoc last [] rest)

-- an earlier one
at_inner : (line : List ℕ) (lines : List (List ℕ)) (last rest more next : List ℕ) → Ends (line ∷ lines) last rest (more ++ 10 ∷ next) → NoneIsFeed more → (line ≡ more ++ 10 ∷ []) × Ends lines last rest next
at_inner line lines last rest more next e f =
    let p = line_is line more (concat (lines ++ last ∷ []) ++ rest) next e.lines.0 f (e.whole ∙ append_assoc line (concat (lines ++ last ∷ [])) rest) in
    (p.0, record { lines = e.lines.1; between = e.between.1; closes = e.closes; whole = p.1 })

-- where the machine's lines are over
over : (inner : List (List ℕ)) (last rest behind : List ℕ) → Ends inner last rest (codes ")" ++ 10 ∷ behind) → behind ≡ rest
over [] last rest behind e = (at_last last rest (codes ")") behind e (free (codes ")") refl)).1
over (line ∷ lines) last rest behind e = absurd (inner_is_not_closing line e.between.0 (at_inner line lines last rest (codes ")") behind e (free (codes ")") refl)).0)

-- what is left of the machine's lines
abbrev left : List (List ℕ) → List Bool → List ℕ → List ℕ
left ns bs behind = truth_lines ns bs ++ (codes ")" ++ 10 ∷ behind)

one_line : (n : List ℕ) (ns : List (List ℕ)) (b : Bool) (bs : List Bool) (behind : List ℕ) → left (n ∷ ns) (b ∷ bs) behind ≡ line_body n b ++ 10 ∷ left ns bs behind
one_line n ns b bs behind = append_assoc (truth_line n b) (truth_lines ns bs) (codes ")" ++ 10 ∷ behind) ∙ line_then n b (left ns bs behind)

same_lines : (ns : List (List ℕ)) (bs : List Bool) (inner : List (List ℕ)) (last rest behind : List ℕ) → are_free ns ≡ true → Ends inner last rest (left ns bs behind) → behind ≡ rest
same_lines [] bs inner last rest behind f e = over inner last rest behind e
same_lines (n ∷ ns) [] inner last rest behind f e = over inner last rest behind e
same_lines (n ∷ ns) (b ∷ bs) [] last rest behind f e =
    let named = free (line_body n b) (body_free n b (and_parts (is_free n) (are_free ns) f).0) in
    absurd (not_last n b last e.closes (at_last last rest (line_body n b) (left ns bs behind) (subst (Ends [] last rest) (one_line n ns b bs behind) e) named).0)
same_lines (n ∷ ns) (b ∷ bs) (line ∷ lines) last rest behind f e =
    let p = and_parts (is_free n) (are_free ns) f in
    let next = at_inner line lines last rest (line_body n b) (left ns bs behind) (subst (Ends (line ∷ lines) last rest) (one_line n ns b bs behind) e) (free (line_body n b) (body_free n b p.0)) in
    same_lines ns bs lines last rest behind p.1 next.1

-- What stands behind a model that the machine shows is what stands behind the model that was read.
pub same_model : (s : State) (bs : List Bool) (model rest behind : List ℕ) → HasTruths s → AreModelLines model → model_text (constants_of s) bs ++ behind ≡ model ++ rest → behind ≡ rest
same_model s bs model rest behind t m h =
    let lines = truth_lines (constants_of s) bs in
    let shown : model_text (constants_of s) bs ++ behind ≡ codes "(" ++ 10 ∷ (lines ++ (codes ")" ++ 10 ∷ behind)) = ap (λ x. codes "(" ++ 10 ∷ x) (append_assoc lines (codes ")\n") behind) in
    let read : model ++ rest ≡ m.first ++ (concat (m.inner ++ m.last ∷ []) ++ rest) = ap (λ x. x ++ rest) m.whole ∙ append_assoc m.first (concat (m.inner ++ m.last ∷ [])) rest in
    let p = line_is m.first (codes "(") (concat (m.inner ++ m.last ∷ []) ++ rest) (lines ++ (codes ")" ++ 10 ∷ behind)) m.lines.0 (free (codes "(") refl) (sym shown ∙ h ∙ read) in
    same_lines (constants_of s) bs m.inner m.last rest behind (constants_are_free (names_of s) t.names) (record { lines = m.lines.1; between = m.between; closes = m.closes; whole = p.1 })

-- The line that no model is to be had is none.
pub not_a_model : (model rest behind : List ℕ) → AreModelLines model → codes "(error \"no model\")" ++ 10 ∷ behind ≡ model ++ rest → ⊥
not_a_model model rest behind m h =
    let read : model ++ rest ≡ m.first ++ (concat (m.inner ++ m.last ∷ []) ++ rest) = ap (λ x. x ++ rest) m.whole ∙ append_assoc m.first (concat (m.inner ++ m.last ∷ [])) rest in
    let p = line_is m.first (codes "(error \"no model\")") (concat (m.inner ++ m.last ∷ []) ++ rest) behind m.lines.0 (free (codes "(error \"no model\")") refl) (h ∙ read) in
    not_opening (subst (λ t. Says Blanks t opening) p.0 (says_alone m.first opening m.opens))
