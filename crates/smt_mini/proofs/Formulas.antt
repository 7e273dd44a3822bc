-- Formulas, by the tests of the program.
use Rattle.std.proofs.Common.{◌≡◌, ℕ, Bool, true, false, ◌&&◌, ◌||◌, not, cond, List, [], ◌∷◌, Option, Some, None, map, length, get_or, drop, suc, ◌+◌, ◌<◌, bytes_eq, refl, sym, ap, ◌∙◌, codes, is_some}
use Rattle.law_scripts.specs.Script.{Entry, State, built_in_names, count, has_name, is_in, look_up, names_of}
use Rattle.law_scripts.specs.Sorts.{entries}
use Rattle.law_verdicts.specs.Fragment.{are_formulas, is_connective, is_formula, is_truth, is_truth_name}
use Rattle.law_scripts.specs.Written.{is_name}
use Rattle.std.proofs.lemmas.List.{at_drop_more}
use Rattle.law_texts.specs.Reading.{Expression}
use Rattle.smt_sexpr.specs.View.{plain, plain_list}
use Rattle.smt_sexpr.specs.declared.expression.SExpr.{SExpr}
use Rattle.smt_mini.specs.Building.{applied}
use Rattle.smt_mini.specs.Tables.{Fits, FitsEntry, Table, found_in}

-- a name is declared where it stands for something
declared_at : (b here : Bool) (x : Entry) (o : Option Entry) → here ≡ is_some o → (b || here) ≡ is_some (cond b (Some x) o)
declared_at true here x o h = refl
declared_at false here x o h = h

pub declared_is : (n : List ℕ) (ds : List (List ℕ × Entry)) → is_in n (map (λ d. d.0) ds) ≡ is_some (look_up n ds)
declared_is n [] = refl
declared_is n (d ∷ ds) = declared_at (bytes_eq n d.0) (is_in n (map (λ x. x.0) ds)) d.1 (look_up n ds) (declared_is n ds)

-- a name is there where it is built in or stands for something
pub name_is : (s : State) (n : List ℕ) → has_name s n ≡ (is_in n built_in_names || is_some (entries s n))
name_is s n = ap (λ b. is_in n built_in_names || b) (declared_is n (names_of s))

-- what the program asks of a name that is neither `true` nor `false`
abbrev pub is_truth_found : Option (Option ℕ) → Bool → Bool
is_truth_found (Some gate) built = is_some gate
is_truth_found None built = not built

truth_found_at : (o : Option (Option ℕ)) (built : Bool) (x : Option Entry) → FitsEntry o x → is_truth_found o built ≡ (not (built || is_some x) || is_truth x)
truth_found_at None true x h = sym (ap is_truth h)
truth_found_at None false x h = sym (ap (λ y. not (is_some y) || is_truth y) h)
truth_found_at (Some None) true x h = sym h.1
truth_found_at (Some None) false x h = sym (ap (λ b. not b || is_truth x) h.0 ∙ h.1)
truth_found_at (Some (Some p)) built x h = sym (ap (λ b. not (built || is_some x) || b) h ∙ or_true (not (built || is_some x)))
  where
    or_true : (b : Bool) → (b || true) ≡ true
    or_true true = refl
    or_true false = refl

-- the test of a name whose form is right
pub truth_name_by : (t : Table) (s : State) → Fits t s → (n : List ℕ) → is_name n ≡ true → bytes_eq n (codes "true") ≡ false → bytes_eq n (codes "false") ≡ false → is_truth_found (found_in t n) (is_in n built_in_names) ≡ is_truth_name s n
truth_name_by t s f n a b c =
    truth_found_at (found_in t n) (is_in n built_in_names) (entries s n) (f.names n)
    ∙ ap (λ h. not h || is_truth (entries s n)) (sym (name_is s n))
    ∙ sym (ap (λ x. x && ((bytes_eq n (codes "true") || bytes_eq n (codes "false")) || (not (has_name s n) || is_truth (entries s n)))) a
    ∙ ap (λ x. (x || bytes_eq n (codes "false")) || (not (has_name s n) || is_truth (entries s n))) b
    ∙ ap (λ x. x || (not (has_name s n) || is_truth (entries s n))) c)

-- ---- formulas by their parts

listed_count : (es : List SExpr) → count (plain_list es) ≡ length es
listed_count [] = refl
listed_count (e ∷ es) = ap suc (listed_count es)

applied_formula : (has : List ℕ → Bool) (n : List ℕ) (es : List SExpr) → is_formula has (applied n es) ≡ (is_connective n (length es) && are_formulas has (plain_list es))
applied_formula has n es = ap (λ k. is_connective n k && are_formulas has (plain_list es)) (listed_count es)

pub then_connective : (has : List ℕ → Bool) (e : Expression) (n : List ℕ) (es : List SExpr) (r : Bool) → e ≡ applied n es → is_connective n (length es) ≡ true → r ≡ are_formulas has (plain_list es) → r ≡ is_formula has e
then_connective has e n es r shape h k = sym (ap (is_formula has) shape ∙ applied_formula has n es ∙ ap (λ b. b && are_formulas has (plain_list es)) h ∙ sym k)

pub else_connective : (has : List ℕ → Bool) (e : Expression) (n : List ℕ) (es : List SExpr) (b : Bool) → e ≡ applied n es → b ≡ is_connective n (length es) → b ≡ false → b ≡ is_formula has e
else_connective has e n es b shape h k = k ∙ sym (ap (is_formula has) shape ∙ applied_formula has n es ∙ ap (λ c. c && are_formulas has (plain_list es)) (sym h ∙ k))

pub one_formula_more : (has : List ℕ → Bool) (es : List SExpr) (i : ℕ) (e : SExpr) → i < length es → e ≡ get_or es i e → is_formula has (plain e) ≡ true → are_formulas has (plain_list (drop (i + 1) es)) ≡ are_formulas has (plain_list (drop i es))
one_formula_more has es i e l h k =
    sym (at_drop_more (λ xs. are_formulas has (plain_list xs)) es i e l
    ∙ ap (λ b. b && are_formulas has (plain_list (drop (i + 1) es))) (ap (λ x. is_formula has (plain x)) (sym h) ∙ k))
