-- Formulas have truths.
use Rattle.std.proofs.Common.{◌≡◌, ◌⊎◌, ℕ, suc, Bool, true, false, ◌&&◌, ◌||◌, cond, List, [], ◌∷◌, length, map, refl, sym, ap, ap₂, ◌∙◌, subst, inl, inr, Option, Some, None}
use Rattle.std.specs.Prelude.{IsTrue, codes, bytes_eq}
use Rattle.std.specs.List.{AllByRecursion, list_all}
use Rattle.std.proofs.lemmas.Bool.{and_parts, cases_Bool, cond-false, cond-true, false≢true}
use Rattle.std.proofs.lemmas.List.Elements.{recursion_from_All}
use Rattle.std.proofs.lemmas.Slice.Eq.{bytes_eq-Decides}
use Rattle.law_texts.specs.Lexicon.{Bits, Number, Text, Name}
use Rattle.law_texts.specs.Reading.{Expression, Leaf, Node, Expressions, Nil, Cons}
use Rattle.law_scripts.specs.ScriptValues.{ScriptValue, TruthOf}
use Rattle.law_scripts.specs.Script.{Builds, Constant, Defined, Entry, Function, Selects, State, count, look_up, names_of}
use Rattle.law_texts.specs.Options.{◌>>=◌}
use Rattle.law_scripts.specs.Sorts.{Entries, bool_sort, each_there, entries, same_sort}
use Rattle.law_scripts.specs.Value.{Meaning, ScriptInterpretation, applied_value, body_of, constant, entry_meaning, evaluate, evaluate_each, first_sort, is_entry_given, meaning}
use Rattle.law_scripts.specs.Written.{is_name}
use Rattle.law_verdicts.specs.FirstModel.{is_true, truth_of}
use Rattle.law_verdicts.specs.Fragment.{are_formulas, is_connective, is_formula, is_truth}
use Rattle.law_verdicts.specs.Truths.{FormulasHaveTruths, connected, truth_in, truths_in}
use Rattle.law_verdicts.proofs.Formulas.{IsWord, either, is_and, is_choice, is_equal, is_not, is_or, word_of}
use Rattle.law_verdicts.proofs.Found.{constant_is_truth}
use Rattle.law_verdicts.proofs.Known.{is_built_in, is_there, known_formula}
use Rattle.law_verdicts.proofs.Small.{HasTruths, any, are_over, is_small_entry, small_has_truths}

-- ---- what a connective gives of truths

-- these truths as values
abbrev pub truth_values : List Bool → List (Option ScriptValue)
truth_values bs = map (λ b. Some (TruthOf b)) bs

-- what a connective gives of these truths
abbrev pub gives : Meaning → List ℕ → Option Expression → List Bool → Option ScriptValue
gives env f sort bs = each_there (truth_values bs) >>= applied_value env f sort

not_gives : (env : Meaning) (sort : Option Expression) (bs : List Bool) → length bs ≡ 1 → gives env (codes "not") sort bs ≡ Some (TruthOf (connected (codes "not") bs))
not_gives env sort [] h = absurd cc
not_gives env sort (a ∷ []) h = refl
not_gives env sort (a ∷ b ∷ bs) h = absurd cc

and_gives : (env : Meaning) (sort : Option Expression) (bs : List Bool) → length bs ≡ 2 → gives env (codes "and") sort bs ≡ Some (TruthOf (connected (codes "and") bs))
and_gives env sort [] h = absurd cc
and_gives env sort (a ∷ []) h = absurd cc
and_gives env sort (a ∷ b ∷ []) h = refl
and_gives env sort (a ∷ b ∷ c ∷ bs) h = absurd cc

or_gives : (env : Meaning) (sort : Option Expression) (bs : List Bool) → length bs ≡ 2 → gives env (codes "or") sort bs ≡ Some (TruthOf (connected (codes "or") bs))
or_gives env sort [] h = absurd cc
or_gives env sort (a ∷ []) h = absurd cc
or_gives env sort (a ∷ b ∷ []) h = refl
or_gives env sort (a ∷ b ∷ c ∷ bs) h = absurd cc

equal_gives : (env : Meaning) (sort : Option Expression) (bs : List Bool) → length bs ≡ 2 → gives env (codes "=") sort bs ≡ Some (TruthOf (connected (codes "=") bs))
equal_gives env sort [] h = absurd cc
equal_gives env sort (a ∷ []) h = absurd cc
equal_gives env sort (true ∷ true ∷ []) h = refl
equal_gives env sort (true ∷ false ∷ []) h = refl
equal_gives env sort (false ∷ true ∷ []) h = refl
equal_gives env sort (false ∷ false ∷ []) h = refl
equal_gives env sort (a ∷ b ∷ c ∷ bs) h = absurd cc

choice_gives : (env : Meaning) (sort : Option Expression) (bs : List Bool) → length bs ≡ 3 → gives env (codes "ite") sort bs ≡ Some (TruthOf (connected (codes "ite") bs))
choice_gives env sort [] h = absurd cc
choice_gives env sort (a ∷ []) h = absurd cc
choice_gives env sort (a ∷ b ∷ []) h = absurd cc
choice_gives env sort (true ∷ b ∷ c ∷ []) h = refl
choice_gives env sort (false ∷ b ∷ c ∷ []) h = refl
choice_gives env sort (a ∷ b ∷ c ∷ d ∷ bs) h = absurd cc

pub word_gives : (env : Meaning) (sort : Option Expression) (f : List ℕ) (n : ℕ) → IsWord f n → (bs : List Bool) → length bs ≡ n → gives env f sort bs ≡ Some (TruthOf (connected f bs))
word_gives env sort f n is_not bs h = not_gives env sort bs h
word_gives env sort f n is_and bs h = and_gives env sort bs h
word_gives env sort f n is_or bs h = or_gives env sort bs h
word_gives env sort f n is_equal bs h = equal_gives env sort bs h
word_gives env sort f n is_choice bs h = choice_gives env sort bs h

-- ---- formulas over names that have truths

-- The names of which the test holds have truths.
abbrev HaveTruths : Meaning → (List ℕ → Bool) → Type 0
HaveTruths env has = (n : List ℕ) → has n ≡ true → constant env n ≡ Some (TruthOf (is_true (constant env n)))

abbrev truth_by : Meaning → List ℕ → Bool
truth_by env n = is_true (constant env n)

as_many : (at : List ℕ → Bool) (es : Expressions) → length (truths_in at es) ≡ count es
as_many at Nil = refl
as_many at (Cons e es) = ap suc (as_many at es)

-- an application of a connective is worth what the connective gives of its operands
pub applied_word : (here : Entries) (env : Meaning) (f : List ℕ) (n : ℕ) → IsWord f n → (es : Expressions) → count es ≡ n → evaluate here env (Node (Cons (Leaf (Name f)) es)) ≡ (each_there (evaluate_each here env es) >>= applied_value env f (first_sort here es))
applied_word here env f n is_not Nil h = absurd cc
applied_word here env f n is_and Nil h = absurd cc
applied_word here env f n is_or Nil h = absurd cc
applied_word here env f n is_equal Nil h = absurd cc
applied_word here env f n is_choice Nil h = absurd cc
applied_word here env f n is_not (Cons e es) h = refl
applied_word here env f n is_and (Cons e es) h = refl
applied_word here env f n is_or (Cons e es) h = refl
applied_word here env f n is_equal (Cons e es) h = refl
applied_word here env f n is_choice (Cons e es) h = refl

mutual
  formula_value : (here : Entries) (env : Meaning) (has : List ℕ → Bool) → HaveTruths env has → (e : Expression) → is_formula has e ≡ true → evaluate here env e ≡ Some (TruthOf (truth_in (truth_by env) e))
  formula_value here env has t (Leaf (Name n)) h = t n h
  formula_value here env has t (Leaf (Bits w n)) h = absurd (false≢true h)
  formula_value here env has t (Leaf (Number n)) h = absurd (false≢true h)
  formula_value here env has t (Leaf (Text s)) h = absurd (false≢true h)
  formula_value here env has t (Node Nil) h = absurd (false≢true h)
  formula_value here env has t (Node (Cons (Leaf (Name f)) es)) h =
      let p = and_parts (is_connective f (count es)) (are_formulas has es) h in
      let w = word_of f (count es) p.0 in
      applied_word here env f (count es) w es refl
      ∙ ap (λ vs. each_there vs >>= applied_value env f (first_sort here es)) (formula_values here env has t es p.1)
      ∙ word_gives env (first_sort here es) f (count es) w (truths_in (truth_by env) es) (as_many (truth_by env) es)
  formula_value here env has t (Node (Cons (Leaf (Bits w n)) es)) h = absurd (false≢true h)
  formula_value here env has t (Node (Cons (Leaf (Number n)) es)) h = absurd (false≢true h)
  formula_value here env has t (Node (Cons (Leaf (Text s)) es)) h = absurd (false≢true h)
  formula_value here env has t (Node (Cons (Node fs) es)) h = absurd (false≢true h)

  formula_values : (here : Entries) (env : Meaning) (has : List ℕ → Bool) → HaveTruths env has → (es : Expressions) → are_formulas has es ≡ true → evaluate_each here env es ≡ truth_values (truths_in (truth_by env) es)
  formula_values here env has t Nil h = refl
  formula_values here env has t (Cons e es) h =
      let p = and_parts (is_formula has e) (are_formulas has es) h in
      ap₂ (λ (v : Option ScriptValue) (vs : List (Option ScriptValue)). v ∷ vs) (formula_value here env has t e p.0) (formula_values here env has t es p.1)

-- ---- names

-- a value that is a truth is the truth that the test tells
truth_told : (v : Option ScriptValue) (b : Bool) → v ≡ Some (TruthOf b) → v ≡ Some (TruthOf (is_true v))
truth_told v b h = h ∙ ap (λ x. Some (TruthOf x)) (sym (ap is_true h))

-- what a name stands for that is not built in
built_or : (env : Meaning) (n : List ℕ) → ((b : Bool) × (env n None [] ≡ Some (TruthOf b))) ⊎ (is_built_in n ≡ true) → constant env n ≡ Some (TruthOf (is_true (constant env n)))
built_or env n h = elim (cases_Bool (bytes_eq n (codes "true"))) [
  | inl a ↦ truth_told (constant env n) true (cond-true (bytes_eq n (codes "true")) (Some (TruthOf true)) (cond (bytes_eq n (codes "false")) (Some (TruthOf false)) (env n None [])) a)
  | inr a ↦ elim (cases_Bool (bytes_eq n (codes "false"))) [
    | inl b ↦ truth_told (constant env n) false
        (cond-false (bytes_eq n (codes "true")) (Some (TruthOf true)) (cond (bytes_eq n (codes "false")) (Some (TruthOf false)) (env n None [])) a ∙ cond-true (bytes_eq n (codes "false")) (Some (TruthOf false)) (env n None []) b)
    | inr b ↦ elim h [
      | inl x ↦ truth_told (constant env n) x.0
          (cond-false (bytes_eq n (codes "true")) (Some (TruthOf true)) (cond (bytes_eq n (codes "false")) (Some (TruthOf false)) (env n None [])) a ∙ cond-false (bytes_eq n (codes "false")) (Some (TruthOf false)) (env n None []) b ∙ x.1)
      | inr c ↦ absurd (false≢true (sym (ap₂ (λ (x y : Bool). x || y) a b) ∙ c))
    ]
  ]
]

-- the entry that a name stands for
abbrev GivesTruth : ScriptInterpretation → List (List ℕ × Entry) → List ℕ → Type 0
GivesTruth j ds n = (b : Bool) × (meaning j ds n None [] ≡ Some (TruthOf b))

abbrev Given : ScriptInterpretation → State → List (List ℕ × Entry) → Type 0
Given j s ds = AllByRecursion (λ p. IsTrue (is_entry_given j (entries s) p.0 p.1)) ds

-- one entry more
one_more : (j : ScriptInterpretation) (d : List ℕ × Entry) (older : List (List ℕ × Entry)) (n : List ℕ)
    → (bytes_eq n d.0 ≡ true → is_truth (Some d.1) ≡ true → (b : Bool) × (entry_meaning j n (evaluate (λ m. look_up m older) (meaning j older) (body_of d.1)) d.1 None [] ≡ Some (TruthOf b)))
    → (is_truth (look_up n older) ≡ true → GivesTruth j older n) → is_truth (look_up n (d ∷ older)) ≡ true → GivesTruth j (d ∷ older) n
one_more j d older n here behind k =
    let value = entry_meaning j n (evaluate (λ m. look_up m older) (meaning j older) (body_of d.1)) d.1 None [] in
    elim (cases_Bool (bytes_eq n d.0)) [
      | inl e ↦ (let x = here e (subst (λ (o : Option Entry). is_truth o ≡ true) (cond-true (bytes_eq n d.0) (Some d.1) (look_up n older) e) k) in (x.0, cond-true (bytes_eq n d.0) value (meaning j older n None []) e ∙ x.1))
      | inr e ↦ (let x = behind (subst (λ (o : Option Entry). is_truth o ≡ true) (cond-false (bytes_eq n d.0) (Some d.1) (look_up n older) e) k) in (x.0, cond-false (bytes_eq n d.0) value (meaning j older n None []) e ∙ x.1))
    ]

over_these : (j : ScriptInterpretation) (ds : List (List ℕ × Entry)) → ((n : List ℕ) → is_truth (look_up n ds) ≡ true → GivesTruth j ds n) → HaveTruths (meaning j ds) (is_there ds)
over_these j ds f n k = elim (either (is_built_in n) (is_truth (look_up n ds)) k) [ inl a ↦ built_or (meaning j ds) n (inr a) | inr b ↦ built_or (meaning j ds) n (inl (f n b)) ]

declared_has : (s : State) (j : ScriptInterpretation) → HasTruths s → (ds : List (List ℕ × Entry)) → list_all is_small_entry ds ≡ true → are_over ds ≡ true → Given j s ds → (n : List ℕ) → is_truth (look_up n ds) ≡ true → GivesTruth j ds n
declared_has s j t [] h o g n k = absurd (false≢true k)
declared_has s j t ((m, Constant sort) ∷ older) h o g n k =
    let p = and_parts (is_name m && same_sort sort bool_sort) (list_all is_small_entry older) h in
    one_more j (m, Constant sort) older n
    (λ e q. (truth_of (j.constants m), ap (λ x. Some (j.constants x)) ((bytes_eq-Decides n m).0 e) ∙ ap Some (constant_is_truth s j t m sort (and_parts (is_name m) (same_sort sort bool_sort) p.0).1 g.0)))
    (λ q. declared_has s j t older p.1 o g.1 n q) k
declared_has s j t ((m, Defined sort body) ∷ older) h o g n k =
    let p = and_parts (is_formula any body) (list_all is_small_entry older) h in
    let r = and_parts (is_formula (is_there older) body) (are_over older) o in
    one_more j (m, Defined sort body) older n
    (λ e q. (truth_in (truth_by (meaning j older)) body, formula_value (λ x. look_up x older) (meaning j older) (is_there older) (over_these j older (declared_has s j t older p.1 r.1 g.1)) body r.0))
    (λ q. declared_has s j t older p.1 r.1 g.1 n q) k
declared_has s j t ((m, Function argument sort) ∷ older) h o g n k = absurd (false≢true h)
declared_has s j t ((m, Builds d ps place fields) ∷ older) h o g n k =
    one_more j (m, Builds d ps place fields) older n (λ e q. absurd (false≢true q)) (λ q. declared_has s j t older (and_parts (bytes_eq d (codes "Option")) (list_all is_small_entry older) h).1 o g.1 n q) k
declared_has s j t ((m, Selects d ps c place field) ∷ older) h o g n k =
    one_more j (m, Selects d ps c place field) older n (λ e q. absurd (false≢true q)) (λ q. declared_has s j t older h o g.1 n q) k

pub formulas_have_truths : FormulasHaveTruths
formulas_have_truths s j e small g h k =
    let t = small_has_truths s small in
    let given = recursion_from_All (λ p. IsTrue (is_entry_given j (entries s) p.0 p.1)) (names_of s) g.declared in
    formula_value (entries s) (meaning j (names_of s)) (is_there (names_of s)) (over_these j (names_of s) (declared_has s j t (names_of s) t.names t.bodies given)) e (known_formula s e h k)
