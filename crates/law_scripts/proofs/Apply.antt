-- What declared names and operators give where they are applied.
use Rattle.std.proofs.Common.{◌≡◌, ℕ, true, false, ◌||◌, eqb, List, [], ◌∷◌, map, length, refl, sym, ap, ap₂, ◌∙◌, inl, inr, Option, Some, None}
use Rattle.std.specs.Prelude.{codes, bytes_eq}
use Rattle.std.proofs.lemmas.Bool.{not-true, cond-true, cond-false, or_parts, cases_Bool}
use Rattle.std.proofs.lemmas.Slice.Eq.{bytes_eq-Decides}
use Rattle.law_terms.specs.Plain.{PatternPart, PlainOp, NotOp, ZeroExtendOp}
use Rattle.law_scripts.specs.ScriptValues.{ScriptValue}
use Rattle.law_texts.specs.Lexicon.{Name}
use Rattle.law_texts.specs.Reading.{Expression, Leaf, Expressions, Cons, expressions}
use Rattle.law_scripts.specs.Script.{Entry, Function, Builds, Selects, State, Shape, Applied, shape, bit_literal, qualified, insertion, matched, matched_by, group, name, built_in_names, script_operators, is_in, is_reserved, reserved_words, names_of, look_up, operator_of}
use Rattle.law_texts.specs.Options.{◌>>=◌}
use Rattle.law_scripts.specs.Sorts.{entries, entry_sort, sort_by_operator, applied_sort, shape_sort, each_there, sorts_in, insert_sort, operator_sort, expression_sort}
use Rattle.law_scripts.specs.Value.{ScriptInterpretation, expression_value, meaning, entry_meaning, evaluate, evaluate_each, first_sort, operator_value, by_operator, applied_value, shape_value, inserted, body_of, of_one, is_built}
use Rattle.law_scripts.specs.Meanings.{is_own, argument_values, argument_sorts, OperatorsApply, ConstructorsApply, BareConstructorsHaveValues, FunctionsApply, SelectorsApply, ApplicationsHaveSorts, ExtensionsApply, TestsApply, MatchesApply, NonesHaveValues, SetsHaveValues}

-- ---- names

other_word : (f word : List ℕ) (A : Type 0) (o : List ℕ → Option A) (a : A) → o f ≡ Some a → o word ≡ None → bytes_eq f word ≡ false
other_word f word A o a h k = elim (cases_Bool (bytes_eq f word)) [
  | inl e ↦ absurd (differ (sym k ∙ ap o (sym ((bytes_eq-Decides f word).0 e)) ∙ h))
  | inr e ↦ e
]
  where
    differ : None ≡ Some a → ⊥
    differ e = cc

applies : (f : List ℕ) (e : Expression) (es : Expressions) → bytes_eq f (codes "_") ≡ false → bytes_eq f (codes "as") ≡ false → bytes_eq f (codes "str.in_re") ≡ false → bytes_eq f (codes "set.insert") ≡ false
    → shape (Leaf (Name f)) (Cons e es) ≡ Applied f
applies f e es a b c d =
    cond-false (bytes_eq f (codes "_")) (bit_literal (Cons e es)) _ a ∙ cond-false (bytes_eq f (codes "as")) (qualified (Cons e es)) _ b
    ∙ cond-false (bytes_eq f (codes "str.in_re")) (matched (Cons e es)) _ c ∙ cond-false (bytes_eq f (codes "set.insert")) (insertion es) (Applied f) d

operator_applies : (f : List ℕ) (op : PlainOp) (e : Expression) (es : Expressions) → operator_of f ≡ Some op → shape (Leaf (Name f)) (Cons e es) ≡ Applied f
operator_applies f op e es h =
    applies f e es (other_word f (codes "_") PlainOp operator_of op h refl) (other_word f (codes "as") PlainOp operator_of op h refl) (other_word f (codes "str.in_re") PlainOp operator_of op h refl) (other_word f (codes "set.insert") PlainOp operator_of op h refl)

not_there : {A : Type 0} (n : List ℕ) (ds : List (List ℕ × A)) → is_in n (map (λ p. p.0) ds) ≡ false → look_up n ds ≡ None
not_there n [] h = refl
not_there n (d ∷ ds) h =
    let p = or_parts (bytes_eq n d.0) (is_in n (map (λ q. q.0) ds)) h in
    cond-false (bytes_eq n d.0) (Some d.1) (look_up n ds) p.0 ∙ not_there n ds p.1

record IsOwn (f : List ℕ) : Type 0 where
  true-not : bytes_eq f (codes "true") ≡ false
  false-not : bytes_eq f (codes "false") ≡ false
  insert-not : bytes_eq f (codes "set.insert") ≡ false
  shape-is : (e : Expression) (es : Expressions) → shape (Leaf (Name f)) (Cons e es) ≡ Applied f
  no-operator : operator_of f ≡ None

owns : (f : List ℕ) → is_own f ≡ true → IsOwn f
owns f h =
    let p = or_parts (is_in f built_in_names) (is_reserved f) (not-true (is_in f built_in_names || is_reserved f) h) in
    let q = or_parts (is_in f reserved_words) _ p.1 in
    let r = or_parts (bytes_eq f (codes "_")) _ q.0 in
    let t = or_parts (bytes_eq f (codes "as")) _ r.1 in
    let a = or_parts (bytes_eq f (codes "true")) _ p.0 in
    let b = or_parts (bytes_eq f (codes "false")) _ a.1 in
    let c = or_parts (bytes_eq f (codes "set.insert")) _ b.1 in
    let d = or_parts (bytes_eq f (codes "set.empty")) _ c.1 in
    let e = or_parts (bytes_eq f (codes "zero_extend")) _ d.1 in
    let i = or_parts (bytes_eq f (codes "str.in_re")) _ e.1 in
    let k = or_parts (bytes_eq f (codes "str.to_re")) _ i.1 in
    let l = or_parts (bytes_eq f (codes "re.++")) _ k.1 in
    let m = or_parts (bytes_eq f (codes "re.*")) _ l.1 in
    let n = or_parts (bytes_eq f (codes "re.allchar")) (is_in f (map (λ x. x.0) script_operators)) m.1 in
    record { true-not = a.0; false-not = b.0; insert-not = c.0; shape-is = λ e es. applies f e es r.0 t.0 i.0 c.0; no-operator = not_there f script_operators n.1 }

-- ---- operators

-- an operator gives nothing of no arguments
value_of_none : (op : PlainOp) → operator_value op [] ≡ None
value_of_none NotOp = refl
value_of_none op = refl

sort_of_none : (op : PlainOp) → operator_sort op [] ≡ None
sort_of_none NotOp = refl
sort_of_none op = refl

pub operators_apply : OperatorsApply
operators_apply j s f op [] h = (sym (value_of_none op), sym (sort_of_none op))
operators_apply j s f op (e ∷ es) h = (
  ap (λ (x : Shape). shape_value (entries s) (meaning j (names_of s)) x (first_sort (entries s) (expressions (e ∷ es))) (evaluate_each (entries s) (meaning j (names_of s)) (expressions (e ∷ es)))) (operator_applies f op e (expressions es) h)
      ∙ bind_by (argument_values j s (e ∷ es)) (applied_value (meaning j (names_of s)) f (first_sort (entries s) (expressions (e ∷ es)))) (operator_value op)
      (λ vs. ap (λ (o : Option PlainOp). by_operator o f vs (meaning j (names_of s) f (first_sort (entries s) (expressions (e ∷ es))) vs)) h),
  ap (λ (x : Shape). shape_sort (entries s) x (sorts_in (entries s) (expressions (e ∷ es)))) (operator_applies f op e (expressions es) h)
      ∙ bind_by (argument_sorts s (e ∷ es)) (applied_sort (entries s f) f) _
      (λ ss. ap (λ (o : Option PlainOp). sort_by_operator o f ss (entries s f >>= λ y. entry_sort y ss)) h),
)
  where
    bind_by : {A B : Type 0} (o : Option A) (g k : A → Option B) → ((a : A) → g a ≡ k a) → (o >>= g) ≡ (o >>= k)
    bind_by (Some a) g k e = e a
    bind_by None g k e = refl

-- ---- declared names

-- what a name that isn't built in gives of arguments that have values
given : (j : ScriptInterpretation) (s : State) (f : List ℕ) (e : Expression) (es : List Expression) (vs : List ScriptValue) → IsOwn f → argument_values j s (e ∷ es) ≡ Some vs
    → expression_value j s (group (name f ∷ e ∷ es)) ≡ meaning j (names_of s) f (expression_sort s e) vs
given j s f e es vs own h =
    let here = entries s in
    let env = meaning j (names_of s) in
    let first = expression_sort s e in
    ap (λ (x : Shape). shape_value here env x first (evaluate_each here env (expressions (e ∷ es)))) (own.shape-is e (expressions es))
    ∙ ap (λ (o : Option (List ScriptValue)). o >>= applied_value env f first) h
    ∙ ap (λ (o : Option PlainOp). by_operator o f vs (env f first vs)) own.no-operator
    ∙ cond-false (bytes_eq f (codes "set.insert")) (inserted vs) (env f first vs) own.insert-not

-- a name's meaning is its entry's, some body aside
meaning_is : (j : ScriptInterpretation) (ds : List (List ℕ × Entry)) (n : List ℕ) (x : Entry) (u : Option Expression) (vs : List ScriptValue) → look_up n ds ≡ Some x
    → (body : Option ScriptValue) × (meaning j ds n u vs ≡ entry_meaning j n body x u vs)
meaning_is j [] n x u vs h = absurd cc
meaning_is j (d ∷ ds) n x u vs h = elim (cases_Bool (bytes_eq n d.0)) [
  | inl e ↦ (let y : d.1 ≡ x = some_entry d.1 x (sym (cond-true (bytes_eq n d.0) (Some d.1) (look_up n ds) e) ∙ h) in
      let body = evaluate (λ m. look_up m ds) (meaning j ds) (body_of d.1) in
      (body, cond-true (bytes_eq n d.0) (entry_meaning j n body d.1 u vs) (meaning j ds n u vs) e ∙ ap (λ (z : Entry). entry_meaning j n body z u vs) y))
  | inr e ↦ (let r = meaning_is j ds n x u vs (sym (cond-false (bytes_eq n d.0) (Some d.1) (look_up n ds) e) ∙ h) in
      (r.0, cond-false (bytes_eq n d.0) (entry_meaning j n (evaluate (λ m. look_up m ds) (meaning j ds) (body_of d.1)) d.1 u vs) (meaning j ds n u vs) e ∙ r.1))
]
  where
    some_entry : (a b : Entry) → Some a ≡ Some b → a ≡ b
    some_entry a b e = cc

pub constructors_apply : ConstructorsApply
constructors_apply j s c d ps place fields e es vs own h k l =
    given j s c e es vs (owns c own) k ∙ (meaning_is j (names_of s) c (Builds d ps place fields) (expression_sort s e) vs h).1 ∙ cond-true (eqb (length vs) (length fields)) _ _ l

pub bare_constructors_have_values : BareConstructorsHaveValues
bare_constructors_have_values j s c d ps place own h =
    let o = owns c own in
    cond-false (bytes_eq c (codes "true")) _ _ o.true-not ∙ cond-false (bytes_eq c (codes "false")) _ _ o.false-not ∙ (meaning_is j (names_of s) c (Builds d ps place []) None [] h).1

one_argument : (j : ScriptInterpretation) (s : State) (e : Expression) (v : ScriptValue) → expression_value j s e ≡ Some v → argument_values j s (e ∷ []) ≡ Some (v ∷ [])
one_argument j s e v h = ap (λ (o : Option ScriptValue). each_there (o ∷ [])) h

pub functions_apply : FunctionsApply
functions_apply j s f argument sort e v own h k =
    given j s f e [] (v ∷ []) (owns f own) (one_argument j s e v k) ∙ (meaning_is j (names_of s) f (Function argument sort) (expression_sort s e) (v ∷ []) h).1

pub selectors_apply : SelectorsApply
selectors_apply j s f d ps c place field e v own h k =
    given j s f e [] (v ∷ []) (owns f own) (one_argument j s e v k) ∙ (meaning_is j (names_of s) f (Selects d ps c place field) (expression_sort s e) (v ∷ []) h).1

pub applications_have_sorts : ApplicationsHaveSorts
applications_have_sorts s f x e es own h =
    let o = owns f own in
    ap (λ (y : Shape). shape_sort (entries s) y (sorts_in (entries s) (expressions (e ∷ es)))) (o.shape-is e (expressions es))
    ∙ bind_by (argument_sorts s (e ∷ es)) (applied_sort (entries s f) f) (entry_sort x)
    (λ ss. ap (λ (p : Option PlainOp). sort_by_operator p f ss (entries s f >>= λ y. entry_sort y ss)) o.no-operator
    ∙ cond-false (bytes_eq f (codes "set.insert")) (insert_sort ss) (entries s f >>= λ y. entry_sort y ss) o.insert-not
    ∙ ap (λ (p : Option Entry). p >>= λ y. entry_sort y ss) h)
  where
    bind_by : {A B : Type 0} (o : Option A) (g k : A → Option B) → ((a : A) → g a ≡ k a) → (o >>= g) ≡ (o >>= k)
    bind_by (Some a) g k e = e a
    bind_by None g k e = refl

-- ---- the other forms

one_bind : {A B : Type 0} (o : Option A) (g : List A → Option B) → (each_there (o ∷ []) >>= g) ≡ (o >>= λ a. g (a ∷ []))
one_bind (Some a) g = refl
one_bind None g = refl

pub extensions_apply : ExtensionsApply
extensions_apply j s k e = (one_bind (expression_value j s e) (operator_value (ZeroExtendOp k)), one_bind (expression_sort s e) (operator_sort (ZeroExtendOp k)))

pub tests_apply : TestsApply
tests_apply j s c d ps place fields e p n vs h k =
    ap₂ (λ (x : Option Entry) (o : Option ScriptValue). each_there (o ∷ []) >>= of_one (is_built x c)) h k

pub matches_apply : MatchesApply
matches_apply j s e r p h = (
  ap (λ (o : Option (List PatternPart)). shape_value (entries s) (meaning j (names_of s)) (matched_by o) (first_sort (entries s) (expressions (e ∷ r ∷ []))) (evaluate_each (entries s) (meaning j (names_of s)) (expressions (e ∷ r ∷ [])))) h,
  ap (λ (o : Option (List PatternPart)). shape_sort (entries s) (matched_by o) (sorts_in (entries s) (expressions (e ∷ r ∷ [])))) h,
)

pub nones_have_values : NonesHaveValues
nones_have_values j s d ps place sort h = (meaning_is j (names_of s) (codes "none") (Builds d ps place []) None [] h).1

pub sets_have_values : SetsHaveValues
sets_have_values j s sort x y es = (refl, refl, refl)
