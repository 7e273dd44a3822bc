-- What a script's assertions are worth lies in its free names.
use Rattle.std.proofs.Common.{◌≡◌, ℕ, true, cond, List, [], ◌∷◌, ◌++◌, refl, sym, ap, ap₂, ◌∙◌, subst, inl, inr, Option, Some, None}
use Rattle.std.specs.Prelude.{bytes_eq}
use Rattle.std.specs.List.{AllByRecursion}
use Rattle.std.proofs.lemmas.Bool.{cases_Bool, cond-true, cond-false}
use Rattle.std.proofs.lemmas.List.Elements.{All-from_recursion, recursion_from_All}
use Rattle.std.proofs.lemmas.Slice.Eq.{bytes_eq-Decides}
use Rattle.law_scripts.specs.ScriptValues.{ScriptValue, TruthOf, ConstructorOf}
use Rattle.law_texts.specs.Lexicon.{Bits, Number, Text, Name}
use Rattle.law_texts.specs.Reading.{Expression, Leaf, Node, Expressions, Nil, Cons}
use Rattle.law_scripts.specs.Script.{Entry, Constant, Function, Defined, Builds, Selects, State, Shape, BitLiteral, Qualified, Applied, Extended, Tested, Matched, Unformed, shape, look_up, operator_of, names_of, assertions_of}
use Rattle.law_texts.specs.Options.{◌>>=◌}
use Rattle.law_scripts.specs.Sorts.{Entries, entries, each_there}
use Rattle.law_scripts.specs.Value.{ScriptInterpretation, Table, Meaning, Selection, in_table, of_one, value_at, OpenSelector, ValueOfSort, TableOfSelector, open_selector, other_value, selection_if, selected, by_operator, applied_value, constant, qualified_value, shape_value, first_sort, evaluate, evaluate_each, entry_meaning, body_of, meaning, expression_value, selection, shape_selection, selections, each_selections, selections_in, body_selections, applied_selectors, AgreeAt, AgreeOn, AgreeOnOpen, FreeNamesDecide}
use Rattle.law_scripts.proofs.Results.{bind_same}

abbrev OnAll : ScriptInterpretation → ScriptInterpretation → List Selection → Type 0
OnAll j k xs = AllByRecursion (λ p. AgreeOn j k p.selector p.sort p.entry) xs

both_of : (j k : ScriptInterpretation) (xs ys : List Selection) → OnAll j k (xs ++ ys) → OnAll j k xs × OnAll j k ys
both_of j k [] ys h = (tt, h)
both_of j k (x ∷ xs) ys h = let p = both_of j k xs ys h.1 in ((h.0, p.0), p.1)

-- names mean the same where the selections at them agree
abbrev MeanSame : ScriptInterpretation → ScriptInterpretation → Entries → Meaning → Meaning → Type 0
MeanSame j k here p q = (f : List ℕ) (s : Option Expression) (vs : List ScriptValue) → OnAll j k (selection f s (here f)) → p f s vs ≡ q f s vs

same_shape : (j k : ScriptInterpretation) (here : Entries) (p q : Meaning) → MeanSame j k here p q → (x : Shape) (s : Option Expression) (vs ws : List (Option ScriptValue)) → vs ≡ ws → OnAll j k (shape_selection here x s) → shape_value here p x s vs ≡ shape_value here q x s ws
same_shape j k here p q h (BitLiteral w n) s vs ws e a = refl
same_shape j k here p q h (Qualified c sort) s vs ws e a = ap (λ (v : Option ScriptValue). qualified_value (λ m y ys. v) c) (h c None [] tt)
same_shape j k here p q h (Applied f) s vs ws e a =
    ap (λ (o : List (Option ScriptValue)). each_there o >>= applied_value p f s) e
    ∙ bind_same (each_there ws) (applied_value p f s) (applied_value q f s) (λ ys. ap (λ (v : Option ScriptValue). by_operator (operator_of f) f ys v) (h f s ys a))
same_shape j k here p q h (Extended bits) s vs ws e a = ap (λ (o : List (Option ScriptValue)). shape_value here p (Extended bits) s o) e
same_shape j k here p q h (Tested c) s vs ws e a = ap (λ (o : List (Option ScriptValue)). shape_value here p (Tested c) s o) e
same_shape j k here p q h (Matched r) s vs ws e a = ap (λ (o : List (Option ScriptValue)). shape_value here p (Matched r) s o) e
same_shape j k here p q h Unformed s vs ws e a = refl

mutual
  same_there : (j k : ScriptInterpretation) (here : Entries) (p q : Meaning) → MeanSame j k here p q → (e : Expression) → OnAll j k (selections here e) → evaluate here p e ≡ evaluate here q e
  same_there j k here p q h (Leaf (Name n)) a = ap (λ (v : Option ScriptValue). constant (λ m y ys. v) n) (h n None [] tt)
  same_there j k here p q h (Leaf (Bits w n)) a = refl
  same_there j k here p q h (Leaf (Number n)) a = refl
  same_there j k here p q h (Leaf (Text t)) a = refl
  same_there j k here p q h (Node Nil) a = refl
  same_there j k here p q h (Node (Cons e es)) a =
      let b = both_of j k (shape_selection here (shape e es) (first_sort here es)) (each_selections here es) a in
      same_shape j k here p q h (shape e es) (first_sort here es) (evaluate_each here p es) (evaluate_each here q es) (same_each j k here p q h es b.1) b.0

  same_each : (j k : ScriptInterpretation) (here : Entries) (p q : Meaning) → MeanSame j k here p q → (es : Expressions) → OnAll j k (each_selections here es) → evaluate_each here p es ≡ evaluate_each here q es
  same_each j k here p q h Nil a = refl
  same_each j k here p q h (Cons e es) a =
      let b = both_of j k (selections here e) (each_selections here es) a in
      ap₂ (λ (o : Option ScriptValue) (os : List (Option ScriptValue)). o ∷ os) (same_there j k here p q h e b.0) (same_each j k here p q h es b.1)

-- a selector gives the same where it is applied
same_other : (j k : ScriptInterpretation) (n : List ℕ) (o : Option OpenSelector) (x : Entry) (s : Option Expression) (v : ScriptValue)
    → ((sort : Expression) → s ≡ Some sort → AllByRecursion (λ p. AgreeOnOpen j k n sort o) (selection_if o (record { selector = n; entry = x; sort = sort }))) → other_value j n o s v ≡ other_value k n o s v
same_other j k n None x s v h = refl
same_other j k n (Some ValueOfSort) x None v h = refl
same_other j k n (Some TableOfSelector) x None v h = refl
same_other j k n (Some ValueOfSort) x (Some sort) v h = ap Some (h sort refl).0
same_other j k n (Some TableOfSelector) x (Some sort) v h = ap (λ (t : Table). Some (in_table t v)) (h sort refl).0

same_selected : (j k : ScriptInterpretation) (n d : List ℕ) (ps : List (List ℕ)) (c : List ℕ) (place : ℕ) (field : Expression) (s : Option Expression) (v : ScriptValue) → OnAll j k (selection n s (Some (Selects d ps c place field))) → selected j n d ps c place s v ≡ selected k n d ps c place s v
same_selected j k n d ps c place field s (ConstructorOf p e vs) a =
    ap (λ (o : Option ScriptValue). cond (bytes_eq c e) (value_at place vs) o) (same_other j k n (open_selector n d ps) (Selects d ps c place field) s (ConstructorOf p e vs) (λ sort i. on_open sort (open_selector n d ps) refl (subst (λ t. OnAll j k (selection n t (Some (Selects d ps c place field)))) i a)))
  where
    on_open : (sort : Expression) (o : Option OpenSelector) → open_selector n d ps ≡ o → OnAll j k (selection_if o (record { selector = n; entry = Selects d ps c place field; sort = sort }))
        → AllByRecursion (λ p. AgreeOnOpen j k n sort o) (selection_if o (record { selector = n; entry = Selects d ps c place field; sort = sort }))
    on_open sort None i b = tt
    on_open sort (Some o) i b = (subst (λ q. AgreeOnOpen j k n sort q) i b.0, tt)
same_selected j k n d ps c place field s v a = refl

of_one_same : (f g : ScriptValue → Option ScriptValue) → ((v : ScriptValue) → f v ≡ g v) → (vs : List ScriptValue) → of_one f vs ≡ of_one g vs
of_one_same f g h [] = refl
of_one_same f g h (v ∷ []) = h v
of_one_same f g h (v ∷ w ∷ vs) = refl

same_entry : (j k : ScriptInterpretation) (n : List ℕ) (b c : Option ScriptValue) (x : Entry) (s : Option Expression) (vs : List ScriptValue) → b ≡ c → AgreeAt j k n x → OnAll j k (selection n s (Some x)) → entry_meaning j n b x s vs ≡ entry_meaning k n c x s vs
same_entry j k n b c (Constant sort) s vs e h a = ap (λ (v : ScriptValue). entry_meaning (record j { constants = λ m. v }) n b (Constant sort) s vs) h
same_entry j k n b c (Defined sort body) s vs e h a = ap (λ (o : Option ScriptValue). entry_meaning j n o (Defined sort body) s vs) e
same_entry j k n b c (Function argument sort) s vs e h a = ap (λ (t : Table). of_one (λ v. Some (in_table t v)) vs) h
same_entry j k n b c (Builds d ps place fields) s vs e h a = refl
same_entry j k n b c (Selects d ps f place field) s vs e h a = of_one_same (selected j n d ps f place s) (selected k n d ps f place s) (λ v. same_selected j k n d ps f place field s v a) vs

mean_same : (j k : ScriptInterpretation) (ds : List (List ℕ × Entry)) → AllByRecursion (λ p. AgreeAt j k p.0 p.1) ds → OnAll j k (body_selections ds) → MeanSame j k (λ m. look_up m ds) (meaning j ds) (meaning k ds)
mean_same j k [] h b f s vs a = refl
mean_same j k (d ∷ older) h b f s vs a =
    let parts = both_of j k (selections (λ m. look_up m older) (body_of d.1)) (body_selections older) b in
    let below = mean_same j k older h.1 parts.1 in
    let body = same_there j k (λ m. look_up m older) (meaning j older) (meaning k older) below (body_of d.1) parts.0 in
    elim (cases_Bool (bytes_eq f d.0)) [
      | inl e ↦ (let name-is = (bytes_eq-Decides f d.0).0 e in
          cond-true (bytes_eq f d.0) (entry_meaning j f (evaluate (λ m. look_up m older) (meaning j older) (body_of d.1)) d.1 s vs) (meaning j older f s vs) e
          ∙ same_entry j k f _ _ d.1 s vs body (subst (λ (n : List ℕ). AgreeAt j k n d.1) (sym name-is) h.0) (subst (λ (x : Option Entry). OnAll j k (selection f s x)) (cond-true (bytes_eq f d.0) (Some d.1) (look_up f older) e) a)
          ∙ sym (cond-true (bytes_eq f d.0) (entry_meaning k f (evaluate (λ m. look_up m older) (meaning k older) (body_of d.1)) d.1 s vs) (meaning k older f s vs) e))
      | inr e ↦ cond-false (bytes_eq f d.0) (entry_meaning j f (evaluate (λ m. look_up m older) (meaning j older) (body_of d.1)) d.1 s vs) (meaning j older f s vs) e
          ∙ below f s vs (subst (λ (x : Option Entry). OnAll j k (selection f s x)) (cond-false (bytes_eq f d.0) (Some d.1) (look_up f older) e) a)
          ∙ sym (cond-false (bytes_eq f d.0) (entry_meaning k f (evaluate (λ m. look_up m older) (meaning k older) (body_of d.1)) d.1 s vs) (meaning k older f s vs) e)
    ]

each_same : (j k : ScriptInterpretation) (s : State) → MeanSame j k (entries s) (meaning j (names_of s)) (meaning k (names_of s)) → (es : List Expression) → OnAll j k (selections_in (entries s) es) → AllByRecursion (λ e. expression_value j s e ≡ expression_value k s e) es
each_same j k s h [] a = tt
each_same j k s h (e ∷ es) a =
    let b = both_of j k (selections (entries s) e) (selections_in (entries s) es) a in
    (same_there j k (entries s) (meaning j (names_of s)) (meaning k (names_of s)) h e b.0, each_same j k s h es b.1)

each_true : (j k : ScriptInterpretation) (s : State) (es : List Expression) → AllByRecursion (λ e. expression_value j s e ≡ expression_value k s e) es → AllByRecursion (λ e. expression_value j s e ≡ Some (TruthOf true)) es → AllByRecursion (λ e. expression_value k s e ≡ Some (TruthOf true)) es
each_true j k s [] a b = tt
each_true j k s (e ∷ es) a b = (sym a.0 ∙ b.0, each_true j k s es a.1 b.1)

pub free_names_decide : FreeNamesDecide
free_names_decide j k s h =
    let declared = recursion_from_All (λ p. AgreeAt j k p.0 p.1) (names_of s) h.declared in
    let selected-so = recursion_from_All (λ p. AgreeOn j k p.selector p.sort p.entry) (applied_selectors s) h.selected in
    let parts = both_of j k (body_selections (names_of s)) (selections_in (entries s) (assertions_of s)) selected-so in
    let means = mean_same j k (names_of s) declared parts.0 in
    let same = each_same j k s means (assertions_of s) parts.1 in (
      All-from_recursion (λ e. expression_value j s e ≡ expression_value k s e) (assertions_of s) same,
      λ model. All-from_recursion (λ e. expression_value k s e ≡ Some (TruthOf true)) (assertions_of s) (each_true j k s (assertions_of s) same (recursion_from_All (λ e. expression_value j s e ≡ Some (TruthOf true)) (assertions_of s) model)),
    )
