-- To what a term evaluates is a literal with its value.
use Rattle.std.proofs.Common.{◌≡◌, ℕ, true, List, [], ◌∷◌, refl, ap, ◌∙◌, sym, subst}
use Rattle.std.specs.Prelude.{Option, Some, None, IfSome, option_map}
use Rattle.std.specs.Cmp.{first_so, second_so}
use Rattle.std.specs.Cmp.Derive.{both_true}
use Rattle.std.specs.List.{AllByRecursion, list_all}
use Rattle.std.specs.Option.{option_map_or, unwrap_or}
use Rattle.law_assignments.specs.Assignments.{PlainAssignment, interpretation, value_of_literal, variable_in}
use Rattle.law_assignments.specs.Covered.{gives}
use Rattle.law_assignments.specs.Evaluated.{all_evaluated, evaluated, evaluated_fields}
use Rattle.law_assignments.specs.Laws.{EvaluatedIsTheValue}
use Rattle.law_assignments.specs.Sound.{IsSound, IsValueTerm}
use Rattle.law_assignments.proofs.Answering.{IsAnswer, literal_meant}
use Rattle.law_assignments.proofs.Applying.{application_answers}
use Rattle.law_assignments.proofs.FoldedLiterals.{IsLiteral, set_literal}
use Rattle.law_assignments.proofs.Given.{variable_found}
use Rattle.law_folding.proofs.SetLists.{IsElement, same_meanings, set_typed}
use Rattle.law_folding.proofs.SetsKept.{of_set}
use Rattle.law_folding.proofs.Standing.{valued}
use Rattle.law_terms.specs.Formed.{IsFormed, IsFormedNode, IsFormedType}
use Rattle.law_terms.specs.Interpretations.{unused_value}
use Rattle.law_terms.specs.Literals.{are_literals, are_literal_fields}
use Rattle.law_terms.specs.Meaning.{meaning, meanings, field_meanings}
use Rattle.law_terms.specs.Operators.{apply}
use Rattle.law_terms.specs.Plain.{PlainType, OptionType, RecordType, attribute, PlainOp, PlainTerm, Application, NoneTerm, LiteralTerm, RecordTerm, SetTerm, SomeTerm, VariableTerm, PlainTerms, no_terms, one_term, PlainFields, no_fields, one_field, terms}
use Rattle.law_terms.specs.Reached.{subterms, subterms_of_all, subterms_of_fields}
use Rattle.law_terms.specs.Tables.{Interpretation}
use Rattle.law_terms.specs.TermSets.{set_term, sorted_terms}
use Rattle.law_terms.specs.Types.{field_types, is_type, result_type, type_eq, type_of, types_of}
use Rattle.law_terms.specs.TypeValues.{Enums}
use Rattle.law_terms.specs.Typing.{are_elements, typed, typed_all, typed_fields}
use Rattle.law_terms.specs.ValueOrder.{set_of}
use Rattle.law_terms.specs.Values.{RecordValue, SomeValue, one_field_value}
use Rattle.law_terms.proofs.Defaults.{all-join}
use Rattle.law_terms.proofs.Elements.{typed_elements}
use Rattle.law_terms.proofs.SortedSets.{in-terms, out-terms}
use Rattle.law_terms.proofs.Soundness.{all-front, all-back, all-last}
use Rattle.law_terms.proofs.TypeOrder.{eq_same}

-- the types of subterms are formed
abbrev HasFormedType : PlainTerm → Type 0
HasFormedType w = IsFormedType (type_of w)

-- ---- lists of answers

module _ (I : Interpretation) where
  -- literals for terms, one for each
  record AreAnswers (ts : PlainTerms) (rs : List PlainTerm) : Type 0 where
    literals : are_literals (terms rs) ≡ true
    each : AllByRecursion IsLiteral rs
    parts : typed_all (terms rs) ≡ true
    types : types_of (terms rs) ≡ types_of ts
    nodes : AllByRecursion IsFormedNode (subterms_of_all (terms rs))
    formed : AllByRecursion HasFormedType (subterms_of_all (terms rs))
    values : (J : Interpretation) → meanings J (terms rs) ≡ meanings I ts

  no_answers : AreAnswers no_terms []
  no_answers = record { literals = refl; each = tt; parts = refl; types = refl; nodes = tt; formed = tt; values = λ J. refl }

  one_more : (t r : PlainTerm) (ts : PlainTerms) (rs : List PlainTerm) → IsAnswer I t r → AreAnswers ts rs → AreAnswers (one_term t ts) (r ∷ rs)
  one_more t r ts rs x xs = record {
    literals = both_true x.literal xs.literals;
    each = (x.literal, xs.each);
    parts = both_true x.parts xs.parts;
    types = (let p : type_of r ≡ type_of t = x.type in let q : types_of (terms rs) ≡ types_of ts = xs.types in λ i. p i ∷ q i);
    nodes = all-join IsFormedNode (subterms r) (subterms_of_all (terms rs)) x.formed.literals xs.nodes;
    formed = all-join HasFormedType (subterms r) (subterms_of_all (terms rs)) x.formed.types xs.formed;
    values = λ J. (let p : meaning J r ≡ meaning I t = x.value J in let q : meanings J (terms rs) ≡ meanings I ts = xs.values J in λ i. p i ∷ q i);
  }

  -- literals for the terms of attributes
  record AreFieldAnswers (fs gs : PlainFields) : Type 0 where
    literals : are_literal_fields gs ≡ true
    parts : typed_fields gs ≡ true
    types : field_types gs ≡ field_types fs
    nodes : AllByRecursion IsFormedNode (subterms_of_fields gs)
    formed : AllByRecursion HasFormedType (subterms_of_fields gs)
    values : (J : Interpretation) → field_meanings J gs ≡ field_meanings I fs

  -- ---- terms made of answers

  -- an application to terms from one to their literals
  of_application : (o : PlainOp) (ts : PlainTerms) (rs : List PlainTerm) (ty : PlainType) (r : PlainTerm) → AreAnswers ts rs → IsAnswer I (Application o (terms rs) ty) r → IsAnswer I (Application o ts ty) r
  of_application o ts rs ty r xs x = record { literal = x.literal; parts = x.parts; type = x.type; formed = x.formed; value = λ J. x.value J ∙ ap (apply I o ty) (xs.values I) }

  application_typed : (o : PlainOp) (ts : PlainTerms) (rs : List PlainTerm) (ty : PlainType) → AreAnswers ts rs → is_type (result_type o (types_of ts)) ty ≡ true → typed (Application o (terms rs) ty) ≡ true
  application_typed o ts rs ty xs r = both_true xs.parts (ap (λ l. is_type (result_type o l) ty) xs.types ∙ r)

  application_formed : (o : PlainOp) (ts : PlainTerms) (rs : List PlainTerm) (ty : PlainType) → AreAnswers ts rs → IsFormedType ty → IsFormed (Application o (terms rs) ty)
  application_formed o ts rs ty xs f = record {
    literals = all-join IsFormedNode (subterms_of_all (terms rs)) (Application o (terms rs) ty ∷ []) xs.nodes (tt, tt);
    types = all-join HasFormedType (subterms_of_all (terms rs)) (Application o (terms rs) ty ∷ []) xs.formed (f, tt);
  }

  as_elements : (ty : PlainType) (rs : List PlainTerm) → typed_all (terms rs) ≡ true → list_all (type_eq ty) (types_of (terms rs)) ≡ true → AllByRecursion (IsElement ty) rs
  as_elements ty [] h e = tt
  as_elements ty (r ∷ rs) h e = (
    record { parts = first_so (typed r) (typed_all (terms rs)) h; type = eq_same ty (type_of r) (first_so (type_eq ty (type_of r)) (list_all (type_eq ty) (types_of (terms rs))) e) },
    as_elements ty rs (second_so (typed r) (typed_all (terms rs)) h) (second_so (type_eq ty (type_of r)) (list_all (type_eq ty) (types_of (terms rs))) e),
  )

  set_answers : (ty : PlainType) (ts : PlainTerms) (rs : List PlainTerm) → AreAnswers ts rs → list_all (type_eq ty) (types_of ts) ≡ true → HasFormedType (SetTerm ty ts) → IsAnswer I (SetTerm ty ts) (set_term ty rs)
  set_answers ty ts rs xs e f = record {
    literal = set_literal ty rs xs.each;
    parts = set_typed ty rs (as_elements ty rs xs.parts (ap (list_all (type_eq ty)) xs.types ∙ e));
    type = refl;
    formed = record { literals = of_set IsFormedNode ty rs tt xs.nodes; types = of_set HasFormedType ty rs f xs.formed };
    value = λ J. same_meanings J (sorted_terms rs) rs (λ z m. out-terms z rs m) (λ z m. in-terms z rs m) ∙ ap set_of (xs.values J);
  }

  some_answers : (t r : PlainTerm) → IsAnswer I t r → HasFormedType (SomeTerm t) → IsAnswer I (SomeTerm t) (SomeTerm r)
  some_answers t r x f = record {
    literal = x.literal;
    parts = x.parts;
    type = ap OptionType x.type;
    formed = record {
      literals = all-join IsFormedNode (subterms r) (SomeTerm r ∷ []) x.formed.literals (tt, tt);
      types = all-join HasFormedType (subterms r) (SomeTerm r ∷ []) x.formed.types (subst (λ u. IsFormedType (OptionType u)) (sym x.type) f, tt);
    };
    value = λ J. ap SomeValue (x.value J);
  }

  record_answers : (fs gs : PlainFields) → AreFieldAnswers fs gs → HasFormedType (RecordTerm fs) → IsAnswer I (RecordTerm fs) (RecordTerm gs)
  record_answers fs gs x f = record {
    literal = x.literals;
    parts = x.parts;
    type = ap RecordType x.types;
    formed = record {
      literals = all-join IsFormedNode (subterms_of_fields gs) (RecordTerm gs ∷ []) x.nodes (tt, tt);
      types = all-join HasFormedType (subterms_of_fields gs) (RecordTerm gs ∷ []) x.formed (subst (λ y. IsFormedType (RecordType y)) (sym x.types) f, tt);
    };
    value = λ J. ap RecordValue (x.values J);
  }

  one_more_field : (x : List ℕ) (t r : PlainTerm) (fs gs : PlainFields) → IsAnswer I t r → AreFieldAnswers fs gs → AreFieldAnswers (one_field x t fs) (one_field x r gs)
  one_more_field x t r fs gs y ys = record {
    literals = both_true y.literal ys.literals;
    parts = both_true y.parts ys.parts;
    types = (let p : type_of r ≡ type_of t = y.type in let q : field_types gs ≡ field_types fs = ys.types in λ i. attribute x (p i) (q i));
    nodes = all-join IsFormedNode (subterms r) (subterms_of_fields gs) y.formed.literals ys.nodes;
    formed = all-join HasFormedType (subterms r) (subterms_of_fields gs) y.formed.types ys.formed;
    values = λ J. (let p : meaning J r ≡ meaning I t = y.value J in let q : field_meanings J gs ≡ field_meanings I fs = ys.values J in λ i. one_field_value x (p i) (q i));
  }

-- ---- all terms

module _ (enums : Enums) (a : PlainAssignment) (s : IsSound enums a) where
  abbrev I : Interpretation
  I = interpretation a

  -- what is asked of each subterm
  abbrev IsFine : PlainTerm → Type 0
  IsFine w = IsFormedNode w × HasFormedType w × (gives a w ≡ true)

  variable_answers : (id : List ℕ) (ty : PlainType) → gives a (VariableTerm id ty) ≡ true → IsAnswer I (VariableTerm id ty) (evaluated a (VariableTerm id ty))
  variable_answers id ty g = by (variable_in a id) refl (variable_found enums a s id) g
    where
      by : (o : Option PlainTerm) → variable_in a id ≡ o → IfSome o (λ v. IsValueTerm enums (type_of v) v) → is_type (option_map type_of o) ty ≡ true → IsAnswer I (VariableTerm id ty) (unwrap_or o (VariableTerm id ty))
      by (Some v) e k n = record {
        literal = k.literal;
        parts = k.type.parts;
        type = eq_same (type_of v) ty n;
        formed = k.formed;
        value = λ J. literal_meant J v k.literal k.type.parts ∙ sym (ap (λ o. option_map_or value_of_literal o unused_value) e);
      }
      by None e k n = cc

  mutual
    term_answers : (t : PlainTerm) → typed t ≡ true → AllByRecursion IsFine (subterms t) → IsAnswer I t (evaluated a t)
    term_answers (Application o ts ty) h f =
        let rs : List PlainTerm = all_evaluated a ts in
        let xs : AreAnswers I ts rs = all_answer ts (first_so (typed_all ts) (is_type (result_type o (types_of ts)) ty) h) (all-front IsFine (subterms_of_all ts) (Application o ts ty ∷ []) f) in
        let here : IsFine (Application o ts ty) = all-last IsFine (subterms_of_all ts) (Application o ts ty) f in
        of_application I o ts rs ty (evaluated a (Application o ts ty)) xs
        (application_answers enums a s o rs ty xs.literals (application_typed I o ts rs ty xs (second_so (typed_all ts) (is_type (result_type o (types_of ts)) ty) h)) (application_formed I o ts rs ty xs here.1) here.2)
    term_answers (NoneTerm ty) h f = record { literal = refl; parts = refl; type = refl; formed = record { literals = (tt, tt); types = (f.0.1, tt) }; value = λ J. refl }
    term_answers (LiteralTerm l) h f = record { literal = refl; parts = refl; type = refl; formed = record { literals = (f.0.0, tt); types = (f.0.1, tt) }; value = λ J. refl }
    term_answers (RecordTerm fs) h f =
        record_answers I fs (evaluated_fields a fs) (fields_answer fs h (all-front IsFine (subterms_of_fields fs) (RecordTerm fs ∷ []) f)) (all-last IsFine (subterms_of_fields fs) (RecordTerm fs) f).1
    term_answers (SetTerm ty ts) h f =
        set_answers I ty ts (all_evaluated a ts) (all_answer ts (first_so (typed_all ts) (are_elements ty ts) h) (all-front IsFine (subterms_of_all ts) (SetTerm ty ts ∷ []) f)) (typed_elements ty ts (second_so (typed_all ts) (are_elements ty ts) h)) (all-last IsFine (subterms_of_all ts) (SetTerm ty ts) f).1
    term_answers (SomeTerm t) h f = some_answers I t (evaluated a t) (term_answers t h (all-front IsFine (subterms t) (SomeTerm t ∷ []) f)) (all-last IsFine (subterms t) (SomeTerm t) f).1
    term_answers (VariableTerm id ty) h f = variable_answers id ty f.0.2

    all_answer : (ts : PlainTerms) → typed_all ts ≡ true → AllByRecursion IsFine (subterms_of_all ts) → AreAnswers I ts (all_evaluated a ts)
    all_answer no_terms h f = no_answers I
    all_answer (one_term t ts) h f =
        one_more I t (evaluated a t) ts (all_evaluated a ts) (term_answers t (first_so (typed t) (typed_all ts) h) (all-front IsFine (subterms t) (subterms_of_all ts) f)) (all_answer ts (second_so (typed t) (typed_all ts) h) (all-back IsFine (subterms t) (subterms_of_all ts) f))

    fields_answer : (fs : PlainFields) → typed_fields fs ≡ true → AllByRecursion IsFine (subterms_of_fields fs) → AreFieldAnswers I fs (evaluated_fields a fs)
    fields_answer no_fields h f = record { literals = refl; parts = refl; types = refl; nodes = tt; formed = tt; values = λ J. refl }
    fields_answer (one_field x t fs) h f =
        one_more_field I x t (evaluated a t) fs (evaluated_fields a fs) (term_answers t (first_so (typed t) (typed_fields fs) h) (all-front IsFine (subterms t) (subterms_of_fields fs) f)) (fields_answer fs (second_so (typed t) (typed_fields fs) h) (all-back IsFine (subterms t) (subterms_of_fields fs) f))

fine : (P Q R : PlainTerm → Type 0) (ws : List PlainTerm) → AllByRecursion P ws → AllByRecursion Q ws → AllByRecursion R ws → AllByRecursion (λ w. P w × Q w × R w) ws
fine P Q R [] p q r = tt
fine P Q R (w ∷ ws) p q r = ((p.0, q.0, r.0), fine P Q R ws p.1 q.1 r.1)

pub evaluated_is_the_value : EvaluatedIsTheValue
evaluated_is_the_value enums a t ty s c y f =
    let x : IsAnswer (interpretation a) t (evaluated a t) = term_answers enums a s t y.parts (fine IsFormedNode HasFormedType (λ w. gives a w ≡ true) (subterms t) f.literals f.types (all-front (λ w. gives a w ≡ true) (subterms t) [] c)) in
    record {
      literal = x.literal;
      type = record { parts = x.parts; type = x.type ∙ y.type };
      formed = x.formed;
      value = λ J. valued J (evaluated a t) x.parts ∙ (x.value J ∙ sym (valued (interpretation a) t y.parts));
    }
