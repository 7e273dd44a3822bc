-- Old Boolean terms and their new ones are true together.
use Rattle.std.proofs.Common.{◌≡◌, ℕ, true, List, [], ◌∷◌, map, refl, sym, ap, ◌∙◌, subst}
use Rattle.std.specs.Prelude.{None, ◌↔◌}
use Rattle.std.specs.List.{AllByRecursion}
use Rattle.std.specs.Option.{option_or}
use Rattle.law_terms.specs.Defaults.{default_interpretation}
use Rattle.law_terms.specs.Faults.{first_fault, term_fault}
use Rattle.law_terms.specs.Formed.{IsFormed}
use Rattle.law_terms.specs.Interpretations.{Agree, GiveSame, GiveSameOp, IsGiven, IsGivenOp, IsInterpretation, empty_table, unused_value}
use Rattle.law_terms.specs.Meaning.{term_value, AreTrue}
use Rattle.law_terms.specs.Reached.{subterms, subterms_of_all, reached_terms}
use Rattle.law_terms.specs.Tables.{Interpretation}
use Rattle.std.specs.Cmp.{second_so}
use Rattle.law_terms.specs.Types.{types_of, result_type, is_type}
use Rattle.law_terms.specs.Typing.{Typed, AreBoolean, typed_all}
use Rattle.law_terms.specs.TypeValues.{Enums, IsValue}
use Rattle.law_terms.specs.Values.{Value, BoolValue}
use Rattle.law_terms.specs.Operators.{truth}
use Rattle.law_terms.specs.Plain.{PlainType, BoolType, PlainOp, AndOp, EqOp, IteOp, NotOp, OrOp, ExtOp, OptionGetOp, UufOp, BoolLiteral, PlainTerm, Application, NoneTerm, LiteralTerm, RecordTerm, SetTerm, SomeTerm, VariableTerm, PlainTerms, no_terms, one_term, terms}
use Rattle.law_terms.proofs.Agreement.{same_values}
use Rattle.law_terms.proofs.Shapes.{all-become}
use Rattle.law_terms.proofs.Soundness.{all-front, all-back, none_both}
use Rattle.law_blasting.specs.Circuits.{choose, equal}
use Rattle.law_blasting.specs.OperatorCircuits.{term_gates}
use Rattle.law_blasting.specs.Blasted.{Variables, AreNumbered, all_names, bits, blasted, number_from, unbits}
use Rattle.law_blasting.specs.Laws.{root, AreDistinct, BlastedTermsAreTyped, FormsStay, AreSupported, GivesBooleans}
use Rattle.law_blasting.specs.NewTerms.{IsBooleanNode, IsBooleanOver}
use Rattle.law_blasting.specs.Numbering.{variables_of}
use Rattle.law_blasting.specs.Refusals.{is_connective, is_supported, type_refusal, operator_refusal, term_refusal, terms_refusal}
use Rattle.law_blasting.specs.Theorem.{AreBlastable, BlastIsFaithful, new_roots}
use Rattle.law_blasting.proofs.Inverses.{unlike, bits_are_booleans, bits_are_onto, both_become, told, value_given}
use Rattle.law_blasting.proofs.Keeping.{all_taken, none_first, none_second, roots_keep_values, supported, typed_in}
use Rattle.law_blasting.proofs.NewTerms.{boolean_terms_are_formed, booleans_interpret, named_holds, new_terms_are_boolean, term_sound}
use Rattle.law_blasting.proofs.Numbering.{variables_are_numbered, variables_are_distinct, variables_are_supported}
use Rattle.law_terms.proofs.Defaults.{all-join}

-- ---- unbits interpret the old terms

op_given : (enums : Enums) (I : Interpretation) (o : PlainOp) (t : PlainType) → is_supported o ≡ true → IsGivenOp enums I o t
op_given enums I (UufOp f) t h = cc
op_given enums I OptionGetOp t h = cc
op_given enums I (ExtOp o) t h = cc
op_given enums I o t h = tt

module _ (enums : Enums) (vs : Variables) (J : Interpretation) where
  mutual
    old_given : (t : PlainTerm) → term_refusal t ≡ None → AllByRecursion (IsGiven enums (unbits vs J)) (subterms t)
    old_given (Application o ts t) r =
        let q = none_second (type_refusal t) (option_or (terms_refusal ts) (operator_refusal o)) r in
        all-join (IsGiven enums (unbits vs J)) (subterms_of_all ts) (Application o ts t ∷ []) (all_given ts (none_first (terms_refusal ts) (operator_refusal o) q)) (op_given enums (unbits vs J) o t (supported o (is_supported o) (none_second (terms_refusal ts) (operator_refusal o) q)), tt)
    old_given (LiteralTerm l) r = (tt, tt)
    old_given (VariableTerm id t) r = (value_given enums (told J) (number_from 0 vs (id, t)) t r, tt)
    old_given (NoneTerm t) r = cc
    old_given (RecordTerm fs) r = cc
    old_given (SetTerm t ts) r = cc
    old_given (SomeTerm t) r = cc

    all_given : (ts : PlainTerms) → terms_refusal ts ≡ None → AllByRecursion (IsGiven enums (unbits vs J)) (subterms_of_all ts)
    all_given no_terms r = tt
    all_given (one_term t ts) r = all-join (IsGiven enums (unbits vs J)) (subterms t) (subterms_of_all ts) (old_given t (none_first (term_refusal t) (terms_refusal ts) r)) (all_given ts (none_second (term_refusal t) (terms_refusal ts) r))

  each_given : (ts : List PlainTerm) → AllByRecursion (λ t. term_refusal t ≡ None) ts → IsInterpretation enums ts (unbits vs J)
  each_given [] h = tt
  each_given (t ∷ ts) h = all-join (IsGiven enums (unbits vs J)) (subterms t) (reached_terms ts) (old_given t h.0) (each_given ts h.1)

-- ---- interpretations that agree on the new variables

op_same : (J K : Interpretation) (o : PlainOp) (t : PlainType) → is_connective o ≡ true → GiveSameOp J K o t
op_same J K (UufOp f) t h = cc
op_same J K OptionGetOp t h = cc
op_same J K (ExtOp o) t h = cc
op_same J K o t h = tt

is_boolean : (enums : Enums) (v : Value) → IsValue enums BoolType v → BoolValue (truth v) ≡ v
is_boolean enums (BoolValue b) h = refl
is_boolean enums v h = elim h [ ]

-- what is given to a variable that is reached is a Boolean
node_same : (enums : Enums) (names : List (List ℕ)) (J K : Interpretation) → AllByRecursion (λ n. J.variable n BoolType ≡ BoolValue (told K n)) names → (w : PlainTerm) → IsBooleanNode names w → IsGiven enums K w → GiveSame J K w
node_same enums names J K h (Application o ts t) k g = op_same J K o t k.0
node_same enums names J K h (LiteralTerm (BoolLiteral b)) k g = tt
node_same enums names J K h (VariableTerm n t) k g =
    let given : IsValue enums BoolType (K.variable n BoolType) = subst (λ x. IsValue enums x (K.variable n x)) k.1 g in
    subst (λ x. J.variable n x ≡ K.variable n x) (sym k.1) (named_holds (λ m. J.variable m BoolType ≡ BoolValue (told K m)) names n h k.0 ∙ is_boolean enums (K.variable n BoolType) given)
node_same enums names J K h w k g = elim k [ ]

all_nodes : (names : List (List ℕ)) (us : List PlainTerm) → AllByRecursion (IsBooleanOver names) us → AllByRecursion (IsBooleanNode names) (reached_terms us)
all_nodes names [] h = tt
all_nodes names (u ∷ us) h = all-join (IsBooleanNode names) (subterms u) (reached_terms us) h.0 (all_nodes names us h.1)

same_roots : (J K : Interpretation) (us : List PlainTerm) → AllByRecursion (λ u. term_value J u ≡ term_value K u) us → map (term_value K) us ≡ map (term_value J) us
same_roots J K [] h = refl
same_roots J K (u ∷ us) h = ap (λ v. v ∷ map (term_value K) us) (sym h.0) ∙ ap (λ ws. term_value J u ∷ ws) (same_roots J K us h.1)

-- Booleans everywhere, as an interpretation has them where it has any
booleans : Interpretation → Interpretation
booleans J = record { variable = λ name t. BoolValue (told J name); function = λ f. empty_table; inside_none = λ t. unused_value; other_family = λ o. empty_table }

-- ---- each term

given_one : (enums : Enums) (I : Interpretation) (t : PlainTerm) (ts : List PlainTerm) → IsInterpretation enums (t ∷ ts) I → IsInterpretation enums (t ∷ []) I
given_one enums I t ts g = all-join (IsGiven enums I) (subterms t) [] (all-front (IsGiven enums I) (subterms t) (reached_terms ts) g) tt

module _ (enums : Enums) (vs : Variables) where
  each_typed : (ts : List PlainTerm) → AreBoolean ts → AllByRecursion IsFormed ts → AllByRecursion (λ t. term_refusal t ≡ None) ts → AllByRecursion (AreNumbered vs) ts → AreBoolean (map (root vs) ts)
  each_typed [] h f r n = tt
  each_typed (t ∷ ts) h f r n =
      let I = unbits vs (default_interpretation enums) in
      ((roots_keep_values enums vs I t h.0 f.0 r.0 n.0 (each_given enums vs (default_interpretation enums) (t ∷ []) (r.0, tt))).typed, each_typed ts h.1 f.1 r.1 n.1)

  each_over : (ts : List PlainTerm) → AreBoolean ts → AllByRecursion IsFormed ts → AllByRecursion (λ t. term_refusal t ≡ None) ts → AllByRecursion (AreNumbered vs) ts → AllByRecursion (IsBooleanOver (all_names 0 vs)) (map (root vs) ts)
  each_over [] h f r n = tt
  each_over (t ∷ ts) h f r n =
      let I = unbits vs (default_interpretation enums) in
      let e = (roots_keep_values enums vs I t h.0 f.0 r.0 n.0 (each_given enums vs (default_interpretation enums) (t ∷ []) (r.0, tt))).alone in
      ((subst (AllByRecursion (IsBooleanOver (all_names 0 vs))) e (new_terms_are_boolean vs t r.0 n.0)).0, each_over ts h.1 f.1 r.1 n.1)

  each_forth : (I : Interpretation) (ts : List PlainTerm) → AreBoolean ts → AllByRecursion IsFormed ts → AllByRecursion (λ t. term_refusal t ≡ None) ts → AllByRecursion (AreNumbered vs) ts → IsInterpretation enums ts I → map (term_value (bits vs I)) (map (root vs) ts) ≡ map (term_value I) ts
  each_forth I [] h f r n g = refl
  each_forth I (t ∷ ts) h f r n g =
      ap (λ v. v ∷ map (term_value (bits vs I)) (map (root vs) ts)) (roots_keep_values enums vs I t h.0 f.0 r.0 n.0 (given_one enums I t ts g)).value
      ∙ ap (λ ws. term_value I t ∷ ws) (each_forth I ts h.1 f.1 r.1 n.1 (all-back (IsGiven enums I) (subterms t) (reached_terms ts) g))

each_interprets : (enums : Enums) (vs : Variables) (J : Interpretation) (us : List PlainTerm) → GivesBooleans enums vs J → AllByRecursion (IsBooleanOver (all_names 0 vs)) us → IsInterpretation enums us J
each_interprets enums vs J [] g h = tt
each_interprets enums vs J (u ∷ us) g h = all-join (IsGiven enums J) (subterms u) (reached_terms us) (all-front (IsGiven enums J) (subterms u) [] (booleans_interpret enums vs J u h.0 g)) (each_interprets enums vs J us g h.1)

all_boolean : (enums : Enums) (J : Interpretation) (names : List (List ℕ)) → AllByRecursion (λ n. IsValue enums BoolType ((booleans J).variable n BoolType)) names
unfolding booleans
all_boolean enums J [] = tt
all_boolean enums J (n ∷ names) = (tt, all_boolean enums J names)

onto_told : (enums : Enums) (vs : Variables) (J : Interpretation) → AreSupported vs → AreDistinct vs → AllByRecursion (λ n. (bits vs (unbits vs J)).variable n BoolType ≡ BoolValue (told J n)) (all_names 0 vs)
unfolding booleans
onto_told enums vs J s d = (bits_are_onto enums vs (booleans J) s d (all_boolean enums J (all_names 0 vs))).1

went_back : (enums : Enums) (ts : List PlainTerm) → AreBlastable ts → (J : Interpretation) → IsInterpretation [] (new_roots ts) J → IsInterpretation enums ts (unbits (variables_of ts) J) × Agree (new_roots ts) (bits (variables_of ts) (unbits (variables_of ts) J)) J × (map (term_value J) (new_roots ts) ≡ map (term_value (unbits (variables_of ts) J)) ts)
went_back enums ts a J g =
    let vs = variables_of ts in
    let us = map (root vs) ts in
    let r = all_taken ts a.taken in
    let n = variables_are_numbered ts in
    let over = each_over enums vs ts a.typed a.formed r n in
    let K = bits vs (unbits vs J) in
    let given = each_given enums vs J ts r in
    let found = onto_told [] vs J (variables_are_supported ts a.taken) (variables_are_distinct ts) in
    let agree = both_become (IsBooleanNode (all_names 0 vs)) (IsGiven [] J) (GiveSame K J) (node_same [] (all_names 0 vs) K J found) (reached_terms us) (all_nodes (all_names 0 vs) us over) g in
    (given, agree, same_roots K J us (same_values K J us agree) ∙ each_forth enums vs (unbits vs J) ts a.typed a.formed r n given)

each_formed : (names : List (List ℕ)) (us : List PlainTerm) → AllByRecursion (IsBooleanOver names) us → AllByRecursion IsFormed us
each_formed names us h = all-become (IsBooleanOver names) IsFormed (boolean_terms_are_formed names) us h

no_faults : (names : List (List ℕ)) (us : List PlainTerm) → AllByRecursion (IsBooleanOver names) us → first_fault [] us ≡ None
no_faults names [] h = refl
no_faults names (u ∷ us) h = none_both (term_fault [] u) (first_fault [] us) (term_sound [] names u h.0) (no_faults names us h.1)

-- ---- truth

true_forth : (J : Interpretation) (us : List PlainTerm) → AreTrue J us → AllByRecursion (λ v. v ≡ BoolValue true) (map (term_value J) us)
true_forth J [] h = tt
true_forth J (u ∷ us) h = (h.0, true_forth J us h.1)

true_back : (J : Interpretation) (us : List PlainTerm) → AllByRecursion (λ v. v ≡ BoolValue true) (map (term_value J) us) → AreTrue J us
true_back J [] h = tt
true_back J (u ∷ us) h = (h.0, true_back J us h.1)

-- terms with the same values are true together
true_both : (J K : Interpretation) (us ts : List PlainTerm) → map (term_value J) us ≡ map (term_value K) ts → AreTrue J us ↔ AreTrue K ts
true_both J K us ts e =
    (λ h. true_back K ts (subst (AllByRecursion (λ v. v ≡ BoolValue true)) e (true_forth J us h)), λ h. true_back J us (subst (AllByRecursion (λ v. v ≡ BoolValue true)) (sym e) (true_forth K ts h)))

pub blast_is_faithful : BlastIsFaithful
blast_is_faithful enums ts a =
    let vs = variables_of ts in
    let us = map (root vs) ts in
    let r = all_taken ts a.taken in
    let n = variables_are_numbered ts in
    let over = each_over enums vs ts a.typed a.formed r n in
    record {
      typed = each_typed enums vs ts a.typed a.formed r n;
      formed = each_formed (all_names 0 vs) us over;
      without_fault = no_faults (all_names 0 vs) us over;
      terms = over;
      forth = λ I g. (each_interprets [] vs (bits vs I) us (bits_are_booleans [] vs I) over, each_forth enums vs I ts a.typed a.formed r n g);
      back = λ J g. went_back enums ts a J g;
      together = λ I g. true_both I (bits vs I) ts us (sym (each_forth enums vs I ts a.typed a.formed r n g));
      together_back = λ J g. true_both J (unbits vs J) us ts (went_back enums ts a J g).2;
    }

-- ---- connectives of Booleans

alone : (vs : Variables) (t : PlainTerm) → Typed t BoolType → IsFormed t → term_refusal t ≡ None → AreNumbered vs t → blasted vs t ≡ root vs t ∷ []
alone vs t h f r n = (roots_keep_values [] vs (unbits vs (default_interpretation [])) t h f r n (each_given [] vs (default_interpretation []) (t ∷ []) (r, tt))).alone

each_alone : (vs : Variables) (ts : List PlainTerm) → AreBoolean ts → AllByRecursion IsFormed ts → AllByRecursion (λ t. term_refusal t ≡ None) ts → AllByRecursion (AreNumbered vs) ts → AllByRecursion (λ t. blasted vs t ≡ root vs t ∷ []) ts
each_alone vs [] h f r n = tt
each_alone vs (t ∷ ts) h f r n = (alone vs t h.0 f.0 r.0 n.0, each_alone vs ts h.1 f.1 r.1 n.1)

form_stays : (vs : Variables) (o : PlainOp) (ts : List PlainTerm) → is_connective o ≡ true → is_type (result_type o (types_of (terms ts))) BoolType ≡ true → AllByRecursion (λ t. blasted vs t ≡ root vs t ∷ []) ts → blasted vs (Application o (terms ts) BoolType) ≡ Application o (terms (map (root vs) ts)) BoolType ∷ []
form_stays vs NotOp (a ∷ []) c e k = refl
form_stays vs AndOp (a ∷ d ∷ []) c e k = refl
form_stays vs OrOp (a ∷ d ∷ []) c e k = refl
form_stays vs EqOp (a ∷ d ∷ []) c e k = ap (λ xs. equal term_gates xs (blasted vs d) ∷ []) k.0 ∙ ap (λ ys. equal term_gates (root vs a ∷ []) ys ∷ []) k.1.0
form_stays vs IteOp (g ∷ a ∷ d ∷ []) c e k = ap (λ xs. choose term_gates (root vs g) xs (blasted vs d)) k.1.0 ∙ ap (λ ys. choose term_gates (root vs g) (root vs a ∷ []) ys) k.1.1.0
form_stays vs NotOp ts c e k = absurd (unlike e)
form_stays vs AndOp ts c e k = absurd (unlike e)
form_stays vs OrOp ts c e k = absurd (unlike e)
form_stays vs EqOp ts c e k = absurd (unlike e)
form_stays vs IteOp ts c e k = absurd (unlike e)
form_stays vs o ts c e k = absurd (unlike c)

pub forms_stay : FormsStay
forms_stay vs o ts c h b f r n = form_stays vs o ts c (second_so (typed_all (terms ts)) (is_type (result_type o (types_of (terms ts))) BoolType) h) (each_alone vs ts b f (all_taken ts r) n)

-- ---- types

pub blasted_terms_are_typed : BlastedTermsAreTyped
blasted_terms_are_typed vs t h f r n = typed_in [] vs (unbits vs (default_interpretation [])) t h f r n (each_given [] vs (default_interpretation []) (t ∷ []) (r, tt))
