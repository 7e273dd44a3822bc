-- Blasted terms are Boolean terms over the new variables, and what such terms ask of an interpretation.
use Rattle.std.proofs.Common.{◌≡◌, ℕ, Bool, true, false, ◌||◌, List, [], ◌∷◌, ◌++◌, map, refl, sym, ap, ◌∙◌, subst}
use Rattle.std.specs.Prelude.{bytes_eq, None, IfSome, IsTrue}
use Rattle.std.specs.List.{AllByRecursion, list_any}
use Rattle.std.specs.Option.{option_or}
use Rattle.std.proofs.lemmas.Slice.Eq.{bytes_eq-Decides}
use Rattle.law_blasting.specs.Passing.{Related, none, one, Passes}
use Rattle.law_terms.specs.Faults.{unless, is_passed_over, type_fault, operator_fault, term_fault, terms_fault}
use Rattle.law_terms.specs.Formed.{IsFormedType, IsFormedNode}
use Rattle.law_terms.specs.Interpretations.{IsGivenOp, IsGiven}
use Rattle.law_terms.specs.Reached.{subterms, subterms_of_all, reached_variable}
use Rattle.law_terms.specs.Tables.{Interpretation}
use Rattle.law_terms.specs.Types.{type_of, types_of}
use Rattle.law_terms.specs.TypeValues.{Enums, IsValue}
use Rattle.law_terms.specs.Plain.{PlainType, BoolType, PlainOp, AndOp, EqOp, IteOp, NotOp, OrOp, BoolLiteral, PlainTerm, Application, NoneTerm, LiteralTerm, RecordTerm, SetTerm, SomeTerm, VariableTerm, PlainTerms, no_terms, one_term}
use Rattle.law_terms.proofs.Matching.{or_second}
use Rattle.law_terms.proofs.Shapes.{all-become}
use Rattle.law_terms.proofs.Soundness.{all-front, all-back, all-last, none_both}
use Rattle.law_terms.proofs.ValueOrder.{bytes_itself}
use Rattle.law_blasting.specs.Blasted.{Variables, is_among, number_from, blasted, blasted_all, all_names, new_names, new_variable}
use Rattle.law_blasting.specs.NewTerms.{IsBooleanNode, IsBooleanOver, NewTermsAreBoolean, BooleanTermsAreFormed, BooleanTermsHaveNoFault, BooleansInterpret}
use Rattle.law_blasting.specs.OperatorCircuits.{term_gates}
use Rattle.law_blasting.specs.Refusals.{is_connective, type_refusal, operator_refusal, term_refusal, terms_refusal}
use Rattle.law_blasting.proofs.Gates.{operators_pass}
use Rattle.law_blasting.proofs.Inverses.{own_names}
use Rattle.law_blasting.proofs.Keeping.{none_first, none_second, reached}
use Rattle.law_blasting.proofs.Lookups.{at}
use Rattle.law_terms.proofs.Defaults.{all-join}

-- ---- names

named_first : (name : List ℕ) (xs ys : List (List ℕ)) → list_any (bytes_eq name) xs ≡ true → list_any (bytes_eq name) (xs ++ ys) ≡ true
named_first name [] ys h = cc
named_first name (x ∷ xs) ys h = by (bytes_eq name x) h (named_first name xs ys)
  where
    by : (b : Bool) → (b || list_any (bytes_eq name) xs) ≡ true → (list_any (bytes_eq name) xs ≡ true → list_any (bytes_eq name) (xs ++ ys) ≡ true) → (b || list_any (bytes_eq name) (xs ++ ys)) ≡ true
    by true k again = refl
    by false k again = again k

each_named : (names : List (List ℕ)) → AllByRecursion (λ n. list_any (bytes_eq n) names ≡ true) names
each_named [] = tt
each_named (n ∷ names) =
    (ap (λ b. b || list_any (bytes_eq n) names) (bytes_itself n), all-become (λ m. list_any (bytes_eq m) names ≡ true) (λ m. list_any (bytes_eq m) (n ∷ names) ≡ true) (λ m h. or_second (bytes_eq m n) (list_any (bytes_eq m) names) h) names (each_named names))

-- ---- gates

module _ (names : List (List ℕ)) where
  joined : (xs ys : List PlainTerm) → AllByRecursion (IsBooleanNode names) xs → AllByRecursion (IsBooleanNode names) ys → AllByRecursion (IsBooleanNode names) (xs ++ ys)
  joined = all-join (IsBooleanNode names)

  one_part : (o : PlainOp) (a : PlainTerm) → is_connective o ≡ true → IsBooleanOver names a → IsBooleanOver names (Application o (one_term a no_terms) BoolType)
  one_part o a c h = joined (subterms a ++ []) (Application o (one_term a no_terms) BoolType ∷ []) (joined (subterms a) [] h tt) ((c, refl), tt)

  two_parts : (o : PlainOp) (a b : PlainTerm) → is_connective o ≡ true → IsBooleanOver names a → IsBooleanOver names b → IsBooleanOver names (Application o (one_term a (one_term b no_terms)) BoolType)
  two_parts o a b c h k = joined (subterms a ++ (subterms b ++ [])) (Application o (one_term a (one_term b no_terms)) BoolType ∷ []) (joined (subterms a) (subterms b ++ []) h (joined (subterms b) [] k tt)) ((c, refl), tt)

  three_parts : (a b d : PlainTerm) → IsBooleanOver names a → IsBooleanOver names b → IsBooleanOver names d → IsBooleanOver names (Application IteOp (one_term a (one_term b (one_term d no_terms))) BoolType)
  three_parts a b d h k l = joined (subterms a ++ (subterms b ++ (subterms d ++ []))) (Application IteOp (one_term a (one_term b (one_term d no_terms))) BoolType ∷ []) (joined (subterms a) (subterms b ++ (subterms d ++ [])) h (joined (subterms b) (subterms d ++ []) k (joined (subterms d) [] l tt))) ((refl, refl), tt)

  gates_pass : Passes term_gates term_gates (λ u w. AllByRecursion (IsBooleanNode names) (subterms u))
  gates_pass = record {
    no = (tt, tt);
    yes = (tt, tt);
    not = λ a p h. one_part NotOp a refl h;
    and = λ a b p q h k. two_parts AndOp a b refl h k;
    or = λ a b p q h k. two_parts OrOp a b refl h k;
    eq = λ a b p q h k. two_parts EqOp a b refl h k;
    ite = λ a b d p q r h k l. three_parts a b d h k l;
  }

  -- ---- terms

  literals_over : (bs : List Bool) → Related (λ u w. AllByRecursion (IsBooleanNode names) (subterms u)) (map (λ b. LiteralTerm (BoolLiteral b)) bs) (map (λ b. LiteralTerm (BoolLiteral b)) bs)
  literals_over [] = none
  literals_over (b ∷ bs) = one (tt, tt) (literals_over bs)

  variables_over : (ns : List (List ℕ)) → AllByRecursion (λ n. list_any (bytes_eq n) names ≡ true) ns → Related (λ u w. AllByRecursion (IsBooleanNode names) (subterms u)) (map new_variable ns) (map new_variable ns)
  variables_over [] h = none
  variables_over (n ∷ ns) h = one ((h.0, refl), tt) (variables_over ns h.1)

  all_over : (us ws : List PlainTerm) → Related (λ u w. AllByRecursion (IsBooleanNode names) (subterms u)) us ws → AllByRecursion (IsBooleanOver names) us
  all_over us ws none = tt
  all_over us ws (one {xs = vs} {ys = xs} r h) = (r, all_over vs xs h)

module _ (vs : Variables) where
  mutual
    term_over : (t : PlainTerm) → term_refusal t ≡ None → AllByRecursion (λ u. IfSome (reached_variable u) (λ v. IsTrue (is_among vs v))) (subterms t) → Related (λ u w. AllByRecursion (IsBooleanNode (all_names 0 vs)) (subterms u)) (blasted vs t) (blasted vs t)
    term_over (Application o ts t) r k =
        operators_pass term_gates term_gates (λ u w. AllByRecursion (IsBooleanNode (all_names 0 vs)) (subterms u)) (gates_pass (all_names 0 vs)) o
        (terms_over ts (none_first (terms_refusal ts) (operator_refusal o) (none_second (type_refusal t) (option_or (terms_refusal ts) (operator_refusal o)) r)) (all-front (λ u. IfSome (reached_variable u) (λ v. IsTrue (is_among vs v))) (subterms_of_all ts) (Application o ts t ∷ []) k))
    term_over (LiteralTerm l) r k = literals_over (all_names 0 vs) _
    term_over (VariableTerm id t) r k = variables_over (all_names 0 vs) (new_names (number_from 0 vs (id, t)) t) (own_names (λ n. list_any (bytes_eq n) (all_names 0 vs) ≡ true) (id, t) 0 (number_from 0 vs (id, t)) vs (at (id, t) 0 vs k.0) (each_named (all_names 0 vs)))
    term_over (NoneTerm t) r k = none
    term_over (RecordTerm fs) r k = none
    term_over (SetTerm t ts) r k = none
    term_over (SomeTerm t) r k = none

    terms_over : (ts : PlainTerms) → terms_refusal ts ≡ None → AllByRecursion (λ u. IfSome (reached_variable u) (λ v. IsTrue (is_among vs v))) (subterms_of_all ts) → Related (Related (λ u w. AllByRecursion (IsBooleanNode (all_names 0 vs)) (subterms u))) (blasted_all vs ts) (blasted_all vs ts)
    terms_over no_terms r k = none
    terms_over (one_term t ts) r k =
        one (term_over t (none_first (term_refusal t) (terms_refusal ts) r) (all-front (λ u. IfSome (reached_variable u) (λ v. IsTrue (is_among vs v))) (subterms t) (subterms_of_all ts) k))
        (terms_over ts (none_second (term_refusal t) (terms_refusal ts) r) (all-back (λ u. IfSome (reached_variable u) (λ v. IsTrue (is_among vs v))) (subterms t) (subterms_of_all ts) k))

pub new_terms_are_boolean : NewTermsAreBoolean
new_terms_are_boolean vs t r n =
    all_over (all_names 0 vs) (blasted vs t) (blasted vs t) (term_over vs t r (all-front (λ u. IfSome (reached_variable u) (λ v. IsTrue (is_among vs v))) (subterms t) [] (reached (λ v. IsTrue (is_among vs v)) (subterms t ++ []) n)))

-- ---- what they ask

node_formed : (names : List (List ℕ)) (u : PlainTerm) → IsBooleanNode names u → IsFormedNode u
node_formed names (Application o ts t) h = tt
node_formed names (LiteralTerm (BoolLiteral b)) h = tt
node_formed names (VariableTerm n t) h = tt
node_formed names u h = elim h [ ]

node_type : (names : List (List ℕ)) (u : PlainTerm) → IsBooleanNode names u → IsFormedType (type_of u)
node_type names (Application o ts t) h = subst IsFormedType (sym h.1) (tt, tt)
node_type names (LiteralTerm (BoolLiteral b)) h = (tt, tt)
node_type names (VariableTerm n t) h = subst IsFormedType (sym h.1) (tt, tt)
node_type names u h = elim h [ ]

pub boolean_terms_are_formed : BooleanTermsAreFormed
boolean_terms_are_formed names u h = record { literals = all-become (IsBooleanNode names) IsFormedNode (node_formed names) (subterms u) h; types = all-become (IsBooleanNode names) (λ w. IsFormedType (type_of w)) (node_type names) (subterms u) h }

op_given : (enums : Enums) (J : Interpretation) (o : PlainOp) (t : PlainType) → is_connective o ≡ true → IsGivenOp enums J o t
op_given enums J NotOp t h = tt
op_given enums J AndOp t h = tt
op_given enums J OrOp t h = tt
op_given enums J EqOp t h = tt
op_given enums J IteOp t h = tt
op_given enums J o t h = cc

pub named_holds : (P : List ℕ → Type 0) (names : List (List ℕ)) (n : List ℕ) → AllByRecursion P names → list_any (bytes_eq n) names ≡ true → P n
named_holds P [] n g h = cc
named_holds P (m ∷ names) n g h = by (bytes_eq n m) refl h (named_holds P names n g.1)
  where
    by : (b : Bool) → bytes_eq n m ≡ b → (b || list_any (bytes_eq n) names) ≡ true → (list_any (bytes_eq n) names ≡ true → P n) → P n
    by true e k again = subst P (sym ((bytes_eq-Decides n m).0 e)) g.0
    by false e k again = again k

pub booleans_interpret : BooleansInterpret
booleans_interpret enums vs J u h g = all-join (IsGiven enums J) (subterms u) [] (all-become (IsBooleanNode (all_names 0 vs)) (IsGiven enums J) node (subterms u) h) tt
  where
    node : (w : PlainTerm) → IsBooleanNode (all_names 0 vs) w → IsGiven enums J w
    node (Application o ts t) k = op_given enums J o t k.0
    node (LiteralTerm (BoolLiteral b)) k = tt
    node (VariableTerm n t) k = subst (λ x. IsValue enums x (J.variable n x)) (sym k.1) (named_holds (λ m. IsValue enums BoolType (J.variable m BoolType)) (all_names 0 vs) n g k.0)
    node w k = elim k [ ]

-- ---- faults

module _ (enums : Enums) where
  operator_sound : (o : PlainOp) (tys : List PlainType) (t : PlainType) → is_connective o ≡ true → (is_passed_over o tys t ≡ false) × (operator_fault enums o tys ≡ None)
  operator_sound NotOp tys t h = (refl, refl)
  operator_sound AndOp tys t h = (refl, refl)
  operator_sound OrOp tys t h = (refl, refl)
  operator_sound EqOp tys t h = (refl, refl)
  operator_sound IteOp tys t h = (refl, refl)
  operator_sound o tys t h = cc

  mutual
    pub term_sound : (names : List (List ℕ)) (t : PlainTerm) → AllByRecursion (IsBooleanNode names) (subterms t) → term_fault enums t ≡ None
    term_sound names (Application o ts t) h =
        let n = all-last (IsBooleanNode names) (subterms_of_all ts) (Application o ts t) h in
        let s = operator_sound o (types_of ts) t n.0 in
        ap (λ b. unless b (option_or (type_fault enums t) (option_or (terms_fault enums ts) (operator_fault enums o (types_of ts))))) s.0
        ∙ none_both (type_fault enums t) (option_or (terms_fault enums ts) (operator_fault enums o (types_of ts))) (ap (type_fault enums) n.1)
        (none_both (terms_fault enums ts) (operator_fault enums o (types_of ts)) (terms_sound names ts (all-front (IsBooleanNode names) (subterms_of_all ts) (Application o ts t ∷ []) h)) s.1)
    term_sound names (LiteralTerm (BoolLiteral b)) h = refl
    term_sound names (VariableTerm n t) h = ap (type_fault enums) h.0.1
    term_sound names (NoneTerm t) h = elim h.0 [ ]
    term_sound names (RecordTerm fs) h = elim (all-last (IsBooleanNode names) _ (RecordTerm fs) h) [ ]
    term_sound names (SetTerm t ts) h = elim (all-last (IsBooleanNode names) _ (SetTerm t ts) h) [ ]
    term_sound names (SomeTerm t) h = elim (all-last (IsBooleanNode names) _ (SomeTerm t) h) [ ]
    term_sound names (LiteralTerm l) h = elim h.0 [ ]

    terms_sound : (names : List (List ℕ)) (ts : PlainTerms) → AllByRecursion (IsBooleanNode names) (subterms_of_all ts) → terms_fault enums ts ≡ None
    terms_sound names no_terms h = refl
    terms_sound names (one_term t ts) h = none_both (term_fault enums t) (terms_fault enums ts) (term_sound names t (all-front (IsBooleanNode names) (subterms t) (subterms_of_all ts) h)) (terms_sound names ts (all-back (IsBooleanNode names) (subterms t) (subterms_of_all ts) h))

pub boolean_terms_have_no_fault : BooleanTermsHaveNoFault
boolean_terms_have_no_fault enums names u h = none_both (term_fault enums u) None (term_sound enums names u h) refl
