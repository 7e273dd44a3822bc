-- The disjunction of the Boolean terms that a call answers: its type, its truth and what it reaches.
use Rattle.std.proofs.Common.{List, [], ◌∷◌, refl, ◌∙◌, sym, subst}
use Rattle.std.specs.Prelude.{Result}
use Rattle.std.specs.List.{AllByRecursion, AllZip}
use Rattle.smt_factory_core.specs.AnyOf.{IsAnswer, GivesBooleans, IsAnyOf, IsTrueWhereOneIs}
use Rattle.law_folding.specs.Applications.{false_term, or_of}
use Rattle.law_folding.specs.Builder.{applied}
use Rattle.law_folding.specs.Composites.{any_of, any_of_from}
use Rattle.law_folding.specs.Refinement.{Refines}
use Rattle.law_folding.proofs.CompositesStand.{stands_any}
use Rattle.law_folding.proofs.ConnectivesStand.{any_is_true, is_both_boolean}
use Rattle.law_folding.proofs.ReachingLists.{ReachesOnly, all_reached, reach_no_more, stands_within}
use Rattle.law_folding.proofs.Records.{HasFormedType}
use Rattle.law_folding.proofs.Standing.{itself}
use Rattle.law_terms.specs.Formed.{IsFormedNode, IsFormed}
use Rattle.law_terms.specs.Interpretations.{IsGiven, IsInterpretation}
use Rattle.law_terms.specs.Plain.{BoolType, PlainTerm, terms}
use Rattle.law_terms.specs.Reached.{subterms, subterms_of_all}
use Rattle.law_terms.specs.Tables.{Interpretation}
use Rattle.law_terms.specs.Typing.{Typed, AreBoolean}
use Rattle.law_terms.specs.TypeValues.{Enums}
use Rattle.smt_term.specs.declared.error.TermError.{TermError}
use Rattle.smt_term.specs.declared.term.Term.{Term}
use Rattle.law_terms.proofs.Defaults.{all-join}
use Rattle.smt_term.proofs.FormedTerms.{terms_are_formed}
use Rattle.law_terms.proofs.Soundness.{all-front, all-back}

-- ---- the disjunction of Boolean terms

any_from_typed : (x : PlainTerm) (ts : List PlainTerm) → Typed x BoolType → AreBoolean ts → Typed (any_of_from applied x ts) BoolType
any_from_typed x [] h a = h
any_from_typed x (t ∷ ts) h a = any_from_typed (or_of t x) ts (record { parts = is_both_boolean t x a.0.parts a.0.type h.parts h.type; type = refl }) a.1

any_typed : (ts : List PlainTerm) → AreBoolean ts → Typed (any_of applied ts) BoolType
any_typed ts a = any_from_typed false_term ts (record { parts = refl; type = refl }) a

-- what holds of false, of each disjunction and of each subterm of the terms, holds of each subterm of their disjunction
module _ (P : PlainTerm → Type 0) (either : (t u : PlainTerm) → P (or_of t u)) where
  any_from_within : (x : PlainTerm) (ts : List PlainTerm) → AllByRecursion P (subterms x) → AllByRecursion P (subterms_of_all (terms ts)) → AllByRecursion P (subterms (any_of_from applied x ts))
  any_from_within x [] h a = h
  any_from_within x (t ∷ ts) h a =
      any_from_within (or_of t x) ts (all-join P (subterms_of_all (terms (t ∷ x ∷ []))) (or_of t x ∷ []) (all-join P (subterms t) (subterms_of_all (terms (x ∷ []))) (all-front P (subterms t) (subterms_of_all (terms ts)) a) (all-join P (subterms x) [] h tt)) (either t x, tt)) (all-back P (subterms t) (subterms_of_all (terms ts)) a)

  any_within : (ts : List PlainTerm) → P false_term → AllByRecursion P (subterms_of_all (terms ts)) → AllByRecursion P (subterms (any_of applied ts))
  any_within ts n a = any_from_within false_term ts (n, tt) a

any_reaches : (ts : List PlainTerm) → ReachesOnly (any_of applied ts) ts
any_reaches ts P quiet a = any_within P (λ t u. quiet (or_of t u) (refl, refl, refl, refl)) ts (quiet false_term (refl, refl, refl, refl)) a

any_given : (enums : Enums) (I : Interpretation) (ts : List PlainTerm) → IsInterpretation enums ts I → IsInterpretation enums (any_of applied ts ∷ []) I
any_given enums I ts g =
    all-join (IsGiven enums I) (subterms (any_of applied ts)) [] (any_within (IsGiven enums I) (λ t u. tt) ts tt (subst (λ us. AllByRecursion (IsGiven enums I) us) (all_reached ts) g)) tt

module _ (P : PlainTerm → Type 0) where
  gather : (ts : List PlainTerm) → AllByRecursion (λ t. AllByRecursion P (subterms t)) ts → AllByRecursion P (subterms_of_all (terms ts))
  gather [] h = tt
  gather (t ∷ ts) h = all-join P (subterms t) (subterms_of_all (terms ts)) h.0 (gather ts h.1)

-- ---- what the call answers

module _ (answers : Term → Result Term TermError → Type 0) where
  each_boolean : (ts us : List PlainTerm) → AllByRecursion (GivesBooleans answers) ts → AllZip (IsAnswer answers) ts us → AllByRecursion (λ u. Typed u BoolType) us
  each_boolean [] [] h z = tt
  each_boolean [] (u ∷ us) h z = elim z [ ]
  each_boolean (t ∷ ts) [] h z = elim z [ ]
  each_boolean (t ∷ ts) (u ∷ us) h z = (subst (λ (x : PlainTerm). Typed x BoolType) z.0.said (h.0 z.0.argument z.0.answer z.0.asked z.0.gives), each_boolean ts us h.1 z.1)

  answer_formed : (t u : PlainTerm) → IsAnswer answers t u → IsFormed u
  answer_formed t u g = subst (λ (x : PlainTerm). IsFormed x) g.said (terms_are_formed g.answer)

  nodes_formed : (ts us : List PlainTerm) → AllZip (IsAnswer answers) ts us → AllByRecursion (λ u. AllByRecursion IsFormedNode (subterms u)) us
  nodes_formed [] [] z = tt
  nodes_formed [] (u ∷ us) z = elim z [ ]
  nodes_formed (t ∷ ts) [] z = elim z [ ]
  nodes_formed (t ∷ ts) (u ∷ us) z = ((answer_formed t u z.0).literals, nodes_formed ts us z.1)

  types_formed : (ts us : List PlainTerm) → AllZip (IsAnswer answers) ts us → AllByRecursion (λ u. AllByRecursion HasFormedType (subterms u)) us
  types_formed [] [] z = tt
  types_formed [] (u ∷ us) z = elim z [ ]
  types_formed (t ∷ ts) [] z = elim z [ ]
  types_formed (t ∷ ts) (u ∷ us) z = ((answer_formed t u z.0).types, types_formed ts us z.1)

  any_formed : (ts us : List PlainTerm) → AllZip (IsAnswer answers) ts us → IsFormed (any_of applied us)
  any_formed ts us z = record {
    literals = any_within IsFormedNode (λ t u. tt) us tt (gather IsFormedNode us (nodes_formed ts us z));
    types = any_within HasFormedType (λ t u. (tt, tt)) us (tt, tt) (gather HasFormedType us (types_formed ts us z));
  }

  itself_all : (us : List PlainTerm) → AllZip Refines us us
  itself_all [] = tt
  itself_all (u ∷ us) = (itself u, itself_all us)

  pub true_where_one_is : (ts : List PlainTerm) (r : PlainTerm) → IsAnyOf answers ts r → AllByRecursion (GivesBooleans answers) ts → IsTrueWhereOneIs answers ts r
  true_where_one_is ts r is h =
      let booleans : AllByRecursion (λ u. Typed u BoolType) is.given = each_boolean ts is.given h is.each in
      let stands : Refines r (any_of applied is.given) = subst (λ (x : PlainTerm). Refines x (any_of applied is.given)) (sym is.folded) (stands_any is.given is.given (itself_all is.given)) in
      record {
        given = is.given;
        each = is.each;
        type = stands.type BoolType (any_typed is.given booleans);
        value = λ enums I g. stands.value BoolType enums I (any_formed ts is.given is.each) (any_typed is.given booleans) (any_given enums I is.given g) ∙ any_is_true I is.given booleans;
        reached = stands_within r (any_of applied is.given) is.given stands (reach_no_more (any_of applied is.given) is.given (any_reaches is.given));
      }
