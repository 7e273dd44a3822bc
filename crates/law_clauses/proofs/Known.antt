-- Clauses of what is known without an interpretation are valid.
use Rattle.std.proofs.Common.{◌≡◌, true, false, List, [], ◌∷◌, ◌++◌, ap, sym, ◌∙◌}
use Rattle.std.specs.Prelude.{cond, IfSome}
use Rattle.std.specs.List.{AllByRecursion, list_all}
use Rattle.std.proofs.lemmas.Bool.{and_parts}
use Rattle.law_terms.proofs.Agreement.{same_values}
use Rattle.law_terms.specs.Interpretations.{GiveSame, GiveSameOp}
use Rattle.law_terms.specs.Meaning.{meaning}
use Rattle.law_terms.specs.Operators.{truth, number, elements, is_member}
use Rattle.law_terms.specs.Plain.{PlainType, ExtensionOp, IpAddrV4Op, IpAddrV6Op, IpPrefixV4Op, IpPrefixV6Op, ExtOp, OptionGetOp, PlainOp, UufOp, PlainTerm, Application, NoneTerm, LiteralTerm, RecordTerm, SetTerm, SomeTerm, VariableTerm, terms}
use Rattle.law_terms.specs.Reached.{subterms, selector_of_extension}
use Rattle.law_terms.specs.Tables.{Interpretation}
use Rattle.law_terms.specs.Typing.{typed}
use Rattle.law_terms.specs.ValueOrder.{value_eq}
use Rattle.law_terms.specs.Values.{BoolValue}
use Rattle.law_clauses.specs.Known.{KnownIsValid, blank, is_known, is_known_atom, is_known_element, is_known_extension, is_known_here}
use Rattle.law_clauses.specs.Statements.{Apart, Atom, BitOf, Element, Same, TruthOf, Value_of, Within, atom_truth, bit_at, element_value, first_apart}
use Rattle.law_clauses.proofs.Sequents.{or_one}

module _ (I J : Interpretation) where
  same_extension : (o : ExtensionOp) → is_known_extension o ≡ true → IfSome (selector_of_extension o) (λ s. I.other_family s ≡ J.other_family s)
  same_extension IpAddrV4Op e = cc
  same_extension IpAddrV6Op e = cc
  same_extension IpPrefixV4Op e = cc
  same_extension IpPrefixV6Op e = cc
  same_extension o e = tt

  same_op : (o : PlainOp) (t : PlainType) (ts : List PlainTerm) → is_known_here (Application o (terms ts) t) ≡ true → GiveSameOp I J o t
  same_op (UufOp f) t ts e = cc
  same_op OptionGetOp t ts e = cc
  same_op (ExtOp o) t ts e = same_extension o e
  same_op o t ts e = tt

  same_here : (t : PlainTerm) → is_known_here t ≡ true → GiveSame I J t
  same_here (VariableTerm id t) e = cc
  same_here (Application o ts t) e = same_op o t [] e
  same_here (NoneTerm t) e = tt
  same_here (LiteralTerm l) e = tt
  same_here (RecordTerm fs) e = tt
  same_here (SetTerm t ts) e = tt
  same_here (SomeTerm t) e = tt

  all_same : (ts : List PlainTerm) → list_all is_known_here ts ≡ true → AllByRecursion (GiveSame I J) ts
  all_same [] e = tt
  all_same (t ∷ ts) e = let p = and_parts (is_known_here t) (list_all is_known_here ts) e in (same_here t p.0, all_same ts p.1)

  joined : (ts us : List PlainTerm) → AllByRecursion (GiveSame I J) ts → AllByRecursion (GiveSame I J) us → AllByRecursion (GiveSame I J) (ts ++ us)
  joined [] us h k = k
  joined (t ∷ ts) us h k = (h.0, joined ts us h.1 k)

  -- a known term has one value
  pub known_value : (t : PlainTerm) → is_known t ≡ true → meaning I t ≡ meaning J t
  known_value t e =
      let p = and_parts (typed t) (list_all is_known_here (subterms t)) e in
      sym (ap (λ b. cond b (meaning I t) (BoolValue false)) p.0) ∙ ((same_values I J (t ∷ []) (joined (subterms t) [] (all_same (subterms t) p.1) tt)).0 ∙ ap (λ b. cond b (meaning J t) (BoolValue false)) p.0)

  known_element : (a : Element) → is_known_element a ≡ true → element_value I a ≡ element_value J a
  known_element (Value_of t) e = known_value t e
  known_element (Apart s t) e =
      let p = and_parts (is_known s) (is_known t) e in
      ap (λ v. first_apart (elements v) (elements (meaning I t))) (known_value s p.0) ∙ ap (λ v. first_apart (elements (meaning J s)) (elements v)) (known_value t p.1)

  known_truth : (a : Atom) → is_known_atom a ≡ true → atom_truth I a ≡ atom_truth J a
  known_truth (TruthOf t) e = ap truth (known_value t e)
  known_truth (BitOf t k) e = ap (λ v. bit_at k (number v)) (known_value t e)
  known_truth (Same a b) e = let p = and_parts (is_known_element a) (is_known_element b) e in ap (λ v. value_eq v (element_value I b)) (known_element a p.0) ∙ ap (λ v. value_eq (element_value J a) v) (known_element b p.1)
  known_truth (Within a s) e = let p = and_parts (is_known_element a) (is_known s) e in ap (λ v. is_member v (elements (meaning I s))) (known_element a p.0) ∙ ap (λ v. is_member (element_value J a) (elements v)) (known_value s p.1)
  known_truth a e = cc

pub known_is_valid : KnownIsValid
known_is_valid = record {
  holds = λ a e h I p. or_one (atom_truth I a) (known_truth I blank a e ∙ h);
  fails = λ a e h I p. sym (known_truth I blank a e ∙ h) ∙ p.0;
}
