-- The parts of sets and records, each with its term.
use Rattle.std.proofs.Common.{◌≡◌, ℕ, List, [], ◌∷◌, Ok, Err, map, refl, sym, ap, ◌∙◌}
use Rattle.std.specs.Rc.{rc_str_bytes}
use Rattle.std.specs.declared.alloc.Global.{Global}
use Rattle.std.specs.declared.option.Option.{Option as HeldOption}
use Rattle.std.specs.declared.option.Option.TheVariants.{Some}
use Rattle.std.specs.declared.rc.Rc.{Rc}
use Rattle.std.specs.declared.rc.RcStr.{RcStr}
use Rattle.law_terms.specs.Plain.{PlainTerm, PlainType}
use Rattle.law_terms.specs.TermSets.{set_term}
use Rattle.smt_values.specs.TypeOfCedar.{type_of_cedar}
use Rattle.smt_values.specs.TypeView.{attributes_in_order, pairs_held, plain_attributes-named, plain_cedar, plain_cedar_attributes, set_with}
use Rattle.smt_values.specs.declared.attributes.AttributeType.{AttributeType}
use Rattle.smt_values.specs.declared.attributes.Attributes.{Attributes}
use Rattle.smt_values.specs.declared.cedar_type.CedarType.{CedarType}
use Rattle.smt_values.specs.PlainValues.{PlainFields, SetValue, values}
use Rattle.smt_values.specs.ValueView.{plain_value_of}
use Rattle.smt_values.specs.declared.value.Value.{Value}
use Rattle.smt_values.specs.Outcomes.{SymbolizeFault, Outcome, ◌>>=◌, converted}
use Rattle.smt_values.specs.TermOfValue.{field_named, term_of_attribute, term_of_value, terms_of_attributes, terms_of_elements}
use Rattle.smt_values.specs.Outcomes.{each}

-- ---- the elements of sets

-- the term of an element of a type
abbrev pub term_of_element : CedarType → Value → Outcome PlainTerm
term_of_element element v = term_of_value (plain_cedar element) (plain_value_of v)

pub each_element : (element : CedarType) (vs : List Value) → terms_of_elements (term_of_value (plain_cedar element)) (values (map plain_value_of vs)) ≡ each (term_of_element element) vs
each_element element [] = refl
each_element element (v ∷ vs) = ap (λ o. term_of_element element v >>= λ t. o >>= λ ts. Ok (t ∷ ts)) (each_element element vs)

-- a set at a set type with this element type
module _ (held : HeldOption (Rc CedarType Global)) (element : Rc CedarType Global) (there : held ≡ Some element) (type : CedarType) (same : type ≡ element.value) (all vs : List Value) (are : vs ≡ all) where
  abbrev stated_of_elements : Outcome (List PlainTerm) → Outcome PlainTerm
  stated_of_elements o = o >>= λ ts. converted (type_of_cedar (plain_cedar type)) >>= λ own. Ok (set_term own ts)

  abbrev elements : Outcome (List PlainTerm)
  elements = terms_of_elements (term_of_value (plain_cedar type)) (values (map plain_value_of vs))

  by_elements : term_of_value (set_with held) (SetValue (values (map plain_value_of all))) ≡ stated_of_elements elements
  by_elements =
      ap (λ o. term_of_value (set_with o) (SetValue (values (map plain_value_of all)))) there
      ∙ ap (λ e. terms_of_elements (term_of_value (plain_cedar e)) (values (map plain_value_of all)) >>= λ ts. converted (type_of_cedar (plain_cedar e)) >>= λ own. Ok (set_term own ts)) (sym same)
      ∙ ap (λ us. stated_of_elements (terms_of_elements (term_of_value (plain_cedar type)) (values (map plain_value_of us)))) (sym are)

  pub element_refused : (fault : SymbolizeFault) → elements ≡ Err fault → term_of_value (set_with held) (SetValue (values (map plain_value_of all))) ≡ Err fault
  element_refused fault h = by_elements ∙ ap stated_of_elements h

  module _ (ts : List PlainTerm) (given : elements ≡ Ok ts) where
    by_type : term_of_value (set_with held) (SetValue (values (map plain_value_of all))) ≡ (converted (type_of_cedar (plain_cedar type)) >>= λ own. Ok (set_term own ts))
    by_type = by_elements ∙ ap stated_of_elements given

    pub type_refused : (fault : SymbolizeFault) → converted (type_of_cedar (plain_cedar type)) ≡ Err fault → term_of_value (set_with held) (SetValue (values (map plain_value_of all))) ≡ Err fault
    type_refused fault h = by_type ∙ ap (λ o. o >>= λ own. Ok (set_term own ts)) h

    pub set_given : (own : PlainType) (t : PlainTerm) → type_of_cedar (plain_cedar type) ≡ Ok own → t ≡ set_term own ts → term_of_value (set_with held) (SetValue (values (map plain_value_of all))) ≡ Ok t
    set_given own t typed is = by_type ∙ ap (λ o. converted o >>= λ own. Ok (set_term own ts)) typed ∙ ap Ok (sym is)

-- ---- the attributes of records

-- the term of an attribute in a record
abbrev pub term_in : PlainFields → RcStr Global → AttributeType → Outcome PlainTerm
term_in fields name type = term_of_attribute (term_of_value (plain_cedar type.attr_type)) (plain_cedar type.attr_type) type.is_required fields (field_named (rc_str_bytes name) fields)

-- the attribute with its term
abbrev pub pair_in : PlainFields → RcStr Global × AttributeType → Outcome (List ℕ × PlainTerm)
pair_in fields p = term_in fields p.0 p.1 >>= λ t. Ok (rc_str_bytes p.0, t)

pub pair_refused : (held : PlainFields) (p : RcStr Global × AttributeType) (fault : SymbolizeFault) → term_in held p.0 p.1 ≡ Err fault → pair_in held p ≡ Err fault
pair_refused held p fault h = ap (λ o. o >>= λ t. Ok (rc_str_bytes p.0, t)) h

pub pair_given : (held : PlainFields) (p : RcStr Global × AttributeType) (name : List ℕ) (t : PlainTerm) → name ≡ rc_str_bytes p.0 → term_in held p.0 p.1 ≡ Ok t → pair_in held p ≡ Ok (name, t)
pair_given held p name t same h = ap (λ o. o >>= λ t. Ok (rc_str_bytes p.0, t)) h ∙ ap (λ n. Ok (n, t)) (sym same)

regrouped : {A B C : Type 0} (o : Outcome A) (f : A → B) (g : B → Outcome C) → (o >>= λ a. g (f a)) ≡ (o >>= λ a. Ok (f a)) >>= g
regrouped (Ok a) f g = refl
regrouped (Err fault) f g = refl

each_in_order : (held : PlainFields) (ps : List (RcStr Global × AttributeType)) → terms_of_attributes (attributes_in_order ps) held ≡ each (pair_in held) ps
each_in_order held [] = refl
each_in_order held (p ∷ ps) =
    ap (λ o. term_in held p.0 p.1 >>= λ t. o >>= λ ts. Ok ((rc_str_bytes p.0, t) ∷ ts)) (each_in_order held ps)
    ∙ regrouped (term_in held p.0 p.1) (λ t. (rc_str_bytes p.0, t)) (λ a. each (pair_in held) ps >>= λ rest. Ok (a ∷ rest))

pub each_attribute : (held : PlainFields) (attrs : Attributes) (all : List (RcStr Global × AttributeType)) → all ≡ pairs_held attrs → terms_of_attributes (plain_cedar_attributes attrs) held ≡ each (pair_in held) all
each_attribute held attrs all e = ap (λ named. terms_of_attributes named held) (plain_attributes-named attrs ∙ ap attributes_in_order (sym e)) ∙ each_in_order held all
