-- The fault of a node is that of its parts, or its own.
use Rattle.std.proofs.Common.{◌≡◌, ◌⊎◌, inl, inr, true, false, List, [], ◌∷◌, ◌++◌, map, subst, refl, sym, ap, ◌∙◌, Option, Some, None}
use Rattle.std.specs.Option.{option_or}
use Rattle.std.specs.Prelude.{is_none, not}
use Rattle.std.proofs.lemmas.Bool.{false≢true}
use Rattle.law_terms.specs.Faults.{Fault, attribute_types_fault, entity_fault, entity_type_fault, fields_fault, operator_fault, record_get_fault, term_fault, terms_fault, type_fault, unless}
use Rattle.law_terms.specs.Plain.{PlainType, OptionType, BitVecType, BoolType, EntityType, ExtensionType, StringType, RecordType, SetType, AttributeTypes, no_attributes, attribute, PlainTerm, PlainTerms, no_terms, one_term, PlainFields, no_fields, one_field, PlainFunction, PlainOp, BvnegoOp, RecordGetOp, UufOp, Application, NoneTerm, LiteralTerm, RecordTerm, SetTerm, SomeTerm, VariableTerm, BitVecLiteral, BoolLiteral, EntityLiteral, ExtensionLiteral, StringLiteral, list_of_terms}
use Rattle.law_terms.specs.Types.{is_bits, type_of, types_of}
use Rattle.law_terms.specs.TypeValues.{Enums, members_of}
use Rattle.law_terms.specs.Nodes.{ApplicationLabel, Meaning, TypeMeaning, FunctionMeaning, TermMeaning}
use Rattle.law_terms.specs.Parts.{field_terms, label_in, parts_in, term_label, types_in}
use Rattle.law_lines.specs.Lines.{application_rendering, least_rendering}
use Rattle.smt_spelling.specs.NodeLines.{meaning_fault, meanings_fault}
use Rattle.smt_spelling.specs.NodeEntries.{Rendered, entry_fault, head_fault, inline_fault, is_built, is_built_op, op_rendering, own_fault, rendering_in, selection_fault, written_parts}
use Rattle.smt_spelling.specs.TextFaults.{pattern_fault}
use Rattle.smt_spelling.proofs.Stated.{built_application, call_or_not, is_call, label_of_application, parts_of_application, rendering_of_application}

or_none : (o : Option Fault) → option_or o None ≡ o
or_none None = refl
or_none (Some f) = refl

or_apart : (a b c : Option Fault) → option_or (option_or a b) c ≡ option_or a (option_or b c)
or_apart None b c = refl
or_apart (Some f) b c = refl

-- one part alone
alone : (a : Option Fault) → a ≡ option_or (option_or a None) None
alone a = sym (or_none (option_or a None) ∙ or_none a)

module _ (enums : Enums) where
  pub terms_in_order : (ts : PlainTerms) → meanings_fault enums (map TermMeaning (list_of_terms ts)) ≡ terms_fault enums ts
  terms_in_order no_terms = refl
  terms_in_order (one_term t ts) = ap (option_or (term_fault enums t)) (terms_in_order ts)

  types_in_order : (x : AttributeTypes) → meanings_fault enums (types_in x) ≡ attribute_types_fault enums x
  types_in_order no_attributes = refl
  types_in_order (attribute a t x) = ap (option_or (type_fault enums t)) (types_in_order x)

  fields_in_order : (x : PlainFields) → meanings_fault enums (field_terms x) ≡ fields_fault enums x
  fields_in_order no_fields = refl
  fields_in_order (one_field a t x) = ap (option_or (term_fault enums t)) (fields_in_order x)

  operator_alone : (o : PlainOp) (ts : PlainTerms) → is_built_op o ≡ true → operator_fault enums o (types_of ts) ≡ option_or (head_fault o ts) (pattern_fault o)
  operator_alone (UufOp f) ts h = absurd (false≢true h)
  operator_alone (RecordGetOp a) ts h = sym (or_none (record_get_fault a (types_of ts)))
  operator_alone o ts h = refl

  -- several, and one behind them
  one_behind : (ms : List Meaning) (m : Meaning) → meanings_fault enums (ms ++ m ∷ []) ≡ option_or (meanings_fault enums ms) (meaning_fault enums m)
  one_behind [] m = or_none (meaning_fault enums m)
  one_behind (n ∷ ms) m = ap (option_or (meaning_fault enums n)) (one_behind ms m) ∙ sym (or_apart (meaning_fault enums n) (meanings_fault enums ms) (meaning_fault enums m))

  -- a call
  call : (f : PlainFunction) (ts : PlainTerms) (t : PlainType)
      → term_fault enums (Application (UufOp f) ts t)
      ≡ option_or (meanings_fault enums (TypeMeaning t ∷ (map TermMeaning (list_of_terms ts) ++ FunctionMeaning f ∷ []))) None
  call f ts t =
      sym (ap (option_or (type_fault enums t)) (one_behind (map TermMeaning (list_of_terms ts)) (FunctionMeaning f) ∙ ap (λ g. option_or g (meaning_fault enums (FunctionMeaning f))) (terms_in_order ts)))
      ∙ sym (or_none _)

  -- what is written by its operator
  entered : (o : PlainOp) (ts : PlainTerms) (t : PlainType) → is_built_op o ≡ true
      → option_or (type_fault enums t) (option_or (terms_fault enums ts) (operator_fault enums o (types_of ts))) ≡ option_or (option_or (type_fault enums t) (meanings_fault enums (map TermMeaning (list_of_terms ts)))) (option_or (head_fault o ts) (pattern_fault o))
  entered o ts t h =
      let own : Option Fault = option_or (head_fault o ts) (pattern_fault o) in
      ap (λ f. option_or (type_fault enums t) (option_or (terms_fault enums ts) f)) (operator_alone o ts h)
      ∙ sym (or_apart (type_fault enums t) (terms_fault enums ts) own)
      ∙ ap (λ f. option_or (option_or (type_fault enums t) f) own) (sym (terms_in_order ts))

  -- the overflow test of a negation, by the type of its operand
  negation : (u : PlainTerm) (t : PlainType) → type_of u ≡ t
      → unless (not (is_bits t)) (option_or None (option_or (terms_fault enums (one_term u no_terms)) None))
      ≡ option_or (meanings_fault enums (written_parts (Rendered (least_rendering t)) (TypeMeaning BoolType ∷ TermMeaning u ∷ []))) (own_fault enums (ApplicationLabel BvnegoOp) (Rendered (least_rendering t)) None)
  negation u (BitVecType w) is = refl
  negation u t is = refl

  application : (o : PlainOp) (ts : PlainTerms) (t : PlainType) → is_built_op o ≡ true
      → term_fault enums (Application o ts t)
      ≡ option_or (meanings_fault enums (written_parts (Rendered (application_rendering o ts t)) (TypeMeaning t ∷ map TermMeaning (list_of_terms ts)))) (own_fault enums (ApplicationLabel o) (Rendered (application_rendering o ts t)) (head_fault o ts))
  application BvnegoOp (one_term u no_terms) BoolType h = negation u (type_of u) refl
  application o ts t h = entered o ts t h

  pub faults : (m : Meaning) → is_built (label_in m) ≡ true → meaning_fault enums m ≡ option_or (meanings_fault enums (written_parts (rendering_in m) (parts_in m))) (own_fault enums (label_in m) (rendering_in m) (selection_fault m))
  faults (TypeMeaning (OptionType t)) h = alone (type_fault enums t)
  faults (TypeMeaning (BitVecType n)) h = refl
  faults (TypeMeaning BoolType) h = refl
  faults (TypeMeaning (EntityType e)) h = refl
  faults (TypeMeaning (ExtensionType k)) h = refl
  faults (TypeMeaning StringType) h = refl
  faults (TypeMeaning (RecordType x)) h = sym (types_in_order x) ∙ sym (or_none _)
  faults (TypeMeaning (SetType t)) h = alone (type_fault enums t)
  faults (FunctionMeaning f) h = ap (option_or (type_fault enums f.argument)) (sym (or_none (type_fault enums f.output))) ∙ sym (or_none _)
  faults (TermMeaning (Application o ts t)) h = go (call_or_not o)
    where
      go : ((f : PlainFunction) × (o ≡ UufOp f)) ⊎ (is_call o ≡ false) → term_fault enums (Application o ts t) ≡ option_or (meanings_fault enums (written_parts (op_rendering o ts t) (parts_in (TermMeaning (Application o ts t))))) (own_fault enums (term_label (Application o ts t)) (op_rendering o ts t) (head_fault o ts))
      go (inl (f, is)) =
          subst (λ (p : PlainOp). term_fault enums (Application p ts t) ≡ option_or (meanings_fault enums (written_parts (op_rendering p ts t) (parts_in (TermMeaning (Application p ts t))))) (own_fault enums (term_label (Application p ts t)) (op_rendering p ts t) (head_fault p ts))) (sym is) (call f ts t)
      go (inr b) =
          application o ts t (built_application o ts t b h)
          ∙ sym (λ i. option_or (meanings_fault enums (written_parts (rendering_of_application o ts t b i) (TypeMeaning t ∷ parts_of_application o ts t b i))) (own_fault enums (label_of_application o ts t b i) (rendering_of_application o ts t b i) (head_fault o ts)))
  faults (TermMeaning (NoneTerm t)) h = alone (type_fault enums t)
  faults (TermMeaning (LiteralTerm (BitVecLiteral w a))) h = refl
  faults (TermMeaning (LiteralTerm (BoolLiteral b))) h = refl
  faults (TermMeaning (LiteralTerm (EntityLiteral e i))) h = ap (λ f. option_or f (entity_fault e i (members_of enums e))) (sym (or_none (entity_type_fault e (members_of enums e))))
  faults (TermMeaning (LiteralTerm (StringLiteral x))) h = sym (or_none _)
  faults (TermMeaning (LiteralTerm (ExtensionLiteral x))) h = refl
  faults (TermMeaning (RecordTerm fs)) h = ap (option_or (type_fault enums (type_of (RecordTerm fs)))) (sym (fields_in_order fs)) ∙ sym (or_none _)
  faults (TermMeaning (SetTerm t ts)) h = ap (option_or (type_fault enums t)) (sym (terms_in_order ts)) ∙ sym (or_none _)
  faults (TermMeaning (SomeTerm t)) h = ap (option_or (type_fault enums (type_of t))) (sym (or_none (term_fault enums t))) ∙ sym (or_none _)
  faults (TermMeaning (VariableTerm id t)) h = alone (type_fault enums t)

  -- a fault of the parts comes first
  pub parts_first : (m : Meaning) → is_built (label_in m) ≡ true → (f : Fault) → meanings_fault enums (written_parts (rendering_in m) (parts_in m)) ≡ Some f → meaning_fault enums m ≡ Some f
  parts_first m b f h = faults m b ∙ ap (λ o. option_or o (own_fault enums (label_in m) (rendering_in m) (selection_fault m))) h

  -- where the parts have no fault: the fault of a text; without it that of a selector; and without that too the one of an entry
  own_first : (m : Meaning) → is_built (label_in m) ≡ true → meanings_fault enums (written_parts (rendering_in m) (parts_in m)) ≡ None → meaning_fault enums m ≡ own_fault enums (label_in m) (rendering_in m) (selection_fault m)
  own_first m b none = faults m b ∙ ap (λ o. option_or o (own_fault enums (label_in m) (rendering_in m) (selection_fault m))) none

  pub inline_first : (m : Meaning) → is_built (label_in m) ≡ true → meanings_fault enums (written_parts (rendering_in m) (parts_in m)) ≡ None → (f : Fault) → inline_fault (label_in m) ≡ Some f → meaning_fault enums m ≡ Some f
  inline_first m b none f h = own_first m b none ∙ ap (λ o. option_or o (option_or (selection_fault m) (entry_fault enums (label_in m) (rendering_in m)))) h

  head_second : (m : Meaning) → is_built (label_in m) ≡ true → meanings_fault enums (written_parts (rendering_in m) (parts_in m)) ≡ None → inline_fault (label_in m) ≡ None → meaning_fault enums m ≡ option_or (selection_fault m) (entry_fault enums (label_in m) (rendering_in m))
  head_second m b none h = own_first m b none ∙ ap (λ o. option_or o (option_or (selection_fault m) (entry_fault enums (label_in m) (rendering_in m)))) h

  pub selection_second : (m : Meaning) → is_built (label_in m) ≡ true → meanings_fault enums (written_parts (rendering_in m) (parts_in m)) ≡ None → inline_fault (label_in m) ≡ None → (f : Fault) → selection_fault m ≡ Some f → meaning_fault enums m ≡ Some f
  selection_second m b none h f k = head_second m b none h ∙ ap (λ o. option_or o (entry_fault enums (label_in m) (rendering_in m))) k

  pub entry_last : (m : Meaning) → is_built (label_in m) ≡ true → meanings_fault enums (written_parts (rendering_in m) (parts_in m)) ≡ None → inline_fault (label_in m) ≡ None → selection_fault m ≡ None → meaning_fault enums m ≡ entry_fault enums (label_in m) (rendering_in m)
  entry_last m b none h k = head_second m b none h ∙ ap (λ o. option_or o (entry_fault enums (label_in m) (rendering_in m))) k

pub none_is : (o : Option Fault) → is_none o ≡ true → o ≡ None
none_is None h = refl
none_is (Some f) h = absurd (false≢true h)
