-- The program's terms are formed.
use Rattle.std.proofs.Common.{ℕ, List, [], ◌∷◌, IsTrue, refl}
use Rattle.std.specs.Cmp.{first_so, second_so}
use Rattle.std.specs.Cmp.Derive.{both_true}
use Rattle.std.specs.List.{AllByRecursion}
use Rattle.std.proofs.lemmas.Str.{IsUtf8-string_bytes}
use Rattle.law_terms.specs.Formed.{IsFormed, IsFormedHere, IsFormedLiteral, IsFormedNode, IsFormedType}
use Rattle.law_terms.specs.Parts.{attribute_names}
use Rattle.law_terms.specs.Plain.{PlainTerm, Application, NoneTerm, LiteralTerm, RecordTerm, SetTerm, SomeTerm, VariableTerm}
use Rattle.smt_term.specs.Program.{TermsAreFormed}
use Rattle.law_terms.specs.Reached.{subterms, subterms_of_all, subterms_of_fields, types_within, types_within_attributes}
use Rattle.law_terms.specs.Types.{field_types, literal_type, type_of}
use Rattle.law_terms.specs.ValueOrder.{ascends, is_below, text_cmp}
use Rattle.smt_term.specs.View.{attributes_of, plain_literal, plain_named, plain_row, plain_term, plain_type}
use Rattle.smt_term.specs.declared.term.Term.{Term, App', None, Prim, Record', Set', Some', Var, Row_of-Term, end_of-Term, more_of-Term}
use Rattle.smt_term.specs.declared.term.TermPrim.{TermPrim}
use Rattle.smt_term.specs.declared.term.TermPrim.TheVariants.{Bitvec as BitsLiteral, Bool as TruthLiteral, Entity as EntityOf, Ext as ValueOf, String as TextLiteral}
use Rattle.smt_term.proofs.ExtensionValues.{formed_value}
use Rattle.smt_term.proofs.FormedTypes.{formed_option, formed_set, formed_type}
use Rattle.law_terms.proofs.Defaults.{all-join}
use Rattle.law_terms.proofs.Soundness.{all-last}

-- a term by itself and its type are formed
abbrev pub IsFormedBoth : PlainTerm → Type 0
IsFormedBoth t = IsFormedNode t × IsFormedType (type_of t)

-- a term is the last of its subterms
own : (t : PlainTerm) → AllByRecursion IsFormedBoth (subterms t) → IsFormedType (type_of t)
own (Application o ts t) h = (all-last IsFormedBoth (subterms_of_all ts) (Application o ts t) h).1
own (NoneTerm t) h = h.0.1
own (LiteralTerm l) h = h.0.1
own (RecordTerm fs) h = (all-last IsFormedBoth (subterms_of_fields fs) (RecordTerm fs) h).1
own (SetTerm t ts) h = (all-last IsFormedBoth (subterms_of_all ts) (SetTerm t ts) h).1
own (SomeTerm t) h = (all-last IsFormedBoth (subterms t) (SomeTerm t) h).1
own (VariableTerm id t) h = h.0.1

pub formed_literal : (l : TermPrim) → IsFormedLiteral (plain_literal l) × IsFormedType (literal_type (plain_literal l))
formed_literal (BitsLiteral b) = (b.below_width, ((b.width.at_least_one, b.width.at_most_128), tt))
formed_literal (TruthLiteral b) = (tt, (tt, tt))
formed_literal (EntityOf e) = (IsUtf8-string_bytes e.id.0.text.value, (tt, tt))
formed_literal (ValueOf x) = (formed_value x, (tt, tt))
formed_literal (TextLiteral s) = (IsUtf8-string_bytes s.text.value, (tt, tt))

-- where attributes ascend, those of the terms beside them do
first_below : {m : _} (n : List ℕ) (ns : List (List ℕ)) (row : Row_of-Term m) → IsTrue (is_below text_cmp n ns) → IsTrue (is_below text_cmp n (attribute_names (field_types (plain_named ns row))))
unfolding plain_named
first_below n [] row h = refl
first_below n (k ∷ ks) end_of-Term h = refl
first_below n (k ∷ ks) (more_of-Term t rest) h = h

fields_ascend : {m : _} (ns : List (List ℕ)) (row : Row_of-Term m) → IsTrue (ascends text_cmp ns) → IsTrue (ascends text_cmp (attribute_names (field_types (plain_named ns row))))
unfolding plain_named
fields_ascend [] row h = refl
fields_ascend (n ∷ ns) end_of-Term h = refl
fields_ascend (n ∷ ns) (more_of-Term t rest) h =
    both_true (first_below n ns rest (first_so (is_below text_cmp n ns) (ascends text_cmp ns) h)) (fields_ascend ns rest (second_so (is_below text_cmp n ns) (ascends text_cmp ns) h))

mutual
  unfolding plain_term plain_row plain_named

  formed_term : (t : Term) → AllByRecursion IsFormedBoth (subterms (plain_term t))
  formed_term (App' op p shape row type) = all-join IsFormedBoth (subterms_of_all (plain_row row)) _ (formed_row row) ((tt, formed_type type), tt)
  formed_term (None type) = ((tt, formed_option (plain_type type) (formed_type type)), tt)
  formed_term (Prim literal) = (formed_literal literal, tt)
  formed_term (Record' shape row) =
      all-join IsFormedBoth (subterms_of_fields (plain_named (attributes_of shape) row)) _ (formed_fields (attributes_of shape) row)
      ((tt, all-join IsFormedHere (types_within_attributes (field_types (plain_named (attributes_of shape) row))) _ (formed_field_types (attributes_of shape) row) (fields_ascend (attributes_of shape) row shape.ascending, tt)), tt)
  formed_term (Set' element p shape row) = all-join IsFormedBoth (subterms_of_all (plain_row row)) _ (formed_row row) ((tt, formed_set (plain_type element) (formed_type element)), tt)
  formed_term (Some' p t) = all-join IsFormedBoth (subterms (plain_term t)) _ (formed_term t) ((tt, formed_option (type_of (plain_term t)) (own (plain_term t) (formed_term t))), tt)
  formed_term (Var v) = ((tt, formed_type v.ty), tt)

  formed_row : {m : _} (row : Row_of-Term m) → AllByRecursion IsFormedBoth (subterms_of_all (plain_row row))
  formed_row end_of-Term = tt
  formed_row (more_of-Term t rest) = all-join IsFormedBoth (subterms (plain_term t)) (subterms_of_all (plain_row rest)) (formed_term t) (formed_row rest)

  formed_fields : {m : _} (ns : List (List ℕ)) (row : Row_of-Term m) → AllByRecursion IsFormedBoth (subterms_of_fields (plain_named ns row))
  formed_fields [] row = tt
  formed_fields (n ∷ ns) end_of-Term = tt
  formed_fields (n ∷ ns) (more_of-Term t rest) = all-join IsFormedBoth (subterms (plain_term t)) (subterms_of_fields (plain_named ns rest)) (formed_term t) (formed_fields ns rest)

  formed_field_types : {m : _} (ns : List (List ℕ)) (row : Row_of-Term m) → AllByRecursion IsFormedHere (types_within_attributes (field_types (plain_named ns row)))
  formed_field_types [] row = tt
  formed_field_types (n ∷ ns) end_of-Term = tt
  formed_field_types (n ∷ ns) (more_of-Term t rest) =
      all-join IsFormedHere (types_within (type_of (plain_term t))) (types_within_attributes (field_types (plain_named ns rest))) (own (plain_term t) (formed_term t)) (formed_field_types ns rest)

nodes : (ts : List PlainTerm) → AllByRecursion IsFormedBoth ts → AllByRecursion IsFormedNode ts
nodes [] h = tt
nodes (t ∷ ts) h = (h.0.0, nodes ts h.1)

types : (ts : List PlainTerm) → AllByRecursion IsFormedBoth ts → AllByRecursion (λ u. IsFormedType (type_of u)) ts
types [] h = tt
types (t ∷ ts) h = (h.0.1, types ts h.1)

-- where each subterm and its type are formed, the term is
pub both_formed : (t : PlainTerm) → AllByRecursion IsFormedBoth (subterms t) → IsFormed t
both_formed t h = record { literals = nodes (subterms t) h; types = types (subterms t) h }

pub terms_are_formed : TermsAreFormed
terms_are_formed t = both_formed (plain_term t) (formed_term t)
