-- The program's types are formed.
use Rattle.std.proofs.Common.{ℕ, List, [], ◌∷◌, IsTrue, refl}
use Rattle.std.specs.Cmp.{first_so, second_so}
use Rattle.std.specs.Cmp.Derive.{both_true}
use Rattle.std.specs.List.{AllByRecursion}
use Rattle.law_terms.specs.Formed.{IsFormedHere, IsFormedType}
use Rattle.law_terms.specs.Parts.{attribute_names}
use Rattle.law_terms.specs.Plain.{PlainType, OptionType, SetType}
use Rattle.law_terms.specs.Reached.{types_within, types_within_attributes}
use Rattle.law_terms.specs.ValueOrder.{ascends, is_below, text_cmp}
use Rattle.law_terms.proofs.Defaults.{all-join}
use Rattle.smt_term.specs.TypeView.{attributes_of, plain_type, plain_types}
use Rattle.smt_term.specs.declared.types.TermType.{TermType, Option', Bitvec, Bool, Entity, Ext, String, Record' as RecordOf', Set' as SetOf', Row_of-TermType, end_of-TermType, more_of-TermType}

-- options and sets of a formed type are formed
pub formed_option : (t : PlainType) → IsFormedType t → IsFormedType (OptionType t)
formed_option t h = all-join IsFormedHere (types_within t) _ h (tt, tt)

pub formed_set : (t : PlainType) → IsFormedType t → IsFormedType (SetType t)
formed_set t h = all-join IsFormedHere (types_within t) _ h (tt, tt)

-- where attributes ascend, those of the types beside them do
below_first : {m : _} (n : List ℕ) (ns : List (List ℕ)) (row : Row_of-TermType m) → IsTrue (is_below text_cmp n ns) → IsTrue (is_below text_cmp n (attribute_names (plain_types ns row)))
unfolding plain_types
below_first n [] row h = refl
below_first n (k ∷ ks) end_of-TermType h = refl
below_first n (k ∷ ks) (more_of-TermType t rest) h = h

attributes_ascend : {m : _} (ns : List (List ℕ)) (row : Row_of-TermType m) → IsTrue (ascends text_cmp ns) → IsTrue (ascends text_cmp (attribute_names (plain_types ns row)))
unfolding plain_types
attributes_ascend [] row h = refl
attributes_ascend (n ∷ ns) end_of-TermType h = refl
attributes_ascend (n ∷ ns) (more_of-TermType t rest) h =
    both_true (below_first n ns rest (first_so (is_below text_cmp n ns) (ascends text_cmp ns) h)) (attributes_ascend ns rest (second_so (is_below text_cmp n ns) (ascends text_cmp ns) h))

mutual
  unfolding plain_type plain_types

  pub formed_type : (t : TermType) → IsFormedType (plain_type t)
  formed_type (Option' p t) = formed_option (plain_type t) (formed_type t)
  formed_type (Bitvec n) = ((n.at_least_one, n.at_most_128), tt)
  formed_type Bool = (tt, tt)
  formed_type (Entity e) = (tt, tt)
  formed_type (Ext k) = (tt, tt)
  formed_type String = (tt, tt)
  formed_type (RecordOf' shape row) = all-join IsFormedHere (types_within_attributes (plain_types (attributes_of shape) row)) _ (formed_types (attributes_of shape) row) (attributes_ascend (attributes_of shape) row shape.ascending, tt)
  formed_type (SetOf' p t) = formed_set (plain_type t) (formed_type t)

  formed_types : {m : _} (ns : List (List ℕ)) (row : Row_of-TermType m) → AllByRecursion IsFormedHere (types_within_attributes (plain_types ns row))
  formed_types [] row = tt
  formed_types (n ∷ ns) end_of-TermType = tt
  formed_types (n ∷ ns) (more_of-TermType t rest) = all-join IsFormedHere (types_within (plain_type t)) (types_within_attributes (plain_types ns rest)) (formed_type t) (formed_types ns rest)
