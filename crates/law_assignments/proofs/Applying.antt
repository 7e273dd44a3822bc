-- Each application to literals, by its operator, evaluates to a literal with its value.
use Rattle.std.proofs.Common.{◌≡◌, ℕ, Bool, true, false, ◌&&◌, cond, List, [], ◌∷◌, refl, ap, ◌∙◌, sym, subst}
use Rattle.std.specs.Prelude.{Option, Some, None, IfSome, is_some}
use Rattle.std.specs.Bool.{then_some}
use Rattle.std.specs.Cmp.{first_so, second_so}
use Rattle.std.specs.Cmp.Derive.{both_true}
use Rattle.std.specs.Option.{option_map_or, unwrap_or}
use Rattle.law_numbers.specs.BitOperators.{BitsOperator}
use Rattle.law_numbers.proofs.BitRanges as ranges
use Rattle.law_assignments.specs.Assignments.{PlainAssignment, function_in, get_in, interpretation, is_of_other_family, selector_in, table_of_literals, value_of_literal}
use Rattle.law_assignments.specs.Covered.{gives_op, is_table_of}
use Rattle.law_assignments.specs.Evaluated.{evaluated_application, evaluated_get}
use Rattle.law_assignments.specs.Sound.{IsSound, IsSoundSelector, IsSoundTable, IsValueTerm}
use Rattle.law_assignments.proofs.Answering.{IsAnswer, entry_answers, far_is_zero, folded_answers, literal_meant, other_selector, other_value}
use Rattle.law_assignments.proofs.FoldedLiterals as literals
use Rattle.law_assignments.proofs.FoldedLiterals.{IsLiteral}
use Rattle.law_assignments.proofs.Given.{function_found, get_found, op_given, selector_found}
use Rattle.law_assignments.proofs.Literals.{of_option, of_two_bits}
use Rattle.law_folding.specs.Applications.{bits_literal, extension_of, option_get_of}
use Rattle.law_folding.specs.FoldBits.{folded_bits, takes_right}
use Rattle.law_folding.specs.FoldExtensions.{folded_extension}
use Rattle.law_folding.specs.FoldFunctions.{entry_at, uuf_of}
use Rattle.law_folding.proofs.BitsStand.{bits_formed}
use Rattle.law_folding.proofs.ConnectivesStand.{argument, chosen_type}
use Rattle.law_folding.proofs.Standing.{last_type}
use Rattle.law_terms.specs.Formed.{IsFormed, IsFormedNode, IsFormedType}
use Rattle.law_terms.specs.Functions.{PlainDefinition}
use Rattle.law_terms.specs.Interpretations.{empty_table, unused_value}
use Rattle.law_terms.specs.Literals.{is_literal, are_literals}
use Rattle.law_terms.specs.Meaning.{meaning}
use Rattle.law_terms.specs.Plain.{IpAddrKind, PlainType, OptionType, BitVecType, BoolType, ExtensionType, SetType, StringType, PlainFunction, ExtensionOp, PlainOp, AndOp, BvnegOp, BvnegoOp, EqOp, ExtOp, IteOp, NotOp, OptionGetOp, OrOp, RecordGetOp, SetInterOp, SetMemberOp, SetSubsetOp, StringLikeOp, UufOp, ZeroExtendOp, BitsOp, TestOp, OverflowOp, IpAddrV4Op, IpAddrV6Op, IpPrefixV4Op, IpPrefixV6Op, PlainTerm, Application, NoneTerm, SomeTerm, terms}
use Rattle.law_terms.specs.Tables.{Interpretation, value_at}
use Rattle.law_terms.specs.Types.{attribute_type, bits_and_bits, extended_type, extension_signature, inner_type, is_bits, is_set, is_type, result_type, type_eq, type_of, types_of}
use Rattle.law_terms.specs.TypeValues.{Enums}
use Rattle.law_terms.specs.Typing.{typed, typed_all}
use Rattle.law_terms.specs.Values.{BitVecValue}
use Rattle.law_terms.proofs.Soundness.{is_type-some}
use Rattle.law_terms.proofs.TypeOrder.{eq_same}

-- an operator gives bits only to bits
extends_bits : (k : ℕ) (t ty : PlainType) → is_type (extended_type k t) ty ≡ true → is_bits t ≡ true
extends_bits k (BitVecType n) ty h = refl
extends_bits k t ty h = cc

-- arguments of applications
argument_formed : (o : PlainOp) (t : PlainTerm) (ty : PlainType) → IsFormed (Application o (terms (t ∷ [])) ty) → IsFormed t
argument_formed o t ty f = record { literals = argument IsFormedNode o t ty f.literals; types = argument (λ w. IsFormedType (type_of w)) o t ty f.types }

module _ (enums : Enums) (a : PlainAssignment) (s : IsSound enums a) where
  abbrev I : Interpretation
  I = interpretation a

  abbrev Answered : PlainOp → List PlainTerm → PlainType → Type 0
  Answered o ts ty = IsAnswer I (Application o (terms ts) ty) (evaluated_application a o ts ty)

  -- ---- functions

  function_answers : (f : PlainFunction) (t : PlainTerm) (ty : PlainType) → IsLiteral t → typed t ≡ true → IsFormed t → type_of t ≡ f.argument → f.output ≡ ty → gives_op a (UufOp f) ty ≡ true → Answered (UufOp f) (t ∷ []) ty
  function_answers f t ty h y w p q g = by (function_in a f) refl (function_found enums a s f) g
    where
      by : (o : Option PlainDefinition) → function_in a f ≡ o → IfSome o (IsSoundTable enums) → option_map_or (is_table_of f) o false ≡ true → IsAnswer I (Application (UufOp f) (terms (t ∷ [])) ty) (option_map_or (λ d. entry_at d t) o (uuf_of f t))
      by (Some d) e k n =
          let u : d.argument ≡ f.argument = eq_same d.argument f.argument (first_so (type_eq d.argument f.argument) (type_eq d.output f.output) n) in
          let v : d.output ≡ f.output = eq_same d.output f.output (second_so (type_eq d.argument f.argument) (type_eq d.output f.output) n) in
          entry_answers enums I d t (Application (UufOp f) (terms (t ∷ [])) ty) k h (record { parts = y; type = p ∙ sym u }) w (v ∙ q) (ap (λ o. value_at (option_map_or table_of_literals o empty_table) (meaning I t)) e)
      by None e k n = cc

  -- ---- `option.get`

  none_answers : (ty : PlainType) → gives_op a OptionGetOp ty ≡ true → IsAnswer I (Application OptionGetOp (terms (NoneTerm ty ∷ [])) ty) (evaluated_get a (NoneTerm ty))
  none_answers ty g = by (get_in a ty) refl (get_found enums a s ty) g
    where
      by : (o : Option PlainTerm) → get_in a ty ≡ o → IfSome o (IsValueTerm enums ty) → is_some o ≡ true → IsAnswer I (Application OptionGetOp (terms (NoneTerm ty ∷ [])) ty) (unwrap_or o (option_get_of (NoneTerm ty)))
      by (Some v) e k n = record {
        literal = k.literal;
        parts = k.type.parts;
        type = k.type.type;
        formed = k.formed;
        value = λ J. literal_meant J v k.literal k.type.parts ∙ sym (ap (λ o. option_map_or value_of_literal o unused_value) e);
      }
      by None e k n = cc

  inner_or : PlainType → PlainType → PlainType
  inner_or t (OptionType u) = u
  inner_or t u = t

  get_answers : (t : PlainTerm) (ty : PlainType) → IsLiteral t → inner_type (type_of t) ≡ Some ty → typed (Application OptionGetOp (terms (t ∷ [])) ty) ≡ true → IsFormed (Application OptionGetOp (terms (t ∷ [])) ty) → gives_op a OptionGetOp ty ≡ true → Answered OptionGetOp (t ∷ []) ty
  unfolding inner_or
  get_answers t ty h e y w g =
      of_option (λ v. typed (Application OptionGetOp (terms (v ∷ [])) ty) ≡ true → IsFormed (Application OptionGetOp (terms (v ∷ [])) ty) → Answered OptionGetOp (v ∷ []) ty) ty
      (λ u p y w. subst (λ x. Answered OptionGetOp (NoneTerm x ∷ []) ty) (sym (ap (inner_or u) p)) (none_answers ty g))
      (λ u h y w. folded_answers enums I OptionGetOp (SomeTerm u ∷ []) ty (both_true h refl) y w (op_given enums a s OptionGetOp ty g) h) t h e y w

  -- ---- bits

  bits_answer : (o : BitsOperator) (n x y : ℕ) (ty : PlainType) → BitVecType n ≡ ty → typed (Application (BitsOp o) (terms (bits_literal n x ∷ bits_literal n y ∷ [])) ty) ≡ true → IsFormed (Application (BitsOp o) (terms (bits_literal n x ∷ bits_literal n y ∷ [])) ty) → (b : Bool) → takes_right o y ≡ b
      → IsAnswer I (Application (BitsOp o) (terms (bits_literal n x ∷ bits_literal n y ∷ [])) ty) (cond b (folded_bits o (bits_literal n x) (bits_literal n y)) (bits_literal n 0))
  bits_answer o n x y ty p h w true e = folded_answers enums I (BitsOp o) (bits_literal n x ∷ bits_literal n y ∷ []) ty refl h w tt (literals.bits_computed o n x y e)
  bits_answer o n x y ty p h w false e =
      let k : IsFormedType (BitVecType n) = subst IsFormedType (sym p) (last_type (Application (BitsOp o) (terms (bits_literal n x ∷ bits_literal n y ∷ [])) ty) w) in
      record { literal = refl; parts = refl; type = p; formed = bits_formed n 0 (ranges.positive n) k; value = λ J. ap (BitVecValue n) (far_is_zero o n x y k.0.1 e) }

  two_bits_answer : (o : BitsOperator) (t u : PlainTerm) (ty : PlainType) → IsLiteral t → IsLiteral u → bits_and_bits (type_of t) (type_of u) ≡ true → type_of t ≡ ty → typed (Application (BitsOp o) (terms (t ∷ u ∷ [])) ty) ≡ true → IsFormed (Application (BitsOp o) (terms (t ∷ u ∷ [])) ty) → Answered (BitsOp o) (t ∷ u ∷ []) ty
  two_bits_answer o t u ty h k e p y w =
      of_two_bits (λ v z. type_of v ≡ ty → typed (Application (BitsOp o) (terms (v ∷ z ∷ [])) ty) ≡ true → IsFormed (Application (BitsOp o) (terms (v ∷ z ∷ [])) ty) → Answered (BitsOp o) (v ∷ z ∷ []) ty)
      (λ n i j p y w. bits_answer o n i j ty p y w (takes_right o j) refl) t u h k e p y w

  -- ---- operators of the extension types

  selector_answers : (o : ExtensionOp) (t : PlainTerm) (ty : PlainType) → IsLiteral t → typed t ≡ true → IsFormed t → type_of t ≡ (extension_signature o).0 → (extension_signature o).1 ≡ ty → is_of_other_family o t ≡ true → gives_op a (ExtOp o) ty ≡ true
      → IsAnswer I (Application (ExtOp o) (terms (t ∷ [])) ty) (option_map_or (λ d. entry_at d t) (selector_in a o) (extension_of o t))
  selector_answers o t ty h y w p q n g = by (selector_in a o) refl (selector_found enums a s o) (subst (λ x. option_map_or (λ z. is_some (selector_in a z)) x true ≡ true) (other_selector o t n) g)
    where
      address : (o : ExtensionOp) (t : PlainTerm) → is_of_other_family o t ≡ true → ExtensionType IpAddrKind ≡ (extension_signature o).0
      address IpAddrV4Op t n = refl
      address IpAddrV6Op t n = refl
      address IpPrefixV4Op t n = refl
      address IpPrefixV6Op t n = refl
      address o t n = cc

      by : (x : Option PlainDefinition) → selector_in a o ≡ x → IfSome x (IsSoundSelector enums o) → is_some x ≡ true → IsAnswer I (Application (ExtOp o) (terms (t ∷ [])) ty) (option_map_or (λ d. entry_at d t) x (extension_of o t))
      by (Some d) e k m =
          entry_answers enums I d t (Application (ExtOp o) (terms (t ∷ [])) ty) k.table h (record { parts = y; type = p ∙ (sym (address o t n) ∙ sym k.argument) }) w (k.output ∙ q)
          (other_value I o t n ∙ ap (λ x. value_at (option_map_or table_of_literals x empty_table) (meaning I t)) e)
      by None e k m = cc

  extension_answers : (o : ExtensionOp) (t : PlainTerm) (ty : PlainType) → IsLiteral t → type_of t ≡ (extension_signature o).0 → (extension_signature o).1 ≡ ty → typed (Application (ExtOp o) (terms (t ∷ [])) ty) ≡ true → IsFormed (Application (ExtOp o) (terms (t ∷ [])) ty) → gives_op a (ExtOp o) ty ≡ true → (b : Bool) → is_of_other_family o t ≡ b
      → IsAnswer I (Application (ExtOp o) (terms (t ∷ [])) ty) (cond b (option_map_or (λ d. entry_at d t) (selector_in a o) (extension_of o t)) (folded_extension o t))
  extension_answers o t ty h p q y w g true e =
      selector_answers o t ty h (first_so (typed t) true (first_so (typed_all (terms (t ∷ []))) (is_type (result_type (ExtOp o) (types_of (terms (t ∷ [])))) ty) y)) (argument_formed (ExtOp o) t ty w) p q e g
  extension_answers o t ty h p q y w g false e = folded_answers enums I (ExtOp o) (t ∷ []) ty (both_true h refl) y w (op_given enums a s (ExtOp o) ty g) (literals.extension_is_literal o t h p e)

  -- ---- each operator

  one : (t : PlainTerm) → are_literals (terms (t ∷ [])) ≡ true → IsLiteral t
  one t k = first_so (is_literal t) true k

  two : (t u : PlainTerm) → are_literals (terms (t ∷ u ∷ [])) ≡ true → IsLiteral t × IsLiteral u
  two t u k = (first_so (is_literal t) (is_literal u && true) k, one u (second_so (is_literal t) (is_literal u && true) k))

  -- the condition on the types of the arguments, and the result
  both_boolean : (t u : PlainTerm) (ty : PlainType) → is_type (then_some (type_eq (type_of t) BoolType && type_eq (type_of u) BoolType) BoolType) ty ≡ true → (type_of t ≡ BoolType) × (type_of u ≡ BoolType)
  both_boolean t u ty r =
      let b = (chosen_type (type_eq (type_of t) BoolType && type_eq (type_of u) BoolType) BoolType ty r).0 in
      (eq_same (type_of t) BoolType (first_so (type_eq (type_of t) BoolType) (type_eq (type_of u) BoolType) b), eq_same (type_of u) BoolType (second_so (type_eq (type_of t) BoolType) (type_eq (type_of u) BoolType) b))

  both_sets : (t u : PlainTerm) (v ty : PlainType) → is_type (then_some (is_set (type_of t) && type_eq (type_of t) (type_of u)) v) ty ≡ true → (is_set (type_of t) ≡ true) × (is_set (type_of u) ≡ true)
  both_sets t u v ty r =
      let b = (chosen_type (is_set (type_of t) && type_eq (type_of t) (type_of u)) v ty r).0 in
      let c : is_set (type_of t) ≡ true = first_so (is_set (type_of t)) (type_eq (type_of t) (type_of u)) b in
      (c, ap is_set (sym (eq_same (type_of t) (type_of u) (second_so (is_set (type_of t)) (type_eq (type_of t) (type_of u)) b))) ∙ c)

  by_type : (o : PlainOp) (ts : List PlainTerm) (ty : PlainType) → is_type (result_type o (types_of (terms ts))) ty ≡ true → are_literals (terms ts) ≡ true → typed (Application o (terms ts) ty) ≡ true → IsFormed (Application o (terms ts) ty) → gives_op a o ty ≡ true → Answered o ts ty
  by_type NotOp (t ∷ []) ty r k h w g =
      folded_answers enums I NotOp (t ∷ []) ty k h w tt (literals.not_literal t (one t k) (eq_same (type_of t) BoolType (chosen_type (type_eq (type_of t) BoolType) BoolType ty r).0))
  by_type AndOp (t ∷ u ∷ []) ty r k h w g = let l = two t u k in let b = both_boolean t u ty r in folded_answers enums I AndOp (t ∷ u ∷ []) ty k h w tt (literals.and_literal t u l.0 l.1 b.0 b.1)
  by_type OrOp (t ∷ u ∷ []) ty r k h w g = let l = two t u k in let b = both_boolean t u ty r in folded_answers enums I OrOp (t ∷ u ∷ []) ty k h w tt (literals.or_literal t u l.0 l.1 b.0 b.1)
  by_type EqOp (t ∷ u ∷ []) ty r k h w g = let l = two t u k in folded_answers enums I EqOp (t ∷ u ∷ []) ty k h w tt (literals.eq_literal t u l.0 l.1)
  by_type IteOp (v ∷ t ∷ u ∷ []) ty r k h w g =
      let l = two t u (second_so (is_literal v) (are_literals (terms (t ∷ u ∷ []))) k) in
      let b = (chosen_type (type_eq (type_of v) BoolType && type_eq (type_of t) (type_of u)) (type_of t) ty r).0 in
      folded_answers enums I IteOp (v ∷ t ∷ u ∷ []) ty k h w tt (literals.ite_literal v t u (first_so (is_literal v) (are_literals (terms (t ∷ u ∷ []))) k) l.0 l.1 (eq_same (type_of v) BoolType (first_so (type_eq (type_of v) BoolType) (type_eq (type_of t) (type_of u)) b)))
  by_type (UufOp f) (t ∷ []) ty r k h w g =
      let c : (type_eq (type_of t) f.argument ≡ true) × (f.output ≡ ty) = chosen_type (type_eq (type_of t) f.argument) f.output ty r in
      function_answers f t ty (one t k) (first_so (typed t) true (first_so (typed_all (terms (t ∷ []))) (is_type (result_type (UufOp f) (types_of (terms (t ∷ [])))) ty) h)) (argument_formed (UufOp f) t ty w) (eq_same (type_of t) f.argument c.0) c.1 g
  by_type BvnegOp (t ∷ []) ty r k h w g = folded_answers enums I BvnegOp (t ∷ []) ty k h w tt (literals.bvneg_literal t (one t k) (chosen_type (is_bits (type_of t)) (type_of t) ty r).0)
  by_type (BitsOp o) (t ∷ u ∷ []) ty r k h w g =
      let l = two t u k in
      let c : (bits_and_bits (type_of t) (type_of u) ≡ true) × (type_of t ≡ ty) = chosen_type (bits_and_bits (type_of t) (type_of u)) (type_of t) ty r in
      two_bits_answer o t u ty l.0 l.1 c.0 c.1 h w
  by_type (TestOp o) (t ∷ u ∷ []) ty r k h w g = let l = two t u k in folded_answers enums I (TestOp o) (t ∷ u ∷ []) ty k h w tt (literals.test_literal o t u l.0 l.1 (chosen_type (bits_and_bits (type_of t) (type_of u)) BoolType ty r).0)
  by_type (OverflowOp o) (t ∷ u ∷ []) ty r k h w g = let l = two t u k in folded_answers enums I (OverflowOp o) (t ∷ u ∷ []) ty k h w tt (literals.overflow_literal o t u l.0 l.1 (chosen_type (bits_and_bits (type_of t) (type_of u)) BoolType ty r).0)
  by_type BvnegoOp (t ∷ []) ty r k h w g = folded_answers enums I BvnegoOp (t ∷ []) ty k h w tt (literals.bvnego_literal t (one t k) (chosen_type (is_bits (type_of t)) BoolType ty r).0)
  by_type (ZeroExtendOp n) (t ∷ []) ty r k h w g = folded_answers enums I (ZeroExtendOp n) (t ∷ []) ty k h w tt (literals.zero_extend_literal n t (one t k) (extends_bits n (type_of t) ty r))
  by_type SetMemberOp (t ∷ u ∷ []) ty r k h w g =
      let l = two t u k in
      folded_answers enums I SetMemberOp (t ∷ u ∷ []) ty k h w tt (literals.set_member_literal t u l.0 l.1 (ap is_set (eq_same (type_of u) (SetType (type_of t)) (chosen_type (type_eq (type_of u) (SetType (type_of t))) BoolType ty r).0)))
  by_type SetSubsetOp (t ∷ u ∷ []) ty r k h w g = let l = two t u k in let b = both_sets t u BoolType ty r in folded_answers enums I SetSubsetOp (t ∷ u ∷ []) ty k h w tt (literals.set_subset_literal t u l.0 l.1 b.0 b.1)
  by_type SetInterOp (t ∷ u ∷ []) ty r k h w g = let l = two t u k in let b = both_sets t u (type_of t) ty r in folded_answers enums I SetInterOp (t ∷ u ∷ []) ty k h w tt (literals.set_inter_literal t u l.0 l.1 b.0 b.1)
  by_type OptionGetOp (t ∷ []) ty r k h w g = get_answers t ty (one t k) (is_type-some (inner_type (type_of t)) ty r) h w g
  by_type (RecordGetOp x) (t ∷ []) ty r k h w g = folded_answers enums I (RecordGetOp x) (t ∷ []) ty k h w tt (literals.record_get_literal x ty t (one t k) (is_type-some (attribute_type x (type_of t)) ty r))
  by_type (StringLikeOp p) (t ∷ []) ty r k h w g =
      folded_answers enums I (StringLikeOp p) (t ∷ []) ty k h w tt (literals.string_like_literal p t (one t k) (eq_same (type_of t) StringType (chosen_type (type_eq (type_of t) StringType) BoolType ty r).0))
  by_type (ExtOp o) (t ∷ []) ty r k h w g =
      let c : (type_eq (type_of t) (extension_signature o).0 ≡ true) × ((extension_signature o).1 ≡ ty) = chosen_type (type_eq (type_of t) (extension_signature o).0) (extension_signature o).1 ty r in
      extension_answers o t ty (one t k) (eq_same (type_of t) (extension_signature o).0 c.0) c.1 h w g (is_of_other_family o t) refl
  by_type o ts ty r k h w g = cc

  pub application_answers : (o : PlainOp) (ts : List PlainTerm) (ty : PlainType) → are_literals (terms ts) ≡ true → typed (Application o (terms ts) ty) ≡ true → IsFormed (Application o (terms ts) ty) → gives_op a o ty ≡ true → Answered o ts ty
  application_answers o ts ty k h w g = by_type o ts ty (second_so (typed_all (terms ts)) (is_type (result_type o (types_of (terms ts))) ty) h) k h w g
