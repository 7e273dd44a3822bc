-- Two terms of which one has literals where the other has terms with their values: both are typed and formed, and both have one
-- value in an interpretation. Operators keep this.
use Rattle.std.proofs.Common.{◌≡◌, ℕ, ◌+◌, true, List, [], ◌∷◌, refl, ap, ◌∙◌, sym, subst}
use Rattle.std.specs.Prelude.{nat_le, Some, None, ⊤}
use Rattle.std.specs.Bool.{then_some}
use Rattle.std.specs.Cmp.Derive.{both_true}
use Rattle.std.specs.List.{AllByRecursion}
use Rattle.law_numbers.specs.BitOperators.{BitsOperator, OverflowOperator, TestOperator}
use Rattle.law_folding.specs.Applications.{and_of, bits_of_two, eq_of, extension_of, ite_of, not_of, option_get_of, or_of, test_of_two, type_inside, wider_type, zero_extend_of}
use Rattle.law_folding.specs.Builder.{applied}
use Rattle.law_folding.specs.Composites.{is_none}
use Rattle.law_folding.proofs.Standing.{Given, last_type}
use Rattle.law_terms.specs.Formed.{IsFormed, IsFormedHere, IsFormedLiteral, IsFormedNode, IsFormedType}
use Rattle.law_terms.specs.Interpretations.{IsGiven}
use Rattle.law_terms.specs.Meaning.{meaning, meanings}
use Rattle.law_terms.specs.Operators.{apply}
use Rattle.law_terms.specs.Plain.{AndOp, Application, BitVecType, BitsOp, BoolType, EqOp, ExtOp, ExtensionOp, IteOp, LiteralTerm, NoneTerm, NotOp, OptionGetOp, OptionType, OrOp, OverflowOp, PlainLiteral, PlainOp, PlainTerm, PlainType, SomeTerm, TestOp, ZeroExtendOp, terms}
use Rattle.law_terms.specs.Reached.{subterms, subterms_of_all, types_within}
use Rattle.law_terms.specs.Tables.{Interpretation}
use Rattle.law_terms.specs.Types.{extension_signature, inner_type, is_type, literal_type, result_type, type_eq, type_of, types_of}
use Rattle.law_terms.specs.Typing.{typed, typed_all}
use Rattle.law_terms.specs.TypeValues.{Enums}
use Rattle.law_terms.specs.Values.{SomeValue}
use Rattle.law_terms.proofs.Defaults.{all-join}
use Rattle.law_terms.proofs.Soundness.{all-back, all-front, all-last}
use Rattle.law_terms.proofs.TermTotal.{types_decided}

-- the first has literals where the second has terms
pub record Alike (enums : Enums) (I : Interpretation) (ty : PlainType) (u t : PlainTerm) : Type 0 where
  pub typed_first : typed u ≡ true
  pub typed_second : typed t ≡ true
  pub type_first : type_of u ≡ ty
  pub type_second : type_of t ≡ ty
  pub formed_first : IsFormed u
  pub formed_second : IsFormed t
  pub given : Given enums I t → Given enums I u
  pub value : meaning I u ≡ meaning I t

same : (ty : PlainType) → type_eq ty ty ≡ true
same ty = (types_decided ty ty).1 refl

option_type : (ty : PlainType) → IsFormedType ty → IsFormedType (OptionType ty)
option_type ty h = all-join IsFormedHere (types_within ty) (OptionType ty ∷ []) h (tt, tt)

abbrev HasFormedType : PlainTerm → Type 0
HasFormedType t = IsFormedType (type_of t)

-- an application of formed terms
pub formed_of : (o : PlainOp) (ts : List PlainTerm) (ty : PlainType) → IsFormedType ty → AllByRecursion IsFormedNode (subterms_of_all (terms ts)) → AllByRecursion HasFormedType (subterms_of_all (terms ts)) → IsFormed (Application o (terms ts) ty)
formed_of o ts ty f l h = record {
  literals = all-join IsFormedNode (subterms_of_all (terms ts)) (Application o (terms ts) ty ∷ []) l (tt, tt);
  types = all-join HasFormedType (subterms_of_all (terms ts)) (Application o (terms ts) ty ∷ []) h (f, tt);
}

module _ (enums : Enums) (I : Interpretation) where
  abbrev AllAlike : List PlainType → List PlainTerm → List PlainTerm → Type 0
  AllAlike [] [] [] = ⊤
  AllAlike (y ∷ ys) (u ∷ us) (t ∷ ts) = Alike enums I y u t × AllAlike ys us ts
  AllAlike ys us ts = ⊥

  -- what lists of such terms have together
  record Together (ys : List PlainType) (us ts : List PlainTerm) : Type 0 where
    typed_first : typed_all (terms us) ≡ true
    typed_second : typed_all (terms ts) ≡ true
    types_first : types_of (terms us) ≡ ys
    types_second : types_of (terms ts) ≡ ys
    literals_first : AllByRecursion IsFormedNode (subterms_of_all (terms us))
    literals_second : AllByRecursion IsFormedNode (subterms_of_all (terms ts))
    formed_first : AllByRecursion HasFormedType (subterms_of_all (terms us))
    formed_second : AllByRecursion HasFormedType (subterms_of_all (terms ts))
    given : AllByRecursion (IsGiven enums I) (subterms_of_all (terms ts)) → AllByRecursion (IsGiven enums I) (subterms_of_all (terms us))
    values : meanings I (terms us) ≡ meanings I (terms ts)

  together : (ys : List PlainType) (us ts : List PlainTerm) → AllAlike ys us ts → Together ys us ts
  together [] [] [] h = record { typed_first = refl; typed_second = refl; types_first = refl; types_second = refl; literals_first = tt; literals_second = tt; formed_first = tt; formed_second = tt; given = λ g. g; values = refl }
  together (y ∷ ys) (u ∷ us) (t ∷ ts) (a, h) =
      let r : Together ys us ts = together ys us ts h in
      record {
        typed_first = both_true a.typed_first r.typed_first;
        typed_second = both_true a.typed_second r.typed_second;
        types_first = (let p = a.type_first in let q = r.types_first in λ i. p i ∷ q i);
        types_second = (let p = a.type_second in let q = r.types_second in λ i. p i ∷ q i);
        literals_first = all-join IsFormedNode (subterms u) (subterms_of_all (terms us)) a.formed_first.literals r.literals_first;
        literals_second = all-join IsFormedNode (subterms t) (subterms_of_all (terms ts)) a.formed_second.literals r.literals_second;
        formed_first = all-join HasFormedType (subterms u) (subterms_of_all (terms us)) a.formed_first.types r.formed_first;
        formed_second = all-join HasFormedType (subterms t) (subterms_of_all (terms ts)) a.formed_second.types r.formed_second;
        given = λ g. all-join (IsGiven enums I) (subterms u) (subterms_of_all (terms us)) (a.given (all-front (IsGiven enums I) (subterms t) (subterms_of_all (terms ts)) g)) (r.given (all-back (IsGiven enums I) (subterms t) (subterms_of_all (terms ts)) g));
        values = (let p = a.value in let q = r.values in λ i. p i ∷ q i);
      }
  together [] [] (t ∷ ts) h = elim h [ ]
  together [] (u ∷ us) ts h = elim h [ ]
  together (y ∷ ys) [] ts h = elim h [ ]
  together (y ∷ ys) (u ∷ us) [] h = elim h [ ]

  pub typed_at : (o : PlainOp) (ys : List PlainType) (ts : List PlainTerm) (ty : PlainType) → typed_all (terms ts) ≡ true → types_of (terms ts) ≡ ys → result_type o ys ≡ Some ty → typed (Application o (terms ts) ty) ≡ true
  typed_at o ys ts ty h e r = both_true h (ap (λ l. is_type (result_type o l) ty) e ∙ ap (λ x. is_type x ty) r ∙ same ty)

  application : (o : PlainOp) (ys : List PlainType) (us ts : List PlainTerm) (ty : PlainType) → AllAlike ys us ts → result_type o ys ≡ Some ty → IsFormedType ty → Alike enums I ty (Application o (terms us) ty) (Application o (terms ts) ty)
  application o ys us ts ty h e f =
      let r : Together ys us ts = together ys us ts h in
      record {
        typed_first = typed_at o ys us ty r.typed_first r.types_first e;
        typed_second = typed_at o ys ts ty r.typed_second r.types_second e;
        type_first = refl;
        type_second = refl;
        formed_first = formed_of o us ty f r.literals_first r.formed_first;
        formed_second = formed_of o ts ty f r.literals_second r.formed_second;
        given = λ g. all-join (IsGiven enums I) (subterms_of_all (terms us)) (Application o (terms us) ty ∷ []) (r.given (all-front (IsGiven enums I) (subterms_of_all (terms ts)) (Application o (terms ts) ty ∷ []) g)) (all-last (IsGiven enums I) (subterms_of_all (terms ts)) (Application o (terms ts) ty) g, tt);
        value = ap (apply I o ty) r.values;
      }

  -- an application whose type goes by its arguments
  application_at : (o : PlainOp) (ys : List PlainType) (us ts : List PlainTerm) (a b ty : PlainType) → a ≡ ty → b ≡ ty → AllAlike ys us ts → result_type o ys ≡ Some ty → IsFormedType ty → Alike enums I ty (Application o (terms us) a) (Application o (terms ts) b)
  application_at o ys us ts a b ty p q h e f =
      subst (λ (x : PlainType). Alike enums I ty (Application o (terms us) x) (Application o (terms ts) b)) (sym p)
      (subst (λ (x : PlainType). Alike enums I ty (Application o (terms us) ty) (Application o (terms ts) x)) (sym q) (application o ys us ts ty h e f))

  -- the type of such terms is formed
  pub formed_type : (ty : PlainType) (u t : PlainTerm) → Alike enums I ty u t → IsFormedType ty
  formed_type ty u t a = subst IsFormedType a.type_first (last_type u a.formed_first)

  -- ---- literals, `some` and none

  pub literal : (l : PlainLiteral) → IsFormedLiteral l → IsFormedType (literal_type l) → Alike enums I (literal_type l) (LiteralTerm l) (LiteralTerm l)
  literal l h f = record { typed_first = refl; typed_second = refl; type_first = refl; type_second = refl; formed_first = record { literals = (h, tt); types = (f, tt) }; formed_second = record { literals = (h, tt); types = (f, tt) }; given = λ g. g; value = refl }

  pub none : (ty : PlainType) → IsFormedType ty → Alike enums I (OptionType ty) (NoneTerm ty) (NoneTerm ty)
  none ty f =
      let g : IsFormed (NoneTerm ty) = record { literals = (tt, tt); types = (option_type ty f, tt) } in
      record { typed_first = refl; typed_second = refl; type_first = refl; type_second = refl; formed_first = g; formed_second = g; given = λ g. g; value = refl }

  some_formed : (ty : PlainType) (t : PlainTerm) → type_of t ≡ ty → IsFormedType ty → IsFormed t → IsFormed (SomeTerm t)
  some_formed ty t e f h = record {
    literals = all-join IsFormedNode (subterms t) (SomeTerm t ∷ []) h.literals (tt, tt);
    types = all-join HasFormedType (subterms t) (SomeTerm t ∷ []) h.types (option_type (type_of t) (subst IsFormedType (sym e) f), tt);
  }

  pub some : {ty : PlainType} {u t : PlainTerm} → Alike enums I ty u t → Alike enums I (OptionType ty) (SomeTerm u) (SomeTerm t)
  some {ty} {u} {t} a = record {
    typed_first = a.typed_first;
    typed_second = a.typed_second;
    type_first = ap OptionType a.type_first;
    type_second = ap OptionType a.type_second;
    formed_first = some_formed ty u a.type_first (formed_type ty u t a) a.formed_first;
    formed_second = some_formed ty t a.type_second (formed_type ty u t a) a.formed_second;
    given = λ g. all-join (IsGiven enums I) (subterms u) (SomeTerm u ∷ []) (a.given (all-front (IsGiven enums I) (subterms t) (SomeTerm t ∷ []) g)) (tt, tt);
    value = ap SomeValue a.value;
  }

  -- ---- operators

  bool_formed : IsFormedType BoolType
  bool_formed = (tt, tt)

  pub not_alike : {u t : PlainTerm} → Alike enums I BoolType u t → Alike enums I BoolType (not_of u) (not_of t)
  not_alike a = application NotOp (BoolType ∷ []) (_ ∷ []) (_ ∷ []) BoolType (a, tt) refl bool_formed

  pub and_alike : {u t v w : PlainTerm} → Alike enums I BoolType u t → Alike enums I BoolType v w → Alike enums I BoolType (and_of u v) (and_of t w)
  and_alike a b = application AndOp (BoolType ∷ BoolType ∷ []) (_ ∷ _ ∷ []) (_ ∷ _ ∷ []) BoolType (a, (b, tt)) refl bool_formed

  pub or_alike : {u t v w : PlainTerm} → Alike enums I BoolType u t → Alike enums I BoolType v w → Alike enums I BoolType (or_of u v) (or_of t w)
  or_alike a b = application OrOp (BoolType ∷ BoolType ∷ []) (_ ∷ _ ∷ []) (_ ∷ _ ∷ []) BoolType (a, (b, tt)) refl bool_formed

  pub eq_alike : {ty : PlainType} {u t v w : PlainTerm} → Alike enums I ty u t → Alike enums I ty v w → Alike enums I BoolType (eq_of u v) (eq_of t w)
  eq_alike {ty} a b = application EqOp (ty ∷ ty ∷ []) (_ ∷ _ ∷ []) (_ ∷ _ ∷ []) BoolType (a, (b, tt)) (ap (λ x. then_some x BoolType) (same ty)) bool_formed

  pub ite_alike : {ty : PlainType} {g h u t v w : PlainTerm} → Alike enums I BoolType g h → Alike enums I ty u t → Alike enums I ty v w → Alike enums I ty (ite_of g u v) (ite_of h t w)
  ite_alike {ty} {g} {h} {u} {t} {v} {w} a b c =
      application_at IteOp (BoolType ∷ ty ∷ ty ∷ []) (g ∷ u ∷ v ∷ []) (h ∷ t ∷ w ∷ []) (type_of u) (type_of t) ty b.type_first b.type_second (a, (b, (c, tt))) (ap (λ x. then_some x ty) (same ty)) (formed_type ty u t b)

  pub bits_alike : (o : BitsOperator) {n : ℕ} {u t v w : PlainTerm} → Alike enums I (BitVecType n) u t → Alike enums I (BitVecType n) v w → Alike enums I (BitVecType n) (bits_of_two (BitsOp o) u v) (bits_of_two (BitsOp o) t w)
  bits_alike o {n} {u} {t} {v} {w} a b =
      application_at (BitsOp o) (BitVecType n ∷ BitVecType n ∷ []) (u ∷ v ∷ []) (t ∷ w ∷ []) (type_of u) (type_of t) (BitVecType n) a.type_first a.type_second (a, (b, tt)) (ap (λ x. then_some x (BitVecType n)) (same (BitVecType n))) (formed_type (BitVecType n) u t a)

  pub test_alike : (o : TestOperator) {n : ℕ} {u t v w : PlainTerm} → Alike enums I (BitVecType n) u t → Alike enums I (BitVecType n) v w → Alike enums I BoolType (test_of_two (TestOp o) u v) (test_of_two (TestOp o) t w)
  test_alike o {n} {u} {t} {v} {w} a b =
      application (TestOp o) (BitVecType n ∷ BitVecType n ∷ []) (u ∷ v ∷ []) (t ∷ w ∷ []) BoolType (a, (b, tt)) (ap (λ x. then_some x BoolType) (same (BitVecType n))) bool_formed

  pub overflow_alike : (o : OverflowOperator) {n : ℕ} {u t v w : PlainTerm} → Alike enums I (BitVecType n) u t → Alike enums I (BitVecType n) v w → Alike enums I BoolType (test_of_two (OverflowOp o) u v) (test_of_two (OverflowOp o) t w)
  overflow_alike o {n} {u} {t} {v} {w} a b =
      application (OverflowOp o) (BitVecType n ∷ BitVecType n ∷ []) (u ∷ v ∷ []) (t ∷ w ∷ []) BoolType (a, (b, tt)) (ap (λ x. then_some x BoolType) (same (BitVecType n))) bool_formed

  pub extension_alike : (o : ExtensionOp) {u t : PlainTerm} → IsFormedType (extension_signature o).1 → Alike enums I (extension_signature o).0 u t → Alike enums I (extension_signature o).1 (extension_of o u) (extension_of o t)
  extension_alike o {u} {t} f a =
      application (ExtOp o) ((extension_signature o).0 ∷ []) (u ∷ []) (t ∷ []) (extension_signature o).1 (a, tt) (ap (λ x. then_some x (extension_signature o).1) (same (extension_signature o).0)) f

  pub option_get_alike : {ty : PlainType} {u t : PlainTerm} → IsFormedType ty → Alike enums I (OptionType ty) u t → Alike enums I ty (option_get_of u) (option_get_of t)
  option_get_alike {ty} {u} {t} f a =
      application_at OptionGetOp (OptionType ty ∷ []) (u ∷ []) (t ∷ []) (type_inside (type_of u)) (type_inside (type_of t)) ty (ap type_inside a.type_first) (ap type_inside a.type_second) (a, tt) refl f

  pub zero_extend_alike : (k : ℕ) {n : ℕ} {u t : PlainTerm} → nat_le (n + k) 128 ≡ true → IsFormedType (BitVecType (n + k)) → Alike enums I (BitVecType n) u t → Alike enums I (BitVecType (n + k)) (zero_extend_of k u) (zero_extend_of k t)
  zero_extend_alike k {n} {u} {t} l f a =
      application_at (ZeroExtendOp k) (BitVecType n ∷ []) (u ∷ []) (t ∷ []) (wider_type k (type_of u)) (wider_type k (type_of t)) (BitVecType (n + k)) (ap (wider_type k) a.type_first) (ap (wider_type k) a.type_second) (a, tt) (ap (λ x. then_some x (BitVecType (n + k))) l) f

  -- whether an option is none, by its type
  none_at : (t : PlainTerm) (ty : PlainType) → type_of t ≡ OptionType ty → is_none applied t ≡ eq_of t (NoneTerm ty)
  none_at t ty e = ap (λ (x : PlainType). elim (inner_type x) as (λ _. PlainTerm) [ Some y ↦ eq_of t (NoneTerm y) | None ↦ not_of (eq_of t t) ]) e

  pub is_none_alike : {ty : PlainType} {u t : PlainTerm} → IsFormedType ty → Alike enums I (OptionType ty) u t → Alike enums I BoolType (is_none applied u) (is_none applied t)
  is_none_alike {ty} {u} {t} f a =
      subst (λ (x : PlainTerm). Alike enums I BoolType x (is_none applied t)) (sym (none_at u ty a.type_first))
      (subst (λ (x : PlainTerm). Alike enums I BoolType (eq_of u (NoneTerm ty)) x) (sym (none_at t ty a.type_second)) (eq_alike a (none ty f)))
