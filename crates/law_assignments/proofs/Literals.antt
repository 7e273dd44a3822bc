-- Literals: they have one value in all interpretations, ask nothing of one, and their types tell their forms.
use Rattle.std.proofs.Common.{◌≡◌, ℕ, Bool, true, List, [], ◌∷◌, refl, ap, ◌∙◌, sym, subst}
use Rattle.std.specs.Prelude.{Some}
use Rattle.std.specs.Option.{unwrap_or}
use Rattle.std.specs.Cmp.{first_so, second_so}
use Rattle.std.specs.List.{AllByRecursion}
use Rattle.law_folding.specs.Applications.{bits_literal, truth_literal}
use Rattle.law_folding.specs.FoldExtensions.{extension_literal}
use Rattle.law_terms.specs.Interpretations.{IsGiven}
use Rattle.law_terms.specs.Literals.{is_literal, are_literals, are_literal_fields}
use Rattle.law_terms.specs.Meaning.{meaning, meanings, field_meanings}
use Rattle.law_terms.specs.Plain.{PlainType, OptionType, BitVecType, BoolType, ExtensionType, StringType, ExtensionKind, PlainExtension, PlainLiteral, BitVecLiteral, BoolLiteral, EntityLiteral, ExtensionLiteral, StringLiteral, PlainTerm, NoneTerm, LiteralTerm, RecordTerm, SetTerm, SomeTerm, PlainTerms, no_terms, one_term, PlainFields, no_fields, one_field}
use Rattle.law_terms.specs.Reached.{subterms, subterms_of_all, subterms_of_fields}
use Rattle.law_terms.specs.Tables.{Interpretation}
use Rattle.law_terms.specs.Types.{attribute_type, bits_and_bits, inner_type, is_bits, is_set, kind_of, literal_type, type_eq, type_of}
use Rattle.law_terms.specs.TypeValues.{Enums}
use Rattle.law_terms.specs.ValueOrder.{set_of}
use Rattle.law_terms.specs.Values.{RecordValue, SomeValue, one_field_value}
use Rattle.law_terms.proofs.Defaults.{all-join}
use Rattle.law_terms.proofs.TypeOrder.{eq_same}

-- ---- values

module _ (I J : Interpretation) where
  mutual
    pub steady : (t : PlainTerm) → is_literal t ≡ true → meaning I t ≡ meaning J t
    steady (NoneTerm ty) h = refl
    steady (LiteralTerm l) h = refl
    steady (RecordTerm fs) h = ap RecordValue (steady_fields fs h)
    steady (SetTerm ty ts) h = ap set_of (steady_all ts h)
    steady (SomeTerm t) h = ap SomeValue (steady t h)
    steady t h = cc

    pub steady_all : (ts : PlainTerms) → are_literals ts ≡ true → meanings I ts ≡ meanings J ts
    steady_all no_terms h = refl
    steady_all (one_term t ts) h =
        let p : meaning I t ≡ meaning J t = steady t (first_so (is_literal t) (are_literals ts) h) in
        let q : meanings I ts ≡ meanings J ts = steady_all ts (second_so (is_literal t) (are_literals ts) h) in
        λ i. p i ∷ q i

    steady_fields : (fs : PlainFields) → are_literal_fields fs ≡ true → field_meanings I fs ≡ field_meanings J fs
    steady_fields no_fields h = refl
    steady_fields (one_field x t fs) h =
        let p : meaning I t ≡ meaning J t = steady t (first_so (is_literal t) (are_literal_fields fs) h) in
        let q : field_meanings I fs ≡ field_meanings J fs = steady_fields fs (second_so (is_literal t) (are_literal_fields fs) h) in
        λ i. one_field_value x (p i) (q i)

-- ---- what they ask

module _ (enums : Enums) (I : Interpretation) where
  mutual
    pub literal_given : (t : PlainTerm) → is_literal t ≡ true → AllByRecursion (IsGiven enums I) (subterms t)
    literal_given (NoneTerm ty) h = (tt, tt)
    literal_given (LiteralTerm l) h = (tt, tt)
    literal_given (RecordTerm fs) h = all-join (IsGiven enums I) (subterms_of_fields fs) (RecordTerm fs ∷ []) (fields_given fs h) (tt, tt)
    literal_given (SetTerm ty ts) h = all-join (IsGiven enums I) (subterms_of_all ts) (SetTerm ty ts ∷ []) (all_given ts h) (tt, tt)
    literal_given (SomeTerm t) h = all-join (IsGiven enums I) (subterms t) (SomeTerm t ∷ []) (literal_given t h) (tt, tt)
    literal_given t h = cc

    pub all_given : (ts : PlainTerms) → are_literals ts ≡ true → AllByRecursion (IsGiven enums I) (subterms_of_all ts)
    all_given no_terms h = tt
    all_given (one_term t ts) h =
        all-join (IsGiven enums I) (subterms t) (subterms_of_all ts) (literal_given t (first_so (is_literal t) (are_literals ts) h)) (all_given ts (second_so (is_literal t) (are_literals ts) h))

    fields_given : (fs : PlainFields) → are_literal_fields fs ≡ true → AllByRecursion (IsGiven enums I) (subterms_of_fields fs)
    fields_given no_fields h = tt
    fields_given (one_field x t fs) h =
        all-join (IsGiven enums I) (subterms t) (subterms_of_fields fs) (literal_given t (first_so (is_literal t) (are_literal_fields fs) h)) (fields_given fs (second_so (is_literal t) (are_literal_fields fs) h))

-- ---- what holds of the literals of a type: it is shown of their forms

no_set : (l : PlainLiteral) → is_set (literal_type l) ≡ true → ⊥
no_set (BitVecLiteral n x) h = cc
no_set (BoolLiteral b) h = cc
no_set (EntityLiteral e i) h = cc
no_set (ExtensionLiteral x) h = cc
no_set (StringLiteral s) h = cc

no_option : (l : PlainLiteral) (ty : PlainType) → inner_type (literal_type l) ≡ Some ty → ⊥
no_option (BitVecLiteral n x) ty h = cc
no_option (BoolLiteral b) ty h = cc
no_option (EntityLiteral e i) ty h = cc
no_option (ExtensionLiteral x) ty h = cc
no_option (StringLiteral s) ty h = cc

no_record : (l : PlainLiteral) (x : List ℕ) (ty : PlainType) → attribute_type x (literal_type l) ≡ Some ty → ⊥
no_record (BitVecLiteral n y) x ty h = cc
no_record (BoolLiteral b) x ty h = cc
no_record (EntityLiteral e i) x ty h = cc
no_record (ExtensionLiteral y) x ty h = cc
no_record (StringLiteral s) x ty h = cc

module _ (P : PlainTerm → Type 0) where
  pub of_boolean : ((b : Bool) → P (truth_literal b)) → (t : PlainTerm) → is_literal t ≡ true → type_of t ≡ BoolType → P t
  of_boolean f (LiteralTerm (BoolLiteral b)) h e = f b
  of_boolean f t h e = cc

  pub of_bits : ((n x : ℕ) → P (bits_literal n x)) → (t : PlainTerm) → is_literal t ≡ true → is_bits (type_of t) ≡ true → P t
  of_bits f (LiteralTerm (BitVecLiteral n x)) h e = f n x
  of_bits f t h e = cc

  pub of_string : ((s : List ℕ) → P (LiteralTerm (StringLiteral s))) → (t : PlainTerm) → is_literal t ≡ true → type_of t ≡ StringType → P t
  of_string f (LiteralTerm (StringLiteral s)) h e = f s
  of_string f t h e = cc

  pub of_extension : (k : ExtensionKind) → ((x : PlainExtension) → kind_of x ≡ k → P (extension_literal x)) → (t : PlainTerm) → is_literal t ≡ true → type_of t ≡ ExtensionType k → P t
  of_extension k f (LiteralTerm (ExtensionLiteral x)) h e = f x (ap (kind_in (kind_of x)) e)
    where
      kind_in : ExtensionKind → PlainType → ExtensionKind
      kind_in j (ExtensionType l) = l
      kind_in j t = j
  of_extension k f t h e = cc

  pub of_option : (ty : PlainType) → ((u : PlainType) → OptionType u ≡ OptionType ty → P (NoneTerm u)) → ((u : PlainTerm) → is_literal u ≡ true → P (SomeTerm u)) → (t : PlainTerm) → is_literal t ≡ true → inner_type (type_of t) ≡ Some ty → P t
  of_option ty f g (NoneTerm u) h e = f u (ap (λ o. OptionType (unwrap_or o u)) e)
  of_option ty f g (SomeTerm u) h e = g u h
  of_option ty f g (LiteralTerm l) h e = absurd (no_option l ty e)
  of_option ty f g t h e = cc

  pub of_set : ((u : PlainType) (ts : PlainTerms) → are_literals ts ≡ true → P (SetTerm u ts)) → (t : PlainTerm) → is_literal t ≡ true → is_set (type_of t) ≡ true → P t
  of_set f (SetTerm u ts) h e = f u ts h
  of_set f (LiteralTerm l) h e = absurd (no_set l e)
  of_set f t h e = cc

  pub of_record : (x : List ℕ) (ty : PlainType) → ((fs : PlainFields) → are_literal_fields fs ≡ true → P (RecordTerm fs)) → (t : PlainTerm) → is_literal t ≡ true → attribute_type x (type_of t) ≡ Some ty → P t
  of_record x ty f (RecordTerm fs) h e = f fs h
  of_record x ty f (LiteralTerm l) h e = absurd (no_record l x ty e)
  of_record x ty f t h e = cc

-- two literals of bits of one width
pub of_two_bits : (P : PlainTerm → PlainTerm → Type 0) → ((n x y : ℕ) → P (bits_literal n x) (bits_literal n y)) → (t u : PlainTerm) → is_literal t ≡ true → is_literal u ≡ true → bits_and_bits (type_of t) (type_of u) ≡ true → P t u
of_two_bits P f t u h k e =
    of_bits (λ v. type_of v ≡ type_of u → P v u) (λ n x. of_bits (λ w. BitVecType n ≡ type_of w → P (bits_literal n x) w) (λ m y p. subst (λ j. P (bits_literal n x) (bits_literal j y)) (ap (width_or n) p) (f n x y)) u k (ap is_bits (sym s) ∙ b)) t h b s
  where
    width_or : ℕ → PlainType → ℕ
    width_or n (BitVecType m) = m
    width_or n t = n

    b : is_bits (type_of t) ≡ true
    b = first_so (is_bits (type_of t)) (type_eq (type_of t) (type_of u)) e

    s : type_of t ≡ type_of u
    s = eq_same (type_of t) (type_of u) (second_so (is_bits (type_of t)) (type_eq (type_of t) (type_of u)) e)
