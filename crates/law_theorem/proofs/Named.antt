-- What terms reach has names.
use Rattle.std.proofs.Common.{◌≡◌, ◌⊎◌, ℕ, List, [], ◌∷◌, refl, subst, inl, inr, Option, Some, None}
use Rattle.std.specs.Prelude.{IsSome}
use Rattle.std.specs.List.{AllByRecursion}
use Rattle.std.proofs.lemmas.Bool.{false≢true}
use Rattle.law_terms.specs.Plain.{PlainType, OptionType, BitVecType, BoolType, EntityType, ExtensionType, StringType, RecordType, SetType, IpAddrV4Op, IpAddrV6Op, IpPrefixV4Op, IpPrefixV6Op, PlainOp, ExtOp, OptionGetOp, UufOp, BitVecLiteral, BoolLiteral, EntityLiteral, ExtensionLiteral, StringLiteral, PlainTerm, Application, NoneTerm, LiteralTerm, RecordTerm, SetTerm, SomeTerm, VariableTerm, PlainTerms, no_terms, one_term, PlainFields, no_fields, one_field}
use Rattle.law_terms.specs.Reached.{subterms, subterms_of_all, subterms_of_fields, reached_terms}
use Rattle.law_terms.specs.TypeValues.{Enums}
use Rattle.law_terms.specs.Types.{type_of}
use Rattle.law_scripts.specs.Script.{State}
use Rattle.law_scripts.specs.Sorts.{entries}
use Rattle.law_lines.specs.Lines.{first_type}
use Rattle.law_lines.specs.NameTables.{Tables, name_of_term, name_of_function, text_of_name}
use Rattle.law_lines.specs.Entries.{TypeHasEntries, HaveTexts, HaveFieldTexts, HasFunction}
use Rattle.law_lines.specs.TermTexts.{text_of, named_text}
use Rattle.law_lines.specs.Encodable.{IsEncodableType, IsEncodable, AreEncodable, AreEncodableFields, IsEncodableOp}
use Rattle.law_lines.specs.Fit.{Fit, PartsHaveEntries}
use Rattle.law_lines.proofs.Declared.{terms_are_declared, functions_are_declared}
use Rattle.law_theorem.specs.CarriedInterpretations.{TypeIsNamed, IsOpNamed, IsTermNamed, ip_type}
use Rattle.law_theorem.specs.CarriedSorts.{TypeIsDeclared}
use Rattle.law_theorem.specs.FittingStates.{TermsAreNamed, ReachedIsDeclared}
use Rattle.law_theorem.proofs.Types.{option_is_declared, there, type_stands}
use Rattle.law_terms.proofs.Defaults.{all-join}

named_there : (o : Option (List ℕ)) → IsSome (named_text o) → o ≡ Some (text_of_name o)
named_there (Some n) h = refl
named_there None h = absurd (false≢true h)

pub some_there : (o : Option (List ℕ)) → IsSome o → o ≡ Some (text_of_name o)
some_there (Some n) h = refl
some_there None h = absurd (false≢true h)

module _ (enums : Enums) (s : Tables) (state : State) (fit : Fit enums s state) where
  abbrev Named : List PlainTerm → Type 0
  Named us = AllByRecursion (IsTermNamed enums s (entries state)) us

  -- an entry's parts have names
  pub own : (t : PlainTerm) → IsSome (named_text (name_of_term s t)) → PartsHaveEntries s t × TypeHasEntries s (type_of t)
  own t h = let d = terms_are_declared enums s state t (text_of_name (name_of_term s t)) fit (named_there (name_of_term s t) h) in (d.1, d.2)

  pub text_sort : (t : PlainTerm) → IsSome (text_of s t) → TypeHasEntries s (type_of t)
  text_sort (LiteralTerm (BitVecLiteral w n)) h = tt
  text_sort (LiteralTerm (BoolLiteral b)) h = tt
  text_sort (LiteralTerm (StringLiteral x)) h = tt
  text_sort (LiteralTerm (EntityLiteral type id)) h = (own (LiteralTerm (EntityLiteral type id)) h).1
  text_sort (LiteralTerm (ExtensionLiteral x)) h = (own (LiteralTerm (ExtensionLiteral x)) h).1
  text_sort (Application op ts type) h = (own (Application op ts type) h).1
  text_sort (NoneTerm type) h = (own (NoneTerm type) h).1
  text_sort (RecordTerm x) h = (own (RecordTerm x) h).1
  text_sort (SetTerm t ts) h = (own (SetTerm t ts) h).1
  text_sort (SomeTerm t) h = (own (SomeTerm t) h).1
  text_sort (VariableTerm id type) h = (own (VariableTerm id type) h).1

  first_sort : (ts : PlainTerms) → HaveTexts s ts → TypeHasEntries s (first_type ts)
  first_sort no_terms h = tt
  first_sort (one_term t ts) h = text_sort t h.0

  pub names_there : (t : PlainType) → TypeHasEntries s t → TypeIsNamed s t
  names_there (OptionType t) h = names_there t h
  names_there (BitVecType w) h = tt
  names_there BoolType h = tt
  names_there (EntityType type) h = there enums s state fit (EntityType type) _ refl h
  names_there (ExtensionType kind) h = there enums s state fit (ExtensionType kind) _ refl h
  names_there StringType h = tt
  names_there (RecordType x) h = there enums s state fit (RecordType x) _ refl h
  names_there (SetType t) h = names_there t h

  range_named : (ts : PlainTerms) (type : PlainType) → HaveTexts s ts → TypeHasEntries s type → (first_type ts ≡ ip_type) ⊎ (type ≡ ip_type) → TypeIsDeclared enums s (entries state) ip_type
  range_named ts type h k (inl e) = type_stands enums s state fit ip_type tt (subst (TypeHasEntries s) e (first_sort ts h))
  range_named ts type h k (inr e) = type_stands enums s state fit ip_type tt (subst (TypeHasEntries s) e k)

  op_named : (op : PlainOp) (ts : PlainTerms) (type : PlainType) → IsEncodableType enums type → IsEncodableOp enums op ts type → HaveTexts s ts → HasFunction s op → TypeHasEntries s type → IsOpNamed enums s (entries state) op type
  op_named (UufOp f) ts type g o h k sort =
      let e = some_there (name_of_function s f) k in
      let d = functions_are_declared enums s state f (text_of_name (name_of_function s f)) fit e in
      (e, type_stands enums s state fit f.argument o.0 d.1, type_stands enums s state fit f.output o.1 d.2)
  op_named OptionGetOp ts type g o h k sort = (type_stands enums s state fit type g sort, names_there type sort)
  op_named (ExtOp IpAddrV4Op) ts type g o h k sort = range_named ts type h sort o
  op_named (ExtOp IpAddrV6Op) ts type g o h k sort = range_named ts type h sort o
  op_named (ExtOp IpPrefixV4Op) ts type g o h k sort = range_named ts type h sort o
  op_named (ExtOp IpPrefixV6Op) ts type g o h k sort = range_named ts type h sort o
  op_named op ts type g o h k sort = tt

  mutual
    term_named : (t : PlainTerm) → IsEncodable enums t → IsSome (text_of s t) → Named (subterms t)
    term_named (Application op ts type) f h =
        let p = own (Application op ts type) h in
        all-join (IsTermNamed enums s (entries state)) (subterms_of_all ts) (Application op ts type ∷ []) (terms_named ts f.1 p.0.0.0) (op_named op ts type f.0 f.2 p.0.0.0 p.0.0.1 p.1, tt)
    term_named (NoneTerm type) f h = (tt, tt)
    term_named (LiteralTerm l) f h = (tt, tt)
    term_named (RecordTerm x) f h =
        let p = own (RecordTerm x) h in
        all-join (IsTermNamed enums s (entries state)) (subterms_of_fields x) (RecordTerm x ∷ []) (fields_named x f.1 p.0.0) (tt, tt)
    term_named (SetTerm t ts) f h =
        let p = own (SetTerm t ts) h in
        all-join (IsTermNamed enums s (entries state)) (subterms_of_all ts) (SetTerm t ts ∷ []) (terms_named ts f.1 p.0.0) (tt, tt)
    term_named (SomeTerm t) f h =
        let p = own (SomeTerm t) h in
        all-join (IsTermNamed enums s (entries state)) (subterms t) (SomeTerm t ∷ []) (term_named t f.1 p.0.0) (tt, tt)
    term_named (VariableTerm id type) f h =
        ((named_there (name_of_term s (VariableTerm id type)) h, type_stands enums s state fit type f (own (VariableTerm id type) h).1), tt)

    terms_named : (ts : PlainTerms) → AreEncodable enums ts → HaveTexts s ts → Named (subterms_of_all ts)
    terms_named no_terms f h = tt
    terms_named (one_term t ts) f h = all-join (IsTermNamed enums s (entries state)) (subterms t) (subterms_of_all ts) (term_named t f.0 h.0) (terms_named ts f.1 h.1)

    fields_named : (x : PlainFields) → AreEncodableFields enums x → HaveFieldTexts s x → Named (subterms_of_fields x)
    fields_named no_fields f h = tt
    fields_named (one_field a t x) f h = all-join (IsTermNamed enums s (entries state)) (subterms t) (subterms_of_fields x) (term_named t f.0 h.0) (fields_named x f.1 h.1)

pub terms_are_named : TermsAreNamed
terms_are_named enums s state [] fit f h = tt
terms_are_named enums s state (t ∷ ts) fit f h =
    all-join (IsTermNamed enums s (entries state)) (subterms t) (reached_terms ts) (term_named enums s state fit t f.0 h.0) (terms_are_named enums s state ts fit f.1 h.1)

pub reached_is_declared : ReachedIsDeclared
reached_is_declared enums s ts state fit f e o h =
    record { enum_types = e; always = option_is_declared enums s state fit; one_to_one = o; named = terms_are_named enums s state ts fit f h }
