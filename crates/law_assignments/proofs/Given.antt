-- What a sound assignment gives are values of the types for which they stand.
use Rattle.std.proofs.Common.{◌≡◌, ℕ, Bool, true, false, cond, List, [], ◌∷◌, map, refl, ◌∙◌, sym, subst}
use Rattle.std.specs.Prelude.{bytes_eq, Option, Some, None, IfSome, is_some, option_map}
use Rattle.std.specs.Cmp.{first_so, second_so}
use Rattle.std.specs.List.{AllByRecursion, list_all, list_any}
use Rattle.std.specs.Map.{lookup}
use Rattle.std.specs.Option.{option_map_or}
use Rattle.std.proofs.lemmas.Bool.{eqb-true, or_parts}
use Rattle.std.specs.Ordering.{nat_cmp}
use Rattle.std.specs.declared.cmp.Ordering.TheVariants.{Equal}
use Rattle.std.specs.Cmp.{tied_itself}
use Rattle.std.proofs.lemmas.Cmp.{nat_cmp_total}
use Rattle.law_assignments.specs.Assignments.{PlainAssignment, function_in, get_in, interpretation, is_of_other_family, selector_in, table_of_literals, value_of_literal, variable_in}
use Rattle.law_assignments.specs.Covered.{gives, gives_op, is_table_of}
use Rattle.law_assignments.specs.Laws.{CoveredIsInterpretation}
use Rattle.law_assignments.specs.Sound.{AreDistinctTerms, IsFaultlessLeaf, IsSound, IsSoundSelector, IsSoundTable, IsValueTerm}
use Rattle.law_folding.proofs.EqualityStands.{apart, value_is}
use Rattle.law_folding.proofs.Standing.{valued}
use Rattle.law_terms.specs.Defaults.{default_interpretation}
use Rattle.law_terms.specs.Faults.{literal_fault, type_fault, entity_fault, entity_type_fault}
use Rattle.law_terms.specs.Formed.{IsFormedLiteral, IsFormedNode}
use Rattle.law_terms.specs.Functions.{PlainDefinition, entry_value}
use Rattle.law_terms.specs.Interpretations.{AreDistinct, IsGiven, IsGivenOp, IsGivenSelector, IsOfOtherFamily, IsSelectorTable, IsTable, empty_table, extension_op_place, selector_eq, unused_value}
use Rattle.law_terms.specs.Literals.{is_literal, are_literals, are_literal_fields}
use Rattle.law_terms.specs.Meaning.{literal_value, meaning, meanings, field_meanings}
use Rattle.law_terms.specs.Plain.{IpAddrKind, PlainType, ExtensionType, PlainFunction, ExtensionOp, IpAddrV4Op, IpAddrV6Op, IpPrefixV4Op, IpPrefixV6Op, Ipv4Of, Ipv6Of, PlainOp, ExtOp, OptionGetOp, UufOp, PlainLiteral, BitVecLiteral, BoolLiteral, EntityLiteral, ExtensionLiteral, StringLiteral, PlainTerm, Application, NoneTerm, LiteralTerm, RecordTerm, SetTerm, SomeTerm, VariableTerm, PlainTerms, no_terms, one_term, PlainFields, no_fields, one_field}
use Rattle.law_terms.specs.Reached.{reached_terms, subterms, subterms_of_all, subterms_of_fields}
use Rattle.law_terms.specs.Tables.{Interpretation}
use Rattle.law_terms.specs.TermOrder.{term_eq}
use Rattle.law_terms.specs.Types.{extension_signature, field_types, is_type, literal_type, type_eq, type_of, types_of}
use Rattle.law_terms.specs.TypeValues.{Enums, IsValue, AreFieldValues, members_of}
use Rattle.law_terms.specs.Typing.{are_elements, typed, typed_all, typed_fields}
use Rattle.law_terms.specs.ValueOrder.{value_eq}
use Rattle.law_terms.specs.Values.{Value}
use Rattle.law_terms.proofs.Elements.{typed_elements}
use Rattle.law_terms.proofs.LiteralValues.{same}
use Rattle.law_terms.proofs.SameTerm.{extension_op_same}
use Rattle.law_terms.proofs.Shapes.{all-become}
use Rattle.law_terms.proofs.Soundness as soundness
use Rattle.law_terms.proofs.Soundness.{all-front, all-back, none_both}
use Rattle.law_terms.proofs.TypeOrder.{eq_same}

-- ---- entries

-- what is found has what each entry has whose key passes
module _ {K X : Type 0} (test : K → Bool) (Q : K → X → Type 0) (P : X → Type 0) (pass : (k : K) (x : X) → test k ≡ true → Q k x → P x) where
  this_or_later : (b : Bool) (k : K) (x : X) (o : Option X) → test k ≡ b → Q k x → IfSome o P → IfSome (cond b (Some x) o) P
  this_or_later true k x o e h g = pass k x e h
  this_or_later false k x o e h g = g

  pub found : (es : List (K × X)) → AllByRecursion (λ e. Q e.0 e.1) es → IfSome (lookup test es) P
  found [] h = tt
  found (e ∷ es) h = this_or_later (test e.0) e.0 e.1 (lookup test es) refl h.0 (found es h.1)

mapped : {X Y : Type 0} (P : Y → Type 0) (f : X → Y) (xs : List X) → AllByRecursion (λ x. P (f x)) xs → AllByRecursion P (map f xs)
mapped P f [] h = tt
mapped P f (x ∷ xs) h = (h.0, mapped P f xs h.1)

pub same_selector : (o p : ExtensionOp) → selector_eq o p ≡ true → o ≡ p
same_selector o p h = extension_op_same o p (subst (λ k. nat_cmp (extension_op_place o) k ≡ Equal) (eqb-true (extension_op_place o) (extension_op_place p) h) (tied_itself nat_cmp_total (extension_op_place o)))

module _ (enums : Enums) where
  -- ---- literals

  entity_type_of : (e i : List ℕ) (members : Option (List (List ℕ))) → entity_fault e i members ≡ None → entity_type_fault e members ≡ None
  entity_type_of e i None h = refl
  entity_type_of e i (Some []) h = cc
  entity_type_of e i (Some (m ∷ ms)) h = refl

  leaf_type : (l : PlainLiteral) → literal_fault enums l ≡ None → type_fault enums (literal_type l) ≡ None
  leaf_type (BitVecLiteral n x) h = refl
  leaf_type (BoolLiteral b) h = refl
  leaf_type (EntityLiteral e i) h = entity_type_of e i (members_of enums e) h
  leaf_type (ExtensionLiteral x) h = refl
  leaf_type (StringLiteral s) h = refl

  leaf_valued : (I : Interpretation) (l : PlainLiteral) → literal_fault enums l ≡ None → IsFormedLiteral l → IsValue enums (literal_type l) (literal_value l)
  leaf_valued I l h f = soundness.valued enums I (LiteralTerm l) refl (none_both (type_fault enums (literal_type l)) (literal_fault enums l) (leaf_type l h) h) (f, tt) (tt, tt)

  abbrev Formed : List PlainTerm → Type 0
  Formed ts = AllByRecursion IsFormedNode ts

  abbrev Faultless : List PlainTerm → Type 0
  Faultless ts = AllByRecursion (IsFaultlessLeaf enums) ts

  mutual
    literal_valued : (I : Interpretation) (t : PlainTerm) → is_literal t ≡ true → typed t ≡ true → Formed (subterms t) → Faultless (subterms t) → IsValue enums (type_of t) (meaning I t)
    literal_valued I (NoneTerm ty) h y f n = tt
    literal_valued I (LiteralTerm l) h y f n = leaf_valued I l n.0 f.0
    literal_valued I (RecordTerm fs) h y f n =
        fields_valued I fs h y (all-front IsFormedNode (subterms_of_fields fs) (RecordTerm fs ∷ []) f) (all-front (IsFaultlessLeaf enums) (subterms_of_fields fs) (RecordTerm fs ∷ []) n)
    literal_valued I (SetTerm ty ts) h y f n =
        soundness.set_value enums ty (meanings I ts) (elements_valued I ty ts h (first_so (typed_all ts) (are_elements ty ts) y) (typed_elements ty ts (second_so (typed_all ts) (are_elements ty ts) y)) (all-front IsFormedNode (subterms_of_all ts) (SetTerm ty ts ∷ []) f) (all-front (IsFaultlessLeaf enums) (subterms_of_all ts) (SetTerm ty ts ∷ []) n))
    literal_valued I (SomeTerm t) h y f n = literal_valued I t h y (all-front IsFormedNode (subterms t) (SomeTerm t ∷ []) f) (all-front (IsFaultlessLeaf enums) (subterms t) (SomeTerm t ∷ []) n)
    literal_valued I (Application o ts ty) h y f n = cc
    literal_valued I (VariableTerm id ty) h y f n = cc

    elements_valued : (I : Interpretation) (ty : PlainType) (ts : PlainTerms) → are_literals ts ≡ true → typed_all ts ≡ true → list_all (type_eq ty) (types_of ts) ≡ true → Formed (subterms_of_all ts) → Faultless (subterms_of_all ts) → AllByRecursion (λ v. IsValue enums ty v) (meanings I ts)
    elements_valued I ty no_terms h y e f n = tt
    elements_valued I ty (one_term t ts) h y e f n = (
      subst (λ u. IsValue enums u (meaning I t)) (sym (eq_same ty (type_of t) (first_so (type_eq ty (type_of t)) (list_all (type_eq ty) (types_of ts)) e)))
          (literal_valued I t (first_so (is_literal t) (are_literals ts) h) (first_so (typed t) (typed_all ts) y) (all-front IsFormedNode (subterms t) (subterms_of_all ts) f) (all-front (IsFaultlessLeaf enums) (subterms t) (subterms_of_all ts) n)),
      elements_valued I ty ts (second_so (is_literal t) (are_literals ts) h) (second_so (typed t) (typed_all ts) y) (second_so (type_eq ty (type_of t)) (list_all (type_eq ty) (types_of ts)) e) (all-back IsFormedNode (subterms t) (subterms_of_all ts) f) (all-back (IsFaultlessLeaf enums) (subterms t) (subterms_of_all ts) n),
    )

    fields_valued : (I : Interpretation) (fs : PlainFields) → are_literal_fields fs ≡ true → typed_fields fs ≡ true → Formed (subterms_of_fields fs) → Faultless (subterms_of_fields fs) → AreFieldValues enums (field_types fs) (field_meanings I fs)
    fields_valued I no_fields h y f n = tt
    fields_valued I (one_field x t fs) h y f n = (
      refl,
      literal_valued I t (first_so (is_literal t) (are_literal_fields fs) h) (first_so (typed t) (typed_fields fs) y) (all-front IsFormedNode (subterms t) (subterms_of_fields fs) f) (all-front (IsFaultlessLeaf enums) (subterms t) (subterms_of_fields fs) n),
      fields_valued I fs (second_so (is_literal t) (are_literal_fields fs) h) (second_so (typed t) (typed_fields fs) y) (all-back IsFormedNode (subterms t) (subterms_of_fields fs) f) (all-back (IsFaultlessLeaf enums) (subterms t) (subterms_of_fields fs) n),
    )

  value_given : (ty : PlainType) (t : PlainTerm) → IsValueTerm enums ty t → IsValue enums ty (value_of_literal t)
  value_given ty t h =
      subst (λ u. IsValue enums u (value_of_literal t)) h.type.type (subst (λ v. IsValue enums (type_of t) v) (sym (valued (default_interpretation []) t h.type.parts)) (literal_valued (default_interpretation []) t h.literal h.type.parts h.formed.literals h.faultless))

  -- ---- tables

  -- two literals of one type that are not one term have two values
  values_differ : (ty : PlainType) (t u : PlainTerm) → IsValueTerm enums ty t → IsValueTerm enums ty u → term_eq t u ≡ false → value_eq (value_of_literal t) (value_of_literal u) ≡ false
  values_differ ty t u h k n = by (value_eq (value_of_literal t) (value_of_literal u)) refl
    where
      by : (b : Bool) → value_eq (value_of_literal t) (value_of_literal u) ≡ b → b ≡ false
      by false e = refl
      by true e = absurd (apart t u n (same (default_interpretation []) t u (h.literal, h.type.parts, h.formed.literals) (k.literal, k.type.parts, k.formed.literals) (h.type.type ∙ sym k.type.type)
          (sym (valued (default_interpretation []) t h.type.parts) ∙ (value_is (value_of_literal t) (value_of_literal u) e ∙ valued (default_interpretation []) u k.type.parts))))

  abbrev Entries : Type 0
  Entries = List (PlainTerm × PlainTerm)

  abbrev Pairs : Entries → List (Value × Value)
  Pairs es = map (entry_value (default_interpretation [])) es

  none_equal : (ty : PlainType) (t : PlainTerm) (es : Entries) → IsValueTerm enums ty t → AllByRecursion (λ e. IsValueTerm enums ty e.0) es → list_any (term_eq t) (map (λ e. e.0) es) ≡ false → list_any (value_eq (value_of_literal t)) (map (λ e. e.0) (Pairs es)) ≡ false
  none_equal ty t [] h k n = refl
  none_equal ty t (e ∷ es) h k n =
      let p = or_parts (term_eq t e.0) (list_any (term_eq t) (map (λ x. x.0) es)) n in
      rw (values_differ ty t e.0 h k.0 p.0) (none_equal ty t es h k.1 p.1)

  distinct_values : (ty : PlainType) (es : Entries) → AllByRecursion (λ e. IsValueTerm enums ty e.0) es → AreDistinctTerms (map (λ e. e.0) es) → AreDistinct (map (λ e. e.0) (Pairs es))
  distinct_values ty [] h d = tt
  distinct_values ty (e ∷ es) h d = (none_equal ty e.0 es h.0 h.1 d.0, distinct_values ty es h.1 d.1)

  table_given : (P : Value → Type 0) (d : PlainDefinition) → IsSoundTable enums d → AllByRecursion (λ e. P (value_of_literal e.0)) d.entries → IsTable P enums d.output (table_of_literals d)
  table_given P d s k = record {
    keys = mapped (λ e. P e.0) (entry_value (default_interpretation [])) d.entries k;
    distinct = distinct_values d.argument d.entries s.keys s.distinct;
    answers = mapped (λ e. IsValue enums d.output e.1) (entry_value (default_interpretation [])) d.entries (all-become (λ e. IsValueTerm enums d.output e.1) (λ e. IsValue enums d.output (value_of_literal e.1)) (λ e h. value_given d.output e.1 h) d.entries s.answers);
    elsewhere = value_given d.output d.elsewhere s.elsewhere;
  }

  keys_given : (d : PlainDefinition) → IsSoundTable enums d → AllByRecursion (λ e. IsValue enums d.argument (value_of_literal e.0)) d.entries
  keys_given d s = all-become (λ e. IsValueTerm enums d.argument e.0) (λ e. IsValue enums d.argument (value_of_literal e.0)) (λ e h. value_given d.argument e.0 h) d.entries s.keys

  family_given : (o : ExtensionOp) (t : PlainTerm) → is_of_other_family o t ≡ true → IsOfOtherFamily o (value_of_literal t)
  family_given IpAddrV4Op (LiteralTerm (ExtensionLiteral (Ipv6Of x p))) h = tt
  family_given IpPrefixV4Op (LiteralTerm (ExtensionLiteral (Ipv6Of x p))) h = tt
  family_given IpAddrV6Op (LiteralTerm (ExtensionLiteral (Ipv4Of x p))) h = tt
  family_given IpPrefixV6Op (LiteralTerm (ExtensionLiteral (Ipv4Of x p))) h = tt
  family_given o t h = cc

  both_of : {X : Type 0} (P Q : X → Type 0) (xs : List X) → AllByRecursion P xs → AllByRecursion Q xs → AllByRecursion (λ x. P x × Q x) xs
  both_of P Q [] h k = tt
  both_of P Q (x ∷ xs) h k = ((h.0, k.0), both_of P Q xs h.1 k.1)

  -- ---- what terms ask

  module _ (a : PlainAssignment) (s : IsSound enums a) where
    pub variable_found : (id : List ℕ) → IfSome (variable_in a id) (λ v. IsValueTerm enums (type_of v) v)
    variable_found id = found (bytes_eq id) (λ k v. IsValueTerm enums (type_of v) v) (λ v. IsValueTerm enums (type_of v) v) (λ k v e g. g) a.variables s.variables

    variable_given : (id : List ℕ) (t : PlainType) → is_type (option_map type_of (variable_in a id)) t ≡ true → IsValue enums t ((interpretation a).variable id t)
    variable_given id t h = by (variable_in a id) (variable_found id) h
      where
        by : (o : Option PlainTerm) → IfSome o (λ v. IsValueTerm enums (type_of v) v) → is_type (option_map type_of o) t ≡ true → IsValue enums t (option_map_or value_of_literal o unused_value)
        by (Some v) g e = subst (λ u. IsValue enums u (value_of_literal v)) (eq_same (type_of v) t e) (value_given (type_of v) v g)
        by None g e = cc

    pub function_found : (f : PlainFunction) → IfSome (function_in a f) (IsSoundTable enums)
    function_found f = found (bytes_eq f.id) (λ k d. IsSoundTable enums d) (IsSoundTable enums) (λ k d e g. g) a.functions s.functions

    pub get_found : (t : PlainType) → IfSome (get_in a t) (IsValueTerm enums t)
    get_found t = found (type_eq t) (λ k v. IsValueTerm enums k v) (IsValueTerm enums t) (λ k v e g. subst (λ u. IsValueTerm enums u v) (sym (eq_same t k e)) g) a.gets s.gets

    pub selector_found : (o : ExtensionOp) → IfSome (selector_in a o) (IsSoundSelector enums o)
    selector_found o = found (selector_eq o) (λ k d. IsSoundSelector enums k d) (IsSoundSelector enums o) (λ k d e g. subst (λ p. IsSoundSelector enums p d) (sym (same_selector o k e)) g) a.selectors s.selectors

    function_given : (f : PlainFunction) → option_map_or (is_table_of f) (function_in a f) false ≡ true → IsTable (IsValue enums f.argument) enums f.output ((interpretation a).function f)
    function_given f h = by (function_in a f) (function_found f) h
      where
        by : (o : Option PlainDefinition) → IfSome o (IsSoundTable enums) → option_map_or (is_table_of f) o false ≡ true → IsTable (IsValue enums f.argument) enums f.output (option_map_or table_of_literals o empty_table)
        by (Some d) g e =
            let p : d.argument ≡ f.argument = eq_same d.argument f.argument (first_so (type_eq d.argument f.argument) (type_eq d.output f.output) e) in
            let q : d.output ≡ f.output = eq_same d.output f.output (second_so (type_eq d.argument f.argument) (type_eq d.output f.output) e) in
            subst (λ u. IsTable (IsValue enums f.argument) enums u (table_of_literals d)) q (subst (λ u. IsTable (IsValue enums u) enums d.output (table_of_literals d)) p (table_given (IsValue enums d.argument) d g (keys_given d g)))
        by None g e = cc

    get_given : (t : PlainType) → is_some (get_in a t) ≡ true → IsValue enums t ((interpretation a).inside_none t)
    get_given t h = by (get_in a t) (get_found t) h
      where
        by : (o : Option PlainTerm) → IfSome o (IsValueTerm enums t) → is_some o ≡ true → IsValue enums t (option_map_or value_of_literal o unused_value)
        by (Some v) g e = value_given t v g
        by None g e = cc

    selector_given : (o : ExtensionOp) → is_some (selector_in a o) ≡ true → IsSelectorTable enums (interpretation a) o
    selector_given o h = by (selector_in a o) (selector_found o) h
      where
        by : (p : Option PlainDefinition) → IfSome p (IsSoundSelector enums o) → is_some p ≡ true → IsTable (λ v. IsOfOtherFamily o v × IsValue enums (ExtensionType IpAddrKind) v) enums (extension_signature o).1 (option_map_or table_of_literals p empty_table)
        by (Some d) g e =
            subst (λ u. IsTable (λ v. IsOfOtherFamily o v × IsValue enums (ExtensionType IpAddrKind) v) enums u (table_of_literals d)) g.output
            (table_given (λ v. IsOfOtherFamily o v × IsValue enums (ExtensionType IpAddrKind) v) d g.table
            (both_of (λ e. IsOfOtherFamily o (value_of_literal e.0)) (λ e. IsValue enums (ExtensionType IpAddrKind) (value_of_literal e.0)) d.entries
            (all-become (λ e. is_of_other_family o e.0 ≡ true) (λ e. IsOfOtherFamily o (value_of_literal e.0)) (λ e k. family_given o e.0 k) d.entries g.families)
            (subst (λ u. AllByRecursion (λ e. IsValue enums u (value_of_literal e.0)) d.entries) g.argument (keys_given d g.table))))
        by None g e = cc

    extension_given : (o : ExtensionOp) (t : PlainType) → gives_op a (ExtOp o) t ≡ true → IsGivenSelector enums (interpretation a) o
    extension_given IpAddrV4Op t h = selector_given IpAddrV4Op h
    extension_given IpAddrV6Op t h = selector_given IpAddrV6Op h
    extension_given IpPrefixV4Op t h = selector_given IpPrefixV4Op h
    extension_given IpPrefixV6Op t h = selector_given IpPrefixV6Op h
    extension_given o t h = tt

    pub op_given : (o : PlainOp) (t : PlainType) → gives_op a o t ≡ true → IsGivenOp enums (interpretation a) o t
    op_given (UufOp f) t h = function_given f h
    op_given OptionGetOp t h = get_given t h
    op_given (ExtOp o) t h = extension_given o t h
    op_given o t h = tt

    term_given : (w : PlainTerm) → gives a w ≡ true → IsGiven enums (interpretation a) w
    term_given (VariableTerm id t) h = variable_given id t h
    term_given (Application o ts t) h = op_given o t h
    term_given w h = tt

pub covered_is_interpretation : CoveredIsInterpretation
covered_is_interpretation enums a ts s c = all-become (λ w. gives a w ≡ true) (IsGiven enums (interpretation a)) (term_given enums a s) (reached_terms ts) c
