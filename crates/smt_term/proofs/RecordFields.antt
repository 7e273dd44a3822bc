-- Records and their types, one attribute after another.
use Rattle.std.proofs.Common.{◌≡◌, ℕ, ◌+◌, ◌<◌, ◌≤◌, Bool, true, false, ◌&&◌, List, [], ◌∷◌, Option, Some, cond, length, get_or, map, drop, option_map, refl, sym, ap, ◌∙◌, subst, arith}
use Rattle.std.proofs.lemmas.List.{at_drop_more, at_drop_all}
use Rattle.std.proofs.lemmas.Map.Text.{is_eq-slice_cmp}
use Rattle.std.specs.Map.{keys_of, lookup}
use Rattle.std.specs.Ordering.{is_eq, ordering_then}
use Rattle.std.specs.Prelude.{IsTrue, bytes_eq}
use Rattle.std.specs.Rc.{rc_str_bytes}
use Rattle.std.specs.declared.alloc.Global.{Global}
use Rattle.std.specs.declared.cmp.Ordering.{Ordering}
use Rattle.std.specs.declared.cmp.Ordering.TheVariants.{Less, Equal, Greater}
use Rattle.std.specs.declared.rc.RcStr.{RcStr}
use Rattle.smt_term.specs.Pairs.{attributes_in}
use Rattle.law_terms.specs.Literals.{are_literal_fields, is_literal}
use Rattle.law_terms.specs.Plain.{PlainType, RecordType, attribute, PlainTerm, attribute_types, record_fields}
use Rattle.law_terms.specs.Types.{attribute_in, attribute_type, field_types, type_cmp, type_eq, type_of}
use Rattle.law_terms.specs.Typing.{typed, typed_fields}
use Rattle.law_terms.specs.ValueOrder.{ascends, text_cmp}
use Rattle.smt_term.specs.View.{fields_of, plain_attribute, plain_field, plain_fields, plain_term, plain_term-Record, plain_type}
use Rattle.smt_term.specs.declared.maps.TermMap.{TermMap}
use Rattle.smt_term.specs.declared.term.Term.{Term, Record}
use Rattle.smt_term.specs.declared.types.TermType.{TermType}

-- attributes with the types of what stands beside them
abbrev pub typed_pairs : {X : Type 0} → (X → PlainType) → List (RcStr Global × X) → List (List ℕ × PlainType)
typed_pairs f ps = map (λ p. (rc_str_bytes p.0, f p.1)) ps

eq-then : (o p : Ordering) → is_eq (ordering_then o p) ≡ (is_eq o && is_eq p)
eq-then Less p = refl
eq-then Equal p = refl
eq-then Greater p = refl

and-false : (b : Bool) → (b && false) ≡ false
and-false true = refl
and-false false = refl

module _ {X Y : Type 0} (f : X → PlainType) (g : Y → PlainType) where
  -- the attributes are the same, and each has in both one type
  abbrev pub are_alike : List (RcStr Global × X) → List (RcStr Global × Y) → Bool
  are_alike ps qs = type_eq (RecordType (attribute_types (typed_pairs f ps))) (RecordType (attribute_types (typed_pairs g qs)))

  first_alike : (p : RcStr Global × X) (q : RcStr Global × Y) (ps : List (RcStr Global × X)) (qs : List (RcStr Global × Y))
      → are_alike (p ∷ ps) (q ∷ qs) ≡ ((bytes_eq (rc_str_bytes p.0) (rc_str_bytes q.0) && type_eq (f p.1) (g q.1)) && are_alike ps qs)
  first_alike p q ps qs =
      eq-then (ordering_then (text_cmp (rc_str_bytes p.0) (rc_str_bytes q.0)) (type_cmp (f p.1) (g q.1))) _
      ∙ ap (λ b. b && are_alike ps qs) (eq-then (text_cmp (rc_str_bytes p.0) (rc_str_bytes q.0)) (type_cmp (f p.1) (g q.1)) ∙ ap (λ b. b && type_eq (f p.1) (g q.1)) (is_eq-slice_cmp (rc_str_bytes p.0) (rc_str_bytes q.0)))

  alike_more : (ps : List (RcStr Global × X)) (qs : List (RcStr Global × Y)) (i : ℕ) (p : RcStr Global × X) (q : RcStr Global × Y) → i < length ps → i < length qs → p ≡ get_or ps i p → q ≡ get_or qs i q
      → are_alike (drop i ps) (drop i qs) ≡ ((bytes_eq (rc_str_bytes p.0) (rc_str_bytes q.0) && type_eq (f p.1) (g q.1)) && are_alike (drop (i + 1) ps) (drop (i + 1) qs))
  alike_more ps qs i p q l m e d =
      at_drop_more (λ xs. are_alike xs (drop i qs)) ps i p l
      ∙ (at_drop_more (λ ys. are_alike (get_or ps i p ∷ drop (i + 1) ps) ys) qs i q m
      ∙ (ap (λ x. are_alike (x ∷ drop (i + 1) ps) (get_or qs i q ∷ drop (i + 1) qs)) (sym e)
      ∙ (ap (λ y. are_alike (p ∷ drop (i + 1) ps) (y ∷ drop (i + 1) qs)) (sym d) ∙ first_alike p q (drop (i + 1) ps) (drop (i + 1) qs))))

  -- two attributes that differ, or have two types, are not alike; else the others decide it
  pub other_name : (ps : List (RcStr Global × X)) (qs : List (RcStr Global × Y)) (i : ℕ) (p : RcStr Global × X) (q : RcStr Global × Y) → i < length ps → i < length qs → p ≡ get_or ps i p → q ≡ get_or qs i q
      → bytes_eq (rc_str_bytes p.0) (rc_str_bytes q.0) ≡ false → are_alike (drop i ps) (drop i qs) ≡ false
  other_name ps qs i p q l m e d h = alike_more ps qs i p q l m e d ∙ ap (λ b. (b && type_eq (f p.1) (g q.1)) && are_alike (drop (i + 1) ps) (drop (i + 1) qs)) h

  pub other_type : (ps : List (RcStr Global × X)) (qs : List (RcStr Global × Y)) (i : ℕ) (p : RcStr Global × X) (q : RcStr Global × Y) → i < length ps → i < length qs → p ≡ get_or ps i p → q ≡ get_or qs i q
      → type_eq (f p.1) (g q.1) ≡ false → are_alike (drop i ps) (drop i qs) ≡ false
  other_type ps qs i p q l m e d h =
      alike_more ps qs i p q l m e d
      ∙ (ap (λ b. (bytes_eq (rc_str_bytes p.0) (rc_str_bytes q.0) && b) && are_alike (drop (i + 1) ps) (drop (i + 1) qs)) h ∙ ap (λ b. b && are_alike (drop (i + 1) ps) (drop (i + 1) qs)) (and-false (bytes_eq (rc_str_bytes p.0) (rc_str_bytes q.0))))

  pub alike_next : (ps : List (RcStr Global × X)) (qs : List (RcStr Global × Y)) (i : ℕ) (p : RcStr Global × X) (q : RcStr Global × Y) → i < length ps → i < length qs → p ≡ get_or ps i p → q ≡ get_or qs i q
      → bytes_eq (rc_str_bytes p.0) (rc_str_bytes q.0) ≡ true → type_eq (f p.1) (g q.1) ≡ true → are_alike (drop (i + 1) ps) (drop (i + 1) qs) ≡ are_alike (drop i ps) (drop i qs)
  alike_next ps qs i p q l m e d h k = sym (alike_more ps qs i p q l m e d ∙ (λ j. (h j && k j) && are_alike (drop (i + 1) ps) (drop (i + 1) qs)))

  pub alike_none : (ps : List (RcStr Global × X)) (qs : List (RcStr Global × Y)) (i : ℕ) → length ps ≤ i → length qs ≤ i → are_alike (drop i ps) (drop i qs) ≡ true
  alike_none ps qs i l m = at_drop_all (λ xs. are_alike xs (drop i qs)) ps i l ∙ at_drop_all (λ ys. are_alike [] ys) qs i m

  pub unequal : (ps : List (RcStr Global × X)) (qs : List (RcStr Global × Y)) → ¬ (length ps ≡ length qs) → are_alike ps qs ≡ false
  unequal [] [] n = absurd (n refl)
  unequal [] (q ∷ qs) n = refl
  unequal (p ∷ ps) [] n = refl
  unequal (p ∷ ps) (q ∷ qs) n =
      first_alike p q ps qs ∙ (ap (λ b. (bytes_eq (rc_str_bytes p.0) (rc_str_bytes q.0) && type_eq (f p.1) (g q.1)) && b) (unequal ps qs (λ e. n (omega (arith, e)))) ∙ and-false (bytes_eq (rc_str_bytes p.0) (rc_str_bytes q.0) && type_eq (f p.1) (g q.1)))

-- the types of terms beside attributes are the types of the record's attributes
field_types-are : (ps : List (RcStr Global × Term)) → attribute_types (typed_pairs (λ t. type_of (plain_term t)) ps) ≡ field_types (record_fields (map plain_field ps))
field_types-are [] = refl
field_types-are (p ∷ ps) = ap (attribute (rc_str_bytes p.0) (type_of (plain_term p.1))) (field_types-are ps)

-- whether attributes and types are those of terms, and those of other terms
abbrev pub alike_types : List (RcStr Global × Term) → List (RcStr Global × TermType) → Bool
alike_types fs ts = are_alike (λ t. type_of (plain_term t)) plain_type fs ts

abbrev pub alike_terms : List (RcStr Global × Term) → List (RcStr Global × Term) → Bool
alike_terms fs gs = are_alike (λ t. type_of (plain_term t)) (λ t. type_of (plain_term t)) fs gs

pub alike_types-are : (m : TermMap) (said : List (List ℕ × PlainType)) (fs : List (RcStr Global × Term)) (ts : List (RcStr Global × TermType)) → fs ≡ fields_of m → map plain_attribute ts ≡ said
    → alike_types fs ts ≡ type_eq (RecordType (field_types (record_fields (plain_fields m)))) (RecordType (attribute_types said))
alike_types-are m said fs ts same types =
    ap (λ x. type_eq (RecordType x) (RecordType (attribute_types (map plain_attribute ts)))) (field_types-are fs ∙ ap (λ ps. field_types (record_fields (map plain_field ps))) same)
    ∙ ap (λ l. type_eq (RecordType (field_types (record_fields (plain_fields m)))) (RecordType (attribute_types l))) types

pub alike_terms-are : (m n : TermMap) (fs gs : List (RcStr Global × Term)) → fs ≡ fields_of m → gs ≡ fields_of n
    → alike_terms fs gs ≡ type_eq (RecordType (field_types (record_fields (plain_fields m)))) (RecordType (field_types (record_fields (plain_fields n))))
alike_terms-are m n fs gs same others =
    ap (λ x. type_eq (RecordType x) (RecordType (attribute_types (typed_pairs (λ t. type_of (plain_term t)) gs)))) (field_types-are fs ∙ ap (λ ps. field_types (record_fields (map plain_field ps))) same)
    ∙ ap (λ x. type_eq (RecordType (field_types (record_fields (plain_fields m)))) (RecordType x)) (field_types-are gs ∙ ap (λ ps. field_types (record_fields (map plain_field ps))) others)

-- whether the terms of a record are literals, and whether they are typed, by one and the others
abbrev pub literal_fields : List (RcStr Global × Term) → Bool
literal_fields ps = are_literal_fields (record_fields (map plain_field ps))

pub literal_more : (ps : List (RcStr Global × Term)) (i : ℕ) (p : RcStr Global × Term) → i < length ps → p ≡ get_or ps i p → literal_fields (drop i ps) ≡ (is_literal (plain_term p.1) && literal_fields (drop (i + 1) ps))
literal_more ps i p l e = at_drop_more literal_fields ps i p l ∙ ap (λ q. is_literal (plain_term q.1) && literal_fields (drop (i + 1) ps)) (sym e)

pub literal_none : (ps : List (RcStr Global × Term)) (i : ℕ) → length ps ≤ i → literal_fields (drop i ps) ≡ true
literal_none ps i l = at_drop_all literal_fields ps i l

pub record_literal : (t : Term) (m : TermMap) (ps : List (RcStr Global × Term)) → t ≡ Record m → ps ≡ fields_of m → is_literal (plain_term t) ≡ literal_fields ps
record_literal t m ps is same =
    ap (λ u. is_literal (plain_term u)) is ∙ (ap is_literal (plain_term-Record m) ∙ ap literal_fields (sym same))

abbrev pub are_typed_fields : List (RcStr Global × Term) → Bool
are_typed_fields ps = typed_fields (record_fields (map plain_field ps))

pub typed_field_more : (ps : List (RcStr Global × Term)) (i : ℕ) (p : RcStr Global × Term) → i < length ps → p ≡ get_or ps i p → are_typed_fields (drop i ps) ≡ (typed (plain_term p.1) && are_typed_fields (drop (i + 1) ps))
typed_field_more ps i p l e = at_drop_more are_typed_fields ps i p l ∙ ap (λ q. typed (plain_term q.1) && are_typed_fields (drop (i + 1) ps)) (sym e)

pub typed_field_none : (ps : List (RcStr Global × Term)) (i : ℕ) → length ps ≤ i → are_typed_fields (drop i ps) ≡ true
typed_field_none ps i l = at_drop_all are_typed_fields ps i l

pub record_typed : (t : Term) (m : TermMap) (ps : List (RcStr Global × Term)) → t ≡ Record m → ps ≡ fields_of m → typed (plain_term t) ≡ are_typed_fields ps
record_typed t m ps is same =
    ap (λ u. typed (plain_term u)) is ∙ (ap typed (plain_term-Record m) ∙ ap are_typed_fields (sym same))

-- what an attribute and the type of its term say
abbrev pub field_type : RcStr Global × Term → List ℕ × PlainType
field_type p = (rc_str_bytes p.0, type_of (plain_term p.1))

attribute_keys : (ts : List (RcStr Global × TermType)) → keys_of (map plain_attribute ts) ≡ attributes_in ts
attribute_keys [] = refl
attribute_keys (t ∷ ts) = ap (λ l. rc_str_bytes t.0 ∷ l) (attribute_keys ts)

field_keys : (ps : List (RcStr Global × Term)) → keys_of (map field_type ps) ≡ attributes_in ps
field_keys [] = refl
field_keys (p ∷ ps) = ap (λ l. rc_str_bytes p.0 ∷ l) (field_keys ps)

-- attributes with the types of a record's terms ascend as the record's do
pub types_ascend : (m : TermMap) (ps : List (RcStr Global × Term)) (ts : List (RcStr Global × TermType)) → ps ≡ fields_of m → map plain_attribute ts ≡ map field_type ps → IsTrue (ascends text_cmp (attributes_in ts))
types_ascend m ps ts same made =
    let P : List (List ℕ) → Type 0 = λ l. IsTrue (ascends text_cmp l) in
    subst P (ap attributes_in (sym same) ∙ (sym (field_keys ps) ∙ (ap keys_of (sym made) ∙ attribute_keys ts))) m.pairs.ascending

-- and they are the record's type
pub record_type : (t : Term) (m : TermMap) (ps : List (RcStr Global × Term)) (said : List (List ℕ × PlainType)) → t ≡ Record m → ps ≡ fields_of m → said ≡ map field_type ps → RecordType (attribute_types said) ≡ type_of (plain_term t)
record_type t m ps said is same made =
    ap (λ l. RecordType (attribute_types l)) made ∙ (ap RecordType (field_types-are ps ∙ ap (λ qs. field_types (record_fields (map plain_field qs))) same) ∙ sym (ap (λ u. type_of (plain_term u)) is ∙ ap type_of (plain_term-Record m)))

chosen_type : (b : Bool) (t : PlainTerm) (o : Option PlainType) (p : Option PlainTerm) → o ≡ option_map type_of p → elim b as (λ _. Option PlainType) [ true ↦ Some (type_of t) | false ↦ o ] ≡ option_map type_of (cond b (Some t) p)
chosen_type true t o p h = refl
chosen_type false t o p h = h

field-looked : (x : List ℕ) (ps : List (List ℕ × PlainTerm)) → attribute_in x (field_types (record_fields ps)) ≡ option_map type_of (lookup (bytes_eq x) ps)
field-looked x [] = refl
field-looked x (p ∷ ps) = chosen_type (bytes_eq x p.0) p.1 (attribute_in x (field_types (record_fields ps))) (lookup (bytes_eq x) ps) (field-looked x ps)

-- the type of an attribute of a record is that of the term that it has
pub field_found : (x : List ℕ) (t : Term) (m : TermMap) → t ≡ Record m → attribute_type x (type_of (plain_term t)) ≡ option_map type_of (lookup (bytes_eq x) (plain_fields m))
field_found x t m is = ap (λ u. attribute_type x (type_of (plain_term u))) is ∙ (ap (λ u. attribute_type x (type_of u)) (plain_term-Record m) ∙ field-looked x (plain_fields m))
