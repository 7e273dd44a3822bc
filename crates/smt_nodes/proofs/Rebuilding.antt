-- Types by their labels and by what their parts stand for.
use Rattle.std.proofs.Common.{◌≡◌, ℕ, zero, suc, ◌<◌, true, List, [], ◌∷◌, Some, ◌+◌, ◌++◌, add-one, get_or, length, take, arith, refl, sym, ap, ◌∙◌, subst}
use Rattle.std.proofs.Math.Seq.{take-suc}
use Rattle.std.specs.Rc.{rc_str_bytes}
use Rattle.std.specs.declared.alloc.Global.{Global}
use Rattle.std.specs.declared.rc.RcStr.{RcStr}
use Rattle.law_texts.specs.SharedTexts.{texts}
use Rattle.smt_term.specs.Pairs.{attributes_in as attributes_beside}
use Rattle.smt_term.specs.View.{plain_type}
use Rattle.smt_term.specs.declared.types.TermType.{TermType}
use Rattle.smt_nodes.proofs.Interning.{more_found}
use Rattle.smt_nodes.proofs.RecordParts.{listed-append, types_listing, types_meant}
use Rattle.std.proofs.lemmas.List.{length-map, map-append}
use Rattle.std.specs.List.{AllByRecursion}
use Rattle.std.specs.Prelude.{IfSome, Option, option_map}
use Rattle.law_terms.specs.Plain.{ExtensionKind, PlainType, BitVecType, BoolType, EntityType, ExtensionType, StringType, RecordType, AttributeTypes, no_attributes, attribute}
use Rattle.law_terms.specs.Meanings.{all_found, found}
use Rattle.law_terms.specs.Nodes.{PlainLabel, BitVecLabel, BoolLabel, EntityLabel, ExtensionLabel, StringLabel, RecordLabel, Meaning, TypeMeaning}
use Rattle.law_terms.specs.Parts.{label_in, parts_in, type_label, type_parts, types_in, attribute_names}
use Rattle.smt_nodes.proofs.Comparing.{head_found}
use Rattle.smt_nodes.proofs.Finding.{as_many_found}
use Rattle.smt_nodes.specs.Kinds.{is_type_at}
use Rattle.smt_nodes.specs.View.{place_of, places_of}
use Rattle.smt_nodes.specs.declared.id.NodeId.{NodeId}

pub a_type : (o : Option Meaning) → is_type_at o ≡ true → (t : PlainType) × (o ≡ Some (TypeMeaning t))
a_type (Some (TypeMeaning t)) h = (t, refl)
a_type o h = absurd (cc)

-- ---- the type of a label
pub labelled : (o : Option Meaning) (t : PlainType) (l : PlainLabel) → o ≡ Some (TypeMeaning t) → Some l ≡ option_map label_in o → l ≡ type_label t
labelled o t l e h = let both : Some l ≡ Some (type_label t) = h ∙ ap (option_map label_in) e in cc

pub of_bits : (t : PlainType) (n : ℕ) → BitVecLabel n ≡ type_label t → t ≡ BitVecType n
of_bits (BitVecType m) n h = let same : n ≡ m = cc in ap BitVecType (sym same)
of_bits BoolType n h = absurd (cc)
of_bits t n h = absurd (cc)

pub of_truth : (t : PlainType) → BoolLabel ≡ type_label t → t ≡ BoolType
of_truth BoolType h = refl
of_truth t h = absurd (cc)

pub of_entity : (t : PlainType) (e : List ℕ) → EntityLabel e ≡ type_label t → t ≡ EntityType e
of_entity (EntityType f) e h = let same : e ≡ f = cc in ap EntityType (sym same)
of_entity BoolType e h = absurd (cc)
of_entity t e h = absurd (cc)

pub of_extension : (t : PlainType) (k : ExtensionKind) → ExtensionLabel k ≡ type_label t → t ≡ ExtensionType k
of_extension (ExtensionType l) k h = let same : k ≡ l = cc in ap ExtensionType (sym same)
of_extension BoolType k h = absurd (cc)
of_extension t k h = absurd (cc)

pub of_text : (t : PlainType) → StringLabel ≡ type_label t → t ≡ StringType
of_text StringType h = refl
of_text BoolType h = absurd (cc)
of_text t h = absurd (cc)

pub of_record : (t : PlainType) (names : List (List ℕ)) → RecordLabel names ≡ type_label t → (x : AttributeTypes) × (t ≡ RecordType x) × (names ≡ attribute_names x)
of_record (RecordType x) names h = (x, refl, cc)
of_record BoolType names h = absurd (cc)
of_record t names h = absurd (cc)

-- ---- the parts of a type
pub found_parts : (ms : List (Option Meaning)) (o : Option Meaning) (t u : PlainType) (xs : List NodeId) → o ≡ Some (TypeMeaning t) → t ≡ u → IfSome o (λ m. all_found ms (places_of xs) ≡ Some (parts_in m)) → all_found ms (places_of xs) ≡ Some (type_parts u)
found_parts ms o t u xs e d f =
    let P : Option Meaning → Type 0 = λ o. IfSome o (λ m. all_found ms (places_of xs) ≡ Some (parts_in m)) in
    subst P e f ∙ ap (λ t. Some (type_parts t)) d

-- ---- the parts of a record type
types_count : (x : AttributeTypes) → length (types_in x) ≡ length (attribute_names x)
types_count no_attributes = refl
types_count (attribute a t x) = ap suc (types_count x)

pub as_many_types : (ms : List (Option Meaning)) (xs : List NodeId) (names : List (RcStr Global)) (x : AttributeTypes) → texts names ≡ attribute_names x → all_found ms (places_of xs) ≡ Some (types_in x) → length xs ≡ length names
as_many_types ms xs names x e h = sym (length-map xs place_of) ∙ (as_many_found ms (places_of xs) (types_in x) h ∙ (types_count x ∙ (ap length (sym e) ∙ length-map names rc_str_bytes)))

pub type_of_part : (ms : List (Option Meaning)) (xs : List NodeId) (x : AttributeTypes) (i : ℕ) (d : NodeId) → all_found ms (places_of xs) ≡ Some (types_in x) → i < length xs → is_type_at (found ms (place_of (get_or xs i d))) ≡ true
type_of_part ms [] x i d h b = absurd (omega (arith, b))
type_of_part ms (y ∷ xs) no_attributes i d h b = let (m, rest, e, f, k) = head_found ms (place_of y) (places_of xs) [] h in absurd (cc)
type_of_part ms (y ∷ xs) (attribute a t x) zero d h b =
    let (m, rest, e, f, k) = head_found ms (place_of y) (places_of xs) (TypeMeaning t ∷ types_in x) h in
    let first : m ≡ TypeMeaning t = cc in
    ap is_type_at (e ∙ ap Some first)
type_of_part ms (y ∷ xs) (attribute a t x) (suc i) d h b =
    let (m, rest, e, f, k) = head_found ms (place_of y) (places_of xs) (TypeMeaning t ∷ types_in x) h in
    let others : rest ≡ types_in x = cc in
    type_of_part ms xs x i d (f ∙ ap Some others) (omega (arith, b))

pub holds_at : (P : ℕ → Type 0) (ids : List NodeId) (i : ℕ) (d : NodeId) → AllByRecursion P (places_of ids) → i < length ids → P (place_of (get_or ids i d))
holds_at P [] i d h b = absurd (omega (arith, b))
holds_at P (id ∷ ids) zero d h b = h.0
holds_at P (id ∷ ids) (suc i) d h b = holds_at P ids i d h.1 (omega (arith, b))

-- a record type is known by its attributes and by their types
pub by_names : (x y : AttributeTypes) → attribute_names x ≡ attribute_names y → types_in x ≡ types_in y → x ≡ y
by_names no_attributes no_attributes e d = refl
by_names no_attributes (attribute b u y) e d = absurd (cc)
by_names (attribute a t x) no_attributes e d = absurd (cc)
by_names (attribute a t x) (attribute b u y) e d =
    let name : a ≡ b = cc in
    let type : t ≡ u = cc in
    let rest : x ≡ y = by_names x y (cc) (cc) in
    λ i. attribute (name i) (type i) (rest i)

-- ---- one pair more
taken : {X : Type 0} (xs : List X) (i : ℕ) (d : X) → i < length xs → take (i + 1) xs ≡ take i xs ++ get_or xs i d ∷ []
taken xs i d h = ap (λ n. take n xs) (add-one i) ∙ take-suc xs i d h

pub pushed_names : (names : List (RcStr Global)) (pairs more : List (RcStr Global × TermType)) (i : ℕ) (name d : RcStr Global) (ty : TermType) → more ≡ pairs ++ (name, ty) ∷ [] → i < length names → rc_str_bytes name ≡ rc_str_bytes d → d ≡ get_or names i d
    → attributes_beside pairs ≡ texts (take i names) → attributes_beside more ≡ texts (take (i + 1) names)
pushed_names names pairs more i name d ty is h same at e =
    ap attributes_beside is
    ∙ (map-append (λ p. rc_str_bytes p.0) pairs ((name, ty) ∷ [])
    ∙ ((λ k. e k ++ (same ∙ ap rc_str_bytes at) k ∷ [])
    ∙ (sym (map-append rc_str_bytes (take i names) (get_or names i d ∷ [])) ∙ ap texts (sym (taken names i d h)))))

pub pushed_types : (ms : List (Option Meaning)) (parts : List NodeId) (pairs more : List (RcStr Global × TermType)) (i : ℕ) (name : RcStr Global) (ty : TermType) (d : NodeId) → more ≡ pairs ++ (name, ty) ∷ [] → i < length parts → found ms (place_of (get_or parts i d)) ≡ Some (TypeMeaning (plain_type ty))
    → all_found ms (places_of (take i parts)) ≡ Some (types_meant pairs) → all_found ms (places_of (take (i + 1) parts)) ≡ Some (types_meant more)
pushed_types ms parts pairs more i name ty d is h at e =
    ap (λ l. all_found ms (places_of l)) (taken parts i d h)
    ∙ (ap (all_found ms) (map-append place_of (take i parts) (get_or parts i d ∷ []))
    ∙ (more_found ms (places_of (take i parts)) (types_meant pairs) (place_of (get_or parts i d)) (TypeMeaning (plain_type ty)) e at
    ∙ ap Some (sym (listed-append types_listing pairs (name, ty)) ∙ ap types_meant (sym is))))
