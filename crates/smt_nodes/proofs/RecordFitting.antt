-- When records and their types fit what stands at the places of their parts.
use Rattle.std.proofs.Common.{◌≡◌, ◌↔◌, ℕ, suc, Bool, true, false, List, [], ◌∷◌, get_or, length, map, arith, refl, sym, ap, ◌∙◌, subst}
use Rattle.std.proofs.Math.Dec.{eqb-suc-zero}
use Rattle.std.proofs.lemmas.Bool.{false≢true}
use Rattle.std.proofs.lemmas.List.{length-map}
use Rattle.std.specs.Bool.{one_answer, then_some}
use Rattle.std.specs.Cmp.{unsigned_Decides}
use Rattle.std.specs.List.{list_all}
use Rattle.std.specs.Ordering.{is_eq, ordering_then}
use Rattle.std.specs.Prelude.{◌&&◌, IfSome, Option, Some, None, bytes_eq, eqb, nat_eq, is_some, option_and_then, option_map}
use Rattle.std.specs.Cmp.Lexicographic.{pointwise}
use Rattle.std.specs.Rc.{rc_str_bytes}
use Rattle.std.specs.declared.alloc.Global.{Global}
use Rattle.std.specs.declared.rc.RcStr.{RcStr}
use Rattle.std.proofs.lemmas.Slice.Eq.{bytes_eq-Decides, slice_eq-Decides}
use Rattle.law_texts.specs.SharedTexts.{texts}
use Rattle.std.specs.declared.cmp.Ordering.{Ordering}
use Rattle.std.specs.declared.cmp.Ordering.TheVariants.{Less, Equal, Greater}
use Rattle.law_terms.specs.Plain.{PlainType, RecordType, AttributeTypes, no_attributes, attribute, PlainTerm, Application, RecordTerm, UufOp, PlainFields, one_field}
use Rattle.law_terms.specs.Types.{field_types, type_cmp, type_eq, type_of}
use Rattle.law_terms.specs.ValueOrder.{ascends, text_cmp}
use Rattle.law_terms.proofs.TermTotal.{types_decided}
use Rattle.law_terms.proofs.ValueOrder.{text_itself}
use Rattle.law_terms.specs.Fits.{is_type, same_length}
use Rattle.law_terms.specs.Graphs.{IsGraph}
use Rattle.law_terms.specs.Meanings.{all_found, attributes_in, fields_in, found, meaning_at, meanings, only_if, stands_for, typed_as}
use Rattle.law_terms.specs.Nodes.{RecordLabel, RecordOfLabel, PlainNode, Meaning, TypeMeaning, FunctionMeaning, TermMeaning}
use Rattle.law_terms.specs.Parts.{field_names, field_terms, label_in, parts_in, term_label, term_parts, types_in, attribute_names}
use Rattle.law_terms.proofs.Distinct.{places_differ}
use Rattle.law_terms.proofs.Fitting.{parts_fit}
use Rattle.law_terms.proofs.Places.{map_back, only_back, some_same, then_back}
use Rattle.law_terms.proofs.Whole.{fields_back, typed_back}
use Rattle.smt_nodes.proofs.Comparing.{head_found}
use Rattle.smt_nodes.proofs.Finding.{as_many_found, made_so}
use Rattle.smt_nodes.proofs.Fitting.{first_found, Fits}
use Rattle.smt_nodes.proofs.RecordParts.{field_names-typed, fields_round, types_in-listed, types_listed}
use Rattle.smt_nodes.specs.Kinds.{are_typed, are_typed_at, is_term_at, is_type_at, is_typed_at, IsRecordAt}
use Rattle.smt_nodes.specs.View.{place_of, places_of}
use Rattle.smt_nodes.specs.declared.id.NodeId.{NodeId}

and-false : (b : Bool) → (b && false) ≡ false
and-false true = refl
and-false false = refl

-- ---- the parts of a record type
type_and : (x : Option Meaning) (y : Option (List Meaning)) (b : Bool) → b ≡ elim y [ None ↦ false | Some ps ↦ list_all is_type ps ] → (is_type_at x && b) ≡ elim (option_and_then (λ m. option_map (λ rest. m ∷ rest) y) x) [ None ↦ false | Some ps ↦ list_all is_type ps ]
type_and None y b h = refl
type_and (Some (TypeMeaning t)) None b h = h
type_and (Some (TypeMeaning t)) (Some ps) b h = h
type_and (Some m) None b h = refl
type_and (Some m) (Some ps) b h = refl

types_found : (ms : List (Option Meaning)) (is : List ℕ) → list_all (λ i. is_type_at (found ms i)) is ≡ elim (all_found ms is) [ None ↦ false | Some ps ↦ list_all is_type ps ]
types_found ms [] = refl
types_found ms (i ∷ is) = type_and (found ms i) (all_found ms is) (list_all (λ i. is_type_at (found ms i)) is) (types_found ms is)

same_lengths : {A B : Type 0} (xs : List A) (ys : List B) → (same_length xs ys ≡ true) ↔ (length xs ≡ length ys)
same_lengths [] [] = (λ h. refl, λ h. refl)
same_lengths [] (y ∷ ys) = (λ h. absurd (cc), λ h. absurd (omega (arith, h)))
same_lengths (x ∷ xs) [] = (λ h. absurd (cc), λ h. absurd (omega (arith, h)))
same_lengths (x ∷ xs) (y ∷ ys) = let k = same_lengths xs ys in (λ h. ap suc (k.0 h), λ h. k.1 (omega (arith, h)))

three_of_five : (k s a : Bool) → (k && s && a) ≡ (k && s && true && a && true && true)
three_of_five true true true = refl
three_of_five true true false = refl
three_of_five true false true = refl
three_of_five true false false = refl
three_of_five false s true = refl
three_of_five false s false = refl

record_type_at : (names : List (List ℕ)) (is : List ℕ) (o : Option (List Meaning)) (n : Bool) → ((ps : List Meaning) → o ≡ Some ps → n ≡ same_length names ps)
    → (elim o [ None ↦ false | Some ps ↦ list_all is_type ps ] && n && ascends text_cmp names) ≡ is_some (option_and_then (stands_for (RecordLabel names)) o)
record_type_at names is None n h = refl
record_type_at names is (Some ps) n h =
    ap (λ n. list_all is_type ps && n && ascends text_cmp names) (h ps refl) ∙ (three_of_five (list_all is_type ps) (same_length names ps) (ascends text_cmp names) ∙ sym (parts_fit (RecordLabel names) ps))

record_type_fits : (ms : List (Option Meaning)) (names : List (List ℕ)) (ids : List NodeId) (n : Bool) → n ≡ nat_eq (length names) (length ids)
    → (list_all (λ i. is_type_at (found ms i)) (places_of ids) && n && ascends text_cmp names) ≡ Fits (RecordLabel names) ms ids
record_type_fits ms names ids n e =
    ap (λ b. b && n && ascends text_cmp names) (types_found ms (places_of ids))
    ∙ record_type_at names (places_of ids) (all_found ms (places_of ids)) n (λ ps f.
    (let count : length ids ≡ length ps = sym (length-map ids place_of) ∙ as_many_found ms (places_of ids) ps f in
    let k = same_lengths names ps in
    e ∙ one_answer (nat_eq (length names) (length ids)) (same_length names ps) (unsigned_Decides (length names) (length ids)) (λ h. (k.0 h) ∙ sym count, λ h. k.1 (h ∙ count))))

types_first : (t n a : Bool) → n ≡ true → a ≡ true → t ≡ (t && n && a)
types_first true n a h k = sym (λ i. h i && k i)
types_first false n a h k = refl

no_names : (t n a : Bool) → n ≡ false → false ≡ (t && n && a)
no_names true n a h = sym (ap (λ n. n && a) h)
no_names false n a h = refl

no_order : (t n a : Bool) → a ≡ false → false ≡ (t && n && a)
no_order true true a h = sym h
no_order true false a h = refl
no_order false n a h = refl

not_true : (b : Bool) → (b ≡ true → ⊥) → b ≡ false
not_true true h = absurd (h refl)
not_true false h = refl

-- as many types as attributes, which ascend
pub record_type_then : (ms : List (Option Meaning)) (names : List (List ℕ)) (ids : List NodeId) → length names ≡ length ids → ascends text_cmp names ≡ true → list_all (λ i. is_type_at (found ms i)) (places_of ids) ≡ Fits (RecordLabel names) ms ids
record_type_then ms names ids h k =
    types_first (list_all (λ i. is_type_at (found ms i)) (places_of ids)) (nat_eq (length names) (length ids)) (ascends text_cmp names) ((unsigned_Decides (length names) (length ids)).1 h) k ∙ record_type_fits ms names ids (nat_eq (length names) (length ids)) refl

pub record_type_uneven : (ms : List (Option Meaning)) (names : List (List ℕ)) (ids : List NodeId) → ¬ (length names ≡ length ids) → false ≡ Fits (RecordLabel names) ms ids
record_type_uneven ms names ids h =
    no_names (list_all (λ i. is_type_at (found ms i)) (places_of ids)) (nat_eq (length names) (length ids)) (ascends text_cmp names) (not_true (nat_eq (length names) (length ids)) (λ k. h ((unsigned_Decides (length names) (length ids)).0 k))) ∙ record_type_fits ms names ids (nat_eq (length names) (length ids)) refl

pub record_type_unordered : (ms : List (Option Meaning)) (names : List (List ℕ)) (ids : List NodeId) → ascends text_cmp names ≡ false → false ≡ Fits (RecordLabel names) ms ids
record_type_unordered ms names ids h =
    no_order (list_all (λ i. is_type_at (found ms i)) (places_of ids)) (nat_eq (length names) (length ids)) (ascends text_cmp names) h ∙ record_type_fits ms names ids (nat_eq (length names) (length ids)) refl

-- ---- terms of given types
pub typed_held : (ns : List PlainNode) → IsGraph ns → (p : Option Meaning) (ys : List NodeId) (d : NodeId) (j : ℕ) (u : PlainType) → is_term_at p ≡ true → meaning_at ns j ≡ Some (TypeMeaning u)
    → IfSome p (λ m. all_found (meanings ns) (places_of ys) ≡ Some (parts_in m)) → eqb (place_of (get_or ys 0 d)) j ≡ is_typed_at u p
typed_held ns g (Some (TermMeaning t)) ys d j u h a f =
    let i : ℕ = place_of (get_or ys 0 d) in
    let b : meaning_at ns i ≡ Some (TypeMeaning (type_of t)) = first_found (meanings ns) ys d (TypeMeaning (type_of t)) (term_parts t) f in
    one_answer (eqb i j) (type_eq (type_of t) u) (unsigned_Decides i j) (
      λ q. (let same : type_of t ≡ u = (types_decided (type_of t) u).0 q in
          places_differ ns g i j (TypeMeaning (type_of t)) b (a ∙ ap (λ v. Some (TypeMeaning v)) (sym same))),
      λ q. (let same : Some (TypeMeaning (type_of t)) ≡ Some (TypeMeaning u) = sym b ∙ (ap (meaning_at ns) q ∙ a) in
          let type : type_of t ≡ u = cc in
          (types_decided (type_of t) u).1 type),
    )
typed_held ns g p ys d j u h a f = absurd (cc)

-- the first part of a term is there
pub no_parts : (ns : List PlainNode) (p : Option Meaning) (ys : List NodeId) → is_term_at p ≡ true → IfSome p (λ m. all_found (meanings ns) (places_of ys) ≡ Some (parts_in m)) → ys ≡ [] → ⊥
no_parts ns (Some (TermMeaning t)) ys h f e =
    let none : Some [] ≡ Some (TypeMeaning (type_of t) ∷ term_parts t) = sym (ap (λ l. all_found (meanings ns) (places_of l)) e) ∙ f in
    cc
no_parts ns p ys h f e = absurd (cc)

-- a list of types by the first and the others
pub types_split : (ms : List (Option Meaning)) (i : ℕ) (is : List ℕ) (us : List PlainType) → all_found ms (i ∷ is) ≡ Some (map TypeMeaning us)
    → (u : PlainType) × (rest : List PlainType) × (us ≡ u ∷ rest) × (found ms i ≡ Some (TypeMeaning u)) × (all_found ms is ≡ Some (map TypeMeaning rest))
types_split ms i is [] h = let (m, rest, e, f, d) = head_found ms i is [] h in absurd (cc)
types_split ms i is (u ∷ us) h =
    let (m, rest, e, f, d) = head_found ms i is (TypeMeaning u ∷ map TypeMeaning us) h in
    let first : m ≡ TypeMeaning u = cc in
    let others : rest ≡ map TypeMeaning us = cc in
    (u, us, refl, e ∙ ap Some first, f ∙ ap Some others)

typed_more : (u : PlainType) (us : List PlainType) (x : Option Meaning) (y : Option (List Meaning)) → (is_typed_at u x && are_typed_at us y) ≡ are_typed_at (u ∷ us) (option_and_then (λ m. option_map (λ rest. m ∷ rest) y) x)
typed_more u us None y = refl
typed_more u us (Some (TermMeaning t)) None = and-false (type_eq (type_of t) u)
typed_more u us (Some (TermMeaning t)) (Some ms) = refl
typed_more u us (Some m) None = refl
typed_more u us (Some m) (Some ms) = refl

-- terms and types by the first ones and the others
typed_next : (ms : List (Option Meaning)) (ids is : List NodeId) (id : NodeId) (us rest : List PlainType) (u : PlainType) (a b : Bool) → ids ≡ id ∷ is → us ≡ u ∷ rest → a ≡ is_typed_at u (found ms (place_of id)) → b ≡ are_typed_at rest (all_found ms (places_of is))
    → (a && b) ≡ are_typed_at us (all_found ms (places_of ids))
typed_next ms ids is id us rest u a b e d h k =
    let P : List PlainType → List NodeId → Type 0 = λ us ids. (a && b) ≡ are_typed_at us (all_found ms (places_of ids)) in
    let whole : P (u ∷ rest) (id ∷ is) = (λ i. h i && k i) ∙ typed_more u rest (found ms (place_of id)) (all_found ms (places_of is)) in
    subst (λ us. P us ids) (sym d) (subst (P (u ∷ rest)) (sym e) whole)

-- the others decide it where the first has its type
pub typed_then : (ms : List (Option Meaning)) (ids is : List NodeId) (id : NodeId) (us rest : List PlainType) (u : PlainType) (a b : Bool) → ids ≡ id ∷ is → us ≡ u ∷ rest → a ≡ is_typed_at u (found ms (place_of id)) → a ≡ true → b ≡ are_typed_at rest (all_found ms (places_of is))
    → b ≡ are_typed_at us (all_found ms (places_of ids))
typed_then ms ids is id us rest u a b e d h t k = sym (ap (λ a. a && b) t) ∙ typed_next ms ids is id us rest u a b e d h k

pub typed_else : (ms : List (Option Meaning)) (ids is : List NodeId) (id : NodeId) (us rest : List PlainType) (u : PlainType) (a : Bool) → ids ≡ id ∷ is → us ≡ u ∷ rest → a ≡ is_typed_at u (found ms (place_of id)) → a ≡ false → a ≡ are_typed_at us (all_found ms (places_of ids))
typed_else ms ids is id us rest u a e d h t =
    t ∙ (sym (ap (λ a. a && are_typed_at rest (all_found ms (places_of is))) t) ∙ typed_next ms ids is id us rest u a (are_typed_at rest (all_found ms (places_of is))) e d h refl)

no_types : (x : Option Meaning) (y : Option (List Meaning)) → false ≡ are_typed_at [] (option_and_then (λ m. option_map (λ rest. m ∷ rest) y) x)
no_types None y = refl
no_types (Some m) None = refl
no_types (Some m) (Some ms) = refl

-- terms, where no type is left
none_listed : (ids : List NodeId) → length ids ≡ 0 → ids ≡ []
none_listed [] h = refl
none_listed (id ∷ ids) h = absurd (omega (arith, h))

pub typed_longer : (ms : List (Option Meaning)) (ids is types : List NodeId) (id : NodeId) (us : List PlainType) → ids ≡ id ∷ is → length types ≡ 0 → all_found ms (places_of types) ≡ Some (map TypeMeaning us) → false ≡ are_typed_at us (all_found ms (places_of ids))
typed_longer ms ids is types id [] e d h = no_types (found ms (place_of id)) (all_found ms (places_of is)) ∙ ap (λ ids. are_typed_at [] (all_found ms (places_of ids))) (sym e)
typed_longer ms ids is types id (u ∷ us) e d h = let none : Some [] ≡ Some (map TypeMeaning (u ∷ us)) = sym (ap (λ l. all_found ms (places_of l)) (none_listed types d)) ∙ h in absurd (cc)

-- no terms
typed_none_left : (ms : List (Option Meaning)) (ids types : List NodeId) (us : List PlainType) (r : Bool) → ids ≡ [] → all_found ms (places_of types) ≡ Some (map TypeMeaning us) → r ≡ nat_eq (length types) 0 → r ≡ are_typed_at us (all_found ms (places_of ids))
typed_none_left ms ids [] [] r e h k = k ∙ ap (λ ids. are_typed_at [] (all_found ms (places_of ids))) (sym e)
typed_none_left ms ids [] (u ∷ us) r e h k = absurd (cc)
typed_none_left ms ids (t ∷ types) [] r e h k = let (m, rest, a, f, d) = head_found ms (place_of t) (places_of types) [] h in absurd (cc)
typed_none_left ms ids (t ∷ types) (u ∷ us) r e h k = k ∙ (eqb-suc-zero (length types) ∙ ap (λ ids. are_typed_at (u ∷ us) (all_found ms (places_of ids))) (sym e))

pub typed_none : (ms : List (Option Meaning)) (ids types : List NodeId) (us : List PlainType) (r : Bool) → length ids ≡ 0 → all_found ms (places_of types) ≡ Some (map TypeMeaning us) → r ≡ nat_eq (length types) 0 → r ≡ are_typed_at us (all_found ms (places_of ids))
typed_none ms ids types us r e h k = typed_none_left ms ids types us r (none_listed ids e) h k

-- ---- records: their terms have the types of their type
abbrev record_test : AttributeTypes → Option PlainFields → Bool
record_test x o = elim o [ None ↦ false | Some fs ↦ type_eq (RecordType (field_types fs)) (RecordType x) ]

eq-then : (o p : Ordering) → is_eq (ordering_then o p) ≡ (is_eq o && is_eq p)
eq-then Less p = refl
eq-then Equal p = refl
eq-then Greater p = refl

one_more : (a : List ℕ) (t : PlainTerm) (u : PlainType) (x : AttributeTypes) (o : Option PlainFields) → (type_eq (type_of t) u && record_test x o) ≡ record_test (attribute a u x) (option_map (one_field a t) o)
one_more a t u x None = and-false (type_eq (type_of t) u)
one_more a t u x (Some fs) =
    sym (ap (λ o. is_eq (ordering_then (ordering_then o (type_cmp (type_of t) u)) (type_cmp (RecordType (field_types fs)) (RecordType x)))) (text_itself a) ∙ eq-then (type_cmp (type_of t) u) (type_cmp (RecordType (field_types fs)) (RecordType x)))

record_typed : (x : AttributeTypes) (ms : List Meaning) → are_typed (types_listed x) ms ≡ record_test x (fields_in (attribute_names x) ms)
record_typed no_attributes [] = sym ((types_decided (RecordType no_attributes) (RecordType no_attributes)).1 refl)
record_typed no_attributes (m ∷ ms) = refl
record_typed (attribute a u x) [] = refl
record_typed (attribute a u x) (TermMeaning t ∷ ms) = ap (λ b. type_eq (type_of t) u && b) (record_typed x ms) ∙ one_more a t u x (fields_in (attribute_names x) ms)
record_typed (attribute a u x) (TypeMeaning t ∷ ms) = refl
record_typed (attribute a u x) (FunctionMeaning f ∷ ms) = refl

only_test : (x : AttributeTypes) (o : Option PlainFields) → record_test x o ≡ is_some (option_and_then (typed_as (RecordType x)) (option_map RecordTerm o))
only_test x None = refl
only_test x (Some fs) = tested (type_eq (RecordType (field_types fs)) (RecordType x)) (TermMeaning (RecordTerm fs))
  where
    tested : (b : Bool) (m : Meaning) → b ≡ is_some (then_some b m)
    tested true m = refl
    tested false m = refl

pub record_ascends : (ns : List PlainNode) → IsGraph ns → (i : ℕ) (x : AttributeTypes) → meaning_at ns i ≡ Some (TypeMeaning (RecordType x)) → ascends text_cmp (attribute_names x) ≡ true
record_ascends ns g i x h = (only_back (ascends text_cmp (attribute_names x)) (option_map (λ x. TypeMeaning (RecordType x)) (attributes_in (attribute_names x) (types_in x))) _ (made_so ns g i (TypeMeaning (RecordType x)) h)).0

record_parts : (x : AttributeTypes) → ascends text_cmp (attribute_names x) ≡ true → (y : Option (List Meaning)) → are_typed_at (types_listed x) y ≡ is_some (option_and_then (stands_for (RecordOfLabel (attribute_names x))) (option_map (λ rest. TypeMeaning (RecordType x) ∷ rest) y))
record_parts x a None = refl
record_parts x a (Some ms) =
    record_typed x ms ∙ (only_test x (fields_in (attribute_names x) ms) ∙ ap (λ b. is_some (option_and_then (typed_as (RecordType x)) (only_if b (option_map RecordTerm (fields_in (attribute_names x) ms))))) (sym a))

-- where the first number stands for a type of records of the attributes
pub record_fits_then : (ns : List PlainNode) → IsGraph ns → (names : List (List ℕ)) (ty : NodeId) (rest ids types : List NodeId) (r : Bool) → IsRecordAt names (meaning_at ns (place_of ty)) → ids ≡ ty ∷ rest → IfSome (meaning_at ns (place_of ty)) (λ m. all_found (meanings ns) (places_of types) ≡ Some (parts_in m))
    → ((us : List PlainType) → all_found (meanings ns) (places_of types) ≡ Some (map TypeMeaning us) → r ≡ are_typed_at us (all_found (meanings ns) (places_of rest))) → r ≡ Fits (RecordOfLabel names) (meanings ns) ids
record_fits_then ns g names ty rest ids types r (x, at, same) e f h =
    let P : Option Meaning → Type 0 = λ o. IfSome o (λ m. all_found (meanings ns) (places_of types) ≡ Some (parts_in m)) in
    let parts : all_found (meanings ns) (places_of types) ≡ Some (map TypeMeaning (types_listed x)) = subst P at f ∙ ap Some (types_in-listed x) in
    h (types_listed x) parts
    ∙ (record_parts x (record_ascends ns g (place_of ty) x at) (all_found (meanings ns) (places_of rest))
    ∙ (ap (λ o. is_some (option_and_then (stands_for (RecordOfLabel (attribute_names x))) (option_and_then (λ m. option_map (λ rest. m ∷ rest) (all_found (meanings ns) (places_of rest))) o))) (sym at)
    ∙ (ap (λ l. is_some (option_and_then (stands_for (RecordOfLabel l)) (all_found (meanings ns) (places_of (ty ∷ rest))))) (sym same)
    ∙ ap (Fits (RecordOfLabel names) (meanings ns)) (sym e))))

-- where it does not, nothing fits
made_record : (names : List (List ℕ)) (m : Meaning) (ms : List Meaning) (n : Meaning) → stands_for (RecordOfLabel names) (m ∷ ms) ≡ Some n → IsRecordAt names (Some m)
made_record names (TypeMeaning t) ms n h =
    let (u, e, s, k) = typed_back (RecordOfLabel names) t ms n h in
    let (b, c) = only_back (ascends text_cmp names) (option_map RecordTerm (fields_in names ms)) u e in
    let (fs, f, d) = map_back RecordTerm (fields_in names ms) u c in
    (field_types fs, ap (λ t. Some (TypeMeaning t)) (sym s ∙ ap type_of (sym d)), (fields_back names ms fs f).0 ∙ sym (field_names-typed fs))
made_record names (FunctionMeaning q) ms n h = absurd (cc)
made_record names (TermMeaning q) ms n h = absurd (cc)

nothing_made : (names : List (List ℕ)) (x : Option Meaning) (y : Option (List Meaning)) (o : Option Meaning) → ¬ IsRecordAt names x → option_and_then (stands_for (RecordOfLabel names)) (option_and_then (λ m. option_map (λ rest. m ∷ rest) y) x) ≡ o → false ≡ is_some o
nothing_made names x y None n h = refl
nothing_made names x y (Some k) n h =
    let (ps, e, d) = then_back (stands_for (RecordOfLabel names)) (option_and_then (λ m. option_map (λ rest. m ∷ rest) y) x) k h in
    let (m, a, b) = then_back (λ m. option_map (λ rest. m ∷ rest) y) x ps e in
    let (rest, f, c) = map_back (λ rest. m ∷ rest) y ps b in
    absurd (n (subst (IsRecordAt names) (sym a) (made_record names m rest k (ap (stands_for (RecordOfLabel names)) c ∙ d))))

pub record_fits_else : (ms : List (Option Meaning)) (names : List (List ℕ)) (ty : NodeId) (rest ids : List NodeId) → ¬ IsRecordAt names (found ms (place_of ty)) → ids ≡ ty ∷ rest → false ≡ Fits (RecordOfLabel names) ms ids
record_fits_else ms names ty rest ids n e =
    nothing_made names (found ms (place_of ty)) (all_found ms (places_of rest)) _ n refl ∙ ap (Fits (RecordOfLabel names) ms) (sym e)

-- ---- the label of a type of records
no_term : (t : PlainTerm) (names : List (List ℕ)) → RecordLabel names ≡ term_label t → ⊥
no_term (Application (UufOp f) ts t) names e = cc
no_term (Application o ts t) names e = cc
no_term t names e = cc

pub record_at : (o : Option Meaning) (names : List (List ℕ)) → Some (RecordLabel names) ≡ option_map label_in o → IsRecordAt names o
record_at (Some (TypeMeaning (RecordType x))) names h = (x, refl, cc)
record_at None names h = absurd (cc)
record_at (Some (TypeMeaning t)) names h = absurd (cc)
record_at (Some (FunctionMeaning f)) names h = absurd (cc)
record_at (Some (TermMeaning t)) names h = absurd (no_term t names (some_same _ _ h))

pub label_of_record : (o : Option Meaning) (names : List (List ℕ)) → IsRecordAt names o → option_map label_in o ≡ Some (RecordLabel names)
label_of_record o names (x, at, same) = ap (option_map label_in) at ∙ ap (λ l. Some (RecordLabel l)) (sym same)

-- the same type of records
pub same_names : (o : Option Meaning) (names own : List (List ℕ)) → IsRecordAt own o → IsRecordAt names o → own ≡ names
same_names o names own (x, at, same) (y, at', same') =
    let both : RecordType x ≡ RecordType y = cc in
    let types : x ≡ y = cc in
    same ∙ (ap attribute_names types ∙ sym same')

-- ---- lists of attributes
pub texts_count : (names : List (RcStr Global)) → length (texts names) ≡ length names
texts_count names = length-map names rc_str_bytes

-- as `==` compares them
abbrev pub same_attributes : List (RcStr Global) → List (RcStr Global) → Bool
same_attributes xs ys = pointwise (λ x y. bytes_eq (rc_str_bytes x) (rc_str_bytes y)) xs ys

compared_texts : (xs ys : List (RcStr Global)) → same_attributes xs ys ≡ pointwise bytes_eq (texts xs) (texts ys)
compared_texts [] [] = refl
compared_texts [] (y ∷ ys) = refl
compared_texts (x ∷ xs) [] = refl
compared_texts (x ∷ xs) (y ∷ ys) = ap (λ b. bytes_eq (rc_str_bytes x) (rc_str_bytes y) && b) (compared_texts xs ys)

pub attributes_decide : (xs ys : List (RcStr Global)) (r : Bool) → r ≡ same_attributes xs ys → (r ≡ true) ↔ (texts xs ≡ texts ys)
attributes_decide xs ys r e = slice_eq-Decides bytes_eq-Decides (texts xs) (texts ys) r (e ∙ compared_texts xs ys)

-- a type of records of some attributes is one of these exactly where they are the same
pub is_record_at : (m : Option Meaning) (own names : List (RcStr Global)) (r : Bool) → r ≡ same_attributes own names → IsRecordAt (texts own) m → (r ≡ true) ↔ IsRecordAt (texts names) m
is_record_at m own names r e h =
    let d = attributes_decide own names r e in (
      λ t. subst (λ l. IsRecordAt l m) (d.0 t) h,
      λ k. d.1 (same_names m (texts names) (texts own) h k),
    )

-- ---- the type of a record
tested_fields : (x : AttributeTypes) (fs : PlainFields) → attribute_names x ≡ field_names fs → are_typed (types_listed x) (field_terms fs) ≡ type_eq (RecordType (field_types fs)) (RecordType x)
tested_fields x fs e =
    record_typed x (field_terms fs) ∙ (ap (λ l. record_test x (fields_in l (field_terms fs))) e ∙ ap (record_test x) (fields_round fs))

-- terms of the types of a type of records with their attributes: it is the record's
pub type_of_fields : (ms : List (Option Meaning)) (m : Option Meaning) (own : List (List ℕ)) (types inner : List NodeId) (fs : PlainFields) (r : Bool) → IsRecordAt own m → own ≡ field_names fs → IfSome m (λ m. all_found ms (places_of types) ≡ Some (parts_in m))
    → ((us : List PlainType) → all_found ms (places_of types) ≡ Some (map TypeMeaning us) → r ≡ are_typed_at us (all_found ms (places_of inner))) → all_found ms (places_of inner) ≡ Some (field_terms fs)
    → (r ≡ true) ↔ (m ≡ Some (TypeMeaning (RecordType (field_types fs))))
type_of_fields ms m own types inner fs r (x, at, same) names f h k =
    let P : Option Meaning → Type 0 = λ o. IfSome o (λ m. all_found ms (places_of types) ≡ Some (parts_in m)) in
    let parts : all_found ms (places_of types) ≡ Some (map TypeMeaning (types_listed x)) = subst P at f ∙ ap Some (types_in-listed x) in
    let whole : r ≡ type_eq (RecordType (field_types fs)) (RecordType x) = h (types_listed x) parts ∙ (ap (are_typed_at (types_listed x)) k ∙ tested_fields x fs (sym same ∙ names)) in
    let d = types_decided (RecordType (field_types fs)) (RecordType x) in (
      λ t. at ∙ ap (λ t. Some (TypeMeaning t)) (sym (d.0 (sym whole ∙ t))),
      λ e. (let both : Some (TypeMeaning (RecordType x)) ≡ Some (TypeMeaning (RecordType (field_types fs))) = sym at ∙ e in
          let type : RecordType (field_types fs) ≡ RecordType x = cc in
          whole ∙ d.1 type),
    )

-- other attributes, or no type of records
pub other_attributes : (m : Option Meaning) (own : List (List ℕ)) (fs : PlainFields) (a : Bool) → IsRecordAt own m → (a ≡ true) ↔ (own ≡ field_names fs) → a ≡ false → (a ≡ true) ↔ (m ≡ Some (TypeMeaning (RecordType (field_types fs))))
other_attributes m own fs a h d n = (
  λ t. absurd (false≢true (sym n ∙ t)),
  λ e. d.1 (same_names m (field_names fs) own h (field_types fs, e, sym (field_names-typed fs))),
)

pub no_record_type : (m : Option Meaning) (fs : PlainFields) → ((names : List (List ℕ)) → option_map label_in m ≡ Some (RecordLabel names) → ⊥) → (false ≡ true) ↔ (m ≡ Some (TypeMeaning (RecordType (field_types fs))))
no_record_type m fs n = (λ t. absurd (false≢true t), λ e. absurd (n (attribute_names (field_types fs)) (ap (option_map label_in) e)))
