-- What a number stands for is known by its node's label and by what its parts stand for.
use Rattle.std.proofs.Common.{◌≡◌, ℕ, suc, ◌<◌, ◌≤◌, ◌+◌, inl, inr, Bool, true, false, List, [], ◌∷◌, arith, get_or, length, map, refl, sym, ap, ◌∙◌, subst}
use Rattle.std.proofs.lemmas.Bool.{cases_Bool, false≢true}
use Rattle.std.proofs.Math.Dec.{eqb-suc-zero}
use Rattle.std.proofs.lemmas.List.{length-map}
use Rattle.std.specs.Cmp.{unsigned_Decides}
use Rattle.std.specs.declared.alloc.Global.{Global}
use Rattle.std.specs.Prelude.{◌↔◌, IfSome, nat_eq, Option, Some, None, option_and_then, option_map, slice_get}
use Rattle.law_terms.specs.Plain.{PlainType, OptionType, RecordType, SetType, AttributeTypes, PlainLiteral, PlainOp, UufOp, PlainTerm, Application, NoneTerm, LiteralTerm, RecordTerm, SetTerm, SomeTerm, VariableTerm, PlainTerms, PlainFields, terms, list_of_terms}
use Rattle.law_terms.specs.Types.{literal_type, type_of}
use Rattle.law_terms.specs.ValueOrder.{ascends, text_cmp}
use Rattle.law_terms.proofs.TermTotal.{types_decided}
use Rattle.law_terms.specs.Graphs.{IsGraph}
use Rattle.law_terms.specs.Meanings.{all_found, attributes_in, fields_in, found, meaning_at, meanings, only_if, stands_for, term_made, terms_in, typed_as}
use Rattle.law_terms.specs.Nodes.{PlainLabel, PlainNode, Meaning, TypeMeaning, FunctionMeaning, TermMeaning}
use Rattle.law_terms.specs.Parts.{field_names, field_terms, label_in, parts_in, term_label, term_parts, types_in, attribute_names}
use Rattle.law_terms.proofs.Distinct.{Stands, node_stands, nothing_past}
use Rattle.law_terms.proofs.Places.{map_back, only_back, some_same, test_back, then_back}
use Rattle.law_terms.proofs.Whole.{round, typed_back, whole}
use Rattle.smt_term.specs.View.{plain_function, plain_op}
use Rattle.std.specs.declared.rc.Rc.{Rc}
use Rattle.smt_term.specs.declared.function.Uuf.{Uuf as Function}
use Rattle.smt_term.specs.declared.op.Op.{Op}
use Rattle.smt_term.specs.declared.op.Op.TheVariants.{And, Uuf}
use Rattle.smt_nodes.proofs.Matching.{IsNoFunction}
use Rattle.smt_nodes.proofs.Comparing.{head_found}
use Rattle.smt_nodes.proofs.Interning.{are_terms_in}
use Rattle.smt_nodes.proofs.RecordParts.{Listing, attributes_round, fields_round}
use Rattle.smt_nodes.specs.Kinds.{is_option_of_at, is_type_of_at}
use Rattle.smt_nodes.specs.View.{place_of, places_of}
use Rattle.smt_nodes.specs.declared.id.NodeId.{NodeId}
use Rattle.law_terms.proofs.Listed.{listed_again}

-- ---- a meaning is determined by its label and its parts
-- a term that terms make, which are those of a list
made_of : (f : List PlainTerm → PlainTerm) (ts : PlainTerms) (v : PlainTerm) → option_map f (terms_in (map TermMeaning (list_of_terms ts))) ≡ Some v → f (list_of_terms ts) ≡ v
made_of f ts v h = some_same (f (list_of_terms ts)) v (sym (ap (option_map f) (are_terms_in (list_of_terms ts))) ∙ h)

applied_again : (o : PlainOp) (ts : PlainTerms) (t : PlainType) (v : PlainTerm) → option_map (λ us. Application o (terms us) t) (terms_in (map TermMeaning (list_of_terms ts))) ≡ Some v → Application o ts t ≡ v
applied_again o ts t v h = ap (λ us. Application o us t) (sym (listed_again ts)) ∙ made_of (λ us. Application o (terms us) t) ts v h

record_again : (x : PlainFields) (v : PlainTerm) → only_if (ascends text_cmp (field_names x)) (option_map RecordTerm (fields_in (field_names x) (field_terms x))) ≡ Some v → RecordTerm x ≡ v
record_again x v h =
    let (b, k) = only_back (ascends text_cmp (field_names x)) (option_map RecordTerm (fields_in (field_names x) (field_terms x))) v h in
    some_same (RecordTerm x) v (sym (ap (option_map RecordTerm) (fields_round x)) ∙ k)

set_again : (t : PlainType) (ts : PlainTerms) (v : PlainTerm) → term_made (term_label (SetTerm t ts)) (SetType t) (term_parts (SetTerm t ts)) ≡ Some v → SetTerm t ts ≡ v
set_again t ts v h =
    let (us, e, d) = then_back _ (terms_in (map TermMeaning (list_of_terms ts))) v h in
    let (b, k) = test_back _ (SetTerm t (terms us)) v d in
    let same : list_of_terms ts ≡ us = some_same (list_of_terms ts) us (sym (are_terms_in (list_of_terms ts)) ∙ e) in
    ap (SetTerm t) (sym (listed_again ts) ∙ ap terms same) ∙ k

term_again : (u v : PlainTerm) → term_made (term_label u) (type_of u) (term_parts u) ≡ Some v → u ≡ v
term_again (Application (UufOp f) ts t) v h = applied_again (UufOp f) ts t v h
term_again (Application o ts t) v h = applied_again o ts t v h
term_again (NoneTerm t) v h = some_same (NoneTerm t) v h
term_again (LiteralTerm l) v h = some_same (LiteralTerm l) v h
term_again (RecordTerm x) v h = record_again x v h
term_again (SetTerm t ts) v h = set_again t ts v h
term_again (SomeTerm t) v h = some_same (SomeTerm t) v h
term_again (VariableTerm id t) v h = some_same (VariableTerm id t) v h

typed_again : (u : PlainTerm) (m : Meaning) → option_and_then (typed_as (type_of u)) (term_made (term_label u) (type_of u) (term_parts u)) ≡ Some m → TermMeaning u ≡ m
typed_again u m h =
    let (v, e, s, k) = typed_back (term_label u) (type_of u) (term_parts u) m h in
    ap TermMeaning (term_again u v e) ∙ k

attributes_again : (x : AttributeTypes) (m : Meaning) → only_if (ascends text_cmp (attribute_names x)) (option_map (λ x. TypeMeaning (RecordType x)) (attributes_in (attribute_names x) (types_in x))) ≡ Some m → TypeMeaning (RecordType x) ≡ m
attributes_again x m h =
    let (b, k) = only_back (ascends text_cmp (attribute_names x)) (option_map (λ x. TypeMeaning (RecordType x)) (attributes_in (attribute_names x) (types_in x))) m h in
    some_same (TypeMeaning (RecordType x)) m (sym (ap (option_map (λ x. TypeMeaning (RecordType x))) (attributes_round x)) ∙ k)

-- what label and parts of a meaning stand for is that meaning
again : (n m : Meaning) → stands_for (label_in n) (parts_in n) ≡ Some m → n ≡ m
again (TypeMeaning (RecordType x)) m h = attributes_again x m h
again (TypeMeaning (OptionType t)) m h = some_same _ m h
again (TypeMeaning (SetType t)) m h = some_same _ m h
again (TypeMeaning t) m h = some_same _ m h
again (FunctionMeaning f) m h = some_same _ m h
again (TermMeaning (Application (UufOp f) ts t)) m h = typed_again (Application (UufOp f) ts t) m h
again (TermMeaning (Application o ts t)) m h = typed_again (Application o ts t) m h
again (TermMeaning (NoneTerm t)) m h = typed_again (NoneTerm t) m h
again (TermMeaning (LiteralTerm l)) m h = typed_again (LiteralTerm l) m h
again (TermMeaning (RecordTerm x)) m h = typed_again (RecordTerm x) m h
again (TermMeaning (SetTerm t ts)) m h = typed_again (SetTerm t ts) m h
again (TermMeaning (SomeTerm t)) m h = typed_again (SomeTerm t) m h
again (TermMeaning (VariableTerm id t)) m h = typed_again (VariableTerm id t) m h

-- ---- what a number stands for, by the label and by the parts of its node
-- where something is meant there is a node
some_node : (ns : List PlainNode) (i : ℕ) (m : Meaning) → meaning_at ns i ≡ Some m → (o : Option PlainNode) → slice_get ns i ≡ o → (n : PlainNode) × (slice_get ns i ≡ Some n)
some_node ns i m h (Some n) e = (n, e)
some_node ns i m h None e = let none : None ≡ Some m = sym (nothing_past ns i e) ∙ h in absurd (cc)

-- label and parts of what is meant at a place stand for it
pub made_so : (ns : List PlainNode) → IsGraph ns → (i : ℕ) (m : Meaning) → meaning_at ns i ≡ Some m → stands_for (label_in m) (parts_in m) ≡ Some m
made_so ns g i m h =
    let (n, e) = some_node ns i m h (slice_get ns i) refl in
    let s : Stands ns i n = node_stands ns g i n e in
    let same : s.meaning ≡ m = some_same s.meaning m (sym s.here ∙ h) in
    let w = whole n.label s.parts m (s.label ∙ ap Some same) in
    sym (ap (λ l. stands_for l s.parts) w.0 ∙ ap (stands_for (label_in m)) w.1) ∙ (s.label ∙ ap Some same)

-- the test of the parts, where the label is that of what is looked for
pub decided_by_parts : (ns : List PlainNode) → IsGraph ns → (i : ℕ) (l : PlainLabel) (xs : List NodeId) (n : Meaning) (b : Bool) → Some l ≡ option_map label_in (meaning_at ns i) → l ≡ label_in n
    → IfSome (meaning_at ns i) (λ m. all_found (meanings ns) (places_of xs) ≡ Some (parts_in m)) → (b ≡ true) ↔ (all_found (meanings ns) (places_of xs) ≡ Some (parts_in n)) → (b ≡ true) ↔ (meaning_at ns i ≡ Some n)
decided_by_parts ns g i l xs n b k e f t =
    let P : Option Meaning → Type 0 = λ o. IfSome o (λ m. all_found (meanings ns) (places_of xs) ≡ Some (parts_in m)) in (
      λ h.
          let (m, at, d) = map_back label_in (meaning_at ns i) l (sym k) in
          let own : all_found (meanings ns) (places_of xs) ≡ Some (parts_in m) = subst P at f in
          let parts : parts_in n ≡ parts_in m = some_same (parts_in n) (parts_in m) (sym (t.0 h) ∙ own) in
          let label : label_in n ≡ label_in m = sym e ∙ sym d in
          at ∙ ap Some (sym (again n m (ap (λ l. stands_for l (parts_in n)) label ∙ (ap (stands_for (label_in m)) parts ∙ made_so ns g i m at)))),
      λ h. t.1 (subst P h f),
    )

-- ---- numbers in order, by the first and by the others
first_and_others : (ms : List (Option Meaning)) (i : ℕ) (is : List ℕ) (m : Meaning) (ps : List Meaning) → all_found ms (i ∷ is) ≡ Some (m ∷ ps) → (found ms i ≡ Some m) × (all_found ms is ≡ Some ps)
first_and_others ms i is m ps h =
    let (k, rest, e, f, d) = head_found ms i is (m ∷ ps) h in
    let first : k ≡ m = cc in
    let others : rest ≡ ps = cc in
    (e ∙ ap Some first, f ∙ ap Some others)

all_of : (ms : List (Option Meaning)) (i : ℕ) (is : List ℕ) (m : Meaning) (ps : List Meaning) → found ms i ≡ Some m → all_found ms is ≡ Some ps → all_found ms (i ∷ is) ≡ Some (m ∷ ps)
all_of ms i is m ps e f = ap (option_and_then (λ m. option_map (λ rest. m ∷ rest) (all_found ms is))) e ∙ ap (option_map (λ rest. m ∷ rest)) f

-- b is the test of the others, where the test of the first is passed; and the answer where it is not
pub first_right : (ms : List (Option Meaning)) (ids rest : List NodeId) (id : NodeId) (m : Meaning) (ps qs : List Meaning) (a b : Bool) → ids ≡ id ∷ rest → qs ≡ m ∷ ps → (a ≡ true) ↔ (found ms (place_of id) ≡ Some m) → a ≡ true → (b ≡ true) ↔ (all_found ms (places_of rest) ≡ Some ps)
    → (b ≡ true) ↔ (all_found ms (places_of ids) ≡ Some qs)
first_right ms ids rest id m ps qs a b e q f h g =
    let T : List NodeId → List Meaning → Type 0 = λ ids qs. (b ≡ true) ↔ (all_found ms (places_of ids) ≡ Some qs) in
    let whole : T (id ∷ rest) (m ∷ ps) = (
      λ t. all_of ms (place_of id) (places_of rest) m ps (f.0 h) (g.0 t),
      λ k. g.1 (first_and_others ms (place_of id) (places_of rest) m ps k).1,
    ) in
    subst (λ ids. T ids qs) (sym e) (subst (T (id ∷ rest)) (sym q) whole)

pub first_wrong : (ms : List (Option Meaning)) (ids rest : List NodeId) (id : NodeId) (m : Meaning) (ps qs : List Meaning) (a : Bool) → ids ≡ id ∷ rest → qs ≡ m ∷ ps → (a ≡ true) ↔ (found ms (place_of id) ≡ Some m) → a ≡ false
    → (a ≡ true) ↔ (all_found ms (places_of ids) ≡ Some qs)
first_wrong ms ids rest id m ps qs a e q f h = (
  λ t. absurd (false≢true (sym h ∙ t)),
  λ k. f.1 (first_and_others ms (place_of id) (places_of rest) m ps (sym (ap (λ ids. all_found ms (places_of ids)) e) ∙ (k ∙ ap Some q))).0,
)

-- what stands first, where what is left stands for the others
others_right : (ms : List (Option Meaning)) (i : ℕ) (is : List ℕ) (m : Meaning) (ps : List Meaning) (b : Bool) → (b ≡ true) ↔ (found ms i ≡ Some m) → all_found ms is ≡ Some ps → (b ≡ true) ↔ (all_found ms (i ∷ is) ≡ Some (m ∷ ps))
others_right ms i is m ps b f h = (λ t. all_of ms i is m ps (f.0 t) h, λ k. f.1 (first_and_others ms i is m ps k).0)

-- the same where the others are looked at first: b is the test of the first, where that of the others is passed
pub first_behind : (ms : List (Option Meaning)) (ids rest : List NodeId) (id : NodeId) (m : Meaning) (ps qs : List Meaning) (a b : Bool) → ids ≡ id ∷ rest → qs ≡ m ∷ ps → (a ≡ true) ↔ (all_found ms (places_of rest) ≡ Some ps) → a ≡ true → (b ≡ true) ↔ (found ms (place_of id) ≡ Some m)
    → (b ≡ true) ↔ (all_found ms (places_of ids) ≡ Some qs)
first_behind ms ids rest id m ps qs a b e q f h g =
    let T : List NodeId → List Meaning → Type 0 = λ ids qs. (b ≡ true) ↔ (all_found ms (places_of ids) ≡ Some qs) in
    subst (λ ids. T ids qs) (sym e) (subst (T (id ∷ rest)) (sym q) (others_right ms (place_of id) (places_of rest) m ps b g (f.0 h)))

pub others_wrong : (ms : List (Option Meaning)) (ids rest : List NodeId) (id : NodeId) (m : Meaning) (ps qs : List Meaning) (a : Bool) → ids ≡ id ∷ rest → qs ≡ m ∷ ps → (a ≡ true) ↔ (all_found ms (places_of rest) ≡ Some ps) → a ≡ false
    → (a ≡ true) ↔ (all_found ms (places_of ids) ≡ Some qs)
others_wrong ms ids rest id m ps qs a e q f h = (
  λ t. absurd (false≢true (sym h ∙ t)),
  λ k. f.1 (first_and_others ms (place_of id) (places_of rest) m ps (sym (ap (λ ids. all_found ms (places_of ids)) e) ∙ (k ∙ ap Some q))).1,
)

-- lists by their lengths
only_one : (xs : List NodeId) (d : NodeId) → 1 ≤ length xs → length xs < 2 → xs ≡ get_or xs 0 d ∷ []
only_one [] d h k = absurd (omega arith)
only_one (x ∷ []) d h k = refl
only_one (x ∷ y ∷ xs) d h k = absurd (omega arith)

pub as_many_found : (ms : List (Option Meaning)) (is : List ℕ) (ps : List Meaning) → all_found ms is ≡ Some ps → length is ≡ length ps
as_many_found ms [] ps h = ap length (some_same [] ps h)
as_many_found ms (i ∷ is) ps h =
    let (m, rest, e, f, d) = head_found ms i is ps h in
    let k : length is ≡ length rest = as_many_found ms is rest f in ap suc k ∙ ap length d

pub none_left : (ms : List (Option Meaning)) (ids : List NodeId) (ps : List Meaning) (b : Bool) → b ≡ nat_eq (length ids) 0 → ps ≡ [] → (b ≡ true) ↔ (all_found ms (places_of ids) ≡ Some ps)
none_left ms [] ps b h e = (λ t. ap Some (sym e), λ k. h)
none_left ms (id ∷ ids) ps b h e = (
  λ t. absurd (false≢true (sym (eqb-suc-zero (length ids)) ∙ (sym h ∙ t))),
  λ k. (let (m, rest, a, f, d) = head_found ms (place_of id) (places_of ids) ps k in absurd (cc)),
)

pub other_count : (ms : List (Option Meaning)) (ids : List NodeId) (ps : List Meaning) → ¬ (length ids ≡ length ps) → (false ≡ true) ↔ (all_found ms (places_of ids) ≡ Some ps)
other_count ms ids ps n = (λ t. absurd (false≢true t), λ k. absurd (n (sym (length-map ids place_of) ∙ as_many_found ms (places_of ids) ps k)))

-- ---- types of literals and of options
pub literal_typed : (o : Option Meaning) (l : PlainLiteral) (b : Bool) → b ≡ is_type_of_at l o → (b ≡ true) ↔ (o ≡ Some (TypeMeaning (literal_type l)))
literal_typed None l b h = (λ k. absurd (false≢true (sym h ∙ k)), λ k. absurd (cc))
literal_typed (Some (TypeMeaning t)) l b h = (
  λ k. ap (λ t. Some (TypeMeaning t)) (sym ((types_decided (literal_type l) t).0 (sym h ∙ k))),
  λ k. (let same : literal_type l ≡ t = cc in h ∙ (types_decided (literal_type l) t).1 same),
)
literal_typed (Some m) l b h = (λ k. absurd (false≢true (sym h ∙ k)), λ k. absurd (cc))

-- the type of some, where the part stands for the term
option_typed : (o : Option Meaning) (u : PlainTerm) (b : Bool) → b ≡ is_option_of_at o (Some (TermMeaning u)) → (b ≡ true) ↔ (o ≡ Some (TypeMeaning (OptionType (type_of u))))
option_typed None u b h = (λ k. absurd (false≢true (sym h ∙ k)), λ k. absurd (cc))
option_typed (Some (TypeMeaning t)) u b h = (
  λ k. ap (λ t. Some (TypeMeaning t)) (sym ((types_decided (OptionType (type_of u)) t).0 (sym h ∙ k))),
  λ k. (let same : OptionType (type_of u) ≡ t = cc in h ∙ (types_decided (OptionType (type_of u)) t).1 same),
)
option_typed (Some m) u b h = (λ k. absurd (false≢true (sym h ∙ k)), λ k. absurd (cc))

some_typed : (o p : Option Meaning) (u : PlainTerm) (b : Bool) → p ≡ Some (TermMeaning u) → b ≡ is_option_of_at o p → (b ≡ true) ↔ (o ≡ Some (TypeMeaning (OptionType (type_of u))))
some_typed o p u b e h = option_typed o u b (h ∙ ap (is_option_of_at o) e)

-- the same parts, said otherwise
pub at_parts : (ms : List (Option Meaning)) (ids : List NodeId) (b : Bool) (ps qs : List Meaning) → ps ≡ qs → (b ≡ true) ↔ (all_found ms (places_of ids) ≡ Some ps) → (b ≡ true) ↔ (all_found ms (places_of ids) ≡ Some qs)
at_parts ms ids b ps qs e h = subst (λ ps. (b ≡ true) ↔ (all_found ms (places_of ids) ≡ Some ps)) e h

-- an option's type and the one term in it
pub some_right : (ms : List (Option Meaning)) (ids rest : List NodeId) (ty d : NodeId) (u : PlainTerm) (qs : List Meaning) (a b : Bool) → ids ≡ ty ∷ rest → qs ≡ TypeMeaning (OptionType (type_of u)) ∷ TermMeaning u ∷ [] → 1 ≤ length rest → length rest < 2
    → (a ≡ true) ↔ (found ms (place_of (get_or rest 0 d)) ≡ Some (TermMeaning u)) → a ≡ true → b ≡ is_option_of_at (found ms (place_of ty)) (found ms (place_of (get_or rest 0 d))) → (b ≡ true) ↔ (all_found ms (places_of ids) ≡ Some qs)
some_right ms ids rest ty d u qs a b e q h k f t g =
    let part : NodeId = get_or rest 0 d in
    let only : rest ≡ part ∷ [] = only_one rest d h k in
    let T : List NodeId → List Meaning → Type 0 = λ ids qs. (b ≡ true) ↔ (all_found ms (places_of ids) ≡ Some qs) in
    let one : all_found ms (places_of (part ∷ [])) ≡ Some (TermMeaning u ∷ []) = all_of ms (place_of part) [] (TermMeaning u) [] (f.0 t) refl in
    let whole : T (ty ∷ part ∷ []) (TypeMeaning (OptionType (type_of u)) ∷ TermMeaning u ∷ []) =
    others_right ms (place_of ty) (places_of (part ∷ [])) (TypeMeaning (OptionType (type_of u))) (TermMeaning u ∷ []) b (some_typed (found ms (place_of ty)) (found ms (place_of part)) u b (f.0 t) g) one in
    subst (λ ids. T ids qs) (sym (e ∙ ap (λ rest. ty ∷ rest) only)) (subst (T (ty ∷ part ∷ [])) (sym q) whole)

pub some_wrong : (ms : List (Option Meaning)) (ids rest : List NodeId) (ty d : NodeId) (u : PlainTerm) (qs : List Meaning) (a : Bool) → ids ≡ ty ∷ rest → qs ≡ TypeMeaning (OptionType (type_of u)) ∷ TermMeaning u ∷ [] → 1 ≤ length rest → length rest < 2
    → (a ≡ true) ↔ (found ms (place_of (get_or rest 0 d)) ≡ Some (TermMeaning u)) → a ≡ false → (a ≡ true) ↔ (all_found ms (places_of ids) ≡ Some qs)
some_wrong ms ids rest ty d u qs a e q h k f t =
    let part : NodeId = get_or rest 0 d in
    let only : rest ≡ part ∷ [] = only_one rest d h k in (
      λ r. absurd (false≢true (sym t ∙ r)),
      λ r.
          let all : all_found ms (places_of (ty ∷ part ∷ [])) ≡ Some (TypeMeaning (OptionType (type_of u)) ∷ TermMeaning u ∷ []) = sym (ap (λ ids. all_found ms (places_of ids)) (e ∙ ap (λ rest. ty ∷ rest) only)) ∙ (r ∙ ap Some q) in
          let others = (first_and_others ms (place_of ty) (places_of (part ∷ [])) (TypeMeaning (OptionType (type_of u))) (TermMeaning u ∷ []) all).1 in
          f.1 (first_and_others ms (place_of part) [] (TermMeaning u) [] others).0,
    )

pub some_count : (ms : List (Option Meaning)) (ids rest : List NodeId) (ty : NodeId) (m n : Meaning) (qs : List Meaning) → ids ≡ ty ∷ rest → qs ≡ m ∷ n ∷ [] → ¬ (length rest ≡ 1) → (false ≡ true) ↔ (all_found ms (places_of ids) ≡ Some qs)
some_count ms ids rest ty m n qs e q h = other_count ms ids qs (λ k. (let c : length (ty ∷ rest) ≡ 2 = sym (ap length e) ∙ (k ∙ ap length q) in h (omega arith)))

-- one step through numbers and what they should stand for: what is left decides Q still; and Q fails
module _ {X : Type 0} {f : X → Meaning} {g : List X → List Meaning} (w : Listing f g) (ms : List (Option Meaning)) where
  -- whether the numbers stand for the items decides Q
  abbrev Decide : List NodeId → List X → Type 0 → Type 0
  Decide ids xs Q = (all_found ms (places_of ids) ≡ Some (g xs)) ↔ Q

  split_listed : (ids is : List NodeId) (id : NodeId) (xs ys : List X) (x : X) (Q : Type 0) → ids ≡ id ∷ is → xs ≡ x ∷ ys → Decide ids xs Q → (all_found ms (places_of (id ∷ is)) ≡ Some (f x ∷ g ys)) ↔ Q
  split_listed ids is id xs ys x Q e d h =
      let T : List NodeId → List Meaning → Type 0 = λ ids l. (all_found ms (places_of ids) ≡ Some l) ↔ Q in
      subst (λ ids. T ids (f x ∷ g ys)) e (subst (T ids) (ap g d ∙ w.more x ys) h)

  pub next_right : (ids is : List NodeId) (id : NodeId) (xs ys : List X) (x : X) (Q : Type 0) (a : Bool) → ids ≡ id ∷ is → xs ≡ x ∷ ys → (a ≡ true) ↔ (found ms (place_of id) ≡ Some (f x)) → a ≡ true → Decide ids xs Q → Decide is ys Q
  next_right ids is id xs ys x Q a e d h r k =
      let t = split_listed ids is id xs ys x Q e d k in (
        λ p. t.0 (all_of ms (place_of id) (places_of is) (f x) (g ys) (h.0 r) p),
        λ q. (first_and_others ms (place_of id) (places_of is) (f x) (g ys) (t.1 q)).1,
      )

  pub next_wrong : (ids is : List NodeId) (id : NodeId) (xs ys : List X) (x : X) (Q : Type 0) (a : Bool) → ids ≡ id ∷ is → xs ≡ x ∷ ys → (a ≡ true) ↔ (found ms (place_of id) ≡ Some (f x)) → a ≡ false → Decide ids xs Q → (false ≡ true) ↔ Q
  next_wrong ids is id xs ys x Q a e d h r k =
      let t = split_listed ids is id xs ys x Q e d k in (
        λ p. absurd (false≢true p),
        λ q. absurd (false≢true (sym r ∙ h.1 (first_and_others ms (place_of id) (places_of is) (f x) (g ys) (t.1 q)).0)),
      )

  -- where none is left
  pub all_right : (ids : List NodeId) (xs : List X) (Q : Type 0) → ids ≡ [] → xs ≡ [] → Decide ids xs Q → (true ≡ true) ↔ Q
  all_right ids xs Q e d h = (λ t. h.0 (ap (λ ids. all_found ms (places_of ids)) e ∙ ap Some (sym (ap g d ∙ w.none))), λ q. refl)

-- ---- applications: of functions, and of what is none
pub app_parts : (o : Op) → IsNoFunction o → (ts : List PlainTerm) (t : PlainType) → term_parts (Application (plain_op o) (terms ts) t) ≡ map TermMeaning ts
app_parts (Uuf f) n ts t = absurd (n f refl)
app_parts And n ts t = ap (map TermMeaning) (round ts)
app_parts o n ts t = ap (map TermMeaning) (round ts)

pub call_parts : (o : Op) (f : Rc Function Global) (ts : List PlainTerm) (t : PlainType) → o ≡ Uuf f → term_parts (Application (plain_op o) (terms ts) t) ≡ FunctionMeaning (plain_function f.value) ∷ map TermMeaning ts
call_parts o f ts t e = ap (λ o. term_parts (Application (plain_op o) (terms ts) t)) e ∙ ap (λ us. FunctionMeaning (plain_function f.value) ∷ map TermMeaning us) (round ts)

applied_type : (o : PlainOp) (ts : PlainTerms) (t : PlainType) → parts_in (TermMeaning (Application o ts t)) ≡ TypeMeaning t ∷ term_parts (Application o ts t)
applied_type (UufOp f) ts t = refl
applied_type o ts t = refl

pub parts_applied : (o : Op) (ts : PlainTerms) (t : PlainType) (u : PlainTerm) → u ≡ Application (plain_op o) ts t → parts_in (TermMeaning u) ≡ TypeMeaning t ∷ term_parts (Application (plain_op o) ts t)
parts_applied o ts t u e = ap (λ u. parts_in (TermMeaning u)) e ∙ applied_type (plain_op o) ts t

-- ---- places in order
-- none before the next, where none is before and none here
pub none_before : (ns : List PlainNode) (i : ℕ) (m : Meaning) → (meaning_at ns i ≡ Some m → ⊥) → ((j : ℕ) → j < i → meaning_at ns j ≡ Some m → ⊥) → (j : ℕ) → j < i + 1 → meaning_at ns j ≡ Some m → ⊥
none_before ns i m here before j h e =
    elim (cases_Bool (nat_eq j i)) [
      | inl k ↦ (let same : j ≡ i = (unsigned_Decides j i).0 k in here (sym (ap (meaning_at ns) same) ∙ e))
      | inr k ↦ before j (let apart : ¬ (j ≡ i) = λ q. false≢true (sym k ∙ (unsigned_Decides j i).1 q) in omega arith) e
    ]
