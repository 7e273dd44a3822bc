-- Types of terms as they are given.
use Rattle.std.proofs.Common.{◌≡◌, ℕ, ◌+◌, ◌<◌, ◌≤◌, List, [], ◌∷◌, ◌++◌, Ok, Err, Result, drop, get_or, length, map, refl, sym, ap, subst, ◌∙◌, arith, append-nil, append_assoc}
use Rattle.std.specs.Prelude.{IsErrAnd}
use Rattle.std.specs.Rc.{rc_str_bytes}
use Rattle.std.specs.declared.alloc.Global.{Global}
use Rattle.std.specs.declared.rc.RcStr.{RcStr}
use Rattle.std.proofs.lemmas.List.{at_drop_more, at_drop_all, map-append}
use Rattle.law_terms.specs.Plain.{PlainType, EntityType, AttributeTypes, no_attributes, attribute}
use Rattle.smt_term.specs.Entities.{bytes_of_type}
use Rattle.smt_term.specs.declared.entity.EntityType.{EntityType as EntityName}
use Rattle.smt_term.specs.Pairs.{attributes_in}
use Rattle.smt_term.specs.View.{plain_type}
use Rattle.smt_term.specs.declared.types.TermType.{TermType}
use Rattle.smt_values.specs.RefusedTypes.{IsGiven, IsRefusal}
use Rattle.smt_values.specs.TypeOfCedar.{Stated, ◌>>=◌, type_held, type_of_cedar, type_of_entities, types_of_attributes}
use Rattle.smt_values.specs.TypeView.{attributes_in_order, pairs_held, plain_attributes-named, plain_cedar, plain_cedar_attributes, types_in_order}
use Rattle.smt_values.specs.declared.attributes.AttributeType.{AttributeType}
use Rattle.smt_values.specs.declared.attributes.Attributes.{Attributes}
use Rattle.smt_values.specs.declared.compile_error.CompileError.{CompileError}
use Rattle.smt_values.specs.declared.compile_error.CompileError.TheVariants.{Memory, UnsupportedFeature}

abbrev pub Given : Type 0
Given = RcStr Global × AttributeType

abbrev pub Made : Type 0
Made = RcStr Global × TermType

-- ---- errors that are passed on

-- the refusal of a part is that of the whole
pub refusal_passes : {B B' : Type 0} (e : CompileError) (whole : Stated B) (part : Stated B') → IsRefusal e part → ((f : List ℕ) → part ≡ Err f → whole ≡ Err f) → IsRefusal e whole
refusal_passes (UnsupportedFeature t) whole part h p = p _ h
refusal_passes Memory whole part h p = tt

-- an error of a part is one of the whole
pub passes_on : {A B B' : Type 0} (view : A → B) (r : Result A CompileError) (e : CompileError) (whole : Stated B) (part : Stated B') → IsErrAnd r (λ y. y ≡ e) → IsRefusal e part → ((f : List ℕ) → part ≡ Err f → whole ≡ Err f) → IsGiven view r whole
passes_on view (Ok x) e whole part h g p = absurd h
passes_on view (Err y) e whole part h g p = subst (λ (x : CompileError). IsRefusal x whole) (sym h) (refusal_passes e whole part g p)

-- what is given is the same of what is equal
pub given_of : {A B : Type 0} (view : A → B) (r : Result A CompileError) (whole part : Stated B) → whole ≡ part → IsGiven view r part → IsGiven view r whole
given_of view r whole part e h = subst (λ (o : Stated _). IsGiven view r o) (sym e) h

-- ---- entities

-- the one type of a list
pub sole_entity : (xs : List EntityName) (x : EntityName) → 1 ≤ length xs → length xs < 2 → x ≡ get_or xs 0 x → type_of_entities (map bytes_of_type xs) ≡ Ok (EntityType (bytes_of_type x))
sole_entity (y ∷ []) x l m e = ap (λ z. Ok (EntityType (bytes_of_type z))) (sym e)
sole_entity [] x l m e = absurd (omega (arith, l))
sole_entity (y ∷ z ∷ xs) x l m e = absurd (omega (arith, m))

-- ---- attributes

-- these attributes in front of what is stated
abbrev pub behind : List Made → Stated AttributeTypes → Stated AttributeTypes
behind [] o = o
behind (p ∷ ps) o = behind ps o >>= λ ts. Ok (attribute (rc_str_bytes p.0) (plain_type p.1) ts)

pub refusal_behind : (done : List Made) (f : List ℕ) → behind done (Err f) ≡ Err f
refusal_behind [] f = refl
refusal_behind (p ∷ ps) f = ap (λ o. o >>= λ ts. Ok (attribute (rc_str_bytes p.0) (plain_type p.1) ts)) (refusal_behind ps f)

pub all_behind : (done : List Made) → behind done (Ok no_attributes) ≡ Ok (types_in_order done)
all_behind [] = refl
all_behind (p ∷ ps) = ap (λ o. o >>= λ ts. Ok (attribute (rc_str_bytes p.0) (plain_type p.1) ts)) (all_behind ps)

pub one_behind : (done : List Made) (p : Made) (o : Stated AttributeTypes) → behind done (o >>= λ ts. Ok (attribute (rc_str_bytes p.0) (plain_type p.1) ts)) ≡ behind (done ++ p ∷ []) o
one_behind [] p o = refl
one_behind (q ∷ qs) p o = ap (λ o. o >>= λ ts. Ok (attribute (rc_str_bytes q.0) (plain_type q.1) ts)) (one_behind qs p o)

-- what is stated of attributes is stated of their pairs
pub whole_of : (attrs : Attributes) (all : List Given) → all ≡ pairs_held attrs → types_of_attributes (plain_cedar_attributes attrs) ≡ types_of_attributes (attributes_in_order all)
whole_of attrs all e = ap types_of_attributes (plain_attributes-named attrs ∙ ap attributes_in_order (sym e))

-- what is done and what is left are all
pub record GivingTypes (done : List Made) (remaining all : List Given) : Type 0 where
  pub whole : types_of_attributes (attributes_in_order all) ≡ behind done (types_of_attributes (attributes_in_order remaining))
  pub named : attributes_in done ++ attributes_in remaining ≡ attributes_in all

pub none_done : (all : List Given) → GivingTypes [] all all
none_done all = record { whole = refl; named = refl }

pub all_types : (done : List Made) (all : List Given) (i : ℕ) → length all ≤ i → GivingTypes done (drop i all) all → types_of_attributes (attributes_in_order all) ≡ Ok (types_in_order done)
all_types done all i l g = g.whole ∙ at_drop_all (λ xs. behind done (types_of_attributes (attributes_in_order xs))) all i l ∙ all_behind done

pub all_named : (done : List Made) (all : List Given) (i : ℕ) → length all ≤ i → GivingTypes done (drop i all) all → attributes_in done ≡ attributes_in all
all_named done all i l g = sym (append-nil (attributes_in done)) ∙ sym (at_drop_all (λ xs. attributes_in done ++ attributes_in xs) all i l) ∙ g.named

module _ (done : List Made) (all : List Given) (i : ℕ) (item : Given) (g : GivingTypes done (drop i all) all) (l : i < length all) (at : item ≡ get_or all i item) where
  abbrev others : List Given
  others = drop (i + 1) all

  abbrev own : Stated PlainType
  own = type_held item.1.is_required (type_of_cedar (plain_cedar item.1.attr_type))

  this_one : types_of_attributes (attributes_in_order all) ≡ behind done (own >>= λ t. types_of_attributes (attributes_in_order others) >>= λ ts. Ok (attribute (rc_str_bytes item.0) t ts))
  this_one =
      g.whole
      ∙ at_drop_more (λ xs. behind done (types_of_attributes (attributes_in_order xs))) all i item l
      ∙ ap (λ x. behind done (types_of_attributes (attributes_in_order (x ∷ others)))) (sym at)

  pub one_refused : (f : List ℕ) → own ≡ Err f → types_of_attributes (attributes_in_order all) ≡ Err f
  one_refused f h = this_one ∙ ap (λ o. behind done (o >>= λ t. types_of_attributes (attributes_in_order others) >>= λ ts. Ok (attribute (rc_str_bytes item.0) t ts))) h ∙ refusal_behind done f

  pub one_more : (k : RcStr Global) (t : TermType) (more : List Made) → rc_str_bytes k ≡ rc_str_bytes item.0 → own ≡ Ok (plain_type t) → more ≡ done ++ (k, t) ∷ [] → GivingTypes more (drop (i + 1) all) all
  one_more k t more same typed is = record {
    whole =
        this_one
        ∙ ap (λ o. behind done (o >>= λ t. types_of_attributes (attributes_in_order others) >>= λ ts. Ok (attribute (rc_str_bytes item.0) t ts))) typed
        ∙ ap (λ n. behind done (types_of_attributes (attributes_in_order others) >>= λ ts. Ok (attribute n (plain_type t) ts))) (sym same)
        ∙ one_behind done (k, t) (types_of_attributes (attributes_in_order others))
        ∙ ap (λ ps. behind ps (types_of_attributes (attributes_in_order others))) (sym is);
    named =
        ap (λ ps. attributes_in ps ++ attributes_in others) is
        ∙ ap (λ ns. ns ++ attributes_in others) (map-append (λ p. rc_str_bytes p.0) done ((k, t) ∷ []))
        ∙ append_assoc (attributes_in done) (rc_str_bytes k ∷ []) (attributes_in others)
        ∙ ap (λ n. attributes_in done ++ n ∷ attributes_in others) same
        ∙ ap (λ x. attributes_in done ++ attributes_in (x ∷ others)) at
        ∙ sym (at_drop_more (λ xs. attributes_in done ++ attributes_in xs) all i item l)
        ∙ g.named;
  }
