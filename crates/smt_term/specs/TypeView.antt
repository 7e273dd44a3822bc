-- The plain form of the program's types: what they say, without where they lie in memory.
use Rattle.std.specs.Prelude.{ℕ, List, [], ◌∷◌, map, ◌≡◌, refl, IfOk, Result}
use Rattle.std.specs.List.{zip}
use Rattle.std.proofs.Common.{ap, ◌∙◌}
use Rattle.std.specs.Rc.{rc_str_bytes}
use Rattle.std.specs.declared.alloc.Global.{Global}
use Rattle.std.specs.declared.rc.Rc.{Rc}
use Rattle.std.specs.declared.rc.RcStr.{RcStr}
use Rattle.smt_bits.specs.Width.{bits_in}
use Rattle.smt_bits.specs.declared.width.Width.{Width}
use Rattle.law_terms.specs.Plain.{PlainType, OptionType, BitVecType, BoolType, EntityType, ExtensionType, StringType, RecordType, SetType}
use Rattle.law_terms.specs.Plain.{AttributeTypes, no_attributes, attribute, attribute_types}
use Rattle.smt_term.specs.Entities.{bytes_of_type}
use Rattle.smt_term.specs.ExtensionView.{plain_kind}
use Rattle.smt_term.specs.Pairs.{attributes_in, pairs_of}
use Rattle.smt_term.specs.declared.entity.EntityType.{EntityType as EntityName}
use Rattle.smt_term.specs.declared.extension.ExtType.{ExtType}
use Rattle.smt_term.specs.declared.pairs.AttributePairs.{AttributePairs}
use Rattle.smt_term.specs.NamedVecs.{attributes-over}
use Rattle.smt_term.specs.declared.type_maps.TypeMap.{TypeMap}
use Rattle.smt_term.specs.declared.types.TermType.TheBlock.{hidden-the_row-TermType-0, shape-the_row-TermType-0}
use Rattle.smt_term.specs.declared.types.TermType.{TermType, Row_of-TermType, end_of-TermType, more_of-TermType, items-the_row-TermType}
use Rattle.smt_term.specs.declared.types.TermType.{items_hidden-the_row-TermType-0, Option as OptionOf, Option', Bitvec, Bool, Entity, Ext}
use Rattle.smt_term.specs.declared.types.TermType.{String, Record as RecordOf, Record' as RecordOf', Set as SetOf, Set' as SetOf'}

-- the attributes of pairs, in order
abbrev pub attributes_of : {X : Type 0} → AttributePairs X → List (List ℕ)
attributes_of ps = attributes_in (pairs_of ps)

unfoldable mutual
  -- what a type says
  pub plain_type : TermType → PlainType
  plain_type (Option' p t) = OptionType (plain_type t)
  plain_type (Bitvec n) = BitVecType (bits_in n)
  plain_type Bool = BoolType
  plain_type (Entity e) = EntityType (bytes_of_type e)
  plain_type (Ext k) = ExtensionType (plain_kind k)
  plain_type String = StringType
  plain_type (RecordOf' shape row) = RecordType (plain_types (attributes_of shape) row)
  plain_type (SetOf' p t) = SetType (plain_type t)

  -- the attributes of a record type, by these names and by the types of a row in the same order
  pub plain_types : {m : _} → List (List ℕ) → Row_of-TermType m → AttributeTypes
  plain_types [] row = no_attributes
  plain_types (name ∷ others) end_of-TermType = no_attributes
  plain_types (name ∷ others) (more_of-TermType t rest) = attribute name (plain_type t) (plain_types others rest)

-- the attributes of a map and their types
abbrev pub attributes_held : TypeMap → List (RcStr Global × TermType)
attributes_held m = pairs_of m.pairs

-- what an attribute and its type say
abbrev pub plain_attribute : RcStr Global × TermType → List ℕ × PlainType
plain_attribute p = (rc_str_bytes p.0, plain_type p.1)

-- what the pairs of a map say, in order
abbrev pub plain_attributes : TypeMap → List (List ℕ × PlainType)
plain_attributes m = map plain_attribute (attributes_held m)

-- ---- the equations of the view, by which proofs read it
-- an option type says the option of what its inner type says
pub plain_type-Option : (t : Rc TermType Global) → plain_type (OptionOf t) ≡ OptionType (plain_type t.value)
unfolding plain_type
plain_type-Option t = refl

-- a bitvector type says its number of bits
pub plain_type-Bitvec : (n : Width) → plain_type (Bitvec n) ≡ BitVecType (bits_in n)
unfolding plain_type
plain_type-Bitvec n = refl

-- the type of truth values says itself
pub plain_type-Bool : plain_type Bool ≡ BoolType
unfolding plain_type
plain_type-Bool = refl

-- an entity type says its name
pub plain_type-Entity : (e : EntityName) → plain_type (Entity e) ≡ EntityType (bytes_of_type e)
unfolding plain_type
plain_type-Entity e = refl

-- an extension type says which one it is
pub plain_type-Ext : (k : ExtType) → plain_type (Ext k) ≡ ExtensionType (plain_kind k)
unfolding plain_type
plain_type-Ext k = refl

-- the type of strings says itself
pub plain_type-String : plain_type String ≡ StringType
unfolding plain_type
plain_type-String = refl

types_named : {m : _} (ns : List (List ℕ)) (row : Row_of-TermType m) →
    plain_types ns row ≡ attribute_types (zip ns (map plain_type (items-the_row-TermType m row)))
unfolding plain_types
types_named [] row = refl
types_named (n ∷ ns) end_of-TermType = refl
types_named (n ∷ ns) (more_of-TermType t rest) = ap (attribute n (plain_type t)) (types_named ns rest)

zipped : (ps : List (RcStr Global × TermType)) → zip (attributes_in ps) (map plain_type (map (λ p. p.1) ps)) ≡ map plain_attribute ps
zipped [] = refl
zipped (p ∷ ps) = ap (λ l. plain_attribute p ∷ l) (zipped ps)

-- a record type says its attributes in order, each with what its type says
pub plain_type-Record : (m : TypeMap) → plain_type (RecordOf m) ≡ RecordType (attribute_types (plain_attributes m))
unfolding plain_type shape-the_row-TermType-0
plain_type-Record m =
    ap RecordType (types_named (attributes_of (shape-the_row-TermType-0 m.pairs)) (hidden-the_row-TermType-0 m.pairs)
    ∙ ap (λ ts. attribute_types (zip (attributes_of (shape-the_row-TermType-0 m.pairs)) (map plain_type ts)))
    (items_hidden-the_row-TermType-0 m.pairs)
    ∙ ap (λ ns. attribute_types (zip ns (map plain_type (map (λ p. p.1) m.pairs.items.value.items))))
    (attributes-over (λ _. tt) m.pairs.items.value.items)
    ∙ ap attribute_types (zipped m.pairs.items.value.items))

-- a set type says the set of what its element type says
pub plain_type-Set : (t : Rc TermType Global) → plain_type (SetOf t) ≡ SetType (plain_type t.value)
unfolding plain_type
plain_type-Set t = refl

-- these equations together, for proofs that rewrite with them
pub ruleset views = (
  plain_type-Option,
  plain_type-Bitvec,
  plain_type-Bool,
  plain_type-Entity,
  plain_type-Ext,
  plain_type-String,
  plain_type-Record,
  plain_type-Set,
)

-- On Ok a type was built that says this.
abbrev pub BuildsType : {E : Type 0} → Result TermType E → PlainType → Type 0
BuildsType result ty = IfOk result (λ t. plain_type t ≡ ty)
