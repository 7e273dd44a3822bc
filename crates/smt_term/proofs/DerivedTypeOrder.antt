-- The derived order of types is the order of what they say.
use Rattle.std.proofs.Common.{◌≡◌, ℕ, List, [], ◌∷◌, refl, ap, ◌∙◌}
use Rattle.std.specs.List.{zip}
use Rattle.std.specs.Ordering.{ordering_then}
use Rattle.std.specs.Cmp.Lexicographic.{slice_cmp}
use Rattle.std.specs.declared.cmp.Ordering.{Ordering}
use Rattle.std.specs.declared.cmp.Ordering.TheVariants.{Equal}
use denote.Hole.Carrier
use denote.Hole.Carrier.{shown}
use denote.Hole.Compared
use mathlib.Core.Former
use Rattle.law_terms.specs.Types.{attribute_types_cmp, type_cmp}
use Rattle.law_terms.specs.ValueOrder.{text_cmp}
use Rattle.smt_term.proofs.ExtensionOrder.{kind_cmp-is}
use Rattle.smt_term.specs.Pairs.{attributes_in, pairs_of}
use Rattle.smt_term.specs.formers.pairs.AttributePairs as pairs
use Rattle.smt_term.specs.NamedVecs.{attributes-got}
use Rattle.smt_term.proofs.NamedPairs.{by_names, by_pairs, pairs-zipped, values}
use Rattle.smt_term.specs.TypeView.{attributes_of, plain_type, plain_types}
use Rattle.smt_term.specs.declared.type_maps.TypeMap.{TypeMap}
use Rattle.smt_term.specs.declared.types.TermType.TheBlock as type_block
use Rattle.smt_term.specs.declared.types.TermType.{TermType, Option', Bitvec, Bool, Entity, Ext, String, Record' as RecordOf', Set' as SetOf', Row_of-TermType, end_of-TermType, more_of-TermType, items-the_row-TermType, items_shown-the_row-TermType-0, view-the_row-TermType}
use Rattle.smt_term.specs.declared.types.TermType.TheViews as type_views
use Rattle.smt_term.specs.contracts.types.TermTypeOrd.TheImpl as type_ord
use Rattle.smt_term.specs.contracts.types.TermTypeOrd.TheImpl.Laws as type_laws

-- the derived order
abbrev pub derived_type_cmp : TermType → TermType → Ordering
derived_type_cmp = type_ord.ghosts.cmp

-- the order of maps of types, as the derived order of types has it
abbrev pub map_family : TypeMap → TypeMap → Ordering
map_family = type_laws.family type_block.member-TypeMap

pub map_family-is : (x y : TypeMap) → map_family x y ≡ slice_cmp (by_pairs derived_type_cmp) x.pairs.items.value.items y.pairs.items.value.items
unfolding Carrier.out
map_family-is x y =
    Compared.compared_is type_block.the_members (Carrier.Values type_block.the_members type_block.the_sigs type_block.the_carrier) type_block.the_depth Ordering Equal type_ord.the_step type_laws.local type_block.member-TypeMap x y

-- a map of types, taken apart into its attributes and its types
abbrev MapShape : Type 0
MapShape = (pairs.the_former (Former.this {0})).Shape

abbrev MapRow : MapShape → Type 0
MapRow sh = Row_of-TermType (Former.arity (pairs.the_former (Former.this {0})) sh)

abbrev map_made : (sh : MapShape) (row : MapRow sh) → TypeMap
map_made sh row = record { pairs = type_block.shown-the_row-TermType-0 sh row }

names-made : (sh : MapShape) (row : MapRow sh) → attributes_in (map_made sh row).pairs.items.value.items ≡ attributes_of sh
unfolding type_block.shown-the_row-TermType-0 shown
names-made sh row = attributes-got (Former.this {0}) TermType (pairs_of sh) Former.none_left (view-the_row-TermType _ row)

abbrev named : {m : _} → List (List ℕ) → Row_of-TermType m → List (List ℕ × TermType)
named ns row = zip ns (items-the_row-TermType _ row)

zipped-made : (sh : MapShape) (row : MapRow sh) → zip (attributes_in (map_made sh row).pairs.items.value.items) (values (map_made sh row).pairs.items.value.items) ≡ named (attributes_of sh) row
zipped-made sh row = ap (λ ns. zip ns (values (map_made sh row).pairs.items.value.items)) (names-made sh row) ∙ ap (λ ts. zip (attributes_of sh) ts) (items_shown-the_row-TermType-0 sh row)

map_made-is : (sh : MapShape) (row : MapRow sh) (sh' : MapShape) (row' : MapRow sh') → map_family (map_made sh row) (map_made sh' row') ≡ slice_cmp (by_names derived_type_cmp) (named (attributes_of sh) row) (named (attributes_of sh') row')
map_made-is sh row sh' row' =
    let xs = (map_made sh row).pairs.items.value.items in
    let ys = (map_made sh' row').pairs.items.value.items in
    map_family-is (map_made sh row) (map_made sh' row') ∙ (pairs-zipped derived_type_cmp xs ys ∙ (ap (λ l. slice_cmp (by_names derived_type_cmp) l (zip (attributes_in ys) (values ys))) (zipped-made sh row) ∙ ap (λ l. slice_cmp (by_names derived_type_cmp) (named (attributes_of sh) row) l) (zipped-made sh' row')))

cmp-Record : (sh : MapShape) (row : MapRow sh) (sh' : MapShape) (row' : MapRow sh') → derived_type_cmp (RecordOf' sh row) (RecordOf' sh' row') ≡ map_family (map_made sh row) (map_made sh' row')
unfolding type_views.out-TermType Carrier.out
cmp-Record sh row sh' row' = type_laws.is (RecordOf' sh row) (RecordOf' sh' row')

mutual
  unfolding plain_type plain_types type_views.out-TermType Carrier.out

  -- the derived order of types is the order of what they say
  pub type_cmp-is : (a b : TermType) → derived_type_cmp a b ≡ type_cmp (plain_type a) (plain_type b)
  type_cmp-is (Option' p t) (Option' q u) = type_laws.is (Option' p t) (Option' q u) ∙ type_cmp-is t u
  type_cmp-is (Bitvec n) (Bitvec m) = type_laws.is (Bitvec n) (Bitvec m)
  type_cmp-is Bool Bool = type_laws.is Bool Bool
  type_cmp-is (Entity e) (Entity f) = type_laws.is (Entity e) (Entity f)
  type_cmp-is (Ext k) (Ext l) = type_laws.is (Ext k) (Ext l) ∙ kind_cmp-is k l
  type_cmp-is String String = type_laws.is String String
  type_cmp-is (RecordOf' sh row) (RecordOf' sh' row') = cmp-Record sh row sh' row' ∙ (map_made-is sh row sh' row' ∙ types_cmp-is (attributes_of sh) (attributes_of sh') row row')
  type_cmp-is (SetOf' p t) (SetOf' q u) = type_laws.is (SetOf' p t) (SetOf' q u) ∙ type_cmp-is t u
  type_cmp-is a b = type_laws.is a b

  types_cmp-is : {m n : _} (ns ks : List (List ℕ)) (r : Row_of-TermType m) (s : Row_of-TermType n) → slice_cmp (by_names derived_type_cmp) (named ns r) (named ks s) ≡ attribute_types_cmp (plain_types ns r) (plain_types ks s)
  types_cmp-is [] [] r s = refl
  types_cmp-is [] (k ∷ ks) r end_of-TermType = refl
  types_cmp-is [] (k ∷ ks) r (more_of-TermType u s) = refl
  types_cmp-is (n ∷ ns) [] end_of-TermType s = refl
  types_cmp-is (n ∷ ns) [] (more_of-TermType t r) s = refl
  types_cmp-is (n ∷ ns) (k ∷ ks) end_of-TermType end_of-TermType = refl
  types_cmp-is (n ∷ ns) (k ∷ ks) end_of-TermType (more_of-TermType u s) = refl
  types_cmp-is (n ∷ ns) (k ∷ ks) (more_of-TermType t r) end_of-TermType = refl
  types_cmp-is (n ∷ ns) (k ∷ ks) (more_of-TermType t r) (more_of-TermType u s) =
      ap (λ o. ordering_then (ordering_then (text_cmp n k) o) (slice_cmp (by_names derived_type_cmp) (named ns r) (named ks s))) (type_cmp-is t u)
      ∙ ap (λ o. ordering_then (ordering_then (text_cmp n k) (type_cmp (plain_type t) (plain_type u))) o) (types_cmp-is ns ks r s)
