-- The derived orders of operators, literals, terms, and of variables and lists of terms are the orders of what they say.
use Rattle.std.proofs.Common.{◌≡◌, ℕ, List, [], ◌∷◌, map, refl, ap, ◌∙◌}
use Rattle.std.specs.List.{zip}
use Rattle.std.specs.Rc.{rc_str_bytes}
use Rattle.std.specs.Ordering.{ordering_then}
use Rattle.std.specs.Cmp.Lexicographic.{slice_cmp}
use Rattle.std.specs.declared.alloc.Global.{Global}
use Rattle.std.specs.declared.rc.Rc.{Rc}
use Rattle.std.specs.declared.cmp.Ordering.{Ordering}
use Rattle.std.specs.declared.cmp.Ordering.TheVariants.{Equal}
use Rattle.std.specs.formers.vec.Vec as vec
use denote.Hole.Carrier
use denote.Hole.Carrier.{shown}
use denote.Hole.Compared
use mathlib.Core.Former
use Rattle.smt_term.proofs.ExtensionValues.{ext_cmp-is}
use Rattle.smt_term.proofs.DerivedTypeOrder.{derived_type_cmp, type_cmp-is}
use Rattle.smt_term.proofs.NamedPairs.{by_names, by_pairs, pairs-zipped, values}
use Rattle.smt_term.proofs.ExtensionOrder.{extension_op_cmp-is}
use Rattle.smt_term.proofs.PatternOrder.{pattern_cmp-is}
use Rattle.smt_term.specs.Program.{FunctionsCompareAsPlain, ListsCompareAsPlain, SetsCompareAsPlain, VariablesCompareAsPlain}
use Rattle.law_terms.specs.TermOrder.{fields_cmp, op_cmp, literal_cmp, term_cmp, terms_cmp}
use Rattle.law_terms.specs.Types.{type_cmp}
use Rattle.law_terms.specs.ValueOrder.{text_cmp}
use Rattle.smt_term.specs.Pairs.{attributes_in, pairs_of}
use Rattle.smt_term.specs.formers.pairs.AttributePairs as pairs
use Rattle.smt_term.specs.NamedVecs.{attributes-got}
use Rattle.smt_term.specs.declared.maps.TermMap.{TermMap}
use Rattle.smt_term.specs.View.{attributes_of, plain_type, plain_op, plain_literal, plain_named, plain_term, plain_row}
use Rattle.smt_term.specs.declared.types.TermType.{TermType}
use Rattle.smt_term.specs.declared.op.Op.{Op}
use Rattle.smt_term.specs.declared.op.Op.TheVariants.{And, Ext as ExtensionOf, StringLike, Uuf}
use Rattle.smt_term.specs.declared.term.TermPrim.{TermPrim}
use Rattle.smt_term.specs.declared.term.TermPrim.TheVariants.{Bitvec as BitsLiteral, Bool as TruthLiteral, Entity as EntityOf, Ext as ValueOf, String as TextLiteral}
use Rattle.smt_term.specs.declared.term.Term.{Term, App', None, Prim, Record', Set', Some', Var, Row_of-Term, end_of-Term, more_of-Term}
use Rattle.smt_term.specs.declared.term.Term.TheViews as views
use Rattle.smt_term.specs.declared.term.Term.TheBlock as block
use Rattle.smt_term.specs.declared.term.TermSet.{TermSet}
use Rattle.smt_term.specs.declared.term.TermList.{TermList, items-the_row-Term, items_shown-the_row-Term-0, items_shown-the_row-Term-1, view-the_row-Term}
use Rattle.smt_term.specs.contracts.op.OpOrd.TheImpl as op_ord
use Rattle.smt_term.specs.contracts.term.TermPrimOrd.TheImpl as literal_ord
use Rattle.smt_term.specs.contracts.term.TermOrd.TheImpl as term_ord
use Rattle.smt_term.specs.contracts.term.TermOrd.TheImpl.Laws as term_laws

-- the derived order
abbrev pub derived_term_cmp : Term → Term → Ordering
derived_term_cmp = term_ord.ghosts.cmp

pub function_cmp-is : FunctionsCompareAsPlain
function_cmp-is f g =
    ap (λ o. ordering_then (text_cmp (rc_str_bytes f.id) (rc_str_bytes g.id)) (ordering_then o (derived_type_cmp f.out g.out))) (type_cmp-is f.arg g.arg)
    ∙ ap (λ o. ordering_then (text_cmp (rc_str_bytes f.id) (rc_str_bytes g.id)) (ordering_then (type_cmp (plain_type f.arg) (plain_type g.arg)) o)) (type_cmp-is f.out g.out)

pub op_cmp-is : (a b : Op) → op_ord.ghosts.cmp a b ≡ op_cmp (plain_op a) (plain_op b)
op_cmp-is (ExtensionOf o) (ExtensionOf p) = extension_op_cmp-is o p
op_cmp-is (StringLike p) (StringLike q) = pattern_cmp-is p q
op_cmp-is (Uuf f) (Uuf g) = function_cmp-is f.value g.value
op_cmp-is a And = refl
op_cmp-is a b = refl

pub literal_cmp-is : (a b : TermPrim) → literal_ord.ghosts.cmp a b ≡ literal_cmp (plain_literal a) (plain_literal b)
literal_cmp-is (BitsLiteral x) (BitsLiteral y) = refl
literal_cmp-is (TruthLiteral x) (TruthLiteral y) = refl
literal_cmp-is (EntityOf x) (EntityOf y) = refl
literal_cmp-is (ValueOf x) (ValueOf y) = ext_cmp-is x y
literal_cmp-is (TextLiteral x) (TextLiteral y) = refl
literal_cmp-is a b = refl

-- a list of terms, taken apart into where it lies, its shape and its items
abbrev Shape : Type 0
Shape = (vec.the_former (Former.this {0}) Global).Shape

abbrev Row : Shape → Type 0
Row sh = Row_of-Term (Former.arity (vec.the_former (Former.this {0}) Global) sh)

abbrev Blank : Type 0
Blank = Rc (Unit {0}) Global

-- the order of lists of terms, as the derived order of terms has it
abbrev family : TermList → TermList → Ordering
family = term_laws.family block.member-TermList

family-is : (x y : TermList) → family x y ≡ slice_cmp derived_term_cmp x.items.value.items y.items.value.items
unfolding Carrier.out
family-is x y =
    Compared.compared_is block.the_members (Carrier.Values block.the_members block.the_sigs block.the_carrier) block.the_depth Ordering Equal term_ord.the_step term_laws.local block.member-TermList x y

abbrev made : (p : Blank) (sh : Shape) (row : Row sh) → TermList
made p sh row = record { items = record { ptr = p.ptr; value = block.shown-the_row-Term-0 sh row } }

family_made-is : (p : Blank) (sh : Shape) (row : Row sh) (q : Blank) (sh' : Shape) (row' : Row sh') → family (made p sh row) (made q sh' row') ≡ slice_cmp derived_term_cmp (items-the_row-Term _ row) (items-the_row-Term _ row')
family_made-is p sh row q sh' row' =
    family-is (made p sh row) (made q sh' row') ∙ (ap (λ l. slice_cmp derived_term_cmp l (made q sh' row').items.value.items) (items_shown-the_row-Term-0 sh row) ∙ ap (λ l. slice_cmp derived_term_cmp (items-the_row-Term _ row) l) (items_shown-the_row-Term-0 sh' row'))

cmp-App : (o : Op) (p : Blank) (sh : Shape) (row : Row sh) (t : TermType) (o' : Op) (q : Blank) (sh' : Shape) (row' : Row sh') (t' : TermType) → derived_term_cmp (App' o p sh row t) (App' o' q sh' row' t') ≡ ordering_then (op_ord.ghosts.cmp o o') (ordering_then (family (made p sh row) (made q sh' row')) (derived_type_cmp t t'))
unfolding views.out-Term Carrier.out
cmp-App o p sh row t o' q sh' row' t' = term_laws.is (App' o p sh row t) (App' o' q sh' row' t')

-- the same of sets
abbrev set_family : TermSet → TermSet → Ordering
set_family = term_laws.family block.member-TermSet

set_family-is : (x y : TermSet) → set_family x y ≡ slice_cmp derived_term_cmp x.items.value.items y.items.value.items
unfolding Carrier.out
set_family-is x y =
    Compared.compared_is block.the_members (Carrier.Values block.the_members block.the_sigs block.the_carrier) block.the_depth Ordering Equal term_ord.the_step term_laws.local block.member-TermSet x y

abbrev set_made : (p : Blank) (sh : Shape) (row : Row sh) → TermSet
set_made p sh row = record { items = record { ptr = p.ptr; value = block.shown-the_row-Term-0 sh row } }

set_made-is : (p : Blank) (sh : Shape) (row : Row sh) (q : Blank) (sh' : Shape) (row' : Row sh') → set_family (set_made p sh row) (set_made q sh' row') ≡ slice_cmp derived_term_cmp (items-the_row-Term _ row) (items-the_row-Term _ row')
set_made-is p sh row q sh' row' =
    set_family-is (set_made p sh row) (set_made q sh' row') ∙ (ap (λ l. slice_cmp derived_term_cmp l (set_made q sh' row').items.value.items) (items_shown-the_row-Term-0 sh row) ∙ ap (λ l. slice_cmp derived_term_cmp (items-the_row-Term _ row) l) (items_shown-the_row-Term-0 sh' row'))

cmp-Set : (t : TermType) (p : Blank) (sh : Shape) (row : Row sh) (t' : TermType) (q : Blank) (sh' : Shape) (row' : Row sh') → derived_term_cmp (Set' t p sh row) (Set' t' q sh' row') ≡ ordering_then (derived_type_cmp t t') (set_family (set_made p sh row) (set_made q sh' row'))
unfolding views.out-Term Carrier.out
cmp-Set t p sh row t' q sh' row' = term_laws.is (Set' t p sh row) (Set' t' q sh' row')

-- the same of records, taken apart into their attributes and their terms
abbrev pub record_family : TermMap → TermMap → Ordering
record_family = term_laws.family block.member-TermMap

pub record_family-is : (x y : TermMap) → record_family x y ≡ slice_cmp (by_pairs derived_term_cmp) x.pairs.items.value.items y.pairs.items.value.items
unfolding Carrier.out
record_family-is x y =
    Compared.compared_is block.the_members (Carrier.Values block.the_members block.the_sigs block.the_carrier) block.the_depth Ordering Equal term_ord.the_step term_laws.local block.member-TermMap x y

abbrev RecordShape : Type 0
RecordShape = (pairs.the_former (Former.this {0})).Shape

abbrev RecordRow : RecordShape → Type 0
RecordRow sh = Row_of-Term (Former.arity (pairs.the_former (Former.this {0})) sh)

abbrev record_made : (sh : RecordShape) (row : RecordRow sh) → TermMap
record_made sh row = record { pairs = block.shown-the_row-Term-1 sh row }

record-names : (sh : RecordShape) (row : RecordRow sh) → attributes_in (record_made sh row).pairs.items.value.items ≡ attributes_of sh
unfolding block.shown-the_row-Term-1 shown
record-names sh row = attributes-got (Former.this {0}) Term (pairs_of sh) Former.none_left (view-the_row-Term _ row)

abbrev named_terms : {m : _} → List (List ℕ) → Row_of-Term m → List (List ℕ × Term)
named_terms ns row = zip ns (items-the_row-Term _ row)

record-zipped : (sh : RecordShape) (row : RecordRow sh) → zip (attributes_in (record_made sh row).pairs.items.value.items) (values (record_made sh row).pairs.items.value.items) ≡ named_terms (attributes_of sh) row
record-zipped sh row = ap (λ ns. zip ns (values (record_made sh row).pairs.items.value.items)) (record-names sh row) ∙ ap (λ ts. zip (attributes_of sh) ts) (items_shown-the_row-Term-1 sh row)

record_made-is : (sh : RecordShape) (row : RecordRow sh) (sh' : RecordShape) (row' : RecordRow sh') → record_family (record_made sh row) (record_made sh' row') ≡ slice_cmp (by_names derived_term_cmp) (named_terms (attributes_of sh) row) (named_terms (attributes_of sh') row')
record_made-is sh row sh' row' =
    let xs = (record_made sh row).pairs.items.value.items in
    let ys = (record_made sh' row').pairs.items.value.items in
    record_family-is (record_made sh row) (record_made sh' row') ∙ (pairs-zipped derived_term_cmp xs ys ∙ (ap (λ l. slice_cmp (by_names derived_term_cmp) l (zip (attributes_in ys) (values ys))) (record-zipped sh row) ∙ ap (λ l. slice_cmp (by_names derived_term_cmp) (named_terms (attributes_of sh) row) l) (record-zipped sh' row')))

cmp-Fields : (sh : RecordShape) (row : RecordRow sh) (sh' : RecordShape) (row' : RecordRow sh') → derived_term_cmp (Record' sh row) (Record' sh' row') ≡ record_family (record_made sh row) (record_made sh' row')
unfolding views.out-Term Carrier.out
cmp-Fields sh row sh' row' = term_laws.is (Record' sh row) (Record' sh' row')

mutual
  unfolding plain_term plain_row plain_named views.out-Term Carrier.out

  -- the derived order of terms is the order of what they say
  pub term_cmp-is : (a b : Term) → derived_term_cmp a b ≡ term_cmp (plain_term a) (plain_term b)
  term_cmp-is (App' o p sh row t) (App' o' q sh' row' t') =
      cmp-App o p sh row t o' q sh' row' t' ∙ (ap (λ r. ordering_then r (ordering_then (family (made p sh row) (made q sh' row')) (derived_type_cmp t t'))) (op_cmp-is o o') ∙ (ap (λ r. ordering_then (op_cmp (plain_op o) (plain_op o')) (ordering_then r (derived_type_cmp t t'))) (family_made-is p sh row q sh' row' ∙ rows_cmp-is row row') ∙ ap (λ r. ordering_then (op_cmp (plain_op o) (plain_op o')) (ordering_then (terms_cmp (plain_row row) (plain_row row')) r)) (type_cmp-is t t')))
  term_cmp-is (None t) (None u) = term_laws.is (None t) (None u) ∙ type_cmp-is t u
  term_cmp-is (Prim x) (Prim y) = term_laws.is (Prim x) (Prim y) ∙ literal_cmp-is x y
  term_cmp-is (Record' sh row) (Record' sh' row') = cmp-Fields sh row sh' row' ∙ (record_made-is sh row sh' row' ∙ fields_cmp-is (attributes_of sh) (attributes_of sh') row row')
  term_cmp-is (Set' t p sh row) (Set' t' q sh' row') =
      cmp-Set t p sh row t' q sh' row' ∙ (ap (λ r. ordering_then r (set_family (set_made p sh row) (set_made q sh' row'))) (type_cmp-is t t') ∙ ap (λ r. ordering_then (type_cmp (plain_type t) (plain_type t')) r) (set_made-is p sh row q sh' row' ∙ rows_cmp-is row row'))
  term_cmp-is (Some' p x) (Some' q y) = term_laws.is (Some' p x) (Some' q y) ∙ term_cmp-is x y
  term_cmp-is (Var v) (Var w) = term_laws.is (Var v) (Var w) ∙ ap (λ o. ordering_then (text_cmp (rc_str_bytes v.id) (rc_str_bytes w.id)) o) (type_cmp-is v.ty w.ty)
  term_cmp-is a b = term_laws.is a b

  rows_cmp-is : {m n : _} (r : Row_of-Term m) (s : Row_of-Term n) → slice_cmp derived_term_cmp (items-the_row-Term m r) (items-the_row-Term n s) ≡ terms_cmp (plain_row r) (plain_row s)
  rows_cmp-is end_of-Term end_of-Term = refl
  rows_cmp-is end_of-Term (more_of-Term y s) = refl
  rows_cmp-is (more_of-Term x r) end_of-Term = refl
  rows_cmp-is (more_of-Term x r) (more_of-Term y s) =
      ap (λ o. ordering_then o (slice_cmp derived_term_cmp (items-the_row-Term _ r) (items-the_row-Term _ s))) (term_cmp-is x y) ∙ ap (λ o. ordering_then (term_cmp (plain_term x) (plain_term y)) o) (rows_cmp-is r s)

  fields_cmp-is : {m n : _} (ns ks : List (List ℕ)) (r : Row_of-Term m) (s : Row_of-Term n) → slice_cmp (by_names derived_term_cmp) (named_terms ns r) (named_terms ks s) ≡ fields_cmp (plain_named ns r) (plain_named ks s)
  fields_cmp-is [] [] r s = refl
  fields_cmp-is [] (k ∷ ks) r end_of-Term = refl
  fields_cmp-is [] (k ∷ ks) r (more_of-Term u s) = refl
  fields_cmp-is (n ∷ ns) [] end_of-Term s = refl
  fields_cmp-is (n ∷ ns) [] (more_of-Term t r) s = refl
  fields_cmp-is (n ∷ ns) (k ∷ ks) end_of-Term end_of-Term = refl
  fields_cmp-is (n ∷ ns) (k ∷ ks) end_of-Term (more_of-Term u s) = refl
  fields_cmp-is (n ∷ ns) (k ∷ ks) (more_of-Term t r) end_of-Term = refl
  fields_cmp-is (n ∷ ns) (k ∷ ks) (more_of-Term t r) (more_of-Term u s) =
      ap (λ o. ordering_then (ordering_then (text_cmp n k) o) (slice_cmp (by_names derived_term_cmp) (named_terms ns r) (named_terms ks s))) (term_cmp-is t u)
      ∙ ap (λ o. ordering_then (ordering_then (text_cmp n k) (term_cmp (plain_term t) (plain_term u))) o) (fields_cmp-is ns ks r s)

pub variable_cmp-is : VariablesCompareAsPlain
variable_cmp-is v w = ap (λ o. ordering_then (text_cmp (rc_str_bytes v.id) (rc_str_bytes w.id)) o) (type_cmp-is v.ty w.ty)

items_cmp-is : (xs ys : List Term) → slice_cmp derived_term_cmp xs ys ≡ slice_cmp term_cmp (map plain_term xs) (map plain_term ys)
items_cmp-is [] [] = refl
items_cmp-is [] (y ∷ ys) = refl
items_cmp-is (x ∷ xs) [] = refl
items_cmp-is (x ∷ xs) (y ∷ ys) =
    ap (λ o. ordering_then o (slice_cmp derived_term_cmp xs ys)) (term_cmp-is x y) ∙ ap (λ o. ordering_then (term_cmp (plain_term x) (plain_term y)) o) (items_cmp-is xs ys)

pub list_cmp-is : ListsCompareAsPlain
list_cmp-is x y = family-is x y ∙ items_cmp-is x.items.value.items y.items.value.items

pub set_cmp-is : SetsCompareAsPlain
set_cmp-is x y = set_family-is x y ∙ items_cmp-is x.items.value.items y.items.value.items
