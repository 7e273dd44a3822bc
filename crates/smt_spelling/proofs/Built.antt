-- What the nodes of the program stand for: things whose labels the program has.
use Rattle.std.proofs.Common.{◌≡◌, ◌<◌, ℕ, zero, suc, true, false, List, [], ◌∷◌, length, length-append, map, ◌≤◌, Some, None, refl, sym, ap, ◌∙◌, arith}
use Rattle.std.specs.Prelude.{nat_eq, option_map, slice_get}
use Rattle.std.proofs.lemmas.Bool.{false≢true}
use Rattle.law_terms.specs.Plain.{ExtensionKind, OptionType, BitVecType, BoolType, EntityType, ExtensionType, StringType, RecordType, SetType, AttributeTypes, BitVecLiteral, BoolLiteral, EntityLiteral, ExtensionLiteral, StringLiteral, UufOp, PlainFunction, PlainOp, PlainTerm, PlainTerms, PlainType, list_of_terms, Application, NoneTerm, LiteralTerm, RecordTerm, SetTerm, SomeTerm, VariableTerm}
use Rattle.smt_term.specs.View.{plain_function, plain_op}
use Rattle.std.specs.declared.alloc.Global.{Global}
use Rattle.std.specs.declared.rc.RcStr.{RcStr}
use Rattle.smt_term.specs.declared.entity.EntityType.{EntityType as EntityName}
use Rattle.smt_term.specs.declared.extension.ExtType.{ExtType}
use Rattle.law_terms.specs.TypeValues.{Enums}
use Rattle.smt_term.specs.declared.op.Op.{Op}
use Rattle.smt_term.specs.declared.op.Op.TheVariants.{And, Uuf}
use Rattle.law_terms.specs.Nodes.{PlainLabel, ApplicationLabel, CallLabel, EntityLabel, ExtensionLabel, FunctionLabel, LiteralLabel, RecordLabel, Meaning, TypeMeaning, FunctionMeaning, TermMeaning}
use Rattle.law_terms.specs.Parts.{label_in, parts_in, term_label, term_parts, attribute_names}
use Rattle.smt_nodes.specs.Interned.{meaning_in, nodes_of}
use Rattle.smt_nodes.specs.View.{place_of, plain_label, plain_node}
use Rattle.smt_nodes.specs.declared.id.NodeId.{NodeId}
use Rattle.smt_nodes.specs.declared.attributes.AttrList.{AttrList}
use Rattle.smt_nodes.specs.declared.interner.Interner.{Interner}
use Rattle.smt_nodes.specs.declared.node.Label.{Label}
use Rattle.smt_nodes.specs.declared.node.Label.TheVariants.{TBool, TEntity, TExt, TRecord, Fun, App}
use Rattle.smt_nodes.specs.declared.node.Node.{Node}
use Rattle.smt_nodes.proofs.Labels.{label_is}
use Rattle.smt_spelling.specs.NodeLines.{has_entry}
use Rattle.smt_spelling.specs.NodeEntries.{NodeRendering, AsCall, Rendered, entry_fault, has_inline, heading, inline_by, is_built, is_built_op, is_declared, is_entered, rendering_in, selection_fault, written_parts}
use Rattle.law_texts.specs.Reading.{Expression}
use Rattle.law_lines.specs.Lines.{AsFalse}
use Rattle.smt_spelling.proofs.Named.{meant_within}

-- an uninterpreted function is no operator of an application
no_function : (m : Meaning) (f : PlainFunction) → label_in m ≡ ApplicationLabel (UufOp f) → ⊥
no_function (TypeMeaning BoolType) f h = cc
no_function (TypeMeaning t) f h = cc
no_function (FunctionMeaning g) f h = cc
no_function (TermMeaning (Application (UufOp g) ts t)) f h = cc
no_function (TermMeaning (Application o ts t)) f h = cc
no_function (TermMeaning t) f h = cc

built_op : (o : Op) → ((f : PlainFunction) → plain_op o ≡ UufOp f → ⊥) → is_built_op (plain_op o) ≡ true
built_op And h = refl
built_op (Uuf f) h = absurd (h (plain_function f.value) refl)
built_op o h = refl

pub built_label : (l : Label) → ((f : PlainFunction) → plain_label l ≡ ApplicationLabel (UufOp f) → ⊥) → is_built (plain_label l) ≡ true
built_label (App o) h = built_op o (λ f e. h f (ap ApplicationLabel e))
built_label TBool h = refl
built_label l h = refl

-- a node at a place
node_at : (nodes : List Node) (i : ℕ) → i < length (map plain_node nodes) → (node : Node) × (slice_get (map plain_node nodes) i ≡ Some (plain_node node))
node_at [] i h = absurd (omega (arith, h))
node_at (node ∷ nodes) zero h = (node, refl)
node_at (node ∷ nodes) (suc i) h = node_at nodes i (omega (arith, h))

pub built_meaning : (i : Interner) (id : NodeId) (m : Meaning) → meaning_in i id ≡ Some m → is_built (label_in m) ≡ true
built_meaning i id m h =
    let (node, there) = node_at i.table.nodes.items (place_of id) (meant_within i id m h) in
    let e : Some (plain_label node.label) ≡ Some (label_in m) = label_is (nodes_of i) i.graph (place_of id) (plain_node node) there ∙ ap (option_map label_in) h in
    let same : plain_label node.label ≡ label_in m = cc in
    ap is_built (sym same) ∙ built_label node.label (λ f e. no_function m f (sym same ∙ e))

-- ---- what has no inline text gets a name

some_written : {A : Type 0} (how : NodeRendering) (x : A) (xs : List A) → 1 ≤ length (written_parts how (x ∷ xs))
some_written (Rendered AsFalse) x xs = omega arith
some_written (Rendered how) x xs = omega arith
some_written AsCall x [] = omega arith
some_written AsCall x (y ∷ xs) = omega arith

entered : (o : PlainOp) (ts : PlainTerms) (t : PlainType) → is_entered (term_label (Application o ts t)) ≡ true
entered (UufOp f) ts t = refl
entered o ts t = refl

pub enters : (m : Meaning) (n : ℕ) → is_built (label_in m) ≡ true → is_declared (label_in m) ≡ false → n ≡ length (written_parts (rendering_in m) (parts_in m)) → has_inline (label_in m) n ≡ false
    → (t : PlainTerm) × (m ≡ TermMeaning t) × (is_entered (label_in m) ≡ true) × (1 ≤ n)
enters (TypeMeaning (OptionType t)) n b u count none = absurd (false≢true (sym none ∙ ap (λ k. nat_eq k 1) count))
enters (TypeMeaning (SetType t)) n b u count none = absurd (false≢true (sym none ∙ ap (λ k. nat_eq k 1) count))
enters (TypeMeaning (BitVecType w)) n b u count none = absurd (false≢true (sym none))
enters (TypeMeaning BoolType) n b u count none = absurd (false≢true (sym none))
enters (TypeMeaning (EntityType e)) n b u count none = absurd (false≢true (sym u))
enters (TypeMeaning (ExtensionType k)) n b u count none = absurd (false≢true (sym u))
enters (TypeMeaning StringType) n b u count none = absurd (false≢true (sym none))
enters (TypeMeaning (RecordType x)) n b u count none = absurd (false≢true (sym u))
enters (FunctionMeaning f) n b u count none = absurd (false≢true (sym u))
enters (TermMeaning (Application o ts t)) n b u count none =
    let s = some_written (rendering_in (TermMeaning (Application o ts t))) (TypeMeaning t) (term_parts (Application o ts t)) in
    (Application o ts t, refl, entered o ts t, omega (arith, count, s))
enters (TermMeaning (LiteralTerm (BitVecLiteral w x))) n b u count none = absurd (false≢true (sym none))
enters (TermMeaning (LiteralTerm (BoolLiteral x))) n b u count none = absurd (false≢true (sym none))
enters (TermMeaning (LiteralTerm (EntityLiteral e i))) n b u count none = (LiteralTerm (EntityLiteral e i), refl, refl, omega (arith, count))
enters (TermMeaning (LiteralTerm (ExtensionLiteral x))) n b u count none = (LiteralTerm (ExtensionLiteral x), refl, refl, omega (arith, count))
enters (TermMeaning (LiteralTerm (StringLiteral x))) n b u count none = absurd (false≢true (sym none))
enters (TermMeaning (RecordTerm fs)) n b u count none = (RecordTerm fs, refl, refl, omega (arith, count))
enters (TermMeaning (NoneTerm t)) n b u count none = (NoneTerm t, refl, refl, omega (arith, count))
enters (TermMeaning (SetTerm t ts)) n b u count none = (SetTerm t ts, refl, refl, omega (arith, count))
enters (TermMeaning (SomeTerm t)) n b u count none = (SomeTerm t, refl, refl, omega (arith, count))
enters (TermMeaning (VariableTerm id t)) n b u count none = (VariableTerm id t, refl, refl, omega (arith, count))

-- a label of the program that is no entity type's, no extension type's, no record type's and no function's declares nothing
pub undeclared : (l : Label) → ((e : EntityName) → l ≡ TEntity e → ⊥) → ((k : ExtType) → l ≡ TExt k → ⊥) → ((names : AttrList) → l ≡ TRecord names → ⊥) → ((id : RcStr Global) → l ≡ Fun id → ⊥) → is_declared (plain_label l) ≡ false
undeclared (TEntity e) h x r g = absurd (h e refl)
undeclared (TExt k) h x r g = absurd (x k refl)
undeclared (TRecord names) h x r g = absurd (r names refl)
undeclared (Fun id) h x r g = absurd (g id refl)
undeclared TBool h x r g = refl
undeclared l h x r g = refl

-- what an entity type's label stands for
pub entity_meant : (m : Meaning) (e : List ℕ) → label_in m ≡ EntityLabel e → m ≡ TypeMeaning (EntityType e)
entity_meant (TypeMeaning (EntityType f)) e h = ap (λ n. TypeMeaning (EntityType n)) (same h)
  where
    same : EntityLabel f ≡ EntityLabel e → f ≡ e
    same h = cc
entity_meant (TypeMeaning (OptionType t)) e h = absurd (cc)
entity_meant (TypeMeaning (SetType t)) e h = absurd (cc)
entity_meant (TypeMeaning (BitVecType w)) e h = absurd (cc)
entity_meant (TypeMeaning BoolType) e h = absurd (cc)
entity_meant (TypeMeaning StringType) e h = absurd (cc)
entity_meant (TypeMeaning (ExtensionType k)) e h = absurd (cc)
entity_meant (TypeMeaning (RecordType x)) e h = absurd (cc)
entity_meant (FunctionMeaning f) e h = absurd (cc)
entity_meant (TermMeaning (Application (UufOp f) ts t)) e h = absurd (cc)
entity_meant (TermMeaning (Application o ts t)) e h = absurd (cc)
entity_meant (TermMeaning t) e h = absurd (cc)

-- what an extension type's label stands for
pub extension_meant : (m : Meaning) (k : ExtensionKind) → label_in m ≡ ExtensionLabel k → m ≡ TypeMeaning (ExtensionType k)
extension_meant (TypeMeaning (ExtensionType l)) k h = ap (λ n. TypeMeaning (ExtensionType n)) (same h)
  where
    same : ExtensionLabel l ≡ ExtensionLabel k → l ≡ k
    same h = cc
extension_meant (TypeMeaning BoolType) k h = absurd (cc)
extension_meant (TypeMeaning t) k h = absurd (cc)
extension_meant (FunctionMeaning f) k h = absurd (cc)
extension_meant (TermMeaning (Application (UufOp f) ts t)) k h = absurd (cc)
extension_meant (TermMeaning (Application o ts t)) k h = absurd (cc)
extension_meant (TermMeaning t) k h = absurd (cc)

-- what a record type's label stands for
pub record_meant : (m : Meaning) (names : List (List ℕ)) → label_in m ≡ RecordLabel names → (x : AttributeTypes) × (m ≡ TypeMeaning (RecordType x)) × (names ≡ attribute_names x)
record_meant (TypeMeaning (RecordType x)) names h = (x, refl, cc)
record_meant (TypeMeaning BoolType) names h = absurd (cc)
record_meant (TypeMeaning t) names h = absurd (cc)
record_meant (FunctionMeaning f) names h = absurd (cc)
record_meant (TermMeaning (Application (UufOp f) ts t)) names h = absurd (cc)
record_meant (TermMeaning (Application o ts t)) names h = absurd (cc)
record_meant (TermMeaning t) names h = absurd (cc)

-- what a function's label stands for
pub function_meant : (m : Meaning) (id : List ℕ) → label_in m ≡ FunctionLabel id → (f : PlainFunction) × (m ≡ FunctionMeaning f)
function_meant (FunctionMeaning f) id h = (f, refl)
function_meant (TypeMeaning BoolType) id h = absurd (cc)
function_meant (TypeMeaning t) id h = absurd (cc)
function_meant (TermMeaning (Application (UufOp f) ts t)) id h = absurd (cc)
function_meant (TermMeaning (Application o ts t)) id h = absurd (cc)
function_meant (TermMeaning t) id h = absurd (cc)

-- a call has its type and its function at least
pub call_parts : (m : Meaning) (n : ℕ) → label_in m ≡ CallLabel → n ≡ length (written_parts (rendering_in m) (parts_in m)) → 2 ≤ n
call_parts (TermMeaning (Application (UufOp f) ts t)) n h count = let k = length-append (map TermMeaning (list_of_terms ts)) (FunctionMeaning f ∷ []) in omega (arith, count, k)
call_parts (TermMeaning (Application o ts t)) n h count = absurd (cc)
call_parts (TermMeaning t) n h count = absurd (cc)
call_parts (FunctionMeaning f) n h count = absurd (cc)
call_parts (TypeMeaning BoolType) n h count = absurd (cc)
call_parts (TypeMeaning t) n h count = absurd (cc)

-- what has a text of its own has no entry, and its fault is that of the text
pub no_entry : (m : Meaning) (n : ℕ) → has_inline (label_in m) n ≡ true → has_entry m ≡ false
no_entry (TypeMeaning (EntityType t)) n h = absurd (false≢true h)
no_entry (TypeMeaning (ExtensionType t)) n h = absurd (false≢true h)
no_entry (TypeMeaning (RecordType t)) n h = absurd (false≢true h)
no_entry (TypeMeaning t) n h = refl
no_entry (FunctionMeaning f) n h = absurd (false≢true h)
no_entry (TermMeaning (Application (UufOp f) ts t)) n h = absurd (false≢true h)
no_entry (TermMeaning (Application o ts t)) n h = absurd (false≢true h)
no_entry (TermMeaning (LiteralTerm (EntityLiteral e i))) n h = absurd (false≢true h)
no_entry (TermMeaning (LiteralTerm (ExtensionLiteral x))) n h = absurd (false≢true h)
no_entry (TermMeaning (LiteralTerm l)) n h = refl
no_entry (TermMeaning t) n h = absurd (false≢true h)

pub no_entry_fault : (enums : Enums) (l : PlainLabel) (how : NodeRendering) (n : ℕ) → has_inline l n ≡ true → entry_fault enums l how ≡ None
no_entry_fault enums (ApplicationLabel o) how n h = absurd (false≢true h)
no_entry_fault enums (EntityLabel e) how n h = absurd (false≢true h)
no_entry_fault enums (LiteralLabel (EntityLiteral e i)) how n h = absurd (false≢true h)
no_entry_fault enums (LiteralLabel l) how n h = refl
no_entry_fault enums l how n h = refl

-- what has a text of its own selects no attribute
pub no_selection : (m : Meaning) (n : ℕ) → has_inline (label_in m) n ≡ true → selection_fault m ≡ None
no_selection (TermMeaning (Application (UufOp f) ts t)) n h = refl
no_selection (TermMeaning (Application o ts t)) n h = absurd (false≢true h)
no_selection (TermMeaning t) n h = refl
no_selection (TypeMeaning t) n h = refl
no_selection (FunctionMeaning f) n h = refl

pub entered_has_entry : (t : PlainTerm) → is_entered (label_in (TermMeaning t)) ≡ true → has_entry (TermMeaning t) ≡ true
entered_has_entry (LiteralTerm (EntityLiteral e i)) h = refl
entered_has_entry (LiteralTerm (ExtensionLiteral x)) h = refl
entered_has_entry (LiteralTerm l) h = absurd (false≢true h)
entered_has_entry t h = refl

-- and what has a text of its own has no heading
pub inline_headless : (l : PlainLabel) (es : List Expression) (e : Expression) → inline_by l es ≡ Some e → heading l ≡ []
inline_headless (FunctionLabel id) es e h = absurd (cc)
inline_headless l es e h = refl
