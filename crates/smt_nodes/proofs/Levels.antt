-- Labels and keys that the derived order holds equal say the same, and the other way round.
use Rattle.std.proofs.Common.{◌≡◌, ◌⊎◌, inl, inr, ℕ, List, [], ◌∷◌, true, false, refl, sym, ap, ◌∙◌}
use Rattle.std.proofs.lemmas.Bool.{false≢true}
use Rattle.std.specs.Cmp.{Equal-is, nat_cmp_is}
use Rattle.std.specs.Cmp.Lexicographic.{slice_cmp}
use Rattle.std.specs.FinMap.{nat_cmp-IsAntisymmetric, slice_cmp-IsAntisymmetric}
use Rattle.std.specs.Ordering.{is_eq, nat_cmp, ordering_then}
use Rattle.std.specs.Rc.{rc_str_bytes}
use Rattle.std.specs.declared.alloc.Global.{Global}
use Rattle.std.specs.declared.cmp.Ordering.{Ordering}
use Rattle.std.specs.declared.cmp.Ordering.TheVariants.{Equal}
use Rattle.std.specs.declared.rc.RcStr.{RcStr}
use Rattle.smt_bits.specs.Width.{bits_in}
use Rattle.law_texts.specs.SharedTexts.{texts}
use Rattle.law_terms.specs.Plain.{PlainLiteral, PlainOp, LiteralTerm}
use Rattle.law_terms.specs.TermOrder.{literal_cmp, op_cmp}
use Rattle.law_terms.specs.ValueOrder.{text_cmp}
use Rattle.law_terms.proofs.SameTerm.{op_same, literal_same}
use Rattle.law_terms.proofs.TermTotal.{ops_decided, terms_decided}
use Rattle.law_terms.proofs.ValueOrder.{text_itself, text_same, then_equal}
use Rattle.smt_term.specs.Entities.{bytes_of_type}
use Rattle.smt_term.specs.ExtensionView.{plain_kind}
use Rattle.smt_term.proofs.ExtensionOrder.{kind_cmp-is}
use Rattle.law_terms.proofs.TypeOrder.{kind_same}
use Rattle.law_terms.specs.Types.{extension_kind_place}
use Rattle.smt_term.specs.declared.op.Op.{Op}
use Rattle.smt_term.proofs.DerivedOrder.{literal_cmp-is, op_cmp-is}
use Rattle.smt_term.specs.View.{plain_literal, plain_op}
use Rattle.law_terms.specs.Nodes.{BitVecLabel, EntityLabel, ExtensionLabel, RecordLabel, FunctionLabel, ApplicationLabel, LiteralLabel, RecordOfLabel, VariableLabel}
use Rattle.smt_nodes.specs.Attributes.{attributes_of}
use Rattle.smt_nodes.specs.LabelOrder.{first_cmp, label_cmp}
use Rattle.smt_nodes.specs.View.{ids_of, place_of, places_of, plain_label}
use Rattle.smt_nodes.specs.contracts.node.LabelOrd.TheImpl as label_order
use Rattle.smt_nodes.specs.contracts.id.NodeIdOrd.TheImpl as id_order
use Rattle.smt_nodes.specs.contracts.table.KeyOrd.TheImpl as key_order
use Rattle.smt_nodes.specs.declared.id.NodeId.{NodeId}
use Rattle.smt_nodes.specs.declared.node.Label.{Label}
use Rattle.smt_nodes.specs.declared.node.Label.TheVariants.{TOption, TBitvec, TBool, TEntity, TExt, TString, TRecord, TSet, Fun, App, Call, NoneOf, Prim, RecordOf, SetOf, SomeOf, Var}
use Rattle.smt_nodes.specs.declared.table.Key.{Key}

-- lists of texts compare by their bytes
texts_cmp-is : (xs ys : List (RcStr Global)) → slice_cmp (λ x y. text_cmp (rc_str_bytes x) (rc_str_bytes y)) xs ys ≡ slice_cmp text_cmp (texts xs) (texts ys)
texts_cmp-is [] [] = refl
texts_cmp-is [] (y ∷ ys) = refl
texts_cmp-is (x ∷ xs) [] = refl
texts_cmp-is (x ∷ xs) (y ∷ ys) = ap (ordering_then (text_cmp (rc_str_bytes x) (rc_str_bytes y))) (texts_cmp-is xs ys)

texts_same : (xs ys : List (List ℕ)) → slice_cmp text_cmp xs ys ≡ Equal → xs ≡ ys
texts_same = slice_cmp-IsAntisymmetric text_same

texts_itself : (xs : List (List ℕ)) → slice_cmp text_cmp xs xs ≡ Equal
texts_itself [] = refl
texts_itself (x ∷ xs) = ap (λ o. ordering_then o (slice_cmp text_cmp xs xs)) (text_itself x) ∙ texts_itself xs

pub label_cmp-is : (l m : Label) → label_order.ghosts.cmp l m ≡ label_cmp (plain_label l) (plain_label m)
label_cmp-is (TBitvec n) (TBitvec k) = refl
label_cmp-is (TEntity e) (TEntity f) = refl
label_cmp-is (TExt k) (TExt l) = kind_cmp-is k l
label_cmp-is (TRecord a) (TRecord b) = texts_cmp-is (attributes_of a) (attributes_of b)
label_cmp-is (Fun a) (Fun b) = refl
label_cmp-is (App o) (App p) = op_cmp-is o p
label_cmp-is (Prim a) (Prim b) = literal_cmp-is a b
label_cmp-is (RecordOf a) (RecordOf b) = texts_cmp-is (attributes_of a) (attributes_of b)
label_cmp-is (Var a) (Var b) = refl
label_cmp-is l TOption = refl
label_cmp-is l m = refl

-- by one of two
pub either : {A B C : Type 0} → (A → C) → (B → C) → A ⊎ B → C
either f g (inl a) = f a
either f g (inr b) = g b

-- an application compares with any label but a call by the order of labels
pub app_first : (l k : Label) (o : Op) → l ≡ App o → ¬ (k ≡ Call) → label_cmp (plain_label l) (plain_label k) ≡ first_cmp (plain_label l) (plain_label k)
app_first (App p) Call o e n = absurd (n refl)
app_first (App p) k o e n = refl
app_first l k o e n = cc

-- ---- equal labels

-- an order that computes to another is not level
differ : (o : Ordering) → is_eq o ≡ false → o ≡ Equal → ⊥
differ o n e = false≢true (sym n ∙ ap is_eq e)

pub label_same : (l m : Label) → label_cmp (plain_label l) (plain_label m) ≡ Equal → plain_label l ≡ plain_label m
label_same (TBitvec n) (TBitvec k) h = ap BitVecLabel (nat_cmp-IsAntisymmetric (bits_in n) (bits_in k) h)
label_same (TEntity e) (TEntity f) h = ap EntityLabel (text_same (bytes_of_type e) (bytes_of_type f) h)
label_same (TExt k) (TExt l) h = ap ExtensionLabel (kind_same (plain_kind k) (plain_kind l) h)
label_same (TRecord a) (TRecord b) h = ap RecordLabel (texts_same (texts (attributes_of a)) (texts (attributes_of b)) h)
label_same (Fun a) (Fun b) h = ap FunctionLabel (text_same (rc_str_bytes a) (rc_str_bytes b) h)
label_same (App o) (App p) h = ap ApplicationLabel (op_same (plain_op o) (plain_op p) h)
label_same (Prim a) (Prim b) h = ap LiteralLabel (literal_same (plain_literal a) (plain_literal b) h)
label_same (RecordOf a) (RecordOf b) h = ap RecordOfLabel (texts_same (texts (attributes_of a)) (texts (attributes_of b)) h)
label_same (Var a) (Var b) h = ap VariableLabel (text_same (rc_str_bytes a) (rc_str_bytes b) h)
label_same TOption TOption h = refl
label_same TBool TBool h = refl
label_same TString TString h = refl
label_same TSet TSet h = refl
label_same Call Call h = refl
label_same NoneOf NoneOf h = refl
label_same SetOf SetOf h = refl
label_same SomeOf SomeOf h = refl
label_same l m h = absurd (differ (label_cmp (plain_label l) (plain_label m)) refl h)

nat_itself : (n : ℕ) → nat_cmp n n ≡ Equal
nat_itself n = sym (nat_cmp_is n n Equal refl)

pub literal_itself : (l : PlainLiteral) → literal_cmp l l ≡ Equal
literal_itself l = (Equal-is (literal_cmp l l)).0 ((terms_decided (LiteralTerm l) (LiteralTerm l)).1 refl)

pub op_itself : (o : PlainOp) → op_cmp o o ≡ Equal
op_itself o = (Equal-is (op_cmp o o)).0 ((ops_decided o o).1 refl)

pub label_itself : (l : Label) → label_cmp (plain_label l) (plain_label l) ≡ Equal
label_itself (TBitvec n) = nat_itself (bits_in n)
label_itself (TEntity e) = text_itself (bytes_of_type e)
label_itself (TExt k) = nat_itself (extension_kind_place (plain_kind k))
label_itself (TRecord a) = texts_itself (texts (attributes_of a))
label_itself (Fun a) = text_itself (rc_str_bytes a)
label_itself (App o) = op_itself (plain_op o)
label_itself (Prim a) = literal_itself (plain_literal a)
label_itself (RecordOf a) = texts_itself (texts (attributes_of a))
label_itself (Var a) = text_itself (rc_str_bytes a)
label_itself l = refl

ids_cmp-is : (xs ys : List NodeId) → slice_cmp id_order.ghosts.cmp xs ys ≡ text_cmp (places_of xs) (places_of ys)
ids_cmp-is [] [] = refl
ids_cmp-is [] (y ∷ ys) = refl
ids_cmp-is (x ∷ xs) [] = refl
ids_cmp-is (x ∷ xs) (y ∷ ys) = ap (ordering_then (nat_cmp (place_of x) (place_of y))) (ids_cmp-is xs ys)

-- ---- labels and keys
pub label_kept : (l m : Label) → is_eq (label_order.ghosts.cmp l m) ≡ true → plain_label l ≡ plain_label m
label_kept l m h = label_same l m (sym (label_cmp-is l m) ∙ (Equal-is (label_order.ghosts.cmp l m)).0 h)

pub label_equal : (l m : Label) → plain_label l ≡ plain_label m → is_eq (label_order.ghosts.cmp l m) ≡ true
label_equal l m h = ap is_eq (label_cmp-is l m ∙ (sym (ap (label_cmp (plain_label l)) h) ∙ label_itself l))

abbrev key_cmp : Key → Key → Ordering
key_cmp a b = ordering_then (nat_cmp (place_of a.first) (place_of b.first)) (text_cmp (places_of (ids_of a.parts)) (places_of (ids_of b.parts)))

key_cmp-is : (a b : Key) → key_order.ghosts.cmp a b ≡ key_cmp a b
key_cmp-is a b = ap (ordering_then (nat_cmp (place_of a.first) (place_of b.first))) (ids_cmp-is (ids_of a.parts) (ids_of b.parts))

pub key_same : (a b : Key) → is_eq (key_order.ghosts.cmp a b) ≡ true → (place_of a.first ≡ place_of b.first) × (places_of (ids_of a.parts) ≡ places_of (ids_of b.parts))
key_same a b h =
    let e : key_cmp a b ≡ Equal = sym (key_cmp-is a b) ∙ (Equal-is (key_order.ghosts.cmp a b)).0 h in
    let p = then_equal (nat_cmp (place_of a.first) (place_of b.first)) (text_cmp (places_of (ids_of a.parts)) (places_of (ids_of b.parts))) e in
    (nat_cmp-IsAntisymmetric (place_of a.first) (place_of b.first) p.0, text_same (places_of (ids_of a.parts)) (places_of (ids_of b.parts)) p.1)

pub key_equal : (a b : Key) → place_of a.first ≡ place_of b.first → places_of (ids_of a.parts) ≡ places_of (ids_of b.parts) → is_eq (key_order.ghosts.cmp a b) ≡ true
key_equal a b f p =
    let parts : text_cmp (places_of (ids_of a.parts)) (places_of (ids_of b.parts)) ≡ Equal = sym (ap (text_cmp (places_of (ids_of a.parts))) p) ∙ text_itself (places_of (ids_of a.parts)) in
    let first : nat_cmp (place_of a.first) (place_of b.first) ≡ Equal = sym (ap (nat_cmp (place_of a.first)) f) ∙ nat_itself (place_of a.first) in
    ap is_eq (key_cmp-is a b ∙ (ap (λ o. ordering_then o (text_cmp (places_of (ids_of a.parts)) (places_of (ids_of b.parts)))) first ∙ parts))
