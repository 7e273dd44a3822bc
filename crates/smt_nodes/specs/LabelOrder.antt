-- The order of labels, and where lists of numbers first differ.
use Rattle.std.specs.Prelude.{ℕ, true, false, nat_eq, List, [], ◌∷◌}
use Rattle.std.specs.Cmp.Lexicographic.{slice_cmp}
use Rattle.std.specs.Ordering.{match_ordering, nat_cmp}
use Rattle.std.specs.declared.cmp.Ordering.{Ordering}
use Rattle.std.specs.declared.cmp.Ordering.TheVariants.{Less, Equal, Greater}
use Rattle.law_terms.specs.TermOrder.{literal_cmp, op_cmp, op_place}
use Rattle.law_terms.specs.Types.{extension_kind_place}
use Rattle.law_terms.specs.ValueOrder.{text_cmp}
use Rattle.law_terms.specs.Nodes.{PlainLabel, OptionLabel, BitVecLabel, BoolLabel, EntityLabel, ExtensionLabel, StringLabel, RecordLabel}
use Rattle.law_terms.specs.Nodes.{SetLabel, FunctionLabel, ApplicationLabel, CallLabel, NoneLabel, LiteralLabel, RecordOfLabel, SetOfLabel}
use Rattle.law_terms.specs.Nodes.{SomeLabel, VariableLabel}
use Rattle.smt_nodes.specs.View.{place_of}
use Rattle.smt_nodes.specs.declared.id.NodeId.{NodeId}
use Rattle.smt_nodes.specs.declared.label_order.Difference.{Difference}
use Rattle.smt_nodes.specs.declared.label_order.Difference.TheVariants.{Nowhere, At, Length}

-- the place of a label in the order of labels
abbrev pub label_place : PlainLabel → ℕ
label_place OptionLabel = 0
label_place (BitVecLabel n) = 1
label_place BoolLabel = 2
label_place (EntityLabel e) = 3
label_place (ExtensionLabel k) = 4
label_place StringLabel = 5
label_place (RecordLabel names) = 6
label_place SetLabel = 7
label_place (FunctionLabel id) = 8
label_place (ApplicationLabel o) = 9
label_place CallLabel = 10
label_place NoneLabel = 11
label_place (LiteralLabel l) = 12
label_place (RecordOfLabel names) = 13
label_place SetOfLabel = 14
label_place SomeLabel = 15
label_place (VariableLabel id) = 16

-- the order of labels: by their place, and those of one place by what they hold
abbrev pub label_cmp : PlainLabel → PlainLabel → Ordering
label_cmp (BitVecLabel n) (BitVecLabel m) = nat_cmp n m
label_cmp (EntityLabel e) (EntityLabel f) = text_cmp e f
label_cmp (ExtensionLabel k) (ExtensionLabel l) = nat_cmp (extension_kind_place k) (extension_kind_place l)
label_cmp (RecordLabel xs) (RecordLabel ys) = slice_cmp text_cmp xs ys
label_cmp (FunctionLabel a) (FunctionLabel b) = text_cmp a b
label_cmp (ApplicationLabel o) (ApplicationLabel p) = op_cmp o p
label_cmp (LiteralLabel l) (LiteralLabel m) = literal_cmp l m
label_cmp (RecordOfLabel xs) (RecordOfLabel ys) = slice_cmp text_cmp xs ys
label_cmp (VariableLabel a) (VariableLabel b) = text_cmp a b
label_cmp l m = nat_cmp (label_place l) (label_place m)

-- the place of the uninterpreted functions among the operators
abbrev pub function_place : ℕ
function_place = 31

-- how the labels of two nodes compare before their parts do: by their order, but an application and a call as their operators'
-- places do, and two records by their parts alone, since each attribute has its type before the next attribute
abbrev pub first_cmp : PlainLabel → PlainLabel → Ordering
first_cmp (ApplicationLabel o) CallLabel = nat_cmp (op_place o) function_place
first_cmp CallLabel (ApplicationLabel o) = nat_cmp function_place (op_place o)
first_cmp (RecordLabel xs) (RecordLabel ys) = Equal
first_cmp (RecordOfLabel xs) (RecordOfLabel ys) = Equal
first_cmp l k = label_cmp l k

-- where two lists of numbers first differ
abbrev pub difference_of : List NodeId → List NodeId → Difference
difference_of [] [] = Nowhere
difference_of [] (y ∷ ys) = Length Less
difference_of (x ∷ xs) [] = Length Greater
difference_of (x ∷ xs) (y ∷ ys) = elim (nat_eq (place_of x) (place_of y)) [ true ↦ difference_of xs ys | false ↦ At x y ]

-- one difference, or else the other
abbrev pub or_else : Difference → Difference → Difference
or_else Nowhere d = d
or_else c d = c

-- where two records first differ: at an attribute that only one has, or at what they have for one attribute
abbrev pub attributes_apart : List (List ℕ) → List (List ℕ) → List NodeId → List NodeId → Difference
attributes_apart [] [] xs ys = Nowhere
attributes_apart [] (b ∷ bs) xs ys = Length Less
attributes_apart (a ∷ as') [] xs ys = Length Greater
attributes_apart (a ∷ as') (b ∷ bs) (x ∷ xs) (y ∷ ys) =
    match_ordering (text_cmp a b) (Length Less)
    (elim (nat_eq (place_of x) (place_of y)) [ true ↦ attributes_apart as' bs xs ys | false ↦ At x y ]) (Length Greater)
attributes_apart (a ∷ as') (b ∷ bs) xs ys = difference_of xs ys

-- where the parts of two nodes first differ, whose labels leave them level, in the order in which terms compare them: of an
-- application, of a call and of some the type comes last, and that of a record goes with its terms
abbrev pub parts_apart : PlainLabel → PlainLabel → List NodeId → List NodeId → Difference
parts_apart (RecordLabel as') (RecordLabel bs) xs ys = attributes_apart as' bs xs ys
parts_apart (RecordOfLabel as') (RecordOfLabel bs) (t ∷ xs) (u ∷ ys) = attributes_apart as' bs xs ys
parts_apart (ApplicationLabel o) k (t ∷ xs) (u ∷ ys) = or_else (difference_of xs ys) (difference_of (t ∷ []) (u ∷ []))
parts_apart CallLabel k (t ∷ xs) (u ∷ ys) = or_else (difference_of xs ys) (difference_of (t ∷ []) (u ∷ []))
parts_apart SomeLabel k (t ∷ xs) (u ∷ ys) = or_else (difference_of xs ys) (difference_of (t ∷ []) (u ∷ []))
parts_apart l k xs ys = difference_of xs ys
