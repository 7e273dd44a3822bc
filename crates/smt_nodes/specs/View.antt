-- The plain form of the program's nodes: what they say, without where they lie in memory.
use Rattle.std.specs.Prelude.{ℕ, List, [], map}
use Rattle.std.specs.Rc.{rc_slice_items, rc_str_bytes}
use Rattle.smt_bits.specs.Width.{bits_in}
use Rattle.law_terms.specs.Nodes.{PlainLabel, OptionLabel, BitVecLabel, BoolLabel, EntityLabel, ExtensionLabel, StringLabel, RecordLabel}
use Rattle.law_terms.specs.Nodes.{SetLabel, FunctionLabel, ApplicationLabel, CallLabel, NoneLabel, LiteralLabel, RecordOfLabel, SetOfLabel}
use Rattle.law_terms.specs.Nodes.{SomeLabel, VariableLabel, PlainNode}
use Rattle.law_texts.specs.SharedTexts.{texts}
use Rattle.smt_nodes.specs.Attributes.{attributes_of}
use Rattle.smt_term.specs.Entities.{bytes_of_type}
use Rattle.smt_term.specs.ExtensionView.{plain_kind}
use Rattle.smt_term.specs.View.{plain_literal, plain_op}
use Rattle.smt_nodes.specs.declared.id.IdList.{IdList}
use Rattle.smt_nodes.specs.declared.id.Items.{Items}
use Rattle.smt_nodes.specs.declared.id.Items.TheVariants.{Empty, One, Two, Three, More}
use Rattle.smt_nodes.specs.declared.id.NodeId.{NodeId}
use Rattle.smt_nodes.specs.declared.node.Label.{Label}
use Rattle.smt_nodes.specs.declared.node.Label.TheVariants.{TOption, TBitvec, TBool, TEntity, TExt, TString, TRecord, TSet, Fun, App, Call}
use Rattle.smt_nodes.specs.declared.node.Label.TheVariants.{NoneOf, Prim, RecordOf, SetOf, SomeOf, Var}
use Rattle.smt_nodes.specs.declared.node.Node.{Node}

-- the place of the node that a number names, in the list of all nodes
abbrev pub place_of : NodeId → ℕ
place_of id = id.place

-- the numbers that a list of parts holds, however it is kept
abbrev pub ids_in : Items → List NodeId
ids_in Empty = []
ids_in (One ids) = ids
ids_in (Two ids) = ids
ids_in (Three ids) = ids
ids_in (More ids) = rc_slice_items ids

-- the numbers of a list of parts
abbrev pub ids_of : IdList → List NodeId
ids_of list = ids_in list.items

-- the places of numbers, in order
abbrev pub places_of : List NodeId → List ℕ
places_of ids = map place_of ids

-- what a label of the program says
abbrev pub plain_label : Label → PlainLabel
plain_label TOption = OptionLabel
plain_label (TBitvec n) = BitVecLabel (bits_in n)
plain_label TBool = BoolLabel
plain_label (TEntity e) = EntityLabel (bytes_of_type e)
plain_label (TExt k) = ExtensionLabel (plain_kind k)
plain_label TString = StringLabel
plain_label (TRecord names) = RecordLabel (texts (attributes_of names))
plain_label TSet = SetLabel
plain_label (Fun id) = FunctionLabel (rc_str_bytes id)
plain_label (App o) = ApplicationLabel (plain_op o)
plain_label Call = CallLabel
plain_label NoneOf = NoneLabel
plain_label (Prim literal) = LiteralLabel (plain_literal literal)
plain_label (RecordOf names) = RecordOfLabel (texts (attributes_of names))
plain_label SetOf = SetOfLabel
plain_label SomeOf = SomeLabel
plain_label (Var id) = VariableLabel (rc_str_bytes id)

-- what a node of the program says: its label, and the places of its parts
abbrev pub plain_node : Node → PlainNode
plain_node node = record { label = plain_label node.label; parts = places_of (ids_of node.parts) }
