-- What a list of attributes holds.
use Rattle.std.specs.Prelude.{List}
use Rattle.std.specs.declared.alloc.Global.{Global}
use Rattle.std.specs.declared.rc.RcStr.{RcStr}
use Rattle.smt_nodes.specs.declared.attributes.AttrList.{AttrList}

-- the names of a list of attributes, in its order
abbrev pub attributes_of : AttrList → List (RcStr Global)
attributes_of list = list.items.value.items
