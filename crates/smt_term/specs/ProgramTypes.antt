-- Laws of the program's types: what their code keeps, said of their plain form.
use Rattle.std.specs.Prelude.{◌≡◌, ◌↔◌, IsTrue}
use Rattle.std.specs.Cmp.Lexicographic.{slice_cmp}
use Rattle.law_terms.specs.Types.{type_cmp}
use Rattle.law_terms.specs.ValueOrder.{text_cmp}
use Rattle.smt_term.specs.Ordered.{AreOrdered, pair_cmp}
use Rattle.smt_term.specs.TypeView.{plain_attributes, plain_type}
use Rattle.smt_term.specs.contracts.type_maps.TypeMapOrd.TheImpl as map_order
use Rattle.smt_term.specs.contracts.type_maps.TypeMapPartialEq.TheImpl as map_equality
use Rattle.smt_term.specs.contracts.types.TermTypeOrd.TheImpl as type_order
use Rattle.smt_term.specs.contracts.types.TermTypePartialEq.TheImpl as type_equality
use Rattle.smt_term.specs.declared.types.TermType.{TermType}

-- types compare as what they say
abbrev pub TypesCompareAsPlain : Type 0
TypesCompareAsPlain = (s t : TermType) → type_order.ghosts.cmp s t ≡ type_cmp (plain_type s) (plain_type t)

-- two types are equal exactly where they say the same
abbrev pub EqualTypesSayTheSame : Type 0
EqualTypesSayTheSame = (s t : TermType) → IsTrue (type_equality.ghosts.eq s t) ↔ (plain_type s ≡ plain_type t)

-- maps are ordered as lists of their attributes and types, by the first difference, and are equal where they have the same
abbrev pub TypeMapsAreOrdered : Type 0
TypeMapsAreOrdered = AreOrdered map_order.ghosts.cmp map_equality.ghosts.eq plain_attributes (slice_cmp (pair_cmp text_cmp type_cmp))
