-- What sets of texts say.
use Rattle.std.specs.Prelude.{ℕ, List, map}
use Rattle.std.specs.Cmp.Lexicographic.{slice_cmp}
use Rattle.std.specs.Rc.{rc_str_bytes}
use Rattle.law_terms.specs.ValueOrder.{sorted, text_cmp}
use Rattle.smt_term.specs.Ordered.{AreOrdered}
use Rattle.smt_term.specs.contracts.texts.TextSetOrd.TheImpl as set_order
use Rattle.smt_term.specs.contracts.texts.TextSetPartialEq.TheImpl as set_equality
use Rattle.smt_term.specs.declared.texts.TextSet.{TextSet}
use Rattle.law_terms.specs.TypeValues.{AreAscending}

-- texts in the order of their bytes, each once
abbrev pub sorted_texts : List (List ℕ) → List (List ℕ)
sorted_texts ts = sorted text_cmp ts

-- the texts of a set
abbrev pub texts_of : TextSet → List (List ℕ)
texts_of set = map rc_str_bytes set.items.value.items

-- the texts of each set ascend
abbrev pub TextSetsAscend : Type 0
TextSetsAscend = (set : TextSet) → AreAscending (texts_of set)

-- sets are ordered as lists of their texts, by the first difference, and are equal where they have the same texts
abbrev pub TextSetsAreOrdered : Type 0
TextSetsAreOrdered = AreOrdered set_order.ghosts.cmp set_equality.ghosts.eq texts_of (slice_cmp text_cmp)
