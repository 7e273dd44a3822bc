-- The texts of sets, and the members in tables of enum types, ascend.
use Rattle.std.proofs.Common.{ℕ, List, [], ◌∷◌, map}
use Rattle.std.specs.List.{AllByRecursion}
use Rattle.std.specs.Prelude.{IsUtf8}
use Rattle.std.specs.Rc.{rc_str_bytes}
use Rattle.std.specs.declared.alloc.Global.{Global}
use Rattle.std.specs.declared.rc.RcStr.{RcStr}
use Rattle.std.proofs.lemmas.Str.{IsUtf8-string_bytes}
use Rattle.smt_term.specs.Entities.{bytes_of_type}
use Rattle.smt_term.specs.Enums.{MembersAscend}
use Rattle.smt_term.specs.TextSets.{TextSetsAscend, texts_of}
use Rattle.law_terms.specs.TypeValues.{AreAscending}
use Rattle.smt_term.specs.declared.entity.EntityType.{EntityType}
use Rattle.smt_term.specs.declared.texts.TextSet.{TextSet}

all_texts : (ts : List (RcStr Global)) → AllByRecursion IsUtf8 (map rc_str_bytes ts)
all_texts [] = tt
all_texts (t ∷ ts) = (IsUtf8-string_bytes t.text.value, all_texts ts)

pub text_sets_ascend : TextSetsAscend
text_sets_ascend set = record { ascending = set.ascending; texts = all_texts set.items.value.items }

entries_ascend : (es : List (EntityType × TextSet)) → AllByRecursion (λ (entry : List ℕ × List (List ℕ)). AreAscending entry.1) (map (λ e. (bytes_of_type e.0, texts_of e.1)) es)
entries_ascend [] = tt
entries_ascend (e ∷ es) = (text_sets_ascend e.1, entries_ascend es)

pub members_ascend : MembersAscend
members_ascend table = entries_ascend table.types.entries
