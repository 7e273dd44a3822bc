-- What a table of enum types says.
use Rattle.std.specs.Prelude.{map}
use Rattle.law_terms.specs.TypeValues.{Enums, AreEnums}
use Rattle.smt_term.specs.Entities.{bytes_of_type}
use Rattle.smt_term.specs.TextSets.{texts_of}
use Rattle.smt_term.specs.declared.enums.EnumTable.{EnumTable}

-- the enum types, each with its members
abbrev pub enums_of : EnumTable → Enums
enums_of table = map (λ entry. (bytes_of_type entry.0, texts_of entry.1)) table.types.entries

-- the members of each enum type of a table ascend
abbrev pub MembersAscend : Type 0
MembersAscend = (table : EnumTable) → AreEnums (enums_of table)
