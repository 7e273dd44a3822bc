-- The sorts that tables name, and tables whose names differ.
use Rattle.std.specs.Prelude.{◌≡◌, ◌⊎◌, ℕ, List, [], ◌∷◌}
use Rattle.law_terms.specs.Plain.{PlainType, OptionType, BitVecType, BoolType, EntityType, ExtensionType, StringType, RecordType, SetType}
use Rattle.law_texts.specs.Reading.{Expression}
use Rattle.law_scripts.specs.Script.{name}
use Rattle.law_scripts.specs.Sorts.{bool_sort, string_sort, bit_sort, option_sort, set_sort}
use Rattle.law_lines.specs.NameTables.{Tables, name_of_type, text_of_name}

-- the name of a type's datatype, and an empty name where it has none
abbrev pub type_name : Tables → PlainType → List ℕ
type_name s t = text_of_name (name_of_type s t)

-- the sort of a type, where its parts have names
abbrev pub type_sort : Tables → PlainType → Expression
type_sort s (OptionType t) = option_sort (type_sort s t)
type_sort s (BitVecType width) = bit_sort width
type_sort s BoolType = bool_sort
type_sort s (EntityType type) = name (type_name s (EntityType type))
type_sort s (ExtensionType kind) = name (type_name s (ExtensionType kind))
type_sort s StringType = string_sort
type_sort s (RecordType attributes) = name (type_name s (RecordType attributes))
type_sort s (SetType t) = set_sort (type_sort s t)

-- a table has an entry of this key and this name
abbrev pub HasEntry : {K : Type 0} → List (K × List ℕ) → K → List ℕ → Type 0
HasEntry {K} [] k n = ⊥
HasEntry {K} (e ∷ es) k n = ((e.0 ≡ k) × (e.1 ≡ n)) ⊎ HasEntry es k n

-- two entries with one name have one key
abbrev pub HasDistinctNames : {K : Type 0} → List (K × List ℕ) → Type 0
HasDistinctNames {K} es = (n : List ℕ) (k l : K) → HasEntry es k n → HasEntry es l n → k ≡ l

-- in each of the three tables two keys have two names
pub record IsOneToOne (s : Tables) : Type 0 where
  pub terms : HasDistinctNames s.terms
  pub types : HasDistinctNames s.types
  pub functions : HasDistinctNames s.functions
