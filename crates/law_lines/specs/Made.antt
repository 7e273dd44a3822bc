-- What was made for a type or a term is what the tables give for it afterwards.
use Rattle.std.specs.Prelude.{◌≡◌, Some}
use Rattle.law_terms.specs.Plain.{PlainType, PlainFunction, PlainTerm, PlainTerms}
use Rattle.law_terms.specs.TypeValues.{Enums}
use Rattle.law_texts.specs.Reading.{Expression}
use Rattle.law_lines.specs.Lines.{encode_type, encode_function, encode_term, encode_terms}
use Rattle.law_lines.specs.NameTables.{Tables, name_of_function}
use Rattle.law_lines.specs.Naming.{type_sort}
use Rattle.law_lines.specs.Entries.{texts_of, TypeHasEntries}
use Rattle.law_lines.specs.TermTexts.{text_of, named_text}
use Rattle.law_lines.specs.TableGrowth.{Keeps}

-- the sort that was made for a type is the one that the tables give for it then
abbrev pub TypesAreMade : Type 0
TypesAreMade = (enums : Enums) (t : PlainType) (s : Tables) → type_sort (encode_type enums t s).tables t ≡ (encode_type enums t s).made

-- the name that was made for a function is the one that the tables give for it then
abbrev pub FunctionsAreMade : Type 0
FunctionsAreMade = (enums : Enums) (f : PlainFunction) (s : Tables)
    → named_text (name_of_function (encode_function enums f s).tables f) ≡ Some (encode_function enums f s).made

-- the text that was made for a term is the one that the tables give for it then
abbrev pub TermsAreMade : Type 0
TermsAreMade = (enums : Enums) (t : PlainTerm) (s : Tables) → text_of (encode_term enums t s).tables t ≡ Some (encode_term enums t s).made

-- the texts that were made for terms are those that the tables give for them then
abbrev pub TermListsAreMade : Type 0
TermListsAreMade =
    (enums : Enums) (ts : PlainTerms) (s : Tables) → texts_of (encode_terms enums ts s).tables ts ≡ (encode_terms enums ts s).made

-- Where names stay, texts stay.
abbrev pub TextsStay : Type 0
TextsStay = (s u : Tables) (t : PlainTerm) (e : Expression) → Keeps s u → text_of s t ≡ Some e → text_of u t ≡ Some e

-- Where names stay, the sorts of types that have the entries that they need stay.
abbrev pub SortsStay : Type 0
SortsStay = (s u : Tables) (t : PlainType) → Keeps s u → TypeHasEntries s t → type_sort u t ≡ type_sort s t

-- each type that was written has its sort
abbrev pub WrittenTypesHaveEntries : Type 0
WrittenTypesHaveEntries = (enums : Enums) (t : PlainType) (s : Tables) → TypeHasEntries (encode_type enums t s).tables t
