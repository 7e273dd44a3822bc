-- The program's terms are conditions where they are typed as Booleans and have no fault: they are formed.
use Rattle.std.proofs.Common.{◌≡◌, ℕ, ◌+◌, List, [], ◌∷◌, ◌++◌, Option, Some, None, map, sym, ap, ◌∙◌}
use Rattle.std.specs.Prelude.{unwrap_or}
use Rattle.std.specs.Io.KnownBytes.{append_known}
use Rattle.std.specs.List.{AllByRecursion}
use Rattle.smt_term.specs.Enums.{enums_of}
use Rattle.law_terms.specs.Faults.{first_fault}
use Rattle.law_terms.specs.Formed.{IsFormed}
use Rattle.law_terms.specs.Plain.{PlainTerm}
use Rattle.law_terms.specs.Typing.{AreBoolean}
use Rattle.std.specs.Prelude.{option_map}
use Rattle.law_terms.specs.Meanings.{all_found, found, meanings}
use Rattle.law_terms.specs.Nodes.{TermMeaning}
use Rattle.law_terms.proofs.Places.{map_back, then_back}
use Rattle.smt_nodes.specs.Interned.{nodes_of}
use Rattle.smt_nodes.specs.View.{place_of, places_of}
use Rattle.smt_nodes.specs.declared.id.NodeId.{NodeId}
use Rattle.smt_nodes.specs.declared.interner.Interner.{Interner}
use Rattle.smt_spelling.specs.NodeTexts.{StandFor}
use Rattle.smt_term.specs.View.{plain_term}
use Rattle.smt_term.specs.declared.enums.EnumTable.{EnumTable}
use Rattle.smt_term.specs.declared.term.Term.{Term}
use Rattle.smt_term.proofs.AscendingTexts.{members_ascend}
use Rattle.smt_term.proofs.FormedTerms.{both_formed, terms_are_formed}
use Rattle.smt_nodes.proofs.Formed.{nodes_formed}
use Rattle.law_lines.specs.NameTables.{Tables}
use Rattle.law_lines.specs.Text.{names, text}
use Rattle.law_theorem.specs.Conditions.{AreConditions}
use Rattle.law_theorem.specs.Headline.{Headline}
use Rattle.law_theorem.proofs.FitKept.{conditions_are_their_scripts}
use Rattle.law_theorem.specs.WellWritten.{IsWellWritten, most_for_terms}
use Rattle.law_theorem.proofs.Calls.{texts_are_well_written}
use Rattle.smt_encode.specs.Encoded.{OfReceived}
use Rattle.smt_spelling.specs.Names.{AreTables}
use Rattle.smt_spelling.specs.declared.names.Names.{Names}

all_formed : (ts : List Term) → AllByRecursion IsFormed (map plain_term ts)
all_formed [] = tt
all_formed (t ∷ ts) = (terms_are_formed t, all_formed ts)

-- The terms that were handed in are conditions.
pub conditions : (table : EnumTable) (ts : List Term) → AreBoolean (map plain_term ts) → first_fault (enums_of table) (map plain_term ts) ≡ None → AreConditions (enums_of table) (map plain_term ts)
conditions table ts typed none = record { are_typed = typed; are_formed = all_formed ts; have_no_fault = none }

pub headline : (table : EnumTable) (ts : List Term) → AreBoolean (map plain_term ts) → first_fault (enums_of table) (map plain_term ts) ≡ None → Headline (enums_of table) (names (enums_of table) (map plain_term ts)) (map plain_term ts) (text (enums_of table) (map plain_term ts))
headline table ts typed none = conditions_are_their_scripts (enums_of table) (map plain_term ts) (members_ascend table) (conditions table ts typed none)

pub well_written : (table : EnumTable) (ts : List Term) → AreBoolean (map plain_term ts) → first_fault (enums_of table) (map plain_term ts) ≡ None
    → IsWellWritten (enums_of table) (text (enums_of table) (map plain_term ts)) (map plain_term ts) (names (enums_of table) (map plain_term ts)) (1 + most_for_terms (map plain_term ts))
well_written table ts typed none = texts_are_well_written (enums_of table) (map plain_term ts) (members_ascend table) (conditions table ts typed none)

-- the same of the terms for which numbers stand
pub stand_formed : (i : Interner) (ids : List NodeId) (ts : List PlainTerm) → StandFor i ids ts → AllByRecursion IsFormed ts
stand_formed i ids [] h = tt
stand_formed i [] (t ∷ ts) h = absurd (cc)
stand_formed i (id ∷ ids) (t ∷ ts) h =
    let (m, e, g) = then_back (λ m. option_map (λ more. m ∷ more) (all_found (meanings (nodes_of i)) (places_of ids))) (found (meanings (nodes_of i)) (place_of id)) (map TermMeaning (t ∷ ts)) h in
    let (more, f, same) = map_back (λ more. m ∷ more) (all_found (meanings (nodes_of i)) (places_of ids)) (map TermMeaning (t ∷ ts)) g in
    let first : m ≡ TermMeaning t = cc in
    let others : more ≡ map TermMeaning ts = cc in
    (both_formed t (nodes_formed i.table.nodes.items i.graph (place_of id) (TermMeaning t) (e ∙ ap Some first)), stand_formed i ids ts (f ∙ ap Some others))

pub node_conditions : (table : EnumTable) (i : Interner) (ids : List NodeId) (ts : List PlainTerm) → StandFor i ids ts → AreBoolean ts → first_fault (enums_of table) ts ≡ None → AreConditions (enums_of table) ts
node_conditions table i ids ts stand typed none = record { are_typed = typed; are_formed = stand_formed i ids ts stand; have_no_fault = none }

pub node_headline : (table : EnumTable) (i : Interner) (ids : List NodeId) (ts : List PlainTerm) → StandFor i ids ts → AreBoolean ts → first_fault (enums_of table) ts ≡ None → Headline (enums_of table) (names (enums_of table) ts) ts (text (enums_of table) ts)
node_headline table i ids ts stand typed none = conditions_are_their_scripts (enums_of table) ts (members_ascend table) (node_conditions table i ids ts stand typed none)

pub node_well_written : (table : EnumTable) (i : Interner) (ids : List NodeId) (ts : List PlainTerm) → StandFor i ids ts → AreBoolean ts → first_fault (enums_of table) ts ≡ None
    → IsWellWritten (enums_of table) (text (enums_of table) ts) ts (names (enums_of table) ts) (1 + most_for_terms ts)
node_well_written table i ids ts stand typed none = texts_are_well_written (enums_of table) ts (members_ascend table) (node_conditions table i ids ts stand typed none)

-- What holds of a text and names, holds of the bytes that were received, with these names.
pub received : (P : Tables → List ℕ → Type 0) (n : Names) (s : Tables) (bytes : List ℕ) (before after : Option (List ℕ)) → after ≡ append_known before bytes → AreTables n s → P s bytes
    → OfReceived before after (λ got. (t : Tables) × AreTables n t × P t got)
received P n s bytes before after put has h old new was is =
    let known : ◌≡◌ {A = Option (List ℕ)} (Some new) (Some (old ++ bytes)) = sym is ∙ put ∙ ap (λ (o : Option (List ℕ)). append_known o bytes) was in
    (bytes, ap (λ (o : Option (List ℕ)). unwrap_or o new) known, (s, has, h))
