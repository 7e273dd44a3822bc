-- The lines of sets and entities whose parts are written as they stand.
use Rattle.std.proofs.Common.{◌≡◌, ℕ, List, [], ◌∷◌, ◌++◌, map, Option, Some, None, refl, sym, ap, ◌∙◌, append-nil}
use Rattle.std.proofs.lemmas.List.{map-append}
use Rattle.std.specs.List.{AllZip}
use Rattle.std.specs.Prelude.{codes}
use Rattle.std.specs.Rc.{rc_str_bytes}
use Rattle.std.specs.declared.alloc.Global.{Global}
use Rattle.std.specs.declared.rc.RcStr.{RcStr}
use Rattle.law_texts.specs.LineTexts.{define_fun_text}
use Rattle.law_texts.specs.SharedTexts.{texts}
use Rattle.law_texts.specs.Reading.{Expression}
use Rattle.law_scripts.specs.Script.{name}
use Rattle.law_lines.specs.LineForms.{empty_set, set_body}
use Rattle.law_lines.specs.Lines.{next_term}
use Rattle.law_lines.specs.NameTables.{Tables}
use Rattle.law_lines.specs.Spelling.{spelled}
use Rattle.smt_spelling.specs.Entries.{entity_entry, entry_bytes, SaysEntry}
use Rattle.smt_spelling.specs.declared.entry.Entry.{Entry}
use Rattle.smt_spelling.specs.declared.entry.Entry.TheVariants.{Body, Constant, Name}
use Rattle.smt_spelling.proofs.Bracketed.{bracketed}
use Rattle.smt_encode.specs.Alone.{empty_set_text, line_of_entity, name_of_entity, set_body_text}
use Rattle.smt_spelling.specs.NodeEntries.{entry_name}

-- texts as they stand are spelled as names
pub as_they_stand : (xs : List (List ℕ)) → xs ≡ map spelled (map name xs)
as_they_stand [] = refl
as_they_stand (x ∷ xs) = ap (λ l. x ∷ l) (as_they_stand xs)

-- texts that were cloned say the same
pub clones_say : (xs ys : List (RcStr Global)) → AllZip (λ x y. rc_str_bytes y ≡ rc_str_bytes x) xs ys → texts ys ≡ texts xs
clones_say [] [] h = refl
clones_say [] (y ∷ ys) h = absurd h
clones_say (x ∷ xs) [] h = absurd h
clones_say (x ∷ xs) (y ∷ ys) h = λ i. h.0 i ∷ clones_say xs ys h.1 i

empty_spelled : (sort : List ℕ) → spelled (empty_set (name sort)) ≡ empty_set_text sort
empty_spelled sort = ap (λ l. codes "(as set.empty " ++ (l ++ codes ")")) (append-nil sort)

pub set_spelled : (sort : List ℕ) (elements : List (List ℕ)) → spelled (set_body (name sort) (map name elements)) ≡ set_body_text sort elements
set_spelled sort [] = empty_spelled sort
set_spelled sort (e ∷ es) =
    let es' : List Expression = map name (e ∷ es) in
    let same : (e ∷ es) ++ empty_set_text sort ∷ [] ≡ map spelled (es' ++ empty_set (name sort) ∷ []) =
    (λ i. as_they_stand (e ∷ es) i ++ sym (empty_spelled sort) i ∷ []) ∙ sym (map-append spelled es' (empty_set (name sort) ∷ [])) in
    sym (bracketed (codes "set.insert") (name (codes "set.insert")) ((e ∷ es) ++ empty_set_text sort ∷ []) (es' ++ empty_set (name sort) ∷ []) refl same)

-- the name and the line of an entity's entry
pub entity_named : (members : Option (List (List ℕ))) (id sort : List ℕ) (s : Tables) → entry_name (entity_entry members id sort) s ≡ name_of_entity members id sort s
entity_named None id sort s = refl
entity_named (Some ms) id sort s = refl

pub entity_spelled : (members : Option (List (List ℕ))) (id sort : List ℕ) (s : Tables) (entry : Entry) → SaysEntry (entity_entry members id sort) entry → entry_bytes entry (entry_name (entity_entry members id sort) s) sort ≡ line_of_entity members id sort s
entity_spelled None id sort s (Body text) says = ap (define_fun_text (next_term s) [] sort) says
entity_spelled None id sort s (Constant comment) says = absurd says
entity_spelled None id sort s (Name n) says = absurd says
entity_spelled (Some ms) id sort s (Name n) says = refl
entity_spelled (Some ms) id sort s (Body text) says = absurd says
entity_spelled (Some ms) id sort s (Constant comment) says = absurd says
