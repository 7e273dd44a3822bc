-- What is printed of texts, terms and fields, taken one at a time.
use Rattle.std.proofs.Common.{ℕ, false, ◌==◌, arith, encode_utf8, ◌≡◌, ◌≢◌, ◌+◌, ◌<◌, ◌≤◌, List, [], ◌∷◌, ◌++◌, ◌∙◌, ap, sym, refl, append-nil, append_assoc, map, drop, length, get_or}
use Rattle.std.proofs.lemmas.List.{at_drop_more, drop_all}
use Rattle.std.proofs.lemmas.Bool.Decides.{nat_tests}
use Rattle.std.specs.Char.{IsNotAsciiControl}
use Rattle.std.specs.Prelude.{codes}
use Rattle.std.specs.Rc.{rc_str_bytes}
use Rattle.std.specs.declared.rc.RcStr.{RcStr}
use Rattle.std.specs.declared.alloc.Global.{Global}
use Rattle.law_texts.proofs.Ids.{plain_character}
use Rattle.law_terms.specs.Plain.{PlainTerm, terms, record_fields}
use Rattle.smt_term.specs.Printed.{character_text, field_text, field_texts, record_text, term_text, term_texts}
use Rattle.law_texts.specs.LineTexts.{comma_separated}
use Rattle.smt_term.specs.View.{plain_field, plain_term}
use Rattle.smt_term.specs.declared.term.Term.{Term}

-- a character that is neither a control of ASCII nor a quote, an apostrophe or a backslash is written as it is
pub raw_character : (c : ℕ) → IsNotAsciiControl c → c ≢ 34 → c ≢ 39 → c ≢ 92 → character_text c ≡ encode_utf8 c
raw_character c control quote apostrophe backslash =
    let apart : (c == 39) ≡ false = grind (arith, nat_tests) in
    rw apart (plain_character c control quote backslash)

-- one item more is written
pub next_item : {X : Type 0} (written_of : List X → List ℕ) (one : X → List ℕ) → ((x : X) (xs : List X) → written_of (x ∷ xs) ≡ one x ++ written_of xs)
    → (done whole : List ℕ) (xs : List X) (i : ℕ) (d : X) → i < length xs
    → done ++ written_of (drop i xs) ≡ whole → (done ++ one (get_or xs i d)) ++ written_of (drop (i + 1) xs) ≡ whole
next_item written_of one more done whole xs i d lt before =
    let x = get_or xs i d in
    append_assoc done (one x) (written_of (drop (i + 1) xs)) ∙ ap (λ l. done ++ l) (sym (at_drop_more written_of xs i d lt ∙ more x (drop (i + 1) xs))) ∙ before

-- no item is left
pub no_item : {X : Type 0} (written_of : List X → List ℕ) → written_of [] ≡ []
    → (done whole : List ℕ) (xs : List X) (i : ℕ) → length xs ≤ i → done ++ written_of (drop i xs) ≡ whole → done ≡ whole
no_item written_of none done whole xs i past before =
    sym (append-nil done) ∙ ap (λ l. done ++ l) (sym (ap written_of (drop_all i xs past) ∙ none)) ∙ before

-- one text more is written behind its gap
pub next_text : (done gap text left left' whole : List ℕ) → left ≡ (gap ++ text) ++ left' → done ++ left ≡ whole → ((done ++ gap) ++ text) ++ left' ≡ whole
next_text done gap text left left' whole e h =
    let f : done ++ ((gap ++ text) ++ left') ≡ whole = ap (λ l. done ++ l) (sym e) ∙ h in
    simp append_assoc (simp append_assoc at f)

-- what a term prints, and an attribute with its term
abbrev pub printed_term : Term → List ℕ
printed_term t = term_text (plain_term t)

abbrev pub printed_field : RcStr Global × Term → List ℕ
printed_field p = field_text (rc_str_bytes p.0) (printed_term p.1)

pub texts_of_terms : (ts : List Term) → map printed_term ts ≡ term_texts (terms (map plain_term ts))
texts_of_terms [] = refl
texts_of_terms (t ∷ ts) = ap (λ l. printed_term t ∷ l) (texts_of_terms ts)

pub texts_of_fields : (ps : List (RcStr Global × Term)) → map printed_field ps ≡ field_texts (record_fields (map plain_field ps))
texts_of_fields [] = refl
texts_of_fields (p ∷ ps) = ap (λ l. printed_field p ∷ l) (texts_of_fields ps)

-- a record that has fields
pub some_fields : (fs : List (List ℕ × PlainTerm)) → fs ≢ [] → record_text (field_texts (record_fields fs)) ≡ codes "{ " ++ (comma_separated (field_texts (record_fields fs)) ++ codes " }")
some_fields [] h = absurd (h refl)
some_fields (f ∷ fs) h = refl
