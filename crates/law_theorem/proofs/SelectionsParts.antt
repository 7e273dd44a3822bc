-- The parts of typed terms that have texts are typed, and have texts.
use Rattle.std.proofs.Common.{◌≡◌, ℕ, true, List, [], ◌∷◌, refl, Option, Some, None}
use Rattle.std.specs.Prelude.{IsSome}
use Rattle.std.specs.Cmp.{first_so, second_so}
use Rattle.std.specs.List.{AllByRecursion}
use Rattle.std.proofs.lemmas.Bool.{false≢true}
use Rattle.law_terms.specs.Plain.{PlainTerm, Application, NoneTerm, LiteralTerm, RecordTerm, SetTerm, SomeTerm, VariableTerm, PlainTerms, no_terms, one_term, PlainFields, no_fields, one_field}
use Rattle.law_terms.specs.Reached.{subterms, subterms_of_all, subterms_of_fields, reached_terms}
use Rattle.law_terms.specs.Types.{types_of, result_type, is_type}
use Rattle.law_terms.specs.Typing.{are_elements, typed, typed_all, typed_fields}
use Rattle.law_terms.specs.TypeValues.{Enums}
use Rattle.law_scripts.specs.Script.{State}
use Rattle.law_lines.specs.NameTables.{Tables, name_of_term}
use Rattle.law_lines.specs.Entries.{HaveTexts, HaveFieldTexts}
use Rattle.law_lines.specs.TermTexts.{named_text, text_of}
use Rattle.law_lines.specs.Fit.{Fit, PartsHaveEntries}
use Rattle.law_lines.proofs.Declared.{terms_are_declared}
use Rattle.law_terms.proofs.Defaults.{all-join}

-- typed, and with a text
abbrev pub IsSound : Tables → PlainTerm → Type 0
IsSound s t = (typed t ≡ true) × IsSome (text_of s t)

-- what has a name's text has the name
pub named_if : (o : Option (List ℕ)) → IsSome (named_text o) → (n : List ℕ) × (o ≡ Some n)
named_if (Some n) h = (n, refl)
named_if None h = absurd (false≢true h)

module _ (enums : Enums) (s : Tables) (state : State) (fit : Fit enums s state) where
  abbrev Sound : List PlainTerm → Type 0
  Sound us = AllByRecursion (IsSound s) us

  -- an entry's parts stand
  own : (t : PlainTerm) → IsSome (named_text (name_of_term s t)) → PartsHaveEntries s t
  own t h = let p = named_if (name_of_term s t) h in (terms_are_declared enums s state t p.0 fit p.1).1

  mutual
    pub term_sound : (t : PlainTerm) → typed t ≡ true → IsSome (text_of s t) → Sound (subterms t)
    term_sound (Application op ts type) h k =
        all-join (IsSound s) (subterms_of_all ts) (Application op ts type ∷ []) (terms_sound ts (first_so (typed_all ts) (is_type (result_type op (types_of ts)) type) h) (own (Application op ts type) k).0.0) ((h, k), tt)
    term_sound (NoneTerm type) h k = ((h, k), tt)
    term_sound (LiteralTerm l) h k = ((h, k), tt)
    term_sound (RecordTerm x) h k = all-join (IsSound s) (subterms_of_fields x) (RecordTerm x ∷ []) (fields_sound x h (own (RecordTerm x) k).0) ((h, k), tt)
    term_sound (SetTerm t ts) h k =
        all-join (IsSound s) (subterms_of_all ts) (SetTerm t ts ∷ []) (terms_sound ts (first_so (typed_all ts) (are_elements t ts) h) (own (SetTerm t ts) k).0) ((h, k), tt)
    term_sound (SomeTerm t) h k = all-join (IsSound s) (subterms t) (SomeTerm t ∷ []) (term_sound t h (own (SomeTerm t) k).0) ((h, k), tt)
    term_sound (VariableTerm id type) h k = ((h, k), tt)

    terms_sound : (ts : PlainTerms) → typed_all ts ≡ true → HaveTexts s ts → Sound (subterms_of_all ts)
    terms_sound no_terms h k = tt
    terms_sound (one_term t ts) h k =
        all-join (IsSound s) (subterms t) (subterms_of_all ts) (term_sound t (first_so (typed t) (typed_all ts) h) k.0) (terms_sound ts (second_so (typed t) (typed_all ts) h) k.1)

    fields_sound : (x : PlainFields) → typed_fields x ≡ true → HaveFieldTexts s x → Sound (subterms_of_fields x)
    fields_sound no_fields h k = tt
    fields_sound (one_field a t x) h k =
        all-join (IsSound s) (subterms t) (subterms_of_fields x) (term_sound t (first_so (typed t) (typed_fields x) h) k.0) (fields_sound x (second_so (typed t) (typed_fields x) h) k.1)

  -- what typed terms with texts reach is such
  pub reached_sound : (ts : List PlainTerm) → AllByRecursion (IsSound s) ts → Sound (reached_terms ts)
  reached_sound [] h = tt
  reached_sound (t ∷ ts) h = all-join (IsSound s) (subterms t) (reached_terms ts) (term_sound t h.0.0 h.0.1) (reached_sound ts h.1)
