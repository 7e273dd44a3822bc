-- Places among texts are there where the texts are.
use Rattle.std.proofs.Common.{◌≡◌, ℕ, suc, Bool, true, false, [], ◌∷◌, length, refl, ◌∙◌, arith}
use Rattle.std.specs.Prelude.{nat_lt, bytes_eq, ◌||◌, if◌then◌else◌, Option, Some}
use Rattle.std.specs.List.{list_any}
use Rattle.std.specs.Option.{is_some}
use Rattle.std.proofs.lemmas.Bool.{ltb-true, ltb-false, lt-ltb, le-ltb}
use Rattle.law_terms.specs.Plain.{PlainType, no_attributes, attribute}
use Rattle.law_terms.specs.Types.{attribute_in}
use Rattle.law_terms.specs.Parts.{attribute_names}
use Rattle.law_lines.specs.EntryNames.{place_of}
use Rattle.law_theorem.specs.Conditions.{PlacesAreFound, AttributesAreFound}

one_less : (a b : ℕ) → nat_lt (suc a) (suc b) ≡ nat_lt a b
one_less a b = by (nat_lt a b) refl
  where
    by : (c : Bool) → nat_lt a b ≡ c → nat_lt (suc a) (suc b) ≡ c
    by true h = lt-ltb (suc a) (suc b) (let k = ltb-true a b h in omega arith)
    by false h = le-ltb (suc a) (suc b) (let k = ltb-false a b h in omega arith)

pub places_found : PlacesAreFound
places_found i [] = refl
places_found i (m ∷ ms) = by (bytes_eq i m) (places_found i ms)
  where
    by : (b : Bool) → nat_lt (place_of i ms) (length ms) ≡ list_any (bytes_eq i) ms
        → nat_lt (if b then 0 else suc (place_of i ms)) (suc (length ms)) ≡ (b || list_any (bytes_eq i) ms)
    by true h = lt-ltb 0 (suc (length ms)) (omega arith)
    by false h = one_less (place_of i ms) (length ms) ∙ h

pub attributes_found : AttributesAreFound
attributes_found a no_attributes = refl
attributes_found a (attribute b t x) = by (bytes_eq a b) (attributes_found a x)
  where
    by : (c : Bool) → nat_lt (place_of a (attribute_names x)) (length (attribute_names x)) ≡ is_some (attribute_in a x)
        → nat_lt (if c then 0 else suc (place_of a (attribute_names x))) (suc (length (attribute_names x))) ≡ is_some (elim c as (λ e. Option PlainType) [ true ↦ Some t | false ↦ attribute_in a x ])
    by true h = lt-ltb 0 (suc (length (attribute_names x))) (omega arith)
    by false h = one_less (place_of a (attribute_names x)) (length (attribute_names x)) ∙ h
