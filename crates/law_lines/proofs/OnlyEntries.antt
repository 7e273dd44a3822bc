-- Nothing is declared but what entries' lines declare: this stays where entries are added, and holds of what an entry adds.
use Rattle.std.proofs.Common.{◌≡◌, Bool, true, false, ◌||◌, List, [], ◌∷◌, ◌++◌, ℕ, refl, sym, ap, ◌∙◌}
use Rattle.std.specs.Prelude.{bytes_eq, codes}
use Rattle.std.specs.List.{list_all, list_any}
use Rattle.std.proofs.lemmas.Bool.{and_from}
use Rattle.std.proofs.lemmas.List.{append-nil}
use Rattle.std.proofs.lemmas.List.Folds.{list_any-append}
use Rattle.std.proofs.lemmas.Slice.Eq.{bytes_eq-Decides}
use Rattle.law_terms.specs.Plain.{PlainType, PlainFunction, PlainTerm}
use Rattle.law_terms.specs.TypeValues.{Enums}
use Rattle.law_scripts.specs.Script.{is_in}
use Rattle.law_scripts.proofs.Results.{or_left, or_right}
use Rattle.law_lines.specs.NameTables.{Tables}
use Rattle.law_lines.specs.Fit.{names_of_type, option_names, declares_by_entry, has_entry_name, is_name_of_entry, is_sort_of_entry}
use Rattle.law_lines.proofs.Enter.{all_grow}

-- ---- lists that go on

abbrev pub On : {X : Type 0} → List X → List X → Type 0
On {X} xs ys = (more : List X) × (ys ≡ xs ++ more)

pub as_is : {X : Type 0} (xs : List X) → On xs xs
as_is xs = ([], sym (append-nil xs))

any_on : {X : Type 0} (p : X → Bool) (xs ys : List X) → On xs ys → list_any p xs ≡ true → list_any p ys ≡ true
any_on p xs ys o h = ap (list_any p) o.1 ∙ list_any-append p xs o.0 ∙ or_left (list_any p xs) (list_any p o.0) h

any_last : {X : Type 0} (p : X → Bool) (xs : List X) (y : X) → p y ≡ true → list_any p (xs ++ y ∷ []) ≡ true
any_last p xs y h = list_any-append p xs (y ∷ []) ∙ or_right (list_any p xs) (list_any p (y ∷ [])) (or_left (p y) false h)

or_stays : (a b c d : Bool) → (a ≡ true → c ≡ true) → (b ≡ true → d ≡ true) → (a || b) ≡ true → (c || d) ≡ true
or_stays true b c d f g h = or_left c d (f refl)
or_stays false b c d f g h = or_right c d (g h)

same : (n : List ℕ) → bytes_eq n n ≡ true
same n = (bytes_eq-Decides n n).1 refl

-- ---- names stay those of entries

pub name_stays : (enums : Enums) (s u : Tables) → On s.types u.types → On s.functions u.functions → On s.terms u.terms → (n : List ℕ) → is_name_of_entry enums s n ≡ true → is_name_of_entry enums u n ≡ true
name_stays enums s u a b c n h =
    or_stays (is_in n option_names) _ (is_in n option_names) _ (λ k. k)
    (λ k. or_stays (list_any (declares_by_entry enums n) s.types) _ (list_any (declares_by_entry enums n) u.types) _ (any_on (declares_by_entry enums n) s.types u.types a)
    (λ l. or_stays (list_any (has_entry_name n) s.functions) _ (list_any (has_entry_name n) u.functions) _ (any_on (has_entry_name n) s.functions u.functions b) (any_on (has_entry_name n) s.terms u.terms c) l) k) h

pub sort_stays_so : (s u : Tables) → On s.types u.types → (n : List ℕ) → is_sort_of_entry s n ≡ true → is_sort_of_entry u n ≡ true
sort_stays_so s u a n h = or_stays (bytes_eq n (codes "Option")) _ (bytes_eq n (codes "Option")) _ (λ k. k) (any_on (has_entry_name n) s.types u.types a) h

-- ---- what an entry adds

pub term_is_entrys : (enums : Enums) (s : Tables) (t : PlainTerm) (n : List ℕ) → is_name_of_entry enums (record s { terms = s.terms ++ (t, n) ∷ [] }) n ≡ true
term_is_entrys enums s t n =
    or_right (is_in n option_names) _ (or_right (list_any (declares_by_entry enums n) s.types) _ (or_right (list_any (has_entry_name n) s.functions) _ (any_last (has_entry_name n) s.terms (t, n) (same n))))

pub function_is_entrys : (enums : Enums) (s : Tables) (f : PlainFunction) (n : List ℕ) → is_name_of_entry enums (record s { functions = s.functions ++ (f, n) ∷ [] }) n ≡ true
function_is_entrys enums s f n =
    or_right (is_in n option_names) _ (or_right (list_any (declares_by_entry enums n) s.types) _ (or_left (list_any (has_entry_name n) (s.functions ++ (f, n) ∷ [])) _ (any_last (has_entry_name n) s.functions (f, n) (same n))))

pub sort_is_entrys : (s : Tables) (t : PlainType) (n : List ℕ) → is_sort_of_entry (record s { types = s.types ++ (t, n) ∷ [] }) n ≡ true
sort_is_entrys s t n = or_right (bytes_eq n (codes "Option")) _ (any_last (has_entry_name n) s.types (t, n) (same n))

all_in : (xs ys : List (List ℕ)) → ((n : List ℕ) → is_in n xs ≡ true → is_in n ys ≡ true) → list_all (λ n. is_in n ys) xs ≡ true
all_in [] ys f = refl
all_in (x ∷ xs) ys f = and_from (is_in x ys) _ (f x (or_left (bytes_eq x x) (is_in x xs) (same x))) (all_in xs ys (λ n h. f n (or_right (bytes_eq n x) (is_in n xs) h)))

pub names_are_entrys : (enums : Enums) (s : Tables) (t : PlainType) (d : List ℕ) → list_all (is_name_of_entry enums (record s { types = s.types ++ (t, d) ∷ [] })) (names_of_type enums t d) ≡ true
names_are_entrys enums s t d =
    all_grow (λ n. is_in n (names_of_type enums t d)) _
    (λ n h. or_right (is_in n option_names) _ (or_left (list_any (declares_by_entry enums n) (s.types ++ (t, d) ∷ [])) _ (any_last (declares_by_entry enums n) s.types (t, d) h)))
    (names_of_type enums t d) (all_in (names_of_type enums t d) (names_of_type enums t d) (λ n h. h))
