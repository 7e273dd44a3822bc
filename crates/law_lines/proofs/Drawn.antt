-- The names that types are given are new.
use Rattle.std.proofs.Common.{◌≡◌, ℕ, zero, suc, ◌+◌, ◌≤◌, Bool, true, false, not, ◌||◌, List, [], ◌∷◌, ◌++◌, length, refl, sym, ap, ◌∙◌, subst, inl, inr, Option, Some, None, arith}
use Rattle.std.specs.Prelude.{codes, bytes_eq, nat_lt, ◌==◌, is_some}
use Rattle.std.specs.List.{list_all}
use Rattle.std.proofs.lemmas.Bool.{and_from, or_from, cases_Bool, lt-ltb, le-ltb}
use Rattle.std.proofs.lemmas.List.{append-nil, length-append, append_cancel_left}
use Rattle.std.proofs.lemmas.Slice.Eq.{bytes_eq-Decides}
use Rattle.law_terms.specs.Plain.{ExtensionKind, IpAddrKind, DecimalKind, DatetimeKind, DurationKind, PlainType, EntityType, ExtensionType, RecordType, AttributeTypes}
use Rattle.law_terms.specs.TypeValues.{Enums, members_of}
use Rattle.law_terms.specs.Types.{type_eq}
use Rattle.law_terms.specs.Parts.{attribute_names}
use Rattle.law_terms.proofs.TermTotal.{types_decided}
use Rattle.law_texts.specs.Lexicon.{is_digit}
use Rattle.law_scripts.specs.Script.{are_distinct, is_in, is_keyword, is_for_solvers, is_reserved, built_in_names}
use Rattle.law_scripts.specs.Written.{is_name}
use Rattle.law_lines.specs.Spelling.{numeral}
use Rattle.law_lines.specs.EntryNames.{member_name, attribute_name, id_name, kind_name}
use Rattle.law_scripts.specs.Numerals.{numbered}
use Rattle.law_lines.specs.Lines.{next_entity, next_record}
use Rattle.law_lines.specs.NameTables.{Tables, name_of_type}
use Rattle.law_scripts.proofs.Numerals.{numerals_differ}
use Rattle.law_scripts.proofs.Numbers.{numeral_suits, suits}
use Rattle.law_lines.proofs.Making.{lookup_new}
use Rattle.law_lines.specs.Fit.{IsKindNamed, first, behind_first, drawn_number, is_old, is_old_sort, is_old_name_in, has_kind, names_of_type}
use Rattle.law_lines.proofs.TypeNames.{placed, listed_entity, listed, names_listed}
use Rattle.law_lines.proofs.Basic.{suits_append, e_name, r_name, leads_numeral, digit_first}
use Rattle.law_lines.proofs.Enter.{apart, unreserved}
use Rattle.law_lines.proofs.Datatype.{with_type, is_free, sort_names, IsNew}

-- A name with the letter of a type, and a number.
pub record IsDrawn (n : List ℕ) (k : ℕ) : Type 0 where
  pub no_term : (first n == 116) ≡ false
  pub no_function : (first n == 102) ≡ false
  pub letter : ((first n == 69) || (first n == 82)) ≡ true
  pub number : drawn_number n ≡ k
  pub digit : is_digit (first (behind_first n)) ≡ true
  pub name : is_name n ≡ true
  pub begins : (is_keyword n || is_for_solvers n) ≡ false

drawn_e : (k : ℕ) (tail : List ℕ) → is_digit (first tail) ≡ false → list_all suits tail ≡ true → IsDrawn (69 ∷ (numeral k ++ tail)) k
drawn_e k tail h s = record {
  no_term = refl;
  no_function = refl;
  letter = refl;
  number = leads_numeral k tail h;
  digit = digit_first k tail;
  name = e_name (numeral k ++ tail) (suits_append (numeral k) tail (numeral_suits k) s);
  begins = refl;
}

drawn_r : (k : ℕ) (tail : List ℕ) → is_digit (first tail) ≡ false → list_all suits tail ≡ true → IsDrawn (82 ∷ (numeral k ++ tail)) k
drawn_r k tail h s = record {
  no_term = refl;
  no_function = refl;
  letter = refl;
  number = leads_numeral k tail h;
  digit = digit_first k tail;
  name = r_name (numeral k ++ tail) (suits_append (numeral k) tail (numeral_suits k) s);
  begins = refl;
}

drawn_e_alone : (k : ℕ) → IsDrawn (69 ∷ numeral k) k
drawn_e_alone k = subst (λ ds. IsDrawn (69 ∷ ds) k) (append-nil (numeral k)) (drawn_e k [] refl refl)

pub drawn_r_alone : (k : ℕ) → IsDrawn (82 ∷ numeral k) k
drawn_r_alone k = subst (λ ds. IsDrawn (82 ∷ ds) k) (append-nil (numeral k)) (drawn_r k [] refl refl)

old_is : (a b c : ℕ) (kinds : ExtensionKind → Bool) (n : List ℕ) (k : ℕ) → IsDrawn n k → is_old a b c kinds n ≡ nat_lt k c
old_is a b c kinds n k d = rw (d.no_term, d.no_function, d.letter, d.number) refl

old_sort_is : (c : ℕ) (kinds : ExtensionKind → Bool) (n : List ℕ) (k : ℕ) → IsDrawn n k → is_old_sort c kinds n ≡ nat_lt k c
old_sort_is c kinds n k d = rw (d.letter, d.number) refl

free : (n : List ℕ) (k : ℕ) → IsDrawn n k → is_free n ≡ true
free n k d = and_from (not (is_in n built_in_names)) (not (is_reserved n)) (ap not (apart n built_in_names refl d.digit)) (ap not (unreserved n d.digit d.begins))

abbrev pub AllDrawn : ℕ → List (List ℕ) → Type 0
AllDrawn k [] = Unit {0}
AllDrawn k (n ∷ ns) = IsDrawn n k × AllDrawn k ns

all_pass : (p : List ℕ → Bool) (k : ℕ) → ((n : List ℕ) → IsDrawn n k → p n ≡ true) → (ns : List (List ℕ)) → AllDrawn k ns → list_all p ns ≡ true
all_pass p k f [] h = refl
all_pass p k f (n ∷ ns) h = and_from (p n) (list_all p ns) (f n h.0) (all_pass p k f ns h.1)

not_below : (k c : ℕ) → c ≤ k → nat_lt k c ≡ false
not_below k c h = le-ltb k c h

drawn_new : (enums : Enums) (s : Tables) (t : PlainType) (d : List ℕ) → IsDrawn d (length s.types) → AllDrawn (length s.types) (listed enums t d) → are_distinct (listed enums t d) ≡ true → IsKindNamed t d → IsNew enums s t d
drawn_new enums s t d i each different kind =
    let k = length s.types in
    let e = sym (names_listed enums t d) in
    let all : AllDrawn k (names_of_type enums t d) = subst (AllDrawn k) e each in
    let u = with_type t d s in
    let less : nat_lt k (length u.types) ≡ true = let one : List (PlainType × List ℕ) = (t, d) ∷ [] in let a = length-append s.types one in let b : length one ≡ 1 = refl in lt-ltb k (length u.types) (omega arith) in
    record {
      name = i.name;
      sort_free = apart d sort_names refl i.digit;
      sort_unreserved = unreserved d i.digit i.begins;
      sort_new = old_sort_is k (has_kind s) d k i ∙ not_below k k (omega arith);
      sort_old = old_sort_is (length u.types) (has_kind u) d k i ∙ less;
      names = all_pass is_name k (λ n x. x.name) (names_of_type enums t d) all;
      free = all_pass is_free k (λ n x. free n k x) (names_of_type enums t d) all;
      new = all_pass (λ n. not (is_old_name_in s n)) k (λ n x. ap not (old_is (length s.terms) (length s.functions) k (has_kind s) n k x ∙ not_below k k (omega arith))) (names_of_type enums t d) all;
      old = all_pass (is_old_name_in u) k (λ n x. old_is (length s.terms) (length s.functions) (length u.types) (has_kind u) n k x ∙ less) (names_of_type enums t d) all;
      distinct = subst (λ ns. are_distinct ns ≡ true) e different;
      kind = kind;
    }

-- ---- different names

bytes_differ : (a b : List ℕ) → (a ≡ b → ⊥) → bytes_eq a b ≡ false
bytes_differ a b f = elim (cases_Bool (bytes_eq a b)) [ inl h ↦ absurd (f ((bytes_eq-Decides a b).0 h)) | inr h ↦ h ]

not_placed : (x : List ℕ) (f : ℕ → List ℕ) (p c : ℕ) → ((i : ℕ) → p ≤ i → x ≡ f i → ⊥) → is_in x (placed f p c) ≡ false
not_placed x f p zero h = refl
not_placed x f p (suc c) h = or_from (bytes_eq x (f p)) (is_in x (placed f (suc p) c)) (bytes_differ x (f p) (h p (omega arith))) (not_placed x f (suc p) c (λ i l. h i (omega arith)))

distinct_placed : (f : ℕ → List ℕ) → ((i j : ℕ) → f i ≡ f j → i ≡ j) → (p c : ℕ) → are_distinct (placed f p c) ≡ true
distinct_placed f g p zero = refl
distinct_placed f g p (suc c) =
    and_from (not (is_in (f p) (placed f (suc p) c))) (are_distinct (placed f (suc p) c))
    (ap not (not_placed (f p) f (suc p) c (λ i l e. let k = g p i e in impossible p i l k))) (distinct_placed f g (suc p) c)
  where
    impossible : (p i : ℕ) → suc p ≤ i → p ≡ i → ⊥
    impossible p i l k = omega arith

members_differ : (d : List ℕ) (i j : ℕ) → member_name d i ≡ member_name d j → i ≡ j
members_differ d i j e = numerals_differ i j (append_cancel_left (codes "_m") (numeral i) (numeral j) (append_cancel_left d (numbered (codes "_m") i) (numbered (codes "_m") j) e))

attributes_differ : (d : List ℕ) (i j : ℕ) → attribute_name d i ≡ attribute_name d j → i ≡ j
attributes_differ d i j e = numerals_differ i j (append_cancel_left (codes "_a") (numeral i) (numeral j) (append_cancel_left d (numbered (codes "_a") i) (numbered (codes "_a") j) e))

longer_differ : (d : List ℕ) (c : ℕ) (cs : List ℕ) → d ≡ d ++ (c ∷ cs) → ⊥
longer_differ d c cs e = let a = ap length e in let b = length-append d (c ∷ cs) in impossible (length d) (length cs) (a ∙ b)
  where
    impossible : (m n : ℕ) → m ≡ m + suc n → ⊥
    impossible m n h = omega arith

all_placed : (k : ℕ) (f : ℕ → List ℕ) → ((i : ℕ) → IsDrawn (f i) k) → (p c : ℕ) → AllDrawn k (placed f p c)
all_placed k f h p zero = tt
all_placed k f h p (suc c) = (h p, all_placed k f h (suc p) c)

-- ---- entities

entity_drawn : (o : Option (List (List ℕ))) (k : ℕ) → AllDrawn k (listed_entity o (69 ∷ numeral k))
entity_drawn None k = (drawn_e_alone k, (drawn_e k (codes "_eid") refl refl, tt))
entity_drawn (Some members) k = all_placed k (member_name (69 ∷ numeral k)) (λ i. drawn_e k (numbered (codes "_m") i) refl (numeral_suits i)) 0 (length members)

entity_distinct : (o : Option (List (List ℕ))) (d : List ℕ) → are_distinct (listed_entity o d) ≡ true
entity_distinct None d = and_from (not (bytes_eq d (id_name d) || false)) true (ap not (or_from (bytes_eq d (id_name d)) false (bytes_differ d (id_name d) (longer_differ d 95 (codes "eid"))) refl)) refl
entity_distinct (Some members) d = distinct_placed (member_name d) (members_differ d) 0 (length members)

pub entity_new : (enums : Enums) (type : List ℕ) (s : Tables) → IsNew enums s (EntityType type) (next_entity s)
entity_new enums type s = drawn_new enums s (EntityType type) (next_entity s) (drawn_e_alone (length s.types))
    (entity_drawn (members_of enums type) (length s.types)) (entity_distinct (members_of enums type) (next_entity s)) tt

-- ---- records

pub record_new : (enums : Enums) (x : AttributeTypes) (s : Tables) → IsNew enums s (RecordType x) (next_record s)
record_new enums x s =
    let k = length s.types in
    let d : List ℕ = next_record s in
    let c = length (attribute_names x) in
    drawn_new enums s (RecordType x) d (drawn_r_alone k)
    (drawn_r_alone k, all_placed k (attribute_name d) (λ i. drawn_r k (numbered (codes "_a") i) refl (numeral_suits i)) 0 c)
    (and_from (not (is_in d (placed (attribute_name d) 0 c))) (are_distinct (placed (attribute_name d) 0 c))
    (ap not (not_placed d (attribute_name d) 0 c (λ i l. longer_differ d 95 (97 ∷ numeral i)))) (distinct_placed (attribute_name d) (attributes_differ d) 0 c)) tt

pub selector_is_name : (s : Tables) (i : ℕ) → is_name (attribute_name (next_record s) i) ≡ true
selector_is_name s i = (drawn_r (length s.types) (numbered (codes "_a") i) refl (numeral_suits i)).name

pub member_is_name : (s : Tables) (i : ℕ) → is_name (member_name (next_entity s) i) ≡ true
member_is_name s i = (drawn_e (length s.types) (numbered (codes "_m") i) refl (numeral_suits i)).name

pub id_is_name : (s : Tables) → is_name (id_name (next_entity s)) ≡ true
id_is_name s = (drawn_e (length s.types) (codes "_eid") refl refl).name

-- ---- kinds

pub kind_new : (enums : Enums) (k : ExtensionKind) (s : Tables) → name_of_type s (ExtensionType k) ≡ None → IsNew enums s (ExtensionType k) (kind_name k)
kind_new enums k s none = go k (ap is_some none) (ap is_some (lookup_new (type_eq (ExtensionType k)) s.types (ExtensionType k) (kind_name k) ((types_decided (ExtensionType k) (ExtensionType k)).1 refl) none))
  where
    go : (k : ExtensionKind) → has_kind s k ≡ false → has_kind (with_type (ExtensionType k) (kind_name k) s) k ≡ true → IsNew enums s (ExtensionType k) (kind_name k)
    go IpAddrKind f t = record { name = refl; sort_free = refl; sort_unreserved = refl; sort_new = rw f refl; sort_old = rw t refl; names = refl; free = refl; new = rw f refl; old = rw t refl; distinct = refl; kind = refl }
    go DecimalKind f t = record { name = refl; sort_free = refl; sort_unreserved = refl; sort_new = rw f refl; sort_old = rw t refl; names = refl; free = refl; new = rw f refl; old = rw t refl; distinct = refl; kind = refl }
    go DatetimeKind f t = record { name = refl; sort_free = refl; sort_unreserved = refl; sort_new = rw f refl; sort_old = rw t refl; names = refl; free = refl; new = rw f refl; old = rw t refl; distinct = refl; kind = refl }
    go DurationKind f t = record { name = refl; sort_free = refl; sort_unreserved = refl; sort_new = rw f refl; sort_old = rw t refl; names = refl; free = refl; new = rw f refl; old = rw t refl; distinct = refl; kind = refl }
