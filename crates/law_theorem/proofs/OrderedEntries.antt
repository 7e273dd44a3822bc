-- What a script declares has names of its own, and a body knows what was declared before it.
use Rattle.std.proofs.Common.{◌≡◌, ℕ, Bool, true, false, not, ◌||◌, cond, List, [], ◌∷◌, map, refl, sym, ◌∙◌, subst, inl, inr, Some}
use Rattle.std.specs.Prelude.{bytes_eq}
use Rattle.std.proofs.lemmas.Bool.{cases_Bool, cond-true, cond-false, false≢true, or_parts}
use Rattle.std.proofs.lemmas.Slice.Eq.{bytes_eq-Decides}
use Rattle.law_texts.specs.Reading.{Expression}
use Rattle.law_scripts.specs.Script.{Entry, Defined, State, Script, is_in, is_taken, is_reserved, has_sort, has_name, is_stated, built_in_names, look_up, names_of}
use Rattle.law_scripts.specs.Meanings.{is_own}
use Rattle.law_scripts.specs.Sorts.{Entries}
use Rattle.law_scripts.proofs.CommandInduction.{Change, AddsName, changed, IsKnown, IsAllowed, Any, script_has}

abbrev pub Names : Type 0
Names = List (List ℕ × Entry)

-- a name that is built in, or among these
abbrev pub is_known : Names → List ℕ → Bool
is_known older n = is_in n built_in_names || is_in n (map (λ p. p.0) older)

-- each name in an expression is such
abbrev pub Known : Names → Expression → Type 0
Known older e = (sorts : List ℕ → ℕ → Bool) × (is_stated sorts (is_known older) e ≡ true)

-- what is declared after these
abbrev pub IsRightly : Names → Entry → Type 0
IsRightly older (Defined sort body) = Known older body
IsRightly older x = Unit {0}

-- the newest first: each name is new where it is declared, and no word of the grammar; a body knows those before it
abbrev pub AreOrdered : Names → Type 0
AreOrdered [] = Unit {0}
AreOrdered (d ∷ older) = (is_own d.0 ≡ true) × (is_in d.0 (map (λ p. p.0) older) ≡ false) × IsRightly older d.1 × AreOrdered older

abbrev pub Stand : State → Type 0
Stand s = AreOrdered (names_of s)

neither : (a b : Bool) → a ≡ false → b ≡ false → not (a || b) ≡ true
neither true b h k = cc
neither false true h k = cc
neither false false h k = refl

-- a name that is not taken is new
pub is_new : (s : State) (n : List ℕ) → is_taken s n ≡ false → (is_own n ≡ true) × (is_in n (map (λ p. p.0) (names_of s)) ≡ false)
is_new s n h =
    let p = or_parts (has_name s n) (is_reserved n) h in
    let q = or_parts (is_in n built_in_names) (is_in n (map (λ x. x.0) (names_of s))) p.0 in
    (neither (is_in n built_in_names) (is_reserved n) q.0 p.1, q.1)

known_rightly : (s : State) (x : Entry) → IsKnown s x → IsRightly (names_of s) x
known_rightly s (Defined sort body) k = (has_sort s, k.1)
known_rightly s x k = tt

still_stand : (x : Change) (s : State) → Any s x → IsAllowed s x → Stand s → Stand (changed x s)
still_stand (AddsName n x) s a allowed h = let new = is_new s n allowed.0 in (new.0, new.1, known_rightly s x allowed.1, h)
still_stand x s a allowed h = h

-- What a script declares stands in order.
pub script_ordered : (text : List ℕ) (state : State) → Script text state → AreOrdered (names_of state)
script_ordered text state x = script_has Stand tt still_stand text state x

-- ---- names that are declared

-- g gives each name what f gives it
abbrev pub Within : Entries → Entries → Type 0
Within f g = (n : List ℕ) (x : Entry) → f n ≡ Some x → g n ≡ Some x

abbrev pub among : Names → Entries
among ns n = look_up n ns

pub listed_if : (n : List ℕ) (ns : Names) (x : Entry) → look_up n ns ≡ Some x → is_in n (map (λ p. p.0) ns) ≡ true
listed_if n [] x h = absurd cc
listed_if n (d ∷ ds) x h = by (bytes_eq n d.0) h (listed_if n ds x)
  where
    by : (b : Bool) → cond b (Some d.1) (look_up n ds) ≡ Some x → (look_up n ds ≡ Some x → is_in n (map (λ p. p.0) ds) ≡ true) → (b || is_in n (map (λ p. p.0) ds)) ≡ true
    by true e again = refl
    by false e again = again e

pub there_if : (n : List ℕ) (ns : Names) → is_in n (map (λ p. p.0) ns) ≡ true → (x : Entry) × (look_up n ns ≡ Some x)
there_if n [] h = absurd (false≢true h)
there_if n (d ∷ ds) h = by (bytes_eq n d.0) h (there_if n ds)
  where
    by : (b : Bool) → (b || is_in n (map (λ p. p.0) ds)) ≡ true → (is_in n (map (λ p. p.0) ds) ≡ true → (x : Entry) × (look_up n ds ≡ Some x)) → (x : Entry) × (cond b (Some d.1) (look_up n ds) ≡ Some x)
    by true e again = (d.1, refl)
    by false e again = again e

-- the newest name
pub itself : (d : List ℕ × Entry) (older : Names) → look_up d.0 (d ∷ older) ≡ Some d.1
itself d older = cond-true (bytes_eq d.0 d.0) (Some d.1) (look_up d.0 older) ((bytes_eq-Decides d.0 d.0).1 refl)

-- what was there before is there still
pub older_within : (d : List ℕ × Entry) (older : Names) → AreOrdered (d ∷ older) → Within (among older) (among (d ∷ older))
older_within d older h n x e = elim (cases_Bool (bytes_eq n d.0)) [
  | inl q ↦ absurd (false≢true (sym h.1 ∙ subst (λ m. is_in m (map (λ p. p.0) older) ≡ true) ((bytes_eq-Decides n d.0).0 q) (listed_if n older x e)))
  | inr q ↦ cond-false (bytes_eq n d.0) (Some d.1) (look_up n older) q ∙ e
]

-- a name that is declared is not built in
pub not_built_in : (ns : Names) → AreOrdered ns → (n : List ℕ) (x : Entry) → look_up n ns ≡ Some x → is_in n built_in_names ≡ false
not_built_in [] h n x e = absurd cc
not_built_in (d ∷ older) h n x e = by (bytes_eq n d.0) refl e (not_built_in older h.3 n x)
  where
    own : (a b : Bool) → not (a || b) ≡ true → a ≡ false
    own true b q = cc
    own false b q = refl

    by : (b : Bool) → bytes_eq n d.0 ≡ b → cond b (Some d.1) (look_up n older) ≡ Some x → (look_up n older ≡ Some x → is_in n built_in_names ≡ false) → is_in n built_in_names ≡ false
    by true q f again = subst (λ m. is_in m built_in_names ≡ false) (sym ((bytes_eq-Decides n d.0).0 q)) (own (is_in d.0 built_in_names) (is_reserved d.0) h.0)
    by false q f again = again f
