-- What a datatype leaves, and what a level.
use Rattle.std.proofs.Common.{◌≡◌, ℕ, suc, Bool, true, false, not, ◌&&◌, ◌||◌, eqb, List, [], ◌∷◌, ◌++◌, map, length, refl, sym, ap, ◌∙◌, inl, inr, Option, Some, None}
use Rattle.std.specs.Prelude.{bytes_eq}
use Rattle.std.specs.List.{list_all}
use Rattle.std.proofs.lemmas.Bool.{not-true, and_parts, and_from, cond-true, or_parts, cases_Bool, false≢true}
use Rattle.std.proofs.lemmas.Slice.Eq.{bytes_eq-Decides}
use Rattle.law_texts.specs.Reading.{Expression}
use Rattle.law_scripts.specs.Script.{Constructor, Entry, Builds, Selects, State, built_in_names, is_in, is_reserved, has_name, is_taken, is_new_datatype, is_sort, has_sort, names_of, declare, declare_selectors, declare_constructors, with_name, with_sort}
use Rattle.law_texts.specs.Options.{◌>>=◌}
use Rattle.law_scripts.specs.Meanings.{selectors_named, constructors_named, with_names, names_in, are_new, are_fields, DatatypesLeave, StepsKeepLevels, PopsGiveBack}
use Rattle.law_scripts.proofs.CommandInduction.{Change, AddsLevel, changed, IsAllowed, adds_such, stepped}
use Rattle.law_scripts.proofs.Results.{declares}

not_both : (m n : List ℕ) → bytes_eq m n ≡ false → bytes_eq n m ≡ false
not_both m n h = elim (cases_Bool (bytes_eq n m)) [
  | inl e ↦ absurd (false≢true (sym h ∙ (bytes_eq-Decides m n).1 (sym ((bytes_eq-Decides n m).0 e))))
  | inr e ↦ e
]

all_false : (a b : Bool) → a ≡ false → b ≡ false → (a || b) ≡ false
all_false a b e f = rw (e, f) refl

-- a name that is not taken stays so where another one is declared
still_free : (n m : List ℕ) (x : Entry) (s : State) → is_taken s m ≡ false → bytes_eq m n ≡ false → is_taken (with_name n x s) m ≡ false
still_free n m x s h k =
    let p = or_parts (has_name s m) (is_reserved m) h in
    let q = or_parts (is_in m built_in_names) (is_in m (map (λ d. d.0) (names_of s))) p.0 in
    all_false (has_name (with_name n x s) m) (is_reserved m) (all_false (is_in m built_in_names) (bytes_eq m n || is_in m (map (λ d. d.0) (names_of s))) q.0 (all_false (bytes_eq m n) (is_in m (map (λ d. d.0) (names_of s))) k q.1)) p.1

still_new : (n : List ℕ) (x : Entry) (s : State) (ns : List (List ℕ)) → is_in n ns ≡ false → are_new s ns ≡ true → are_new (with_name n x s) ns ≡ true
still_new n x s [] h k = refl
still_new n x s (m ∷ ns) h k =
    let p = and_parts (not (is_taken s m)) (not (is_in m ns) && are_new s ns) k in
    let q = and_parts (not (is_in m ns)) (are_new s ns) p.1 in
    let r = or_parts (bytes_eq n m) (is_in n ns) h in
    and_from (not (is_taken (with_name n x s) m)) (not (is_in m ns) && are_new (with_name n x s) ns) (ap not (still_free n m x s (not-true (is_taken s m) p.0) (not_both n m r.0)))
    (and_from (not (is_in m ns)) (are_new (with_name n x s) ns) q.0 (still_new n x s ns r.1 q.1))

-- the first of new names can be declared, and the others then still
declared : (n : List ℕ) (x : Entry) (s : State) (ns : List (List ℕ)) → are_new s (n ∷ ns) ≡ true → (declare n x s ≡ Some (with_name n x s)) × (are_new (with_name n x s) ns ≡ true)
declared n x s ns h =
    let p = and_parts (not (is_taken s n)) (not (is_in n ns) && are_new s ns) h in
    let q = and_parts (not (is_in n ns)) (are_new s ns) p.1 in
    (declares n x s (not-true (is_taken s n) p.0), still_new n x s ns (not-true (is_in n ns) q.0) q.1)

selectors_leave : (d : List ℕ) (ps : List (List ℕ)) (c : List ℕ) (place : ℕ) (xs : List (List ℕ × Expression)) (ns : List (List ℕ)) (s : State)
    → are_new s (map (λ x. x.0) xs ++ ns) ≡ true → are_fields s ps xs ≡ true
    → (declare_selectors d ps c place xs s ≡ Some (with_names (selectors_named d ps c place xs s.last.names) s)) × (are_new (with_names (selectors_named d ps c place xs s.last.names) s) ns ≡ true)
selectors_leave d ps c place [] ns s h k = (refl, h)
selectors_leave d ps c place (x ∷ xs) ns s h k =
    let e = Selects d ps c place x.1 in
    let known : List ℕ → ℕ → Bool = λ n i. has_sort s n i || (is_in n ps && eqb i 0) in
    let p = declared x.0 e s (map (λ y. y.0) xs ++ ns) h in
    let q = and_parts (is_sort known x.1) (are_fields s ps xs) k in
    let r = selectors_leave d ps c (suc place) xs ns (with_name x.0 e s) p.1 q.1 in
    (cond-true (is_sort known x.1) (declare x.0 e s >>= declare_selectors d ps c (suc place) xs) None q.0 ∙ ap (λ (o : Option State). o >>= declare_selectors d ps c (suc place) xs) p.0 ∙ r.0, r.1)

constructors_leave : (d : List ℕ) (ps : List (List ℕ)) (place : ℕ) (cs : List Constructor) (s : State)
    → are_new s (names_in cs) ≡ true → list_all (λ c. are_fields s ps c.selectors) cs ≡ true
    → declare_constructors d ps place cs s ≡ Some (with_names (constructors_named d ps place cs s.last.names) s)
constructors_leave d ps place [] s h k = refl
constructors_leave d ps place (c ∷ cs) s h k =
    let x = Builds d ps place (map (λ y. y.1) c.selectors) in
    let p = declared c.name x s (map (λ y. y.0) c.selectors ++ names_in cs) h in
    let q = and_parts (are_fields s ps c.selectors) (list_all (λ b. are_fields s ps b.selectors) cs) k in
    let r = selectors_leave d ps c.name 0 c.selectors (names_in cs) (with_name c.name x s) p.1 q.0 in
    let t = with_names (selectors_named d ps c.name 0 c.selectors ((c.name, x) ∷ s.last.names)) s in
    ap (λ (o : Option State). o >>= λ u. declare_selectors d ps c.name 0 c.selectors u >>= declare_constructors d ps (suc place) cs) p.0
    ∙ ap (λ (o : Option State). o >>= declare_constructors d ps (suc place) cs) r.0
    ∙ constructors_leave d ps (suc place) cs t r.1 q.1

pub datatypes_leave : DatatypesLeave
datatypes_leave d ps cs s h k l =
    cond-true (is_new_datatype s d ps cs) (declare_constructors d ps 0 cs s >>= λ t. Some (with_sort d (length ps) t)) None h
    ∙ ap (λ (o : Option State). o >>= λ t. Some (with_sort d (length ps) t)) (constructors_leave d ps 0 cs s k l)

pub pops_give_back : PopsGiveBack
pops_give_back s t h k = rw (h, k) refl

-- ---- levels

-- a change within one level
abbrev IsWithin : State → Change → Type 0
IsWithin s x = x ≡ AddsLevel → ⊥

pub steps_keep_levels : StepsKeepLevels
steps_keep_levels c s t r v w h = stepped IsWithin (λ u. u.below ≡ s.below) kept c s t (adds_such IsWithin c r w (λ u x q e. v (q e)) s) h refl
  where
    kept : (x : Change) (u : State) → IsWithin u x → IsAllowed u x → u.below ≡ s.below → (changed x u).below ≡ s.below
    kept AddsLevel u a allowed e = absurd (a refl)
    kept x u a allowed e = e
