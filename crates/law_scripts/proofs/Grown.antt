-- What the lines of declarations leave of an open script.
use Rattle.std.proofs.Common.{◌≡◌, ℕ, suc, true, false, not, ◌&&◌, List, [], ◌∷◌, ◌++◌, map, refl, ap, ◌∙◌, Some, None}
use Rattle.std.specs.Prelude.{bytes_eq}
use Rattle.std.proofs.lemmas.Bool.{not-true, and_parts, cond-true, cond-false, or_parts}
use Rattle.std.proofs.lemmas.Slice.Eq.{bytes_eq-Decides}
use Rattle.law_texts.specs.Reading.{Expression}
use Rattle.law_scripts.specs.Script.{Constructor, Entry, Constant, Function, Builds, Selects, State, DeclareConst, DeclareFun, DeclareDatatype, declare, look_up, is_in, has_sort, is_sort, is_taken, with_name, names_below}
use Rattle.law_scripts.specs.Meanings.{selectors_named, constructors_named, names_in, are_new}
use Rattle.law_scripts.specs.DeclarationLines.{ConstantsExtend, FunctionsExtend, DatatypesExtend, DeclaresSelectors, Declares, DatatypesDeclare, with_datatype}
use Rattle.law_scripts.proofs.First.{declare_const_line}
use Rattle.law_scripts.proofs.Laid.{declare_fun_line, datatype_line, commands_extend}
use Rattle.law_scripts.proofs.Datatypes.{datatypes_leave}
use Rattle.law_scripts.proofs.Results.{declares}

pub constants_extend : ConstantsExtend
constants_extend text n sort s x stands name-is w fresh known =
    commands_extend text _ (DeclareConst n x) s (with_name n (Constant x) s) stands (declare_const_line n sort x name-is w)
    (cond-true (is_sort (has_sort s) x) (declare n (Constant x) s) None known ∙ declares n (Constant x) s (not-true (is_taken s n) fresh)) stands.running

pub functions_extend : FunctionsExtend
functions_extend text f argument sort s a x stands name-is w v fresh known =
    commands_extend text _ (DeclareFun f a x) s (with_name f (Function a x) s) stands (declare_fun_line f argument sort a x name-is w v)
    (cond-true (is_sort (has_sort s) a && is_sort (has_sort s) x) (declare f (Function a x) s) None known ∙ declares f (Function a x) s (not-true (is_taken s f) fresh)) stands.running

pub datatypes_extend : DatatypesExtend
datatypes_extend text d cs s stands name-is w fresh new known =
    commands_extend text _ (DeclareDatatype d [] (map (λ c. c.built) cs)) s (with_datatype d (map (λ c. c.built) cs) s) stands (datatype_line d cs name-is w)
    (datatypes_leave d [] (map (λ c. c.built) cs) s fresh new known) stands.running

-- ---- what is there then

in_neither : (n : List ℕ) (xs ys : List (List ℕ)) → is_in n (xs ++ ys) ≡ false → (is_in n xs ≡ false) × (is_in n ys ≡ false)
in_neither n [] ys h = (refl, h)
in_neither n (x ∷ xs) ys h =
    let p = or_parts (bytes_eq n x) (is_in n (xs ++ ys)) h in
    let q = in_neither n xs ys p.1 in
    (rw (p.0, q.0) refl, q.1)

past : (n m : List ℕ) (x : Entry) (ds : List (List ℕ × Entry)) → bytes_eq n m ≡ false → look_up n ((m, x) ∷ ds) ≡ look_up n ds
past n m x ds h = cond-false (bytes_eq n m) (Some x) (look_up n ds) h

at_head : (n : List ℕ) (x : Entry) (ds : List (List ℕ × Entry)) → look_up n ((n, x) ∷ ds) ≡ Some x
at_head n x ds = cond-true (bytes_eq n n) (Some x) (look_up n ds) ((bytes_eq-Decides n n).1 refl)

selectors_other : (n d : List ℕ) (ps : List (List ℕ)) (c : List ℕ) (place : ℕ) (xs : List (List ℕ × Expression)) (ds : List (List ℕ × Entry)) → is_in n (map (λ x. x.0) xs) ≡ false → look_up n (selectors_named d ps c place xs ds) ≡ look_up n ds
selectors_other n d ps c place [] ds h = refl
selectors_other n d ps c place (x ∷ xs) ds h =
    let p = or_parts (bytes_eq n x.0) (is_in n (map (λ y. y.0) xs)) h in
    selectors_other n d ps c (suc place) xs ((x.0, Selects d ps c place x.1) ∷ ds) p.1 ∙ past n x.0 (Selects d ps c place x.1) ds p.0

pub constructors_other : (n d : List ℕ) (ps : List (List ℕ)) (place : ℕ) (cs : List Constructor) (ds : List (List ℕ × Entry)) → is_in n (names_in cs) ≡ false → look_up n (constructors_named d ps place cs ds) ≡ look_up n ds
constructors_other n d ps place [] ds h = refl
constructors_other n d ps place (c ∷ cs) ds h =
    let x = Builds d ps place (map (λ y. y.1) c.selectors) in
    let p = or_parts (bytes_eq n c.name) (is_in n (map (λ y. y.0) c.selectors ++ names_in cs)) h in
    let q = in_neither n (map (λ y. y.0) c.selectors) (names_in cs) p.1 in
    constructors_other n d ps (suc place) cs (selectors_named d ps c.name 0 c.selectors ((c.name, x) ∷ ds)) q.1
    ∙ selectors_other n d ps c.name 0 c.selectors ((c.name, x) ∷ ds) q.0 ∙ past n c.name x ds p.0

-- a new name is none of those that follow it
follows : (s : State) (n : List ℕ) (ns : List (List ℕ)) → are_new s (n ∷ ns) ≡ true → (is_in n ns ≡ false) × (are_new s ns ≡ true)
follows s n ns h =
    let p = and_parts (not (is_taken s n)) (not (is_in n ns) && are_new s ns) h in
    let q = and_parts (not (is_in n ns)) (are_new s ns) p.1 in
    (not-true (is_in n ns) q.0, q.1)

later_new : (s : State) (ms ns : List (List ℕ)) → are_new s (ms ++ ns) ≡ true → are_new s ns ≡ true
later_new s [] ns h = h
later_new s (m ∷ ms) ns h = later_new s ms ns (follows s m (ms ++ ns) h).1

selectors_there : (s : State) (d : List ℕ) (ps : List (List ℕ)) (c : List ℕ) (place : ℕ) (xs : List (List ℕ × Expression)) (ns : List (List ℕ)) (ds final : List (List ℕ × Entry)) → are_new s (map (λ x. x.0) xs ++ ns) ≡ true
    → ((n : List ℕ) → is_in n ns ≡ false → look_up n final ≡ look_up n (selectors_named d ps c place xs ds)) → DeclaresSelectors (λ n. look_up n final) d ps c place xs
selectors_there s d ps c place [] ns ds final h k = tt
selectors_there s d ps c place (x ∷ xs) ns ds final h k =
    let e = Selects d ps c place x.1 in
    let p = follows s x.0 (map (λ y. y.0) xs ++ ns) h in
    let q = in_neither x.0 (map (λ y. y.0) xs) ns p.0 in
    (k x.0 q.1 ∙ selectors_other x.0 d ps c (suc place) xs ((x.0, e) ∷ ds) q.0 ∙ at_head x.0 e ds, selectors_there s d ps c (suc place) xs ns ((x.0, e) ∷ ds) final p.1 k)

constructors_there : (s : State) (d : List ℕ) (ps : List (List ℕ)) (place : ℕ) (cs : List Constructor) (ds final : List (List ℕ × Entry)) → are_new s (names_in cs) ≡ true
    → final ≡ constructors_named d ps place cs ds → Declares (λ n. look_up n final) d ps place cs
constructors_there s d ps place [] ds final h e = tt
constructors_there s d ps place (c ∷ cs) ds final h e =
    let x = Builds d ps place (map (λ y. y.1) c.selectors) in
    let p = follows s c.name (map (λ y. y.0) c.selectors ++ names_in cs) h in
    let q = in_neither c.name (map (λ y. y.0) c.selectors) (names_in cs) p.0 in
    let inner = selectors_named d ps c.name 0 c.selectors ((c.name, x) ∷ ds) in
    let same : (n : List ℕ) → is_in n (names_in cs) ≡ false → look_up n final ≡ look_up n inner = λ n f. ap (λ (t : List (List ℕ × Entry)). look_up n t) e ∙ constructors_other n d ps (suc place) cs inner f in (
      same c.name q.1 ∙ selectors_other c.name d ps c.name 0 c.selectors ((c.name, x) ∷ ds) q.0 ∙ at_head c.name x ds,
      selectors_there s d ps c.name 0 c.selectors (names_in cs) ((c.name, x) ∷ ds) final p.1 same,
      constructors_there s d ps (suc place) cs inner final (later_new s (map (λ y. y.0) c.selectors) (names_in cs) p.1) e,
    )

selectors_append : (d : List ℕ) (ps : List (List ℕ)) (c : List ℕ) (place : ℕ) (xs : List (List ℕ × Expression)) (ds es : List (List ℕ × Entry)) → selectors_named d ps c place xs ds ++ es ≡ selectors_named d ps c place xs (ds ++ es)
selectors_append d ps c place [] ds es = refl
selectors_append d ps c place (x ∷ xs) ds es = selectors_append d ps c (suc place) xs ((x.0, Selects d ps c place x.1) ∷ ds) es

pub constructors_append : (d : List ℕ) (ps : List (List ℕ)) (place : ℕ) (cs : List Constructor) (ds es : List (List ℕ × Entry)) → constructors_named d ps place cs ds ++ es ≡ constructors_named d ps place cs (ds ++ es)
constructors_append d ps place [] ds es = refl
constructors_append d ps place (c ∷ cs) ds es =
    let x = Builds d ps place (map (λ y. y.1) c.selectors) in
    constructors_append d ps (suc place) cs (selectors_named d ps c.name 0 c.selectors ((c.name, x) ∷ ds)) es
    ∙ ap (constructors_named d ps (suc place) cs) (selectors_append d ps c.name 0 c.selectors ((c.name, x) ∷ ds) es)

pub datatypes_declare : DatatypesDeclare
datatypes_declare d ps cs s h =
    constructors_there s d ps 0 cs (s.last.names ++ names_below s.below) (constructors_named d ps 0 cs s.last.names ++ names_below s.below) h (constructors_append d ps 0 cs s.last.names (names_below s.below))
