-- What is declared stays.
use Rattle.std.proofs.Common.{◌≡◌, ℕ, suc, ◌+◌, Bool, true, false, not, ◌&&◌, ◌||◌, cond, List, [], ◌∷◌, ◌++◌, map, length, refl, sym, ap, ◌∙◌, subst, inl, inr, Option, Some, None, arith}
use Rattle.std.specs.Prelude.{bytes_eq}
use Rattle.std.specs.List.{list_all}
use Rattle.std.proofs.lemmas.Bool.{and_parts, and_from, cases_Bool, cond-true, cond-false, false≢true}
use Rattle.std.proofs.lemmas.Slice.Eq.{bytes_eq-Decides}
use Rattle.law_texts.specs.Reading.{Expression}
use Rattle.law_scripts.specs.Script.{Constructor, Entry, Builds, Selects, State, is_in, is_reserved, is_taken, names_of, names_below, has_name, has_sort, look_up, built_in_names, with_name}
use Rattle.law_scripts.specs.Sorts.{Entries, entries}
use Rattle.law_scripts.specs.Meanings.{names_in, are_new, selectors_named, constructors_named}
use Rattle.law_scripts.specs.DeclarationLines.{with_datatype, Declares, DeclaresSelectors, shown, at_place}
use Rattle.law_scripts.proofs.Grown.{constructors_append, constructors_other}
use Rattle.law_lines.specs.Line.{Line, Comment, DeclareDatatype, DeclareConst, DeclareFun, DefineFun, Assert, Push, Pop}
use Rattle.law_lines.specs.Command.{all_built}
use Rattle.law_lines.specs.Fit.{declares, declares_sort, BuildsOnly, IsRooted, Kept, LineIsDeclared, EachLine}
use Rattle.law_lines.proofs.Known.{one_passes}
use Rattle.law_scripts.proofs.Results.{or_left, or_right}

is_there : (n : List ℕ) (ds : List (List ℕ × Entry)) (x : Entry) → look_up n ds ≡ Some x → is_in n (map (λ p. p.0) ds) ≡ true
is_there n [] x h = absurd (none h)
  where
    none : None ≡ Some x → ⊥
    none h = cc
is_there n (d ∷ ds) x h = go (bytes_eq n d.0) (λ k. is_there n ds x k) h
  where
    go : (b : Bool) → (look_up n ds ≡ Some x → is_in n (map (λ p. p.0) ds) ≡ true) → cond b (Some d.1) (look_up n ds) ≡ Some x → (b || is_in n (map (λ p. p.0) ds)) ≡ true
    go true again k = refl
    go false again k = again k

untaken : (state : State) (n : List ℕ) → is_taken state n ≡ false → declares state n ≡ true → ⊥
untaken state n h k = false≢true (sym h ∙ or_left (has_name state n) (is_reserved n) (or_right (is_in n built_in_names) (declares state n) k))

pub itself_kept : (state : State) → Kept state state
itself_kept state = record { entry = λ n x h. h; sort = λ n k h. h; declared = λ d h. h; built = λ d c qs place fields h e. e }

pub kept_then : (s t u : State) → Kept s t → Kept t u → Kept s u
kept_then s t u a b = record {
  entry = λ n x h. b.entry n x (a.entry n x h);
  sort = λ n k h. b.sort n k (a.sort n k h);
  declared = λ d h. b.declared d (a.declared d h);
  built = λ d c qs place fields h e. a.built d c qs place fields h (b.built d c qs place fields (a.declared d h) e);
}

-- an entry that builds no values
abbrev pub BuildsNone : Entry → Type 0
BuildsNone e = (d : List ℕ) (qs : List (List ℕ)) (place : ℕ) (fields : List Expression) → e ≡ Builds d qs place fields → ⊥

-- past an entry that does not build these values
past_other : (c n : List ℕ) (x y : Entry) (ds : List (List ℕ × Entry)) → (x ≡ y → ⊥) → look_up c ((n, x) ∷ ds) ≡ Some y → look_up c ds ≡ Some y
past_other c n x y ds unlike e = by (bytes_eq c n) e
  where
    by : (b : Bool) → cond b (Some x) (look_up c ds) ≡ Some y → look_up c ds ≡ Some y
    by true f = absurd (unlike cc)
    by false f = f

pub name_builds : (state : State) (n : List ℕ) (e : Entry) → BuildsNone e → (d c : List ℕ) (qs : List (List ℕ)) (place : ℕ) (fields : List Expression) → entries (with_name n e state) c ≡ Some (Builds d qs place fields) → entries state c ≡ Some (Builds d qs place fields)
name_builds state n e none d c qs place fields h = past_other c n e (Builds d qs place fields) (names_of state) (none d qs place fields) h

pub name_kept : (state : State) (n : List ℕ) (e : Entry) → BuildsNone e → is_taken state n ≡ false → Kept state (with_name n e state)
name_kept state n e none h = record {
  entry = λ m x k. cond-false (bytes_eq m n) (Some e) (look_up m (names_of state)) (other m x k) ∙ k;
  sort = λ m k r. r;
  declared = λ d r. r;
  built = λ d c qs place fields r. name_builds state n e none d c qs place fields;
}
  where
    other : (m : List ℕ) (x : Entry) → entries state m ≡ Some x → bytes_eq m n ≡ false
    other m x k = elim (cases_Bool (bytes_eq m n)) [
      | inl q ↦ absurd (untaken state n h (subst (λ l. declares state l ≡ true) ((bytes_eq-Decides m n).0 q) (is_there m (names_of state) x k)))
      | inr q ↦ q
    ]

pub name_there : (state : State) (n : List ℕ) (e : Entry) → entries (with_name n e state) n ≡ Some e
name_there state n e = cond-true (bytes_eq n n) (Some e) (look_up n (names_of state)) ((bytes_eq-Decides n n).1 refl)

each_untaken : (state : State) (ns : List (List ℕ)) → are_new state ns ≡ true → list_all (λ n. not (is_taken state n)) ns ≡ true
each_untaken state [] h = refl
each_untaken state (n ∷ ns) h =
    let p = and_parts (not (is_taken state n)) (not (is_in n ns) && are_new state ns) h in
    let q = and_parts (not (is_in n ns)) (are_new state ns) p.1 in
    and_from (not (is_taken state n)) _ p.0 (each_untaken state ns q.1)

-- what a new datatype's constructors leave of the others
others_in_selectors : (e : List ℕ) (qs : List (List ℕ)) (at : ℕ) (fields : List Expression) (n d : List ℕ) (ps : List (List ℕ)) (c : List ℕ) (place : ℕ) (xs : List (List ℕ × Expression)) (ds : List (List ℕ × Entry))
    → look_up n (selectors_named d ps c place xs ds) ≡ Some (Builds e qs at fields) → look_up n ds ≡ Some (Builds e qs at fields)
others_in_selectors e qs at fields n d ps c place [] ds h = h
others_in_selectors e qs at fields n d ps c place (x ∷ xs) ds h =
    past_other n x.0 (Selects d ps c place x.1) (Builds e qs at fields) ds (λ q. cc) (others_in_selectors e qs at fields n d ps c (suc place) xs ((x.0, Selects d ps c place x.1) ∷ ds) h)

others_in : (e : List ℕ) (qs : List (List ℕ)) (at : ℕ) (fields : List Expression) (n d : List ℕ) (ps : List (List ℕ)) → (d ≡ e → ⊥) → (place : ℕ) (cs : List Constructor) (ds : List (List ℕ × Entry))
    → look_up n (constructors_named d ps place cs ds) ≡ Some (Builds e qs at fields) → look_up n ds ≡ Some (Builds e qs at fields)
others_in e qs at fields n d ps unlike place [] ds h = h
others_in e qs at fields n d ps unlike place (c ∷ cs) ds h =
    let x = Builds d ps place (map (λ y. y.1) c.selectors) in
    past_other n c.name x (Builds e qs at fields) ds (λ q. unlike cc)
    (others_in_selectors e qs at fields n d ps c.name 0 c.selectors ((c.name, x) ∷ ds)
    (others_in e qs at fields n d ps unlike (suc place) cs (selectors_named d ps c.name 0 c.selectors ((c.name, x) ∷ ds)) h))

datatype_names : (state : State) (d : List ℕ) (cs : List Constructor) (n : List ℕ) → entries (with_datatype d cs state) n ≡ look_up n (constructors_named d [] 0 cs (names_of state))
datatype_names state d cs n = ap (λ (t : List (List ℕ × Entry)). look_up n t) (constructors_append d [] 0 cs state.last.names (names_below state.below))

pub datatype_others : (state : State) (d : List ℕ) (cs : List Constructor) (e c : List ℕ) (qs : List (List ℕ)) (place : ℕ) (fields : List Expression) → (d ≡ e → ⊥) → entries (with_datatype d cs state) c ≡ Some (Builds e qs place fields) → entries state c ≡ Some (Builds e qs place fields)
datatype_others state d cs e c qs place fields unlike h = others_in e qs place fields c d [] unlike 0 cs (names_of state) (sym (datatype_names state d cs c) ∙ h)

-- what its constructors are
module _ (d : List ℕ) (ps : List (List ℕ)) (all : List Constructor) where
  only_selectors : (c : List ℕ) (place : ℕ) (xs : List (List ℕ × Expression)) (ds : List (List ℕ × Entry)) → BuildsOnly (λ n. look_up n ds) d ps all → BuildsOnly (λ n. look_up n (selectors_named d ps c place xs ds)) d ps all
  only_selectors c place xs ds h = λ at n fields qs e. h at n fields qs (others_in_selectors d qs at fields n d ps c place xs ds e)

  only_name : (c : Constructor) (place : ℕ) (ds : List (List ℕ × Entry)) → at_place (shown all) place ≡ Some (c.name, map (λ y. y.1) c.selectors) → BuildsOnly (λ n. look_up n ds) d ps all
      → BuildsOnly (λ n. look_up n ((c.name, Builds d ps place (map (λ y. y.1) c.selectors)) ∷ ds)) d ps all
  only_name c place ds f h at n fields qs e = by (bytes_eq n c.name) refl e
    where
      by : (b : Bool) → bytes_eq n c.name ≡ b → cond b (Some (Builds d ps place (map (λ y. y.1) c.selectors))) (look_up n ds) ≡ Some (Builds d qs at fields) → (qs ≡ ps) × (at_place (shown all) at ≡ Some (n, fields))
      by true g k =
          let same : n ≡ c.name = (bytes_eq-Decides n c.name).0 g in
          let parameters : qs ≡ ps = cc in
          let places : at ≡ place = cc in
          let sorts : map (λ y. y.1) c.selectors ≡ fields = cc in
          (parameters, ap (at_place (shown all)) places ∙ f ∙ (λ i. Some (sym same i, sorts i)))
      by false g k = h at n fields qs k

  only_constructors : (place : ℕ) (cs : List Constructor) (ds : List (List ℕ × Entry)) → ((k : ℕ) → at_place (shown all) (place + k) ≡ at_place (shown cs) k) → BuildsOnly (λ n. look_up n ds) d ps all
      → BuildsOnly (λ n. look_up n (constructors_named d ps place cs ds)) d ps all
  only_constructors place [] ds f h = h
  only_constructors place (c ∷ cs) ds f h =
      let x = Builds d ps place (map (λ y. y.1) c.selectors) in
      only_constructors (suc place) cs (selectors_named d ps c.name 0 c.selectors ((c.name, x) ∷ ds))
      (λ k. ap (at_place (shown all)) (let z : suc place + k ≡ place + suc k = omega arith in z) ∙ f (suc k))
      (only_selectors c.name 0 c.selectors ((c.name, x) ∷ ds)
      (only_name c place ds (ap (at_place (shown all)) (let z : place ≡ place + 0 = omega arith in z) ∙ f 0) h))

-- A datatype that was not declared has these constructors alone.
pub datatype_only : (state : State) (d : List ℕ) (cs : List Constructor) → IsRooted state → declares_sort state d ≡ false → BuildsOnly (entries (with_datatype d cs state)) d [] cs
datatype_only state d cs rooted new at n fields qs e =
    only_constructors d [] cs 0 cs (names_of state) (λ k. ap (at_place (shown cs)) (let z : 0 + k ≡ k = omega arith in z))
    (λ at n fields qs e. absurd (false≢true (sym new ∙ rooted d n qs at fields e))) at n fields qs (sym (datatype_names state d cs n) ∙ e)

-- the same of the first datatype
pub first_only : (d : List ℕ) (ps : List (List ℕ)) (cs : List Constructor) → BuildsOnly (λ n. look_up n (constructors_named d ps 0 cs [])) d ps cs
first_only d ps cs at n fields qs e =
    only_constructors d ps cs 0 cs [] (λ k. ap (at_place (shown cs)) (let z : 0 + k ≡ k = omega arith in z)) (λ at n fields qs e. absurd cc) at n fields qs e

pub first_rooted : (d : List ℕ) (ps : List (List ℕ)) (cs : List Constructor) (e c : List ℕ) (qs : List (List ℕ)) (place : ℕ) (fields : List Expression) → look_up c (constructors_named d ps 0 cs []) ≡ Some (Builds e qs place fields) → bytes_eq e d ≡ true
first_rooted d ps cs e c qs place fields h = elim (cases_Bool (bytes_eq e d)) [
  | inl q ↦ q
  | inr q ↦ absurd (none (others_in e qs place fields c d ps (λ same. false≢true (sym q ∙ (bytes_eq-Decides e d).1 (sym same))) 0 cs [] h))
]
  where
    none : ◌≡◌ {A = Option Entry} None (Some (Builds e qs place fields)) → ⊥
    none k = cc

different : (state : State) (d e : List ℕ) → declares_sort state d ≡ false → declares_sort state e ≡ true → d ≡ e → ⊥
different state d e new old same = false≢true (sym new ∙ ap (declares_sort state) same ∙ old)

pub datatype_rooted : (state : State) (d : List ℕ) (cs : List Constructor) → IsRooted state → IsRooted (with_datatype d cs state)
datatype_rooted state d cs rooted e c qs place fields h = elim (cases_Bool (bytes_eq e d)) [
  | inl q ↦ or_left (bytes_eq e d) (declares_sort state e) q
  | inr q ↦ or_right (bytes_eq e d) (declares_sort state e)
      (rooted e c qs place fields (datatype_others state d cs e c qs place fields (λ same. false≢true (sym q ∙ (bytes_eq-Decides e d).1 (sym same))) h))
]

pub datatype_kept : (state : State) (d : List ℕ) (cs : List Constructor) → declares_sort state d ≡ false → are_new state (names_in cs) ≡ true → Kept state (with_datatype d cs state)
datatype_kept state d cs new h = record {
  entry = λ m x k. ap (λ (t : List (List ℕ × Entry)). look_up m t) (constructors_append d [] 0 cs state.last.names (names_below state.below))
      ∙ constructors_other m d [] 0 cs (names_of state) (other m x k) ∙ k;
  sort = λ m k r. or_right _ (has_sort state m k) r;
  declared = λ e r. or_right (bytes_eq e d) (declares_sort state e) r;
  built = λ e c qs place fields r. datatype_others state d cs e c qs place fields (different state d e new r);
}
  where
    no : (b : Bool) → not b ≡ true → b ≡ false
    no true h = absurd (false≢true h)
    no false h = refl

    other : (m : List ℕ) (x : Entry) → entries state m ≡ Some x → is_in m (names_in cs) ≡ false
    other m x k = elim (cases_Bool (is_in m (names_in cs))) [
      | inl q ↦ absurd (untaken state m (no (is_taken state m) (one_passes (λ n. not (is_taken state n)) m (names_in cs) (each_untaken state (names_in cs) h) q)) (is_there m (names_of state) x k))
      | inr q ↦ q
    ]

-- ---- lines that stand

selectors_stay : (f g : Entries) → ((n : List ℕ) (x : Entry) → f n ≡ Some x → g n ≡ Some x) → (d : List ℕ) (ps : List (List ℕ)) (c : List ℕ) (place : ℕ) (xs : List (List ℕ × Expression)) → DeclaresSelectors f d ps c place xs → DeclaresSelectors g d ps c place xs
selectors_stay f g k d ps c place [] h = tt
selectors_stay f g k d ps c place (x ∷ xs) h = (k x.0 _ h.0, selectors_stay f g k d ps c (suc place) xs h.1)

declares_stay : (f g : Entries) → ((n : List ℕ) (x : Entry) → f n ≡ Some x → g n ≡ Some x) → (d : List ℕ) (ps : List (List ℕ)) (place : ℕ) (cs : List Constructor) → Declares f d ps place cs → Declares g d ps place cs
declares_stay f g k d ps place [] h = tt
declares_stay f g k d ps place (c ∷ cs) h = (k c.name _ h.0, selectors_stay f g k d ps c.name 0 c.selectors h.1, declares_stay f g k d ps (suc place) cs h.2)

pub line_stays : (s t : State) → Kept s t → (l : Line) → LineIsDeclared s l → LineIsDeclared t l
line_stays s t k (Comment x) h = tt
line_stays s t k (DeclareDatatype n ps cs) h = (k.sort n (length ps) h.0, declares_stay (entries s) (entries t) k.entry n ps 0 (all_built cs) h.1, k.declared n h.2, λ place c fields qs e. h.3 place c fields qs (k.built n c qs place fields h.2 e))
line_stays s t k (DeclareConst n sort) h = k.entry n _ h
line_stays s t k (DeclareFun n a sort) h = k.entry n _ h
line_stays s t k (DefineFun n sort body) h = k.entry n _ h
line_stays s t k (Assert e) h = tt
line_stays s t k Push h = tt
line_stays s t k Pop h = tt

pub lines_stay : (s t : State) → Kept s t → (ls : List Line) → EachLine (LineIsDeclared s) ls → EachLine (LineIsDeclared t) ls
lines_stay s t k [] h = tt
lines_stay s t k (l ∷ ls) h = (line_stays s t k l h.0, lines_stay s t k ls h.1)

pub lines_append : (P : Line → Type 0) (ls ms : List Line) → EachLine P ls → EachLine P ms → EachLine P (ls ++ ms)
lines_append P [] ms a b = b
lines_append P (l ∷ ls) ms a b = (a.0, lines_append P ls ms a.1 b)
