-- What carrying asks of a script can be met.
use Rattle.std.proofs.Common.{◌≡◌, ℕ, zero, suc, ◌+◌, Bool, true, false, cond, List, [], ◌∷◌, ◌++◌, map, refl, sym, ap, ◌∙◌, subst, arith, rules}
use Rattle.std.specs.Prelude.{codes, bytes_eq, Option, Some, None, unwrap_or}
use Rattle.std.specs.List.{AllByRecursion}
use Rattle.std.proofs.lemmas.Str.{IsUtf8-from_ascii}
use Rattle.std.proofs.lemmas.Slice.Eq.{bytes_eq-Decides}
use Rattle.law_texts.specs.Reading.{Expression}
use Rattle.law_scripts.specs.Script.{Constructor, Entry, Builds, Selects, look_up, names_of, names_below}
use Rattle.law_scripts.specs.Meanings.{selectors_named, constructors_named}
use Rattle.law_scripts.proofs.Grown.{datatypes_declare}
use Rattle.law_terms.proofs.Soundness.{all-front, all-back}
use Rattle.law_scripts.specs.Sorts.{Entries}
use Rattle.law_scripts.specs.DeclarationLines.{Declares, Constructors, at_place, shown}
use Rattle.law_theorem.specs.CarriedSorts.{IsNoDatatype}
use Rattle.law_theorem.specs.DeclaredDatatypes.{BuildsRightly, option_declared, color_declared, color_state, BuildsOther, DatatypesAreDeclared, NewDatatypesAreDeclared, ColorsAreDeclared}

-- what holds of each entry holds of the one that a name has
pub of_entry : (P : List ℕ → Entry → Type 0) (names : List (List ℕ × Entry)) → AllByRecursion (λ p. P p.0 p.1) names → (c : List ℕ) (x : Entry) → look_up c names ≡ Some x → P c x
of_entry P [] h c x e = absurd cc
of_entry P (p ∷ ps) h c x e = by (bytes_eq c p.0) refl e (of_entry P ps h.1 c x)
  where
    by : (b : Bool) → bytes_eq c p.0 ≡ b → cond b (Some p.1) (look_up c ps) ≡ Some x → (look_up c ps ≡ Some x → P c x) → P c x
    by true f g again = subst (λ n. P n x) (sym ((bytes_eq-Decides c p.0).0 f)) (subst (λ y. P p.0 y) (ap (λ o. unwrap_or o x) g) h.0)
    by false f g again = again g

pub declared_at : (here : Entries) (d : List ℕ) (ps : List (List ℕ)) (from : ℕ) (cs : List Constructor) → Declares here d ps from cs → (place : ℕ) (c : List ℕ) (fields : List Expression) → at_place (shown cs) place ≡ Some (c, fields) → here c ≡ Some (Builds d ps (from + place) fields)
declared_at here d ps from [] h place c fields e = absurd cc
declared_at here d ps from (x ∷ cs) h zero c fields e =
    let q : (x.name ≡ c) × (map (λ y. y.1) x.selectors ≡ fields) = both e in
    subst (λ n. here n ≡ Some (Builds d ps (from + zero) fields)) q.0 (h.0 ∙ (λ i. Some (Builds d ps (z i) (q.1 i))))
  where
    z : from ≡ from + zero
    z = omega arith

    both : ◌≡◌ {A = Option (List ℕ × List Expression)} (Some (x.name, map (λ y. y.1) x.selectors)) (Some (c, fields)) → (x.name ≡ c) × (map (λ y. y.1) x.selectors ≡ fields)
    both f =
        let a : List ℕ × List Expression = (x.name, map (λ y. y.1) x.selectors) in let b : List ℕ × List Expression = (c, fields) in
        let p : a ≡ b = ap (λ (o : Option (List ℕ × List Expression)). unwrap_or o a) f in
        (ap (λ (r : List ℕ × List Expression). r.0) p, ap (λ (r : List ℕ × List Expression). r.1) p)
declared_at here d ps from (x ∷ cs) h (suc place) c fields e =
    declared_at here d ps (suc from) cs h.2 place c fields e ∙ ap (λ k. Some (Builds d ps k fields)) (let z : suc from + place ≡ from + suc place = omega arith in z)

pub datatypes_are_declared : DatatypesAreDeclared
datatypes_are_declared d ps cs names h k = record {
  builds = λ place c fields e. declared_at (λ c. look_up c names) d ps 0 cs h place c fields e ∙ ap (λ n. Some (Builds d ps n fields)) (let z : 0 + place ≡ place = omega arith in z);
  only = λ place c fields qs e. of_entry (BuildsRightly d ps (shown cs)) names k c (Builds d qs place fields) e refl;
}

-- ---- a new datatype

module _ (d : List ℕ) (ps : List (List ℕ)) (all : Constructors) where
  abbrev Right : List (List ℕ × Entry) → Type 0
  Right names = AllByRecursion (λ p. BuildsRightly d ps all p.0 p.1) names

  right_selectors : (c : List ℕ) (place : ℕ) (xs : List (List ℕ × Expression)) (names : List (List ℕ × Entry)) → Right names → Right (selectors_named d ps c place xs names)
  right_selectors c place [] names h = h
  right_selectors c place (x ∷ xs) names h = right_selectors c (suc place) xs ((x.0, Selects d ps c place x.1) ∷ names) (tt, h)

  -- the constructors that are left stand in the whole from a place on
  right_constructors : (place : ℕ) (cs : List Constructor) (names : List (List ℕ × Entry)) → ((k : ℕ) → at_place all (place + k) ≡ at_place (shown cs) k) → Right names → Right (constructors_named d ps place cs names)
  right_constructors place [] names f h = h
  right_constructors place (c ∷ cs) names f h =
      right_constructors (suc place) cs (selectors_named d ps c.name 0 c.selectors ((c.name, Builds d ps place (map (λ x. x.1) c.selectors)) ∷ names))
      (λ k. ap (at_place all) (let z : suc place + k ≡ place + suc k = omega arith in z) ∙ f (suc k))
      (right_selectors c.name 0 c.selectors ((c.name, Builds d ps place (map (λ x. x.1) c.selectors)) ∷ names)
      ((λ e. (refl, ap (at_place all) (let z : place ≡ place + 0 = omega arith in z) ∙ f 0)), h))

right_others : (d : List ℕ) (ps : List (List ℕ)) (cs : Constructors) (names : List (List ℕ × Entry)) → AllByRecursion (λ p. BuildsOther d p.1) names → AllByRecursion (λ p. BuildsRightly d ps cs p.0 p.1) names
right_others d ps cs [] h = tt
right_others d ps cs (p ∷ names) h = (by p.0 p.1 h.0, right_others d ps cs names h.1)
  where
    by : (c : List ℕ) (x : Entry) → BuildsOther d x → BuildsRightly d ps cs c x
    by c (Builds e qs place fields) g = λ f. absurd (g f)
    by c x g = tt

pub new_datatypes_are_declared : NewDatatypesAreDeclared
new_datatypes_are_declared d ps cs s new h =
    datatypes_are_declared d ps cs (constructors_named d ps 0 cs s.last.names ++ names_below s.below) (datatypes_declare d ps cs s new)
    (joined (constructors_named d ps 0 cs s.last.names) (names_below s.below)
    (right_constructors d ps (shown cs) 0 cs s.last.names (λ k. ap (at_place (shown cs)) (let z : 0 + k ≡ k = omega arith in z)) (right_others d ps (shown cs) s.last.names (all-front (λ p. BuildsOther d p.1) s.last.names (names_below s.below) h)))
    (right_others d ps (shown cs) (names_below s.below) (all-back (λ p. BuildsOther d p.1) s.last.names (names_below s.below) h)))
  where
    joined : (xs ys : List (List ℕ × Entry)) → AllByRecursion (λ p. BuildsRightly d ps (shown cs) p.0 p.1) xs → AllByRecursion (λ p. BuildsRightly d ps (shown cs) p.0 p.1) ys → AllByRecursion (λ p. BuildsRightly d ps (shown cs) p.0 p.1) (xs ++ ys)
    joined [] ys a b = b
    joined (x ∷ xs) ys a b = (a.0, joined xs ys a.1 b)

-- ---- the example

no_datatype : (d : List ℕ) (names : List (List ℕ × Entry)) → AllByRecursion (λ p. BuildsRightly d [] [] p.0 p.1) names → IsNoDatatype (λ c. look_up c names) d
no_datatype d names h c qs place fields e = absurd (let r : (qs ≡ []) × (at_place [] place ≡ Some (c, fields)) = of_entry (BuildsRightly d [] []) names h c (Builds d qs place fields) e refl in let z : None ≡ Some (c, fields) = r.1 in cc)

differ : (x y : List ℕ) → bytes_eq x y ≡ false → x ≡ y → ⊥
differ x y h e = let z : true ≡ false = sym ((bytes_eq-Decides x y).1 e) ∙ h in cc

pub colors_are_declared : ColorsAreDeclared
colors_are_declared = (
  (record { ascending = refl; texts = (IsUtf8-from_ascii (codes "a") (search rules), (IsUtf8-from_ascii (codes "b") (search rules), tt)) }, tt),
  record {
    options = datatypes_are_declared (codes "Option") (codes "X" ∷ []) option_declared (names_of color_state) (refl, tt, (refl, (refl, tt), tt)) ((λ e. absurd (differ (codes "E0") (codes "Option") refl e)), ((λ e. absurd (differ (codes "E0") (codes "Option") refl e)), (tt, ((λ e. (refl, refl)), ((λ e. (refl, refl)), tt)))));
    bits = no_datatype (codes "_") (names_of color_state) ((λ e. absurd (differ (codes "E0") (codes "_") refl e)), ((λ e. absurd (differ (codes "E0") (codes "_") refl e)), (tt, ((λ e. absurd (differ (codes "Option") (codes "_") refl e)), ((λ e. absurd (differ (codes "Option") (codes "_") refl e)), tt)))));
    truths = no_datatype (codes "Bool") (names_of color_state) ((λ e. absurd (differ (codes "E0") (codes "Bool") refl e)), ((λ e. absurd (differ (codes "E0") (codes "Bool") refl e)), (tt, ((λ e. absurd (differ (codes "Option") (codes "Bool") refl e)), ((λ e. absurd (differ (codes "Option") (codes "Bool") refl e)), tt)))));
    texts = no_datatype (codes "String") (names_of color_state) ((λ e. absurd (differ (codes "E0") (codes "String") refl e)), ((λ e. absurd (differ (codes "E0") (codes "String") refl e)), (tt, ((λ e. absurd (differ (codes "Option") (codes "String") refl e)), ((λ e. absurd (differ (codes "Option") (codes "String") refl e)), tt)))));
    sets = no_datatype (codes "Set") (names_of color_state) ((λ e. absurd (differ (codes "E0") (codes "Set") refl e)), ((λ e. absurd (differ (codes "E0") (codes "Set") refl e)), (tt, ((λ e. absurd (differ (codes "Option") (codes "Set") refl e)), ((λ e. absurd (differ (codes "Option") (codes "Set") refl e)), tt)))));
  },
  record {
    not_bool = refl;
    not_string = refl;
    datatype = datatypes_are_declared (codes "E0") [] color_declared (names_of color_state) (refl, tt, (refl, tt, tt)) ((λ e. (refl, refl)), ((λ e. (refl, refl)), (tt, ((λ e. absurd (differ (codes "Option") (codes "E0") refl e)), ((λ e. absurd (differ (codes "Option") (codes "E0") refl e)), tt)))));
  },
)
