-- Operators at numbered terms: the nodes that are entered, and operands by their count.
use Rattle.std.proofs.Common.{◌≡◌, ℕ, ◌<◌, ◌≤◌, false, List, [], ◌∷◌, Option, Some, None, Ok, Err, Result, length, map, slice_index_or, refl, sym, ap, ◌∙◌, subst, arith}
use Rattle.std.specs.Bool.{then_some}
use Rattle.std.specs.Prelude.{IfOk, IfSome, IsTrue, is_some, option_and_then, option_map}
use Rattle.law_terms.specs.Fits.{applies_no_function, fits}
use Rattle.law_terms.specs.Meanings.{all_found, found, meaning_at, meaning_of, meanings, stands_for, term_made, terms_in, typed_as}
use Rattle.law_terms.specs.Nodes.{ApplicationLabel, PlainNode, Meaning, TermMeaning, TypeMeaning}
use Rattle.law_terms.specs.Plain.{PlainOp, PlainTerm, PlainType, Application, UufOp, terms}
use Rattle.law_terms.specs.Types.{result_type, type_of}
use Rattle.law_terms.proofs.Fitting.{fitting}
use Rattle.law_terms.proofs.Places.{map_back, then_back}
use Rattle.law_terms.proofs.TermTotal.{types_decided}
use Rattle.std.proofs.lemmas.Bool.{false≢true}
use Rattle.smt_jobs.specs.Applied.{ArePartsOf, IsBuilt, StandForTerms, Stays, is_plainly_applied}
use Rattle.smt_nodes.specs.Interned.{meaning_in, nodes_of, KeepsMeanings, StandFor}
use Rattle.smt_nodes.specs.View.{place_of, places_of}
use Rattle.smt_nodes.specs.declared.id.NodeId.{NodeId}
use Rattle.smt_nodes.specs.declared.interner.Interner.{Interner}
use Rattle.smt_nodes.proofs.Interning.{are_terms_in, two_found}

-- ---- the node of an application

made : (o : PlainOp) → IsTrue (applies_no_function (ApplicationLabel o)) → (ty : PlainType) (ts : List PlainTerm) → term_made (ApplicationLabel o) ty (map TermMeaning ts) ≡ option_map (λ ts. Application o (terms ts) ty) (terms_in (map TermMeaning ts))
made (UufOp f) n ty ts = absurd (false≢true n)
made o n ty ts = refl

pub application_means : (o : PlainOp) → IsTrue (applies_no_function (ApplicationLabel o)) → (ty : PlainType) (ts : List PlainTerm) → stands_for (ApplicationLabel o) (TypeMeaning ty ∷ map TermMeaning ts) ≡ Some (TermMeaning (Application o (terms ts) ty))
application_means o n ty ts =
    ap (option_and_then (typed_as ty)) (made o n ty ts ∙ ap (option_map (λ ts. Application o (terms ts) ty)) (are_terms_in ts)) ∙ ap (λ b. then_some b (TermMeaning (Application o (terms ts) ty))) ((types_decided ty ty).1 refl)

module _ (i : Interner) (o : PlainOp) (n : IsTrue (applies_no_function (ApplicationLabel o))) (node : PlainNode) (label : node.label ≡ ApplicationLabel o) (ids : List NodeId) (parts : node.parts ≡ places_of ids) (ty : PlainType) (ts : List PlainTerm) (are : ArePartsOf i ids ty ts) where
  pub node_means : meaning_of (meanings (nodes_of i)) node ≡ Some (TermMeaning (Application o (terms ts) ty))
  node_means =
      ap (λ l. option_and_then (stands_for l) (all_found (meanings (nodes_of i)) node.parts)) label
      ∙ ap (λ ps. option_and_then (stands_for (ApplicationLabel o)) (all_found (meanings (nodes_of i)) ps)) parts
      ∙ ap (option_and_then (stands_for (ApplicationLabel o))) are
      ∙ application_means o n ty ts

  pub node_fits : IsTrue (fits (nodes_of i) node)
  node_fits = sym (fitting (nodes_of i) node) ∙ ap is_some node_means

-- ---- the parts of an application

pub three_found : (ns : List PlainNode) (i j k : NodeId) (l m n : Meaning) → meaning_at ns (place_of i) ≡ Some l → meaning_at ns (place_of j) ≡ Some m → meaning_at ns (place_of k) ≡ Some n → all_found (meanings ns) (places_of (i ∷ j ∷ k ∷ [])) ≡ Some (l ∷ m ∷ n ∷ [])
three_found ns i j k l m n f g h =
    ap (option_and_then (λ l. option_map (λ rest. l ∷ rest) (all_found (meanings ns) (places_of (j ∷ k ∷ []))))) f ∙ ap (option_map (λ rest. l ∷ rest)) (two_found ns j k m n g h)

pub four_found : (ns : List PlainNode) (a i j k : NodeId) (p l m n : Meaning) → meaning_at ns (place_of a) ≡ Some p → meaning_at ns (place_of i) ≡ Some l → meaning_at ns (place_of j) ≡ Some m → meaning_at ns (place_of k) ≡ Some n → all_found (meanings ns) (places_of (a ∷ i ∷ j ∷ k ∷ [])) ≡ Some (p ∷ l ∷ m ∷ n ∷ [])
four_found ns a i j k p l m n e f g h =
    ap (option_and_then (λ p. option_map (λ rest. p ∷ rest) (all_found (meanings ns) (places_of (i ∷ j ∷ k ∷ []))))) e ∙ ap (option_map (λ rest. p ∷ rest)) (three_found ns i j k l m n f g h)

-- what was entered is what is built
pub built_so : {E : Type 0} (r : Result (Option NodeId) E) (i : Interner) (o : PlainOp) (ts : List PlainTerm) (ty : PlainType) → result_type o (map type_of ts) ≡ Some ty → Stays o ts
    → IfOk r (λ found. IfSome found (λ id. meaning_in i id ≡ Some (TermMeaning (Application o (terms ts) ty)))) → IfOk r (λ found. IfSome found (IsBuilt i o ts))
built_so (Ok (Some id)) i o ts ty given stays h = (ty, given, h ∙ ap (λ t. Some (TermMeaning t)) (sym (stays ty given)))
built_so (Ok None) i o ts ty given stays h = tt
built_so (Err e) i o ts ty given stays h = tt

-- ---- operands by their count

abbrev Split : Interner → NodeId → List NodeId → List PlainTerm → Type 0
Split i a ids ts = (t : PlainTerm) × (us : List PlainTerm) × (t ∷ us ≡ ts) × (meaning_in i a ≡ Some (TermMeaning t)) × StandFor i ids us

split_by : (i : Interner) (a : NodeId) (ids : List NodeId) (m : Meaning) (rest : List Meaning) (ts : List PlainTerm) → m ∷ rest ≡ map TermMeaning ts → meaning_in i a ≡ Some m → all_found (meanings (nodes_of i)) (places_of ids) ≡ Some rest → Split i a ids ts
split_by i a ids m rest [] e h k = absurd (cc)
split_by i a ids m rest (t ∷ ts) e h k =
    let first : m ≡ TermMeaning t = cc in
    let others : rest ≡ map TermMeaning ts = cc in
    (t, ts, refl, h ∙ ap Some first, k ∙ ap Some others)

split : (i : Interner) (a : NodeId) (ids : List NodeId) (ts : List PlainTerm) → StandFor i (a ∷ ids) ts → Split i a ids ts
split i a ids ts h =
    let ms = meanings (nodes_of i) in
    let (m, e, d) = then_back (λ m. option_map (λ rest. m ∷ rest) (all_found ms (places_of ids))) (found ms (place_of a)) (map TermMeaning ts) h in
    let (rest, f, g) = map_back (λ rest. m ∷ rest) (all_found ms (places_of ids)) (map TermMeaning ts) d in
    split_by i a ids m rest ts g e f

nothing : (i : Interner) (ts : List PlainTerm) → StandFor i [] ts → [] ≡ ts
nothing i [] h = refl
nothing i (t ∷ ts) h = absurd (cc)

-- of more than three operands none is listed
pub many_left : (i : Interner) (ids : List NodeId) (ts : List PlainTerm) → StandFor i ids ts → 4 ≤ length ids → (o : PlainOp) → is_plainly_applied o ts ≡ false
many_left i [] ts s l o = absurd (omega (arith, l))
many_left i (a ∷ []) ts s l o = absurd (omega (arith, l))
many_left i (a ∷ b ∷ []) ts s l o = absurd (omega (arith, l))
many_left i (a ∷ b ∷ x ∷ []) ts s l o = absurd (omega (arith, l))
many_left i (a ∷ b ∷ x ∷ y ∷ ids) ts s l o =
    let c = split i a (b ∷ x ∷ y ∷ ids) ts s in
    let e = split i b (x ∷ y ∷ ids) c.1 c.4 in
    let f = split i x (y ∷ ids) e.1 e.4 in
    let g = split i y ids f.1 f.4 in
    subst (λ us. is_plainly_applied o us ≡ false) (ap (λ us. c.0 ∷ e.0 ∷ f.0 ∷ us) g.2 ∙ ap (λ us. c.0 ∷ e.0 ∷ us) f.2 ∙ ap (λ us. c.0 ∷ us) e.2 ∙ c.2) refl

module _ (i j : Interner) (keeps : KeepsMeanings i j) (d : NodeId) where
  abbrev IsTerm : List NodeId → ℕ → PlainTerm → Type 0
  IsTerm ids n t = meaning_in j (slice_index_or ids n d) ≡ Some (TermMeaning t)

  pub first_there : (ids : List NodeId) → StandForTerms i ids → 1 ≤ length ids → (t : PlainTerm) × IsTerm ids 0 t
  first_there [] s l = absurd (omega (arith, l))
  first_there (a ∷ ids) s l = (let c = split i a ids s.0 s.1 in (c.0, keeps a _ c.3))

  pub second_there : (ids : List NodeId) → StandForTerms i ids → 2 ≤ length ids → (t : PlainTerm) × IsTerm ids 1 t
  second_there [] s l = absurd (omega (arith, l))
  second_there (a ∷ []) s l = absurd (omega (arith, l))
  second_there (a ∷ b ∷ ids) s l = (let c = split i a (b ∷ ids) s.0 s.1 in (let e = split i b ids c.1 c.4 in (e.0, keeps b _ e.3)))

  pub third_there : (ids : List NodeId) → StandForTerms i ids → 3 ≤ length ids → (t : PlainTerm) × IsTerm ids 2 t
  third_there [] s l = absurd (omega (arith, l))
  third_there (a ∷ []) s l = absurd (omega (arith, l))
  third_there (a ∷ b ∷ []) s l = absurd (omega (arith, l))
  third_there (a ∷ b ∷ x ∷ ids) s l = (let c = split i a (b ∷ x ∷ ids) s.0 s.1 in (let e = split i b (x ∷ ids) c.1 c.4 in (let f = split i x ids e.1 e.4 in (f.0, keeps x _ f.3))))

  module _ (P : List PlainTerm → Type 0) where
    pub one_there : (ids : List NodeId) (ts : List PlainTerm) → StandFor i ids ts → 1 ≤ length ids → length ids < 2 → ((t : PlainTerm) → IsTerm ids 0 t → P (t ∷ [])) → P ts
    one_there [] ts s l k go = absurd (omega (arith, l))
    one_there (a ∷ []) ts s l k go =
        let c = split i a [] ts s in
        subst P (ap (λ us. c.0 ∷ us) (nothing i c.1 c.4) ∙ c.2) (go c.0 (keeps a _ c.3))
    one_there (a ∷ b ∷ ids) ts s l k go = absurd (omega (arith, k))

    pub two_there : (ids : List NodeId) (ts : List PlainTerm) → StandFor i ids ts → 2 ≤ length ids → length ids < 3 → ((t u : PlainTerm) → IsTerm ids 0 t → IsTerm ids 1 u → P (t ∷ u ∷ [])) → P ts
    two_there [] ts s l k go = absurd (omega (arith, l))
    two_there (a ∷ []) ts s l k go = absurd (omega (arith, l))
    two_there (a ∷ b ∷ []) ts s l k go =
        let c = split i a (b ∷ []) ts s in
        let e = split i b [] c.1 c.4 in
        subst P (ap (λ us. c.0 ∷ e.0 ∷ us) (nothing i e.1 e.4) ∙ ap (λ us. c.0 ∷ us) e.2 ∙ c.2) (go c.0 e.0 (keeps a _ c.3) (keeps b _ e.3))
    two_there (a ∷ b ∷ x ∷ ids) ts s l k go = absurd (omega (arith, k))

    pub three_there : (ids : List NodeId) (ts : List PlainTerm) → StandFor i ids ts → 3 ≤ length ids → length ids < 4 → ((g t u : PlainTerm) → IsTerm ids 0 g → IsTerm ids 1 t → IsTerm ids 2 u → P (g ∷ t ∷ u ∷ [])) → P ts
    three_there [] ts s l k go = absurd (omega (arith, l))
    three_there (a ∷ []) ts s l k go = absurd (omega (arith, l))
    three_there (a ∷ b ∷ []) ts s l k go = absurd (omega (arith, l))
    three_there (a ∷ b ∷ x ∷ []) ts s l k go =
        let c = split i a (b ∷ x ∷ []) ts s in
        let e = split i b (x ∷ []) c.1 c.4 in
        let f = split i x [] e.1 e.4 in
        subst P (ap (λ us. c.0 ∷ e.0 ∷ f.0 ∷ us) (nothing i f.1 f.4) ∙ ap (λ us. c.0 ∷ e.0 ∷ us) f.2 ∙ ap (λ us. c.0 ∷ us) e.2 ∙ c.2) (go c.0 e.0 f.0 (keeps a _ c.3) (keeps b _ e.3) (keeps x _ f.3))
    three_there (a ∷ b ∷ x ∷ y ∷ ids) ts s l k go = absurd (omega (arith, k))
