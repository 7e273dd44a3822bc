-- How a node is written, by its parts.
use Rattle.std.proofs.Common.{◌≡◌, ℕ, suc, true, false, List, [], ◌∷◌, length, get_or, map, Option, Some, None, refl, sym, ap, ◌∙◌, arith}
use Rattle.std.specs.Prelude.{option_map}
use Rattle.std.proofs.lemmas.Bool.{false≢true}
use Rattle.law_terms.specs.Plain.{PlainType, BitVecType, BoolType, BvnegoOp, UufOp, PlainTerm, Application, list_of_terms, terms}
use Rattle.law_terms.specs.Types.{type_of}
use Rattle.law_terms.specs.Meanings.{all_found, found}
use Rattle.law_terms.specs.Nodes.{Meaning, TypeMeaning, FunctionMeaning, TermMeaning}
use Rattle.law_terms.specs.Parts.{label_in, parts_in}
use Rattle.law_terms.proofs.Places.{map_back, then_back, some_same}
use Rattle.smt_nodes.specs.View.{place_of, places_of}
use Rattle.smt_nodes.specs.declared.id.NodeId.{NodeId}
use Rattle.law_lines.specs.Lines.{AsApplication, AsEqualsIntMin, AsFalse, least_rendering, negation_rendering}
use Rattle.smt_spelling.specs.NodeEntries.{AsCall, Rendered, is_call_label, is_negation_label, is_truth_type, rendering_in, width_of_type}
use Rattle.law_terms.proofs.Listed.{listed_again}

-- ---- the first parts

-- what the first of several numbers stands for
pub first_found : (ms : List (Option Meaning)) (ids : List NodeId) (d : NodeId) (m : Meaning) (rest : List Meaning) → all_found ms (places_of ids) ≡ Some (m ∷ rest) → found ms (place_of (get_or ids 0 d)) ≡ Some m
first_found ms [] d m rest h = absurd (cc)
first_found ms (i ∷ ids) d m rest h =
    let (n, e, g) = then_back (λ n. option_map (λ more. n ∷ more) (all_found ms (places_of ids))) (found ms (place_of i)) (m ∷ rest) h in
    let (more, f, same) = map_back (λ more. n ∷ more) (all_found ms (places_of ids)) (m ∷ rest) g in
    let one : n ≡ m = cc in
    e ∙ ap Some one

-- the same of two numbers alone
pub two_found : (ms : List (Option Meaning)) (ids : List NodeId) (d : NodeId) (m : Meaning) (ts : List PlainTerm) → length ids ≡ 2 → all_found ms (places_of ids) ≡ Some (m ∷ map TermMeaning ts)
    → (u : PlainTerm) × (ts ≡ u ∷ []) × (found ms (place_of (get_or ids 0 d)) ≡ Some m) × (found ms (place_of (get_or ids 1 d)) ≡ Some (TermMeaning u))
two_found ms [] d m ts two h = absurd (omega (arith, two))
two_found ms (i ∷ []) d m ts two h = absurd (omega (arith, two))
two_found ms (i ∷ j ∷ k ∷ ids) d m ts two h = absurd (omega (arith, two))
two_found ms (i ∷ j ∷ []) d m ts two h =
    let (n, e, g) = then_back (λ n. option_map (λ more. n ∷ more) (all_found ms (place_of j ∷ []))) (found ms (place_of i)) (m ∷ map TermMeaning ts) h in
    let (more, f, same) = map_back (λ more. n ∷ more) (all_found ms (place_of j ∷ [])) (m ∷ map TermMeaning ts) g in
    let one : n ≡ m = cc in
    let others : more ≡ map TermMeaning ts = cc in
    let (k, p, q) = then_back (λ k. Some (k ∷ [])) (found ms (place_of j)) more f in
    let (u, is, made) = go ts k (some_same (k ∷ []) more q ∙ others) in
    (u, is, e ∙ ap Some one, p ∙ ap Some made)
  where
    go : (ts : List PlainTerm) (k : Meaning) → k ∷ [] ≡ map TermMeaning ts → (u : PlainTerm) × (ts ≡ u ∷ []) × (k ≡ TermMeaning u)
    go [] k h = absurd (cc)
    go (u ∷ []) k h = (u, refl, cc)
    go (u ∷ v ∷ ts) k h = absurd (cc)

-- as many are found as there are numbers
pub found_length : (ms : List (Option Meaning)) (is : List ℕ) (ps : List Meaning) → all_found ms is ≡ Some ps → length ps ≡ length is
found_length ms [] ps h = ap length (sym (some_same [] ps h))
found_length ms (i ∷ is) ps h =
    let (m, e, g) = then_back (λ m. option_map (λ more. m ∷ more) (all_found ms is)) (found ms i) ps h in
    let (more, f, same) = map_back (λ more. m ∷ more) (all_found ms is) ps g in
    ap length (sym same) ∙ ap suc (found_length ms is more f)

-- ---- renderings

pub not_one : (ts : List PlainTerm) (t : PlainType) → ¬ (length ts ≡ 1) → Rendered AsApplication ≡ Rendered (negation_rendering (terms ts) t)
not_one [] t h = refl
not_one (u ∷ []) t h = absurd (h refl)
not_one (u ∷ v ∷ ts) t h = refl

pub no_truth : (ts : List PlainTerm) (t : PlainType) → is_truth_type t ≡ false → Rendered AsApplication ≡ Rendered (negation_rendering (terms ts) t)
no_truth [] t h = refl
no_truth (u ∷ v ∷ ts) t h = refl
no_truth (u ∷ []) BoolType h = absurd (false≢true (sym h))
no_truth (u ∷ []) t h = refl

pub of_truth : (u : PlainTerm) (t : PlainType) → is_truth_type t ≡ true → Rendered (negation_rendering (terms (u ∷ [])) t) ≡ Rendered (least_rendering (type_of u))
of_truth u BoolType h = refl
of_truth u t h = absurd (false≢true h)

pub of_width : (t : PlainType) (w : ℕ) → width_of_type t ≡ Some w → Rendered (AsEqualsIntMin w) ≡ Rendered (least_rendering t)
of_width (BitVecType v) w h = ap (λ n. Rendered (AsEqualsIntMin n)) (sym (some_same v w h))
of_width t w h = absurd (cc)

pub of_none : (t : PlainType) → width_of_type t ≡ None → Rendered AsFalse ≡ Rendered (least_rendering t)
of_none (BitVecType v) h = absurd (cc)
of_none t h = refl

-- the parts of the overflow test of a negation, and how it is written
pub negation : (m : Meaning) → is_negation_label (label_in m) ≡ true → (t : PlainType) × (ts : List PlainTerm) × (parts_in m ≡ TypeMeaning t ∷ map TermMeaning ts) × (rendering_in m ≡ Rendered (negation_rendering (terms ts) t))
negation (TermMeaning (Application BvnegoOp ts t)) h = (t, list_of_terms ts, refl, ap (λ u. Rendered (negation_rendering u t)) (sym (listed_again ts)))
negation (TermMeaning t) h = absurd (false≢true h)
negation (FunctionMeaning f) h = absurd (false≢true h)
negation (TypeMeaning t) h = absurd (false≢true (sym (no_type t) ∙ h))
  where
    no_type : (t : PlainType) → is_negation_label (label_in (TypeMeaning t)) ≡ false
    no_type BoolType = refl
    no_type t = refl

-- a call
pub called : (m : Meaning) → is_call_label (label_in m) ≡ true → AsCall ≡ rendering_in m
called (TermMeaning (Application (UufOp f) ts t)) h = refl
called (TermMeaning (Application o ts t)) h = absurd (false≢true h)
called (TermMeaning t) h = absurd (false≢true h)
called (FunctionMeaning f) h = absurd (false≢true h)
called (TypeMeaning t) h = absurd (false≢true (sym (no_type t) ∙ h))
  where
    no_type : (t : PlainType) → is_call_label (label_in (TypeMeaning t)) ≡ false
    no_type BoolType = refl
    no_type t = refl

-- anything else
pub no_negation : (m : Meaning) → is_negation_label (label_in m) ≡ false → is_call_label (label_in m) ≡ false → Rendered AsApplication ≡ rendering_in m
no_negation (TermMeaning (Application BvnegoOp ts t)) h c = absurd (false≢true (sym h))
no_negation (TermMeaning (Application (UufOp f) ts t)) h c = absurd (false≢true (sym c))
no_negation (TermMeaning (Application o ts t)) h c = refl
no_negation m h c = refl
