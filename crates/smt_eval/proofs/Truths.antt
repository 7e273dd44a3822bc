-- The truths of terms in an assignment, and the literals to which they evaluate; their lines, one after the other.
use Rattle.std.proofs.Common.{◌≡◌, ◌∙◌, ℕ, ◌+◌, ◌<◌, zero, suc, Bool, true, List, [], ◌∷◌, ◌++◌, Option, Ok, Err, Result, ap, arith, get_or, length, map, refl, subst, sym, take}
use Rattle.std.proofs.lemmas.List.{map-append, take_more}
use Rattle.std.proofs.lemmas.Bool.{and_from, and_parts}
use Rattle.std.specs.Io.KnownBytes.{append_known}
use Rattle.std.specs.List.{AllByRecursion, flat_map}
use Rattle.std.specs.Prelude.{OnOk}
use Rattle.law_assignments.specs.Assignments.{PlainAssignment, interpretation}
use Rattle.law_assignments.specs.Covered.{Covers}
use Rattle.law_assignments.specs.Evaluated.{evaluated}
use Rattle.law_assignments.specs.Sound.{IsSound}
use Rattle.law_assignments.proofs.Holding.{each_is_covered, truth_is_evaluated}
use Rattle.law_folding.specs.Applications.{true_term, truth_literal}
use Rattle.law_terms.specs.Formed.{IsFormed}
use Rattle.law_terms.specs.Meaning.{term_value}
use Rattle.law_terms.specs.Operators.{truth}
use Rattle.law_terms.specs.Plain.{PlainTerm}
use Rattle.law_terms.specs.TypeValues.{Enums}
use Rattle.law_terms.specs.Typing.{AreBoolean}
use Rattle.smt_eval.specs.Evaluable.{HasValueIn}
use Rattle.smt_runs.proofs.Loop.{known_twice}
use Rattle.smt_term.specs.View.{plain_term}
use Rattle.smt_term.specs.declared.term.Term.{Term}
use Rattle.smt_eval.specs.Answers.{all_true, answer_text, truth_line, truths_in, verdict_line}

same_truth : (b c : Bool) → truth_literal b ≡ truth_literal c → b ≡ c
same_truth b c h = cc

module _ (enums : Enums) (a : PlainAssignment) (sound : IsSound enums a) where
  -- the literal to which a Boolean term evaluates
  is_truth : (t : PlainTerm) → Covers a (t ∷ []) → AreBoolean (t ∷ []) → IsFormed t → evaluated a t ≡ truth_literal (truth (term_value (interpretation a) t))
  is_truth t c y f = truth_is_evaluated enums a t sound c y.0 f

  onto : (ts : List PlainTerm) → AllByRecursion (λ t. Covers a (t ∷ [])) ts → AreBoolean ts → AllByRecursion IsFormed ts → all_true (truths_in a ts) ≡ true → AllByRecursion (λ t. evaluated a t ≡ true_term) ts
  onto [] c y f h = tt
  onto (t ∷ ts) c y f h =
      let parts = and_parts (truth (term_value (interpretation a) t)) (all_true (truths_in a ts)) h in
      (is_truth t c.0 (y.0, tt) f.0 ∙ ap truth_literal parts.0, onto ts c.1 y.1 f.1 parts.1)

  back : (ts : List PlainTerm) → AllByRecursion (λ t. Covers a (t ∷ [])) ts → AreBoolean ts → AllByRecursion IsFormed ts → AllByRecursion (λ t. evaluated a t ≡ true_term) ts → all_true (truths_in a ts) ≡ true
  back [] c y f h = refl
  back (t ∷ ts) c y f h =
      and_from (truth (term_value (interpretation a) t)) (all_true (truths_in a ts)) (same_truth (truth (term_value (interpretation a) t)) true (sym (is_truth t c.0 (y.0, tt) f.0) ∙ h.0)) (back ts c.1 y.1 f.1 h.1)

  module _ (ts : List PlainTerm) (covers : Covers a ts) (booleans : AreBoolean ts) (formed : AllByRecursion IsFormed ts) where
    -- all are true exactly where all evaluate to true
    pub all_evaluate : all_true (truths_in a ts) ≡ true → AllByRecursion (λ t. evaluated a t ≡ true_term) ts
    all_evaluate h = onto ts (each_is_covered a ts covers) booleans formed h

    pub evaluated_all : AllByRecursion (λ t. evaluated a t ≡ true_term) ts → all_true (truths_in a ts) ≡ true
    evaluated_all h = back ts (each_is_covered a ts covers) booleans formed h

-- ---- one after the other

-- A term has a value, and evaluates to the literal of its truth.
abbrev pub IsTruthIn : PlainAssignment → PlainTerm → Type 0
IsTruthIn a t = HasValueIn a t × (evaluated a t ≡ truth_literal (truth (term_value (interpretation a) t)))

module _ (enums : Enums) (a : PlainAssignment) (sound : IsSound enums a) where
  each_is_truth : (ts : List PlainTerm) → AllByRecursion (λ t. Covers a (t ∷ [])) ts → AreBoolean ts → AllByRecursion IsFormed ts → AllByRecursion (IsTruthIn a) ts
  each_is_truth [] c y f = tt
  each_is_truth (t ∷ ts) c y f = ((record { enums = enums; sound = sound; covered = c.0; is_typed = y.0.parts }, is_truth enums a sound t c.0 (y.0, tt) f.0), each_is_truth ts c.1 y.1 f.1)

  pub all_are_truths : (ts us : List PlainTerm) → us ≡ ts → Covers a ts → AreBoolean ts → AllByRecursion IsFormed ts → AllByRecursion (IsTruthIn a) us
  all_are_truths ts us same covers y f = subst (AllByRecursion (IsTruthIn a)) (sym same) (each_is_truth ts (each_is_covered a ts covers) y f)

-- what holds of all terms holds of each
at_place : (P : PlainTerm → Type 0) (all : List Term) (i : ℕ) (x : Term) → AllByRecursion P (map plain_term all) → i < length all → x ≡ get_or all i x → P (plain_term x)
at_place P [] i x h l e = absurd (omega (arith, l))
at_place P (y ∷ ys) zero x h l e = subst (λ z. P (plain_term z)) (sym e) h.0
at_place P (y ∷ ys) (suc i) x h l e = at_place P ys i x h.1 (omega (arith, l)) e

pub one_more_truth : (a : PlainAssignment) (all : List Term) (i : ℕ) (x r : Term) (done new : List Bool) (b : Bool) → AllByRecursion (IsTruthIn a) (map plain_term all) → i < length all → x ≡ get_or all i x
    → done ≡ truths_in a (map plain_term (take i all)) → (HasValueIn a (plain_term x) → plain_term r ≡ evaluated a (plain_term x)) → ((c : Bool) → plain_term r ≡ truth_literal c → b ≡ c) → new ≡ done ++ b ∷ [] → new ≡ truths_in a (map plain_term (take (i + 1) all))
one_more_truth a all i x r done new b known l at before value reads is =
    let it = at_place (IsTruthIn a) all i x known l at in
    let same : b ≡ truth (term_value (interpretation a) (plain_term x)) = reads (truth (term_value (interpretation a) (plain_term x))) (value it.0 ∙ it.1) in
    is
    ∙ (λ j. before j ++ same j ∷ [])
    ∙ sym (map-append (λ t. truth (term_value (interpretation a) t)) (map plain_term (take i all)) (plain_term x ∷ []))
    ∙ ap (truths_in a) (sym (map-append plain_term (take i all) (x ∷ [])))
    ∙ ap (λ (ts : List Term). truths_in a (map plain_term ts)) (ap (λ (y : Term). take i all ++ y ∷ []) at ∙ sym (take_more all i x l))

-- the last line behind those of all truths
pub last_line : {T E : Type 0} (result : Result T E) (old held now : Option (List ℕ)) (all some : List Bool) (line : List ℕ) → some ≡ all → held ≡ append_known old (flat_map truth_line some) → line ≡ verdict_line (all_true all) → OnOk result (now ≡ append_known held line)
    → OnOk result (now ≡ append_known old (answer_text all))
last_line (Err e) old held now all some line same before is put = tt
last_line (Ok u) old held now all some line same before is put =
    put
    ∙ ap (λ (o : Option (List ℕ)). append_known o line) (before ∙ ap (λ (bs : List Bool). append_known old (flat_map truth_line bs)) same)
    ∙ known_twice old (flat_map truth_line all) line
    ∙ ap (λ (x : List ℕ). append_known old (flat_map truth_line all ++ x)) is
