-- Steps that are written one after the other up to the next check.
use Rattle.std.proofs.Common.{◌≡◌, ◌≤◌, ℕ, zero, false, List, [], ◌∷◌, ◌++◌, Option, Some, None, Ok, Err, Result, length, refl, sym, ap, ◌∙◌, subst, append_assoc, append-nil, arith}
use Rattle.std.proofs.lemmas.Bool.{and_parts}
use Rattle.std.specs.Io.KnownBytes.{append_known}
use Rattle.std.specs.Borrow.{Bor}
use Rattle.std.specs.Prelude.{IfOk, IsErrAnd, IsErrOf, IsTrue}
use Rattle.law_lines.specs.Lines.{Encoding}
use Rattle.law_terms.specs.Faults.{Fault, first_fault}
use Rattle.law_terms.specs.TypeValues.{Enums}
use Rattle.law_theorem.specs.Fits.{Stages, encoding_of}
use Rattle.law_jobs.specs.Steps.{PlainStep, AreBalanced, asserted}
use Rattle.smt_runs.specs.JobTexts.{checks_in, stages_behind, stages_of_step, text_behind, text_of_step}
use Rattle.smt_runs.proofs.Behind.{balanced_before, balanced_behind, checks_before, fault_within, faultless_joined, stages_alone, stages_then, text_alone, text_then}
use Rattle.smt_encode.specs.Encoded.{enums_in, is_spent, nodes_in, sink_of, HasEncoding, Keeps}
use Rattle.smt_encode.specs.Refusals.{HasCause}
use Rattle.smt_encode.specs.declared.encoder.Encoder.{Encoder}
use Rattle.smt_encode.specs.declared.error.EncodeError.{EncodeError}
use Rattle.smt_nodes.specs.declared.interner.Interner.{Interner}
use Rattle.smt_jobs.specs.Numbers.{all_steps_stand, step_by, step_stands, steps_by}
use Rattle.smt_jobs.specs.declared.numbered.NumberedStep.{NumberedStep}
use Rattle.smt_jobs.specs.declared.numbered.NumberedStep.TheVariants.{Assert, Check, Pop, Push}
use Rattle.smt_runs.specs.Pieces.{PutsPiece, StopsAt}

-- ---- known bytes

pub known_twice : (o : Option (List ℕ)) (a b : List ℕ) → append_known (append_known o a) b ≡ append_known o (a ++ b)
known_twice None a b = refl
known_twice (Some t) a b = ap (λ (l : List ℕ). Some l) (append_assoc t a b)

pub known_nothing : (o : Option (List ℕ)) → append_known o [] ≡ o
known_nothing None = refl
known_nothing (Some t) = ap (λ (l : List ℕ). Some l) (append-nil t)

-- ---- the loop

-- an error that is passed on
pub passed_on : {T E : Type 0} (r : Result T E) (e : E) → IsErrAnd r (λ y. y ≡ e) → r ≡ Err e
passed_on (Ok x) e h = absurd h
passed_on (Err y) e h = ap (λ (z : _). Err z) h

-- these steps were written, and those are left
pub record IsGoing {S : Type 0} (contents : S → Option (List ℕ)) (faults : S → ℕ) (place : S → List ℕ) (first now : Encoder S) (steps left : List NumberedStep) : Type 0 where
  pub nodes : nodes_in now ≡ nodes_in first
  pub kept : Keeps faults place first now
  pub unspent : is_spent now ≡ false
  pub stand : IsTrue (all_steps_stand (nodes_in first) left)
  pub written : List PlainStep
  pub cut : steps_by (nodes_in first) steps ≡ written ++ steps_by (nodes_in first) left
  pub silent : checks_in written ≡ zero
  pub faultless : first_fault (enums_in first) (asserted written) ≡ None
  pub got : (x : Stages) → HasEncoding first (encoding_of x) → contents (sink_of now) ≡ append_known (contents (sink_of first)) (text_behind (enums_in first) written x)
  pub stands : (x : Stages) → HasEncoding first (encoding_of x) → HasEncoding now (encoding_of (stages_behind (enums_in first) written x))

no_check_step : (nodes : Interner) (step : NumberedStep) → (step ≡ Check → ⊥) → checks_in (step_by nodes step ∷ []) ≡ zero
no_check_step nodes (Assert ids) h = refl
no_check_step nodes Push h = refl
no_check_step nodes Pop h = refl
no_check_step nodes Check h = absurd (h refl)

-- A refusal has its cause also where the fault is that of more terms, and the count of faults was less at an earlier moment.
pub cause_of_more : {T U : Type 0} (before between after : ℕ) (part whole : Option Fault) (r : Result T EncodeError) (s : Result U EncodeError) (e : EncodeError) → before ≤ between → ((f : Fault) → part ≡ Some f → whole ≡ Some f) → r ≡ Err e → s ≡ Err e
    → HasCause between after part r → HasCause before after whole s
cause_of_more {T = T} {U = U} before between after part whole r s e le more was is h = record {
  io = λ k. (let rose = h.io (moved k) in let l = le in omega (arith, rose, l));
  string = λ text k. more _ (h.string text (moved k));
  pattern = λ p k. more _ (h.pattern p (moved k));
  empty = λ ety k. more _ (h.empty ety (moved k));
  member = λ uid k. more _ (h.member uid (moved k));
  no_operand = λ k. more _ (h.no_operand (moved k));
  type = λ ty k. more _ (h.type ty (moved k));
  no_record = λ ty k. more _ (h.no_record ty (moved k));
  attribute = λ name k. more _ (h.attribute name (moved k));
  bits = λ b k. h.bits b (moved k);
  scope = λ k. h.scope (moved k);
}
  where
    moved : {x : EncodeError} → IsErrOf s x → IsErrOf r x
    moved {x} k = subst (λ (o : Result T EncodeError). IsErrOf o x) (sym was) (here e (subst (λ (o : Result U EncodeError). IsErrOf o x) is k))
      where
        here : (y : EncodeError) → IsErrOf {T = U} (Err y) x → IsErrOf {T = T} (Err y) x
        here y h = (let same : y ≡ x = cc in ap (λ (z : EncodeError). Err z) same)

module _ {S : Type 0} (contents : S → Option (List ℕ)) (faults : S → ℕ) (place : S → List ℕ) (first : Encoder S) (steps : List NumberedStep) where
  pub going_from : (unspent : is_spent first ≡ false) → IsTrue (all_steps_stand (nodes_in first) steps) → Keeps faults place first first → IsGoing contents faults place first first steps steps
  going_from unspent stand kept = record {
    nodes = refl;
    kept = kept;
    unspent = unspent;
    stand = stand;
    written = [];
    cut = refl;
    silent = refl;
    faultless = refl;
    got = λ x h. sym (known_nothing (contents (sink_of first)));
    stands = λ x h. h;
  }

  keeps_then : (now new : Encoder S) → Keeps faults place first now → Keeps faults place now new → Keeps faults place first new
  keeps_then now new a b = record { later = (let l = a.later in let m = b.later in omega (arith, l, m)); sink = b.sink ∙ a.sink; enums = b.enums ∙ a.enums }

  module _ (now new : Encoder S) (step : NumberedStep) (rest : List NumberedStep) (i : IsGoing contents faults place first now steps (step ∷ rest)) where
    abbrev here : PlainStep
    here = step_by (nodes_in first) step

    -- the step of the nodes that the encoder has now
    same_step : step_by (nodes_in now) step ≡ here
    same_step = ap (λ (n : Interner). step_by n step) i.nodes

    pub here_stands : IsTrue (step_stands (nodes_in now) step)
    here_stands = subst (λ (n : Interner). IsTrue (step_stands n step)) (sym i.nodes) (and_parts (step_stands (nodes_in first) step) (all_steps_stand (nodes_in first) rest) i.stand).0

    pub rest_stand : IsTrue (all_steps_stand (nodes_in first) rest)
    rest_stand = (and_parts (step_stands (nodes_in first) step) (all_steps_stand (nodes_in first) rest) i.stand).1

    -- one step more was written
    pub going_on : (step ≡ Check → ⊥) → nodes_in new ≡ nodes_in now → Keeps faults place now new → is_spent new ≡ false → first_fault (enums_in now) (asserted (step_by (nodes_in now) step ∷ [])) ≡ None
        → ((x : Stages) → HasEncoding now (encoding_of x) → contents (sink_of new) ≡ append_known (contents (sink_of now)) (text_of_step (enums_in now) (step_by (nodes_in now) step) x))
        → ((x : Stages) → HasEncoding now (encoding_of x) → HasEncoding new (encoding_of (stages_of_step (enums_in now) (step_by (nodes_in now) step) x)))
        → IsGoing contents faults place first new steps rest
    going_on no_check nodes kept unspent faultless got stands = record {
      nodes = nodes ∙ i.nodes;
      kept = keeps_then now new i.kept kept;
      unspent = unspent;
      stand = rest_stand;
      written = i.written ++ here ∷ [];
      cut = i.cut ∙ sym (append_assoc i.written (here ∷ []) (steps_by (nodes_in first) rest));
      silent = checks_before i.written (here ∷ []) i.silent ∙ no_check_step (nodes_in first) step no_check;
      faultless = faultless_joined (enums_in first) i.written (here ∷ []) i.faultless (subst (λ (e : Enums). first_fault e (asserted (here ∷ [])) ≡ None) i.kept.enums (subst (λ (s : PlainStep). first_fault (enums_in now) (asserted (s ∷ [])) ≡ None) same_step faultless));
      got = λ x h.
          got (stages_behind (enums_in first) i.written x) (i.stands x h)
          ∙ ap (λ (o : Option (List ℕ)). append_known o (text_of_step (enums_in now) (step_by (nodes_in now) step) (stages_behind (enums_in first) i.written x))) (i.got x h)
          ∙ known_twice (contents (sink_of first)) (text_behind (enums_in first) i.written x) (text_of_step (enums_in now) (step_by (nodes_in now) step) (stages_behind (enums_in first) i.written x))
          ∙ ap (append_known (contents (sink_of first))) (longer x);
      stands = λ x h.
          subst (λ (y : Stages). HasEncoding new (encoding_of y)) (further x) (stands (stages_behind (enums_in first) i.written x) (i.stands x h));
    }
      where
        alike : (y : Stages) → text_of_step (enums_in now) (step_by (nodes_in now) step) y ≡ text_of_step (enums_in first) here y
        alike y = ap (λ (e : Enums). text_of_step e (step_by (nodes_in now) step) y) i.kept.enums ∙ ap (λ (s : PlainStep). text_of_step (enums_in first) s y) same_step

        longer : (x : Stages) → text_behind (enums_in first) i.written x ++ text_of_step (enums_in now) (step_by (nodes_in now) step) (stages_behind (enums_in first) i.written x) ≡ text_behind (enums_in first) (i.written ++ here ∷ []) x
        longer x =
            ap (λ (t : List ℕ). text_behind (enums_in first) i.written x ++ t) (alike (stages_behind (enums_in first) i.written x) ∙ sym (append-nil (text_of_step (enums_in first) here (stages_behind (enums_in first) i.written x))) ∙ sym (text_alone (enums_in first) here (stages_behind (enums_in first) i.written x)))
            ∙ sym (text_then (enums_in first) i.written (here ∷ []) x)

        further : (x : Stages) → stages_of_step (enums_in now) (step_by (nodes_in now) step) (stages_behind (enums_in first) i.written x) ≡ stages_behind (enums_in first) (i.written ++ here ∷ []) x
        further x =
            ap (λ (e : Enums). stages_of_step e (step_by (nodes_in now) step) (stages_behind (enums_in first) i.written x)) i.kept.enums
            ∙ ap (λ (s : PlainStep). stages_of_step (enums_in first) s (stages_behind (enums_in first) i.written x)) same_step
            ∙ sym (stages_alone (enums_in first) here (stages_behind (enums_in first) i.written x))
            ∙ sym (stages_then (enums_in first) i.written (here ∷ []) x)

    -- the step is balanced behind those before it
    pub balanced_here : (x : Stages) → AreBalanced (length x.below) (steps_by (nodes_in first) steps) → AreBalanced (length (stages_behind (enums_in first) i.written x).below) (step_by (nodes_in now) step ∷ [])
    balanced_here x b =
        subst (λ (s : PlainStep). AreBalanced (length (stages_behind (enums_in first) i.written x).below) (s ∷ [])) (sym same_step)
        (balanced_before (length (stages_behind (enums_in first) i.written x).below) (here ∷ []) (steps_by (nodes_in first) rest)
        (balanced_behind (enums_in first) i.written (here ∷ steps_by (nodes_in first) rest) x (subst (AreBalanced (length x.below)) i.cut b)))

    -- the first fault of the step is that of all steps
    pub fault_of_all : (f : Fault) → first_fault (enums_in now) (asserted (step_by (nodes_in now) step ∷ [])) ≡ Some f → first_fault (enums_in first) (asserted (steps_by (nodes_in first) steps)) ≡ Some f
    fault_of_all f h =
        ap (λ (ss : List PlainStep). first_fault (enums_in first) (asserted ss)) i.cut
        ∙ fault_within (enums_in first) f i.written (here ∷ []) (steps_by (nodes_in first) rest) i.faultless
        (ap (λ (e : Enums). first_fault e (asserted (here ∷ []))) (sym i.kept.enums) ∙ ap (λ (s : PlainStep). first_fault (enums_in now) (asserted (s ∷ []))) (sym same_step) ∙ h)

  -- The loop's step failed: a fault is that of all steps.
  pub cause_of_loop : {T U : Type 0} (now new : Encoder S) (step : NumberedStep) (rest : List NumberedStep) (i : IsGoing contents faults place first now steps (step ∷ rest)) (r : Result T EncodeError) (s : Result U EncodeError) (e : EncodeError) → r ≡ Err e → s ≡ Err e
      → ((y : Stages) → HasEncoding now (encoding_of y) → AreBalanced (length y.below) (step_by (nodes_in now) step ∷ []) → HasCause (faults (sink_of now)) (faults (sink_of new)) (first_fault (enums_in now) (asserted (step_by (nodes_in now) step ∷ []))) r)
      → (x : Stages) → HasEncoding first (encoding_of x) → AreBalanced (length x.below) (steps_by (nodes_in first) steps) → HasCause (faults (sink_of first)) (faults (sink_of new)) (first_fault (enums_in first) (asserted (steps_by (nodes_in first) steps))) s
  cause_of_loop now new step rest i r s e was is h x stands balanced =
      cause_of_more (faults (sink_of first)) (faults (sink_of now)) (faults (sink_of new)) (first_fault (enums_in now) (asserted (step_by (nodes_in now) step ∷ []))) (first_fault (enums_in first) (asserted (steps_by (nodes_in first) steps))) r s e i.kept.later (fault_of_all now new step rest i) was is
      (h (stages_behind (enums_in first) i.written x) (i.stands x stands) (balanced_here now new step rest i x balanced))

  -- all steps before the next check were written
  pub piece_put : (now : Encoder S) (left : List NumberedStep) → IsGoing contents faults place first now steps left → StopsAt (steps_by (nodes_in first) left) → (x : Stages) → HasEncoding first (encoding_of x)
      → PutsPiece (enums_in first) (contents (sink_of first)) (contents (sink_of now)) now x (steps_by (nodes_in first) steps) (steps_by (nodes_in first) left)
  piece_put now left i stops x h = record {
    written = i.written;
    cut = i.cut;
    silent = i.silent;
    stops = stops;
    faultless = i.faultless;
    got = i.got x h;
    stands = i.stands x h;
  }

-- ---- an encoder over a sink that it was lent

module _ {S V E : Type 0} (contents : S → Option (List ℕ)) (given written : Encoder S) (detached : Encoder V) (enums : Enums) (nodes : Interner) (x : Stages) (steps : List NumberedStep) (before after : Option (List ℕ)) where
  -- what was put of an encoder that is apart from its sink again
  pub piece_handed : (result : Result (Bor (List NumberedStep)) E) → enums_in given ≡ enums → nodes_in given ≡ nodes → contents (sink_of given) ≡ before → contents (sink_of written) ≡ after → ((y : Encoding) → HasEncoding written y → HasEncoding detached y)
      → IfOk result (λ left. PutsPiece (enums_in given) (contents (sink_of given)) (contents (sink_of written)) written x (steps_by (nodes_in given) steps) (steps_by (nodes_in given) left.now))
      → IfOk result (λ left. PutsPiece enums before after detached x (steps_by nodes steps) (steps_by nodes left.now))
  piece_handed (Err e) same_enums same_nodes was is handed p = tt
  piece_handed (Ok left) same_enums same_nodes was is handed p =
      subst (λ (e : Enums). PutsPiece e before after detached x (steps_by nodes steps) (steps_by nodes left.now)) same_enums
      (subst (λ (n : Interner). PutsPiece (enums_in given) before after detached x (steps_by n steps) (steps_by n left.now)) same_nodes (record {
        written = p.written;
        cut = p.cut;
        silent = p.silent;
        stops = p.stops;
        faultless = p.faultless;
        got = sym is ∙ p.got ∙ ap (λ (o : Option (List ℕ)). append_known o (text_behind (enums_in given) p.written x)) was;
        stands = handed (encoding_of (stages_behind (enums_in given) p.written x)) p.stands;
      }))

-- the cause of a refusal, in other words for the same counts, enum types and nodes
pub cause_handed : {T : Type 0} (result : Result T EncodeError) (steps : List NumberedStep) (b c before after : ℕ) (d e : Enums) (m n : Interner) → d ≡ e → m ≡ n → b ≡ before → c ≡ after
    → HasCause b c (first_fault d (asserted (steps_by m steps))) result → HasCause before after (first_fault e (asserted (steps_by n steps))) result
cause_handed result steps b c before after d e m n same_enums same_nodes was is h =
    subst (λ (k : ℕ). HasCause k after (first_fault e (asserted (steps_by n steps))) result) was
    (subst (λ (k : ℕ). HasCause b k (first_fault e (asserted (steps_by n steps))) result) is
    (subst (λ (i : Interner). HasCause b c (first_fault e (asserted (steps_by i steps))) result) same_nodes
    (subst (λ (f : Enums). HasCause b c (first_fault f (asserted (steps_by m steps))) result) same_enums h)))
