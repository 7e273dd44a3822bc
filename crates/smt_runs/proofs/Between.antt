-- An encoder between two pieces of a job.
use Rattle.std.proofs.Common.{◌≡◌, ◌≤◌, ◌+◌, ℕ, zero, suc, false, List, [], ◌∷◌, ◌++◌, Option, Some, None, Ok, Err, Result, length, refl, sym, ap, ◌∙◌, subst, append_assoc, append-nil, arith}
use Rattle.std.proofs.lemmas.Bool.{and_parts}
use Rattle.std.proofs.lemmas.List.{length-append, length-map}
use Rattle.std.specs.Io.KnownBytes.{append_known}
use Rattle.std.specs.Borrow.{Bor}
use Rattle.std.specs.Prelude.{IfOk, IsTrue}
use Rattle.law_terms.specs.Faults.{Fault, first_fault}
use Rattle.law_terms.specs.TypeValues.{Enums}
use Rattle.law_lines.specs.Lines.{fresh}
use Rattle.law_theorem.specs.Fits.{Stages, encoding_of, new_stages}
use Rattle.law_jobs.specs.Steps.{PlainStep, AreBalanced, AssertStep, CheckStep, PopStep, PushStep, asserted}
use Rattle.smt_runs.specs.JobTexts.{stages_behind, text_behind, text_of_job}
use Rattle.smt_runs.proofs.Behind.{balanced_behind, fault_within, faultless_joined, stages_then, text_then}
use Rattle.smt_script.specs.CommandTexts.{check_sat_text}
use Rattle.smt_encode.specs.Encoded.{enums_in, is_spent, nodes_in, HasEncoding}
use Rattle.smt_encode.specs.Refusals.{HasCause}
use Rattle.smt_encode.specs.declared.encoder.Encoder.{Encoder}
use Rattle.smt_encode.specs.declared.error.EncodeError.{EncodeError}
use Rattle.smt_nodes.specs.declared.interner.Interner.{Interner}
use Rattle.smt_jobs.specs.Numbers.{all_steps_stand, step_by, step_stands, steps_by}
use Rattle.smt_jobs.specs.declared.numbered.NumberedStep.{NumberedStep}
use Rattle.smt_runs.specs.Pieces.{PutsPiece, PutsSteps, StopsAt}
use Rattle.smt_runs.proofs.Loop.{cause_of_more, known_nothing, known_twice}

-- Of the steps of a job these are done, and those are left. The encoder, apart from its sinks, goes on where the steps that are done lead.
pub record IsBetween (enums : Enums) (nodes : Interner) (steps : List NumberedStep) (encoder : Encoder (Unit {0})) (left : List NumberedStep) : Type 0 where
  pub same_nodes : nodes_in encoder ≡ nodes
  pub same_enums : enums_in encoder ≡ enums
  pub unspent : is_spent encoder ≡ false
  pub stand : IsTrue (all_steps_stand nodes left)
  pub done : List PlainStep
  pub cut : steps_by nodes steps ≡ done ++ steps_by nodes left
  pub faultless : first_fault enums (asserted done) ≡ None
  pub stands : HasEncoding encoder (encoding_of (stages_behind enums done new_stages))

module _ (enums : Enums) (nodes : Interner) (steps : List NumberedStep) where
  pub between_from : (encoder : Encoder (Unit {0})) → nodes_in encoder ≡ nodes → enums_in encoder ≡ enums → is_spent encoder ≡ false → IsTrue (all_steps_stand nodes steps) → HasEncoding encoder fresh → IsBetween enums nodes steps encoder steps
  between_from encoder same_nodes same_enums unspent stand stands = record {
    same_nodes = same_nodes;
    same_enums = same_enums;
    unspent = unspent;
    stand = stand;
    done = [];
    cut = refl;
    faultless = refl;
    stands = stands;
  }

  module _ (before after : Encoder (Unit {0})) (left behind : List NumberedStep) (b : IsBetween enums nodes steps before left) (held now : Option (List ℕ)) where
    -- what is asked of the encoder for its next piece
    pub left_stand : IsTrue (all_steps_stand (nodes_in before) left)
    left_stand = subst (λ (n : Interner). IsTrue (all_steps_stand n left)) (sym b.same_nodes) b.stand

    abbrev pub NextPiece : Type 0
    NextPiece = PutsPiece enums held now after (stages_behind enums b.done new_stages) (steps_by nodes left) (steps_by nodes behind)

    pub next_piece : PutsPiece (enums_in before) held now after (stages_behind enums b.done new_stages) (steps_by (nodes_in before) left) (steps_by (nodes_in before) behind) → NextPiece
    next_piece p =
        subst (λ (e : Enums). PutsPiece e held now after (stages_behind enums b.done new_stages) (steps_by nodes left) (steps_by nodes behind)) b.same_enums
        (subst (λ (n : Interner). PutsPiece (enums_in before) held now after (stages_behind enums b.done new_stages) (steps_by n left) (steps_by n behind)) b.same_nodes p)

    -- all steps up to the next check are done
    pub between_then : nodes_in after ≡ nodes_in before → enums_in after ≡ enums_in before → is_spent after ≡ false → IsTrue (all_steps_stand (nodes_in before) behind) → NextPiece → IsBetween enums nodes steps after behind
    between_then same_nodes same_enums unspent stand p = record {
      same_nodes = same_nodes ∙ b.same_nodes;
      same_enums = same_enums ∙ b.same_enums;
      unspent = unspent;
      stand = subst (λ (n : Interner). IsTrue (all_steps_stand n behind)) b.same_nodes stand;
      done = b.done ++ p.written;
      cut = b.cut ∙ ap (λ (ss : List PlainStep). b.done ++ ss) p.cut ∙ sym (append_assoc b.done p.written (steps_by nodes behind));
      faultless = faultless_joined enums b.done p.written b.faultless p.faultless;
      stands = subst (HasEncoding after) (ap encoding_of (sym (stages_then enums b.done p.written new_stages))) p.stands;
    }

  -- the first of the steps that are left is a check
  abbrev pub BeginsWithCheck : List NumberedStep → Type 0
  BeginsWithCheck left = (behind : List PlainStep) × (steps_by nodes left ≡ CheckStep ∷ behind)

  pub stopped_at_check : (step : NumberedStep) (behind : List NumberedStep) → StopsAt (steps_by nodes (step ∷ behind)) → step_by nodes step ≡ CheckStep
  stopped_at_check step behind stops = by (step_by nodes step) (steps_by nodes behind) stops
    where
      by : (s : PlainStep) (ss : List PlainStep) → StopsAt (s ∷ ss) → s ≡ CheckStep
      by CheckStep ss h = refl
      by (AssertStep ts) ss h = absurd h
      by PushStep ss h = absurd h
      by PopStep ss h = absurd h

  module _ (encoder : Encoder (Unit {0})) (step : NumberedStep) (behind : List NumberedStep) (b : IsBetween enums nodes steps encoder (step ∷ behind)) (is : step_by nodes step ≡ CheckStep) where
    -- the check itself is done
    pub between_behind_check : IsBetween enums nodes steps encoder behind
    between_behind_check = record {
      same_nodes = b.same_nodes;
      same_enums = b.same_enums;
      unspent = b.unspent;
      stand = (and_parts (step_stands nodes step) (all_steps_stand nodes behind) b.stand).1;
      done = b.done ++ CheckStep ∷ [];
      cut = b.cut ∙ ap (λ (s : PlainStep). b.done ++ s ∷ steps_by nodes behind) is ∙ sym (append_assoc b.done (CheckStep ∷ []) (steps_by nodes behind));
      faultless = faultless_joined enums b.done (CheckStep ∷ []) b.faultless refl;
      stands = subst (HasEncoding encoder) (ap encoding_of (sym (stages_then enums b.done (CheckStep ∷ []) new_stages))) b.stands;
    }

  -- ---- refusals

  pub left_balanced : (encoder : Encoder (Unit {0})) (left : List NumberedStep) (b : IsBetween enums nodes steps encoder left) → AreBalanced 0 (steps_by nodes steps) → AreBalanced (length (stages_behind enums b.done new_stages).below) (steps_by (nodes_in encoder) left)
  left_balanced encoder left b balanced =
      subst (λ (n : Interner). AreBalanced (length (stages_behind enums b.done new_stages).below) (steps_by n left)) (sym b.same_nodes)
      (balanced_behind enums b.done (steps_by nodes left) new_stages (subst (AreBalanced 0) b.cut balanced))

  -- the first fault of the steps that are left is that of all steps
  pub fault_left : (encoder : Encoder (Unit {0})) (left : List NumberedStep) (b : IsBetween enums nodes steps encoder left) (f : Fault) → first_fault (enums_in encoder) (asserted (steps_by (nodes_in encoder) left)) ≡ Some f → first_fault enums (asserted (steps_by nodes steps)) ≡ Some f
  fault_left encoder left b f h =
      ap (λ (ss : List PlainStep). first_fault enums (asserted ss)) (b.cut ∙ ap (λ (ss : List PlainStep). b.done ++ ss) (sym (append-nil (steps_by nodes left))))
      ∙ fault_within enums f b.done (steps_by nodes left) [] b.faultless
      (ap (λ (e : Enums). first_fault e (asserted (steps_by nodes left))) (sym b.same_enums) ∙ ap (λ (n : Interner). first_fault (enums_in encoder) (asserted (steps_by n left))) (sym b.same_nodes) ∙ h)

  pub cause_left : {T U : Type 0} (encoder : Encoder (Unit {0})) (left : List NumberedStep) (b : IsBetween enums nodes steps encoder left) (first between after : ℕ) (r : Result T EncodeError) (s : Result U EncodeError) (e : EncodeError) → first ≤ between → r ≡ Err e → s ≡ Err e
      → HasCause between after (first_fault (enums_in encoder) (asserted (steps_by (nodes_in encoder) left))) r → HasCause first after (first_fault enums (asserted (steps_by nodes steps))) s
  cause_left encoder left b first between after r s e le was is h =
      cause_of_more first between after (first_fault (enums_in encoder) (asserted (steps_by (nodes_in encoder) left))) (first_fault enums (asserted (steps_by nodes steps))) r s e le (fault_left encoder left b) was is h

-- ---- what an outcome says

-- what was put, where the outcome is these steps that are left
pub piece_at : {E : Type 0} (enums : Enums) (nodes : Interner) (held now : Option (List ℕ)) (after : Encoder (Unit {0})) (x : Stages) (steps : List NumberedStep) (outcome : Result (Bor (List NumberedStep)) E) (found : Bor (List NumberedStep)) (left : List NumberedStep) → outcome ≡ Ok found → found.now ≡ left
    → IfOk outcome (λ l. PutsPiece enums held now after x (steps_by nodes steps) (steps_by nodes l.now)) → PutsPiece enums held now after x (steps_by nodes steps) (steps_by nodes left)
piece_at enums nodes held now after x steps outcome found left was is p =
    subst (λ (b : List NumberedStep). PutsPiece enums held now after x (steps_by nodes steps) (steps_by nodes b)) is
    (subst (λ (o : Result (Bor (List NumberedStep)) _). IfOk o (λ l. PutsPiece enums held now after x (steps_by nodes steps) (steps_by nodes l.now))) was p)

pub stand_at : {E : Type 0} (nodes : Interner) (outcome : Result (Bor (List NumberedStep)) E) (found : Bor (List NumberedStep)) (left : List NumberedStep) → outcome ≡ Ok found → found.now ≡ left → IfOk outcome (λ l. IsTrue (all_steps_stand nodes l.now)) → IsTrue (all_steps_stand nodes left)
stand_at nodes outcome found left was is h =
    subst (λ (l : List NumberedStep). IsTrue (all_steps_stand nodes l)) is (subst (λ (o : Result (Bor (List NumberedStep)) _). IfOk o (λ l. IsTrue (all_steps_stand nodes l.now))) was h)

pub none_left : (left : List NumberedStep) → length left ≡ zero → left ≡ []
none_left [] h = refl
none_left (s ∷ left) h = cc

-- ---- the script onto one sink

-- the sink, which held something before the first step, got the text of the steps that are done
pub record IsUnderway (enums : Enums) (nodes : Interner) (steps : List NumberedStep) (encoder : Encoder (Unit {0})) (left : List NumberedStep) (held now : Option (List ℕ)) (first faults : ℕ) : Type 0 where
  pub between : IsBetween enums nodes steps encoder left
  pub got : now ≡ append_known held (text_of_job enums between.done)
  pub later : first ≤ faults

module _ (enums : Enums) (nodes : Interner) (steps : List NumberedStep) (held : Option (List ℕ)) (first : ℕ) where
  pub underway_from : (encoder : Encoder (Unit {0})) → nodes_in encoder ≡ nodes → enums_in encoder ≡ enums → is_spent encoder ≡ false → IsTrue (all_steps_stand nodes steps) → HasEncoding encoder fresh → IsUnderway enums nodes steps encoder steps held held first first
  unfolding between_from
  underway_from encoder same_nodes same_enums unspent stand stands = record {
    between = between_from enums nodes steps encoder same_nodes same_enums unspent stand stands;
    got = sym (known_nothing held);
    later = omega arith;
  }

  -- the text of a piece, and the line of a check, are behind what was got
  module _ (before after : Encoder (Unit {0})) (left : List NumberedStep) (step : NumberedStep) (behind : List NumberedStep) (now next last : Option (List ℕ)) (f g h : ℕ) (u : IsUnderway enums nodes steps before left held now first f) where
    pub underway_then : nodes_in after ≡ nodes_in before → enums_in after ≡ enums_in before → is_spent after ≡ false → IsTrue (all_steps_stand (nodes_in before) (step ∷ behind))
        → PutsPiece (enums_in before) now next after (stages_behind enums u.between.done new_stages) (steps_by (nodes_in before) left) (steps_by (nodes_in before) (step ∷ behind)) → f ≤ g → last ≡ append_known next check_sat_text → g ≤ h
        → IsUnderway enums nodes steps after behind held last first h
    unfolding between_behind_check between_then
    underway_then same_nodes same_enums unspent stand piece le put le' =
        let p = next_piece enums nodes steps before after left (step ∷ behind) u.between now next piece in
        let b = between_then enums nodes steps before after left (step ∷ behind) u.between now next same_nodes same_enums unspent stand p in
        let is = stopped_at_check enums nodes steps step behind p.stops in
        record {
          between = between_behind_check enums nodes steps after step behind b is;
          got =
              put
              ∙ ap (λ (o : Option (List ℕ)). append_known o check_sat_text) (p.got ∙ ap (λ (o : Option (List ℕ)). append_known o (text_behind enums p.written (stages_behind enums u.between.done new_stages))) u.got)
              ∙ ap (λ (o : Option (List ℕ)). append_known o check_sat_text) (known_twice held (text_of_job enums u.between.done) (text_behind enums p.written (stages_behind enums u.between.done new_stages)) ∙ ap (append_known held) (sym (text_then enums u.between.done p.written new_stages)))
              ∙ known_twice held (text_of_job enums (u.between.done ++ p.written)) check_sat_text
              ∙ ap (append_known held) (sym (text_then enums (u.between.done ++ p.written) (CheckStep ∷ []) new_stages ∙ ap (λ (t : List ℕ). text_of_job enums (u.between.done ++ p.written) ++ t) (append-nil check_sat_text)));
          later = let l = u.later in omega (arith, l, le, le');
        }

  -- fewer steps are left behind a piece and its check
  pub fewer_left : (before after : Encoder (Unit {0})) (left : List NumberedStep) (step : NumberedStep) (behind : List NumberedStep) (n : Interner) (x : Stages) (now next : Option (List ℕ)) → PutsPiece (enums_in before) now next after x (steps_by n left) (steps_by n (step ∷ behind)) → suc (length behind) ≤ length left
  fewer_left before after left step behind n x now next p =
      let all : length left ≡ length (p.written ++ steps_by n (step ∷ behind)) = sym (length-map left (step_by n)) ∙ ap length p.cut in
      let parts : length (p.written ++ steps_by n (step ∷ behind)) ≡ length p.written + length (steps_by n (step ∷ behind)) = length-append p.written (steps_by n (step ∷ behind)) in
      let same : length (steps_by n (step ∷ behind)) ≡ suc (length behind) = length-map (step ∷ behind) (step_by n) in
      omega (arith, all, parts, same)

  -- no step is left behind the last piece
  pub all_put : (before after : Encoder (Unit {0})) (left none : List NumberedStep) (now next : Option (List ℕ)) (f : ℕ) (u : IsUnderway enums nodes steps before left held now first f) → none ≡ []
      → PutsPiece (enums_in before) now next after (stages_behind enums u.between.done new_stages) (steps_by (nodes_in before) left) (steps_by (nodes_in before) none) → PutsSteps enums held next (steps_by nodes steps)
  all_put before after left none now next f u is piece =
      let p = next_piece enums nodes steps before after left none u.between now next piece in
      let all : steps_by nodes steps ≡ u.between.done ++ p.written =
      u.between.cut ∙ ap (λ (ss : List PlainStep). u.between.done ++ ss) (p.cut ∙ ap (λ (l : List NumberedStep). p.written ++ steps_by nodes l) is ∙ append-nil p.written) in
      record {
        faultless = ap (λ (ss : List PlainStep). first_fault enums (asserted ss)) all ∙ faultless_joined enums u.between.done p.written u.between.faultless p.faultless;
        got =
            p.got
            ∙ ap (λ (o : Option (List ℕ)). append_known o (text_behind enums p.written (stages_behind enums u.between.done new_stages))) u.got
            ∙ known_twice held (text_of_job enums u.between.done) (text_behind enums p.written (stages_behind enums u.between.done new_stages))
            ∙ ap (append_known held) (sym (text_then enums u.between.done p.written new_stages) ∙ ap (text_of_job enums) (sym all));
      }
