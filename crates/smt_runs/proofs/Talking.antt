-- A solver that is asked by the steps of a job, check by check.
use Rattle.std.proofs.Common.{◌≡◌, ◌≤◌, ◌+◌, ◌==◌, ℕ, suc, true, false, IsTrue, List, [], ◌∷◌, ◌++◌, Option, Some, None, Ok, Err, Result, length, refl, sym, ap, ◌∙◌, subst, inl, inr, append_assoc, append-nil, arith}
use Rattle.std.proofs.lemmas.Bool.{and_parts}
use Rattle.std.proofs.lemmas.List.{length-append, length-map}
use Rattle.std.specs.Borrow.{Bor}
use Rattle.std.specs.Io.KnownBytes.{append_known}
use Rattle.std.specs.Prelude.{IfErr, IfOk}
use Rattle.smt_script.specs.CommandTexts.{check_sat_text}
use Rattle.smt_script.specs.Memory.{list_bytes}
use Rattle.smt_script.specs.declared.memory.ListSink.{ListSink}
use Rattle.law_texts.proofs.Blanks.{empty_from}
use Rattle.law_terms.specs.Faults.{Fault, first_fault}
use Rattle.law_terms.specs.TypeValues.{Enums}
use Rattle.law_theorem.specs.Fits.{Stages, encoding_of, new_stages}
use Rattle.law_jobs.specs.Steps.{PlainStep, AreBalanced, AssertStep, CheckStep, PopStep, PushStep, asserted}
use Rattle.smt_runs.specs.Asked.{AreAsked}
use Rattle.smt_runs.specs.JobTexts.{stages_behind, text_behind}
use Rattle.smt_runs.proofs.Asking.{asked_nothing, asked_then}
use Rattle.smt_runs.proofs.Behind.{balanced_behind, fault_within, faultless_joined, stages_then}
use Rattle.smt_script.specs.Sink.{AppendsPart, Rose}
use Rattle.smt_solve.specs.Link.{AllowsOnly, AllowsTheSame, LinkState}
use Rattle.smt_solve.specs.Question.{BeginsExchange}
use Rattle.smt_solve.specs.declared.answer.Decision.{Decision}
use Rattle.law_verdicts.specs.Dialogues.{AnsweredCheck, GaveAllowed, HasAnswered}
use Rattle.smt_solve.specs.Session.{session_failed, session_link, state_by}
use Rattle.smt_solve.specs.declared.session.LocalSolver.{LocalSolver}
use Rattle.smt_encode.specs.Encoded.{enums_in, is_spent, nodes_in, HasEncoding}
use Rattle.smt_nodes.specs.declared.interner.Interner.{Interner}
use Rattle.smt_jobs.specs.Numbers.{all_steps_stand, step_by, step_stands, steps_by}
use Rattle.smt_jobs.specs.declared.numbered.NumberedStep.{NumberedStep}
use Rattle.smt_encode.specs.declared.encoder.Encoder.{Encoder}
use Rattle.smt_pool.specs.Dialogue.{StaysAllowed, TakesMore, WhyUnsent, with_check}
use Rattle.smt_pool.specs.declared.check_error.CheckError.{CheckError}
use Rattle.smt_pool.specs.declared.check_error.CheckError.TheVariants.{Start as NoStart, Session as NoSession, Memory as CheckWant}
use Rattle.smt_runs.specs.Asking.{AskedSoFar, AsksAll, HasAtLeastAnswered, PutsWords, SpokeInPart, StopsAsking, verdict_line, words_of}
use Rattle.smt_runs.specs.Jobs.{HasPrintCause, IsFaultOf}
use Rattle.smt_runs.specs.Pieces.{PutsPiece, StopsAt}
use Rattle.smt_runs.specs.Progress.{AtPiece}
use Rattle.smt_runs.specs.Refusal.{check_refusal}
use Rattle.smt_runs.specs.Speaking.{SpeaksInPart, SpeaksNext, StopsSpeaking}
use Rattle.smt_runs.specs.declared.refusal.Refusal.{Refusal}
use Rattle.smt_runs.specs.declared.refusal.Refusal.TheVariants.{Encode, Sink, Start, Session, Memory}
use Rattle.smt_runs.specs.declared.refusal.EncodeRefusal.{EncodeRefusal}
use Rattle.smt_runs.specs.declared.refusal.EncodeRefusal.TheVariants.{EmptyEnum, EncodeStringFailed, EncodePatternFailed, EnumMissingMember, ExpectRecord, MalformedRecordGet, MissingTypeEncoding, RecordMissingAttr}
use Rattle.smt_runs.proofs.AtLeast.{at_least_behind, at_least_now, at_least_too, gave_too}
use Rattle.smt_runs.proofs.Loop.{known_nothing, known_twice}

-- ---- words

pub words_then : (cs ds : List AnsweredCheck) → words_of (cs ++ ds) ≡ words_of cs ++ words_of ds
words_then [] ds = refl
words_then (c ∷ cs) ds = ap (λ (t : List ℕ). verdict_line c.decision ++ t) (words_then cs ds) ∙ sym (append_assoc (verdict_line c.decision) (words_of cs) (words_of ds))

-- one word more
pub one_word : (held now next : Option (List ℕ)) (checks : List AnsweredCheck) (lines answer : List ℕ) (d : Decision) → now ≡ append_known held (words_of checks) → next ≡ append_known now (verdict_line d) → next ≡ append_known held (words_of (with_check checks lines answer d))
one_word held now next checks lines answer d was put =
    put ∙ ap (λ (o : Option (List ℕ)). append_known o (verdict_line d)) was ∙ known_twice held (words_of checks) (verdict_line d)
    ∙ ap (append_known held) (ap (λ (t : List ℕ). words_of checks ++ t) (sym (append-nil (verdict_line d))) ∙ sym (words_then checks ((record { lines = lines; answer = answer; decision = d }) ∷ [])))

-- all words, and none in part
pub all_words : (held now : Option (List ℕ)) (checks : List AnsweredCheck) → now ≡ append_known held (words_of checks) → PutsWords held now checks
all_words held now checks put = record {
  earlier = checks;
  later = [];
  cut = sym (append-nil checks);
  one = omega arith;
  part = record { part = []; rest = []; whole = refl; appended = put ∙ sym (known_nothing (append_known held (words_of checks))) };
}

-- the last word in part
last_word : (held now next : Option (List ℕ)) (checks : List AnsweredCheck) (lines answer : List ℕ) (d : Decision) → now ≡ append_known held (words_of checks) → AppendsPart now next (verdict_line d) → PutsWords held next (with_check checks lines answer d)
last_word held now next checks lines answer d was p = record {
  earlier = checks;
  later = (record { lines = lines; answer = answer; decision = d }) ∷ [];
  cut = refl;
  one = omega arith;
  part = record { part = p.part; rest = p.rest; whole = p.whole ∙ sym (append-nil (verdict_line d)); appended = p.appended ∙ ap (λ (o : Option (List ℕ)). append_known o p.part) was };
}

-- ---- what is said by what a link allows

-- why a solver was not asked, by what another relation allows too
pub stops_too : (enums : Enums) (steps : List PlainStep) (held now : Option (List ℕ)) (failed : Type 0) (first second : List ℕ → List ℕ → List ℕ → Type 0) (only : AllowsOnly first second) (s : LinkState) (r : Refusal) → StopsAsking enums steps held now failed first s r → StopsAsking enums steps held now failed second s r
stops_too enums steps held now failed first second only s (Encode kind) h =
    (h.0, record { checks = h.1.checks; rest = h.1.rest; answered = h.1.answered; gave = gave_too first second only s h.1.checks h.1.gave; put = h.1.put })
stops_too enums steps held now failed first second only s Sink h =
    (h.0, record { checks = h.1.checks; rest = h.1.rest; answered = h.1.answered; gave = gave_too first second only s h.1.checks h.1.gave; put = h.1.put })
stops_too enums steps held now failed first second only s (Session kind) h =
    record { checks = h.checks; lines = h.lines; so_far = h.so_far; answered = at_least_too first second only s h.checks h.answered; why = h.why; put = h.put }
stops_too enums steps held now failed first second only s Memory h = record { checks = h.checks; answered = at_least_too first second only s h.checks h.answered; put = h.put }
stops_too enums steps held now failed first second only s r h = absurd h

-- ---- faults of a kind

-- a fault of a kind is one of another that is the same
pub kind_moved : (kind : EncodeRefusal) (f g : Option Fault) → ((x : Fault) → f ≡ Some x → g ≡ Some x) → IsFaultOf kind f → IsFaultOf kind g
kind_moved EnumMissingMember f g more h = (h.0, h.1, more _ h.2)
kind_moved EncodeStringFailed f g more h = (h.0, more _ h.1)
kind_moved EncodePatternFailed f g more h = (h.0, more _ h.1)
kind_moved EmptyEnum f g more h = (h.0, more _ h.1)
kind_moved MalformedRecordGet f g more h = more _ h
kind_moved MissingTypeEncoding f g more h = (h.0, more _ h.1)
kind_moved ExpectRecord f g more h = (h.0, more _ h.1)
kind_moved RecordMissingAttr f g more h = (h.0, more _ h.1)

-- ---- the dialogue

-- The steps before those that are left were asked; of each check the word was put.
pub record IsTalking (enums : Enums) (encoder : Encoder (Unit {0})) (steps left : List PlainStep) (lines : List ℕ) (allows : List ℕ → List ℕ → List ℕ → Type 0) (s : LinkState) (held now : Option (List ℕ)) : Type 0 where
  pub checks : List AnsweredCheck
  pub at : AtPiece enums encoder steps left checks lines
  pub answered : HasAnswered s checks []
  pub gave : GaveAllowed allows s checks
  pub put : now ≡ append_known held (words_of checks)

first_is_check : (s : PlainStep) (left : List PlainStep) → StopsAt (s ∷ left) → s ≡ CheckStep
first_is_check CheckStep left h = refl
first_is_check (AssertStep ts) left h = absurd h
first_is_check PushStep left h = absurd h
first_is_check PopStep left h = absurd h

module _ (enums : Enums) (steps : List PlainStep) where
  pub talking_from : (encoder : Encoder (Unit {0})) (left : List PlainStep) (lines : List ℕ) (allows : List ℕ → List ℕ → List ℕ → Type 0) (s : LinkState) (held : Option (List ℕ)) → AtPiece enums encoder steps left [] lines → HasAnswered s [] [] → GaveAllowed allows s [] → IsTalking enums encoder steps left lines allows s held held
  talking_from encoder left lines allows s held at answered gave = record { checks = []; at = at; answered = answered; gave = gave; put = sym (known_nothing held) }

  so_far : (encoder : Encoder (Unit {0})) (left : List PlainStep) (checks : List AnsweredCheck) (lines : List ℕ) → AtPiece enums encoder steps left checks lines → AskedSoFar enums steps checks lines
  so_far encoder left checks lines at = record { done = at.done; left = left; cut = at.cut; stops = at.stops; faultless = at.faultless; asked = at.asked }

  module _ (before : Encoder (Unit {0})) (check : PlainStep) (behind : List PlainStep) (checks : List AnsweredCheck) (lines : List ℕ) (at : AtPiece enums before steps (check ∷ behind) checks lines) where
    abbrev done_too : List PlainStep
    done_too = at.done ++ CheckStep ∷ []

    cut_too : steps ≡ done_too ++ behind
    cut_too = at.cut ∙ ap (λ (s : PlainStep). at.done ++ s ∷ behind) (first_is_check check behind at.stops) ∙ sym (append_assoc at.done (CheckStep ∷ []) behind)

    -- what the next piece goes on from
    pub stands_behind_check : HasEncoding before (encoding_of (stages_behind enums done_too new_stages))
    stands_behind_check = subst (HasEncoding before) (ap encoding_of (sym (stages_then enums at.done (CheckStep ∷ []) new_stages))) at.stands

    pub balanced_behind_check : AreBalanced (length (stages_behind enums done_too new_stages).below) behind
    balanced_behind_check = balanced_behind enums done_too behind new_stages (subst (AreBalanced 0) cut_too at.balanced)

    pub faultless_too : first_fault enums (asserted done_too) ≡ None
    faultless_too = faultless_joined enums at.done (CheckStep ∷ []) at.faultless refl

    -- the first fault behind the check is that of all steps
    pub fault_behind_check : (f : Fault) → first_fault enums (asserted behind) ≡ Some f → first_fault enums (asserted steps) ≡ Some f
    fault_behind_check f h =
        ap (λ (ss : List PlainStep). first_fault enums (asserted ss)) (cut_too ∙ ap (λ (ss : List PlainStep). done_too ++ ss) (sym (append-nil behind)))
        ∙ fault_within enums f done_too behind [] faultless_too h

    -- the next piece was made
    pub at_next : (after : Encoder (Unit {0})) (left : List PlainStep) (more : List ℕ) (answer : List ℕ) (d : Decision) → PutsPiece enums (Some []) (Some more) after (stages_behind enums done_too new_stages) behind left → AtPiece enums after steps left (with_check checks lines answer d) more
    at_next after left more answer d p = record {
      done = done_too ++ p.written;
      cut = cut_too ∙ ap (λ (ss : List PlainStep). done_too ++ ss) p.cut ∙ sym (append_assoc done_too p.written left);
      stops = p.stops;
      faultless = faultless_joined enums done_too p.written faultless_too p.faultless;
      asked =
          subst (λ (cs : List AnsweredCheck). AreAsked enums (done_too ++ p.written) new_stages [] cs more) (append-nil (with_check checks lines answer d))
          (asked_then enums done_too p.written new_stages [] (with_check checks lines answer d) [] [] more
          (asked_then enums at.done (CheckStep ∷ []) new_stages [] checks ((record { lines = lines; answer = answer; decision = d }) ∷ []) lines [] at.asked (refl, refl))
          (subst (λ (t : List ℕ). AreAsked enums p.written (stages_behind enums done_too new_stages) [] [] t) (sym (text_is p.got)) (asked_nothing enums p.written (stages_behind enums done_too new_stages) [] p.silent)));
      stands = subst (HasEncoding after) (ap encoding_of (sym (stages_then enums done_too p.written new_stages))) p.stands;
      balanced = at.balanced;
    }
      where
        text_is : Some more ≡ append_known (Some []) (text_behind enums p.written (stages_behind enums done_too new_stages)) → more ≡ text_behind enums p.written (stages_behind enums done_too new_stages)
        text_is e = cc

  module _ (encoder : Encoder (Unit {0})) (left : List PlainStep) (lines : List ℕ) (allows : List ℕ → List ℕ → List ℕ → Type 0) (held : Option (List ℕ)) where
    -- a first part of a check's word was put
    stops_in_word : (old new : LinkState) (now next : Option (List ℕ)) (t : IsTalking enums encoder steps left lines allows old held now) → SpeaksInPart allows old new now next lines → SpokeInPart allows new held next
    stops_in_word old new now next t h =
        let w = h t.checks [] t.answered t.gave in
        record { checks = with_check t.checks lines w.0 w.1; rest = []; answered = w.2; gave = w.3; put = last_word held now next t.checks lines w.0 w.1 t.put w.4 }

    -- a check's word was not put
    pub stops_at_word : (old new : LinkState) (now next : Option (List ℕ)) (part whole : Type 0) (r : Refusal) (t : IsTalking enums encoder steps left lines allows old held now) → (part → whole)
        → StopsSpeaking allows old new now next part lines r → StopsAsking enums steps held next whole allows new r
    stops_at_word old new now next part whole Sink t rose h = (rose h.0, stops_in_word old new now next t h.1)
    stops_at_word old new now next part whole Start t rose h = absurd (h t.checks [] t.answered)
    stops_at_word old new now next part whole (Session kind) t rose h = record {
      checks = t.checks;
      lines = lines;
      so_far = so_far encoder left t.checks lines t.at;
      answered = at_least_behind allows old new (lines ++ check_sat_text) t.checks [] h.1 t.answered t.gave;
      why = h.0 t.checks [] t.answered;
      put = h.2 ∙ t.put;
    }
    stops_at_word old new now next part whole Memory t rose (inl h) = record {
      checks = t.checks;
      answered = at_least_behind allows old new (lines ++ check_sat_text) t.checks [] h.0 t.answered t.gave;
      put = all_words held next t.checks (h.1 ∙ t.put);
    }
    stops_at_word old new now next part whole Memory t rose (inr h) =
        let s = stops_in_word old new now next t h in
        record { checks = s.checks; answered = at_least_now allows new s.checks s.rest s.answered s.gave; put = s.put }
    stops_at_word old new now next part whole r t rose h = absurd h

    -- lines were not sent
    pub stops_sending : (s : LinkState) (now : Option (List ℕ)) (failed : Type 0) (checks : List AnsweredCheck) (at : AtPiece enums encoder steps left checks lines) (e : CheckError) → HasAtLeastAnswered allows s checks → now ≡ append_known held (words_of checks) → WhyUnsent s e
        → StopsAsking enums steps held now failed allows s (check_refusal e)
    stops_sending s now failed checks at NoStart answered put h = absurd h
    stops_sending s now failed checks at (NoSession kind) answered put h = record { checks = checks; lines = lines; so_far = so_far encoder left checks lines at; answered = answered; why = inr h; put = put }
    stops_sending s now failed checks at CheckWant answered put h = record { checks = checks; answered = answered; put = all_words held now checks put }

    -- all steps were asked, and nothing stands behind the last check
    pub asked_all : (s : LinkState) (now : Option (List ℕ)) (checks : List AnsweredCheck) (at : AtPiece enums encoder steps left checks lines) → left ≡ [] → HasAnswered s checks lines → GaveAllowed allows s checks → now ≡ append_known held (words_of checks) → AsksAll enums steps held now allows s checks lines
    asked_all s now checks at none answered gave put =
        let all : steps ≡ at.done = at.cut ∙ ap (λ (ss : List PlainStep). at.done ++ ss) none ∙ append-nil at.done in
        record {
          faultless = ap (λ (ss : List PlainStep). first_fault enums (asserted ss)) all ∙ at.faultless;
          asked = subst (λ (ss : List PlainStep). AreAsked enums ss new_stages [] checks lines) (sym all) at.asked;
          answered = answered;
          gave = gave;
          put = put;
        }

  -- the next lines were not made
  pub stops_writing : (held now : Option (List ℕ)) (failed : Type 0) (allows : List ℕ → List ℕ → List ℕ → Type 0) (s : LinkState) (checks : List AnsweredCheck) (fault : Option Fault) (why : Refusal) → ((f : Fault) → fault ≡ Some f → first_fault enums (asserted steps) ≡ Some f) → HasAnswered s checks [] → GaveAllowed allows s checks
      → now ≡ append_known held (words_of checks) → HasPrintCause fault ⊥ why → StopsAsking enums steps held now failed allows s why
  stops_writing held now failed allows s checks fault (Encode kind) more answered gave put h = (kind_moved kind fault (first_fault enums (asserted steps)) more h, record { checks = checks; rest = []; answered = answered; gave = gave; put = put })
  stops_writing held now failed allows s checks fault Memory more answered gave put h = record { checks = checks; answered = at_least_now allows s checks [] answered gave; put = all_words held now checks put }
  stops_writing held now failed allows s checks fault why more answered gave put h = absurd h

-- ---- the loop

-- what the loop over the checks keeps, from what its function was given
pub record IsUnderway {S K : Type 0} (state : K → LinkState) (allows : K → List ℕ → List ℕ → List ℕ → Type 0) (contents : S → Option (List ℕ)) (faults : S → ℕ) (first encoder : Encoder (Unit {0})) (left0 left : List NumberedStep) (lines0 lines : List ℕ) (session0 session : LocalSolver K) (out0 out : S) : Type 0 where
  pub same_nodes : nodes_in encoder ≡ nodes_in first
  pub same_enums : enums_in encoder ≡ enums_in first
  pub unspent : is_spent encoder ≡ false
  pub stand : IsTrue (all_steps_stand (nodes_in first) left)
  pub unfailed : session_failed session ≡ false
  pub same_allows : AllowsTheSame (allows (session_link session0)) (allows (session_link session))
  pub later : faults out0 ≤ faults out
  pub talks : (steps : List PlainStep) → AtPiece (enums_in first) first steps (steps_by (nodes_in first) left0) [] lines0
      → IsTalking (enums_in first) encoder steps (steps_by (nodes_in first) left) lines (allows (session_link session0)) (state_by state session) (contents out0) (contents out)

module _ {S K : Type 0} (state : K → LinkState) (allows : K → List ℕ → List ℕ → List ℕ → Type 0) (contents : S → Option (List ℕ)) (faults : S → ℕ) (first : Encoder (Unit {0})) (left0 : List NumberedStep) (lines0 : List ℕ) (session0 : LocalSolver K) (out0 : S) where
  abbrev StartsAt : List PlainStep → Type 0
  StartsAt steps = AtPiece (enums_in first) first steps (steps_by (nodes_in first) left0) [] lines0

  module _ (encoder : Encoder (Unit {0})) (left : List NumberedStep) (lines : List ℕ) (session : LocalSolver K) (out : S) (u : IsUnderway state allows contents faults first encoder left0 left lines0 lines session0 session out0 out) where
    -- the dialogue by what the session's link allows now
    abbrev talks_here : (steps : List PlainStep) → StartsAt steps → IsTalking (enums_in first) encoder steps (steps_by (nodes_in first) left) lines (allows (session_link session)) (state_by state session) (contents out0) (contents out)
    talks_here steps start =
        let t = u.talks steps start in
        record { checks = t.checks; at = t.at; answered = t.answered; gave = gave_too (allows (session_link session0)) (allows (session_link session)) u.same_allows.there (state_by state session) t.checks t.gave; put = t.put }

    pub word_refused : (steps : List PlainStep) → StartsAt steps → (new : LinkState) (next : Option (List ℕ)) (after : ℕ) (bytes : List ℕ) (r : Refusal) → bytes ≡ lines
        → StopsSpeaking (allows (session_link session)) (state_by state session) new (contents out) next (Rose (faults out) after) bytes r → StopsAsking (enums_in first) steps (contents out0) next (Rose (faults out0) after) (allows (session_link session0)) new r
    word_refused steps start new next after bytes r same h =
        stops_too (enums_in first) steps (contents out0) next (Rose (faults out0) after) (allows (session_link session)) (allows (session_link session0)) u.same_allows.back new r
        (stops_at_word (enums_in first) steps encoder (steps_by (nodes_in first) left) lines (allows (session_link session)) (contents out0) (state_by state session) new (contents out) next (Rose (faults out) after) (Rose (faults out0) after) r (talks_here steps start)
        (λ rose. (let later = u.later in omega (arith, rose, later)))
        (subst (λ (l : List ℕ). StopsSpeaking (allows (session_link session)) (state_by state session) new (contents out) next (Rose (faults out) after) l r) same h))

    module _ (step : NumberedStep) (behind : List NumberedStep) (is : left ≡ step ∷ behind) where
      abbrev here : PlainStep
      here = step_by (nodes_in first) step

      abbrev rest_of_steps : List PlainStep
      rest_of_steps = steps_by (nodes_in first) behind

      -- the steps that are left begin with the check
      at_check : (steps : List PlainStep) (start : StartsAt steps) → AtPiece (enums_in first) encoder steps (here ∷ rest_of_steps) (u.talks steps start).checks lines
      at_check steps start = subst (λ (l : List NumberedStep). AtPiece (enums_in first) encoder steps (steps_by (nodes_in first) l) (u.talks steps start).checks lines) is (u.talks steps start).at

      pub behind_stand : IsTrue (all_steps_stand (nodes_in encoder) behind)
      behind_stand =
          subst (λ (n : Interner). IsTrue (all_steps_stand n behind)) (sym u.same_nodes)
          (and_parts (step_stands (nodes_in first) step) (all_steps_stand (nodes_in first) behind) (subst (λ (l : List NumberedStep). IsTrue (all_steps_stand (nodes_in first) l)) is u.stand)).1

      pub behind_balanced : (steps : List PlainStep) → StartsAt steps → (x : Stages) × HasEncoding encoder (encoding_of x) × AreBalanced (length x.below) (steps_by (nodes_in encoder) behind)
      behind_balanced steps start =
          let at = at_check steps start in
          let checks = (u.talks steps start).checks in (
            stages_behind (enums_in first) (at.done ++ CheckStep ∷ []) new_stages,
            stands_behind_check (enums_in first) steps encoder here rest_of_steps checks lines at,
            subst (λ (n : Interner). AreBalanced (length (stages_behind (enums_in first) (at.done ++ CheckStep ∷ []) new_stages).below) (steps_by n behind)) (sym u.same_nodes) (balanced_behind_check (enums_in first) steps encoder here rest_of_steps checks lines at),
          )

      module _ (session1 : LocalSolver K) (out1 : S) (bytes : List ℕ) (same : bytes ≡ lines) (spoke : SpeaksNext (allows (session_link session)) (state_by state session) (state_by state session1) (contents out) (contents out1) bytes) where
        -- what was said at the check
        said : (steps : List PlainStep) (start : StartsAt steps) → (answer : List ℕ) × (d : Decision) × HasAnswered (state_by state session1) (with_check (u.talks steps start).checks lines answer d) []
            × GaveAllowed (allows (session_link session)) (state_by state session1) (with_check (u.talks steps start).checks lines answer d) × (contents out1 ≡ append_known (contents out) (verdict_line d))
        said steps start =
            let t = talks_here steps start in
            subst (λ (l : List ℕ). SpeaksNext (allows (session_link session)) (state_by state session) (state_by state session1) (contents out) (contents out1) l) same spoke t.checks [] t.answered t.gave

        pub piece_refused : (steps : List PlainStep) → StartsAt steps → (failed : Type 0) (why : Refusal) → HasPrintCause (first_fault (enums_in encoder) (asserted (steps_by (nodes_in encoder) behind))) ⊥ why → StopsAsking (enums_in first) steps (contents out0) (contents out1) failed (allows (session_link session0)) (state_by state session1) why
        piece_refused steps start failed why h =
            let at = at_check steps start in
            let checks = (u.talks steps start).checks in
            let w = said steps start in
            stops_writing (enums_in first) steps (contents out0) (contents out1) failed (allows (session_link session0)) (state_by state session1) (with_check checks lines w.0 w.1) (first_fault (enums_in encoder) (asserted (steps_by (nodes_in encoder) behind))) why
            (λ f e. fault_behind_check (enums_in first) steps encoder here rest_of_steps checks lines at f
            (ap (λ (n : Enums). first_fault n (asserted rest_of_steps)) (sym u.same_enums) ∙ ap (λ (n : Interner). first_fault (enums_in encoder) (asserted (steps_by n behind))) (sym u.same_nodes) ∙ e))
            w.2 (gave_too (allows (session_link session)) (allows (session_link session0)) u.same_allows.back (state_by state session1) (with_check checks lines w.0 w.1) w.3) (one_word (contents out0) (contents out) (contents out1) checks lines w.0 w.1 (u.talks steps start).put w.4) h

        module _ (next : Encoder (Unit {0})) (later : List NumberedStep) (more : List ℕ) where
          abbrev PieceIs : Stages → Type 0
          PieceIs x = PutsPiece (enums_in encoder) (Some []) (Some more) next x (steps_by (nodes_in encoder) behind) (steps_by (nodes_in encoder) later)

          piece_here : (x : Stages) → PieceIs x → PutsPiece (enums_in first) (Some []) (Some more) next x rest_of_steps (steps_by (nodes_in first) later)
          piece_here x p =
              subst (λ (n : Enums). PutsPiece n (Some []) (Some more) next x rest_of_steps (steps_by (nodes_in first) later)) u.same_enums
              (subst (λ (n : Interner). PutsPiece (enums_in encoder) (Some []) (Some more) next x (steps_by n behind) (steps_by n later)) u.same_nodes p)

          pub fewer_steps : (x : Stages) → PieceIs x → suc (length later) ≤ length left
          fewer_steps x p =
              let all : length behind ≡ length (p.written ++ steps_by (nodes_in encoder) later) = sym (length-map behind (step_by (nodes_in encoder))) ∙ ap length p.cut in
              let parts : length (p.written ++ steps_by (nodes_in encoder) later) ≡ length p.written + length (steps_by (nodes_in encoder) later) = length-append p.written (steps_by (nodes_in encoder) later) in
              let few : length (steps_by (nodes_in encoder) later) ≡ length later = length-map later (step_by (nodes_in encoder)) in
              let whole : length left ≡ suc (length behind) = ap length is in
              omega (arith, all, parts, few, whole)

          pub underway_on : nodes_in next ≡ nodes_in encoder → enums_in next ≡ enums_in encoder → is_spent next ≡ false → IsTrue (all_steps_stand (nodes_in encoder) later) → session_failed session1 ≡ false → AllowsTheSame (allows (session_link session)) (allows (session_link session1)) → faults out ≤ faults out1
              → ((x : Stages) → HasEncoding encoder (encoding_of x) → PieceIs x) → IsUnderway state allows contents faults first next left0 later lines0 more session0 session1 out0 out1
          underway_on same_nodes same_enums unspent stand unfailed same_allows le puts = record {
            same_nodes = same_nodes ∙ u.same_nodes;
            same_enums = same_enums ∙ u.same_enums;
            unspent = unspent;
            stand = subst (λ (n : Interner). IsTrue (all_steps_stand n later)) u.same_nodes stand;
            unfailed = unfailed;
            same_allows = record { there = λ a b l h. same_allows.there a b l (u.same_allows.there a b l h); back = λ a b l h. u.same_allows.back a b l (same_allows.back a b l h) };
            later = let l = u.later in omega (arith, l, le);
            talks = λ steps start.
                let at = at_check steps start in
                let checks = (u.talks steps start).checks in
                let w = said steps start in
                let x = stages_behind (enums_in first) (at.done ++ CheckStep ∷ []) new_stages in
                record {
                  checks = with_check checks lines w.0 w.1;
                  at = at_next (enums_in first) steps encoder here rest_of_steps checks lines at next (steps_by (nodes_in first) later) more w.0 w.1 (piece_here x (puts x (stands_behind_check (enums_in first) steps encoder here rest_of_steps checks lines at)));
                  answered = w.2;
                  gave = gave_too (allows (session_link session)) (allows (session_link session0)) u.same_allows.back (state_by state session1) (with_check checks lines w.0 w.1) w.3;
                  put = one_word (contents out0) (contents out) (contents out1) checks lines w.0 w.1 (u.talks steps start).put w.4;
                };
          }

    -- the outcome of the next piece
    pub piece_at : {E : Type 0} (behind : List NumberedStep) (next : Encoder (Unit {0})) (x : Stages) (outcome : Result (ListSink × Bor (List NumberedStep)) E) (found : ListSink × Bor (List NumberedStep)) → outcome ≡ Ok found
        → IfOk outcome (λ p. PutsPiece (enums_in encoder) (Some []) (Some (list_bytes p.0)) next x (steps_by (nodes_in encoder) behind) (steps_by (nodes_in encoder) p.1.now))
        → PutsPiece (enums_in encoder) (Some []) (Some (list_bytes found.0)) next x (steps_by (nodes_in encoder) behind) (steps_by (nodes_in encoder) found.1.now)
    piece_at {E} behind next x outcome found was h = subst (λ (o : Result (ListSink × Bor (List NumberedStep)) E). IfOk o (λ p. PutsPiece (enums_in encoder) (Some []) (Some (list_bytes p.0)) next x (steps_by (nodes_in encoder) behind) (steps_by (nodes_in encoder) p.1.now))) was h

    -- ---- behind the last check

    pub none_sent : (steps : List PlainStep) (start : StartsAt steps) → left ≡ [] → lines ≡ [] → AsksAll (enums_in first) steps (contents out0) (contents out) (allows (session_link session0)) (state_by state session) (u.talks steps start).checks []
    none_sent steps start none empty =
        let t = u.talks steps start in
        subst (λ (l : List ℕ). AsksAll (enums_in first) steps (contents out0) (contents out) (allows (session_link session0)) (state_by state session) t.checks l) empty
        (asked_all (enums_in first) steps encoder (steps_by (nodes_in first) left) lines (allows (session_link session0)) (contents out0) (state_by state session) (contents out) t.checks t.at (ap (steps_by (nodes_in first)) none) (subst (HasAnswered (state_by state session) t.checks) (sym empty) t.answered) t.gave t.put)

    pub rest_refused : (steps : List PlainStep) (start : StartsAt steps) → (new : LinkState) (failed : Type 0) (bytes : List ℕ) (e : CheckError) → BeginsExchange (state_by state session) new bytes → ((checks : List AnsweredCheck) (rest : List ℕ) → HasAnswered (state_by state session) checks rest → WhyUnsent new e) → StopsAsking (enums_in first) steps (contents out0) (contents out) failed (allows (session_link session0)) new (check_refusal e)
    rest_refused steps start new failed bytes e begun h =
        let t = u.talks steps start in
        stops_sending (enums_in first) steps encoder (steps_by (nodes_in first) left) lines (allows (session_link session0)) (contents out0) new (contents out) failed t.checks t.at e (at_least_behind (allows (session_link session0)) (state_by state session) new bytes t.checks [] begun t.answered t.gave) t.put (h t.checks [] t.answered)

    pub rest_sent : (steps : List PlainStep) (start : StartsAt steps) → left ≡ [] → (new : LinkState) (bytes : List ℕ) → bytes ≡ lines → TakesMore (state_by state session) new bytes → StaysAllowed (allows (session_link session)) (state_by state session) new
        → AsksAll (enums_in first) steps (contents out0) (contents out) (allows (session_link session0)) new (u.talks steps start).checks lines
    rest_sent steps start none new bytes same takes stays =
        let t = u.talks steps start in
        let here = talks_here steps start in
        asked_all (enums_in first) steps encoder (steps_by (nodes_in first) left) lines (allows (session_link session0)) (contents out0) new (contents out) t.checks t.at (ap (steps_by (nodes_in first)) none) (subst (HasAnswered new t.checks) same (takes t.checks [] t.answered))
        (gave_too (allows (session_link session)) (allows (session_link session0)) u.same_allows.back new t.checks (stays t.checks here.gave)) t.put

-- the steps that are left of an outcome stand
pub stand_of : {E : Type 0} (nodes : Interner) (outcome : Result (ListSink × Bor (List NumberedStep)) E) (found : ListSink × Bor (List NumberedStep)) → outcome ≡ Ok found → IfOk outcome (λ p. IsTrue (all_steps_stand nodes p.1.now)) → IsTrue (all_steps_stand nodes found.1.now)
stand_of {E} nodes outcome found was h = subst (λ (o : Result (ListSink × Bor (List NumberedStep)) E). IfOk o (λ p. IsTrue (all_steps_stand nodes p.1.now))) was h

-- what holds of an outcome's refusal
pub refused_with : {T R : Type 0} (outcome : Result T R) (r : R) (P : R → Type 0) → outcome ≡ Err r → IfErr outcome P → P r
refused_with {T} {R} outcome r P was h = subst (λ (o : Result T R). IfErr o P) was h

-- lines without bytes
pub no_lines : (l m : List ℕ) → true ≡ (length l == 0) → l ≡ m → m ≡ []
no_lines l m h same = sym same ∙ empty_from l (sym h)
