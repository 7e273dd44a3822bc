-- A solver that was started to be asked, and came back.
use Rattle.std.proofs.Common.{◌≡◌, ◌⊎◌, ℕ, List, [], Option, Some, Ok, Err, Result, refl, sym, ap, ◌∙◌, subst, inl, inr, ⊎_elim, arith}
use Rattle.std.specs.Io.KnownBytes.{append_known}
use Rattle.std.specs.Borrow.{Bor}
use Rattle.std.specs.Prelude.{IfErr, IfOk, OnOk}
use Rattle.smt_script.specs.Memory.{list_bytes}
use Rattle.smt_script.specs.declared.memory.ListSink.{ListSink}
use Rattle.law_terms.specs.Faults.{first_fault}
use Rattle.law_terms.specs.TypeValues.{Enums}
use Rattle.law_theorem.specs.Fits.{new_stages}
use Rattle.law_jobs.specs.Steps.{PlainStep, AreBalanced, asserted}
use Rattle.smt_runs.specs.Asked.{AreAsked}
use Rattle.smt_runs.specs.JobTexts.{text_behind}
use Rattle.smt_runs.proofs.Asking.{asked_nothing}
use Rattle.smt_solve.specs.Link.{AllowsOnly, LinkState}
use Rattle.smt_solve.specs.Session.{StartsSession}
use Rattle.smt_solve.specs.Starter.{Command as SolverCall, Finishes, StarterState, add_told}
use Rattle.smt_solve.specs.declared.error.SolverError.{SolverError}
use Rattle.smt_solve.specs.declared.error.SolverError.TheVariants.{Io, Memory as NoRoom}
use Rattle.smt_solve.specs.declared.starter.StartError.{StartError}
use Rattle.smt_pool.specs.Checks.{Returns}
use Rattle.smt_pool.proofs.Asking.{counted_back}
use Rattle.law_verdicts.specs.Dialogues.{AnsweredCheck}
use Rattle.smt_encode.specs.declared.encoder.Encoder.{Encoder}
use Rattle.smt_jobs.specs.Numbers.{steps_by}
use Rattle.smt_jobs.specs.declared.numbered.NumberedStep.{NumberedStep}
use Rattle.smt_nodes.specs.declared.interner.Interner.{Interner}
use Rattle.smt_runs.specs.Asking.{AskedSoFar, AsksAll, AsksSolver, BreaksOff, SpokeAtLeast, StopsAsking, StopsBefore, WhyNotAsked}
use Rattle.smt_runs.specs.Jobs.{HasPrintCause}
use Rattle.smt_runs.specs.Pieces.{PutsPiece}
use Rattle.smt_runs.specs.Runs.{Fails}
use Rattle.smt_runs.specs.Progress.{AtPiece}
use Rattle.smt_runs.specs.declared.refusal.Refusal.{Refusal}
use Rattle.smt_runs.specs.declared.refusal.Refusal.TheVariants.{Encode, Sink, Start, Session, Memory}
use Rattle.smt_runs.proofs.AtLeast.{at_least_now, at_least_too, gave_too}
use Rattle.smt_runs.proofs.Talking.{all_words, refused_with, stops_too}

-- the lines before the first check were made
pub at_first : (e f : Enums) (m n : Interner) (after : Encoder (Unit {0})) (steps left : List NumberedStep) (lines : List ℕ) → e ≡ f → m ≡ n → PutsPiece e (Some []) (Some lines) after new_stages (steps_by m steps) (steps_by m left) → AreBalanced 0 (steps_by n steps) → AtPiece f after (steps_by n steps) (steps_by n left) [] lines
at_first e f m n after steps left lines same_enums same_nodes p balanced =
    begun f (steps_by n steps) (steps_by n left)
    (subst (λ (x : Enums). PutsPiece x (Some []) (Some lines) after new_stages (steps_by n steps) (steps_by n left)) same_enums (subst (λ (i : Interner). PutsPiece e (Some []) (Some lines) after new_stages (steps_by i steps) (steps_by i left)) same_nodes p)) balanced
  where
    begun : (enums : Enums) (all rest : List PlainStep) → PutsPiece enums (Some []) (Some lines) after new_stages all rest → AreBalanced 0 all → AtPiece enums after all rest [] lines
    begun enums all rest q b = record {
      done = q.written;
      cut = q.cut;
      stops = q.stops;
      faultless = q.faultless;
      asked = subst (λ (t : List ℕ). AreAsked enums q.written new_stages [] [] t) (sym (text_is enums q.written q.got)) (asked_nothing enums q.written new_stages [] q.silent);
      stands = q.stands;
      balanced = b;
    }
      where
        text_is : (k : Enums) (written : List PlainStep) → Some lines ≡ append_known (Some []) (text_behind k written new_stages) → lines ≡ text_behind k written new_stages
        text_is k written h = cc

-- the same of the outcome that made them
pub begun_at : {E : Type 0} (e f : Enums) (m n : Interner) (after : Encoder (Unit {0})) (steps : List NumberedStep) (outcome : Result (ListSink × Bor (List NumberedStep)) E) (found : ListSink × Bor (List NumberedStep)) → e ≡ f → m ≡ n → outcome ≡ Ok found
    → IfOk outcome (λ p. PutsPiece e (Some []) (Some (list_bytes p.0)) after new_stages (steps_by m steps) (steps_by m p.1.now)) → AreBalanced 0 (steps_by n steps) → AtPiece f after (steps_by n steps) (steps_by n found.1.now) [] (list_bytes found.0)
begun_at {E} e f m n after steps outcome found same_enums same_nodes was p balanced =
    at_first e f m n after steps found.1.now (list_bytes found.0) same_enums same_nodes
    (subst (λ (o : Result (ListSink × Bor (List NumberedStep)) E). IfOk o (λ q. PutsPiece e (Some []) (Some (list_bytes q.0)) after new_stages (steps_by m steps) (steps_by m q.1.now))) was p) balanced

pub first_balanced : (m n : Interner) (steps : List NumberedStep) → m ≡ n → AreBalanced 0 (steps_by n steps) → AreBalanced 0 (steps_by m steps)
first_balanced m n steps same b = subst (λ (i : Interner). AreBalanced 0 (steps_by i steps)) (sym same) b

-- why the first lines were not made
pub print_cause_there : {T : Type 0} (e f : Enums) (m n : Interner) (steps : List NumberedStep) (outcome : Result T Refusal) (why : Refusal) → e ≡ f → m ≡ n → outcome ≡ Err why → IfErr outcome (HasPrintCause (first_fault e (asserted (steps_by m steps))) ⊥) → HasPrintCause (first_fault f (asserted (steps_by n steps))) ⊥ why
print_cause_there {T} e f m n steps outcome why same_enums same_nodes was h =
    subst (λ (x : Enums). HasPrintCause (first_fault x (asserted (steps_by n steps))) ⊥ why) same_enums
    (subst (λ (i : Interner). HasPrintCause (first_fault e (asserted (steps_by i steps))) ⊥ why) same_nodes
    (refused_with outcome why (HasPrintCause (first_fault e (asserted (steps_by m steps))) ⊥) was h))

-- where the same is said of the enum types and nodes of another encoder
pub at_there : (e f : Enums) (m n : Interner) (encoder : Encoder (Unit {0})) (steps : List PlainStep) (left : List NumberedStep) (lines : List ℕ) → e ≡ f → m ≡ n → AtPiece e encoder steps (steps_by m left) [] lines → AtPiece f encoder steps (steps_by n left) [] lines
at_there e f m n encoder steps left lines same_enums same_nodes at =
    subst (λ (x : Enums). AtPiece x encoder steps (steps_by n left) [] lines) same_enums (subst (λ (i : Interner). AtPiece e encoder steps (steps_by i left) [] lines) same_nodes at)

pub so_far_at : (enums : Enums) (encoder : Encoder (Unit {0})) (steps left : List PlainStep) (lines : List ℕ) → AtPiece enums encoder steps left [] lines → AskedSoFar enums steps [] lines
so_far_at enums encoder steps left lines at = record { done = at.done; left = left; cut = at.cut; stops = at.stops; faultless = at.faultless; asked = at.asked }

-- what was said, whatever came of the question
pub spoke_anyway : {T : Type 0} (enums : Enums) (steps : List PlainStep) (held now : Option (List ℕ)) (failed : Type 0) (allows : List ℕ → List ℕ → List ℕ → Type 0) (s : LinkState) (result : Result T Refusal)
    → OnOk result ((checks : List AnsweredCheck) × (rest : List ℕ) × AsksAll enums steps held now allows s checks rest) → IfErr result (StopsAsking enums steps held now failed allows s) → SpokeAtLeast allows s held now
spoke_anyway enums steps held now failed allows s (Ok x) a h = record { checks = a.0; answered = at_least_now allows s a.0 a.1 a.2.answered a.2.gave; put = all_words held now a.0 a.2.put }
spoke_anyway enums steps held now failed allows s (Err (Encode kind)) a h = record { checks = h.1.checks; answered = at_least_now allows s h.1.checks h.1.rest h.1.answered h.1.gave; put = all_words held now h.1.checks h.1.put }
spoke_anyway enums steps held now failed allows s (Err Sink) a h = record { checks = h.1.checks; answered = at_least_now allows s h.1.checks h.1.rest h.1.answered h.1.gave; put = h.1.put }
spoke_anyway enums steps held now failed allows s (Err (Session kind)) a h = record { checks = h.checks; answered = h.answered; put = all_words held now h.checks h.put }
spoke_anyway enums steps held now failed allows s (Err Memory) a h = h
spoke_anyway enums steps held now failed allows s (Err r) a h = absurd h

-- what was said, by what another relation allows too
pub spoke_too : (first second : List ℕ → List ℕ → List ℕ → Type 0) → AllowsOnly first second → (s : LinkState) (held now : Option (List ℕ)) → SpokeAtLeast first s held now → SpokeAtLeast second s held now
spoke_too first second only s held now h = record { checks = h.checks; answered = at_least_too first second only s h.checks h.answered; put = h.put }

-- what came of the question, by the enum types of another encoder and the link that was taken out of the session
module _ {U : Type 0} (e f : Enums) (s t : LinkState) (steps : List PlainStep) (held now : Option (List ℕ)) (result : Result U Refusal) (same_enums : e ≡ f) (same_link : s ≡ t) where
  pub handed_ok : (allows : List ℕ → List ℕ → List ℕ → Type 0) → OnOk result ((checks : List AnsweredCheck) × (rest : List ℕ) × AsksAll e steps held now allows s checks rest) → OnOk result ((checks : List AnsweredCheck) × (rest : List ℕ) × AsksAll f steps held now allows t checks rest)
  handed_ok allows h =
      subst (λ (x : Enums). OnOk result ((checks : List AnsweredCheck) × (rest : List ℕ) × AsksAll x steps held now allows t checks rest)) same_enums
      (subst (λ (l : LinkState). OnOk result ((checks : List AnsweredCheck) × (rest : List ℕ) × AsksAll e steps held now allows l checks rest)) same_link h)

  pub handed_err : (failed : Type 0) (allows : List ℕ → List ℕ → List ℕ → Type 0) → IfErr result (StopsAsking e steps held now failed allows s) → IfErr result (StopsAsking f steps held now failed allows t)
  handed_err failed allows h =
      subst (λ (x : Enums). IfErr result (StopsAsking x steps held now failed allows t)) same_enums (subst (λ (l : LinkState). IfErr result (StopsAsking e steps held now failed allows l)) same_link h)

-- ---- before a solver is asked

-- nothing was started
pub stopped_before : {L : Type 0} (old new : StarterState L) (command : SolverCall) (held now : Option (List ℕ)) → new ≡ old → now ≡ held → StopsBefore old new command held now
stopped_before {L} old new command held now same unput = record {
  commands = inl (ap (λ (t : StarterState L). t.commands) same);
  same_returned = ap (λ (t : StarterState L). t.returned) same;
  same_link_faults = ap (λ (t : StarterState L). t.link_faults) same;
  later = let faults : new.failed_starts ≡ old.failed_starts = ap (λ (t : StarterState L). t.failed_starts) same in omega (arith, faults);
  unput = unput;
}

-- no solver started
pub stopped_at_start : {L T : Type 0} (old new : StarterState L) (command : SolverCall) (held : Option (List ℕ)) (result : Result T SolverError) (e : SolverError) → result ≡ Err e → StartsSession old new command result → StopsBefore old new command held held
stopped_at_start {L} {T} old new command held result e was starts = record {
  commands = tried (subst (λ (r : Result T SolverError). IfErr r (λ x. (x ≡ Io) ⊎ (x ≡ NoRoom))) was starts.only);
  same_returned = starts.same_returned;
  same_link_faults = starts.same_link_faults;
  later = starts.later;
  unput = refl;
}
  where
    tried : (e ≡ Io) ⊎ (e ≡ NoRoom) → (new.commands ≡ old.commands) ⊎ (new.commands ≡ add_told old.commands command)
    tried (inl is) = inr (starts.io (was ∙ ap (λ (x : SolverError). Err x) is)).0
    tried (inr is) = ⊎_elim (λ asked. inr asked) (λ same. inl same) (starts.memory (was ∙ ap (λ (x : SolverError). Err x) is))

module _ {L : Type 0} (state : L → LinkState) (allows : List ℕ → List ℕ → List ℕ → Type 0) (old new : StarterState L) (command : SolverCall) (enums : Enums) (steps : List PlainStep) (held now : Option (List ℕ)) where
  -- nothing was started
  pub not_started : (failed : Type 0) (why : Refusal) → new ≡ old → now ≡ held → HasPrintCause (first_fault enums (asserted steps)) ⊥ why → WhyNotAsked state allows old new command enums steps held now failed why
  not_started failed (Encode kind) same unput h = (h, inl (same, unput))
  not_started failed Memory same unput h = inl (stopped_before old new command held now same unput)
  not_started failed why same unput h = absurd h

  module _ {T : Type 0} (between : StarterState L) (link : L) (x : T) (starts : StartsSession old between command (Ok x)) (finishes : Finishes {T = Unit {0}} between new link (state link).faults (Ok tt)) where
    returned : (P : L → Type 0) → P link → Returns P old new command
    returned P h = record {
      link = link;
      started = finishes.same_commands ∙ starts.ok;
      returned = finishes.ok ∙ ap (λ (t : Option (List L)). add_told t link) starts.same_returned;
      of_link = h;
    }

    why_not : (failed : Type 0) (r : Refusal) → StopsAsking enums steps held now failed allows (state link) r → WhyNotAsked state allows old new command enums steps held now failed r
    why_not failed (Encode kind) h = (h.0, inr (returned _ h.1))
    why_not failed Sink h = (h.0, returned _ h.1)
    why_not failed (Session kind) h = returned _ (h, counted_back (state link).faults old.link_faults between.link_faults new.link_faults starts.same_link_faults finishes.faulty)
    why_not failed Memory h = inr (inl (returned _ h))
    why_not failed r h = absurd h

    pub all_asked : (of_link : List ℕ → List ℕ → List ℕ → Type 0) (checks : List AnsweredCheck) (rest : List ℕ) → AllowsOnly of_link allows → AsksAll enums steps held now of_link (state link) checks rest → AsksSolver state allows old new command enums steps held now
    all_asked of_link checks rest only a = record {
      checks = checks;
      rest = rest;
      returns = returned _ (record { faultless = a.faultless; asked = a.asked; answered = a.answered; gave = gave_too of_link allows only (state link) checks a.gave; put = a.put });
    }

    -- what came of the question, where the link came back
    pub asked_anyway : {U : Type 0} (of_link : List ℕ → List ℕ → List ℕ → Type 0) (failed : Type 0) (result : Result U Refusal) → AllowsOnly of_link allows
        → OnOk result ((checks : List AnsweredCheck) × (rest : List ℕ) × AsksAll enums steps held now of_link (state link) checks rest) → OnOk result (AsksSolver state allows old new command enums steps held now)
    asked_anyway of_link failed (Ok u) only a = all_asked of_link a.0 a.1 only a.2
    asked_anyway of_link failed (Err e) only a = tt

    pub refused_anyway : {U : Type 0} (of_link : List ℕ → List ℕ → List ℕ → Type 0) (failed : Type 0) (result : Result U Refusal) → AllowsOnly of_link allows → IfErr result (StopsAsking enums steps held now failed of_link (state link)) → IfErr result (WhyNotAsked state allows old new command enums steps held now failed)
    refused_anyway of_link failed (Ok u) only h = tt
    refused_anyway of_link failed (Err e) only h = why_not failed e (stops_too enums steps held now failed of_link allows only (state link) e h)

  -- the link was lost
  pub lost : {T : Type 0} (between : StarterState L) (link : L) (x : T) (e : StartError) → StartsSession old between command (Ok x) → Finishes {T = Unit {0}} between new link (state link).faults (Err e) → SpokeAtLeast allows (state link) held now → BreaksOff state allows old new command held now
  lost between link x e starts finishes h = inr (inr (record {
    link = link;
    started = finishes.same_commands ∙ starts.ok;
    same_returned = finishes.err ∙ starts.same_returned;
    of_link = h;
  }))

-- ---- what failed where a solver was not asked by all steps, and what is known besides

module _ {L : Type 0} (state : L → LinkState) (allows : List ℕ → List ℕ → List ℕ → Type 0) (old new : StarterState L) (command : SolverCall) (enums : Enums) (steps : List PlainStep) (held now : Option (List ℕ)) (failed : Type 0) where
  pub unasked_failed : (source_failed : Type 0) (r : Refusal) → WhyNotAsked state allows old new command enums steps held now failed r → Fails source_failed failed r
  unasked_failed source_failed (Encode kind) h = tt
  unasked_failed source_failed Sink h = h.0
  unasked_failed source_failed Start h = tt
  unasked_failed source_failed (Session kind) h = tt
  unasked_failed source_failed Memory h = tt
  unasked_failed source_failed r h = absurd h

  pub unasked_known : (r : Refusal) → WhyNotAsked state allows old new command enums steps held now failed r → WhyNotAsked state allows old new command enums steps held now (Unit {0}) r
  unasked_known (Encode kind) h = h
  unasked_known Sink h = (tt, h.1)
  unasked_known Start h = h
  unasked_known (Session kind) h = h
  unasked_known Memory h = h
  unasked_known r h = absurd h
