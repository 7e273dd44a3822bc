-- What a run does with a job of two terms, and why it does not.
use Rattle.std.proofs.Common.{◌≡◌, ℕ, List, Some, None, subst}
use Rattle.std.specs.Io.KnownBytes.{append_known}
use Rattle.std.specs.Prelude.{IfSome}
use Rattle.law_terms.specs.Plain.{PlainTerm}
use Rattle.law_terms.specs.TypeValues.{Enums}
use Rattle.law_folding.specs.Built.{built}
use Rattle.law_folding.proofs.BuiltTerms.{built_stands}
use Rattle.law_terms.specs.Plain.{BoolType}
use Rattle.law_jobs.proofs.Jobs.{job_enums_in_order}
use Rattle.law_jobs.specs.Jobs.{IsBuiltFrom, PlainJob}
use Rattle.law_jobs.specs.Steps.{Section}
use Rattle.smt_solve.specs.Link.{LinkState}
use Rattle.smt_solve.specs.Starter.{Command as SolverCall, StarterState}
use Rattle.smt_runs.specs.Jobs.{HasReadCause}
use Rattle.smt_runs.specs.Runs.{Around, IsPutRefusal}
use Rattle.smt_runs.specs.declared.refusal.Refusal.{Refusal}
use Rattle.smt_runs.specs.declared.refusal.Refusal.TheVariants.{Job, NotTwo, Encode, Source, Sink, Start, Session, Memory}
use Rattle.smt_runs.proofs.Told.{of_told}
use Rattle.smt_review.specs.Once.{ReviewsOnce, WhyNotReviewedOnce}
use Rattle.smt_review.specs.Pairs.{IsNoPair, IsPair, pair_of}
use Rattle.smt_review.specs.Causes.{IsStopped, WhyNotReviewed}
use Rattle.smt_review.specs.Run.{ReviewsPair, finding_line}
use Rattle.smt_review.specs.declared.finding.Finding.{Finding}
use Rattle.smt_review.specs.declared.relation.Relation.{Relation}
use Rattle.smt_review.proofs.Once.{once_believed}
use Rattle.smt_review.proofs.Pairing.{WrittenPair, no_pair, pair_conditions, related_as_written, written_pair}

-- What was read of bytes: a job as it is built, by one of the two sections.
abbrev pub IsRead : PlainJob → List ℕ → Type 0
IsRead job bytes = (section : Section) × IsBuiltFrom bytes section job

module _ {L : Type 0} (state : L → LinkState) (call : SolverCall) (r : Relation) (before after : Around (StarterState L)) where
  -- no job was read, no solver was started, and nothing was put
  pub unread_known : (failed : Type 0) → after.beside ≡ before.beside → after.held ≡ before.held → (why : Refusal) → HasReadCause before.left failed why → WhyNotReviewed state call r before after why
  unread_known failed unstarted unput (Job kind) h = (h, unstarted, unput)
  unread_known failed unstarted unput Source h = (unstarted, unput)
  unread_known failed unstarted unput Memory h = tt
  unread_known failed unstarted unput why h = absurd h

  module _ (job : PlainJob) (read : IfSome before.left (IsRead job)) where
    -- the job is no pair
    pub other_steps : pair_of job.steps ≡ None → after.beside ≡ before.beside → after.held ≡ before.held → WhyNotReviewed state call r before after NotTwo
    other_steps e unstarted unput = (of_told (IsRead job) IsNoPair before.left (λ bytes is. no_pair bytes is.0 job is.1 e) read, unstarted, unput)

    module _ (t u : PlainTerm) (two : pair_of job.steps ≡ Some (t, u)) where
      written : (bytes : List ℕ) → IsRead job bytes → WrittenPair bytes job t u
      written bytes is = written_pair bytes is.0 job t u is.1 two

      -- what holds of the terms that were read holds of those of the pair
      of_pair : (A : Enums → PlainTerm → PlainTerm → Type 0) (bytes : List ℕ) (is : IsRead job bytes) → A job.enums t u → A (written bytes is).pair.job.enums (built (written bytes is).pair.first) (built (written bytes is).pair.second)
      of_pair A bytes is a =
          let w = written bytes is in
          subst (λ (e : Enums). A e (built w.pair.first) (built w.pair.second)) w.enums
          (subst (λ (x : PlainTerm). A job.enums x (built w.pair.second)) w.first (subst (λ (x : PlainTerm). A job.enums t x) w.second a))

      some_pair : IfSome before.left IsPair
      some_pair = of_told (IsRead job) IsPair before.left (λ bytes is. (written bytes is).pair) read

      stopped : (why : Refusal) → WhyNotReviewedOnce state before.beside after.beside call job.enums r t u why → IfSome before.left (IsStopped state call r before after why)
      stopped why h =
          of_told (IsRead job) (IsStopped state call r before after why) before.left
          (λ bytes is. ((written bytes is).pair, of_pair (λ (e : Enums) (x y : PlainTerm). WhyNotReviewedOnce state before.beside after.beside call e r x y why) bytes is h)) read

      -- nothing was found of the terms, and nothing was put
      pub stop_known : after.held ≡ before.held → (why : Refusal) → WhyNotReviewedOnce state before.beside after.beside call job.enums r t u why → WhyNotReviewed state call r before after why
      stop_known unput (Encode kind) h = (stopped (Encode kind) h, unput)
      stop_known unput Start h = (h, some_pair, unput)
      stop_known unput (Session kind) h = (stopped (Session kind) h, unput)
      stop_known unput Memory h = tt
      stop_known unput why h = absurd h

      -- the word was not put
      pub put_known : (why : Refusal) → IsPutRefusal why → WhyNotReviewed state call r before after why
      put_known Sink h = some_pair
      put_known Memory h = tt
      put_known why h = absurd h

      pub reviews_pair : (allows : L → List ℕ → List ℕ → List ℕ → Type 0) (allowed : List ℕ → List ℕ → List ℕ → Type 0) (finding : Finding) → ReviewsOnce state allows allowed before.beside after.beside call job.enums r t u finding
          → after.held ≡ append_known before.held (finding_line finding) → IfSome before.left (ReviewsPair state allows allowed call r before after)
      reviews_pair allows allowed finding h put = of_told (IsRead job) (ReviewsPair state allows allowed call r before after) before.left
          (λ bytes is.
          let w = written bytes is in
          let p = w.pair in
          let c = pair_conditions bytes p in
          let st = built_stands p.first c.0.boolean.parts in
          let su = built_stands p.second c.1.boolean.parts in
          let once = of_pair (λ (e : Enums) (x y : PlainTerm). ReviewsOnce state allows allowed before.beside after.beside call e r x y finding) bytes is h in
          record {
            pair = p;
            finding = finding;
            reviews = once;
            put = put;
            believed = λ tells honest holds.
                related_as_written p.job.enums r p.first p.second c.0 c.1
                (once_believed state allows allowed p.job.enums r (built p.first) (built p.second) finding once.link (job_enums_in_order bytes p.job p.is_job).members (st.type BoolType c.0.boolean) (su.type BoolType c.1.boolean)
                (st.formed c.0.formed) (su.formed c.1.formed) once.of_link tells honest holds);
          }) read
