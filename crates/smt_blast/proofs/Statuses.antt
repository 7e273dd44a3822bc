-- Which status a job, other bytes and words end with.
use Rattle.std.proofs.Common.{◌≡◌, ◌∙◌, ℕ, ◌⊎◌, true, List, Option, Some, None, ap, inl, inr, refl, sym, ⊎_elim}
use Rattle.std.proofs.lemmas.Bool.{false≢true}
use Rattle.std.specs.Prelude.{IfSome, is_some}
use Rattle.law_blasting.specs.Refusals.{Refusal as TermRefusal}
use Rattle.law_jobs.proofs.Jobs.{one_job}
use Rattle.smt_runs.specs.Jobs.{IsNoJob}
use Rattle.smt_runs.proofs.Reading.{not_refused}
use Rattle.smt_runs.specs.Runs.{Around, Does, Fails, Knows}
use Rattle.smt_program.specs.declared.words.Asked.{Asked}
use Rattle.smt_program.specs.declared.words.Asked.TheVariants.{Own, Help, Version}
use Rattle.smt_runs.proofs.Ending.{put_refused}
use Rattle.smt_runs.proofs.Told.{of_told}
use Rattle.smt_blast.specs.Causes.{HasRefusalOf, IsRefusalOf, IsTakenJob, IsUntakenJob, WhyNotBlasted, refusal_in}
use Rattle.smt_runs.specs.Refusal.{status_of}
use Rattle.smt_blast.specs.Run.{IsComplete, Prints, ReadsAndPrints}
use Rattle.smt_blast.specs.declared.command.Command.{Command}
use Rattle.smt_blast.specs.declared.command.Command.TheVariants.{Blast as BlastWords}
use Rattle.smt_runs.specs.declared.refusal.BlastRefusal.{BlastRefusal}
use Rattle.smt_runs.specs.declared.refusal.BlastRefusal.TheVariants.{Unsupported, UnsupportedType}
use Rattle.smt_runs.specs.declared.refusal.Refusal.{Refusal}
use Rattle.smt_runs.specs.declared.refusal.Refusal.TheVariants.{Job, Blast, Source, Sink, Memory}

-- a refusal of a kind is one
is_refusal : (kind : BlastRefusal) (refusal : Option TermRefusal) → IsRefusalOf kind refusal → is_some refusal ≡ true
is_refusal Unsupported refusal h = ap is_some h.1
is_refusal UnsupportedType refusal h = ap is_some h.1

-- the terms of a job have a refusal or not
taken_or_not : (bytes : List ℕ) → IsTakenJob bytes → IsUntakenJob bytes → ⊥
taken_or_not bytes j k = false≢true (sym (ap is_some j.2) ∙ ap (λ job. is_some (refusal_in job)) (one_job bytes j.0 k.0 j.1 k.1) ∙ k.2)

refused : (bytes : List ℕ) (kind : BlastRefusal) → HasRefusalOf kind bytes → IsUntakenJob bytes
refused bytes kind h = (h.0, h.1, is_refusal kind (refusal_in h.0) h.2)

module _ (before after : Around (Unit {0})) (source_failed sink_failed : Type 0) where
  -- a job whose terms have no refusal is refused for want of memory alone
  accepted : (left : Option (List ℕ)) (r : Refusal) → Fails source_failed sink_failed r → WhyNotBlasted (record before { left = left }) after r → ¬ source_failed → ¬ sink_failed → IfSome left (λ bytes. IsTakenJob bytes → (status_of r ≡ 0) ⊎ (status_of r ≡ 7))
  accepted None r f h given taken = tt
  accepted (Some bytes) (Job kind) f h given taken = λ j. absurd (not_refused bytes kind (j.0, j.1) h.0)
  accepted (Some bytes) (Blast kind) f h given taken = λ j. absurd (taken_or_not bytes j (refused bytes kind h.0))
  accepted (Some bytes) Source f h given taken = absurd (given f)
  accepted (Some bytes) Sink f h given taken = absurd (taken f)
  accepted (Some bytes) Memory f h given taken = λ j. inr refl
  accepted (Some bytes) r f h given taken = absurd h

  -- a job whose terms have a refusal is refused by it, but for want of memory
  unblasted : (left : Option (List ℕ)) (r : Refusal) → Fails source_failed sink_failed r → WhyNotBlasted (record before { left = left }) after r → ¬ source_failed → IfSome left (λ bytes. IsUntakenJob bytes → (status_of r ≡ 10) ⊎ (status_of r ≡ 7))
  unblasted None r f h given = tt
  unblasted (Some bytes) (Job kind) f h given = λ j. absurd (not_refused bytes kind (j.0, j.1) h.0)
  unblasted (Some bytes) (Blast kind) f h given = λ j. inl refl
  unblasted (Some bytes) Source f h given = absurd (given f)
  unblasted (Some bytes) Sink f h given = λ j. absurd (taken_or_not bytes h j)
  unblasted (Some bytes) Memory f h given = λ j. inr refl
  unblasted (Some bytes) r f h given = absurd h

  -- what is no job is refused as such, but for want of memory
  rejected : (left : Option (List ℕ)) (r : Refusal) → Fails source_failed sink_failed r → WhyNotBlasted (record before { left = left }) after r → ¬ source_failed → IfSome left (λ bytes. IsNoJob bytes → (status_of r ≡ 3) ⊎ (status_of r ≡ 7))
  rejected None r f h given = tt
  rejected (Some bytes) (Job why) f h given = λ none. inl refl
  rejected (Some bytes) (Blast kind) f h given = λ none. absurd (none h.0.0 h.0.1)
  rejected (Some bytes) Source f h given = absurd (given f)
  rejected (Some bytes) Sink f h given = λ none. absurd (none h.0 h.1)
  rejected (Some bytes) Memory f h given = λ none. inr refl
  rejected (Some bytes) r f h given = absurd h

  -- nothing else is said of what the program does not do by words of its own
  others_complete : (asked : Option (Asked Command)) (status : ℕ) → (asked ≡ Some (Own BlastWords) → ⊥) → ((asked ≡ Some Help) ⊎ (asked ≡ Some Version) → ¬ sink_failed → (status ≡ 0) ⊎ (status ≡ 7)) → IsComplete asked before.left source_failed sink_failed status
  others_complete asked status other printed = record {
    accepted = λ p. absurd (other p);
    unblasted = λ p. absurd (other p);
    rejected = λ p. absurd (other p);
    printed = printed;
  }

  pub refused_complete : (asked : Option (Asked Command)) (r : Refusal) → Fails source_failed sink_failed r → Knows before after (λ _. WhyNotBlasted) asked r → IsComplete asked before.left source_failed sink_failed (status_of r)
  refused_complete (Some (Own BlastWords)) r f h = record {
    accepted = λ p. accepted before.left r f h;
    unblasted = λ p. unblasted before.left r f h;
    rejected = λ p. rejected before.left r f h;
    printed = λ p taken. absurd (⊎_elim (λ q. cc) (λ q. cc) p);
  }
  refused_complete (Some Help) r f h = others_complete (Some Help) (status_of r) (λ p. cc) (λ p. put_refused source_failed sink_failed r f h)
  refused_complete (Some Version) r f h = others_complete (Some Version) (status_of r) (λ p. cc) (λ p. put_refused source_failed sink_failed r f h)
  refused_complete None r f h = absurd h

  -- what is done is the script of a job whose terms have no refusal, where one was asked for
  was_taken : (P : List ℕ → Type 0) → ((bytes : List ℕ) → IsTakenJob bytes → P bytes) → (asked : Option (Asked Command)) → Does before after (λ _. ReadsAndPrints) asked → asked ≡ Some (Own BlastWords) → IfSome before.left P
  was_taken P so (Some (Own BlastWords)) d p = of_told (Prints before.held after.held) P before.left (λ bytes x. so bytes (x.job, x.is_job, x.taken)) d.holds
  was_taken P so (Some Help) d p = absurd cc
  was_taken P so (Some Version) d p = absurd cc
  was_taken P so None d p = absurd d

  pub done_complete : (status : ℕ) (asked : Option (Asked Command)) → (¬ sink_failed → (status ≡ 0) ⊎ (status ≡ 7)) → Does before after (λ _. ReadsAndPrints) asked → IsComplete asked before.left source_failed sink_failed status
  done_complete status asked good d = record {
    accepted = λ p given taken. was_taken (λ bytes. IsTakenJob bytes → (status ≡ 0) ⊎ (status ≡ 7)) (λ bytes x j. good taken) asked d p;
    unblasted = λ p given. was_taken (λ bytes. IsUntakenJob bytes → (status ≡ 10) ⊎ (status ≡ 7)) (λ bytes x j. absurd (taken_or_not bytes x j)) asked d p;
    rejected = λ p given. was_taken (λ bytes. IsNoJob bytes → (status ≡ 3) ⊎ (status ≡ 7)) (λ bytes x none. absurd (none x.0 x.1)) asked d p;
    printed = λ p taken. good taken;
  }

  -- words that are no command are said to be none
  pub misused_complete : (status : ℕ) (asked : Option (Asked Command)) → asked ≡ None → IsComplete asked before.left source_failed sink_failed status
  misused_complete status asked none = others_complete asked status (λ p. cc) (λ p taken. absurd (⊎_elim (λ q. cc) (λ q. cc) p))
