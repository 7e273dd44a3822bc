-- That a run is complete: what its status is where nothing failed.
use Rattle.std.proofs.Common.{◌≡◌, ℕ, List, map, Option, Some, None, refl, sym, ap, ◌∙◌, inl, inr, ⊎_elim}
use Rattle.std.specs.Prelude.{◌⊎◌, IfSome, is_some}
use Rattle.std.proofs.lemmas.Bool.{false≢true}
use Rattle.law_terms.specs.Faults.{first_fault}
use Rattle.law_folding.specs.Built.{built}
use Rattle.law_jobs.proofs.Jobs.{one_job}
use Rattle.law_jobs.specs.Jobs.{IsJob, PlainJob}
use Rattle.law_jobs.specs.Steps.{asserted}
use Rattle.smt_solve.specs.Link.{LinkState}
use Rattle.smt_solve.specs.Starter.{Command as SolverCall, StarterState}
use Rattle.smt_pool.specs.declared.check_error.SessionFault.{SessionFault}
use Rattle.smt_program.specs.declared.words.Asked.{Asked}
use Rattle.smt_program.specs.declared.words.Asked.TheVariants.{Own, Help, Version}
use Rattle.smt_runs.specs.Jobs.{HasFaultOf, IsFaultOf, IsFaultlessJob, IsFaultyScript, IsNoJob}
use Rattle.smt_runs.specs.Refusal.{status_of}
use Rattle.smt_runs.specs.Runs.{Around, Does, Fails, Knows, StartFailed}
use Rattle.smt_runs.specs.declared.refusal.EncodeRefusal.{EncodeRefusal}
use Rattle.smt_runs.specs.declared.refusal.Refusal.{Refusal}
use Rattle.smt_runs.specs.declared.refusal.Refusal.TheVariants.{Job, Encode, Source, Sink, Start, Session, Memory}
use Rattle.smt_runs.proofs.Ending.{put_refused}
use Rattle.smt_runs.proofs.Reading.{no_fault, not_refused, some_fault}
use Rattle.smt_runs.proofs.Told.{of_told}
use Rattle.smt_cli.specs.Causes.{IsFaultyAtFirst, IsStopped, WhyNotChecked, WhyNotDone, WhyNotPrinted, before_check}
use Rattle.smt_cli.specs.Run.{Checks, IsComplete, IsDone, Prints}
use Rattle.smt_cli.specs.declared.command.Command.{Command}
use Rattle.smt_cli.specs.declared.command.Command.TheVariants.{Script, Check, Generate}
use Rattle.smt_cli.proofs.Asking.{fault_asked}
use Rattle.smt_cli.proofs.FirstSteps.{first_faultless, part_at_first}

-- the steps before the first check have a fault or not
none_at_first : (bytes : List ℕ) → IsFaultyAtFirst bytes → (job : PlainJob) (is : IsJob bytes job) → first_fault job.enums (map built (asserted (before_check job.steps))) ≡ None → ⊥
none_at_first bytes j job is none =
    false≢true (sym (ap is_some none) ∙ ap (λ (x : PlainJob). is_some (first_fault x.enums (map built (asserted (before_check x.steps))))) (one_job bytes job j.0 is j.1) ∙ j.2)

module _ (old now : Option (List ℕ)) (source_failed sink_failed : Type 0) where
  -- a job is refused for want of memory alone
  accepted : (left : Option (List ℕ)) (r : Refusal) → Fails source_failed sink_failed r → WhyNotPrinted left old now r → ¬ source_failed → ¬ sink_failed → IfSome left (λ bytes. IsFaultlessJob bytes → (status_of r ≡ 0) ⊎ (status_of r ≡ 7))
  accepted None r f h given taken = tt
  accepted (Some bytes) (Job kind) f h given taken = λ j. absurd (not_refused bytes kind (j.0, j.1) h.0)
  accepted (Some bytes) (Encode kind) f h given taken = λ j. absurd (no_fault bytes kind j h)
  accepted (Some bytes) Source f h given taken = absurd (given f)
  accepted (Some bytes) Sink f h given taken = absurd (taken f)
  accepted (Some bytes) Memory f h given taken = λ j. inr refl
  accepted (Some bytes) r f h given taken = absurd h

  -- a job with a fault is refused by the encoder, but for want of memory
  unwritten : (left : Option (List ℕ)) (r : Refusal) → Fails source_failed sink_failed r → WhyNotPrinted left old now r → ¬ source_failed → ¬ sink_failed → IfSome left (λ bytes. IsFaultyScript bytes → (status_of r ≡ 4) ⊎ (status_of r ≡ 7))
  unwritten None r f h given taken = tt
  unwritten (Some bytes) (Job kind) f h given taken = λ j. absurd (not_refused bytes kind (j.0, j.1) h.0)
  unwritten (Some bytes) (Encode kind) f h given taken = λ j. inl refl
  unwritten (Some bytes) Source f h given taken = absurd (given f)
  unwritten (Some bytes) Sink f h given taken = absurd (taken f)
  unwritten (Some bytes) Memory f h given taken = λ j. inr refl
  unwritten (Some bytes) r f h given taken = absurd h

  -- what is no job is refused as such, but for want of memory
  rejected : (left : Option (List ℕ)) (r : Refusal) → Fails source_failed sink_failed r → WhyNotPrinted left old now r → ¬ source_failed → IfSome left (λ bytes. IsNoJob bytes → (status_of r ≡ 3) ⊎ (status_of r ≡ 7))
  rejected None r f h given = tt
  rejected (Some bytes) (Job why) f h given = λ none. inl refl
  rejected (Some bytes) (Encode kind) f h given = λ none. absurd (none h.0 h.1)
  rejected (Some bytes) Source f h given = absurd (given f)
  rejected (Some bytes) Sink f h given = λ none. absurd (none h.0 h.1)
  rejected (Some bytes) Memory f h given = λ none. inr refl
  rejected (Some bytes) r f h given = absurd h

module _ {L : Type 0} (state : L → LinkState) (allows : List ℕ → List ℕ → List ℕ → Type 0) (call : SolverCall) (before after : Around (StarterState L)) (source_failed sink_failed : Type 0) where
  -- what stood before, with this left in the source
  abbrev leaving : Option (List ℕ) → Around (StarterState L)
  leaving left = record before { left = left }

  -- the starter failed
  abbrev Unstarted : Type 0
  Unstarted = StartFailed before.beside after.beside

  -- where a term was refused there is a fault
  fault_at : (bytes : List ℕ) (kind : EncodeRefusal) → IsStopped state allows call before after (Encode kind) bytes → HasFaultOf kind bytes
  fault_at bytes kind h = (h.0, h.1, fault_asked h.0 h.1.section (IsFaultOf kind) h.2.0)

  not_started : (bytes : List ℕ) → IsFaultyAtFirst bytes → IsStopped state allows call before after Start bytes → ⊥
  not_started bytes j h = none_at_first bytes j h.0 h.1 (first_faultless h.0 h.1.section _ _ h.2.1.1)

  not_failed : (bytes : List ℕ) (kind : SessionFault) → IsFaultyAtFirst bytes → IsStopped state allows call before after (Session kind) bytes → ⊥
  not_failed bytes kind j h = none_at_first bytes j h.0 h.1 (first_faultless h.0 h.1.section _ _ h.2.of_link.0.so_far)

  -- a job is not checked for want of memory, or because its session failed
  checked : (left : Option (List ℕ)) (r : Refusal) → Fails source_failed sink_failed r → WhyNotChecked state allows call (leaving left) after r → ¬ source_failed → ¬ sink_failed → ¬ Unstarted → IfSome left (λ bytes. IsFaultlessJob bytes → (status_of r ≡ 0) ⊎ ((status_of r ≡ 7) ⊎ (status_of r ≡ 8)))
  checked None r f h given taken started = tt
  checked (Some bytes) (Job kind) f h given taken started = λ j. absurd (not_refused bytes kind (j.0, j.1) h.0)
  checked (Some bytes) (Encode kind) f h given taken started = λ j. absurd (no_fault bytes kind j (fault_at bytes kind h))
  checked (Some bytes) Source f h given taken started = absurd (given f)
  checked (Some bytes) Sink f h given taken started = absurd (taken f)
  checked (Some bytes) Start f h given taken started = absurd (started h.0)
  checked (Some bytes) (Session kind) f h given taken started = λ j. inr (inr refl)
  checked (Some bytes) Memory f h given taken started = λ j. inr (inl refl)
  checked (Some bytes) r f h given taken started = absurd h

  -- a job with a fault is refused by the encoder where a solver is asked, unless its session fails
  unanswered : (left : Option (List ℕ)) (r : Refusal) → Fails source_failed sink_failed r → WhyNotChecked state allows call (leaving left) after r → ¬ source_failed → ¬ sink_failed → ¬ Unstarted → IfSome left (λ bytes. IsFaultyScript bytes → (status_of r ≡ 4) ⊎ ((status_of r ≡ 7) ⊎ (status_of r ≡ 8)))
  unanswered None r f h given taken started = tt
  unanswered (Some bytes) (Job kind) f h given taken started = λ j. absurd (not_refused bytes kind (j.0, j.1) h.0)
  unanswered (Some bytes) (Encode kind) f h given taken started = λ j. inl refl
  unanswered (Some bytes) Source f h given taken started = absurd (given f)
  unanswered (Some bytes) Sink f h given taken started = absurd (taken f)
  unanswered (Some bytes) Start f h given taken started = absurd (started h.0)
  unanswered (Some bytes) (Session kind) f h given taken started = λ j. inr (inr refl)
  unanswered (Some bytes) Memory f h given taken started = λ j. inr (inl refl)
  unanswered (Some bytes) r f h given taken started = absurd h

  -- and for a fault before the first check no solver starts
  unasked : (left : Option (List ℕ)) (r : Refusal) → Fails source_failed sink_failed r → WhyNotChecked state allows call (leaving left) after r → ¬ source_failed → ¬ sink_failed → IfSome left (λ bytes. IsFaultyAtFirst bytes → (status_of r ≡ 4) ⊎ (status_of r ≡ 7))
  unasked None r f h given taken = tt
  unasked (Some bytes) (Job kind) f h given taken = λ j. absurd (not_refused bytes kind (j.0, j.1) h.0)
  unasked (Some bytes) (Encode kind) f h given taken = λ j. inl refl
  unasked (Some bytes) Source f h given taken = absurd (given f)
  unasked (Some bytes) Sink f h given taken = absurd (taken f)
  unasked (Some bytes) Start f h given taken = λ j. absurd (not_started bytes j h.1)
  unasked (Some bytes) (Session kind) f h given taken = λ j. absurd (not_failed bytes kind j h)
  unasked (Some bytes) Memory f h given taken = λ j. inr refl
  unasked (Some bytes) r f h given taken = absurd h

  unchecked : (left : Option (List ℕ)) (r : Refusal) → Fails source_failed sink_failed r → WhyNotChecked state allows call (leaving left) after r → ¬ source_failed → IfSome left (λ bytes. IsNoJob bytes → (status_of r ≡ 3) ⊎ (status_of r ≡ 7))
  unchecked None r f h given = tt
  unchecked (Some bytes) (Job why) f h given = λ none. inl refl
  unchecked (Some bytes) (Encode kind) f h given = λ none. absurd (none h.0 h.1)
  unchecked (Some bytes) Source f h given = absurd (given f)
  unchecked (Some bytes) Sink f h given = λ none. absurd (none h.0 h.1)
  unchecked (Some bytes) Start f h given = λ none. absurd (none h.1.0 h.1.1)
  unchecked (Some bytes) (Session kind) f h given = λ none. absurd (none h.0 h.1)
  unchecked (Some bytes) Memory f h given = λ none. inr refl
  unchecked (Some bytes) r f h given = absurd h

  -- nothing else is said of what reads no job
  others_complete : (asked : Option (Asked Command)) (status : ℕ) → (asked ≡ Some (Own Script) → ⊥) → (asked ≡ Some (Own Check) → ⊥) → (asked ≡ Some (Own Generate) → ¬ sink_failed → (status ≡ 0) ⊎ (status ≡ 7)) → ((asked ≡ Some Help) ⊎ (asked ≡ Some Version) → ¬ sink_failed → (status ≡ 0) ⊎ (status ≡ 7))
      → IsComplete asked before.left source_failed sink_failed Unstarted status
  others_complete asked status script check summarized printed = record {
    accepted = λ p. absurd (script p);
    checked = λ p. absurd (check p);
    unwritten = λ p. absurd (script p);
    unanswered = λ p. absurd (check p);
    unasked = λ p. absurd (check p);
    rejected = λ p. absurd (⊎_elim script check p);
    summarized = summarized;
    printed = printed;
  }

  pub refused_complete : (asked : Option (Asked Command)) (r : Refusal) → Fails source_failed sink_failed r → Knows before after (λ command b a. WhyNotDone state allows call b a command) asked r → IsComplete asked before.left source_failed sink_failed Unstarted (status_of r)
  refused_complete (Some (Own Script)) r f h = record {
    accepted = λ p. accepted before.held after.held source_failed sink_failed before.left r f h;
    checked = λ p. absurd cc;
    unwritten = λ p. unwritten before.held after.held source_failed sink_failed before.left r f h;
    unanswered = λ p. absurd cc;
    unasked = λ p. absurd cc;
    rejected = λ p. rejected before.held after.held source_failed sink_failed before.left r f h;
    summarized = λ p. absurd cc;
    printed = λ p taken. absurd (⊎_elim (λ q. cc) (λ q. cc) p);
  }
  refused_complete (Some (Own Check)) r f h = record {
    accepted = λ p. absurd cc;
    checked = λ p. checked before.left r f h;
    unwritten = λ p. absurd cc;
    unanswered = λ p. unanswered before.left r f h;
    unasked = λ p. unasked before.left r f h;
    rejected = λ p. unchecked before.left r f h;
    summarized = λ p. absurd cc;
    printed = λ p taken. absurd (⊎_elim (λ q. cc) (λ q. cc) p);
  }
  refused_complete (Some (Own Generate)) r f h = others_complete (Some (Own Generate)) (status_of r) (λ p. cc) (λ p. cc) (λ p. put_refused source_failed sink_failed r f h) (λ p taken. absurd (⊎_elim (λ q. cc) (λ q. cc) p))
  refused_complete (Some Help) r f h = others_complete (Some Help) (status_of r) (λ p. cc) (λ p. cc) (λ p. absurd cc) (λ p. put_refused source_failed sink_failed r f h)
  refused_complete (Some Version) r f h = others_complete (Some Version) (status_of r) (λ p. cc) (λ p. cc) (λ p. absurd cc) (λ p. put_refused source_failed sink_failed r f h)
  refused_complete None r f h = absurd h

  -- what is done is the script of a job without fault, where one was asked for
  was_printed : (P : List ℕ → Type 0) → ((bytes : List ℕ) → IsFaultlessJob bytes → P bytes) → (generation : Option (ℕ × ℕ)) (asked : Option (Asked Command)) → Does before after (λ command b a. IsDone state allows call b a generation command) asked → asked ≡ Some (Own Script) → IfSome before.left P
  was_printed P so generation (Some (Own Script)) d p = of_told (Prints before.held after.held) P before.left (λ bytes x. so bytes (x.job, x.is_job, x.faultless)) d.holds
  was_printed P so generation (Some (Own Check)) d p = absurd cc
  was_printed P so generation (Some (Own Generate)) d p = absurd cc
  was_printed P so generation (Some Help) d p = absurd cc
  was_printed P so generation (Some Version) d p = absurd cc
  was_printed P so generation None d p = absurd d

  -- or its verdicts
  was_checked : (P : List ℕ → Type 0) → ((bytes : List ℕ) → IsFaultlessJob bytes → P bytes) → (generation : Option (ℕ × ℕ)) (asked : Option (Asked Command)) → Does before after (λ command b a. IsDone state allows call b a generation command) asked → asked ≡ Some (Own Check) → IfSome before.left P
  was_checked P so generation (Some (Own Check)) d p = of_told (Checks state allows call before after) P before.left (λ bytes x. so bytes (x.job, x.is_job, x.faultless)) d.holds
  was_checked P so generation (Some (Own Script)) d p = absurd cc
  was_checked P so generation (Some (Own Generate)) d p = absurd cc
  was_checked P so generation (Some Help) d p = absurd cc
  was_checked P so generation (Some Version) d p = absurd cc
  was_checked P so generation None d p = absurd d

  pub done_complete : (generation : Option (ℕ × ℕ)) (asked : Option (Asked Command)) (status : ℕ) → Does before after (λ command b a. IsDone state allows call b a generation command) asked → (¬ sink_failed → (status ≡ 0) ⊎ (status ≡ 7)) → IsComplete asked before.left source_failed sink_failed Unstarted status
  done_complete generation asked status d good = record {
    accepted = λ p given taken. was_printed (λ bytes. IsFaultlessJob bytes → (status ≡ 0) ⊎ (status ≡ 7)) (λ bytes x j. good taken) generation asked d p;
    checked = λ p given taken started. was_checked (λ bytes. IsFaultlessJob bytes → (status ≡ 0) ⊎ ((status ≡ 7) ⊎ (status ≡ 8))) (λ bytes x j. ⊎_elim (λ q. inl q) (λ q. inr (inl q)) (good taken)) generation asked d p;
    unwritten = λ p given taken. was_printed (λ bytes. IsFaultyScript bytes → (status ≡ 4) ⊎ (status ≡ 7)) (λ bytes x j. absurd (some_fault bytes j x)) generation asked d p;
    unanswered = λ p given taken started. was_checked (λ bytes. IsFaultyScript bytes → (status ≡ 4) ⊎ ((status ≡ 7) ⊎ (status ≡ 8))) (λ bytes x j. absurd (some_fault bytes j x)) generation asked d p;
    unasked = λ p given taken. was_checked (λ bytes. IsFaultyAtFirst bytes → (status ≡ 4) ⊎ (status ≡ 7)) (λ bytes x j. absurd (none_at_first bytes j x.0 x.1 (part_at_first x.0 x.2))) generation asked d p;
    rejected = λ p given. ⊎_elim (was_printed (λ bytes. IsNoJob bytes → (status ≡ 3) ⊎ (status ≡ 7)) (λ bytes x none. absurd (none x.0 x.1)) generation asked d) (was_checked (λ bytes. IsNoJob bytes → (status ≡ 3) ⊎ (status ≡ 7)) (λ bytes x none. absurd (none x.0 x.1)) generation asked d) p;
    summarized = λ p taken. good taken;
    printed = λ p taken. good taken;
  }

  -- words that are no command are said to be none
  pub misused_complete : (asked : Option (Asked Command)) (status : ℕ) → asked ≡ None → IsComplete asked before.left source_failed sink_failed Unstarted status
  misused_complete None status none = others_complete None status (λ p. cc) (λ p. cc) (λ p. absurd cc) (λ p taken. absurd (⊎_elim (λ q. cc) (λ q. cc) p))
  misused_complete (Some x) status none = absurd cc
