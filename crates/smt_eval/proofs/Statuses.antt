-- Which status an input, other bytes and words end with.
use Rattle.std.proofs.Common.{◌≡◌, ℕ, ◌⊎◌, List, Option, Some, None, inl, inr, refl, ⊎_elim}
use Rattle.std.specs.Prelude.{IfSome}
use Rattle.smt_program.specs.declared.words.Asked.{Asked}
use Rattle.smt_program.specs.declared.words.Asked.TheVariants.{Own, Help, Version}
use Rattle.smt_runs.specs.Refusal.{status_of}
use Rattle.smt_runs.specs.Runs.{Around, Does, Fails, Knows}
use Rattle.smt_runs.specs.declared.refusal.Refusal.{Refusal}
use Rattle.smt_runs.specs.declared.refusal.Refusal.TheVariants.{Input, Source, Sink, Memory}
use Rattle.smt_runs.proofs.Ending.{put_refused}
use Rattle.smt_runs.proofs.Told.{of_told}
use Rattle.smt_eval.specs.Causes.{IsAnInput, IsNoInput, WhyNotEvaluated}
use Rattle.smt_eval.specs.Run.{Evaluates, IsComplete, ReadsAndEvaluates}
use Rattle.smt_eval.proofs.Inputs.{not_refused}
use Rattle.smt_eval.specs.declared.command.Command.{Command}
use Rattle.smt_eval.specs.declared.command.Command.TheVariants.{Evaluate}

module _ (before after : Around (Unit {0})) (source_failed sink_failed : Type 0) where
  -- an input is refused for want of memory alone
  accepted : (left : Option (List ℕ)) (r : Refusal) → Fails source_failed sink_failed r → WhyNotEvaluated (record before { left = left }) after r → ¬ source_failed → ¬ sink_failed → IfSome left (λ bytes. IsAnInput bytes → (status_of r ≡ 0) ⊎ (status_of r ≡ 7))
  accepted None r f h given taken = tt
  accepted (Some bytes) (Input kind) f h given taken = λ j. absurd (not_refused bytes kind j h.0)
  accepted (Some bytes) Source f h given taken = absurd (given f)
  accepted (Some bytes) Sink f h given taken = absurd (taken f)
  accepted (Some bytes) Memory f h given taken = λ j. inr refl
  accepted (Some bytes) r f h given taken = absurd h

  -- what is no input is refused as such, but for want of memory
  rejected : (left : Option (List ℕ)) (r : Refusal) → Fails source_failed sink_failed r → WhyNotEvaluated (record before { left = left }) after r → ¬ source_failed → IfSome left (λ bytes. IsNoInput bytes → (status_of r ≡ 3) ⊎ (status_of r ≡ 7))
  rejected None r f h given = tt
  rejected (Some bytes) (Input why) f h given = λ none. inl refl
  rejected (Some bytes) Source f h given = absurd (given f)
  rejected (Some bytes) Sink f h given = λ none. absurd (none h.0 h.1 h.2)
  rejected (Some bytes) Memory f h given = λ none. inr refl
  rejected (Some bytes) r f h given = absurd h

  pub refused_complete : (asked : Option (Asked Command)) (r : Refusal) → Fails source_failed sink_failed r → Knows before after (λ _. WhyNotEvaluated) asked r → IsComplete asked before.left source_failed sink_failed (status_of r)
  refused_complete (Some (Own Evaluate)) r f h = record {
    accepted = λ p. accepted before.left r f h;
    rejected = λ p. rejected before.left r f h;
    printed = λ p taken. absurd (⊎_elim (λ q. cc) (λ q. cc) p);
  }
  refused_complete (Some Help) r f h = record {
    accepted = λ p. absurd cc;
    rejected = λ p. absurd cc;
    printed = λ p. put_refused source_failed sink_failed r f h;
  }
  refused_complete (Some Version) r f h = record {
    accepted = λ p. absurd cc;
    rejected = λ p. absurd cc;
    printed = λ p. put_refused source_failed sink_failed r f h;
  }
  refused_complete None r f h = absurd h

  -- what is done is the evaluation of an input, where one was asked for
  was_input : (P : List ℕ → Type 0) → ((bytes : List ℕ) → IsAnInput bytes → P bytes) → (asked : Option (Asked Command)) → Does before after (λ _. ReadsAndEvaluates) asked → asked ≡ Some (Own Evaluate) → IfSome before.left P
  was_input P so (Some (Own Evaluate)) d p = of_told (Evaluates before.held after.held) P before.left (λ bytes x. so bytes (x.job, x.given, x.is_input)) d.holds
  was_input P so (Some Help) d p = absurd cc
  was_input P so (Some Version) d p = absurd cc
  was_input P so None d p = absurd d

  pub done_complete : (status : ℕ) (asked : Option (Asked Command)) → (¬ sink_failed → (status ≡ 0) ⊎ (status ≡ 7)) → Does before after (λ _. ReadsAndEvaluates) asked → IsComplete asked before.left source_failed sink_failed status
  done_complete status asked good d = record {
    accepted = λ p given taken. was_input (λ bytes. IsAnInput bytes → (status ≡ 0) ⊎ (status ≡ 7)) (λ bytes x j. good taken) asked d p;
    rejected = λ p given. was_input (λ bytes. IsNoInput bytes → (status ≡ 3) ⊎ (status ≡ 7)) (λ bytes x none. absurd (none x.0 x.1 x.2)) asked d p;
    printed = λ p taken. good taken;
  }

  -- words that are no command are said to be none
  pub misused_complete : (status : ℕ) (asked : Option (Asked Command)) → asked ≡ None → IsComplete asked before.left source_failed sink_failed status
  misused_complete status None none = record {
    accepted = λ p. absurd cc;
    rejected = λ p. absurd cc;
    printed = λ p taken. absurd (⊎_elim (λ q. cc) (λ q. cc) p);
  }
  misused_complete status (Some x) none = absurd cc
