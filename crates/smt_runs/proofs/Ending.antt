-- What follows of how a run ended.
use Rattle.std.proofs.Common.{◌≡◌, ℕ, ◌⊎◌, List, Option, Some, None, Ok, Err, Result, inl, inr, refl, subst, sym}
use Rattle.std.specs.Prelude.{IfErr}
use Rattle.smt_program.specs.Ends.{IsUnput}
use Rattle.smt_program.specs.declared.words.Asked.{Asked}
use Rattle.smt_program.specs.declared.words.Asked.TheVariants.{Own, Help, Version}
use Rattle.smt_script.specs.declared.sink.SinkError.{SinkError}
use Rattle.smt_script.specs.declared.sink.SinkError.TheVariants.{Fault as SinkFault, Memory as SinkWant}
use Rattle.smt_runs.specs.Refusal.{sink_refusal, status_of}
use Rattle.smt_runs.specs.Runs.{Around, Does, Fails, HasCause, IsPutRefusal, Knows, Reports, seen}
use Rattle.smt_runs.specs.declared.refusal.Refusal.{Refusal}
use Rattle.smt_runs.specs.declared.refusal.Refusal.TheVariants.{Sink, Memory}

-- a text is not put for want of memory alone, where the sink does not fail
pub put_refused : (source_failed sink_failed : Type 0) (r : Refusal) → Fails source_failed sink_failed r → IsPutRefusal r → ¬ sink_failed → (status_of r ≡ 0) ⊎ (status_of r ≡ 7)
put_refused source_failed sink_failed Sink f h taken = absurd (taken f)
put_refused source_failed sink_failed Memory f h taken = inr refl
put_refused source_failed sink_failed r f h taken = absurd h

module _ {C : Type 0} (Complete : ℕ → Type 0) (asked : Option (Asked C)) (usage : List ℕ) (untouched quiet : Type 0) (Said : List ℕ → Type 0) (source_failed sink_failed : Type 0) (Known : Refusal → Type 0) (Done : Type 0) (status : ℕ) where
  -- What holds of a status where all is done, though perhaps not flushed, where the words are no command, and where a refusal came before,
  -- holds of that of the run.
  pub complete_by : ((n : ℕ) → Done → (¬ sink_failed → (n ≡ 0) ⊎ (n ≡ 7)) → Complete n) → (asked ≡ None → Complete status) → ((r : Refusal) → Fails source_failed sink_failed r → Known r → Complete (status_of r))
      → (status ≡ 0 → Done) → Reports asked usage untouched quiet Said (HasCause source_failed sink_failed Known Done) status → Complete status
  complete_by done misused refused zero (inl h) = done status (zero h.0) (λ taken. inl h.0)
  complete_by done misused refused zero (inr (inl m)) = misused m.unnamed
  complete_by done misused refused zero (inr (inr e)) =
      subst Complete (sym e.status_is) (elim e.why.known [
        | inl known ↦ refused e.refusal e.why.failed known
        | inr put ↦ done (status_of e.refusal) put.0 (λ taken. put_refused source_failed sink_failed e.refusal e.why.failed put.1 taken)
      ])

-- ---- texts that are not put

-- why a text was not put, of a refusal that its sink's error became
abbrev pub IsUnputText : (failed : Type 0) → Refusal → Type 0
IsUnputText failed refusal = IsUnput (λ error r. r ≡ sink_refusal error) failed refusal

put_error : (e : SinkError) → IsPutRefusal (sink_refusal e)
put_error SinkFault = tt
put_error SinkWant = tt

pub error_fails : (source_failed failed : Type 0) (e : SinkError) → (e ≡ SinkFault → failed) → Fails source_failed failed (sink_refusal e)
error_fails source_failed failed SinkFault h = h refl
error_fails source_failed failed SinkWant h = tt

pub unput_known : (failed : Type 0) (r : Refusal) → IsUnputText failed r → IsPutRefusal r
unput_known failed r h = subst IsPutRefusal (sym h.1) (put_error h.0)

-- of a result
pub unput_is_failed : {T : Type 0} (source_failed failed : Type 0) (result : Result T Refusal) → IfErr result (IsUnputText failed) → IfErr result (Fails source_failed failed)
unput_is_failed source_failed failed (Ok x) h = tt
unput_is_failed source_failed failed (Err r) h = subst (Fails source_failed failed) (sym h.1) (error_fails source_failed failed h.0 h.2)

-- ---- what a run does, by what is told of what stands beside it

module _ {C P Q : Type 0} (tells : P → Q) (before after : Around P) where
  pub does_seen : (D : C → (before after : Around P) → Type 0) (E : C → (before after : Around Q) → Type 0) → ((c : C) → D c before after → E c (seen tells before) (seen tells after)) → (asked : Option (Asked C)) → Does before after D asked → Does (seen tells before) (seen tells after) E asked
  does_seen D E so (Some (Own c)) d = so c d
  does_seen D E so (Some Help) d = d
  does_seen D E so (Some Version) d = d
  does_seen D E so None d = d

  pub knows_seen : (D : C → (before after : Around P) → Refusal → Type 0) (E : C → (before after : Around Q) → Refusal → Type 0) → ((c : C) (r : Refusal) → D c before after r → E c (seen tells before) (seen tells after) r) → (asked : Option (Asked C)) (r : Refusal) → Knows before after D asked r → Knows (seen tells before) (seen tells after) E asked r
  knows_seen D E so (Some (Own c)) r k = so c r k
  knows_seen D E so (Some Help) r k = k
  knows_seen D E so (Some Version) r k = k
  knows_seen D E so None r k = k

-- a report of a cause is one of what follows of it
module _ {C : Type 0} (asked : Option (Asked C)) (usage : List ℕ) (untouched quiet : Type 0) (Said : List ℕ → Type 0) (status : ℕ) where
  pub reports_too : (source_failed sink_failed : Type 0) (Known Known2 : Refusal → Type 0) (Done Done2 : Type 0) → ((r : Refusal) → Known r → Known2 r) → (Done → Done2) → Reports asked usage untouched quiet Said (HasCause source_failed sink_failed Known Done) status
      → Reports asked usage untouched quiet Said (HasCause source_failed sink_failed Known2 Done2) status
  reports_too source_failed sink_failed Known Known2 Done Done2 known done (inl h) = inl h
  reports_too source_failed sink_failed Known Known2 Done Done2 known done (inr (inl m)) = inr (inl (record { unnamed = m.unnamed; status_is = m.status_is; kept = m.kept; said = m.said }))
  reports_too source_failed sink_failed Known Known2 Done Done2 known done (inr (inr e)) =
      inr (inr (record {
        refusal = e.refusal;
        why = record { failed = e.why.failed; known = elim e.why.known [ inl k ↦ inl (known e.refusal k) | inr d ↦ inr (done d.0, d.1) ] };
        status_is = e.status_is;
        said = e.said;
      }))
