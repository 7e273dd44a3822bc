-- What reads do to a link that tells its count of faults alone.
use Rattle.std.proofs.Common.{◌≡◌, ◌≤◌, ℕ, List, None, Option, Ok, Err, refl, arith}
use Rattle.smt_solve.specs.Link.{Counts, LinkState, ReadsLine}
use Rattle.smt_solve.specs.declared.link.LineEnd.{LineEnd}
use Rattle.smt_solve.specs.declared.link.LinkError.{LinkError}
use Rattle.smt_solve.specs.declared.link.LinkError.TheVariants.{Fault, Memory}
use Rattle.smt_solve.specs.Children.{faults_with}
use Rattle.smt_solve.specs.Line.{AppendsLine}

-- what a link tells that has failed so often
abbrev pub with_faults : ℕ → LinkState
with_faults faults = record { sent = None; was_read = None; to_come = None; ended = None; killed = None; faults = faults }

-- An error is counted where it is a fault.
error_counts : {T : Type 0} (old new : ℕ) (e : LinkError) → old ≤ new → new ≡ faults_with old e → Counts {T = T} (with_faults old) (with_faults new) (Err e)
error_counts old new Fault later exact = record { later = later; no_fault = tt; cause = λ _. omega (arith, exact) }
error_counts old new Memory later exact = record { later = later; no_fault = tt; cause = λ h. absurd (cc) }

pub reads_line : {F : Type 0} {left left' : Option (List ℕ)} (allows : List ℕ → List ℕ → List ℕ → Type 0) (faults : ℕ) (before after : List ℕ) (limit : ℕ) (end : LineEnd)
    → AppendsLine {E = F} left left' before after limit (Ok end) → ReadsLine allows (with_faults faults) (with_faults faults) before after limit (Ok end)
reads_line allows faults before after limit end h = record {
  piece = h.piece;
  appended = h.appended;
  came = refl;
  was_read = refl;
  ending = h.ending;
  allowed = λ _. tt;
  same_sent = refl;
  same_killed = refl;
  end = refl;
  counts = record { later = omega arith; no_fault = refl; cause = λ h. absurd (cc) };
}

pub fails_read : {F : Type 0} {left left' : Option (List ℕ)} (allows : List ℕ → List ℕ → List ℕ → Type 0) (old new : ℕ) (before after : List ℕ) (limit : ℕ) (e : LinkError) (error : F)
    → old ≤ new → new ≡ faults_with old e → AppendsLine left left' before after limit (Err error) → ReadsLine allows (with_faults old) (with_faults new) before after limit (Err e)
fails_read allows old new before after limit e error later exact h = record {
  piece = h.piece;
  appended = h.appended;
  came = refl;
  was_read = refl;
  ending = tt;
  allowed = tt;
  same_sent = refl;
  same_killed = refl;
  end = refl;
  counts = error_counts old new e later exact;
}
