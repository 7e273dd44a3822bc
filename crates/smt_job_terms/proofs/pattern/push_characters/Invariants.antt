use Rattle.std.proofs.Common.{◌≡◌, ◌++◌, map}
use Rattle.smt_term.specs.PatternView.{plain_part}
use Rattle.law_terms.specs.Plain.{Character}
use Rattle.smt_job_terms.proofs.pattern.push_characters.Given as goal

abbrev pub invariant-loop-character : goal.invariant-loop-character
invariant-loop-character l = map plain_part l.elems.items ≡ map plain_part l.initial.elems.items ++ map Character l.yielded
