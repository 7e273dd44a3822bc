use Rattle.std.proofs.Common.{◌≡◌, Bor, map}
use Rattle.std.specs.Rc.{rc_str_bytes}
use Rattle.std.specs.declared.alloc.Global.{Global}
use Rattle.std.specs.declared.rc.RcStr.{RcStr}
use Rattle.smt_term.specs.View.{plain_field, plain_term}
use Rattle.smt_term.specs.declared.term.Term.{Term}
use Rattle.smt_job_terms.proofs.term.fields_from.Given as goal

abbrev pub invariant-loop-name : goal.invariant-loop-name
invariant-loop-name l = map plain_field l.pairs.items ≡ map (λ (p : Bor (RcStr Global) × Bor Term). (rc_str_bytes p.0.now, plain_term p.1.now)) l.yielded
