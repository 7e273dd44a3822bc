-- What blasting answers.
use Rattle.std.specs.Prelude.{◌≡◌, Option, Some, None, Result, Ok, Err}
use Rattle.law_blasting.specs.Refusals.{Refusal, UnsupportedOperator, UnsupportedType as TypeRefusal}
use Rattle.smt_term.specs.View.{plain_op, plain_type}
use Rattle.smt_blast.specs.declared.blasted.Blasted.{Blasted}
use Rattle.smt_blast.specs.declared.error.BlastError.{BlastError}
use Rattle.smt_blast.specs.declared.error.BlastError.TheVariants.{Unsupported, UnsupportedType, Memory}

-- An answer where the walk over the old terms has this refusal, or none: new terms only where it has none, and else the refusal. Want of
-- memory may come at any time.
abbrev pub Answers : Option Refusal → Result Blasted BlastError → Type 0
Answers r (Ok b) = r ≡ None
Answers r (Err (Unsupported op)) = r ≡ Some (UnsupportedOperator (plain_op op))
Answers r (Err (UnsupportedType ty)) = r ≡ Some (TypeRefusal (plain_type ty))
Answers r (Err Memory) = Unit {0}
