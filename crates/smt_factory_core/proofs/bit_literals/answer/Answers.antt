use Rattle.std.proofs.Common.{inl, inr}
use Rattle.std.proofs.lemmas.Fn.{says_at_two}
use Rattle.smt_factory_core.proofs.bit_literals.answer.Goals as goal

pub returns-in-Ok : goal.returns-in-Ok
returns-in-Ok g c = record { left = c.in-Some.left; right = c.in-Some-bits_inside.right; first = c.in-Some.ensures; second = c.in-Some-bits_inside.ensures; gives = says_at_two g.F.Fn c.f.ensures c.in-Ok.is }

pub returns-in-Err : goal.returns-in-Err
returns-in-Err g c = inl (c.in-Err.field-0, record { left = c.in-Some.left; right = c.in-Some-bits_inside.right; first = c.in-Some.ensures; second = c.in-Some-bits_inside.ensures; gives = says_at_two g.F.Fn c.f.ensures c.in-Err.is })

pub returns-in_default : goal.returns-in_default
returns-in_default g c = inr (inl c.in_default.ensures)
