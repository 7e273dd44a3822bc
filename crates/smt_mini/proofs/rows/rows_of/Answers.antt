use Rattle.std.proofs.Common.{◌≤◌, ◌^◌, ap, sym, ◌∙◌, refl, ltb, min, arith}
use Rattle.std.proofs.Math.Nat.{min-eq_right}
use Rattle.smt_mini.proofs.RowBits.{first_rows}
use Rattle.smt_mini.proofs.rows.rows_of.Goals as goal

pub returns-in-0 : goal.returns-in-0
returns-in-0 c r l = first_rows 1 0 refl r l ∙ ap (λ n. ltb r (2 ^ min n 6)) (sym c.in-0.is)

pub returns-in-1 : goal.returns-in-1
returns-in-1 c r l = first_rows 3 1 refl r l ∙ ap (λ n. ltb r (2 ^ min n 6)) (sym c.in-1.is)

pub returns-in-2 : goal.returns-in-2
returns-in-2 c r l = first_rows 15 2 refl r l ∙ ap (λ n. ltb r (2 ^ min n 6)) (sym c.in-2.is)

pub returns-in-3 : goal.returns-in-3
returns-in-3 c r l = first_rows 255 3 refl r l ∙ ap (λ n. ltb r (2 ^ min n 6)) (sym c.in-3.is)

pub returns-in-4 : goal.returns-in-4
returns-in-4 c r l = first_rows 65535 4 refl r l ∙ ap (λ n. ltb r (2 ^ min n 6)) (sym c.in-4.is)

pub returns-in-5 : goal.returns-in-5
returns-in-5 c r l = first_rows 4294967295 5 refl r l ∙ ap (λ n. ltb r (2 ^ min n 6)) (sym c.in-5.is)

pub returns-in_default : goal.returns-in_default
returns-in_default c r l =
    let many : 6 ≤ c.args.total = omega (arith, c.in_default) in
    first_rows 18446744073709551615 6 refl r l ∙ ap (λ n. ltb r (2 ^ n)) (sym (min-eq_right {n = 6} {m = c.args.total} many))
