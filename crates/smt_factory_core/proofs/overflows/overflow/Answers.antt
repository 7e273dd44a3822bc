use Rattle.std.proofs.Common.{◌≡◌, ap, ◌∙◌, sym, refl, inl, inr, arith, rules}
use Rattle.std.specs.Prelude.{FitsSigned}
use Rattle.std.specs.Int.{w128}
use Rattle.std.proofs.lemmas.Fn.{says_at_two}
use Rattle.std.proofs.lemmas.Int.{to_z-of_z}
use Rattle.smt_bits.specs.BitVec.{number_of, width_of}
use Rattle.law_numbers.specs.BitVectors.{signed}
use Rattle.smt_factory_core.specs.FoldBy.{leaves}
use Rattle.smt_factory_core.proofs.OutOfRange.{pair_moved}
use Rattle.smt_factory_core.proofs.overflows.overflow.Goals as goal

pub returns-then-ne : goal.returns-then-ne
returns-then-ne g c = inl (record { left = c.in-Some.left; right = c.in-Some-bits_inside.right; first = c.in-Some.ensures; second = c.in-Some-bits_inside.ensures; widths = λ e. grind arith })

pub returns-in_default : goal.returns-in_default
returns-in_default g c = inr (inl c.in_default.ensures)

pub returns : goal.returns
returns g c =
    let w : width_of c.in-Some.left ≡ width_of c.in-Some-bits_inside.right = grind arith in
    let x : FitsSigned w128 c.to_int.result = search rules in
    let y : FitsSigned w128 c.to_int-2.result = search rules in
    record {
      left = c.in-Some.left;
      right = c.in-Some-bits_inside.right;
      answer = c.f-answer.result;
      first = c.in-Some.ensures;
      second = c.in-Some-bits_inside.ensures;
      widths = w;
      gives = pair_moved g.F.Fn _ _ _ _ _ _ (to_z-of_z w128 _ x ∙ c.to_int.ensures) (to_z-of_z w128 _ y ∙ (c.to_int-2.ensures ∙ ap (λ n. signed n (number_of c.in-Some-bits_inside.right)) (sym w))) (says_at_two g.F.Fn c.f-answer.ensures refl);
      tells = c.leaves.ensures ∙ ap (λ n. leaves n c.f-answer.result) c.width-3.ensures;
    }
