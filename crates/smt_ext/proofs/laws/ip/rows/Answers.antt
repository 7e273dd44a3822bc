use Rattle.std.proofs.Common.{◌+◌, ◌*◌, ◌^◌, [], ◌∷◌, Some, None, refl, arith, inr}
use Rattle.std.specs.Prelude.{codes}
use Rattle.std.specs.Fmt.{digits}
use Rattle.smt_ext.specs.IpRows.{ten_24, ten_29, counted, every_v4}
use Rattle.smt_ext.specs.IpText.{IsDotted, IsColonText}
use Rattle.smt_ext.proofs.IpContained.{LiesIn-from, LiesIn-shares}
use Rattle.smt_ext.proofs.laws.ip.rows.Goals as goal

one_to_four : IsDotted (codes "1.2.3.4") 0x01020304
unfolding digits
one_to_four = record { a = 1; b = 2; c = 3; d = 4; small = omega arith; text_is = refl; address_is = refl }

sevens_written : IsColonText (codes "7:70:700:7000::a00") (7 * 2 ^ 112 + 0x70 * 2 ^ 96 + 0x700 * 2 ^ 80 + 0x7000 * 2 ^ 64 + 0xa00)
sevens_written = record {
  numbers = 7 ∷ 0x70 ∷ 0x700 ∷ 0x7000 ∷ 0 ∷ 0 ∷ 0 ∷ 0xa00 ∷ [];
  eight = refl;
  groups =
      inr (record {
        front_text = codes "7:70:700:7000";
        back_text = codes "a00";
        front = 7 ∷ 0x70 ∷ 0x700 ∷ 0x7000 ∷ [];
        back = 0xa00 ∷ [];
        text_is = refl;
        front_groups = (codes "7", _, refl, omega arith, (codes "70", _, refl, omega arith, (codes "700", _, refl, omega arith, (codes "7000", [], refl, omega arith, refl))));
        back_groups = (codes "a00", [], refl, omega arith, refl);
        at_most_seven = omega arith;
        numbers_are = refl;
      });
  address_is = refl;
}

pub returns : goal.returns
unfolding digits
returns c = record {
  free = refl;
  last = record { is_address = omega arith; has_prefix = refl };
  next = λ h. omega (arith, h.has_prefix);
  inner = LiesIn-from ten_29 ten_24 refl (omega arith) refl;
  outer = λ h. omega (arith, (LiesIn-shares ten_24 ten_29 (omega arith) h).0);
  one_of_all = LiesIn-from counted every_v4 refl (omega arith) refl;
  all_of_one = λ h. omega (arith, (LiesIn-shares every_v4 counted (omega arith) h).0);
  all_bits = refl;
  no_bits = refl;
  printed_v4 = refl;
  printed_v6 = refl;
  written_v4 = record { address_text = codes "1.2.3.4"; digits = None; text_is = refl; address = one_to_four; prefix = refl };
  written_whole = record { address_text = codes "1.2.3.4"; digits = Some (codes "32"); text_is = refl; address = one_to_four; prefix = (32, omega arith, refl, refl) };
  written_v6 = record { address_text = codes "7:70:700:7000::a00"; digits = Some (codes "128"); text_is = refl; address = sevens_written; prefix = (128, omega arith, refl, refl) };
}
