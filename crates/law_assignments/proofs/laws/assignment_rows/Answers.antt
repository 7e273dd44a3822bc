use Rattle.std.proofs.Common.{◌≡◌, ℕ, ◌<◌, ◌≤◌, ◌^◌, Bool, true, false, [], arith, refl}
use Rattle.std.specs.Prelude.{Some, None}
use Rattle.law_assignments.specs.Sound.{IsValueTerm}
use Rattle.law_folding.specs.Applications.{bits_literal, truth_literal}
use Rattle.law_terms.specs.Faults.{literal_fault}
use Rattle.law_terms.specs.Formed.{IsFormedLiteral, IsFormedType}
use Rattle.law_terms.specs.Plain.{BitVecType, BoolType, Ipv6Of, PlainLiteral, BitVecLiteral, BoolLiteral, ExtensionLiteral, LiteralTerm}
use Rattle.law_terms.specs.Types.{literal_type}
use Rattle.law_assignments.specs.Rows.{EvaluationRows, GivenIsSound, MissingRows, OthersAreNotSound}
use Rattle.law_assignments.proofs.laws.assignment_rows.Goals as goal

evaluation : EvaluationRows
evaluation = record { negated = refl; bits = refl; far = refl; functions = refl; options = refl; selectors = refl; prefix = refl; sets = refl; records = refl; chosen = refl }

missing : MissingRows
missing = record { none = refl; argument = refl; function = refl; get = refl; other_get = refl; selector = refl; other_selector = refl; other_type = refl }

-- a literal by itself
value : (l : PlainLiteral) → IsFormedLiteral l → IsFormedType (literal_type l) → literal_fault [] l ≡ None → IsValueTerm [] (literal_type l) (LiteralTerm l)
value l f t n = record { literal = refl; type = record { parts = refl; type = refl }; formed = record { literals = (f, tt); types = (t, tt) }; faultless = (n, tt) }

truth : (b : Bool) → IsValueTerm [] BoolType (truth_literal b)
truth b = value (BoolLiteral b) tt (tt, tt) refl

number : (n x : ℕ) → 1 ≤ n → n ≤ 128 → x < 2 ^ n → IsValueTerm [] (BitVecType n) (bits_literal n x)
number n x h k l = value (BitVecLiteral n x) l ((h, k), tt) refl

sound : GivenIsSound
sound = record {
  variables = (truth false, (number 8 127 (omega arith) (omega arith) (omega arith), tt));
  functions = (
    record {
      keys = (number 8 127 (omega arith) (omega arith) (omega arith), tt);
      distinct = (refl, tt);
      answers = (number 8 9 (omega arith) (omega arith) (omega arith), tt);
      elsewhere = number 8 0 (omega arith) (omega arith) (omega arith);
    },
    tt,
  );
  gets = (truth true, tt);
  selectors = (
    record {
      table = record {
        keys = (value (ExtensionLiteral (Ipv6Of 0 (Some 0))) (omega arith, omega arith) (tt, tt) refl, tt);
        distinct = (refl, tt);
        answers = (number 32 7 (omega arith) (omega arith) (omega arith), tt);
        elsewhere = number 32 5 (omega arith) (omega arith) (omega arith);
      };
      argument = refl;
      output = refl;
      families = (refl, tt);
    },
    tt,
  );
}

others : OthersAreNotSound
others = (λ s. (let e = s.gets.0.type.type in cc), λ s. (let e = s.selectors.0.families.0 in cc))

pub returns : goal.returns
returns c = record { evaluation = evaluation; missing = missing; sound = sound; others = others }
