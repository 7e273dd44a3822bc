-- Pairs of terms as data: the lowest and the highest address of a range.
use Rattle.std.specs.Prelude.{ℕ}
use Rattle.law_numbers.specs.BitOperators.{BvaddOp, BvshlOp, BvsubOp, BvuleOp}
use Rattle.law_folding.specs.Applications.{bits_literal}
use Rattle.law_folding.specs.Builder.{Builder, folding}
use Rattle.law_terms.specs.Plain.{PlainTerm}
use Rattle.smt_term.specs.View.{plain_term}
use Rattle.smt_term.specs.declared.term.Term.{Term}

-- what a pair of terms says
abbrev pub plain_pair : (Term × Term) → (PlainTerm × PlainTerm)
plain_pair p = (plain_term p.0, plain_term p.1)

-- the first range lies in the second: its highest address is at most the second's, and its lowest at least the second's
abbrev pub lies_in : Builder → (inner outer : PlainTerm × PlainTerm) → PlainTerm
lies_in b p q = b.and (b.test BvuleOp p.1 q.1) (b.test BvuleOp q.0 p.0)

-- the last address of a block, from its lowest one and the number of its free bits
abbrev pub last_from : (width : ℕ) → (lowest free : PlainTerm) → PlainTerm
last_from n l f = folding.bits BvsubOp (folding.bits BvaddOp l (folding.bits BvshlOp (bits_literal n 1) f)) (bits_literal n 1)
