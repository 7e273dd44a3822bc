-- Whether one literal of an IP range lies in another.
use Rattle.std.proofs.Common.{◌≡◌, ℕ, true, false, Option, refl, ap, sym, ◌∙◌, inl, inr}
use Rattle.std.specs.Prelude.{◌⊎◌, ◌&&◌, ◌==◌, nat_le}
use Rattle.std.proofs.lemmas.Bool.{and_from, and_parts, cond-true, eq-eqb, false≢true, le-leb, leb-true}
use Rattle.law_numbers.specs.BitOperators.{BvuleOp}
use Rattle.smt_ext.specs.IpRanges.{Family, LiesIn, Range, Version4, Version6}
use Rattle.law_extensions.specs.Bounds.{IsRange, highest, lowest, range_literal}
use Rattle.smt_ext.specs.IpOrder.{plain_range}
use Rattle.law_extensions.specs.ExtensionFunctions.{in_range, in_range_lit, is_ipv4, is_ipv6, range_v4, range_v6}
use Rattle.law_extensions.specs.Laws.{IsTruthOf}
use Rattle.law_extensions.proofs.Blocks.{lies_between, lies_in}
use Rattle.law_extensions.proofs.Bounds.{couple, ranges_are_bounded}
use Rattle.law_extensions.proofs.Choices.{chosen_second, false_and, truth_and}
use Rattle.law_folding.specs.Applications.{bits_literal, test_of_two, truth_literal, true_term, false_term}
use Rattle.law_folding.specs.Builder.{folding}
use Rattle.law_terms.specs.Plain.{PlainTerm, TestOp}

-- the same truth, of an equal term
pub truth_at : {t u : PlainTerm} {P : Type 0} → t ≡ u → IsTruthOf u P → IsTruthOf t P
truth_at e w = record { value = w.value; literal = e ∙ w.literal; says = w.says }

-- the same truth, of a statement that says the same
pub truth_of : {t : PlainTerm} {P Q : Type 0} → (P → Q) → (Q → P) → IsTruthOf t P → IsTruthOf t Q
truth_of to from w = record { value = w.value; literal = w.literal; says = (λ h. to (w.says.0 h), λ q. w.says.1 (from q)) }

pub never : {P : Type 0} → (P → ⊥) → IsTruthOf false_term P
never apart = record { value = false; literal = refl; says = (λ h. absurd (false≢true h), λ p. absurd (apart p)) }

-- two literals of n bits are compared
at_most : (n x y : ℕ) → folding.test BvuleOp (bits_literal n x) (bits_literal n y) ≡ truth_literal (nat_le x y)
at_most n x y = cond-true (n == n) (truth_literal (nat_le x y)) (test_of_two (TestOp BvuleOp) (bits_literal n x) (bits_literal n y)) (eq-eqb n n refl)

-- the test of two pairs
abbrev tested : (PlainTerm × PlainTerm) → (PlainTerm × PlainTerm) → PlainTerm
tested p q = folding.and (folding.test BvuleOp p.1 q.1) (folding.test BvuleOp q.0 p.0)

abbrev pair_of : ℕ → Range → (PlainTerm × PlainTerm)
pair_of n r = couple (bits_literal n (lowest r)) (bits_literal n (highest r))

tested_at : (n : ℕ) (r t : Range) → tested (pair_of n r) (pair_of n t) ≡ truth_literal (nat_le (highest r) (highest t) && nat_le (lowest t) (lowest r))
tested_at n r t =
    ap (λ x. folding.and x (folding.test BvuleOp (bits_literal n (lowest t)) (bits_literal n (lowest r)))) (at_most n (highest r) (highest t))
    ∙ ap (folding.and (truth_literal (nat_le (highest r) (highest t)))) (at_most n (lowest t) (lowest r))
    ∙ truth_and (nat_le (highest r) (highest t)) (nat_le (lowest t) (lowest r))

contained_by : (n : ℕ) (range : PlainTerm → (PlainTerm × PlainTerm)) (r t : Range) → range (range_literal r) ≡ pair_of n r → range (range_literal t) ≡ pair_of n t → r.family ≡ t.family → IsRange r → IsTruthOf (in_range folding range (range_literal r) (range_literal t)) (LiesIn r t)
contained_by n range r t e f same h = record {
  value = nat_le (highest r) (highest t) && nat_le (lowest t) (lowest r);
  literal = ap (λ p. tested p (range (range_literal t))) e ∙ ap (tested (pair_of n r)) f ∙ tested_at n r t;
  says = (
    λ test.
        let parts = and_parts (nat_le (highest r) (highest t)) (nat_le (lowest t) (lowest r)) test in
        lies_in r t same (leb-true (highest r) (highest t) parts.0) (leb-true (lowest t) (lowest r) parts.1),
    λ lies.
        let between = lies_between r t h.address lies in
        and_from (nat_le (highest r) (highest t)) (nat_le (lowest t) (lowest r)) (le-leb (highest r) (highest t) between.0) (le-leb (lowest t) (lowest r) between.1),
  );
}

pub contained_v4 : (r t : Range) → IsRange r → IsRange t → r.family ≡ Version4 → t.family ≡ Version4 → IsTruthOf (in_range folding (range_v4 folding) (range_literal r) (range_literal t)) (LiesIn r t)
contained_v4 r t h k e f = contained_by 32 (range_v4 folding) r t (ranges_are_bounded.v4 r h e) (ranges_are_bounded.v4 t k f) (e ∙ sym f) h

pub contained_v6 : (r t : Range) → IsRange r → IsRange t → r.family ≡ Version6 → t.family ≡ Version6 → IsTruthOf (in_range folding (range_v6 folding) (range_literal r) (range_literal t)) (LiesIn r t)
contained_v6 r t h k e f = contained_by 128 (range_v6 folding) r t (ranges_are_bounded.v6 r h e) (ranges_are_bounded.v6 t k f) (e ∙ sym f) h

-- ---- in one of two ranges

of_other : (r t : Range) (f g : Family) → r.family ≡ f → t.family ≡ g → (f ≡ g → ⊥) → LiesIn r t → ⊥
of_other r t f g e k apart lies = apart (sym e ∙ lies.one_family ∙ k)

lit : (f : Family) (a : ℕ) (p : Option ℕ) (x y : Range) → let r : Range = record { family = f; address = a; prefix = p } in IsRange r → IsRange x → IsRange y → x.family ≡ Version4 → y.family ≡ Version6 → IsTruthOf (in_range_lit folding (range_literal r) (plain_range x) (plain_range y)) (LiesIn r x ⊎ LiesIn r y)
lit Version4 a p x y h k l e g =
    let r : Range = record { family = Version4; address = a; prefix = p } in
    let w = contained_v4 r x h k refl e in
    let other : PlainTerm = in_range folding (range_v6 folding) (range_literal r) (range_literal y) in
    truth_at (ap (λ t. folding.ite true_term t other) w.literal) (truth_of inl (λ s. elim s [ inl lies ↦ lies | inr lies ↦ absurd (of_other r y Version4 Version6 refl g (λ z. cc) lies) ]) (record { value = w.value; literal = refl; says = w.says }))
lit Version6 a p x y h k l e g =
    let r : Range = record { family = Version6; address = a; prefix = p } in
    let w = contained_v6 r y h l refl g in
    let other : PlainTerm = in_range folding (range_v4 folding) (range_literal r) (range_literal x) in
    truth_at (ap (folding.ite false_term other) w.literal) (truth_of inr (λ s. elim s [ inl lies ↦ absurd (of_other r x Version6 Version4 refl e (λ z. cc) lies) | inr lies ↦ lies ]) (record { value = w.value; literal = chosen_second other w.value; says = w.says }))

pub contained_lit : (r x y : Range) → IsRange r → IsRange x → IsRange y → x.family ≡ Version4 → y.family ≡ Version6 → IsTruthOf (in_range_lit folding (range_literal r) (plain_range x) (plain_range y)) (LiesIn r x ⊎ LiesIn r y)
contained_lit r = lit r.family r.address r.prefix

-- ---- of the family, and in another range

one_v4 : (r : Range) (f : Family) (a : ℕ) (p : Option ℕ) → let t : Range = record { family = f; address = a; prefix = p } in IsRange r → IsRange t → r.family ≡ Version4 → IsTruthOf (folding.and (is_ipv4 folding (range_literal t)) (in_range folding (range_v4 folding) (range_literal r) (range_literal t))) (LiesIn r t)
one_v4 r Version4 a p h k e =
    let w = contained_v4 r (record { family = Version4; address = a; prefix = p }) h k e refl in
    record { value = w.value; literal = ap (folding.and true_term) w.literal ∙ truth_and true w.value; says = w.says }
one_v4 r Version6 a p h k e =
    let t : Range = record { family = Version6; address = a; prefix = p } in
    truth_at (false_and (in_range folding (range_v4 folding) (range_literal r) (range_literal t))) (never (of_other r t Version4 Version6 e refl (λ z. cc)))

one_v6 : (r : Range) (f : Family) (a : ℕ) (p : Option ℕ) → let t : Range = record { family = f; address = a; prefix = p } in IsRange r → IsRange t → r.family ≡ Version6 → IsTruthOf (folding.and (is_ipv6 folding (range_literal t)) (in_range folding (range_v6 folding) (range_literal r) (range_literal t))) (LiesIn r t)
one_v6 r Version6 a p h k e =
    let w = contained_v6 r (record { family = Version6; address = a; prefix = p }) h k e refl in
    record { value = w.value; literal = ap (folding.and true_term) w.literal ∙ truth_and true w.value; says = w.says }
one_v6 r Version4 a p h k e =
    let t : Range = record { family = Version4; address = a; prefix = p } in
    truth_at (false_and (in_range folding (range_v6 folding) (range_literal r) (range_literal t))) (never (of_other r t Version6 Version4 e refl (λ z. cc)))

pub is_one_v4 : (r t : Range) → IsRange r → IsRange t → r.family ≡ Version4 → IsTruthOf (folding.and (is_ipv4 folding (range_literal t)) (in_range folding (range_v4 folding) (range_literal r) (range_literal t))) (LiesIn r t)
is_one_v4 r t = one_v4 r t.family t.address t.prefix

pub is_one_v6 : (r t : Range) → IsRange r → IsRange t → r.family ≡ Version6 → IsTruthOf (folding.and (is_ipv6 folding (range_literal t)) (in_range folding (range_v6 folding) (range_literal r) (range_literal t))) (LiesIn r t)
is_one_v6 r t = one_v6 r t.family t.address t.prefix
