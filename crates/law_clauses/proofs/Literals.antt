-- Literals and their negations.
use Rattle.std.proofs.Common.{◌≡◌, ◌+◌, ◌-◌, ◌/◌, ◌%◌, ℕ, arith, ap, refl, sym, ◌∙◌}
use Rattle.std.specs.Prelude.{Bool, true, false, zero, suc, ◌≤◌}
use Rattle.law_clauses.specs.Clauses.{Truths, opposite, literal_truth, negated}

even_next : (l : ℕ) → l % 2 ≡ 0 → (l + 1) % 2 ≡ 1
even_next l h = omega arith

even_half : (l : ℕ) → l % 2 ≡ 0 → (l + 1) / 2 ≡ l / 2
even_half l h = omega arith

odd_before : (l : ℕ) → l % 2 ≡ 1 → (l - 1) % 2 ≡ 0
odd_before l h = omega arith

odd_half : (l : ℕ) → l % 2 ≡ 1 → (l - 1) / 2 ≡ l / 2
odd_half l h = omega arith

twice : (b : Bool) → b ≡ opposite (opposite b)
twice true = refl
twice false = refl

-- the truth of a literal whose rest by two is known
pub truth-even : (v : Truths) (l : ℕ) → l % 2 ≡ 0 → literal_truth v l ≡ v (l / 2)
truth-even v l h = rw (h, literal_truth) refl

pub truth-odd : (v : Truths) (l : ℕ) → l % 2 ≡ 1 → literal_truth v l ≡ opposite (v (l / 2))
truth-odd v l h = rw (h, literal_truth) refl

negated-even : (l : ℕ) → l % 2 ≡ 0 → negated l ≡ l + 1
negated-even l h = rw (h, negated) refl

negated-odd : (l : ℕ) → l % 2 ≡ 1 → negated l ≡ l - 1
negated-odd l h = rw (h, negated) refl

at_even : (v : Truths) (l : ℕ) → l % 2 ≡ 0 → literal_truth v (negated l) ≡ opposite (literal_truth v l)
at_even v l h = ap (literal_truth v) (negated-even l h) ∙ (truth-odd v (l + 1) (even_next l h) ∙ (ap (λ (n : ℕ). opposite (v n)) (even_half l h) ∙ ap opposite (sym (truth-even v l h))))

at_odd : (v : Truths) (l : ℕ) → l % 2 ≡ 1 → literal_truth v (negated l) ≡ opposite (literal_truth v l)
at_odd v l h = ap (literal_truth v) (negated-odd l h) ∙ (truth-even v (l - 1) (odd_before l h) ∙ (ap v (odd_half l h) ∙ (twice (v (l / 2)) ∙ ap opposite (sym (truth-odd v l h)))))

by_rest : (v : Truths) (l r : ℕ) → l % 2 ≡ r → r ≤ 1 → literal_truth v (negated l) ≡ opposite (literal_truth v l)
by_rest v l zero h k = at_even v l h
by_rest v l (suc zero) h k = at_odd v l h
by_rest v l (suc (suc r)) h k = absurd (omega arith)

pub negated-truth : (v : Truths) (l : ℕ) → literal_truth v (negated l) ≡ opposite (literal_truth v l)
negated-truth v l = by_rest v l (l % 2) refl (omega arith)
