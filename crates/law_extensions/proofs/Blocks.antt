-- Ranges as the addresses between two, and when one range lies in another.
use Rattle.std.proofs.Common.{◌≡◌, ℕ, ◌+◌, ◌-◌, ◌*◌, ◌/◌, ◌%◌, ◌^◌, ◌<◌, ◌≤◌, ap, ◌∙◌, subst, arith}
use Rattle.std.proofs.Math.Nat.{div-add-mod', mod-lt}
use Rattle.std.proofs.lemmas.Nat.{pow_pos, div-mul-add}
use Rattle.smt_ext.specs.IpRanges.{IsIn, LiesIn, Range, address_bits, free_bits}
use Rattle.law_extensions.specs.Bounds.{highest, lowest}
use Rattle.law_extensions.specs.Laws.{RangesAreBlocks}
use Rattle.law_extensions.proofs.Shifts.{block_fits}

-- numbers with one quotient by m lie from its first to its last
within : (m a b : ℕ) → 0 < m → a / m ≡ b / m → (b / m * m ≤ a) × (a ≤ b / m * m + (m - 1))
within m a b p e =
    let q : a / m * m ≡ b / m * m = ap (λ x. x * m) e in
    let parts : a / m * m + a % m ≡ a = div-add-mod' a m in
    let left : a % m < m = mod-lt a p in
    (omega arith, omega arith)

shared : (m a b : ℕ) → 0 < m → b / m * m ≤ a → a ≤ b / m * m + (m - 1) → a / m ≡ b / m
shared m a b p low high =
    let e : a ≡ b / m * m + (a - b / m * m) = omega arith in
    ap (λ x. x / m) e ∙ div-mul-add (b / m) m (a - b / m * m) (omega arith)

is_between : (a : ℕ) (r : Range) → IsIn a r → (lowest r ≤ a) × (a ≤ highest r)
is_between a r h = within (2 ^ free_bits r) a r.address (pow_pos (free_bits r)) h.has_prefix

is_in : (a : ℕ) (r : Range) → a < 2 ^ address_bits r.family → lowest r ≤ a → a ≤ highest r → IsIn a r
is_in a r small low high = record { is_address = small; has_prefix = shared (2 ^ free_bits r) a r.address (pow_pos (free_bits r)) low high }

-- the highest address is one
top : (r : Range) → r.address < 2 ^ address_bits r.family → highest r < 2 ^ address_bits r.family
top r small =
    let p : 0 < 2 ^ free_bits r = pow_pos (free_bits r) in
    let fits : lowest r + 2 ^ free_bits r ≤ 2 ^ address_bits r.family = block_fits (address_bits r.family) r.address (free_bits r) small (omega arith) in
    omega arith

pub ranges_are_blocks : RangesAreBlocks
ranges_are_blocks r h a = (
  is_between a r,
  λ between.
      let high : highest r < 2 ^ address_bits r.family = top r h.address in
      is_in a r (omega (arith, between.1)) between.0 between.1,
)

pub lies_between : (r t : Range) → r.address < 2 ^ address_bits r.family → LiesIn r t → (highest r ≤ highest t) × (lowest t ≤ lowest r)
lies_between r t small h =
    let high : highest r < 2 ^ address_bits r.family = top r small in
    let p : 0 < 2 ^ free_bits r = pow_pos (free_bits r) in
    let last = is_between (highest r) t (h.every (highest r) (is_in (highest r) r high (omega arith) (omega arith))) in
    let first = is_between (lowest r) t (h.every (lowest r) (is_in (lowest r) r (omega arith) (omega arith) (omega arith))) in
    (last.1, first.0)

pub lies_in : (r t : Range) → r.family ≡ t.family → highest r ≤ highest t → lowest t ≤ lowest r → LiesIn r t
lies_in r t same high low = record {
  one_family = same;
  every =
      λ a h.
      let between = is_between a r h in
      let from : lowest t ≤ a = omega (arith, between.0) in
      let to : a ≤ highest t = omega (arith, between.1) in
      is_in a t (subst (λ f. a < 2 ^ address_bits f) same h.is_address) from to;
}
