-- Truths as a number that counts up.
use Rattle.std.specs.Prelude.{◌≡◌, ◌+◌, ◌*◌, ◌≤◌, ℕ, Bool, List, [], ◌∷◌, false, true, length}
use Rattle.law_clauses.specs.Clauses.{HaveNoSolution, Solves}
use Rattle.smt_search.specs.Given.{truths_of}
use Rattle.smt_search.specs.declared.odometer.Tried.{Tried}
use Rattle.smt_search.specs.declared.odometer.Tried.TheVariants.{Found, Refuted, Spent}

-- a truth as a bit
abbrev pub bit_of : Bool → ℕ
bit_of true = 1
bit_of false = 0

-- the number whose bits are these truths, the lowest first
abbrev pub number : List Bool → ℕ
number [] = 0
number (b ∷ bs) = bit_of b + 2 * number bs

-- no list of truths as long has a greater number
abbrev pub IsLast : List Bool → Type 0
IsLast bs = (cs : List Bool) → length cs ≡ length bs → number cs ≤ number bs

-- what was found after trying: truths that solve the clauses, that there are none, or that no conflict was left
abbrev pub IsTried : List (List ℕ) → List Bool → ℕ → Tried → Type 0
IsTried cs values left Found = Solves (truths_of values) cs
IsTried cs values left Refuted = HaveNoSolution cs
IsTried cs values left Spent = left ≡ 0
