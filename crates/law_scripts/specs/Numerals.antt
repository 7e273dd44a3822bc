-- Numbers in decimal, and the names that end with one.
use Rattle.std.specs.Prelude.{◌≡◌, ℕ, ◌<◌, ◌+◌, ◌/◌, ◌^◌, false, codes, decimal, List, [], ◌++◌}
use Rattle.std.specs.Fmt.{digits_onto}
use Rattle.law_scripts.specs.Written.{IsName}

-- a number in decimal, however many digits it has
abbrev pub numeral : ℕ → List ℕ
numeral n = digits_onto (64 + n / 10 ^ 64) 10 false n []

-- letters, and a number in decimal behind them
abbrev pub numbered : List ℕ → ℕ → List ℕ
numbered letter n = letter ++ numeral n

-- A number's digits are its own, however large it is.
abbrev pub NumeralsDiffer : Type 0
NumeralsDiffer = (m n : ℕ) → numeral m ≡ numeral n → m ≡ n

-- The digits of a number below 10 ^ 64 are what the program prints.
abbrev pub NumeralsArePrinted : Type 0
NumeralsArePrinted = (n : ℕ) → n < 10 ^ 64 → numeral n ≡ decimal n

-- a letter and a number are a name, and two numbers are two names
abbrev pub NumberedNames : Type 0
NumberedNames = (m n : ℕ) → IsName (numbered (codes "t") m) × (numbered (codes "t") m ≡ numbered (codes "t") n → m ≡ n)
