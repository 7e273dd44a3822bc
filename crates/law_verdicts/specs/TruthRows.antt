-- What a formula may be while some of its names have no truth yet: in one row of truths, and in the rows of a word side by side.
use Rattle.std.specs.Prelude.{◌≡◌, ◌<◌, ◌^◌, ℕ, Bool, true, false, not, ◌&&◌, ◌||◌, ◌==◌, if◌then◌else◌, IsTrue, codes, bytes_eq, List, []}
use Rattle.std.specs.Prelude.{◌∷◌, ◌++◌, Option, Some, None, zero, suc}
use Rattle.std.specs.Int.{bit_at}
use Rattle.std.specs.Int.Bits.{bit_and, bit_or}
use Rattle.std.specs.List.{list_all, range_with_len}
use Rattle.std.specs.Option.{option_or}
use Rattle.law_texts.specs.Lexicon.{Name}
use Rattle.law_texts.specs.Reading.{Expression, Leaf, Node, Expressions, Nil, Cons}
use Rattle.law_verdicts.specs.FirstModel.{first_such}
use Rattle.law_verdicts.specs.Fragment.{is_formula}
use Rattle.law_verdicts.specs.Truths.{truth_in}
use Rattle.std.specs.Bool.{beq}

-- ---- one row

-- what is known of a formula while some names have no truth yet: it may be true, may be false, or may be both
pub record May : Type 0 where
  pub holds : Bool
  pub fails : Bool

-- it may have this truth
abbrev pub allows : May → Bool → Bool
allows m b = if b then m.holds else m.fails

-- this truth and no other
abbrev pub just : Bool → May
just b = record { holds = b; fails = not b }

-- it may be nothing
abbrev pub neither : May
neither = record { holds = false; fails = false }

-- what the negation may be
abbrev pub may_not : May → May
may_not a = record { holds = a.fails; fails = a.holds }

-- what the conjunction may be, where each side may be what it may whatever the other is
abbrev pub may_and : May → May → May
may_and a b = record { holds = a.holds && b.holds; fails = a.fails || b.fails }

-- what the disjunction may be
abbrev pub may_or : May → May → May
may_or a b = record { holds = a.holds || b.holds; fails = a.fails && b.fails }

-- what the equality of two truths may be
abbrev pub may_equal : May → May → May
may_equal a b = record { holds = (a.holds && b.holds) || (a.fails && b.fails); fails = (a.holds && b.fails) || (a.fails && b.holds) }

-- what `ite` may be, by what its guard and its branches may be
abbrev pub may_choose : May → May → May → May
may_choose a b c = record { holds = (a.holds && b.holds) || (a.fails && c.holds); fails = (a.holds && b.fails) || (a.fails && c.fails) }

-- what a connective may give, where its arguments may be this
abbrev pub may_connected : List ℕ → List May → May
may_connected f [] = neither
may_connected f (a ∷ []) = may_not a
may_connected f (a ∷ b ∷ []) =
    if bytes_eq f (codes "and") then may_and a b else (if bytes_eq f (codes "or") then may_or a b else may_equal a b)
may_connected f (a ∷ b ∷ c ∷ []) = may_choose a b c
may_connected f (a ∷ b ∷ c ∷ d ∷ ms) = neither

abbrev mutual
  -- what a formula may be, where its names may be this; what is no formula may be nothing
  pub may_in : (List ℕ → May) → Expression → May
  may_in at (Leaf (Name n)) = at n
  may_in at (Leaf a) = neither
  may_in at (Node Nil) = neither
  may_in at (Node (Cons (Leaf (Name f)) es)) = may_connected f (mays_in at es)
  may_in at (Node (Cons e es)) = neither

  -- what each of some formulas may be
  pub mays_in : (List ℕ → May) → Expressions → List May
  mays_in at Nil = []
  mays_in at (Cons e es) = may_in at e ∷ mays_in at es

-- ---- the rows of a word

-- A row is a place of a bit: the formula may be true in the rows of the one word, and false in those of the other.
pub record Rows : Type 0 where
  pub holds : ℕ
  pub fails : ℕ

-- a word has a one at this place, the lowest place being 0
abbrev pub has_bit : ℕ → ℕ → Bool
has_bit word k = bit_at word k == 1

-- what the formula may be in one row
abbrev pub row : ℕ → Rows → May
row k r = record { holds = has_bit r.holds k; fails = has_bit r.fails k }

-- in each row what the negation may be
abbrev pub rows_not : Rows → Rows
rows_not a = record { holds = a.fails; fails = a.holds }

-- in each row what the conjunction may be
abbrev pub rows_and : Rows → Rows → Rows
rows_and a b = record { holds = bit_and a.holds b.holds; fails = bit_or a.fails b.fails }

-- in each row what the disjunction may be
abbrev pub rows_or : Rows → Rows → Rows
rows_or a b = record { holds = bit_or a.holds b.holds; fails = bit_and a.fails b.fails }

-- in each row what the equality may be
abbrev pub rows_equal : Rows → Rows → Rows
rows_equal a b =
    record {
      holds = bit_or (bit_and a.holds b.holds) (bit_and a.fails b.fails);
      fails = bit_or (bit_and a.holds b.fails) (bit_and a.fails b.holds);
    }

-- in each row what `ite` may be
abbrev pub rows_choose : Rows → Rows → Rows → Rows
rows_choose a b c =
    record {
      holds = bit_or (bit_and a.holds b.holds) (bit_and a.fails c.holds);
      fails = bit_or (bit_and a.holds b.fails) (bit_and a.fails c.fails);
    }

-- The truths of a row, for so many names: the first name's is the highest bit of the row's number.
abbrev pub row_truths : ℕ → ℕ → List Bool
row_truths zero k = []
row_truths (suc n) k = has_bit k n ∷ row_truths n k

-- for each of six places the word of 64 rows that has in each row the bit of the row's number at this place
abbrev pub words_of_bits : List (ℕ × ℕ)
words_of_bits =
    (0, 12297829382473034410) ∷ (1, 14757395258967641292) ∷ (2, 17361641481138401520)
    ∷ (3, 18374966859414961920) ∷ (4, 18446462603027742720) ∷ (5, 18446744069414584320) ∷ []

-- in this row each of the six words has the bit of the row's number at its place
abbrev pub has_bits_of : ℕ → Bool
has_bits_of k = list_all (λ p. beq (has_bit p.1 k) (has_bit k p.0)) words_of_bits

-- ---- dropped branches

-- The search behind truths that are chosen already, which drops a branch where nothing may come of it.
abbrev pub first_behind : ℕ → (may holds : List Bool → Bool) → (chosen : List Bool) → Option (List Bool)
first_behind zero may holds chosen = if may chosen && holds chosen then Some chosen else None
first_behind (suc n) may holds chosen =
    if may chosen then option_or (first_behind n may holds (chosen ++ false ∷ [])) (first_behind n may holds (chosen ++ true ∷ []))
    else None

-- ---- the laws

-- What is allowed of the names is allowed of the formula; and where each name is just a truth, the formula is just its own.
pub record FormulasMayBe : Type 0 where
  pub allowed : (has : List ℕ → Bool) (at : List ℕ → May) (truth : List ℕ → Bool) (e : Expression) →
      ((n : List ℕ) → IsTrue (allows (at n) (truth n))) → IsTrue (is_formula has e) → IsTrue (allows (may_in at e) (truth_in truth e))
  pub exact : (has : List ℕ → Bool) (truth : List ℕ → Bool) (e : Expression) → IsTrue (is_formula has e) →
      may_in (λ n. just (truth n)) e ≡ just (truth_in truth e)

-- Each row of the words is computed as it would be alone.
pub record RowsStandAlone : Type 0 where
  pub negation : (k : ℕ) (a : Rows) → row k (rows_not a) ≡ may_not (row k a)
  pub conjunction : (k : ℕ) (a b : Rows) → row k (rows_and a b) ≡ may_and (row k a) (row k b)
  pub disjunction : (k : ℕ) (a b : Rows) → row k (rows_or a b) ≡ may_or (row k a) (row k b)
  pub equality : (k : ℕ) (a b : Rows) → row k (rows_equal a b) ≡ may_equal (row k a) (row k b)
  pub choice : (k : ℕ) (a b c : Rows) → row k (rows_choose a b c) ≡ may_choose (row k a) (row k b) (row k c)

-- The first truths of which a test holds are those of the least row.
pub record LeastRowIsFirst : Type 0 where
  pub found : (n k : ℕ) (holds : List Bool → Bool) → k < 2 ^ n → holds (row_truths n k) ≡ true →
      ((i : ℕ) → i < k → holds (row_truths n i) ≡ false) → first_such n holds ≡ Some (row_truths n k)
  pub none : (n : ℕ) (holds : List Bool → Bool) → ((i : ℕ) → i < 2 ^ n → holds (row_truths n i) ≡ false) → first_such n holds ≡ None
  -- In each of 64 rows the words of six bits have them.
  pub words : IsTrue (list_all has_bits_of (range_with_len 0 64))

-- A search that drops only branches of which nothing can come finds the same.
abbrev pub BranchesMayBeDropped : Type 0
BranchesMayBeDropped =
    (n : ℕ) (may holds : List Bool → Bool) → ((chosen rest : List Bool) → holds (chosen ++ rest) ≡ true → may chosen ≡ true) →
    first_behind n may holds [] ≡ first_such n holds
