-- Texts with a number in them are the spellings of expressions.
use Rattle.std.proofs.Common.{◌≡◌, ℕ, ◌^◌, ◌<◌, ◌≤◌, List, ◌++◌, [], length, refl, sym, ap, ◌∙◌, append_assoc, append-nil, arith}
use Rattle.std.proofs.Math.Pow.{pow_mono}
use Rattle.std.specs.Prelude.{codes, decimal}
use Rattle.law_terms.specs.Plain.{ZeroExtendOp}
use Rattle.law_scripts.specs.Sorts.{bit_sort}
use Rattle.law_lines.specs.LineForms.{operator_head}
use Rattle.law_lines.specs.Lines.{bits, next_entity, next_function, next_record, next_term}
use Rattle.law_lines.specs.NameTables.{Tables}
use Rattle.law_lines.specs.Spelling.{numeral, spelled}
use Rattle.law_scripts.proofs.Numerals.{numerals_are_printed}

last : (n k : ℕ) → n ≡ k → n < 10 ^ 64 → decimal n ++ codes ")" ≡ (numeral k ++ []) ++ codes ")"
last n k e small = ap (λ d. d ++ codes ")") (sym (numerals_are_printed n small) ∙ ap numeral e ∙ sym (append-nil (numeral k)))

pub sort_spelled : (n k : ℕ) → n ≡ k → n < 10 ^ 64 → codes "(_ BitVec " ++ (decimal n ++ codes ")") ≡ spelled (bit_sort k)
sort_spelled n k e small = ap (λ l. codes "(_ BitVec " ++ l) (last n k e small)

pub extension_spelled : (n : ℕ) → n < 10 ^ 64 → codes "(_ zero_extend " ++ (decimal n ++ codes ")") ≡ spelled (operator_head (ZeroExtendOp n))
extension_spelled n small = ap (λ l. codes "(_ zero_extend " ++ l) (last n n refl small)

pub bits_spelled : (a n b k : ℕ) → a ≡ b → n ≡ k → a < 10 ^ 64 → n < 10 ^ 64 → codes "(_ bv" ++ (decimal a ++ (codes " " ++ (decimal n ++ codes ")"))) ≡ spelled (bits k b)
bits_spelled a n b k e f small short =
    let number : decimal a ≡ numeral b = sym (numerals_are_printed a small) ∙ ap numeral e in
    let one : decimal a ++ (codes " " ++ (decimal n ++ codes ")")) ≡ (numeral b ++ (codes " " ++ (numeral k ++ []))) ++ codes ")" =
    (λ i. number i ++ (codes " " ++ last n k f short i)) ∙ sym (append_assoc (numeral b) (codes " " ++ (numeral k ++ [])) (codes ")")) in
    ap (λ l. codes "(_ bv" ++ l) one

-- numbers of at most 128 bits have at most 64 digits
pub short_enough : (a n : ℕ) → a < 2 ^ n → n ≤ 128 → a < 10 ^ 64
short_enough a n below most = let m = pow_mono {i = n} {j = 128} most in omega (arith, m, below)

-- the names that are drawn next
pub drawn : (n : ℕ) (name : List ℕ) (s : Tables) → n < 2 ^ 63 → n ≡ length s.terms → name ≡ codes "t" ++ decimal n → name ≡ next_term s
drawn n name s small count named =
    let e : numeral n ≡ decimal n = numerals_are_printed n (omega arith) in
    named ∙ ap (λ d. codes "t" ++ d) (sym e) ∙ ap (λ m. codes "t" ++ numeral m) count

pub drawn_entity : (n : ℕ) (name : List ℕ) (s : Tables) → n < 2 ^ 63 → n ≡ length s.types → name ≡ codes "E" ++ decimal n → name ≡ next_entity s
drawn_entity n name s small count named =
    let e : numeral n ≡ decimal n = numerals_are_printed n (omega arith) in
    named ∙ ap (λ d. codes "E" ++ d) (sym e) ∙ ap (λ m. codes "E" ++ numeral m) count

pub drawn_record : (n : ℕ) (name : List ℕ) (s : Tables) → n < 2 ^ 63 → n ≡ length s.types → name ≡ codes "R" ++ decimal n → name ≡ next_record s
drawn_record n name s small count named =
    let e : numeral n ≡ decimal n = numerals_are_printed n (omega arith) in
    named ∙ ap (λ d. codes "R" ++ d) (sym e) ∙ ap (λ m. codes "R" ++ numeral m) count

pub drawn_function : (n : ℕ) (name : List ℕ) (s : Tables) → n < 2 ^ 63 → n ≡ length s.functions → name ≡ codes "f" ++ decimal n → name ≡ next_function s
drawn_function n name s small count named =
    let e : numeral n ≡ decimal n = numerals_are_printed n (omega arith) in
    named ∙ ap (λ d. codes "f" ++ d) (sym e) ∙ ap (λ m. codes "f" ++ numeral m) count
