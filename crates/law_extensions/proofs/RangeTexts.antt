-- A text is read to a range exactly where it writes that range.
use Rattle.std.proofs.Common.{◌≡◌, ◌⊎◌, ℕ, ◌<◌, ◌&&◌, Bool, true, false, not, cond, eqb, Option, Some, None, List, [], ◌∷◌, ◌++◌, length, take, drop, decimal, refl, sym, ap, ◌∙◌, subst, arith, inl, inr}
use Rattle.std.specs.Prelude.{bytes_eq, nat_le}
use Rattle.std.specs.List.{list_all}
use Rattle.std.specs.Option.{option_or}
use Rattle.std.proofs.lemmas.Bool.{and_parts, eqb-true, leb-true, le-leb, false≢true}
use Rattle.std.proofs.lemmas.Fmt.{digits_value-decimal}
use Rattle.std.proofs.lemmas.List.Folds.{length-prefix_len}
use Rattle.std.proofs.lemmas.Option.{same_Some, none-some}
use Rattle.std.proofs.lemmas.Slice.Eq.{bytes_eq-Decides}
use Rattle.std.proofs.NetLemmas.Options.{and_then_some, cond_some}
use Rattle.law_texts.specs.Digits.{decimal_number}
use Rattle.law_texts.specs.Front.{begins_without, IsRun}
use Rattle.law_texts.proofs.Numbers.{numeral_model}
use Rattle.law_texts.proofs.Runs.{run_at}
use Rattle.smt_ext.specs.IpRanges.{Family, Version4, Version6, Range, address_bits, prefix_of}
use Rattle.smt_ext.specs.IpReader.{HasNo, WritesParts}
use Rattle.smt_ext.specs.IpText.{WritesPrefix, WritesRange, behind_slash}
use Rattle.smt_ext.proofs.IpSplits as Splits
use Rattle.law_extensions.specs.RangeTexts.{address_in, before_slash, behind_first, digits_behind_slash, prefix_in, range_in, range_of_parts}
use Rattle.law_extensions.specs.Readings.{RangesAreRead}
use Rattle.law_extensions.proofs.Addresses.{address_is_read, read_is_address}

-- ---- the text before the slash, and what stands behind it

no_slash : (xs : List ℕ) → list_all (λ b. not (eqb b 47)) xs ≡ true → HasNo 47 xs
no_slash [] h = tt
no_slash (x ∷ xs) h =
    let a = and_parts (not (eqb x 47)) (list_all (λ b. not (eqb b 47)) xs) h in
    (λ e. false≢true (ap (λ (n : ℕ). not (eqb n 47)) (sym e) ∙ a.0), no_slash xs a.1)

slash_first : (rest : List ℕ) → begins_without (λ b. not (eqb b 47)) rest ≡ true → rest ≡ behind_slash (behind_first rest)
slash_first [] h = refl
slash_first (b ∷ rest) h = ap (λ (n : ℕ). n ∷ rest) (eqb-true b 47 (once (eqb b 47) h))
  where
    once : (c : Bool) → not (not c) ≡ true → c ≡ true
    once true e = refl
    once false e = absurd (false≢true e)

slash_splits : (text : List ℕ) → (text ≡ before_slash text ++ behind_slash (digits_behind_slash text)) × HasNo 47 (before_slash text)
slash_splits text =
    let test : ℕ → Bool = λ b. not (eqb b 47) in
    let n = length (before_slash text) in
    let rest = drop n text in
    let r : IsRun test text (before_slash text) rest = run_at test text (before_slash text) rest n refl (ap (λ (m : ℕ). take m text) (sym (length-prefix_len test text))) refl in
    (r.whole ∙ ap (λ (v : List ℕ). before_slash text ++ v) (slash_first rest r.longest), no_slash (before_slash text) r.each)

-- ---- the prefix

read_is_prefix : (most : ℕ) (digits : Option (List ℕ)) (p : Option ℕ) → prefix_in most digits ≡ Some p → WritesPrefix most digits p
read_is_prefix most None p e = sym (same_Some _ _ e)
read_is_prefix most (Some ds) p e =
    let n = decimal_number ds in
    let c = cond_some _ (prefix_of most n) p e in
    let a = and_parts (bytes_eq ds (decimal n)) (nat_le n most) c.0 in
    (n, leb-true n most a.1, (bytes_eq-Decides ds (decimal n)).0 a.0, sym c.1)

prefix_is_read : (most : ℕ) (digits : Option (List ℕ)) (p : Option ℕ) → most < 256 → WritesPrefix most digits p → prefix_in most digits ≡ Some p
prefix_is_read most None p small h = ap Some (sym h)
prefix_is_read most (Some ds) p small (n, le, e, is) =
    let number : decimal_number ds ≡ n = ap (λ (v : List ℕ). decimal_number v) e ∙ digits_value-decimal numeral_model n (omega arith) in
    let f : ℕ → Option (Option ℕ) = λ m. cond (bytes_eq ds (decimal m) && nat_le m most) (Some (prefix_of most m)) None in
    ap f number ∙ rw ((bytes_eq-Decides ds (decimal n)).1 e, le-leb n most le) (ap Some (sym is))

-- ---- the parts

few_bits : (f : Family) → address_bits f < 256
few_bits Version4 = omega arith
few_bits Version6 = omega arith

read_is_parts : (f : Family) (text : List ℕ) (digits : Option (List ℕ)) (r : Range) → range_of_parts f text digits ≡ Some r → WritesParts text digits r
read_is_parts f text digits r e =
    and_then_some _ (address_in f text) r e (λ address a e₁.
    and_then_some _ (prefix_in (address_bits f) digits) r e₁ (λ prefix p e₂.
    subst (WritesParts text digits) (same_Some _ _ e₂) (read_is_address f text address a, read_is_prefix (address_bits f) digits prefix p)))

parts_are_read : (text : List ℕ) (digits : Option (List ℕ)) (r : Range) → WritesParts text digits r → range_of_parts r.family text digits ≡ Some r
parts_are_read text digits r h =
    let a = address_is_read r.family text r.address h.0 in
    let p = prefix_is_read (address_bits r.family) digits r.prefix (few_bits r.family) h.1 in
    rw (a, p) refl

-- ---- the law

either : {A : Type 0} (x y : Option A) (a : A) → option_or x y ≡ Some a → (x ≡ Some a) ⊎ (y ≡ Some a)
either None y a e = inr e
either (Some x) y a e = inl e

read_is_range : (text : List ℕ) (r : Range) → range_in text ≡ Some r → WritesRange text r
read_is_range text r e =
    let front = before_slash text in
    let digits = digits_behind_slash text in
    let s = slash_splits text in
    elim (either (range_of_parts Version4 front digits) (range_of_parts Version6 front digits) r e) [
      | inl h ↦ Splits.range_of_parts text front digits r s.0 (read_is_parts Version4 front digits r h)
      | inr h ↦ Splits.range_of_parts text front digits r s.0 (read_is_parts Version6 front digits r h)
    ]

-- The second is the only one, where the first can only be the same.
second_read : {A : Type 0} (x y : Option A) (a : A) → ((b : A) → x ≡ Some b → b ≡ a) → y ≡ Some a → option_or x y ≡ Some a
second_read None y a only e = e
second_read (Some x) y a only e = ap Some (only x refl)

first_read : {A : Type 0} (x y : Option A) (a : A) → x ≡ Some a → option_or x y ≡ Some a
first_read None y a e = absurd (none-some a e)
first_read (Some x) y a e = e

range_is_read : (text : List ℕ) (r : Range) → WritesRange text r → range_in text ≡ Some r
range_is_read text r h =
    let front = before_slash text in
    let digits = digits_behind_slash text in
    let s = slash_splits text in
    let p = parts_are_read front digits r (Splits.split_writes text front digits r s.0 s.1 h) in
    let four = range_of_parts Version4 front digits in
    let six = range_of_parts Version6 front digits in
    elim (Splits.family_cases r.family) [
      | inl e ↦ first_read four six r (ap (λ (f : Family). range_of_parts f front digits) (sym e) ∙ p)
      | inr e ↦ second_read four six r
          (λ t q. Splits.one_range text t r (Splits.range_of_parts text front digits t s.0 (read_is_parts Version4 front digits t q)) h)
          (ap (λ (f : Family). range_of_parts f front digits) (sym e) ∙ p)
    ]

pub ranges_are_read : RangesAreRead
ranges_are_read text r = (read_is_range text r, range_is_read text r)
