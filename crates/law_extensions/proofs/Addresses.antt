-- A text is read to an address exactly where it writes that address.
use Rattle.std.proofs.Common.{◌≡◌, ℕ, ◌+◌, ◌-◌, ◌*◌, ◌<◌, Bool, true, false, cond, eqb, Option, Some, None, List, [], ◌∷◌, ◌++◌, length, append-nil, replicate, refl, sym, ap, ◌∙◌, subst, arith, inl, inr, lit≤, length-append}
use Rattle.std.specs.Prelude.{option_map}
use Rattle.std.specs.List.{fold, list_any}
use Rattle.std.specs.Int.{w128, from_be_bytes}
use Rattle.std.specs.Net.Addr.{octets_of}
use Rattle.std.specs.Net.Grammar as Std
use Rattle.std.specs.Net.Reader.{Read, read_ipv4, read_ipv6, whole_value}
use Rattle.std.proofs.lemmas.Bool.{cases_Bool, eqb-true}
use Rattle.std.proofs.lemmas.List.{length-replicate}
use Rattle.std.proofs.NetLemmas.Arrays.{eight_items}
use Rattle.std.proofs.NetLemmas.Ipv4.{read_ipv4_complete, read_ipv4_sound}
use Rattle.std.proofs.NetLemmas.Ipv6.{read_ipv6_complete, read_ipv6_sound, EndsGroups-nil}
use Rattle.std.proofs.NetLemmas.Options.{and_then_some, cond_none, cond_some, map_some}
use Rattle.smt_ext.specs.IpRanges.{Family, Version4, Version6}
use Rattle.smt_ext.specs.IpText.{IsDotted, IsColonText, WritesAddress, joined_groups}
use Rattle.smt_ext.proofs.IpGrammar.{HasNo-colon_text, HasNo-fails_test, HasNo-from_test, colon_text_from_std, colon_to_std, dotted_to_std, bits_of_eight}
use Rattle.law_extensions.specs.RangeTexts.{address_in, colon_text_in, dotted_in}

empty : {A : Type 0} (xs : List A) → eqb (length xs) 0 ≡ true → xs ≡ []
empty [] h = refl
empty (x ∷ xs) h = absurd (let e = eqb-true (length (x ∷ xs)) 0 h in omega arith)

-- What is read of a whole text leaves nothing.
whole_read : {A : Type 0} (r : Read A) (a : A) → whole_value r ≡ Some a → r ≡ Some (a, [])
whole_read {A} r a e =
    and_then_some _ r a e (λ p q f.
    let c = cond_some (eqb (length p.1) 0) p.0 a f in
    let n = empty p.1 c.0 in
    q ∙ (λ i. Some (c.1 i, n i)))

-- ---- IPv4

four_bytes : (a b c d : ℕ) → fold (λ above byte. above * 256 + byte) 0 (a ∷ b ∷ c ∷ d ∷ []) ≡ ((a * 256 + b) * 256 + c) * 256 + d
four_bytes a b c d = omega arith

read_is_dotted : (text : List ℕ) (n : ℕ) → dotted_in text ≡ Some n → IsDotted text n
read_is_dotted text n e =
    map_some _ (whole_value (read_ipv4 text)) n e (λ bytes w is.
    let (front, split, h) = read_ipv4_sound text bytes [] (whole_read (read_ipv4 text) bytes w) in
    record {
      a = h.a;
      b = h.b;
      c = h.c;
      d = h.d;
      small = h.fit;
      text_is = split ∙ append-nil front ∙ h.spelled;
      address_is = sym is ∙ ap (λ (bs : List ℕ). fold (λ above byte. above * 256 + byte) 0 bs) h.value ∙ four_bytes h.a h.b h.c h.d;
    })

dotted_is_read : (text : List ℕ) (n : ℕ) → IsDotted text n → dotted_in text ≡ Some n
dotted_is_read text n h =
    let bytes = h.a ∷ h.b ∷ h.c ∷ h.d ∷ [] in
    let r : read_ipv4 text ≡ Some (bytes, []) = subst (λ (t : List ℕ). read_ipv4 t ≡ Some (bytes, [])) (append-nil text) (read_ipv4_complete text bytes [] (dotted_to_std text n h) (lit≤ tt)) in
    let f : Read (List ℕ) → Option ℕ = λ x. option_map (λ bs. fold (λ above byte. above * 256 + byte) 0 bs) (whole_value x) in
    ap f r ∙ ap Some (four_bytes h.a h.b h.c h.d ∙ sym h.address_is)

-- ---- IPv6

bits_of_groups : (numbers : List ℕ) → length numbers ≡ 8 → from_be_bytes w128 (octets_of numbers) ≡ joined_groups numbers
bits_of_groups numbers eight =
    subst (λ (xs : List ℕ). from_be_bytes w128 (octets_of xs) ≡ joined_groups xs) (sym (eight_items numbers eight)) (bits_of_eight _ _ _ _ _ _ _ _)

eight_filled : (head tail : List ℕ) → length head + length tail < 8 → length (head ++ replicate (8 - length head - length tail) 0 ++ tail) ≡ 8
eight_filled head tail room = simp (length-append, length-replicate) (omega arith)

eight_groups : (text numbers : List ℕ) → Std.IsColonHex text numbers → length numbers ≡ 8
eight_groups text numbers (inl h) = h.1
eight_groups text numbers (inr s) = ap (λ (xs : List ℕ). length xs) s.value ∙ eight_filled s.head s.tail s.room

read_is_colon_text : (text : List ℕ) (n : ℕ) → colon_text_in text ≡ Some n → IsColonText text n
read_is_colon_text text n e =
    let c = cond_none (list_any (λ b. eqb b 46) text) _ n e in
    map_some _ (whole_value (read_ipv6 text)) n c.1 (λ numbers w is.
    let (front, split, h) = read_ipv6_sound text numbers [] (whole_read (read_ipv6 text) numbers w) in
    let here : Std.IsColonHex text numbers = subst (λ (t : List ℕ). Std.IsColonHex t numbers) (sym (split ∙ append-nil front)) h in
    let eight = eight_groups text numbers here in
    colon_text_from_std text numbers n (HasNo-from_test 46 text c.0) eight (sym is ∙ sym (bits_of_groups numbers eight)) here)

colon_text_is_read : (text : List ℕ) (n : ℕ) → IsColonText text n → colon_text_in text ≡ Some n
colon_text_is_read text n h =
    let r : read_ipv6 text ≡ Some (h.numbers, []) = subst (λ (t : List ℕ). read_ipv6 t ≡ Some (h.numbers, [])) (append-nil text) (read_ipv6_complete text h.numbers [] (colon_to_std text n h) EndsGroups-nil) in
    let no_dot : list_any (λ b. eqb b 46) text ≡ false = elim (cases_Bool (list_any (λ b. eqb b 46) text)) [
      | inl some ↦ absurd (HasNo-fails_test 46 text (HasNo-colon_text 46 text n (lit≤ tt) (λ e. omega arith) h) some)
      | inr none ↦ none
    ] in
    let f : Bool → Read (List ℕ) → Option ℕ = λ b x. cond b None (option_map joined_groups (whole_value x)) in
    ap (λ (b : Bool). f b (read_ipv6 text)) no_dot ∙ ap (f false) r ∙ ap Some (sym h.address_is)

-- ---- both

pub read_is_address : (f : Family) (text : List ℕ) (n : ℕ) → address_in f text ≡ Some n → WritesAddress f text n
read_is_address Version4 text n e = read_is_dotted text n e
read_is_address Version6 text n e = read_is_colon_text text n e

pub address_is_read : (f : Family) (text : List ℕ) (n : ℕ) → WritesAddress f text n → address_in f text ≡ Some n
address_is_read Version4 text n h = dotted_is_read text n h
address_is_read Version6 text n h = colon_text_is_read text n h
