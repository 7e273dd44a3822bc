-- The grammar of addresses and the one by which std reads, and that a text writes one address at most.
use Rattle.std.proofs.Common.{◌≡◌, ◌≢◌, ℕ, ◌+◌, ◌*◌, ◌<◌, ◌≤◌, Bool, true, false, List, [], ◌∷◌, ◌++◌, length, decimal, ◌⊎◌, refl, sym, ap, ◌∙◌, subst, arith, inl, inr, lit≤, eqb-true, true≢false}
use Rattle.std.specs.Prelude.{codes, nat_eq}
use Rattle.std.specs.List.{list_any}
use Rattle.std.specs.Char.{digit_value}
use Rattle.std.specs.Int.{w32, w128, from_be_bytes}
use Rattle.std.specs.Str.Parse.{AllDigits}
use Rattle.std.specs.Net.Addr.{octets_of}
use Rattle.std.specs.Net.Grammar as Std
use Rattle.std.specs.Net.Text as StdText
use Rattle.std.proofs.lemmas.Bool.{eqb-false}
use Rattle.std.proofs.lemmas.Fmt.{decimal_is_IsNumeral}
use Rattle.std.proofs.NetLemmas.Arrays.{eight_items}
use Rattle.std.proofs.NetLemmas.Options.{same_parts}
use Rattle.std.proofs.NetLemmas.Ipv4.{read_ipv4_complete}
use Rattle.std.proofs.NetLemmas.Ipv6.{read_ipv6_complete, EndsGroups-nil, IsDotted-not_colon_hex}
use Rattle.smt_ext.specs.IpReader.{HasNo}
use Rattle.smt_ext.proofs.IpCounts.{or_false, or_true}
use Rattle.smt_ext.specs.IpText.{IsDotted, AreGroupsBehind, AreGroups, IsShortened, IsColonText, joined_groups}

-- ---- bytes that a text has not

pub HasNo-append : (byte : ℕ) (xs ys : List ℕ) → HasNo byte xs → HasNo byte ys → HasNo byte (xs ++ ys)
HasNo-append byte [] ys h k = k
HasNo-append byte (x ∷ xs) ys h k = (h.0, HasNo-append byte xs ys h.1 k)

HasNo-front : (byte : ℕ) (xs ys : List ℕ) → HasNo byte (xs ++ ys) → HasNo byte xs
HasNo-front byte [] ys h = tt
HasNo-front byte (x ∷ xs) ys h = (h.0, HasNo-front byte xs ys h.1)

HasNo-back : (byte : ℕ) (xs ys : List ℕ) → HasNo byte (xs ++ ys) → HasNo byte ys
HasNo-back byte [] ys h = h
HasNo-back byte (x ∷ xs) ys h = HasNo-back byte xs ys h.1

HasNo-digits : (radix byte : ℕ) (ds : List ℕ) → radix ≤ digit_value byte → AllDigits radix ds → HasNo byte ds
HasNo-digits radix byte [] high all = tt
HasNo-digits radix byte (d ∷ ds) high all = (
  λ same.
      let e : digit_value d ≡ digit_value byte = ap (λ x. digit_value x) same in
      let first : digit_value d < radix = all.0 in
      omega arith,
  HasNo-digits radix byte ds high all.1,
)

HasNo-decimal : (byte n : ℕ) → 10 ≤ digit_value byte → n < 256 → HasNo byte (decimal n)
HasNo-decimal byte n high small = HasNo-digits 10 byte (decimal n) high (decimal_is_IsNumeral n (omega arith)).0.1

one : (byte x : ℕ) → x ≢ byte → HasNo byte (x ∷ [])
one byte x h = (h, tt)

pub HasNo-dotted : (text : List ℕ) (n : ℕ) → IsDotted text n → HasNo 47 text
HasNo-dotted text n h =
    let dot = one 47 46 (λ e. omega arith) in
    let number = λ (m : ℕ) (small : m < 256). HasNo-decimal 47 m (lit≤ tt) small in
    let first = HasNo-append 47 _ _ (HasNo-append 47 _ _ (number h.a h.small.0) dot) (number h.b h.small.1) in
    let second = HasNo-append 47 _ _ (HasNo-append 47 _ _ first dot) (number h.c h.small.2) in
    let third = HasNo-append 47 _ _ (HasNo-append 47 _ _ second dot) (number h.d h.small.3) in
    subst (HasNo 47) (sym h.text_is) third

HasNo-groups : (byte : ℕ) (lead text numbers : List ℕ) → 16 ≤ digit_value byte → 58 ≢ byte → HasNo byte lead → AreGroupsBehind lead text numbers → HasNo byte text
HasNo-groups byte lead text [] high other front h = subst (HasNo byte) (sym h) tt
HasNo-groups byte lead text (n ∷ ns) high other front (group, rest, e, g, more) =
    let digits = HasNo-digits 16 byte group high g.0.0.1 in
    let behind = HasNo-groups byte (58 ∷ []) rest ns high other (one byte 58 other) more in
    subst (HasNo byte) (sym e) (HasNo-append byte _ _ (HasNo-append byte lead group front digits) behind)

pub HasNo-colon_text : (byte : ℕ) (text : List ℕ) (n : ℕ) → 16 ≤ digit_value byte → 58 ≢ byte → IsColonText text n → HasNo byte text
HasNo-colon_text byte text n high other h =
    elim h.groups [
      | inl groups ↦ HasNo-groups byte [] text h.numbers high other tt groups
      | inr s ↦
          let front = HasNo-groups byte [] s.front_text s.front high other tt s.front_groups in
          let back = HasNo-groups byte [] s.back_text s.back high other tt s.back_groups in
          subst (HasNo byte) (sym s.text_is) (HasNo-append byte _ _ (HasNo-append byte _ _ front (other, (other, tt))) back)
    ]

-- ---- IPv4

pub dotted_to_std : (text : List ℕ) (n : ℕ) (h : IsDotted text n) → Std.IsDotted text (h.a ∷ h.b ∷ h.c ∷ h.d ∷ [])
dotted_to_std text n h = record { a = h.a; b = h.b; c = h.c; d = h.d; fit = h.small; value = refl; spelled = h.text_is }

pub bits_of_octets : (a b c d : ℕ) → from_be_bytes w32 (a ∷ b ∷ c ∷ d ∷ []) ≡ ((a * 256 + b) * 256 + c) * 256 + d
bits_of_octets a b c d = omega arith

pub dotted_from_std : (text octets : List ℕ) (n : ℕ) → n ≡ from_be_bytes w32 octets → Std.IsDotted text octets → IsDotted text n
dotted_from_std text octets n e h = record {
  a = h.a;
  b = h.b;
  c = h.c;
  d = h.d;
  small = h.fit;
  text_is = h.spelled;
  address_is = e ∙ ap (from_be_bytes w32) h.value ∙ bits_of_octets h.a h.b h.c h.d;
}

same_octets : (a b c d p q r s : ℕ) → a ∷ b ∷ c ∷ d ∷ [] ≡ p ∷ q ∷ r ∷ s ∷ [] → ((a * 256 + b) * 256 + c) * 256 + d ≡ ((p * 256 + q) * 256 + r) * 256 + s
same_octets a b c d p q r s e =
    let ea : a ≡ p = cc in
    let eb : b ≡ q = cc in
    let ec : c ≡ r = cc in
    let ed : d ≡ s = cc in
    omega arith

pub one_dotted : (text : List ℕ) (m n : ℕ) → IsDotted text m → IsDotted text n → m ≡ n
one_dotted text m n h k =
    let same = same_parts _ _ _ _ (sym (read_ipv4_complete text _ [] (dotted_to_std text m h) (lit≤ tt)) ∙ read_ipv4_complete text _ [] (dotted_to_std text n k) (lit≤ tt)) in
    h.address_is ∙ same_octets h.a h.b h.c h.d k.a k.b k.c k.d same.0 ∙ sym k.address_is

-- ---- IPv6

groups_to_std : (ipv4 : Bool) (lead text numbers : List ℕ) → AreGroupsBehind lead text numbers → Std.IsGroupsAfter ipv4 lead text numbers
groups_to_std ipv4 lead text [] h = h
groups_to_std ipv4 lead text (n ∷ ns) (group, rest, e, g, more) = inl (group, rest, e, g, groups_to_std ipv4 (58 ∷ []) rest ns more)

dotted_has_dot : (a b c d : ℕ) → HasNo 46 (StdText.dotted_text a b c d) → ⊥
dotted_has_dot a b c d h =
    let third = HasNo-front 46 _ _ (HasNo-front 46 _ _ (HasNo-front 46 _ _ (HasNo-front 46 _ _ (HasNo-front 46 (decimal a ++ codes "." ++ decimal b ++ codes "." ++ decimal c ++ codes ".") (decimal d) h)))) in
    (HasNo-back 46 (decimal a) (46 ∷ []) third).0 refl

groups_from_std : (ipv4 : Bool) (lead text numbers : List ℕ) → HasNo 46 text → Std.IsGroupsAfter ipv4 lead text numbers → AreGroupsBehind lead text numbers
groups_from_std ipv4 lead text [] no_dot h = h
groups_from_std ipv4 lead text (n ∷ ns) no_dot (inl (group, rest, e, g, more)) =
    let behind = HasNo-back 46 (lead ++ group) rest (subst (HasNo 46) e no_dot) in
    (group, rest, e, g, groups_from_std ipv4 (58 ∷ []) rest ns behind more)
groups_from_std ipv4 lead text (n ∷ ns) no_dot (inr (last, octets, allowed, e, dotted, value)) =
    let behind = HasNo-back 46 lead last (subst (HasNo 46) e no_dot) in
    absurd (dotted_has_dot dotted.a dotted.b dotted.c dotted.d (subst (HasNo 46) dotted.spelled behind))

pub colon_to_std : (text : List ℕ) (n : ℕ) (h : IsColonText text n) → Std.IsColonHex text h.numbers
colon_to_std text n h =
    elim h.groups [
      | inl groups ↦ inl (groups_to_std true [] text h.numbers groups, h.eight)
      | inr s ↦ inr (record {
        head_text = s.front_text;
        tail_text = s.back_text;
        head = s.front;
        tail = s.back;
        spelled = s.text_is;
        head_groups = groups_to_std false [] s.front_text s.front s.front_groups;
        tail_groups = groups_to_std true [] s.back_text s.back s.back_groups;
        room = omega (arith, s.at_most_seven);
        value = s.numbers_are;
      })
    ]

colon_from_std : (text numbers : List ℕ) → HasNo 46 text → Std.IsColonHex text numbers → AreGroups text numbers ⊎ IsShortened text numbers
colon_from_std text numbers no_dot (inl (groups, eight)) = inl (groups_from_std true [] text numbers no_dot groups)
colon_from_std text numbers no_dot (inr s) =
    let parts = subst (HasNo 46) s.spelled no_dot in
    let front = HasNo-front 46 _ _ (HasNo-front 46 (s.head_text ++ codes "::") s.tail_text parts) in
    let back = HasNo-back 46 (s.head_text ++ codes "::") s.tail_text parts in
    inr (record {
      front_text = s.head_text;
      back_text = s.tail_text;
      front = s.head;
      back = s.tail;
      text_is = s.spelled;
      front_groups = groups_from_std false [] s.head_text s.head front s.head_groups;
      back_groups = groups_from_std true [] s.tail_text s.tail back s.tail_groups;
      at_most_seven = omega (arith, s.room);
      numbers_are = s.value;
    })

pub bits_of_eight : (a b c d e f g h : ℕ) → from_be_bytes w128 (octets_of (a ∷ b ∷ c ∷ d ∷ e ∷ f ∷ g ∷ h ∷ [])) ≡ joined_groups (a ∷ b ∷ c ∷ d ∷ e ∷ f ∷ g ∷ h ∷ [])
bits_of_eight a b c d e f g h = omega arith

bits_of_groups : (numbers : List ℕ) → length numbers ≡ 8 → from_be_bytes w128 (octets_of numbers) ≡ joined_groups numbers
bits_of_groups numbers eight =
    let P : List ℕ → Type 0 = λ xs. from_be_bytes w128 (octets_of xs) ≡ joined_groups xs in
    subst P (sym (eight_items numbers eight)) (bits_of_eight _ _ _ _ _ _ _ _)

pub colon_text_from_std : (text numbers : List ℕ) (n : ℕ) → HasNo 46 text → length numbers ≡ 8 → n ≡ from_be_bytes w128 (octets_of numbers) → Std.IsColonHex text numbers → IsColonText text n
colon_text_from_std text numbers n no_dot eight e h = record {
  numbers = numbers;
  eight = eight;
  groups = colon_from_std text numbers no_dot h;
  address_is = e ∙ bits_of_groups numbers eight;
}

pub one_colon_text : (text : List ℕ) (m n : ℕ) → IsColonText text m → IsColonText text n → m ≡ n
one_colon_text text m n h k =
    let same = same_parts _ _ _ _ (sym (read_ipv6_complete text _ [] (colon_to_std text m h) EndsGroups-nil) ∙ read_ipv6_complete text _ [] (colon_to_std text n k) EndsGroups-nil) in
    h.address_is ∙ ap (λ xs. joined_groups xs) same.0 ∙ sym k.address_is

pub not_both : (text : List ℕ) (m n : ℕ) → IsDotted text m → IsColonText text n → ⊥
not_both text m n h k = IsDotted-not_colon_hex text _ _ (dotted_to_std text m h) (colon_to_std text n k)

-- ---- the test for a byte

pub HasNo-from_test : (byte : ℕ) (xs : List ℕ) → list_any (λ y. nat_eq y byte) xs ≡ false → HasNo byte xs
HasNo-from_test byte [] e = tt
HasNo-from_test byte (x ∷ xs) e =
    let p = or_false (nat_eq x byte) _ e in
    (eqb-false x byte p.0, HasNo-from_test byte xs p.1)

pub HasNo-fails_test : (byte : ℕ) (xs : List ℕ) → HasNo byte xs → list_any (λ y. nat_eq y byte) xs ≡ true → ⊥
HasNo-fails_test byte [] h e = true≢false (sym e)
HasNo-fails_test byte (x ∷ xs) h e =
    or_true (nat_eq x byte) _ e (λ first. h.0 (eqb-true x byte first)) (λ later. HasNo-fails_test byte xs h.1 later)
