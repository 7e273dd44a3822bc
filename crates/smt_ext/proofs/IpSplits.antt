-- Where the prefix of a text begins, and that a text writes one range at most.
use Rattle.std.proofs.Common.{◌≡◌, ◌≢◌, ℕ, suc, ◌<◌, Option, Some, None, List, [], ◌∷◌, ◌++◌, length, get_or, refl, sym, ap, ap₂, ◌∙◌, subst, arith, ◌⊎◌, inl, inr, lit≤}
use Rattle.std.proofs.lemmas.Fmt.{decimal_injective}
use Rattle.smt_ext.specs.IpRanges.{Family, Version4, Version6, Range, address_bits, prefix_of}
use Rattle.smt_ext.specs.IpReader.{HasNo, WritesParts}
use Rattle.smt_ext.specs.IpText.{WritesAddress, WritesPrefix, WritesRange, behind_slash}
use Rattle.smt_ext.proofs.IpGrammar.{HasNo-dotted, HasNo-colon_text, one_dotted, one_colon_text, not_both}

pub HasNo-from_places : (byte : ℕ) (xs : List ℕ) → ((i : ℕ) → i < length xs → get_or xs i 0 ≢ byte) → HasNo byte xs
HasNo-from_places byte [] h = tt
HasNo-from_places byte (x ∷ xs) h = (h 0 (omega arith), HasNo-from_places byte xs (λ i less. h (suc i) (omega arith)))

pub HasNo-address : (f : Family) (text : List ℕ) (n : ℕ) → WritesAddress f text n → HasNo 47 text
HasNo-address Version4 text n h = HasNo-dotted text n h
HasNo-address Version6 text n h = HasNo-colon_text 47 text n (lit≤ tt) (λ e. omega arith) h

same_digits : (c d : Option (List ℕ)) → behind_slash c ≡ behind_slash d → c ≡ d
same_digits None None e = refl
same_digits None (Some d) e = absurd cc
same_digits (Some c) None e = absurd cc
same_digits (Some c) (Some d) e = ap Some (let inner : c ≡ d = cc in inner)

same_split : (a b : List ℕ) (c d : Option (List ℕ)) → HasNo 47 a → HasNo 47 b → a ++ behind_slash c ≡ b ++ behind_slash d → (a ≡ b) × (c ≡ d)
same_split [] [] c d h k e = (refl, same_digits c d e)
same_split [] (y ∷ b) None d h k e = absurd cc
same_split [] (y ∷ b) (Some c) d h k e = absurd (k.0 (let first : y ≡ 47 = cc in first))
same_split (x ∷ a) [] c None h k e = absurd cc
same_split (x ∷ a) [] c (Some d) h k e = absurd (h.0 (let first : x ≡ 47 = cc in first))
same_split (x ∷ a) (y ∷ b) c d h k e =
    let first : x ≡ y = cc in
    let more : a ++ behind_slash c ≡ b ++ behind_slash d = cc in
    let same = same_split a b c d h.1 k.1 more in
    (ap₂ ◌∷◌ first same.0, same.1)

-- a text that writes a range is split into the range's parts
pub split_writes : (text front : List ℕ) (digits : Option (List ℕ)) (r : Range) → text ≡ front ++ behind_slash digits → HasNo 47 front → WritesRange text r → WritesParts front digits r
split_writes text front digits r e no_slash h =
    let same = same_split h.address_text front h.digits digits (HasNo-address r.family h.address_text r.address h.address) no_slash (sym h.text_is ∙ e) in
    let A : List ℕ → Type 0 = λ t. WritesAddress r.family t r.address in
    let P : Option (List ℕ) → Type 0 = λ t. WritesPrefix (address_bits r.family) t r.prefix in
    (subst A same.0 h.address, subst P same.1 h.prefix)

pub range_of_parts : (text front : List ℕ) (digits : Option (List ℕ)) (r : Range) → text ≡ front ++ behind_slash digits → WritesParts front digits r → WritesRange text r
range_of_parts text front digits r e h = record { address_text = front; digits = digits; text_is = e; address = h.0; prefix = h.1 }

one_prefix : (most : ℕ) (digits : Option (List ℕ)) (p q : Option ℕ) → most < 256 → WritesPrefix most digits p → WritesPrefix most digits q → p ≡ q
one_prefix most None p q small h k = h ∙ sym k
one_prefix most (Some digits) p q small (m, le, e, is_p) (n, lf, f, is_q) =
    let same = decimal_injective m n (omega arith) (omega arith) (sym e ∙ f) in
    is_p ∙ ap (prefix_of most) same ∙ sym is_q

one_address : (f : Family) (text : List ℕ) (m n : ℕ) → WritesAddress f text m → WritesAddress f text n → m ≡ n
one_address Version4 text m n h k = one_dotted text m n h k
one_address Version6 text m n h k = one_colon_text text m n h k

pub family_cases : (f : Family) → (f ≡ Version4) ⊎ (f ≡ Version6)
family_cases Version4 = inl refl
family_cases Version6 = inr refl

small_bits : (f : Family) → address_bits f < 256
small_bits Version4 = omega arith
small_bits Version6 = omega arith

one_family : (f g : Family) (text : List ℕ) (m n : ℕ) → WritesAddress f text m → WritesAddress g text n → f ≡ g
one_family Version4 Version4 text m n h k = refl
one_family Version4 Version6 text m n h k = absurd (not_both text m n h k)
one_family Version6 Version4 text m n h k = absurd (not_both text n m k h)
one_family Version6 Version6 text m n h k = refl

same_parts_at : (f g : Family) (a b : ℕ) (p q : Option ℕ) (text : List ℕ) (digits : Option (List ℕ)) → f ≡ g → WritesAddress f text a → WritesAddress g text b → WritesPrefix (address_bits f) digits p → WritesPrefix (address_bits g) digits q → (a ≡ b) × (p ≡ q)
same_parts_at f g a b p q text digits same h k hp kp =
    let A : Family → Type 0 = λ x. WritesAddress x text b in
    let P : Family → Type 0 = λ x. WritesPrefix (address_bits x) digits q in
    (one_address f text a b h (subst A (sym same) k), one_prefix (address_bits f) digits p q (small_bits f) hp (subst P (sym same) kp))

pub one_range : (text : List ℕ) (r t : Range) → WritesRange text r → WritesRange text t → r ≡ t
one_range text r t h k =
    let parts = split_writes text h.address_text h.digits t h.text_is (HasNo-address r.family h.address_text r.address h.address) k in
    let family = one_family r.family t.family h.address_text r.address t.address h.address parts.0 in
    let same = same_parts_at r.family t.family r.address t.address r.prefix t.prefix h.address_text h.digits family h.address parts.0 h.prefix parts.1 in
    λ i. record { family = family i; address = same.0 i; prefix = same.1 i }
