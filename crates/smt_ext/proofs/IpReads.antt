-- What std's readers answer, in the words of the grammar.
use Rattle.std.proofs.Common.{◌≡◌, ℕ, ◌<◌, List, [], ◌∷◌, length, Option, Some, None, Result, Ok, Err, decimal, sym, ap, ◌∙◌}
use Rattle.std.specs.Result.{result_ok}
use Rattle.std.specs.Str.Parse.{ParsesUnsigned}
use Rattle.std.specs.Net.Addr.{ipv4_octets, ipv6_segments, ipv4_bits, ipv6_bits}
use Rattle.std.specs.Net.Grammar.{Parses, IsIpv4Text, IsIpv6Text}
use Rattle.std.specs.declared.net.ipv4_addr.Ipv4Addr.{Ipv4Addr}
use Rattle.std.specs.declared.net.ipv6_addr.Ipv6Addr.{Ipv6Addr}
use Rattle.smt_ext.specs.IpReader.{HasNo}
use Rattle.smt_ext.specs.IpText.{IsDotted, IsColonText}
use Rattle.smt_ext.proofs.IpGrammar.{dotted_to_std, dotted_from_std, colon_to_std, colon_text_from_std}
use Rattle.smt_ext.proofs.IpCounts.{parses_decimal}

some_not_none : {X A : Type 0} (o : Option X) (x : X) → o ≡ Some x → o ≡ None → A
some_not_none o x e f = absurd (let g : Some x ≡ None = sym e ∙ f in cc)

pub v4_none : {E : Type 0} (text : List ℕ) (r : Result Ipv4Addr E) (o : Option Ipv4Addr) → Parses IsIpv4Text text r → o ≡ result_ok r → o ≡ None → (n : ℕ) → IsDotted text n → ⊥
v4_none text (Ok a) o parsed e none n h = some_not_none o a e none
v4_none text (Err x) o parsed e none n h = parsed (record { octets = h.a ∷ h.b ∷ h.c ∷ h.d ∷ [] }) (dotted_to_std text n h)

pub v6_none : {E : Type 0} (text : List ℕ) (r : Result Ipv6Addr E) (o : Option Ipv6Addr) → Parses IsIpv6Text text r → o ≡ result_ok r → o ≡ None → (n : ℕ) → IsColonText text n → ⊥
v6_none text (Ok a) o parsed e none n h = some_not_none o a e none
v6_none text (Err x) o parsed e none n h = parsed (record { segments = h.numbers }) (colon_to_std text n h)

read_value : {A E : Type 0} (Spells : List ℕ → A → Type 0) (text : List ℕ) (r : Result A E) (o : Option A) (a : A) → Parses Spells text r → o ≡ result_ok r → o ≡ Some a → Spells text a
read_value Spells text (Ok b) o a parsed e some =
    let f : Some b ≡ Some a = sym e ∙ some in
    let same : b ≡ a = cc in
    rw (← same) parsed
read_value Spells text (Err x) o a parsed e some = some_not_none o a some e

pub v4_found : {E : Type 0} (text : List ℕ) (r : Result Ipv4Addr E) (o : Option Ipv4Addr) (a : Ipv4Addr) (n : ℕ) → Parses IsIpv4Text text r → o ≡ result_ok r → o ≡ Some a → n ≡ ipv4_bits a → IsDotted text n
unfolding ipv4_bits
v4_found text r o a n parsed e some bits = dotted_from_std text (ipv4_octets a) n bits (read_value IsIpv4Text text r o a parsed e some)

pub v6_found : {E : Type 0} (text : List ℕ) (r : Result Ipv6Addr E) (o : Option Ipv6Addr) (a : Ipv6Addr) (n : ℕ) → HasNo 46 text → length (ipv6_segments a) ≡ 8 → Parses IsIpv6Text text r → o ≡ result_ok r → o ≡ Some a → n ≡ ipv6_bits a → IsColonText text n
unfolding ipv6_bits
v6_found text r o a n no_dot eight parsed e some bits = colon_text_from_std text (ipv6_segments a) n no_dot eight bits (read_value IsIpv6Text text r o a parsed e some)

-- where `parse` takes the digits of a number, the number is what it gives
pub no_count : {E : Type 0} (bs : List ℕ) (r : Result ℕ E) (o : Option ℕ) → ParsesUnsigned 8 10 bs r → o ≡ result_ok r → o ≡ None → (n : ℕ) → n < 256 → bs ≡ decimal n → ⊥
no_count bs r o parsed e none n small is =
    let ok = parses_decimal bs r n small is parsed in
    some_not_none o n (e ∙ ap (λ x. result_ok x) ok) none

pub one_count : {E : Type 0} (bs : List ℕ) (r : Result ℕ E) (o : Option ℕ) (m : ℕ) → ParsesUnsigned 8 10 bs r → o ≡ result_ok r → o ≡ Some m → (n : ℕ) → n < 256 → bs ≡ decimal n → m ≡ n
one_count bs r o m parsed e some n small is =
    let ok = parses_decimal bs r n small is parsed in
    let f : Some m ≡ Some n = sym some ∙ e ∙ ap (λ x. result_ok x) ok in
    cc

pub is_ok : {E : Type 0} (r : Result ℕ E) (o : Option ℕ) (m : ℕ) → o ≡ result_ok r → o ≡ Some m → r ≡ Ok m
is_ok (Ok b) o m e some =
    let f : Some b ≡ Some m = sym e ∙ some in
    let same : b ≡ m = cc in
    ap Ok same
is_ok (Err x) o m e some = some_not_none o m some e
