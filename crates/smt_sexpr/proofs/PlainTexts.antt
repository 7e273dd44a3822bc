-- Strings whose characters are ASCII and stand as themselves.
use Rattle.std.proofs.Common.{◌≡◌, ℕ, ◌<◌, true, false, not, ◌&&◌, eqb, List, [], ◌∷◌, None, refl, sym, ap, ◌∙◌, arith}
use Rattle.std.specs.Prelude.{nat_lt}
use Rattle.std.specs.List.{list_all}
use Rattle.std.specs.Str.{IsAscii}
use Rattle.std.proofs.Math.Utf8.{scalars}
use Rattle.std.proofs.lemmas.Bool.{and_parts, and_from, not-true}
use Rattle.std.proofs.lemmas.Bool.Decides.{nat_tests}
use Rattle.std.proofs.lemmas.Str.{IsUtf8-from_ascii, chars_from_encodes, encodes-IsAscii, scalars-chars}
use Rattle.std.proofs.lemmas.Str.Ascii.{IsAscii-nil, IsAscii-cons}
use Rattle.law_texts.specs.Escapes.{decoded, escape}
use Rattle.law_texts.specs.Front.{begins_without, IsRun}
use Rattle.law_texts.specs.Lexicon.{Text, Word}
use Rattle.law_texts.specs.Reads.{IsQuoted}
use Rattle.law_texts.proofs.Strings.{is_no_quote, quoted_ends}
use Rattle.smt_sexpr.specs.Pieces.{StandsFor, stands_as_itself}
use Rattle.smt_sexpr.proofs.Atoms.{string_stands}
use Rattle.smt_sexpr.proofs.Decoding.{byte_first}

record IsPlain (b : ℕ) : Type 0 where
  ascii : b < 128
  no_quote : is_no_quote b ≡ true
  no_escape : eqb b 92 ≡ false

plain_byte : (b : ℕ) → stands_as_itself b ≡ true → IsPlain b
plain_byte b h =
    let p = and_parts (nat_lt b 128) (not (eqb b 34) && not (eqb b 92)) h in
    let q = and_parts (not (eqb b 34)) (not (eqb b 92)) p.1 in
    record { ascii = small p.0; no_quote = q.0; no_escape = not-true (eqb b 92) q.1 }
  where
    small : nat_lt b 128 ≡ true → b < 128
    small e = grind (arith, nat_tests)

pub plain_ascii : (text : List ℕ) → list_all stands_as_itself text ≡ true → IsAscii text
plain_ascii [] h = IsAscii-nil
plain_ascii (b ∷ bs) h =
    let p = and_parts (stands_as_itself b) (list_all stands_as_itself bs) h in
    IsAscii-cons b bs (plain_byte b p.0).ascii (plain_ascii bs p.1)

pub no_quotes : (text : List ℕ) → list_all stands_as_itself text ≡ true → list_all is_no_quote text ≡ true
no_quotes [] h = refl
no_quotes (b ∷ bs) h =
    let p = and_parts (stands_as_itself b) (list_all stands_as_itself bs) h in
    and_from (is_no_quote b) (list_all is_no_quote bs) (plain_byte b p.0).no_quote (no_quotes bs p.1)

begins_none : (b : ℕ) (bs : List ℕ) → eqb b 92 ≡ false → escape (b ∷ bs) ≡ None
begins_none b bs h = rw h refl

-- its characters are its bytes
plain_decoded : (text : List ℕ) → list_all stands_as_itself text ≡ true → decoded 0 text ≡ text
plain_decoded [] h = refl
plain_decoded (b ∷ bs) h =
    let p = and_parts (stands_as_itself b) (list_all stands_as_itself bs) h in
    byte_first (b ∷ bs) bs b refl (begins_none b bs (plain_byte b p.0).no_escape) ∙ ap (λ (v : List ℕ). b ∷ v) (plain_decoded bs p.1)

pub ascii_scalars : (text : List ℕ) → IsAscii text → scalars text ≡ true
ascii_scalars text h =
    let u = IsUtf8-from_ascii text h in
    ap scalars (chars_from_encodes text text u (encodes-IsAscii text h)) ∙ scalars-chars text u

-- up to a quote behind which no other follows
pub plain_stands : (src run quote text rest : List ℕ) → IsRun stands_as_itself src run quote → quote ≡ 34 ∷ rest → ((more : List ℕ) → rest ≡ 34 ∷ more → ⊥) → text ≡ run → StandsFor (Word (Text text) ∷ []) (34 ∷ src) rest
plain_stands src run quote text rest r q n e =
    let unquoted : IsRun is_no_quote src run quote = record { whole = r.whole; each = no_quotes run r.each; longest = ap (begins_without is_no_quote) q } in
    let read : IsQuoted src run rest = quoted_ends src [] run src run quote rest refl unquoted q n refl in
    let points = plain_decoded run r.each in
    string_stands src run rest text read (e ∙ sym points) (sym (ap scalars points ∙ ascii_scalars run (plain_ascii run r.each)))
