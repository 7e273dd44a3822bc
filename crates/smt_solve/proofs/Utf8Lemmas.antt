-- Texts in UTF-8 between others.
use Rattle.std.proofs.Common.{◌≡◌, ℕ, ◌<◌, ◌≤◌, List, [], ◌∷◌, ◌++◌, length, get_or, IsTrue, suc, zero, sym, subst, refl, arith, length-append}
use Rattle.std.specs.Prelude.{codes}
use Rattle.std.specs.List.{AllByRecursion}
use Rattle.std.specs.Str.{IsUtf8, IsCharBoundary}
use Rattle.std.proofs.Math.Seq.{take-append_seam, drop-append_seam}
use Rattle.std.proofs.lemmas.Str.{IsUtf8-drop, IsUtf8-take, IsUtf8-from_ascii, IsCharBoundary-from_take, IsCharBoundary-at_seam}
use Rattle.smt_solve.specs.Answers.{is_blank, AllBlank, StripsTo, error_line}

rest_utf8 : (front rest : List ℕ) → IsUtf8 front → IsUtf8 (front ++ rest) → IsUtf8 rest
rest_utf8 front rest u v =
    let l : length front ≤ length (front ++ rest) = omega (arith, length-append front rest) in
    let b : IsCharBoundary (front ++ rest) (length front) = IsCharBoundary-from_take (front ++ rest) (length front) v l (subst IsUtf8 (sym (take-append_seam front rest)) u) in
    subst IsUtf8 (drop-append_seam front rest) (IsUtf8-drop (front ++ rest) (length front) v b)

first_utf8 : (text back : List ℕ) → IsUtf8 back → IsUtf8 (text ++ back) → IsUtf8 text
first_utf8 text back u v =
    subst IsUtf8 (take-append_seam text back) (IsUtf8-take (text ++ back) (length text) v (IsCharBoundary-at_seam (text ++ back) text back refl u))

inner_utf8 : (front text back : List ℕ) → IsUtf8 front → IsUtf8 back → IsUtf8 (front ++ (text ++ back)) → IsUtf8 text
inner_utf8 front text back u v w = first_utf8 text back v (rest_utf8 front (text ++ back) u w)

small : (b : ℕ) → IsTrue (is_blank b) → b < 128
small b h = grind arith

blank_ascii : (bs : List ℕ) → AllBlank bs → (i : ℕ) → get_or bs i 0 < 128
blank_ascii [] h zero = omega arith
blank_ascii [] h (suc i) = omega arith
blank_ascii (b ∷ bs) h zero = small b (h zero 0 (omega arith))
blank_ascii (b ∷ bs) h (suc i) = blank_ascii bs (λ k d l. h (suc k) d (omega (arith, l))) i

blank_utf8 : (bs : List ℕ) → AllBlank bs → IsUtf8 bs
blank_utf8 bs h = IsUtf8-from_ascii bs (blank_ascii bs h)

-- What a line says is a text where the line is one.
pub stripped_utf8 : (line text : List ℕ) → StripsTo line text → IsUtf8 line → IsUtf8 text
stripped_utf8 line text s u =
    inner_utf8 s.front text s.back (blank_utf8 s.front s.blank_front) (blank_utf8 s.back s.blank_back) (subst IsUtf8 s.whole u)

few_ascii : (bs : List ℕ) → AllByRecursion (λ b. b < 128) bs → (i : ℕ) → get_or bs i 0 < 128
few_ascii [] h zero = omega arith
few_ascii [] h (suc i) = omega arith
few_ascii (b ∷ bs) h zero = h.0
few_ascii (b ∷ bs) h (suc i) = few_ascii bs h.1 i

few_utf8 : (bs : List ℕ) → AllByRecursion (λ b. b < 128) bs → IsUtf8 bs
few_utf8 bs h = IsUtf8-from_ascii bs (few_ascii bs h)

front_utf8 : IsUtf8 (codes "(error \"")
front_utf8 = few_utf8 (codes "(error \"") (omega arith, (omega arith, (omega arith, (omega arith, (omega arith, (omega arith, (omega arith, (omega arith, tt))))))))

back_utf8 : IsUtf8 (codes "\")")
back_utf8 = few_utf8 (codes "\")") (omega arith, (omega arith, tt))

-- So is the message of an error line.
pub message_utf8 : (text message : List ℕ) → text ≡ error_line message → IsUtf8 text → IsUtf8 message
message_utf8 text message e u =
    inner_utf8 (codes "(error \"") message (codes "\")") front_utf8 back_utf8 (subst IsUtf8 e u)
